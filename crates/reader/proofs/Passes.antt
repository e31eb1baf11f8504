-- Records that meet no test one after another: where they lead, the counts on the way, and runs put together and split.
-- Assumes nothing.
use Rattle.std.proofs.Common.{◌≡◌, refl, List, [], ◌∷◌, ◌++◌, arith}
use Rattle.records.specs.declared.Record.{Record}
use Rattle.progress.specs.declared.Progress.{Progress}
use Rattle.records.specs.Kinds.{size_of}
use Rattle.progress.specs.Progress.{start, take_record}
use Rattle.tests.specs.FirstHit.{first_hit}
use Rattle.tests.proofs.Passing.{passed_out}
use Rattle.tests.proofs.Limits.{Counts, counts_keep}
use Rattle.reader.proofs.Records.{Runs}
use Rattle.std.specs.Prelude.{Ok}

-- what is read once the records are taken
unfoldable pub after : Progress → List Record → Progress
after g [] = g
after g (r ∷ rs) = after (take_record g r) rs

-- the records meet no test, one after another
unfoldable pub Passes : Progress → List Record → Type 0
Passes g [] = Unit {0}
Passes g (r ∷ rs) = (first_hit g r (size_of r.kind) ≡ Ok tt) × Passes (take_record g r) rs

pub runs_out : (rs : List Record) (g h : Progress) → Runs g rs h → Passes g rs × (after g rs ≡ h)
unfolding Runs Passes after
runs_out [] g h w = (tt, w)
runs_out (r ∷ rs) g h w = let i = runs_out rs (take_record g r) h w.1 in ((w.0, i.0), i.1)

pub runs_in : (rs : List Record) (g : Progress) → Passes g rs → Runs g rs (after g rs)
unfolding Runs Passes after
runs_in [] g w = refl
runs_in (r ∷ rs) g w = (w.0, runs_in rs (take_record g r) w.1)

pub after_append : (rs qs : List Record) (g : Progress) → after g (rs ++ qs) ≡ after (after g rs) qs
unfolding after
after_append [] qs g = refl
after_append (r ∷ rs) qs g = after_append rs qs (take_record g r)

pub passes_split : (rs qs : List Record) (g : Progress) → Passes g (rs ++ qs) → Passes g rs × Passes (after g rs) qs
unfolding Passes after
passes_split [] qs g w = (tt, w)
passes_split (r ∷ rs) qs g w = let i = passes_split rs qs (take_record g r) w.1 in ((w.0, i.0), i.1)

pub passes_join : (rs qs : List Record) (g : Progress) → Passes g rs → Passes (after g rs) qs → Passes g (rs ++ qs)
unfolding Passes after
passes_join [] qs g w v = v
passes_join (r ∷ rs) qs g w v = (w.0, passes_join rs qs (take_record g r) w.1 v)

pub counts_after : (rs : List Record) (g : Progress) → Passes g rs → Counts g → Counts (after g rs)
unfolding Passes after
counts_after [] g w c = c
counts_after (r ∷ rs) g w c =
    counts_after rs (take_record g r) w.1
    (counts_keep g r (size_of r.kind) c (passed_out g r (size_of r.kind) w.0))

pub counts_start : Counts start
unfolding start
counts_start =
    record {
      machines_most = omega arith;
      steps_most = omega arith;
      nodes_most = omega arith;
      leaves_most =
          omega arith;
    }
