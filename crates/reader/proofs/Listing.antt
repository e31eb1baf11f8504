-- The records of a readable file are those of its model and an end: one header, machines each followed by its steps,
-- nodes. Assumes nothing.
use Rattle.std.proofs.lemmas.Bool.Decides.{nat_tests}
use Rattle.std.proofs.Common.{◌≡◌, refl, sym, ap, ◌∙◌, List, [], ◌∷◌, ◌++◌}
use Rattle.std.proofs.Common.{append_assoc, ◌≢◌, ℕ, ◌+◌, arith}
use mathlib.Core.List.{map, flat_map}
use Rattle.network.specs.Machine.{Machine, Step}
use Rattle.network.specs.Model.{Node, leaf_node, join_node, hide_node, rename_node}
use Rattle.records.specs.declared.Record.{Record}
use Rattle.progress.specs.declared.Progress.{Progress}
use Rattle.records.specs.Kinds.{body_length, size_of}
use Rattle.records.specs.Records.{machine_record, step_record, leaf_record, join_record, hide_record}
use Rattle.records.specs.Records.{rename_record, end_record}
use Rattle.progress.specs.Progress.{take_record}
use Rattle.tests.proofs.Passing.{passed_out}
use Rattle.tests.proofs.MayStand.{Met, header_met, machine_met, step_met, leaf_met, join_met, hide_met, rename_met}
use Rattle.tests.proofs.MayStand.{end_met}
use Rattle.tests.proofs.Meeting.{met_out}
use Rattle.decoding.proofs.Shapes.{Plain, machine_is, step_is, leaf_is, join_is, hide_is, rename_is, end_is}
use Rattle.decoding.specs.Labels.{label_of}
use Rattle.reader.specs.File.{step_of, steps_of, machines_of, node_of, nodes_of}
use Rattle.reader.specs.Encoding.{code_of, record_of_step, records_of_machine, record_of_node}
use Rattle.reader.proofs.Records.{Runs, EndsOnce}
use Rattle.reader.proofs.Plain.{AllPlain}

-- a label's byte, read and written again
pub code_back : (x : ℕ) → code_of (label_of x) ≡ x
unfolding label_of code_of
code_back x = grind (arith, nat_tests)

-- what stands behind a header: the rest of the latest machine's steps, machines with their steps, nodes, an end
-- behind x bytes
abbrev pub listing : List Step → List Machine → List Node → ℕ → List Record
listing xs ms ns x = map record_of_step xs ++ (flat_map records_of_machine ms ++ (map record_of_node ns ++ (end_record x ∷ [])))

pub record Listed (g : Progress) (rs : List Record) (h : Progress) : Type 0 where
  pub count : ℕ
  pub listed : rs ≡ listing (steps_of rs) (machines_of rs) (nodes_of rs) count
  pub counted : count + 3 ≡ h.place
  pub no_step_first : g.machines ≡ 0 → steps_of rs ≡ []
  pub nodes_only : g.nodes ≢ 0 → (steps_of rs ≡ []) × (machines_of rs ≡ [])

module _ (g h : Progress) (rs : List Record) where
  add_machine : (c : ℕ) → g.nodes ≡ 0 → Listed (take_record g (machine_record c)) rs h
      → Listed g (machine_record c ∷ rs) h
  unfolding steps_of machines_of nodes_of records_of_machine flat_map
  add_machine c none i =
      record {
        count = i.count;
        listed =
            ap (λ (x : List Record). machine_record c ∷ x)
            (i.listed
            ∙ sym (append_assoc (map record_of_step (steps_of rs)) (flat_map records_of_machine (machines_of rs)) _));
        counted = i.counted;
        no_step_first = λ q. refl;
        nodes_only = λ q. absurd (q none);
      }

  add_step : (s l t : ℕ) → g.machines ≢ 0 → g.nodes ≡ 0 → Listed (take_record g (step_record s l t)) rs h
      → Listed g (step_record s l t ∷ rs) h
  unfolding steps_of step_of machines_of nodes_of record_of_step
  add_step s l t some none i =
      record {
        count = i.count;
        listed =
            ap (λ (x : List Record). step_record s l t ∷ x) i.listed
            ∙ ap (λ (k : ℕ). step_record s k t ∷ listing (steps_of rs) (machines_of rs) (nodes_of rs) i.count)
            (sym (code_back l));
        counted = i.counted;
        no_step_first = λ q. absurd (some q);
        nodes_only = λ q. absurd (q none);
      }

  -- a record that says the node n; behind a node stand nodes only
  add_node : (r : Record) (n : Node) → (take_record g r).nodes ≢ 0 → steps_of (r ∷ rs) ≡ []
      → machines_of (r ∷ rs) ≡ machines_of rs
      → nodes_of (r ∷ rs) ≡ n ∷ nodes_of rs → record_of_node n ≡ r → Listed (take_record g r) rs h → Listed g (r ∷ rs) h
  unfolding flat_map
  add_node r n some steps machines nodes same i =
      let only = i.nodes_only some in
      let q : rs ≡ listing [] [] (nodes_of rs) i.count =
      i.listed ∙ ap (λ (xs : List Step). listing xs (machines_of rs) (nodes_of rs) i.count) only.0
      ∙ ap (λ (ms : List Machine). listing [] ms (nodes_of rs) i.count) only.1 in
      record {
        count = i.count;
        listed =
            rw (steps, machines, nodes, only.1)
            (ap (λ (x : Record). x ∷ rs) (sym same) ∙ ap (λ (x : List Record). record_of_node n ∷ x) q);
        counted = i.counted;
        no_step_first = λ z. steps;
        nodes_only = λ z. (steps, machines ∙ only.1);
      }

  more : g.nodes + 1 ≢ 0
  more q = omega arith

  add_leaf : (m : ℕ) → Listed (take_record g (leaf_record m)) rs h → Listed g (leaf_record m ∷ rs) h
  unfolding steps_of machines_of nodes_of node_of record_of_node take_record
  add_leaf m i = add_node (leaf_record m) (leaf_node m) more refl refl refl refl i

  add_join : (x y A : ℕ) → Listed (take_record g (join_record x y A)) rs h → Listed g (join_record x y A ∷ rs) h
  unfolding steps_of machines_of nodes_of node_of record_of_node take_record
  add_join x y A i = add_node (join_record x y A) (join_node x y A) more refl refl refl refl i

  add_hide : (x A : ℕ) → Listed (take_record g (hide_record x A)) rs h → Listed g (hide_record x A ∷ rs) h
  unfolding steps_of machines_of nodes_of node_of record_of_node take_record
  add_hide x A i = add_node (hide_record x A) (hide_node x A) more refl refl refl refl i

  add_rename : (x : ℕ) (f : List ℕ) → Listed (take_record g (rename_record x f)) rs h → Listed g (rename_record x f ∷ rs) h
  unfolding steps_of machines_of nodes_of node_of record_of_node take_record
  add_rename x f i = add_node (rename_record x f) (rename_node x f) more refl refl refl refl i

just_end : (g h : Progress) (x : ℕ) → x ≡ g.place → take_record g (end_record x) ≡ h → Listed g (end_record x ∷ []) h
unfolding steps_of machines_of nodes_of take_record size_of body_length flat_map
just_end g h x q e =
    record {
      count = x;
      listed = refl;
      counted = omega (arith, q, ap (λ (p : Progress). p.place) e);
      no_step_first = λ z. refl;
      nodes_only = λ z. (refl, refl);
    }

pub along : (P : Record → Type 0) (x y : Record) → x ≡ y → P x → P y
along P x y q p = rw (← q) p

-- one record more, whatever its kind is
add_record : (g h : Progress) (r : Record) (rs : List Record) → g.n ≢ 0 → Plain r → Met g r
    → (r.kind ≢ 8 → Listed (take_record g r) rs h) → (r.kind ≡ 8 → (rs ≡ []) × (take_record g r ≡ h))
    → Listed g (r ∷ rs) h
add_record g h r rs n p met again end = go met
  where
    -- if the record is y, then it may be added if y may
    being : (y : Record) → r ≡ y → r.kind ≢ 8 → (Listed (take_record g y) rs h → Listed g (y ∷ rs) h)
        → Listed g (r ∷ rs) h
    being y q k add =
        along (λ x. Listed g (x ∷ rs) h) y r (sym q) (add (along (λ x. Listed (take_record g x) rs h) r y q (again k)))

    no_end : (k : ℕ) → r.kind ≡ k → k ≢ 8 → r.kind ≢ 8
    no_end k e n q = n (sym e ∙ q)

    go : Met g r → Listed g (r ∷ rs) h
    go (header_met k m) = absurd (n m.first)
    go (machine_met k m) =
        being _ (machine_is r p k) (no_end 2 k (λ z. omega arith)) (add_machine g h rs r.number m.before_nodes)
    go (step_met k m) =
        being _ (step_is r p k) (no_end 3 k (λ z. omega arith))
        (add_step g h rs r.from r.label r.to m.some_machine m.before_nodes)
    go (leaf_met k m) = being _ (leaf_is r p k) (no_end 4 k (λ z. omega arith)) (add_leaf g h rs r.number)
    go (join_met k m) =
        being _ (join_is r p k) (no_end 5 k (λ z. omega arith)) (add_join g h rs r.left r.right r.set)
    go (hide_met k m) = being _ (hide_is r p k) (no_end 6 k (λ z. omega arith)) (add_hide g h rs r.left r.set)
    go (rename_met k m) =
        being _ (rename_is r p k) (no_end 7 k (λ z. omega arith)) (add_rename g h rs r.left r.targets)
    go (end_met k m) =
        let w = end k in
        let q = end_is r p k in
        rw w.0
        (along (λ x. Listed g (x ∷ []) h) (end_record r.number) r (sym q)
        (just_end g h r.number m.counted (ap (take_record g) (sym q) ∙ w.1)))

-- the count of events changes at a header only
n_kept : (g : Progress) (r : Record) → Met g r → g.n ≢ 0 → (take_record g r).n ≡ g.n
unfolding take_record
n_kept g r (header_met k m) n = absurd (n m.first)
n_kept g r (machine_met k m) n = rw k
n_kept g r (step_met k m) n = rw k
n_kept g r (leaf_met k m) n = rw k
n_kept g r (join_met k m) n = rw k
n_kept g r (hide_met k m) n = rw k
n_kept g r (rename_met k m) n = rw k
n_kept g r (end_met k m) n = rw k

-- a run behind a header is listed
pub run_listed : (h : Progress) (rs : List Record) (g : Progress) → g.n ≢ 0 → Runs g rs h → EndsOnce rs → AllPlain rs
    → Listed g rs h
unfolding Runs EndsOnce AllPlain
run_listed h [] g n w e p = absurd e
run_listed h (r ∷ []) g n w e p =
    let met = met_out g r (size_of r.kind) (passed_out g r (size_of r.kind) w.0) in
    add_record g h r [] n p.0 met (λ k. absurd (k e)) (λ k. (refl, w.1))
run_listed h (r ∷ r' ∷ rs) g n w e p =
    let met = met_out g r (size_of r.kind) (passed_out g r (size_of r.kind) w.0) in
    add_record g h r (r' ∷ rs) n p.0 met
    (λ k. run_listed h (r' ∷ rs) (take_record g r) (λ q. n (sym (n_kept g r met n) ∙ q)) w.1 e.1 p.1)
    (λ k. absurd (e.0 k))
