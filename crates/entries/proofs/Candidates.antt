-- What the code makes of entries with the set type, which has room for 32 events, is what the rules' candidates are for
-- 16. Assumes nothing.
use Rattle.std.proofs.Common.{◌≡◌, refl, ap₂, Bool, ℕ, ◌^◌, ◌<◌, arith}
use Rattle.events.specs.Sets.{room, union, difference, disjoint}
use Rattle.events.proofs.Members.{set_of_below}
use Rattle.events.proofs.Widths.{union_widen, disjoint_widen}
use Rattle.network.specs.Rules.{joined_c}
use Rattle.network.specs.Lists.{pack, first_of, second_of, keep_if, together_candidate, alone_candidate, hide_candidate}
use Rattle.entries.specs.Entries.{width, narrow, together_f, together_c, Together, Alone}
use Rattle.entries.proofs.Entries.{first_below, second_below, narrow_set_of, narrow_same, joined_widen}

-- clause (a)
pub together_in : (A x y : ℕ) → x < 2 ^ room → y < 2 ^ room
    → Together A x y
    (disjoint room (union room (first_of x) (first_of y)) (joined_c room A (second_of x) (second_of y)))
    (pack (narrow (union room (first_of x) (first_of y))) (narrow (joined_c room A (second_of x) (second_of y))))
unfolding together_f together_c
together_in A x y p q =
    let F = together_f width x y in
    let C = together_c width A x y in
    rw (
      union_widen width room (first_of x) (first_of y) (omega arith) (first_below x p) (first_below y q),
      joined_widen width room A (second_of x) (second_of y) (omega arith) (second_below x) (second_below y),
    )
    (record {
      kept_is = disjoint_widen width room F C (omega arith) (set_of_below width _);
      entry_is = ap₂ pack (narrow_same F (set_of_below width _)) (narrow_same C (set_of_below width _));
    })

-- clauses (b) and (c)
pub alone_in : (A x : ℕ) → x < 2 ^ room → Alone A x (disjoint room (first_of x) A) x
alone_in A x p =
    record { kept_is = disjoint_widen width room (first_of x) A (omega arith) (first_below x p); entry_is = refl }

-- hide
pub hidden_is : (A x : ℕ)
    → pack (narrow (difference room (first_of x) A)) (narrow (union room (second_of x) A)) ≡ hide_candidate width A x
unfolding hide_candidate
hidden_is A x = ap₂ pack (narrow_set_of _) (narrow_set_of _)

-- the rules' candidates, from what the code answers
pub together_is : {A x y z : ℕ} {kept : Bool} → Together A x y kept z → keep_if kept z ≡ together_candidate width A x y
unfolding together_candidate together_f together_c
together_is r = ap₂ keep_if r.kept_is r.entry_is

pub alone_is : {A x z : ℕ} {kept : Bool} → Alone A x kept z → keep_if kept z ≡ alone_candidate width A x
unfolding alone_candidate
alone_is r = ap₂ keep_if r.kept_is r.entry_is
