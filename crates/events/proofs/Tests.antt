-- The tests on sets decide the facts that they are named after, over n.
-- Assumes nothing.
use Rattle.std.proofs.Common.{not, ◌&&◌, ◌↔◌, inl, inr, ◌≡◌, eqb, ℕ, ◌<◌, ◌^◌, T, T_not, eqb→eq}
use Rattle.std.proofs.lemmas.Bool.{cases_Bool}
use mir.Facts.{and_yes, yes_eqb}
use Rattle.events.specs.Sets.{has, difference, single, disjoint, included, Included}
use Rattle.events.proofs.Booleans.{same_test}
use Rattle.events.proofs.Members.{member_below, member_nonzero, set_of_empty, set_of_in, set_of_out}
use lib.Dec.{not_T, eqb_refl}
use Rattle.events.proofs.Operations.{intersection_empty_in, intersection_empty_out, difference_in}

pub disjoint_iff : (n s t : ℕ) → T (disjoint n s t) ↔ ((e : ℕ) → e < n → T (has s e) → T (has t e) → ⊥)
disjoint_iff n s t = (
  λ h. intersection_empty_out n s t (eqb→eq _ _ h),
  λ h. yes_eqb (intersection_empty_in n s t h),
)

pub included_iff : (n s t : ℕ) → T (included n s t) ↔ ((e : ℕ) → e < n → T (has s e) → T (has t e))
included_iff n s t = (out, λ h. yes_eqb (set_of_empty n (λ e. has s e && not (has t e)) (none h)))
  where
    out : T (included n s t) → (e : ℕ) → e < n → T (has s e) → T (has t e)
    out h e l m =
        elim (cases_Bool (has t e)) [
          | inl q ↦ rw q tt
          | inr q ↦
              let k = difference_in n s t e l m (λ g. rw q at g) in
              absurd (member_nonzero (difference n s t) e k (eqb→eq (difference n s t) 0 h))
        ]

    none : ((e : ℕ) → e < n → T (has s e) → T (has t e)) → (e : ℕ) → e < n → T (has s e && not (has t e)) → ⊥
    none h e l g = let r = and_yes (has s e) (not (has t e)) g in T_not (has t e) r.1 (h e l r.0)

-- where s has events below n only, the test is inclusion outright
pub included_all : (n s t : ℕ) → s < 2 ^ n → T (included n s t) ↔ Included s t
unfolding Included
included_all n s t hs = (
  λ h e m. (included_iff n s t).0 h e (member_below n s e hs m) m,
  λ h. (included_iff n s t).1 (λ e l m. h e m),
)

-- as the code asks whether e is in s: whether s and the set of e alone have an event in common
pub contains_is : (n s e : ℕ) → s < 2 ^ n → not (disjoint n s (single n e)) ≡ has s e
contains_is n s e h = same_test _ _ out (λ m. not_T (disjoint n s (single n e)) (λ d. apart d m))
  where
    apart : T (disjoint n s (single n e)) → T (has s e) → ⊥
    apart d m =
        let l = member_below n s e h m in
        (disjoint_iff n s (single n e)).0 d e l m (set_of_in n (λ x. eqb x e) e l (eqb_refl e))

    out : T (not (disjoint n s (single n e))) → T (has s e)
    out t =
        elim (cases_Bool (has s e)) [
          | inl q ↦ rw q tt
          | inr q ↦
              absurd (T_not (disjoint n s (single n e)) t
              ((disjoint_iff n s (single n e)).1
              (λ x l m k. rw (eqb→eq x e (set_of_out n (λ x. eqb x e) x k), q) at m)))
        ]
