-- The laws of sets. Assumes nothing.
use Rattle.std.proofs.Common.{◌≡◌, refl, ◌∙◌, ◌↔◌, Bool, true, not, ◌&&◌, ℕ, zero, suc}
use Rattle.std.proofs.Common.{◌/◌, ◌<◌, arith, rules, T, ltb, eqb→eq, length, filter, inl, inr}
use Rattle.std.specs.List.{range_with_len}
use Rattle.std.proofs.lemmas.Bool.{cases_eq}
use mir.Facts.{yes_eqb}
use Rattle.events.specs.Sets.{has, full, complement, image, all_sources, is_empty, count}
use Rattle.events.specs.Laws.{SetLaws}
use Rattle.events.proofs.Members.{set_of_members, set_of_below, member_below, member_nonzero, nonzero_member}
use Rattle.events.proofs.Members.{below_of_members, has_ext}
use Rattle.events.proofs.Booleans.{and_true}
use Rattle.events.proofs.Machine.{has_empty, count_low}
use Rattle.events.proofs.Operations.{image_out, image_in, all_sources_out, all_sources_in}
use Rattle.events.proofs.Tests.{disjoint_iff, included_iff, included_all}

full_has : (n e : ℕ) → has (full n) e ≡ ltb e n
full_has n e = set_of_members n (λ e. true) e ∙ and_true (ltb e n)

once : (a b : Bool) → (a && (a && b)) ≡ (a && b)
once = search rules

complement_has : (n s e : ℕ) → has (complement n s) e ≡ (ltb e n && not (has s e))
complement_has n s e =
    rw (set_of_members n (λ e. has (full n) e && not (has s e)) e, full_has n e) (once (ltb e n) (not (has s e)))

image_iff : (n : ℕ) (R : ℕ → ℕ → Bool) (s b : ℕ)
    → T (has (image n R s) b) ↔ ((b < n) × ((e : ℕ) × (e < n) × T (has s e) × T (R e b)))
image_iff n R s b = (
  λ h. (member_below n (image n R s) b (set_of_below n _) h, image_out n R s b h),
  λ (l, (e, i, h, k)). image_in n R s b l e i h k,
)

all_sources_iff : (n : ℕ) (R : ℕ → ℕ → Bool) (s b : ℕ)
    → T (has (all_sources n R s) b) ↔ ((b < n) × ((e : ℕ) → e < n → T (R e b) → T (has s e)))
all_sources_iff n R s b = (
  λ h. (member_below n (all_sources n R s) b (set_of_below n _) h, all_sources_out n R s b h),
  λ h. all_sources_in n R s b h.0 h.1,
)

is_empty_iff : (s : ℕ) → T (is_empty s) ↔ ((e : ℕ) → ¬ T (has s e))
is_empty_iff s = (
  λ h e m. member_nonzero s e m (eqb→eq s 0 h),
  λ h. elim (cases_eq s 0) [ inl q ↦ yes_eqb q | inr q ↦ let r = nonzero_member s q in absurd (h r.0 r.1) ],
)

count_halved : (a n s : ℕ)
    → length (filter (has s) (range_with_len (suc a) n)) ≡ length (filter (has (s / 2)) (range_with_len a n))
unfolding has
count_halved a zero s = refl
count_halved a (suc n) s = grind (arith, count_halved (suc a) n s)

count_has : (n s : ℕ) → count n s ≡ length (filter (has s) (range_with_len 0 n))
unfolding count has
count_has zero s = refl
count_has (suc n) s = grind (arith, count_low n s, count_halved 0 n s, count_has n (s / 2))

pub set_laws : SetLaws
set_laws = record {
  of_empty = has_empty;
  of_full = full_has;
  of_single = λ n d e. set_of_members n _ e;
  of_union = λ n s t e. set_of_members n _ e;
  of_intersection = λ n s t e. set_of_members n _ e;
  of_difference = λ n s t e. set_of_members n _ e;
  of_complement = complement_has;
  of_image = image_iff;
  of_all_sources = all_sources_iff;
  of_is_empty = is_empty_iff;
  of_disjoint = disjoint_iff;
  of_included = included_iff;
  of_included_all = included_all;
  of_count = count_has;
  below = λ n s. (λ h e m. member_below n s e h m, below_of_members n s);
  same_events = has_ext;
}
