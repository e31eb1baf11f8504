-- The crate's promises, each by citing.
-- Assumes nothing.
use Rattle.std.proofs.Common.{◌≡◌, sym, ap, ◌∙◌, List, ℕ, ltb, length}
use Rattle.network.specs.Lists.{in_order}
use Rattle.network.specs.Verdict.{most_pairs}
use Rattle.network.proofs.Packing.{first_pack, second_pack, pack_unpack}
use Rattle.filling.specs.Building.{fits, went_over, filled}
use Rattle.lists.specs.Promise.{PackedIsFound, FoundIsPacked, JoinGivesRule, HideGivesRule, RenameGivesRule}
use Rattle.lists.specs.Promise.{ListsInside, OrderDoesNotMatter, OverStaysOver}
use Rattle.filling.proofs.Filled.{filled_over_is, filled_is, filled_gives, filled_stays, in_order_ext}
use Rattle.entries.proofs.Narrower.{join_candidates_narrower, hide_candidates_narrower, rename_candidates_narrower}
use Rattle.entries.proofs.Inside.{list_inside}

pub packed_is_found : PackedIsFound
unfolding PackedIsFound
packed_is_found F C l = (first_pack F C l, second_pack F C l)

pub found_is_packed : FoundIsPacked
unfolding FoundIsPacked
found_is_packed x = pack_unpack x

pub join_gives_rule : JoinGivesRule
unfolding JoinGivesRule
join_gives_rule n h A xs ys p q = rw (join_candidates_narrower n h xs p A ys q) (filled_gives _)

pub hide_gives_rule : HideGivesRule
unfolding HideGivesRule
hide_gives_rule n h A a xs p = rw (hide_candidates_narrower n h xs p A a) (filled_gives _)

pub rename_gives_rule : RenameGivesRule
unfolding RenameGivesRule
rename_gives_rule n h f below keeps xs p = rw (rename_candidates_narrower n h xs p f below keeps) (filled_gives _)

pub lists_inside : ListsInside
unfolding ListsInside
lists_inside = list_inside

pub order_does_not_matter : OrderDoesNotMatter
unfolding OrderDoesNotMatter
order_does_not_matter cs ds f g =
    let same : in_order cs ≡ in_order ds = in_order_ext cs ds f g in
    let alike : went_over (filled cs) ≡ went_over (filled ds) =
    filled_over_is cs ∙ ap (λ (xs : List ℕ). ltb most_pairs (length xs)) same ∙ sym (filled_over_is ds) in
    (alike, λ h. filled_is cs h ∙ ap fits same ∙ sym (filled_is ds (sym alike ∙ h)))

pub over_stays_over : OverStaysOver
unfolding OverStaysOver
over_stays_over cs ds h = filled_stays cs ds h
