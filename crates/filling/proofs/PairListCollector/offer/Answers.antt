use Rattle.std.proofs.Common.{refl, sym, ◌∙◌, arith}
use Rattle.filling.specs.Fields.{held_length}
use Rattle.filling.proofs.Fillings.{offer_there, offer_new, offer_full, is_there, belongs, held_more}
use Rattle.filling.proofs.PairListCollector.offer.Goals as goal

pub returns-then-is_full : goal.returns-then-is_full
returns-then-is_full c =
    let at = belongs c.args.x c.in-Err.at c.self.invariant c.in-Err.ensures.position in
    rw (← c.self.view_is, c.if-self.false) (offer_full c.args.x _ at.1 (omega (arith, at.2)))

pub invariant_of-self-2 : goal.invariant_of-self-2
invariant_of-self-2 c =
    let at = belongs c.args.x c.in-Err.at c.self.invariant c.in-Err.ensures.position in
    held_more c.args.x c.self.invariant (omega (arith, c.self.invariant.count_fits))
    (c.insert_at.ensures.front ∙ sym at.1) (rw at.1 at.2) c.insert_at.ensures.back

pub returns : goal.returns
returns c =
    let at = belongs c.args.x c.in-Err.at c.self.invariant c.in-Err.ensures.position in
    rw (← c.self.view_is, c.if-self.false, c.insert_at.ensures.front)
    (offer_new c.args.x _ at.1 (omega (arith, at.2, c.self.invariant.count_fits)))

pub returns-in_default : goal.returns-in_default
returns-in_default c =
    let same = is_there c.args.x c.in_default.field-0 c.self.invariant c.in_default.ensures.position in
    rw (← c.self.view_is, c.if-self.false)
    (offer_there c.args.x _ same refl (omega (arith, held_length c.self.invariant, c.self.invariant.count_fits)))
