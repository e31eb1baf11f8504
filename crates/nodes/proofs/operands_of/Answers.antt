use Rattle.std.proofs.Common.{sym, ◌∙◌, rules}
use Rattle.nodes.specs.Nodes.{left_of, right_of}
use Rattle.nodes.proofs.operands_of.Goals as goal
use Rattle.nodes.proofs.operands_of.Goals.{then-is, else-is, then-is-2, else-is-2}

pub returns-clause-left : goal.returns-clause-left
unfolding left_of
returns-clause-left c =
    elim c.if-is.branch [
      | then-is w ↦ rw (sym c.is.ensures ∙ w.if-is.true) (search rules)
      | else-is w ↦ rw (sym c.is.ensures ∙ w.if-is.false) (search rules)
    ]

pub returns-clause-right : goal.returns-clause-right
unfolding right_of
returns-clause-right c =
    elim c.if-is-2.branch [
      | then-is-2 w ↦ rw (sym c.is-2.ensures ∙ w.if-is-2.true) (search rules)
      | else-is-2 w ↦ rw (sym c.is-2.ensures ∙ w.if-is-2.false) (search rules)
    ]
