use Rattle.std.proofs.Common.{rules, arith}
use Rattle.std.proofs.lemmas.Grind.{common_steps}
use Rattle.nodes.proofs.Machines.{formed_named}
use Rattle.nodes.proofs.NodeLists.{few_events, pairs_give, offered, leaf_gives, join_gives, hide_gives, rename_gives}
use Rattle.nodes.proofs.offer_node.Goals as goal
use Rattle.nodes.proofs.offer_node.Goals.{in_default-via-in-Ok+in_default, in_default-via-in_default}

pub offer_leaf-requires : goal.offer_leaf-requires
offer_leaf-requires c =
    let g = c.args in (
      few_events g.file g.n c.requires.events,
      rw (c.machine_at.ensures, c.requires.events) (formed_named g.file g.r.number (c.requires.node.machine_in (search rules))),
    )

pub returns-in-Ok-Leaf : goal.returns-in-Ok-Leaf
returns-in-Ok-Leaf c =
    let g = c.args in
    leaf_gives g.file g.r g.o.left.now g.o.right.now c.requires.node _ g.n c.requires.events (search rules)
    (pairs_give g.file g.n c.requires.events g.r.number (c.requires.node.machine_in (search rules)) _
    (offered _ c.requires.none (rw c.machine_at.ensures at c.offer_leaf.ensures)))

pub returns-in-Ok-Join : goal.returns-in-Ok-Join
returns-in-Ok-Join c =
    let g = c.args in
    join_gives g.file g.r g.o.left.now g.o.right.now c.requires.node _ (search rules)
    (offered _ c.requires.none (rw c.from_bits-set.ensures at c.offer_join.ensures))

pub returns-in-Ok-Hide : goal.returns-in-Ok-Hide
returns-in-Ok-Hide c =
    let g = c.args in
    hide_gives g.file g.r g.o.left.now g.o.right.now c.requires.node _ (search rules)
    (offered _ c.requires.none (rw c.from_bits-set.ensures at c.offer_hide.ensures))

pub returns-in_default : goal.returns-in_default
returns-in_default c =
    let g = c.args in
    let out = offered _ c.requires.none c.offer_rename.ensures in
    elim c.in_default.branch [
      | in_default-via-in-Ok+in_default w ↦
          rename_gives g.file g.r g.o.left.now g.o.right.now c.requires.node _ (grind (arith, common_steps))
          (grind (arith, common_steps)) (grind (arith, common_steps)) out
      | in_default-via-in_default w ↦
          rename_gives g.file g.r g.o.left.now g.o.right.now c.requires.node _ (grind (arith, common_steps))
          (grind (arith, common_steps)) (grind (arith, common_steps)) out
    ]
