use Rattle.std.proofs.lemmas.Bool.{or_from, or_left, or_right}
use Rattle.std.proofs.Common.{sym, ◌∙◌, arith}
use Rattle.reader.specs.File.{file_model}
use Rattle.reader.proofs.ReadFiles.{file_short}
use Rattle.verdict.proofs.Sweeps.{AtNode, sweep_starts, sweep_passes, few_here, place_fits, sweep_placed, sweep_at}
use Rattle.verdict.proofs.Sweeps.{sweep_empty, sweep_flag, sweep_over, sweep_on}
use Rattle.verdict.proofs.sweep.Goals as goal
use Rattle.verdict.proofs.sweep.Goals.{After-operands_of-o}
use Rattle.verdict.proofs.sweep.Goals.{then-has_empty_first-via-then-has_empty_first}
use Rattle.verdict.proofs.sweep.Goals.{then-has_empty_first-via-else-has_empty_first+then-has_empty_first-2}
use Rattle.verdict.proofs.sweep.Goals.{then-is_spinning_leaf-via-then-is_spinning_leaf}
use Rattle.verdict.proofs.sweep.Goals.{then-is_spinning_leaf-via-else-is_spinning_leaf+then-is_swallowing_hide}

-- what is seen at the node
seen : (c : After-operands_of-o) → AtNode (file_model c.args.file.bytes.now) c.loop-k.k c.record_at-r.result
    c.operands_of-o.result.left.now c.operands_of-o.result.right.now
seen c =
    let l = c.loop-k in
    sweep_at c.args.file c.args.area.now c.requires l.k l.place l.area l.counts l.invariant c.loop-k-test.true
    c.record_at-r.result c.record_at-r.ensures _ _ _ c.split_at_mut-sections.ensures.front c.operands_of-o.ensures.left
    c.operands_of-o.ensures.right

pub node_place-place-requires : goal.node_place-place-requires
node_place-place-requires c = file_short c.args.file

pub loop-k-init : goal.loop-k-init
loop-k-init c = sweep_starts c.args.file c.args.area.now _ c.node_place-place.ensures

pub operands_of-o-requires : goal.operands_of-o-requires
operands_of-o-requires c =
    let l = c.loop-k in
    sweep_placed c.args.file c.args.area.now c.requires l.k l.place l.area l.counts l.invariant c.loop-k-test.true
    c.record_at-r.result c.record_at-r.ensures

pub is_spinning_leaf-requires : goal.is_spinning_leaf-requires
is_spinning_leaf-requires c = (seen (goal.at.is_spinning_leaf-requires c).After-operands_of-o).ready.machine_in

pub build-requires : goal.build-requires
build-requires c =
    record { events = c.args.file.events_are; node = (seen (goal.at.build-requires c).After-operands_of-o).ready }

pub bounds-counts-k : goal.bounds-counts-k
bounds-counts-k c =
    let l = c.loop-k in
    few_here c.args.file c.args.area.now c.requires l.k l.place l.area l.counts l.invariant c.loop-k-test.true

pub overflow_add-place : goal.overflow_add-place
overflow_add-place c =
    let l = c.loop-k in
    omega (
      arith,
      place_fits c.args.file c.args.area.now c.requires l.k l.place l.area l.counts l.invariant c.loop-k-test.true _ _
          c.size_of-place.ensures,
    )

pub loop-k-preserved : goal.loop-k-preserved
loop-k-preserved c =
    let l = c.loop-k in
    let a = seen (goal.at.loop-k-preserved c).After-operands_of-o in
    let s = c.split_at_mut-sections.ensures in
    sweep_on c.args.file c.args.area.now c.requires l.k l.place l.area l.counts l.invariant c.loop-k-test.true
    c.record_at-r.result _ _ a
    (or_from _ _ (sym c.has_empty_first.ensures ∙ c.if-has_empty_first.false)
    (sym c.has_empty_first-else-has_empty_first.ensures ∙ c.if-has_empty_first-2.false))
    (or_from _ _ (sym c.is_spinning_leaf.ensures ∙ c.if-is_spinning_leaf.false)
    (sym c.is_swallowing_hide.ensures ∙ c.if-is_swallowing_hide.false)) _ _ _ s.front s.back c.build.ensures.area
    c.in-Some.count c.in-Some.ensures.count c.record_at-r.ensures c.size_of-place.result c.size_of-place.ensures

pub returns-then-has_empty_first : goal.returns-then-has_empty_first
returns-then-has_empty_first c =
    let l = c.loop-k in
    let stop = sweep_empty c.args.file c.args.area.now c.requires l.k l.place l.area l.counts l.invariant
    c.loop-k-test.true c.record_at-r.result _ _ (seen (goal.at.returns-then-has_empty_first c).After-operands_of-o) in
    elim c.then-has_empty_first.branch [
      | then-has_empty_first-via-then-has_empty_first w ↦
          let p = stop (or_left _ _ (sym c.has_empty_first.ensures ∙ w.if-has_empty_first.true)) _
          (w.area-is ∙ sym c.split_at_mut-sections.ensures.value) in
          record { answer = p.0; area = p.1.0; behind = p.1.1 }
      | then-has_empty_first-via-else-has_empty_first+then-has_empty_first-2 w ↦
          let p = stop
          (or_right _ _ (sym w.has_empty_first-else-has_empty_first.ensures ∙ w.if-has_empty_first-2.true)) _
          (w.area-is ∙ sym c.split_at_mut-sections.ensures.value) in
          record { answer = p.0; area = p.1.0; behind = p.1.1 }
    ]

pub returns-then-is_spinning_leaf : goal.returns-then-is_spinning_leaf
returns-then-is_spinning_leaf c =
    let l = c.loop-k in
    let stop = sweep_flag c.args.file c.args.area.now c.requires l.k l.place l.area l.counts l.invariant
    c.loop-k-test.true c.record_at-r.result _ _ (seen (goal.at.returns-then-is_spinning_leaf c).After-operands_of-o)
    (or_from _ _ (sym c.has_empty_first.ensures ∙ c.if-has_empty_first.false)
    (sym c.has_empty_first-else-has_empty_first.ensures ∙ c.if-has_empty_first-2.false)) in
    elim c.then-is_spinning_leaf.branch [
      | then-is_spinning_leaf-via-then-is_spinning_leaf w ↦
          let p = stop (or_left _ _ (sym c.is_spinning_leaf.ensures ∙ w.if-is_spinning_leaf.true)) _
          (w.area-is ∙ sym c.split_at_mut-sections.ensures.value) in
          record { answer = p.0; area = p.1.0; behind = p.1.1 }
      | then-is_spinning_leaf-via-else-is_spinning_leaf+then-is_swallowing_hide w ↦
          let p = stop (or_right _ _ (sym w.is_swallowing_hide.ensures ∙ w.if-is_swallowing_hide.true)) _
          (w.area-is ∙ sym c.split_at_mut-sections.ensures.value) in
          record { answer = p.0; area = p.1.0; behind = p.1.1 }
    ]

pub returns-in_default : goal.returns-in_default
returns-in_default c =
    let l = c.loop-k in
    let a = seen (goal.at.returns-in_default c).After-operands_of-o in
    let s = c.split_at_mut-sections.ensures in
    let p =
    sweep_over c.args.file c.args.area.now c.requires l.k l.place l.area l.counts l.invariant c.loop-k-test.true
    c.record_at-r.result _ _ a
    (or_from _ _ (sym c.has_empty_first.ensures ∙ c.if-has_empty_first.false)
    (sym c.has_empty_first-else-has_empty_first.ensures ∙ c.if-has_empty_first-2.false))
    (or_from _ _ (sym c.is_spinning_leaf.ensures ∙ c.if-is_spinning_leaf.false)
    (sym c.is_swallowing_hide.ensures ∙ c.if-is_swallowing_hide.false)) _ _ _ s.front s.back c.build.ensures.area
    (sym s.value) c.in_default.ensures.count in
    record { answer = p.0; area = p.1.0; behind = p.1.1 }

pub returns-after-loop-k : goal.returns-after-loop-k
returns-after-loop-k c =
    let l = c.loop-k in
    let p =
    sweep_passes c.args.file c.args.area.now c.requires l.k l.place l.area l.counts l.invariant
    (omega (arith, c.loop-k-test.false)) _ c.bound_of.ensures in
    record { answer = p.0; area = p.1.0; behind = p.1.1 }
