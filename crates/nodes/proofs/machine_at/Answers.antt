use Rattle.std.proofs.Common.{arith, ◌∙◌}
use Rattle.reader.proofs.ReadFiles.{readable_short}
use Rattle.nodes.proofs.Machines.{place_within, steps_within, machine_is, few_states, steps_end}
use Rattle.nodes.proofs.machine_at.Goals as goal

pub machine_place-place-requires : goal.machine_place-place-requires
machine_place-place-requires c = readable_short c.args.file

pub steps_at-requires : goal.steps_at-requires
steps_at-requires c = readable_short c.args.file

pub overflow_add-end : goal.overflow_add-end
overflow_add-end c =
    let g = c.args in
    omega (
      arith,
      steps_within g.file g.m c.requires c.machine_place-place.result c.steps_at.result c.machine_place-place.ensures
          c.steps_at.ensures,
      readable_short g.file,
    )

pub slice_bounds-new-end : goal.slice_bounds-new-end
slice_bounds-new-end c =
    let g = c.args in
    steps_within g.file g.m c.requires c.machine_place-place.result c.steps_at.result c.machine_place-place.ensures
    c.steps_at.ensures

pub new-requires : goal.new-requires
new-requires c =
    let g = c.args in
    let e = machine_is g.file g.m c.requires c.machine_place-place.result c.steps_at.result c.machine_place-place.ensures
    c.steps_at.ensures _ c.number_at.ensures in
    (few_states g.file g.m c.requires _ _ e, steps_end g.file g.m c.requires _ _ e)

pub returns : goal.returns
returns c =
    let g = c.args in
    c.new.ensures
    ∙ machine_is g.file g.m c.requires c.machine_place-place.result c.steps_at.result c.machine_place-place.ensures
    c.steps_at.ensures _ c.number_at.ensures

pub overflow_add-start : goal.overflow_add-start
overflow_add-start c = omega (arith, c.machine_place-place.ensures, place_within c.args.file c.args.m c.requires, readable_short c.args.file)
