use Rattle.std.proofs.Common.{rules, arith, refl, ◌∙◌, ◌*◌, ap, Err, drop, drop-drop}
use Rattle.std.proofs.KnownBytes.{Keeps-refl}
use Rattle.console.proofs.Printing.{shorter, node_on, walk_end, walk_out}
use Rattle.console.proofs.Writing.{part_left, part_failed, none_left, none_written}
use Rattle.console.proofs.print_nodes.Goals as goal

pub returns-then-kind-number : goal.returns-then-kind-number
returns-then-kind-number g c =
    c.loop-first.invariant.walk _ _
    (none_left _ _ (walk_end _ _ _ _ _ c.in-Some.ensures.value (search rules)))

pub returns-in_default-split_first_chunk : goal.returns-in_default-split_first_chunk
returns-in_default-split_first_chunk g c =
    c.loop-first.invariant.walk _ _ (none_written (Err c.from.result) _ _ _ refl (Keeps-refl _))

pub returns-in_err-write_text : goal.returns-in_err-write_text
returns-in_err-write_text g c =
    let so_far = c.loop-first.invariant in
    so_far.walk _ _
    (part_failed _ _ _ _ _ _ _
    (node_on _ _ _ _ _ _ _ _ _ c.in-Some.ensures.value (search rules) so_far.short so_far.there
    c.in-Some-split_first_chunk.ensures.cases.0 (c.as_slice.ensures.value ∙ c.node_text.ensures) refl refl)
    c.from_residual.ensures.0 c.in_err-write_text.ensures)

pub loop-first-smaller : goal.loop-first-smaller
loop-first-smaller g c = shorter _ _ _ _ c.in-Some.ensures.value c.behind-rest-in-Some.ensures c.size_of.ensures

pub loop-first-preserved : goal.loop-first-preserved
loop-first-preserved g c =
    let so_far = c.loop-first.invariant in
    let less = shorter _ _ _ _ c.in-Some.ensures.value c.behind-rest-in-Some.ensures c.size_of.ensures in
    record {
      walk = λ r z w. so_far.walk r z
          (part_left _ _ _ _ _
          (node_on _ _ _ _ _ _ _ _ _ c.in-Some.ensures.value (search rules) so_far.short so_far.there
          c.in-Some-split_first_chunk.ensures.cases.0 (c.as_slice.ensures.value ∙ c.node_text.ensures)
          c.behind-rest-in-Some.ensures c.size_of.ensures)
          c.in_ok-write_text.ensures r z w);
      there = c.in-Some-split_first_chunk.ensures.cases.1 ∙ ap (drop 256) so_far.there
          ∙ drop-drop 256 (256 * c.loop-first.k) c.args.area.now
          ∙ ap (λ n. drop n c.args.area.now) (omega arith);
      short = omega (arith, less);
    }

pub returns : goal.returns
returns g c = c.loop-first.invariant.walk _ _ (none_left _ _ (walk_out _ _ _ _ c.in_default.ensures.value))
