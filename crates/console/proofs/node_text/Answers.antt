use Rattle.std.proofs.Common.{rules, arith, ◌≡◌, ℕ, ◌+◌, ◌≤◌, ◌<◌, ◌∙◌, List, ◌++◌, ap, sym, length, take, drop, get_or}
use Rattle.std.proofs.Common.{refl}
use Rattle.std.proofs.Common.{add-one, drop-cons, append_assoc, append-nil, length-append, length-take}
use Rattle.std.proofs.Common.{drop_of_length-le}
use mathlib.Core.List.{flat_map}
use Rattle.std.proofs.lemmas.Grind.{common_steps}
use Rattle.report.specs.Text.{pair_line, line, hex}
use Rattle.report.proofs.Counting.{count_within}
use Rattle.console.specs.Output.{text_of}
use Rattle.console.proofs.node_text.Goals as goal

pair_length : (x : ℕ) → length (pair_line x) ≡ 10
unfolding pair_line line hex
pair_length x = refl

-- one more pair's line
line_on : (text xs t : List ℕ) (i : ℕ) → i < length xs → text ++ flat_map pair_line (drop i xs) ≡ t
    → (text ++ pair_line (get_or xs i 0)) ++ flat_map pair_line (drop (i + 1) xs) ≡ t
unfolding flat_map
line_on text xs t i h e =
    rw add-one
    (append_assoc text _ _ ∙ ap (λ ys. text ++ flat_map pair_line ys) (sym (drop-cons xs i 0 h)) ∙ e)

pub slice_bounds-x-items-end : goal.slice_bounds-x-items-end
slice_bounds-x-items-end c = grind (arith, common_steps, count_within c.args.section.now)

pub loop-x-init : goal.loop-x-init
unfolding text_of
loop-x-init c =
    let short : length c.node_line.result ≤ 40 = search rules in
    record {
      on = rw (c.add_line.ensures, c.clear.ensures, c.node_line.ensures, c.pair_count-count.ensures);
      short = rw (c.add_line.ensures, c.clear.ensures) short;
    }

pub add_line-requires-in-loop-x : goal.add_line-requires-in-loop-x
add_line-requires-in-loop-x c =
    omega (arith, ap length c.pair_line.ensures, pair_length, length-take c.pair_count-count.result c.args.section.now)

pub loop-x-preserved : goal.loop-x-preserved
loop-x-preserved c =
    record {
      on = rw (c.add_line-in-loop-x.ensures, c.pair_line.ensures)
          (line_on _ _ _ _ c.loop-x-test.true c.loop-x.invariant.on);
      short = omega (
        arith,
        ap length c.add_line-in-loop-x.ensures,
        ap length c.pair_line.ensures,
        pair_length,
        length-append {A = ℕ},
      );
    }

pub returns : goal.returns
unfolding flat_map
returns c =
    let none = drop_of_length-le (take c.pair_count-count.result c.args.section.now) c.loop-x-test.false in
    sym (append-nil c.loop-x.text.items) ∙ rw none at c.loop-x.invariant.on
