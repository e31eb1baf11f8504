use Rattle.std.proofs.Common.{arith, refl, sym, ◌∙◌, ◌*◌}
use Rattle.reader.specs.File.{file_model}
use Rattle.filling.specs.Building.{zeros}
use Rattle.analysis.proofs.Ends.{need_is, no_room, ends_pass, ends_stop}
use Rattle.analysis.proofs.pass_over.Goals as goal

pub returns-then-is_short : goal.returns-then-is_short
returns-then-is_short c =
    let g = c.args in
    let need = need_is (file_model g.file.bytes.now) g.file.nodes g.file.nodes_are in
    let p = no_room (file_model g.file.bytes.now) g.area.now (omega (arith, need, c.if-is_short.true)) _ refl in
    record { answer = p.0; area = p.1 }

pub returns-else-not-is_pass : goal.returns-else-not-is_pass
returns-else-not-is_pass c =
    let g = c.args in
    let w = c.sweep-answer in
    let need = need_is (file_model g.file.bytes.now) g.file.nodes g.file.nodes_are in
    let p = ends_pass (file_model g.file.bytes.now) g.area.now (omega (arith, need, c.if-is_short.false)) _ _
    (sym c.is_pass.ensures ∙ c.if-not-is_pass.false) w.ensures.answer w.ensures.area in
    record { answer = p.0; area = p.1 }

pub returns-then-not-is_pass : goal.returns-then-not-is_pass
unfolding zeros
returns-then-not-is_pass c =
    let g = c.args in
    let w = c.sweep-answer in
    let need = need_is (file_model g.file.bytes.now) g.file.nodes g.file.nodes_are in
    let p = ends_stop (file_model g.file.bytes.now) g.area.now (omega (arith, need, c.if-is_short.false)) _ _ _
    (256 * g.file.nodes) (sym c.is_pass.ensures ∙ c.if-not-is_pass.true) w.ensures.answer w.ensures.behind need
    (c.fill.ensures.after (λ y e. e)) in
    record { answer = p.0; area = p.1 }
