use Rattle.std.proofs.Common.{◌≡◌, ◌+◌, ◌-◌, ◌≤◌, arith, ap, length}
use Rattle.report.specs.Framing.{framed_count}
use Rattle.report.proofs.Framed.{word_framed}
use Rattle.report.proofs.Line.push.Goals as goal

pub invariant_of-self : goal.invariant_of-self
invariant_of-self c =
    let count = c.self.inside.count in
    let word = c.args.word.now in
    let part : count + length word - count ≡ length word = omega arith in
    let room : count + length word ≤ 40 =
    omega (arith, c.requires, framed_count c.self.invariant, ap length c.self.view_is) in
    rw (part, c.copy_from_slice.ensures.after) (word_framed c.self.invariant word room)
