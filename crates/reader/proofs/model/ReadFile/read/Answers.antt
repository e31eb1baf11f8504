use Rattle.std.proofs.Common.{sym, ◌∙◌, arith}
use Rattle.decoding.specs.Bytes.{AreBytes}
use Rattle.reader.proofs.Counted.{reading_out, counted}
use Rattle.reader.proofs.model.ReadFile.read.Goals as goal

pub invariant_of-result : goal.invariant_of-result
unfolding AreBytes
invariant_of-result c =
    let q = sym c.in_ok-g.was ∙ c.read.ensures in
    let y : AreBytes c.args.bytes.now = λ i. omega (arith, c.type_inv.bytes i) in
    let k = counted c.args.bytes.now _ y q in
    record { are_bytes = y; is_read = (reading_out c.args.bytes.now _ q).0; events_are = k.0; nodes_are = k.1 }
