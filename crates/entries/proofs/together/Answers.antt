use Rattle.std.proofs.Common.{arith}
use Rattle.entries.proofs.Candidates.{together_in}
use Rattle.entries.proofs.together.Goals as goal

pub returns : goal.returns
returns c =
    rw (
      c.is_disjoint.ensures,
      c.entry_of.ensures,
      c.bitor-f.ensures,
      c.joined_c-c.ensures,
      c.first_of.ensures,
      c.first_of-2.ensures,
      c.second_of.ensures,
      c.second_of-2.ensures,
    )
    (together_in c.args.a c.args.x c.args.y (omega arith) (omega arith))
