use Rattle.console.proofs.Taking.{taken_printed}
use Rattle.console.proofs.read_and_print.Goals as goal

pub returns : goal.returns
returns g c =
    taken_printed c.read_full-n.result.1 c.analyse_and_print-written.result _ _ _ _ c.read_full-n.result.0 c.read_full-n.new.room
    c.read_full-n.ensures.bound c.read_full-n.auto.room c.read_full-n.ensures.end c.read_full-n.ensures.bytes
    c.analyse_and_print-written.ensures
