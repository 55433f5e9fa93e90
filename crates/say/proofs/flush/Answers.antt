use Rattle.print.specs.Print.{line}
use Rattle.say.proofs.Said.{refused-line}
use Rattle.say.proofs.flush.Goals as goal

pub returns-in-Err : goal.returns-in-Err
returns-in-Err c =
    rw c.in-Err.is (refused-line (line "flush") c.in-Err.why _ 0 0 c.number.ensures c.put_flush_refused.ensures)
