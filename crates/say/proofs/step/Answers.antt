use Rattle.print.specs.Print.{line}
use Rattle.say.proofs.Said.{refused-line}
use Rattle.say.proofs.step.Goals as goal

pub returns-in-Err : goal.returns-in-Err
returns-in-Err c =
    rw c.in-Err.is (refused-line (line "step") c.in-Err.why _ 0 0 c.number.ensures c.put_step_refused.ensures)
