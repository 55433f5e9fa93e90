use Rattle.walk.proofs.Onward.{output-printed}
use Rattle.walk.proofs.output.Goals as goal

pub returns : goal.returns
returns c =
    let h = c.run-r.ensures in
    output-printed c.start-w.ensures h.onward h.ended
