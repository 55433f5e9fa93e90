use Rattle.prelude.proofs.Tests.{chain-every}
use Rattle.script.specs.Forms.{buffers_fit}
use Rattle.script.proofs.buffers_fit.Goals as goal

pub returns : goal.returns
unfolding buffers_fit
returns c = chain-every _
