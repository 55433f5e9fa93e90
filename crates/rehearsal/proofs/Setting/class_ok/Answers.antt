use Rattle.prelude.proofs.Tests.{chain-every}
use Rattle.rehearsal.specs.Class.{class_ok}
use Rattle.rehearsal.proofs.Setting.class_ok.Goals as goal

pub returns : goal.returns
unfolding class_ok
returns c = chain-every _
