use Rattle.rehearsal.proofs.Gives.{read-gives}
use Rattle.rehearsal.proofs.serve.serve_read.Goals as goal

pub returns : goal.returns
returns c = read-gives _ c.args.n _ _ _ c.fill.ensures c.read-r.result _ c.read-r.ensures
