use Rattle.chip.specs.Loan.{buffers_of}
use Rattle.answer.specs.Numbers.{write_of}
use Rattle.keeping.proofs.Keeping.{keep-page}
use Rattle.keeping.proofs.part.Goals as goal

pub returns-clause-wrote : goal.returns-clause-wrote
returns-clause-wrote c =
    let u = buffers_of c.args.chip.now c.args.pspace.now c.args.bspace.now in
    let w = c.write.ensures.wrote in
    record { wrote = w; kept-is = keep-page _ _ u _ _ _ _ c.keep_page.ensures (write_of c.write.result) w.wrote.refused-is }
