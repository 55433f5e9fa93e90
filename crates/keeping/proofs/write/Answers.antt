use Rattle.chip.specs.Loan.{buffers_of}
use Rattle.answer.specs.Numbers.{write_of}
use Rattle.keeping.proofs.Keeping.{keep-beside, keep-few, keep-page}
use Rattle.keeping.proofs.write.Goals as goal

pub write-requires : goal.write-requires
write-requires c =
    let p = c.requires in
    let u = buffers_of c.args.chip.now c.args.pspace.now c.args.bspace.now in
    record {
      ready = p.ready;
      page-lt = p.page-lt;
      page-length = p.page-length;
      few = rw c.from-beside.ensures (keep-few _ _ u _ _ _ _ c.keep_page-given.ensures p.ready.sound.limits);
    }

pub returns-clause-wrote : goal.returns-clause-wrote
returns-clause-wrote c =
    let u = buffers_of c.args.chip.now c.args.pspace.now c.args.bspace.now in
    let k = c.keep_page-given.ensures in
    let w = c.write.ensures.wrote _ (rw c.from-beside.ensures (keep-beside _ _ u _ _ _ _ k)) in
    record { wrote = w; kept-is = keep-page _ _ u _ _ _ _ k (write_of c.write.result) w.refused-is }
