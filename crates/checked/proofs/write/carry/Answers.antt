use Rattle.std.proofs.Common.{rules}
use Rattle.model.specs.Formats.{store_format}
use Rattle.model.proofs.Buffers.{fits-of}
use Rattle.chip.specs.Loan as loan
use Rattle.checked.proofs.Carrying.{chip-fits, fits-after, called-as, writable, write_done_lem}
use Rattle.cache.specs.View.{directory_of}
use Rattle.lent.specs.Loan.{buffers_of}
use Rattle.checked.specs.Called.{store_with}
use native.Mathlib.Omega.{arith}
use Rattle.checked.proofs.write.carry.Goals as goal

pub invariant_of-chip : goal.invariant_of-chip
invariant_of-chip c =
    let f = chip-fits (store_with c.args.z (directory_of c.args.directory.now) (buffers_of c.args.lent.now c.args.pspace.now))
    c.requires.0 c.requires.1 in
    record { lent = f.0; wear_length = f.1 }

pub write-requires : goal.write-requires
write-requires c = let p = c.requires in writable _ c.args.n.0 c.args.page.now p

pub returns-clause-called : goal.returns-clause-called
returns-clause-called c =
    let p = c.requires in let w = c.write in
    let f = fits-of store_format _ _ p.1 in
    called-as (search rules) (write_done_lem _ c.args.n.0 c.args.page.now p (loan.buffers_of w.new.chip w.new.pspace w.new.bspace)
    (fits-after c.args.z w.new.chip _ _ w.ensures.loan.sizes (omega (arith, w.auto, f)) (omega (arith, w.auto, f))) _ _ _ _ w.ensures.wrote)
