use native.Mathlib.Omega.{arith}
use Rattle.std.proofs.Common.{rules}
use Rattle.model.specs.Formats.{store_format}
use Rattle.model.proofs.Buffers.{fits-of}
use Rattle.cache.specs.View.{directory_of}
use Rattle.lent.specs.Loan.{buffers_of}
use Rattle.chip.specs.Loan as loan
use Rattle.checked.specs.Called.{store_with}
use Rattle.checked.proofs.Carrying.{checked-at, chip-fits, fits-after, called-as, ready, flush-done}
use Rattle.checked.proofs.flush.flush.Goals as goal

pub invariant_of-chip : goal.invariant_of-chip
invariant_of-chip c =
    let p = checked-at c.args.z (directory_of c.args.directory.now) c.view.ensures c.in_ok-ready.ensures in
    let f = chip-fits (store_with c.args.z (directory_of c.args.directory.now) (buffers_of c.args.lent.now c.args.pspace.now)) p.0 p.1 in
    record { lent = f.0; wear_length = f.1 }

pub flush-requires : goal.flush-requires
flush-requires c =
    let p = checked-at c.args.z (directory_of c.args.directory.now) c.view.ensures c.in_ok-ready.ensures in
    ready (store_with c.args.z (directory_of c.args.directory.now) (buffers_of c.args.lent.now c.args.pspace.now)) p.0 p.1

pub returns-clause-called : goal.returns-clause-called
returns-clause-called c =
    let p = checked-at c.args.z (directory_of c.args.directory.now) c.view.ensures c.in_ok-ready.ensures in let w = c.flush in
    let f = fits-of store_format _ _ p.1 in
    called-as (search rules) (flush-done _ p.0 p.1 (loan.buffers_of w.new.chip c.args.pspace.now w.new.bspace)
    (fits-after c.args.z w.new.chip _ _ w.ensures.loan.sizes f.pspace-length (omega (arith, w.auto, f))) _ _ _ _ w.ensures.carried)
