use mathlib.Core.Path.{refl, sym}
use Rattle.std.proofs.lemmas.Result.{err_from_is_err_and}
use Rattle.model.specs.Calls.{Store, read, call}
use Rattle.cache.specs.View.{directory_of}
use Rattle.lent.specs.Loan.{buffers_seen}
use Rattle.checked.specs.Called.{store_with}
use Rattle.checked.proofs.Carrying.{readable, chip-fits, read_done_lem, read-late}
use Rattle.checked.proofs.read.read.Goals as goal
use Rattle.checked.proofs.read.read.Goals.{Start}

-- as the call began
abbrev store : Start → Store
store s = let a = s.args in store_with a.z (directory_of a.directory.now) (buffers_seen a.lent)

pub returns-in_err-page_ready : goal.returns-in_err-page_ready
unfolding call
returns-in_err-page_ready c =
    let p = err_from_is_err_and c.from_residual.result c.from_residual.ensures.1 in
    rw (p.1, p.2) (sym (c.in_err-page_ready.ensures (read c.args.n.0 c.args.page.now) (refl, refl) _))

pub invariant_of-view : goal.invariant_of-view
invariant_of-view c =
    let start : Start = search in let p = c.in_ok-page_ready.ensures in
    record { lent = (chip-fits (store start) p.0 p.1).0 }

pub read-done-requires : goal.read-done-requires
read-done-requires c =
    let start : Start = search in let p = c.in_ok-page_ready.ensures in
    readable (store start) _ _ p

pub returns-in-Some : goal.returns-in-Some
returns-in-Some c =
    let start : Start = search in let p = c.in_ok-page_ready.ensures in
    rw c.into.ensures (read-late (store start) c.args.n.0 c.args.page.now
    p _ _ _ c.read-done.ensures _ c.in-Some.is)

pub returns-in-None : goal.returns-in-None
returns-in-None c =
    let start : Start = search in let p = c.in_ok-page_ready.ensures in
    read_done_lem (store start) c.args.n.0 c.args.page.now p
    _ _ _ c.read-done.ensures c.in-None.is
