use native.Mathlib.Omega.{arith}
use mathlib.Core.Path.{◌≡◌, refl, sym}
use Prim.Native.Nat.{◌+◌, ◌-◌, ◌*◌}
use Rattle.std.proofs.lemmas.Result.{err_from_is_err_and}
use Rattle.prelude.specs.Pages.{page_at}
use Rattle.prelude.proofs.Pages.{length-page_at}
use Rattle.model.specs.Shelf as model
use Rattle.cache.specs.View.{directory_of}
use Rattle.lent.specs.Loan.{buffers_of}
use Rattle.answer.specs.declared.Refusal.TheVariants as refusals
use Rattle.answer.proofs.Refusals.{write_refused}
use Rattle.checked.proofs.Carrying.{checked-at, down-at}
use Rattle.shelving.proofs.OnLists.{turned_down_lem, down-back, nothing-back, latest-page, latest-small, latest-there, back_on}
use Rattle.shelving.proofs.back.back.Goals as goal

pub returns-in_err-fitting-clause-shelved : goal.returns-in_err-fitting-clause-shelved
returns-in_err-fitting-clause-shelved c =
    let p = err_from_is_err_and c.from_residual.result c.from_residual.ensures.1 in let e = c.in_err-fitting.ensures in
    rw (p.1, p.2) (turned_down_lem _ _ _ _ _ _ model.back e.0 _ e.1)

pub returns-in_err-ready-clause-shelved : goal.returns-in_err-ready-clause-shelved
returns-in_err-ready-clause-shelved c =
    let p = err_from_is_err_and c.from_residual-in_err-ready.result c.from_residual-in_err-ready.ensures.1 in
    let a = c.args in let d = directory_of a.directory.now in let same = c.view.ensures in
    rw (p.1, p.2) (down-back a.z d _ _ _ c.in_ok-fitting.ensures _ _ refl _ (rw (← same) c.in_err-ready.ensures.0)
    (λ k. down-at a.z d same k _ (c.in_err-ready.ensures.1 k)))

pub returns-then-used-eq0-clause-shelved : goal.returns-then-used-eq0-clause-shelved
returns-then-used-eq0-clause-shelved c =
    let p = checked-at c.args.z (directory_of c.args.directory.now) c.view.ensures c.in_ok-ready.ensures in
    nothing-back _ _ _ _ _ c.in_ok-fitting.ensures _ _ c.used-used.ensures c.if-used-eq0.true refusals.Empty (rw (p.0, p.1))

pub offset_bounds-entries-latest : goal.offset_bounds-entries-latest
offset_bounds-entries-latest c =
    let a = c.args in
    let l = latest-small a.z a.entries.now a.shelf.now c.in_ok-fitting.ensures _ c.used-used.ensures c.if-used-eq0.false in omega arith

pub bounds-entries-latest : goal.bounds-entries-latest
bounds-entries-latest c =
    let a = c.args in latest-small a.z a.entries.now a.shelf.now c.in_ok-fitting.ensures _ c.used-used.ensures c.if-used-eq0.false

pub overflow_mul-a : goal.overflow_mul-a
overflow_mul-a c =
    let a = c.args in
    let l = latest-page a.z a.entries.now a.shelf.now c.in_ok-fitting.ensures _ c.used-used.ensures c.if-used-eq0.false in omega arith

pub overflow_add-page : goal.overflow_add-page
overflow_add-page c =
    let a = c.args in
    let l = latest-page a.z a.entries.now a.shelf.now c.in_ok-fitting.ensures _ c.used-used.ensures c.if-used-eq0.false in omega arith

pub slice_bounds-page-end : goal.slice_bounds-page-end
slice_bounds-page-end c =
    let a = c.args in
    let l = latest-page a.z a.entries.now a.shelf.now c.in_ok-fitting.ensures _ c.used-used.ensures c.if-used-eq0.false in omega arith

pub carry-answer-requires : goal.carry-answer-requires
unfolding page_at
carry-answer-requires c =
    let a = c.args in let k = c.used-used.result in
    let p = checked-at a.z (directory_of a.directory.now) c.view.ensures c.in_ok-ready.ensures in
    let q : (k - 1) * a.z.page_size + a.z.page_size - (k - 1) * a.z.page_size ≡ a.z.page_size = omega arith in
    let l = latest-page a.z a.entries.now a.shelf.now c.in_ok-fitting.ensures _ c.used-used.ensures c.if-used-eq0.false in (
      p.0,
      p.1,
      rw q (length-page_at _ _ _ l),
      latest-there a.z a.entries.now a.shelf.now c.in_ok-fitting.ensures _ c.used-used.ensures c.if-used-eq0.false,
    )

pub drop_latest-requires : goal.drop_latest-requires
drop_latest-requires c =
    let a = c.args in latest-small a.z a.entries.now a.shelf.now c.in_ok-fitting.ensures _ c.used-used.ensures c.if-used-eq0.false

pub returns-clause-shelved : goal.returns-clause-shelved
unfolding page_at
returns-clause-shelved c =
    let a = c.args in let k = c.used-used.result in
    let q : (k - 1) * a.z.page_size + a.z.page_size - (k - 1) * a.z.page_size ≡ a.z.page_size = omega arith in
    back_on a.z _ a.entries.now (buffers_of a.lent.now a.pspace.now) a.shelf.now c.in_ok-fitting.ensures
    _ c.used-used.ensures c.if-used-eq0.false _ _ _ _ _ _ _
    (rw (sym (write_refused c.carry-answer.result)) at c.drop_latest.ensures) (rw q at c.carry-answer.ensures.called)
