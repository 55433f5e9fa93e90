use native.Mathlib.Omega.{arith}
use mathlib.Core.Path.{◌≡◌, sym, ap, ◌∙◌}
use mathlib.Core.List.{List}
use Prim.Native.Nat.{ℕ}
use Rattle.codes.specs.Reading.{page_mended, page_mends}
use Rattle.ecc.proofs.Checking.{unreadable-is, readable-is, mends-is}
use Rattle.ecc.proofs.Mending.{copied}
use Rattle.codes.proofs.Pages.{none-mended}
use Rattle.ecc.proofs.decode.Goals as goal

pub returns-then-n-ne0-clause-data : goal.returns-then-n-ne0-clause-data
returns-then-n-ne0-clause-data c = let a = c.args in
    let copy = c.copy_pages.ensures ∙ copied a.m a.page.now a.out.now c.requires.1 c.requires.0 in
    rw (readable-is a.m a.page.now a.codes.now _ c.in_ok-n.ensures)
    (c.mend.ensures ∙ ap (λ (l : List ℕ). page_mended a.m l a.codes.now) copy)

pub returns-else-n-ne0-clause-data : goal.returns-else-n-ne0-clause-data
returns-else-n-ne0-clause-data c = let a = c.args in
    let can = readable-is a.m a.page.now a.codes.now _ c.in_ok-n.ensures in
    let none : page_mends a.m a.page.now a.codes.now ≡ 0
    = (let h = mends-is a.m a.page.now a.codes.now _ c.in_ok-n.ensures in let l = c.if-n-ne0.false in omega arith) in
    let copy = c.copy_pages.ensures ∙ copied a.m a.page.now a.out.now c.requires.1 c.requires.0 in
    rw can (copy ∙ sym (none-mended a.m a.page.now a.codes.now c.requires.1 can none))

pub returns-in_err-n-clause-data : goal.returns-in_err-n-clause-data
returns-in_err-n-clause-data c = let a = c.args in rw (unreadable-is a.m a.page.now a.codes.now _ c.in_err-n.ensures)
