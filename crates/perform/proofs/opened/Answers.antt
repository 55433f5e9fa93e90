use Prim.Native.Nat.{◌*◌}
use mathlib.Core.Path.{◌≡◌, sym, ◌∙◌}
use Rattle.store.specs.View.{plain_lent}
use Rattle.perform.proofs.Opening.{no-pages, fresh-is, refused-carries, open_carries}
use Rattle.perform.proofs.opened.Goals as goal

pub returns-then-not-ok : goal.returns-then-not-ok
returns-then-not-ok c =
    rw c.printed.ensures (refused-carries _ _ _ _ _ c.args.c (sym c.ok.ensures ∙ c.if-not-ok.true)
    c.put_open_refused.ensures)

pub returns : goal.returns
returns c =
    let a = c.args in
    let ok = sym c.ok.ensures ∙ c.if-not-ok.false in
    let fits = (c.requires.0 ok).0 in
    let none : 0 ≡ a.sizes.shelf_pages * a.sizes.page_size = no-pages _ _ (c.requires.0 ok).1 in
    rw c.printed-2.ensures (open_carries _ _ _ _ _ _ (fits.codes-length, fits.marks-length, none) ok
    (fresh-is _ (plain_lent a.flash.now a.wear.now a.pspace.now a.bspace.now) fits _ _ _ _
    c.fill.ensures c.fill-2.ensures c.fill-3.ensures c.fill-4.ensures)
    c.open-r.result c.open-r.ensures c.opening.ensures)
