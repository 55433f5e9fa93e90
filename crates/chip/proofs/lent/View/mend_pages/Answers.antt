use mathlib.Core.Path.{sym, ap, ◌∙◌}
use lib.ListN.{length}
use Rattle.prelude.proofs.Tab.{done_none, done_all}
use Rattle.prelude.proofs.Pages.{pages-length}
use Rattle.chip.proofs.Merging.{in_stretch, codes-facing_on, mended-read, mended-kept}
use Rattle.chip.proofs.lent.View.mend_pages.Goals as goal
use Rattle.chip.proofs.lent.View.mend_pages.Goals.{then-has, else-has}

pub loop-o-init : goal.loop-o-init
loop-o-init c = let a = c.args in
    (c.requires.0, done_none _ _ _ _ (pages-length a.self.sizes.page_size a.self.sizes.pages_per_block a.stretch.now))

pub mend_page-requires : goal.mend_page-requires
mend_page-requires c = let inv = c.loop-o.invariant in let t = c.loop-o-test.true in (
  rw c.page_of-n.ensures (c.requires.1 _ t (sym c.has.ensures ∙ c.if-has.true)),
  in_stretch _ _ _ _ inv.0.facing _ t,
)

pub loop-o-preserved : goal.loop-o-preserved
loop-o-preserved c =
    let inv = c.loop-o.invariant in
    elim c.if-has.branch [
      | then-has w ↦
          let e = rw w.page_of-n.ensures at w.mend_page.ensures in (
            codes-facing_on inv.0 _ (ap length w.stretch-is ∙ w.mend_page.auto.dst),
            rw (w.stretch-is ∙ e) (mended-read _ _ _ _ _ _ _ inv.0 _ c.loop-o-test.true inv.1 (sym c.has.ensures ∙ w.if-has.true)),
          )
      | else-has w ↦ (
        codes-facing_on inv.0 _ (ap length w.stretch-is),
        rw w.stretch-is
            (mended-kept _ _ _ _ _ _ _ inv.0 _ c.loop-o-test.true inv.1 (sym c.has.ensures ∙ w.if-has.false)),
      )
    ]

pub returns : goal.returns
returns c = done_all _ _ _ _ _ _ c.loop-o.invariant.1 c.loop-o-test.false
