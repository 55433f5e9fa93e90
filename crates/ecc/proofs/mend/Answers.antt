use native.Mathlib.Omega.{arith}
use mathlib.Core.Path.{◌≡◌, sym, ap, ◌∙◌}
use mathlib.Core.List.{List}
use Prim.Native.Nat.{ℕ}
use Rattle.page.proofs.Part.{got, put}
use Rattle.prelude.specs.Pages.{page_at, put_page}
use Rattle.codes.specs.Reading.{flipped}
use Rattle.ecc.proofs.Mending.{mend-start, mend-keep, mend-flip, mend-end}
use Rattle.ecc.proofs.mend.Goals as goal
use Rattle.ecc.proofs.mend.Goals.{then-not-few, else-not-few}

pub loop-i-init : goal.loop-i-init
loop-i-init c =
    mend-start c.args.m c.args.page.now c.args.codes.now c.requires.0

pub loop-i-preserved : goal.loop-i-preserved
loop-i-preserved c =
    let a = c.args in
    let l = c.loop-i in
    let e = c.differing-x.ensures.0 in
    elim c.if-not-few.branch [
      | then-not-few w ↦ let k = w.named-k.result in
          let chunk = page_at 256 l.page l.i in
          let page-is : c.if-not-few.page ≡ put_page 256 l.page l.i (flipped chunk k)
          = w.page-is ∙ put 256 l.page l.i _
          ∙ ap (put_page 256 l.page l.i) (w.flip.ensures ∙ ap (λ (d : List ℕ). flipped d k) (got 256 l.page l.i)) in
          rw page-is (mend-flip a.m a.page.now a.codes.now l.i _ l.page c.loop-i-test.true l.invariant e
          k (sym c.few.ensures ∙ w.if-not-few.true) w.named-k.ensures.0 w.named-k.ensures.1)
      | else-not-few w ↦ rw w.page-is (mend-keep a.m a.page.now a.codes.now l.i _ l.page c.loop-i-test.true l.invariant e
          (sym c.few.ensures ∙ w.if-not-few.false))
    ]

pub returns : goal.returns
returns c =
    let a = c.args in
    let l = c.loop-i in
    mend-end a.m a.page.now a.codes.now l.i l.page (omega arith) l.invariant
