use native.Mathlib.Omega.{arith}
use mathlib.Core.Path.{◌≡◌, ap, ◌∙◌}
use Prim.Native.Nat.{suc, ◌-◌, ◌*◌, ◌+◌, ◌<◌, ◌≤◌}
use mathlib.Core.List.{◌++◌}
use lib.ListN.{length}
use lib.Dec.{eqb}
use borrow.Author.Tests.{eqb-true, eqb-false}
use Rattle.prelude.specs.Pages.{page_at, put_page}
use Rattle.prelude.proofs.Tests.{by-test}
use Rattle.prelude.proofs.Pages.{in_run}
use Rattle.shelf.proofs.Shelf.{put-below, low-page, other-page, same-length}
use Rattle.shelf.proofs.lower_pages.Goals as goal

pub loop-i-preserved : goal.loop-i-preserved
loop-i-preserved c =
    let at = c.loop-i in let s = c.args.s in let i = at.i in let halves = c.split_at_mut-low.ensures in
    let some : 0 < i = omega arith in
    let inside = in_run s c.args.h c.args.shelf.now c.requires {i = i} (omega arith) in
    let fits : i * s + s ≤ length at.shelf = omega (arith, at.invariant.0, inside) in
    let joined : c.copy_page.new.dst ++ c.split_at_mut-low.result.1.now ≡ put_page s at.shelf (i - 1) (page_at s at.shelf i) =
    rw (c.copy_page.ensures, halves.front, halves.back) (put-below s i at.shelf some fits) in
    rw joined (
      same-length s i at.shelf some fits ∙ at.invariant.0,
      (λ j l. by-test (eqb j (i - 1))
          (λ t. let e = eqb-true j (i - 1) t in let up : suc (i - 1) ≡ i = omega arith in
          rw e (low-page s i at.shelf some fits ∙ at.invariant.2 i (omega arith) ∙ ap (page_at s c.args.shelf.now) (omega arith)))
          (λ t. let ne = eqb-false j (i - 1) t in other-page s i at.shelf some fits j ne ∙ at.invariant.1 j (omega arith))),
      (λ j l. other-page s i at.shelf some fits j (λ q. absurd (omega arith)) ∙ at.invariant.2 j (omega arith)),
    )
