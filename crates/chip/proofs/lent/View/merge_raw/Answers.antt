use native.Mathlib.Omega.{arith}
use Prim.Native.Nat.{◌≤◌}
use Rattle.prelude.proofs.Tab.{done_none, done_all}
use Rattle.prelude.proofs.Pages.{pages-length}
use Rattle.chip.proofs.Merging.{facing-on, run-in_flash, run-in_stretch, next_low, next-high, merged-turn}
use Rattle.chip.proofs.lent.View.merge_raw.Goals as goal
use Rattle.chip.proofs.lent.View.merge_raw.Goals.{After-next-e}

-- the next valid offset, or K
low : (c : After-next-e) → c.loop-o.o ≤ c.next-e.result
low c = next_low _ _ _ _ c.loop-o-test.true c.next-e.ensures

high : (c : After-next-e) → c.next-e.result ≤ c.args.self.sizes.pages_per_block
high c = next-high _ _ _ _ c.loop-o-test.true c.next-e.ensures

pub loop-o-init : goal.loop-o-init
loop-o-init c = let a = c.args in
    (c.requires, done_none _ _ _ _ (pages-length a.self.sizes.page_size a.self.sizes.pages_per_block a.stretch.now))

pub overflow_sub-e : goal.overflow_sub-e
overflow_sub-e c = let next = (goal.at.overflow_sub-e c).After-next-e in low next

pub read_pages-requires : goal.read_pages-requires
read_pages-requires c =
    let next = (goal.at.read_pages-requires c).After-next-e in
    let inv = c.loop-o.invariant in let l = high next in let m = low next in
    (rw c.page_of-n.ensures (run-in_flash _ _ _ _ inv.0 _ _ (omega arith)), run-in_stretch _ _ _ _ inv.0 _ _ (omega arith))

pub overflow_add-o : goal.overflow_add-o
overflow_add-o c = let next = (goal.at.overflow_add-o c).After-next-e in let l = high next in
    let k = c.loop-o.invariant.0.limits.K_high in omega arith

pub loop-o-smaller : goal.loop-o-smaller
loop-o-smaller c = let next = (goal.at.loop-o-smaller c).After-next-e in let l = low next in
    let t = c.loop-o-test.true in omega arith

pub loop-o-preserved : goal.loop-o-preserved
loop-o-preserved c =
    let inv = c.loop-o.invariant in
    let e = rw c.page_of-n.ensures at c.read_pages.ensures in (
      facing-on _ _ _ _ inv.0 _ c.read_pages.auto.dst,
      rw e (merged-turn _ _ _ _ _ _ _ _ c.loop-o-test.true c.next-e.ensures inv.0 inv.1),
    )

pub returns : goal.returns
returns c = done_all _ _ _ _ _ _ c.loop-o.invariant.1 c.loop-o-test.false
