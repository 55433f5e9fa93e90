use native.Mathlib.Omega.{arith}
use Prim.Native.Nat.{◌<◌}
use mathlib.Core.Path.{◌∙◌}
use borrow.Author.Rules.{rules}
use Rattle.prelude.proofs.Pages.{in_run}
use Rattle.model.proofs.Lookup.{page-lt}
use Rattle.chip.proofs.Operations.{on_page, on_all}
use Rattle.chip.proofs.lent.Chip.program_pages.Goals as goal
use Rattle.chip.proofs.lent.Chip.program_pages.Goals.{In-loop-o}

low : (c : In-loop-o) → c.loop-o.o < c.args.self.now.sizes.pages_per_block
low c = let m = c.requires.2 in let t = c.loop-o-test.true in omega arith

pub program_page-requires : goal.program_page-requires
program_page-requires c = let in-loop = (goal.at.program_page-requires c).In-loop-o in let e = c.loop-o.invariant.0.sizes in (
  rw (e, c.page_of-n.ensures) (page-lt _ c.args.self.now.lent.codes-lent.limits _ _ c.requires.0 (low in-loop)),
  rw e (in_run _ _ c.args.stretch.now c.requires.1 (low in-loop)),
)

pub loop-o-preserved : goal.loop-o-preserved
loop-o-preserved c =
    let in-loop = (goal.at.loop-o-preserved c).In-loop-o in let inv = c.loop-o.invariant in let p = c.program_page.ensures in (
      search rules,
      p.wear ∙ inv.1,
      on_page _ _ _ _ _ _ _ _ _ _ _ _ _ c.args.self.now.lent.codes-lent.limits c.requires.0 (low in-loop) inv.2
          (rw (inv.0.sizes, c.page_of-n.ensures) at p.programmed),
    )

pub returns-clause-programmed : goal.returns-clause-programmed
returns-clause-programmed c = on_all _ _ _ _ _ _ _ _ _ _ _ (omega arith) c.loop-o.invariant.2
