use borrow.Author.Rules.{rules}
use native.Mathlib.Omega.{arith}
use mathlib.Core.Path.{◌≡◌, ap, ◌∙◌}
use Prim.Native.Nat.{ℕ, ◌-◌}
use Rattle.prelude.specs.Scan.{count}
use Rattle.prelude.specs.Bits.{bit}
use Rattle.prelude.proofs.Scan.{count-le}
use Rattle.prelude.proofs.Bits.{count-within}
use Rattle.model.specs.Policy.{valid_count}
use Rattle.page.specs.Page.{HasPage}
use Rattle.chip.proofs.Rewriting.{in_bspace, bspace-small, settled, frames-are, cells_are}
use Rattle.chip.proofs.lent.Chip.rewrite.Goals as goal
use Rattle.chip.proofs.lent.Chip.rewrite.Goals.{After-block_size-size, After-count}

counted : (c : After-count) → c.count.result ≡ count c.args.self.now.sizes.pages_per_block (bit c.args.v)
counted c = c.count.ensures
    ∙ count-within c.args.self.now.sizes.pages_per_block 64 _ c.requires.valid-lt c.requires.erasable.lent.codes-lent.limits.K_high

fits : (c : After-block_size-size) → HasPage c.block_size-size.result c.args.bspace.now c.args.f
fits c = rw c.block_size-size.ensures (in_bspace c.requires)

pub overflow_sub-merged : goal.overflow_sub-merged
overflow_sub-merged c = let number = (goal.at.overflow_sub-merged c).After-count in rw (counted number) (count-le _ _)

pub slice_bounds-merge-end : goal.slice_bounds-merge-end
slice_bounds-merge-end c = let size = (goal.at.slice_bounds-merge-end c).After-block_size-size in
    omega (arith, fits size, bspace-small c.requires)

pub merge-requires : goal.merge-requires
merge-requires c = let q = c.requires.erasable in let e = c.view.ensures in rw (e.sizes, e.flash, e.codes) (
  record {
    codes-lent = q.lent.codes-lent;
    facing = record {
      limits = q.lent.codes-lent.limits;
      b_lt = q.b_lt;
      flash-length = q.lent.codes-lent.flash-length;
      stretch-length = search rules;
    };
  },
  settled c.requires,
)

pub returns-clause-rewritten : goal.returns-clause-rewritten
unfolding valid_count
returns-clause-rewritten c = let number = (goal.at.returns-clause-rewritten c).After-count in
    let p = c.program_block-left.ensures.programmed in
    let v = c.view.ensures in
    let merge = rw (v.sizes, v.flash, v.codes) at c.merge.ensures in
    record {
      reads_are = λ d e. rw e (ap (λ (x : ℕ). c.args.self.now.sizes.pages_per_block - x) (counted number));
      cells_are = λ d e. cells_are _ _ _ _ _ _ _ _ _ _ c.requires d e _ c.block_size-size.ensures _
          c.merge.auto.stretch merge _ _ p.cells_are;
      frames-are = λ d e. frames-are _ _ _ _ _ _ _ _ _ _ c.requires d e _ c.block_size-size.ensures _
          c.merge.auto.stretch merge;
      wear-is = p.wear-is;
      left_is = p.left_is;
    }
