-- One read more.
use Rattle.std.proofs.Common.{◌+◌, ◌-◌, ◌++◌, rules, arith, length, take, sym, ap, ◌∙◌, subst, le_refl}
use Rattle.std.proofs.lemmas.Slice.{take-put_mid_below}
use Rattle.std.specs.Io.KnownBytes.{Consumes}
use Rattle.std.proofs.KnownBytes.{Consumes-trans}
use borrow.Rule.Slice.PartMut.{put_mid}
use Rattle.streams.proofs.Parts.{take_split, slice_range-put_mid}
use Rattle.streams.proofs.read_full.Goals as goal

pub loop-done-preserved : goal.loop-done-preserved
loop-done-preserved g c =
    let at = c.loop-done.done in
    let n = c.in_ok-n.n in
    let room = length c.loop-done.into - at in
    let within = c.loop-done.invariant.1 in
    let part = slice_range-put_mid at room n c.loop-done.into c.read_again.new.into within c.in_ok-n.ensures.within.0 in
    let joined = take_split at (at + n) c.loop-done.into (put_mid at room c.loop-done.into c.read_again.new.into) (omega arith)
    (take-put_mid_below _ _ _ _ _ (le_refl _) within) in (
      search rules,
      search rules,
      subst (Consumes _ _) (ap (λ l. take at c.loop-done.into ++ l) (sym part) ∙ joined)
          (Consumes-trans _ _ _ _ _ c.loop-done.invariant.2 c.in_ok-n.ensures.bytes),
    )
