-- One write more.
use Rattle.std.proofs.Common.{rules, subst}
use Rattle.std.specs.Io.KnownBytes.{Appends}
use Rattle.std.proofs.KnownBytes.{Appends-trans}
use Rattle.streams.proofs.Parts.{take_more}
use Rattle.streams.proofs.write_full.Goals as goal

pub loop-done-preserved : goal.loop-done-preserved
loop-done-preserved g c = (
  search rules,
  subst (Appends _ _) (take_more c.loop-done.done c.in_ok-n.n _)
      (Appends-trans _ _ _ _ _ c.loop-done.invariant.1 c.in_ok-n.ensures.ok),
)
