-- done bytes of the script's output are written, and what the walk prints from here on is the rest of it
use Rattle.std.proofs.Common.{◌-◌, length, take}
use Rattle.std.specs.Io.KnownBytes.{Appends}
use Rattle.store.specs.View.{plain_lent}
use Rattle.interpret.specs.Lines.{output_of}
use Rattle.clash.proofs.Running.{Running}
use Rattle.clash.proofs.run.Given as goal

abbrev pub invariant-loop-done : goal.invariant-loop-done
invariant-loop-done g l = Running l.script l.w l.done (plain_lent l.flash l.wear l.pspace l.bspace) l.page l.out
    × Appends (g.W.Write.contents l.initial.to) (g.W.Write.contents l.to) (take l.done (output_of l.script))

abbrev pub decreases-loop-done : goal.decreases-loop-done
decreases-loop-done g l = length l.script - l.w.at
