-- done bytes of the output are written, and the lines from here on print the rest of it
use Rattle.std.proofs.Common.{◌-◌, length, take}
use Rattle.std.specs.Io.KnownBytes.{Appends}
use Rattle.rehearsals.specs.Lines.{output_of}
use Rattle.rehearse.proofs.Running.{Running}
use Rattle.rehearse.proofs.run.Given as goal

abbrev pub invariant-loop-at : goal.invariant-loop-at
invariant-loop-at g l = Running l.script l.at l.number l.done l.out
    × Appends (g.W.Write.contents l.initial.to) (g.W.Write.contents l.to) (take l.done (output_of l.script))

abbrev pub decreases-loop-at : goal.decreases-loop-at
decreases-loop-at g l = length l.script - l.at
