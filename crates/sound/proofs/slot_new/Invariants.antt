use mathlib.Core.Path.{◌≡◌}
use mathlib.Core.Bool.{not}
use lib.Dec.{eqb}
use Rattle.prelude.specs.Scan.{all}
use Rattle.model.specs.Directory.{slot_at}
use Rattle.cache.specs.View.{directory_of}
use Rattle.sound.proofs.slot_new.Given as goal

-- ok says whether the slots before i differ from slot j
abbrev pub invariant-loop-i : goal.invariant-loop-i
invariant-loop-i l = l.ok ≡ all l.i (λ h. not (eqb (slot_at (directory_of l.directory) h) (slot_at (directory_of l.directory) l.fn.j)))
