use mathlib.Core.Path.{◌≡◌}
use Rattle.prelude.specs.Scan.{all}
use Rattle.model.specs.Soundness.{slot_past}
use Rattle.cache.specs.View.{sizes_of, directory_of}
use Rattle.sound.proofs.slots_past.Given as goal

-- ok says whether the slots past P, before j, are vacant
abbrev pub invariant-loop-j : goal.invariant-loop-j
invariant-loop-j l = l.ok ≡ all l.j (slot_past (sizes_of l.fn.sizes) (directory_of l.directory))
