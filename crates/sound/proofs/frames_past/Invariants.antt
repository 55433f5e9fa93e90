use mathlib.Core.Path.{◌≡◌}
use Rattle.prelude.specs.Scan.{all}
use Rattle.model.specs.Soundness.{framePast}
use Rattle.cache.specs.View.{sizes_of, directory_of}
use Rattle.sound.proofs.frames_past.Given as goal

-- ok says whether the frames past B, before f, are vacant with no bits and their own index in the order
abbrev pub invariant-loop-f : goal.invariant-loop-f
invariant-loop-f l = l.ok ≡ all l.f (framePast (sizes_of l.fn.sizes) (directory_of l.directory))
