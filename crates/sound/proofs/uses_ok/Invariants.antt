use mathlib.Core.Path.{◌≡◌}
use Rattle.prelude.specs.Scan.{all}
use Rattle.model.specs.Soundness.{uses_ok}
use Rattle.cache.specs.View.{sizes_of, directory_of}
use Rattle.sound.proofs.uses_ok.Given as goal

-- ok says whether the frames before f have uses where they are occupied, and else none
abbrev pub invariant-loop-f : goal.invariant-loop-f
invariant-loop-f l = l.ok ≡ all l.f (uses_ok (sizes_of l.fn.sizes) (directory_of l.directory))
