use mathlib.Core.Path.{◌≡◌}
use mathlib.Core.Bool.{not}
use Rattle.prelude.specs.Scan.{all}
use Rattle.model.specs.Directory.{inFrame}
use Rattle.cache.specs.View.{sizes_of, directory_of}
use Rattle.sound.proofs.outside.Given as goal

-- ok says whether none of the frames before f has the page valid
abbrev pub invariant-loop-f : goal.invariant-loop-f
invariant-loop-f l = l.ok ≡ all l.f (λ g. not (inFrame (sizes_of l.fn.sizes) (directory_of l.directory) l.fn.n.0 g))
