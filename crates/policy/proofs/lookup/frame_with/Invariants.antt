use Rattle.prelude.proofs.Scan.{Missed}
use Rattle.model.specs.Directory.{inFrame}
use Rattle.cache.specs.View.{sizes_of, directory_of}
use Rattle.policy.proofs.lookup.frame_with.Given as goal

-- no frame before f has page n valid
abbrev pub invariant-loop-f : goal.invariant-loop-f
invariant-loop-f l = Missed (inFrame (sizes_of l.fn.z) (directory_of l.directory) l.fn.n.0) l.f
