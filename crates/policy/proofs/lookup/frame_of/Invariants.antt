use Rattle.std.proofs.Common.{eqb}
use Rattle.prelude.proofs.Scan.{Missed}
use Rattle.model.specs.Directory.{frame_at}
use Rattle.cache.specs.View.{directory_of}
use Rattle.policy.proofs.lookup.frame_of.Given as goal

-- no frame before f is block b's
abbrev pub invariant-loop-f : goal.invariant-loop-f
invariant-loop-f l = Missed (λ g. eqb (frame_at (directory_of l.directory) g) l.b.0) l.f
