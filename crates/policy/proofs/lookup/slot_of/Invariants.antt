use Rattle.std.proofs.Common.{eqb}
use Rattle.prelude.proofs.Scan.{Missed}
use Rattle.model.specs.Directory.{slot_at}
use Rattle.cache.specs.View.{directory_of}
use Rattle.policy.proofs.lookup.slot_of.Given as goal

-- no slot before i has page n
abbrev pub invariant-loop-i : goal.invariant-loop-i
invariant-loop-i l = Missed (λ j. eqb (slot_at (directory_of l.directory) j) l.n.0) l.i
