use Rattle.std.proofs.Common.{◌≡◌}
use Rattle.script.specs.Parts.{end_of}
use Rattle.script.proofs.end_of.Given as goal

-- byte b does not stand between at and i, so the end from i on is the end from at on
abbrev pub invariant-loop-i : goal.invariant-loop-i
invariant-loop-i l = end_of l.b l.s l.at ≡ end_of l.b l.s l.i
