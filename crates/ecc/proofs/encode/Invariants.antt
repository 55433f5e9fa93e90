use Prim.Native.Nat.{◌*◌}
use Rattle.prelude.proofs.Tab.{Done}
use Rattle.ecc.proofs.Writing.{code_byte}
use Rattle.ecc.proofs.encode.Given as goal

-- The codes of the chunks below i stand, three bytes each, the others are as they were.
abbrev pub invariant-loop-i : goal.invariant-loop-i
invariant-loop-i l = Done 0 (l.m * 3) (code_byte l.page) l.initial.codes (l.i * 3) l.codes
