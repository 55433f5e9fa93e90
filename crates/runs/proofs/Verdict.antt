-- A chain of refusals: where a test passes it stops there, and else it goes on.
-- the rows are checked before the proofs, so that a definition that breaks one is refused there
use Rattle.runs.proofs.Rows
use mathlib.Core.Path.{◌≡◌}
use mathlib.Core.Bool.{Bool, true, false}
use Prim.Native.Nat.{ℕ}
use Rattle.runs.specs.Verdict.{Verdict, refuse, unless}

pub stops : (b : Bool) (n : ℕ) (v : Verdict) → b ≡ true → unless b n v ≡ refuse n
unfolding unless
stops b n v h = rw (h, unless)

pub goes : (b : Bool) (n : ℕ) (v : Verdict) → b ≡ false → unless b n v ≡ v
unfolding unless
goes b n v h = rw (h, unless)
