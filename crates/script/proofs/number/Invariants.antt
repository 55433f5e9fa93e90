use Rattle.std.proofs.Common.{◌≡◌, ◌≤◌, ◌<◌, true, ℕ, drop, get_or}
use Rattle.script.specs.Forms.{is_digit, value_from, value_of}
use Rattle.script.proofs.number.Given as goal

-- the bytes so far are digits, v is their value, and the rest continues from it
abbrev pub invariant-loop-x : goal.invariant-loop-x
invariant-loop-x l = (l.v ≤ 4294967295) × (value_of l.w ≡ value_from l.v (drop l.x-index l.w))
    × ((j : ℕ) → j < l.x-index → is_digit (get_or l.w j 0) ≡ true)
