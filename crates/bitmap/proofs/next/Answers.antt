use Rattle.std.proofs.Common.{◌≡◌, sym, ◌∙◌, bit_and, ◌-◌, ◌<◌, ◌^◌, ℕ, refl, arith}
use Rattle.std.proofs.lemmas.Nat.{and_le_l}
use Rattle.std.proofs.Math.Nat.{div-le_self}
use Rattle.bitmap.proofs.Places.{rest, found, none_there, zeros, one_there}
use Rattle.bitmap.proofs.next.Goals as goal

small : (v w at : ℕ) → v < 2 ^ 64 → rest v w at < 2 ^ 64
small v w at h = omega (arith, div-le_self (bit_and v (18446744073709551615 - w)) (2 ^ at), and_le_l v (18446744073709551615 - w))

pub returns-then-at-eq64 : goal.returns-then-at-eq64
returns-then-at-eq64 c = let a = c.args in let e : a.k ≡ 64 = omega arith in
    sym e ∙ none_there a.v a.w a.at c.ranges.w.fits a.k c.requires.0 c.requires.1 (λ j l. absurd (omega arith))

pub returns-then-o-k : goal.returns-then-o-k
returns-then-o-k c = let a = c.args in let s = small a.v a.w a.at c.ranges.v.fits in
    found a.v a.w a.at c.ranges.w.fits a.k _ c.requires.1 c.if-o-k.true (one_there _ _ s refl (omega arith)) (zeros _ _ s refl)

pub returns-else-o-k : goal.returns-else-o-k
returns-else-o-k c = let a = c.args in let s = small a.v a.w a.at c.ranges.v.fits in
    none_there a.v a.w a.at c.ranges.w.fits a.k c.requires.0 c.requires.1 (λ j l. zeros _ _ s refl j (omega arith))
