-- The lowest bit of what v has and w has not, from a place on.
use Rattle.std.proofs.Common.{◌≡◌, ℕ, zero, suc, ◌+◌, ◌-◌, ◌/◌, ◌%◌, ◌^◌, ◌<◌, ◌≤◌, not, ◌&&◌, min, bit_and, eqb, ap, sym, ◌∙◌, refl, arith, w64}
use Rattle.std.specs.Int.{bit_at, trailing_zeros}
use Rattle.std.proofs.lemmas.Nat.{shr-shr}
use Rattle.std.proofs.lemmas.Nat.Bits.{bit_at_and, bit_at_not, bit_at-trailing_zeros, bit_at-zero, bit_at-lt}
use Rattle.std.proofs.lemmas.Bool.Decides.{nat_tests}
use Rattle.prelude.specs.Bits.{bit, bit_without}
use Rattle.prelude.specs.Scan.{first_from}
use Rattle.prelude.proofs.Scan.{from_is}

only : (a b : ℕ) → a < 2 → b < 2 → (eqb a 1 && not (eqb b 1)) ≡ eqb (min a (1 - b)) 1
only a b h k = grind (arith, nat_tests)

-- what v has and w has not, moved down by `at` places
abbrev pub rest : ℕ → ℕ → ℕ → ℕ
rest v w at = bit_and v (18446744073709551615 - w) / 2 ^ at

module _ (v w at : ℕ) (wl : w < 2 ^ 64) where
  place : (i j : ℕ) → at + j ≡ i → i < 64 → bit_without v w i ≡ eqb (bit_at (rest v w at) j) 1
  unfolding bit
  place i j s h =
      let e : bit_at (rest v w at) j ≡ min (bit_at v i) (1 - bit_at w i) =
      ap (λ (x : ℕ). x % 2) (shr-shr _ at j ∙ ap (λ (x : ℕ). bit_and v (18446744073709551615 - w) / 2 ^ x) s) ∙ bit_at_and v _ i ∙ ap (λ (x : ℕ). min (bit_at v i) x) (bit_at_not w64 w i wl h) in
      only _ _ (bit_at-lt v i) (bit_at-lt w i) ∙ ap (λ (x : ℕ). eqb x 1) (sym e)

  -- the search ends at the lowest place, or at k
  pub found : (k o : ℕ) → k ≤ 64 → o < k - at → bit_at (rest v w at) o ≡ 1
      → ((j : ℕ) → j < o → bit_at (rest v w at) j ≡ 0) → at + o ≡ first_from at (k - at) (bit_without v w)
  found k o top l hit miss = from_is at (k - at) (bit_without v w) (at + o) (record {
    low = omega arith;
    high = omega arith;
    hit = λ _. place (at + o) o refl (omega arith) ∙ ap (λ (x : ℕ). eqb x 1) hit;
    miss = λ j a b. place j (j - at) (omega arith) (omega arith) ∙ ap (λ (x : ℕ). eqb x 1) (miss (j - at) (omega arith));
  })

  pub none_there : (k : ℕ) → at ≤ k → k ≤ 64 → ((j : ℕ) → j < k - at → bit_at (rest v w at) j ≡ 0)
      → k ≡ first_from at (k - at) (bit_without v w)
  none_there k h top miss = from_is at (k - at) (bit_without v w) k (record {
    low = h;
    high = omega arith;
    hit = λ l. absurd (omega arith);
    miss = λ j a b. place j (j - at) (omega arith) (omega arith) ∙ ap (λ (x : ℕ). eqb x 1) (miss (j - at) (omega arith));
  })

-- the place of the lowest bit, 64 where there is none
pub zeros : (n t : ℕ) → n < 2 ^ 64 → t ≡ trailing_zeros w64 n → (j : ℕ) → j < t → bit_at n j ≡ 0
zeros zero t h e j l = bit_at-zero j
zeros (suc n) t h e j l = (bit_at-trailing_zeros w64 (suc n) (omega arith) h).2 j (omega arith)

pub one_there : (n t : ℕ) → n < 2 ^ 64 → t ≡ trailing_zeros w64 n → t < 64 → bit_at n t ≡ 1
unfolding lib.Count.count_trailing_zeros
one_there zero t h e l = absurd (let z : t ≡ 64 = e ∙ refl in omega arith)
one_there (suc n) t h e l = rw e (bit_at-trailing_zeros w64 (suc n) (omega arith) h).1
