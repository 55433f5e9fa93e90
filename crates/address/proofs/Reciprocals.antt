-- The table of reciprocals, tested entry by entry.
use mathlib.Core.Path.{◌≡◌, refl}
use mathlib.Core.Bool.{Bool, true, ◌&&◌, ◌||◌}
use mathlib.Core.List.{List, [], ◌∷◌}
use Prim.Native.Nat.{ℕ, ◌+◌, ◌*◌, ◌≤◌, ◌<◌, ◌^◌}
use native.Mathlib.Omega.{arith}
use lib.Dec.{leb, ltb}
use lib.ListN.{get_or}
use borrow.Author.Tests.{leb-true, ltb-true, le-ltb}
use Rattle.prelude.specs.Scan.{all}
use Rattle.prelude.proofs.Scan.{all-at}
use Rattle.prelude.proofs.Tests.{and_l, and_r}

-- the numbers of the code's table: the proof of `reciprocal` refuses others
unfoldable pub table : List ℕ
table =
    0 ∷ 0 ∷ 2147483648 ∷ 1431655766 ∷ 1073741824 ∷ 858993460 ∷ 715827883 ∷ 613566757 ∷ 536870912 ∷ 477218589 ∷
    429496730 ∷ 390451573 ∷ 357913942 ∷ 330382100 ∷ 306783379 ∷ 286331154 ∷ 268435456 ∷ 252645136 ∷ 238609295 ∷ 226050911 ∷
    214748365 ∷ 204522253 ∷ 195225787 ∷ 186737709 ∷ 178956971 ∷ 171798692 ∷ 165191050 ∷ 159072863 ∷ 153391690 ∷ 148102321 ∷
    143165577 ∷ 138547333 ∷ 134217728 ∷ 130150525 ∷ 126322568 ∷ 122713352 ∷ 119304648 ∷ 116080198 ∷ 113025456 ∷ 110127367 ∷
    107374183 ∷ 104755300 ∷ 102261127 ∷ 99882961 ∷ 97612894 ∷ 95443718 ∷ 93368855 ∷ 91382283 ∷ 89478486 ∷ 87652394 ∷
    85899346 ∷ 84215046 ∷ 82595525 ∷ 81037119 ∷ 79536432 ∷ 78090315 ∷ 76695845 ∷ 75350304 ∷ 74051161 ∷ 72796056 ∷
    71582789 ∷ 70409300 ∷ 69273667 ∷ 68174085 ∷ 67108864 ∷ []

-- entry k is 2^32 divided by k, rounded up; entries 0 and 1 are nothing
rounded_up : ℕ → Bool
rounded_up k = ltb k 2 || (leb (2 ^ 32) (get_or table k 0 * k) && ltb (get_or table k 0 * k) (2 ^ 32 + k))

all-rounded : all 65 rounded_up ≡ true
unfolding all rounded_up table
all-rounded = refl

pub reciprocal_is : (k : ℕ) → 2 ≤ k → k ≤ 64 → (2 ^ 32 ≤ get_or table k 0 * k) × (get_or table k 0 * k < 2 ^ 32 + k)
unfolding rounded_up
reciprocal_is k low high =
    let h : (leb (2 ^ 32) (get_or table k 0 * k) && ltb (get_or table k 0 * k) (2 ^ 32 + k))
    ≡ true = (rw (le-ltb k 2 low) at (all-at 65 rounded_up all-rounded k (omega arith))) in
    (leb-true _ _ (and_l (leb (2 ^ 32) (get_or table k 0 * k)) _ h), ltb-true _ _ (and_r (leb (2 ^ 32) (get_or table k 0 * k)) _ h))
