-- Parities of a word by way of the table, and the code from the parities of a chunk's words.
use mathlib.Core.Logic.{◌≢◌}
use mathlib.Core.Path.{◌≡◌, refl, sym, ap, ap₂, ◌∙◌}
use mathlib.Core.Bool.{Bool, true, false, not, cond, ◌&&◌, xor, and-true}
use mathlib.Core.List.{List}
use Prim.Native.Nat.{ℕ, zero, suc, ◌+◌, ◌-◌, ◌*◌, ◌/◌, ◌%◌, ◌^◌, ◌≤◌, ◌<◌}
use native.Mathlib.Nat.{zero-add, pow-suc}
use native.Mathlib.Omega.{arith}
use lib.Bits.{bit_xor}
use Rattle.prelude.specs.Bits.{bit, mask}
use Rattle.prelude.proofs.Tests.{by-test}
use Rattle.prelude.proofs.Bits.{bit-mod}
use Rattle.codes.specs.Code.{odd, bit_at, code_bit, code_of}
use Rattle.codes.specs.Table.{entry_of}
use Rattle.ecc.specs.declared.words.Sums.{Sums}
use Rattle.ecc.specs.declared.parity.Inner.{Inner}
use Rattle.ecc.specs.Words.{num, Sum, Total, Totals, odd_at, Inners}
use Rattle.codes.proofs.Parity.{false-xor, odd-same, odd-and, odd-xor, odd-rows, odd-swap, bit-xor}
use Rattle.codes.proofs.CodeBits.{side, code-low, code-high, side-odd, side-even}
use Rattle.ecc.proofs.Entries.{byte_odd, entry-parity, entry-odd}
use Rattle.ecc.proofs.ByWords.{bit-shr, bit-low, bit_high, of_all, of_one, of_two, of_four, four-all, four-one, four-two}

-- n rows of k, by columns
columns : (n k : ℕ) (p : ℕ → Bool) → odd (n * k) p ≡ odd k (λ j. odd n (λ i. p (i * k + j)))
columns n k p = odd-rows n k p ∙ odd-swap n k (λ i j. p (i * k + j))

-- ---- the bytes of a word

-- `x ^ (x >> k)`
bit-fold : (x k p : ℕ) → bit (bit_xor x (x / 2 ^ k)) p ≡ xor (bit x p) (bit x (k + p))
bit-fold x k p = bit-xor x (x / 2 ^ k) p ∙ ap (xor (bit x p)) (bit-shr x k p)

-- the folds that the code makes
abbrev pub fold1 : ℕ → ℕ
fold1 x = bit_xor x (x / 2 ^ 8)

abbrev pub fold2 : ℕ → ℕ
fold2 x = bit_xor (fold1 x) (fold1 x / 2 ^ 16)

abbrev pub fold3 : ℕ → ℕ
fold3 x = bit_xor (fold2 x) (fold2 x / 2 ^ 32)

module _ (x q : ℕ) where
  abbrev lane : ℕ → Bool
  lane l = bit x (l * 8 + q)

  e0 : bit x q ≡ lane 0
  e0 = ap (bit x) (sym (zero-add q))

  one-fold : (p : ℕ) → bit (fold1 x) p ≡ xor (bit x p) (bit x (8 + p))
  one-fold p = bit-fold x 8 p

  two-fold : (p : ℕ) → bit (fold2 x) p ≡ xor (xor (bit x p) (bit x (8 + p))) (xor (bit x (16 + p)) (bit x (8 + (16 + p))))
  two-fold p = bit-fold (fold1 x) 16 p ∙ ap₂ xor (one-fold p) (one-fold (16 + p))

  pub fold_all : bit (fold3 x) q ≡ odd 8 lane
  fold_all =
      let e3 : 8 + (16 + q) ≡ 24 + q = omega arith in let e5 : 8 + (32 + q) ≡ 40 + q = omega arith in
      let e6 : 16 + (32 + q) ≡ 48 + q = omega arith in let e7 : 8 + (16 + (32 + q)) ≡ 56 + q = omega arith in
      bit-fold (fold2 x) 32 q ∙ ap₂ xor (two-fold q) (two-fold (32 + q)) ∙ rw (e7, e6, e5, e3, e0) (sym (of_all lane))

  pub fold_one : bit (bit_xor (bit_xor (x / 2 ^ 8) (x / 2 ^ 8 / 2 ^ 16)) (bit_xor (x / 2 ^ 8) (x / 2 ^ 8 / 2 ^ 16) / 2 ^ 32)) q
      ≡ odd 8 (λ l. lane l && bit l 0)
  fold_one = let u : ℕ = x / 2 ^ 8 in let v : ℕ = bit_xor u (u / 2 ^ 16) in
      let e3 : 8 + (16 + q) ≡ 24 + q = omega arith in let e5 : 8 + (32 + q) ≡ 40 + q = omega arith in
      let e7 : 8 + (16 + (32 + q)) ≡ 56 + q = omega arith in
      bit-fold v 32 q ∙ ap₂ xor (bit-fold u 16 q ∙ ap₂ xor (bit-shr x 8 q) (bit-shr x 8 (16 + q)))
      (bit-fold u 16 (32 + q) ∙ ap₂ xor (bit-shr x 8 (32 + q)) (bit-shr x 8 (16 + (32 + q))))
      ∙ rw (e7, e5, e3) (sym (of_one lane))

  pub fold_two : bit (bit_xor (fold1 x / 2 ^ 16) (fold1 x / 2 ^ 48)) q ≡ odd 8 (λ l. lane l && bit l 1)
  fold_two = let e3 : 8 + (16 + q) ≡ 24 + q = omega arith in let e7 : 8 + (48 + q) ≡ 56 + q = omega arith in
      bit-xor (fold1 x / 2 ^ 16) (fold1 x / 2 ^ 48) q ∙ ap₂ xor (bit-shr (fold1 x) 16 q ∙ one-fold (16 + q))
      (bit-shr (fold1 x) 48 q ∙ one-fold (48 + q))
      ∙ rw (e7, e3) (sym (of_two lane))

  pub fold_four : bit (fold2 x / 2 ^ 32) q ≡ odd 8 (λ l. lane l && bit l 2)
  fold_four = let e5 : 8 + (32 + q) ≡ 40 + q = omega arith in let e6 : 16 + (32 + q) ≡ 48 + q = omega arith in
      let e7 : 8 + (16 + (32 + q)) ≡ 56 + q = omega arith in
      bit-shr (fold2 x) 32 q ∙ two-fold (32 + q) ∙ rw (e7, e6, e5) (sym (of_four lane))

-- ---- parities of a word

module _ (x : ℕ) where
  pub parity-is : odd 8 (bit (fold3 x)) ≡ odd 64 (bit x)
  parity-is = sym (columns 8 8 (bit x) ∙ odd-same 8 (λ q. odd 8 (λ l. bit x (l * 8 + q))) (bit (fold3 x)) (λ q l. sym (fold_all x q)))

  -- at positions within a byte
  pub low-is : (i : ℕ) → i < 3 → byte_odd (fold3 x) i ≡ odd_at x i
  unfolding odd_at byte_odd
  low-is i il = sym (columns 8 8 (λ p. bit x p && bit p i) ∙ odd-same 8 (λ q. odd 8 (λ l. bit x (l * 8 + q) && bit (l * 8 + q) i))
      (λ q. bit (fold3 x) q && bit q i)
      (λ q ql. odd-same 8 (λ l. bit x (l * 8 + q) && bit (l * 8 + q) i) (λ l. bit x (l * 8 + q) && bit q i)
      (λ l ll. ap (λ (t : Bool). bit x (l * 8 + q) && t) (bit-low l 3 q i ql il))
      ∙ odd-and 8 (λ l. bit x (l * 8 + q)) (bit q i) ∙ ap (λ (t : Bool). t && bit q i) (sym (fold_all x q))))

  -- at the bytes that have bit u
  pub high_is : (u y : ℕ) → ((q : ℕ) → bit y q ≡ odd 8 (λ l. bit x (l * 8 + q) && bit l u)) → odd 8 (bit y) ≡ odd_at x (3 + u)
  unfolding odd_at
  high_is u y h = sym (columns 8 8 (λ p. bit x p && bit p (3 + u))
      ∙ odd-same 8 (λ q. odd 8 (λ l. bit x (l * 8 + q) && bit (l * 8 + q) (3 + u))) (bit y)
      (λ q ql. odd-same 8 (λ l. bit x (l * 8 + q) && bit (l * 8 + q) (3 + u)) (λ l. bit x (l * 8 + q) && bit l u)
      (λ l ll. ap (λ (t : Bool). bit x (l * 8 + q) && t) (bit_high l 3 q u ql)) ∙ sym (h q)))

-- ---- the table at a low byte

module _ (x : ℕ) where
  byte-bits : (q : ℕ) → q < 8 → bit (x % 256) q ≡ bit x q
  byte-bits q l = bit-mod x 8 q l

  byte-odd : (i : ℕ) → byte_odd (x % 256) i ≡ byte_odd x i
  unfolding byte_odd
  byte-odd i = odd-same 8 (λ q. bit (x % 256) q && bit q i) (λ q. bit x q && bit q i)
      (λ q l. ap (λ (t : Bool). t && bit q i) (byte-bits q l))

  pub byte-parity : entry_of (x % 256) / 8 ≡ num (odd 8 (bit x))
  byte-parity = entry-parity (x % 256) ∙ ap num (odd-same 8 (bit (x % 256)) (bit x) byte-bits)

  pub byte-place : (i : ℕ) → i < 3 → entry_of (x % 256) / 2 ^ i % 2 ≡ num (byte_odd x i)
  byte-place i l = entry-odd (x % 256) i l ∙ ap num (byte-odd i)

-- ---- four sums of 8 words

module _ (d : List ℕ) where
  -- by a rule that looks at the index within the 8
  pub joined : (q r : ℕ → Bool) → ((k w : ℕ) → w < 8 → q (k * 8 + w) ≡ r w) → (a b c e : ℕ) → Sum d 0 8 r a → Sum d 8 8 r b
      → Sum d 16 8 r c → Sum d 24 8 r e → Total d q (bit_xor (bit_xor a b) (bit_xor c e))
  joined q r h a b c e ha hb hc he p l =
      let g : ℕ → Bool = λ k. odd 8 (λ w. bit_at d ((k * 8 + w) * 64 + p) && r w) in
      bit-xor (bit_xor a b) (bit_xor c e) p
      ∙ ap₂ xor (bit-xor a b p ∙ ap₂ xor (ha p l) (hb p l)) (bit-xor c e p ∙ ap₂ xor (hc p l) (he p l))
      ∙ sym (
      odd-rows 4 8 (λ w. bit_at d (w * 64 + p) && q w)
      ∙ odd-same 4 (λ k. odd 8 (λ w. bit_at d ((k * 8 + w) * 64 + p) && q (k * 8 + w))) g
      (λ k kl. odd-same 8 (λ w. bit_at d ((k * 8 + w) * 64 + p) && q (k * 8 + w)) (λ w. bit_at d ((k * 8 + w) * 64 + p) && r w)
      (λ w wl. ap (λ (t : Bool). bit_at d ((k * 8 + w) * 64 + p) && t) (h k w wl))) ∙ four-all g)

  pub joined-low : (t : ℕ) → t < 3 → (a b c e : ℕ) → Sum d 0 8 (λ w. bit w t) a → Sum d 8 8 (λ w. bit w t) b → Sum d 16 8 (λ w. bit w t) c
      → Sum d 24 8 (λ w. bit w t) e → Total d (λ w. bit w t) (bit_xor (bit_xor a b) (bit_xor c e))
  joined-low t l = joined (λ w. bit w t) (λ w. bit w t) (λ k w wl. bit-low k 3 w t wl l)

  pub joined-all : (a b c e : ℕ) → Sum d 0 8 (λ w. true) a → Sum d 8 8 (λ w. true) b → Sum d 16 8 (λ w. true) c → Sum d 24 8 (λ w. true) e
      → Total d (λ w. true) (bit_xor (bit_xor a b) (bit_xor c e))
  joined-all = joined (λ w. true) (λ w. true) (λ k w wl. refl)

  -- by the number of the 8
  module _ (p : ℕ) where
    abbrev eights : ℕ → Bool
    eights k = odd 8 (λ w. bit_at d ((k * 8 + w) * 64 + p) && true)

    by-eight : (u : ℕ) → odd 32 (λ w. bit_at d (w * 64 + p) && bit w (3 + u)) ≡ odd 4 (λ k. eights k && bit k u)
    by-eight u = odd-rows 4 8 (λ w. bit_at d (w * 64 + p) && bit w (3 + u))
        ∙ odd-same 4 (λ k. odd 8 (λ w. bit_at d ((k * 8 + w) * 64 + p) && bit (k * 8 + w) (3 + u))) (λ k. eights k && bit k u)
        (λ k kl. odd-same 8 (λ w. bit_at d ((k * 8 + w) * 64 + p) && bit (k * 8 + w) (3 + u))
        (λ w. (bit_at d ((k * 8 + w) * 64 + p) && true) && bit k u)
        (λ w wl. ap₂ ◌&&◌ (sym (and-true (bit_at d ((k * 8 + w) * 64 + p)))) (bit_high k 3 w u wl))
        ∙ odd-and 8 (λ w. bit_at d ((k * 8 + w) * 64 + p) && true) (bit k u))

  pub joined-eight : (b e : ℕ) → Sum d 8 8 (λ w. true) b → Sum d 24 8 (λ w. true) e → Total d (λ w. bit w 3) (bit_xor b e)
  joined-eight b e hb he p l = bit-xor b e p ∙ ap₂ xor (hb p l) (he p l) ∙ sym (by-eight p 0 ∙ four-one (eights p))

  pub joined-sixteen : (c e : ℕ) → Sum d 16 8 (λ w. true) c → Sum d 24 8 (λ w. true) e → Total d (λ w. bit w 4) (bit_xor c e)
  joined-sixteen c e hc he p l = bit-xor c e p ∙ ap₂ xor (hc p l) (he p l) ∙ sym (by-eight p 1 ∙ four-two (eights p))

-- ---- parities of a chunk

-- the parity of the set data bits whose address bit i is 1, and of all
unfoldable pub ones : List ℕ → ℕ → Bool
ones d i = odd 2048 (λ a. bit_at d a && bit a i)

unfoldable pub whole : List ℕ → Bool
whole d = odd 2048 (bit_at d)

module _ (d : List ℕ) (x : ℕ) where
  pub outer_is : (t : ℕ) → Total d (λ w. bit w t) x → odd 64 (bit x) ≡ ones d (6 + t)
  unfolding ones
  outer_is t h = sym (columns 32 64 (λ a. bit_at d a && bit a (6 + t))
      ∙ odd-same 64 (λ p. odd 32 (λ w. bit_at d (w * 64 + p) && bit (w * 64 + p) (6 + t))) (bit x)
      (λ p l. odd-same 32 (λ w. bit_at d (w * 64 + p) && bit (w * 64 + p) (6 + t)) (λ w. bit_at d (w * 64 + p) && bit w t)
      (λ w wl. ap (λ (b : Bool). bit_at d (w * 64 + p) && b) (bit_high w 6 p t l)) ∙ sym (h p l)))

  plain : Total d (λ w. true) x → (p : ℕ) → p < 64 → odd 32 (λ w. bit_at d (w * 64 + p)) ≡ bit x p
  plain h p l = odd-same 32 (λ w. bit_at d (w * 64 + p)) (λ w. bit_at d (w * 64 + p) && true)
      (λ w wl. sym (and-true (bit_at d (w * 64 + p))))
      ∙ sym (h p l)

  pub whole_is : Total d (λ w. true) x → odd 64 (bit x) ≡ whole d
  unfolding whole
  whole_is h = sym (columns 32 64 (bit_at d) ∙ odd-same 64 (λ p. odd 32 (λ w. bit_at d (w * 64 + p))) (bit x) (plain h))

  pub inner_is : Total d (λ w. true) x → (i : ℕ) → i < 6 → odd_at x i ≡ ones d i
  unfolding ones odd_at
  inner_is h i il = sym (columns 32 64 (λ a. bit_at d a && bit a i)
      ∙ odd-same 64 (λ p. odd 32 (λ w. bit_at d (w * 64 + p) && bit (w * 64 + p) i)) (λ p. bit x p && bit p i)
      (λ p l. odd-same 32 (λ w. bit_at d (w * 64 + p) && bit (w * 64 + p) i) (λ w. bit_at d (w * 64 + p) && bit p i)
      (λ w wl. ap (λ (b : Bool). bit_at d (w * 64 + p) && b) (bit-low w 6 p i l il))
      ∙ odd-and 32 (λ w. bit_at d (w * 64 + p)) (bit p i) ∙ ap (λ (b : Bool). b && bit p i) (plain h p l)))

-- ---- the code from these

and-not : (a b : Bool) → (a && not b) ≡ xor a (a && b)
unfolding xor
and-not true true = refl
and-not true false = refl
and-not false b = refl

module _ (d : List ℕ) where
  code-odd : (i : ℕ) → i < 11 → code_bit d (i * 2 + 1) ≡ not (ones d i)
  unfolding ones
  code-odd i l = code-low d (i * 2 + 1) (omega arith) ∙ ap not (odd-same 2048 (λ a. bit_at d a && side (i * 2 + 1) a)
      (λ a. bit_at d a && bit a i) (λ a al. ap (λ (b : Bool). bit_at d a && b) (side-odd i a)))

  code-even : (i : ℕ) → i < 11 → code_bit d (i * 2) ≡ not (xor (whole d) (ones d i))
  unfolding ones whole
  code-even i l = code-low d (i * 2) (omega arith) ∙ ap not (odd-same 2048 (λ a. bit_at d a && side (i * 2) a)
      (λ a. xor (bit_at d a) (bit_at d a && bit a i))
      (λ a al. ap (λ (b : Bool). bit_at d a && b) (side-even i a) ∙ and-not (bit_at d a) (bit a i))
      ∙ odd-xor 2048 (bit_at d) (λ a. bit_at d a && bit a i))

  -- the parities as digits of base 4
  unfoldable pub spread : ℕ → ℕ
  spread zero = 0
  spread (suc n) = spread n + num (ones d n) * 2 ^ (n * 2)

  mask-two : (n : ℕ) → mask (suc n * 2) (code_bit d) ≡ cond (code_bit d (n * 2 + 1)) (2 ^ (n * 2) * 2)
      0 + (cond (code_bit d (n * 2)) (2 ^ (n * 2)) 0 + mask (n * 2) (code_bit d))
  unfolding mask
  mask-two n = let e : suc n * 2 ≡ suc (suc (n * 2)) = omega arith in let f : n * 2 + 1 ≡ suc (n * 2) = omega arith in
      rw (e, f, ← pow-suc 2 (n * 2))

  spread-even : whole d ≡ false → (n : ℕ) → n ≤ 11 → mask (n * 2) (code_bit d) + spread n * 3 + 1 ≡ 2 ^ (n * 2)
  unfolding spread mask
  spread-even h zero l = refl
  spread-even h (suc n) l = let ih = spread-even h n (omega arith) in let e : suc n * 2 ≡ suc (suc (n * 2)) = omega arith in
      let t : 2 ^ (suc n * 2) ≡ 2 ^ (n * 2) * 2 * 2 = ap (λ (k : ℕ). 2 ^ k) e ∙ pow-suc 2 (suc (n * 2))
      ∙ ap (λ (k : ℕ). k * 2) (pow-suc 2 (n * 2)) in
      rw (mask-two n, t, code-odd n (omega arith), code-even n (omega arith), h, false-xor (ones d n)) (by-test (ones d n)
      (λ o. rw o (omega arith)) (λ o. rw o (omega arith)))

  xor-true_l : (a : Bool) → xor true a ≡ not a
  unfolding xor
  xor-true_l true = refl
  xor-true_l false = refl

  spread-odd : whole d ≡ true → (n : ℕ) → n ≤ 11 → mask (n * 2) (code_bit d) * 3 + spread n * 3 + 2 ≡ 2 ^ (n * 2) * 2
  unfolding spread mask
  spread-odd h zero l = refl
  spread-odd h (suc n) l = let ih = spread-odd h n (omega arith) in let e : suc n * 2 ≡ suc (suc (n * 2)) = omega arith in
      let t : 2 ^ (suc n * 2) ≡ 2 ^ (n * 2) * 2 * 2 = ap (λ (k : ℕ). 2 ^ k) e ∙ pow-suc 2 (suc (n * 2))
      ∙ ap (λ (k : ℕ). k * 2) (pow-suc 2 (n * 2)) in
      rw (mask-two n, t, code-odd n (omega arith), code-even n (omega arith), h, xor-true_l (ones d n)) (by-test (ones d n)
      (λ o. rw o (omega arith)) (λ o. rw o (omega arith)))

  top : code_of d ≡ 12582912 + mask 22 (code_bit d)
  unfolding code_of mask
  top = rw (code-high d 23 (omega arith), code-high d 22 (omega arith)) (omega arith)

  -- the code, from the 11 parities as digits and the parity of all
  pub code_is : (s : ℕ) → s ≡ spread 11 → cond (whole d) (15379114 - s) (16777215 - s * 3) ≡ code_of d
  code_is s e = by-test (whole d)
      (λ t. let h : mask 22 (code_bit d) * 3 + spread 11 * 3 + 2 ≡ 4194304 * 2 = spread-odd t 11 (omega arith) in let c = top in
      rw t (omega arith))
      (λ t. let h : mask 22 (code_bit d) + spread 11 * 3 + 1 ≡ 4194304 = spread-even t 11 (omega arith) in let c = top in
      rw t (omega arith))

num-true : (b : Bool) → num b ≡ 1 → b ≡ true
num-true true h = refl
num-true false h = absurd (omega arith)

num-false : (b : Bool) → num b ≢ 1 → b ≡ false
num-false true h = absurd (h refl)
num-false false h = refl

-- what the code holds: the sums, the parities within the sum of all, and those of the other sums
module _ {d : List ℕ} {t : Sums} {w : Inner} {six seven eight nine ten : ℕ} (ht : Totals d t) (hw : Inners t.all w)
    (h6 : six ≡ num (odd 64 (bit t.one))) (h7 : seven ≡ num (odd 64 (bit t.two))) (h8 : eight ≡ num (odd 64 (bit t.four)))
    (h9 : nine ≡ num (odd 64 (bit t.eight))) (h10 : ten ≡ num (odd 64 (bit t.sixteen))) where
  digits_are : w.digits + six * 4096 + seven * 16384 + eight * 65536 + nine * 262144 + ten * 1048576 ≡ spread d 11
  unfolding spread
  digits_are =
      let x : (i : ℕ) → i < 6 → num (odd_at t.all i) ≡ num (ones d i) = (λ i l. ap num (inner_is d t.all ht.all i l)) in
      let x0 = x 0 (omega arith) in let x1 = x 1 (omega arith) in let x2 = x 2 (omega arith) in let x3 = x 3 (omega arith) in
      let x4 = x 4 (omega arith) in let x5 = x 5 (omega arith) in
      let x6 : six ≡ num (ones d 6) = h6 ∙ ap num (outer_is d t.one 0 ht.one) in
      let x7 : seven ≡ num (ones d 7) = h7 ∙ ap num (outer_is d t.two 1 ht.two) in
      let x8 : eight ≡ num (ones d 8) = h8 ∙ ap num (outer_is d t.four 2 ht.four) in
      let x9 : nine ≡ num (ones d 9) = h9 ∙ ap num (outer_is d t.eight 3 ht.eight) in
      let x10 : ten ≡ num (ones d 10) = h10 ∙ ap num (outer_is d t.sixteen 4 ht.sixteen) in
      let y = hw.digits in omega arith

  parity-num : w.parity ≡ num (whole d)
  parity-num = hw.parity ∙ ap num (whole_is d t.all ht.all)

  pub when_odd : w.parity ≡ 1 → 15379114 - (w.digits + six * 4096 + seven * 16384 + eight * 65536 + nine * 262144 + ten * 1048576)
      ≡ code_of d
  when_odd h = rw (num-true (whole d) (sym parity-num ∙ h)) at (code_is d _ digits_are)

  pub when_even : w.parity ≢ 1 → 16777215 - (w.digits + six * 4096 + seven * 16384 + eight * 65536 + nine * 262144 + ten * 1048576) * 3
      ≡ code_of d
  when_even h = rw (num-false (whole d) (λ e. h (parity-num ∙ e))) at (code_is d _ digits_are)
