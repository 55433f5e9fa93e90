-- Laws of sheets on pages.
-- the rows are checked before the proofs, so that a definition that breaks one is refused there
use Rattle.runs.proofs.Rows
use mathlib.Core.Path.{◌≡◌, ap, ◌∙◌}
use mathlib.Core.List.{List}
use Prim.Native.Nat.{ℕ, ◌+◌, ◌*◌, ◌/◌, ◌%◌, ◌^◌, ◌≤◌, ◌<◌}
use native.Mathlib.Nat.{div-one, mod-lt, zero-lt-suc}
use native.Mathlib.Omega.{arith}
use lib.Dec.{ltb}
use lib.ListN.{length, get_or}
use borrow.Author.Tests.{ltb-true, ltb-false, le-ltb}
use Rattle.prelude.proofs.Tests.{by-test}
use Rattle.prelude.proofs.Tab.{length-tab, get_d_tab, get_d_past}
use Rattle.runs.specs.Sheet.{Sheet, numbers, number_at, sheet_of, byte_of, sheet_byte, page_of, Words}

-- ---- a number and its bytes

sum-of_four : (x y z u a b d e : ℕ) → a + y * 256 ≡ x → b + z * 256 ≡ y → d + u * 256 ≡ z → e ≡ u
    → a + b * 256 + d * 65536 + e * 16777216 ≡ x
sum-of_four x y z u a b d e p q r s = omega arith

digit : (x : ℕ) → x % 256 + x / 256 * 256 ≡ x
digit x = omega arith

third : (x : ℕ) → x / 65536 ≡ x / 256 / 256
third x = omega arith

fourth : (x : ℕ) → x / 16777216 ≡ x / 256 / 256 / 256
fourth x = let h : x / 16777216 ≡ x / 65536 / 256 = omega arith in h ∙ ap (λ (y : ℕ). y / 256) (third x)

high : (x : ℕ) → x < 4294967296 → x / 256 / 256 / 256 % 256 ≡ x / 256 / 256 / 256
high x h = let a : x / 16777216 < 256 = omega arith in let b : x / 256 / 256 / 256 < 256 = (rw fourth at a) in omega arith

-- a 32-bit number is the sum of its bytes
number-bytes : (x : ℕ) → x < 4294967296
    → x / 1 % 256 + x / 256 % 256 * 256 + x / 65536 % 256 * 65536 + x / 16777216 % 256 * 16777216 ≡ x
number-bytes x h = rw (third, fourth, div-one) (sum-of_four x (x / 256) (x / 256 / 256) (x / 256 / 256 / 256) _ _ _ _
    (digit x) (digit (x / 256)) (digit (x / 256 / 256)) (high x h))

-- four bytes make a 32-bit number
number_word : (p : List ℕ) (i : ℕ) → ((j : ℕ) → get_or p j 0 < 256) → number_at p i < 4294967296
unfolding number_at
number_word p i h = omega (arith, h i, h (i + 1), h (i + 2), h (i + 3))

-- ---- the sheet on a page

-- the sheet on any page of bytes has 32-bit numbers
pub page-words : (p : List ℕ) → ((j : ℕ) → get_or p j 0 < 256) → Words (sheet_of p)
unfolding sheet_of
page-words p h = record {
  run-word = number_word p 0 h;
  trainee-word = number_word p 4 h;
  sample-word = number_word p 8 h;
  first_word = number_word p 12 h;
  count_word = number_word p 16 h;
  mark-word = number_word p 20 h;
  replaces-word = number_word p 24 h;
}

-- ---- the page of a sheet

pub length-page_of : (S : ℕ) (s : Sheet) → length (page_of S s) ≡ S
unfolding page_of
length-page_of S s = length-tab S (sheet_byte s)

-- byte j of the page, at every j
module _ (S : ℕ) (s : Sheet) (j : ℕ) where
  byte-in : j < S → get_or (page_of S s) j 0 ≡ sheet_byte s j
  unfolding page_of
  byte-in l = get_d_tab S (sheet_byte s) 0 j l

  byte_past : S ≤ j → get_or (page_of S s) j 0 ≡ 0
  byte_past l = get_d_past 0 (page_of S s) j (let q = length-page_of S s in omega arith)

  byte-lt : sheet_byte s j < 256
  unfolding sheet_byte byte_of
  byte-lt = by-test (ltb j 28)
      (λ e. rw e (mod-lt (get_or (numbers s) (j / 4) 0 / 2 ^ (8 * (j % 4))) (zero-lt-suc 255)))
      (λ e. rw e (omega arith))

  pub page_of-byte : get_or (page_of S s) j 0 < 256
  page_of-byte = by-test (ltb j S)
      (λ e. rw (byte-in (ltb-true j S e)) byte-lt)
      (λ e. rw (byte_past (ltb-false j S e)) (omega arith))

  pub page_of-rest : 28 ≤ j → get_or (page_of S s) j 0 ≡ 0
  unfolding sheet_byte
  page_of-rest h = by-test (ltb j S)
      (λ e. byte-in (ltb-true j S e) ∙ rw (le-ltb j 28 h))
      (λ e. byte_past (ltb-false j S e))

module _ (S : ℕ) (s : Sheet) (wide : 28 ≤ S) where
  number_of : (i : ℕ) → i + 3 < 28 → number_at (page_of S s) i
      ≡ sheet_byte s i + sheet_byte s (i + 1) * 256 + sheet_byte s (i + 2) * 65536 + sheet_byte s (i + 3) * 16777216
  unfolding number_at
  number_of i l = let at : (j : ℕ) → j < 28 → get_or (page_of S s) j 0 ≡ sheet_byte s j = (λ j k. byte-in S s j (omega arith)) in
      rw (at i (omega arith), at (i + 1) (omega arith), at (i + 2) (omega arith), at (i + 3) (omega arith))

  -- what is written is what is read
  pub read_back : Words s → sheet_of (page_of S s) ≡ s
  unfolding sheet_of sheet_byte byte_of
  read_back w = λ i. record {
    run = (number_of 0 (omega arith) ∙ number-bytes s.run w.run-word) i;
    trainee = (number_of 4 (omega arith) ∙ number-bytes s.trainee w.trainee-word) i;
    sample = (number_of 8 (omega arith) ∙ number-bytes s.sample w.sample-word) i;
    first = (number_of 12 (omega arith) ∙ number-bytes s.first w.first_word) i;
    count = (number_of 16 (omega arith) ∙ number-bytes s.count w.count_word) i;
    mark = (number_of 20 (omega arith) ∙ number-bytes s.mark w.mark-word) i;
    replaces = (number_of 24 (omega arith) ∙ number-bytes s.replaces w.replaces-word) i;
  }
