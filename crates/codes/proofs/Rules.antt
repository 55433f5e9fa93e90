-- The rules of request A6 in their second form hold of the definitions.
use mathlib.Core.Path.{◌≡◌, refl, sym, ap, ap₂, ◌∙◌}
use mathlib.Core.Logic.{inl, inr}
use mathlib.Core.Bool.{Bool, true, false, not, xor}
use mathlib.Core.List.{List, []}
use Prim.Native.Nat.{ℕ, ◌+◌, ◌*◌, ◌/◌, ◌%◌, ◌^◌, ◌<◌}
use native.Mathlib.Nat.{mod-lt, zero-lt-suc}
use native.Mathlib.Omega.{arith}
use lib.Dec.{eqb, ltb}
use lib.Bits.{bit_xor}
use lib.ListN.{length, replicate, get_or-replicate}
use borrow.Author.Tests.{eqb-true, eqb-false, eq-eqb, ne_eqb, ltb-true, ltb-false, le-leb, leb-true}
use Rattle.prelude.specs.Scan.{count, all, tab}
use Rattle.prelude.specs.Pages.{page_at}
use Rattle.prelude.proofs.Tab.{length-tab, get_d_tab}
use Rattle.prelude.proofs.Pages.{page-flat}
use Rattle.prelude.specs.Bits.{bit, first_bits}
use Rattle.prelude.proofs.Tests.{by-test, clash, not-i, or_cases}
use Rattle.prelude.proofs.Scan.{all_of, all-at, all-fails, count-one}
use Rattle.prelude.proofs.Bits.{bits-ext, bit-one, bit-one_other, bit-zero, bit-first, first-lt}
use Rattle.codes.specs.Code.{odd, bit_at, code_bit, code_of}
use Rattle.codes.specs.Table.{positions, entry_of}
use Rattle.codes.specs.Reading.{flipped, difference, leaves, pairs, addressed, legible, mended, differs, code_at, page_legible}
use Rattle.codes.specs.Reading.{page_mended, page_mends}
use Rattle.codes.specs.Rules.{teller, OneTurns, TellersTurn, ZerosRule, DataFlipRule, CodeFlipRule, CodesRule, TableRule}
use Rattle.codes.specs.Rules.{Leaves, Flips, LeavesRule, FlipsRule, UnreadableRule, ApartRule, MendsRule, PageRule}
use Rattle.codes.proofs.Parity.{xor-back, xor-false, xor-true, xor_self, odd-none, bit-xor}
use Rattle.codes.proofs.CodeBits.{side, code_lt, bit-code, code-low, code-high, bit-flipped, heard-one}
use Rattle.codes.proofs.Differences.{no_difference, leaves_none, count-zero, count-single, addressed-lt}
use Rattle.codes.proofs.Differences.{Names, named-leaves, named-pairs, named-address, pairs-name}
use Rattle.codes.proofs.Pages.{length-codes, bytes-codes, code-at, mended-long}

-- ---- a bit that turns, or not, in the difference

turned : (a b : Bool) → xor a b ≡ true → b ≡ not a
unfolding xor
turned true true h = clash refl (sym h)
turned true false h = refl
turned false true h = refl
turned false false h = clash refl (sym h)

stayed : (a b : Bool) → xor a b ≡ false → b ≡ a
unfolding xor
stayed true true h = refl
stayed true false h = clash refl h
stayed false true h = clash refl h
stayed false false h = refl

turns : (a b : Bool) → b ≡ not a → xor a b ≡ true
unfolding xor
turns true b h = rw h
turns false b h = rw h

-- ---- the tellers of an address

tells : (a i : ℕ) → side (teller a i) a ≡ true
tells a i = let r : ℕ = a / 2 ^ i % 2 in let l : r < 2 = mod-lt (a / 2 ^ i) (zero-lt-suc 1) in
    let e : (i * 2 + r) / 2 ≡ i = omega arith in let f : (i * 2 + r) % 2 ≡ r = omega arith in rw (e, f) (eq-eqb r r refl)

told-by : (a k : ℕ) → side k a ≡ true → k ≡ teller a (k / 2)
told-by a k t = let e = eqb-true (a / 2 ^ (k / 2) % 2) (k % 2) t in omega arith

teller-lt : (a i : ℕ) → i < 11 → teller a i < 22
teller-lt a i l = let r = mod-lt (a / 2 ^ i) (zero-lt-suc 1) in omega arith

module _ (c c' a : ℕ) where
  names-turn : Names (bit_xor c c') a → TellersTurn c c' a
  names-turn h = record {
    turn = λ i l. turned _ _ (sym (bit-xor c c' (teller a i)) ∙ h.low (teller a i) (teller-lt a i l) ∙ tells a i);
    others = λ k l other. stayed _ _ (sym (bit-xor c c' k) ∙ by-test (ltb k 22)
        (λ t. let kl = ltb-true k 22 t in h.low k kl ∙ by-test (side k a) (λ u. absurd (other (k / 2) (omega arith) (told-by a k u)))
        (λ u. u))
        (λ t. h.high k (ltb-false k 22 t) l));
  }

  turn-names : TellersTurn c c' a → Names (bit_xor c c') a
  turn-names h = record {
    low = λ j l. bit-xor c c' j ∙ by-test (side j a)
        (λ t. let e = told-by a j t in turns _ _ (rw e (h.turn (j / 2) (omega arith))) ∙ sym t)
        (λ t. ap (xor (bit c j)) (h.others j (omega arith) (λ i il e. clash (rw e (tells a i)) t)) ∙ xor_self (bit c j) ∙ sym t);
    high = λ j g l. bit-xor c c' j ∙ ap (xor (bit c j)) (h.others j l (λ i il e. let w = teller-lt a i il in absurd (omega arith)))
        ∙ xor_self (bit c j);
  }

-- ---- codes

pub zeros-rule : ZerosRule
unfolding first_bits bit_at
zeros-rule = let d : List ℕ = replicate 256 0 in bits-ext 24 (code_of d) (first_bits 24) (code_lt d) (first-lt 24)
    (λ j l. bit-code d j l ∙ by-test (ltb j 22)
    (λ t. code-low d j (ltb-true j 22 t) ∙ not-i (odd-none 2048 _
    (λ a al. rw (get_or-replicate {A = ℕ} 256 (a / 8) 0 0 (omega arith), bit-zero (a % 8)))))
    (λ t. code-high d j (ltb-false j 22 t)) ∙ sym (bit-first 24 j l))

pub data_flip-rule : DataFlipRule
data_flip-rule d a long l = let inside : a / 8 < length d = omega arith in names-turn (code_of d) (code_of (flipped d a)) a record {
  low = λ j jl. bit-xor _ _ j ∙ ap₂ xor (bit-code d j (omega arith)) (bit-code (flipped d a) j (omega arith)
      ∙ heard-one d (flipped d a) a l (λ x xl. ap (xor (bit_at d x)) (bit-flipped d a inside x) ∙ xor-back (bit_at d x) (eqb x a)) j jl)
      ∙ xor-back (code_bit d j) (side j a);
  high = λ j g jl. bit-xor _ _ j ∙ ap₂ xor (bit-code d j jl ∙ code-high d j g) (bit-code (flipped d a) j jl ∙ code-high (flipped d a) j g)
      ∙ xor_self true;
}

pub code_flip-rule : CodeFlipRule
code_flip-rule c j = record {
  turns = bit-xor c (2 ^ j) j ∙ ap (xor (bit c j)) (bit-one j) ∙ xor-true (bit c j);
  others = λ k l ne. bit-xor c (2 ^ j) k ∙ ap (xor (bit c k)) (bit-one_other j k (λ e. ne (sym e))) ∙ xor-false (bit c k);
}

pub codes-rule : (m : ℕ) (page : List ℕ) → CodesRule m page
unfolding code_at
codes-rule m page = record { long = length-codes m page; bytes = bytes-codes m page; each = code-at m page }

-- all bytes and all positions: computed
entries-change : all 256 (λ b. all 8 (λ q. eqb (entry_of (bit_xor b (2 ^ q))) (bit_xor (entry_of b) (8 + q)))) ≡ true
unfolding all entry_of odd count bit positions
entries-change = refl

pub table-rule : TableRule
unfolding entry_of odd count bit positions
table-rule = record {
  nothing = refl;
  one_more = λ b q bl ql. eqb-true _ _ (all-at 8 (λ q. eqb (entry_of (bit_xor b (2 ^ q))) (bit_xor (entry_of b) (8 + q)))
      (all-at 256 (λ b. all 8 (λ q. eqb (entry_of (bit_xor b (2 ^ q))) (bit_xor (entry_of b) (8 + q)))) entries-change b bl) q ql);
}

-- ---- reading

-- one bit that turns: no two differ
one-leaves : (c c' j : ℕ) → OneTurns c c' j → leaves (bit_xor c c') ≡ true
unfolding leaves
one-leaves c c' j h = le-leb _ 1 (count-one 24 (bit (bit_xor c c')) (λ i k il kl p q. only i il p ∙ sym (only k kl q)))
  where
    only : (i : ℕ) → i < 24 → bit (bit_xor c c') i ≡ true → i ≡ j
    only i l t = by-test (eqb i j) (λ u. eqb-true i j u)
        (λ u. clash t (bit-xor c c' i ∙ ap (xor (bit c i)) (h.others i l (eqb-false i j u)) ∙ xor_self (bit c i)))

leaves_of : (d : List ℕ) (c : ℕ) → Leaves d c → leaves (difference d c) ≡ true
unfolding difference
leaves_of d c (inl e) = rw (e, no_difference d) leaves_none
leaves_of d c (inr h) = one-leaves (code_of d) c h.0 h.2

pub leaves-rule : LeavesRule
unfolding legible mended
leaves-rule d c h = let t = leaves_of d c h in (rw t, rw t)

names_of : (d : List ℕ) (c a : ℕ) → Flips d c a → Names (difference d c) a
unfolding difference
names_of d c a h = turn-names (code_of d) c a h.1

pub flips-rule : FlipsRule
unfolding legible mended
flips-rule d c a h = let n = names_of d c a h in
    (rw (named-leaves _ a n) (named-pairs _ a n), rw (named-leaves _ a n, named-address _ a n h.0))

pub apart-rule : ApartRule
apart-rule d c a h g = clash (leaves_of d c h) (named-leaves _ a (names_of d c a g))

-- at most one bit differs: none, and the codes are equal, or one
few-leaves : (d : List ℕ) (c : ℕ) → c < 2 ^ 24 → leaves (difference d c) ≡ true → Leaves d c
unfolding leaves difference
few-leaves d c cl t = let x : ℕ = bit_xor (code_of d) c in let few = leb-true (count 24 (bit x)) 1 t in by-test (eqb (count 24 (bit x)) 0)
    (λ u. let none = count-zero 24 (bit x) (eqb-true _ 0 u) in
    inl (bits-ext 24 c (code_of d) cl (code_lt d) (λ k l. stayed _ _ (sym (bit-xor (code_of d) c k) ∙ none k l))))
    (λ u. let n = eqb-false (count 24 (bit x)) 0 u in let one = count-single 24 (bit x) (omega arith) in let j = one.0 in
    inr (
      j,
      one.1,
      record {
        turns = turned _ _ (sym (bit-xor (code_of d) c j) ∙ one.2);
        others = λ k l ne. stayed _ _ (sym (bit-xor (code_of d) c k) ∙ one.3 k l ∙ ne_eqb k j ne);
      },
    ))

turning : (d : List ℕ) (c : ℕ) → pairs (difference d c) ≡ true → TellersTurn (code_of d) c (addressed (difference d c))
unfolding difference
turning d c t = names-turn (code_of d) c _ (pairs-name (bit_xor (code_of d) c) t)

pub unreadable-rule : UnreadableRule
unfolding legible
unreadable-rule d c cl kept flips = let x = difference d c in by-test (legible d c)
    (λ t. elim (or_cases (leaves x) (pairs x) t) [
      | inl u ↦ absurd (kept (few-leaves d c cl u))
      | inr u ↦ absurd (flips (addressed x) (addressed-lt x, turning d c u))
    ])
    (λ t. t)

pub mends-rule : (d : List ℕ) (c : ℕ) → MendsRule d c
unfolding differs difference
mends-rule d c = record {
  equal = λ e. rw (e, no_difference d);
  other = λ cl ne. not-i (ne_eqb _ 0 (λ z. ne (bits-ext 24 c (code_of d) cl (code_lt d)
      (λ k l. stayed _ _ (sym (bit-xor (code_of d) c k) ∙ ap (λ (x : ℕ). bit x k) z ∙ bit-zero k)))));
}

pub page-rule : (m : ℕ) (page codes : List ℕ) → PageRule m page codes
unfolding page_legible page_mended page_mends
page-rule m page codes =
    let f : ℕ → List ℕ = λ i. mended (page_at 256 page i) (code_at codes i) in
    let ok : ℕ → Bool = λ i. legible (page_at 256 page i) (code_at codes i) in
    record {
      can = all_of m ok;
      cannot = all-fails m ok;
      each = λ long i l. page-flat 256 (tab m f) [] (λ k kl. mended-long m page codes long k (rw length-tab at kl)) i (rw length-tab l)
          ∙ get_d_tab m f [] i l;
      none = λ t. rw t;
    }
