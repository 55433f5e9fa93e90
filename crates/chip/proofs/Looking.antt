-- What a merge meets on the pages of a block: refusals, mends and the set of pages that want mending, offset by offset.
use mathlib.Core.Path.{◌≡◌, refl, sym, ap, ap₂, ◌∙◌}
use mathlib.Core.Logic.{◌≢◌, ⊎_elim}
use Rattle.std.specs.Prelude.{Option, None}
use mathlib.Core.Bool.{Bool, true, false, not, cond, ◌&&◌, ◌||◌, and-true}
use mathlib.Core.List.{List}
use Prim.Native.Nat.{ℕ, zero, suc, ◌+◌, ◌*◌, ◌/◌, ◌^◌, ◌≤◌, ◌<◌}
use native.Mathlib.Nat.{suc-mul, mul-le-mul}
use native.Mathlib.Numerals.{add-one}
use native.Mathlib.Omega.{arith}
use lib.Dec.{ltb, eqb}
use borrow.Author.Tests.{ltb-true, ltb-false, eqb-true, eqb-false, lt-ltb, le-ltb, eq-eqb, ne_eqb}
use Rattle.prelude.specs.Scan.{first}
use Rattle.prelude.specs.Bits.{bit, mask, with_bit}
use Rattle.prelude.specs.Pages.{page_at}
use Rattle.prelude.proofs.Tests.{by-test, clash, and_l, and_r, or_l, or_r, or_cases, or_false, same_test}
use Rattle.prelude.proofs.Scan.{first-hit, first-at, count-le}
use Rattle.prelude.proofs.Bits.{mask_lt, bit-none, with-new}
use Rattle.model.specs.Sizes.{Sizes, InLimits, is_coded, is_marked}
use Rattle.model.specs.Calls.{Page, some_page, fault_met, sum, mends_met}
use Rattle.model.proofs.Merges.{sum-or}
use Rattle.model.proofs.Lookup.{page-div, page-mod, page-lt, page-split, offset_lt}
use Rattle.codes.specs.Reading.{code_at, differs, page_legible, page_mends}
use Rattle.answer.specs.declared.fault.Fault.{Fault}
use Rattle.answer.specs.Numbers.{fault_number}
use Rattle.chip.specs.declared.Seen.{Seen}
use Rattle.chip.specs.declared.BlockSeen.{BlockSeen}
use Rattle.model.specs.Formats.{page_code, code_for, code_long}
use Rattle.chip.specs.Formats.{unreadable_at, mends_at}
use Rattle.chip.specs.Chip.{Lent, Looked, fault_on, mends_on, torn_at, block_reads, mend_set, BlockLooked, worse_of, most_mends}
use Rattle.chip.proofs.Cells.{fault-is, mends-is}

and-f : (a : Bool) → (a && false) ≡ false
and-f true = refl
and-f false = refl

cond_same : (a : Bool) → ◌≡◌ {A = ℕ} (cond a 0 0) 0
cond_same true = refl
cond_same false = refl

seven : (p q : Bool) → p ≡ true → ◌≡◌ {A = ℕ} (cond p 7 (cond q 14 0)) 0 → ⊥
seven true q e h = omega arith
seven false q e h = clash refl (sym e)

abbrev worst_of : Bool → Bool → ℕ
worst_of bad torn = cond bad 7 (cond torn 14 0)

-- ---- a number below n passes

unfoldable pub some : ℕ → (ℕ → Bool) → Bool
some n p = ltb (first n p) n

module _ (p : ℕ → Bool) where
  pub some_of : (n i : ℕ) → i < n → p i ≡ true → some n p ≡ true
  unfolding some
  some_of n i l e = let k = first-at n p i l e in lt-ltb (first n p) n (omega arith)

  pub some_at : (n : ℕ) → some n p ≡ true → (i : ℕ) × (i < n) × (p i ≡ true)
  unfolding some
  some_at n e = let l = ltb-true (first n p) n e in (first n p, l, first-hit n p l)

  pub some-none : (n : ℕ) → ((j : ℕ) → j < n → p j ≡ false) → some n p ≡ false
  some-none n h = by-test (some n p) (λ e. let k = some_at n e in clash k.2 (h k.0 k.1)) (λ e. e)

module _ (g : ℕ → ℕ) where
  pub sum_more : (n : ℕ) → sum (n + 1) g ≡ sum n g + g n
  unfolding sum
  sum_more n = rw add-one (omega arith)

  pub sum-none : (n : ℕ) → ((j : ℕ) → j < n → g j ≡ 0) → sum n g ≡ 0
  unfolding sum
  sum-none zero h = refl
  sum-none (suc n) h = let a = sum-none n (λ j l. h j (omega arith)) in let b = h n (omega arith) in omega arith

  pub sum-upto : (k n : ℕ) → k ≤ n → ((j : ℕ) → k ≤ j → j < n → g j ≡ 0) → sum n g ≡ sum k g
  unfolding sum
  sum-upto k zero l h = let e : k ≡ 0 = omega arith in rw e
  sum-upto k (suc n) l h = by-test (ltb n k)
      (λ u. let q = ltb-true n k u in let e : k ≡ suc n = omega arith in rw e)
      (λ u. let q = ltb-false n k u in let a = sum-upto k n q (λ j x y. h j x (omega arith)) in let b = h n q (omega arith) in omega arith)

module _ (p : ℕ → Bool) where
  mask-suc : (n : ℕ) → mask (n + 1) p ≡ cond (p n) (2 ^ n) 0 + mask n p
  unfolding mask
  mask-suc n = rw add-one

  pub mask-more : (n : ℕ) → mask (n + 1) p ≡ cond (p n) (with_bit (mask n p) n) (mask n p)
  mask-more n = mask-suc n ∙ by-test (p n)
      (λ e. rw (e, with-new (mask n p) n (bit-none n (mask n p) (mask_lt n p))) (omega arith))
      (λ e. rw e (omega arith))

  pub mask-none : (n : ℕ) → ((j : ℕ) → j < n → p j ≡ false) → mask n p ≡ 0
  unfolding mask
  mask-none zero h = refl
  mask-none (suc n) h = let q = mask-none n (λ j l. h j (omega arith)) in rw (h n (omega arith)) (omega arith)

-- ---- a page

-- at most 8 chunks are mended
mends-high : (coded : Bool) (sz : Sizes) → InLimits sz → (x : Page) (k : List ℕ) → (code_for coded).mends sz x k ≤ 8
unfolding page_code page_mends
mends-high true sz limits x k = let h = limits.S_high in by-test (page_legible (sz.S / 256) x k)
    (λ e. rw e (let c = count-le (sz.S / 256) (λ i. differs (page_at 256 x i) (code_at k i)) in omega arith))
    (λ e. rw e (omega arith))
mends-high false sz limits x k = omega arith

-- a store without codes and marks meets nothing
pub unread-plain : (coded : Bool) → coded ≡ false → (sz : Sizes) (x : Page) (k : List ℕ) → (code_for coded).unreadable sz x k ≡ false
unread-plain true e sz x k = clash refl e
unread-plain false e sz x k = refl

pub mends-plain : (coded : Bool) → coded ≡ false → (sz : Sizes) (x : Page) (k : List ℕ) → (code_for coded).mends sz x k ≡ 0
mends-plain true e sz x k = clash refl e
mends-plain false e sz x k = refl

-- ---- the pages read are none, or one

ends_low : (u x : Bool) (f : ℕ) → f ≡ cond u 7 (cond x 14 0) → cond (eqb f 7) 7 (cond (eqb f 14) 14 0) ≡ f
ends_low true x f e = rw e
ends_low false true f e = rw e
ends_low false false f e = rw e

module _ (sz : Sizes) (flash codes marks : List ℕ) (reads : ℕ → Bool) where
  abbrev meet : ℕ → ℕ → Bool
  meet r i = reads i && eqb (fault_on sz flash codes marks i) r

  abbrev mend : ℕ → ℕ
  mend i = cond (reads i) (mends_on sz flash codes marks i) 0

  module _ (none : (i : ℕ) → reads i ≡ false) where
    pub fault-none : fault_met sz (fault_on sz flash codes marks) reads ≡ 0
    unfolding fault_met some_page some
    fault-none = let a = some-none (meet 7) (sz.N * sz.K) (λ i l. rw (none i)) in
        let b = some-none (meet 14) (sz.N * sz.K) (λ i l. rw (none i)) in
        ap₂ (λ (x y : Bool). cond x 7 (cond y 14 0)) a b

    pub mends-none : mends_met sz (mends_on sz flash codes marks) reads ≡ 0
    unfolding mends_met
    mends-none = sum-none mend (sz.N * sz.K) (λ i l. rw (none i))

  module _ (n : ℕ) (l : n < sz.N * sz.K) (one : reads n ≡ true) (only : (i : ℕ) → i ≢ n → reads i ≡ false) where
    meets-one : (r : ℕ) → some (sz.N * sz.K) (meet r) ≡ eqb (fault_on sz flash codes marks n) r
    meets-one r = same_test
        (λ e. let k = some_at (meet r) (sz.N * sz.K) e in by-test (eqb k.0 n)
        (λ u. let q = and_r (reads k.0) _ k.2 in rw (eqb-true k.0 n u) at q)
        (λ u. clash (and_l (reads k.0) _ k.2) (only k.0 (eqb-false k.0 n u))))
        (λ e. some_of (meet r) (sz.N * sz.K) n l (rw (one, e)))

    pub fault-one : fault_met sz (fault_on sz flash codes marks) reads ≡ fault_on sz flash codes marks n
    unfolding fault_met some_page some
    fault-one = ap₂ (λ (x y : Bool). cond x 7 (cond y 14 0)) (meets-one 7) (meets-one 14)
        ∙ ends_low (unreadable_at sz flash codes n) (torn_at sz marks n) (fault_on sz flash codes marks n)
        (fault-is sz flash codes marks n l)

    pub mends-one : mends_met sz (mends_on sz flash codes marks) reads ≡ mends_on sz flash codes marks n
    unfolding mends_met
    mends-one = sum-upto mend (n + 1) (sz.N * sz.K) (omega arith) (λ j a b. rw (only j (λ e. omega arith)))
        ∙ sum_more mend n ∙ (let z = sum-none mend n (λ j k. rw (only j (λ e. omega arith))) in rw (z, one) (omega arith))

-- the refusal met on the pages of two sets
some_or : (n : ℕ) (p q : ℕ → Bool) → some n (λ i. p i || q i) ≡ (some n p || some n q)
some_or n p q = same_test
    (λ e. let k = some_at (λ i. p i || q i) n e in ⊎_elim (λ u. or_l (some n q) (some_of p n k.0 k.1 u))
    (λ u. or_r (some n p) (some_of q n k.0 k.1 u)) (or_cases (p k.0) (q k.0) k.2))
    (λ e. ⊎_elim (λ u. let k = some_at p n u in some_of (λ i. p i || q i) n k.0 k.1 (or_l (q k.0) k.2))
    (λ u. let k = some_at q n u in some_of (λ i. p i || q i) n k.0 k.1 (or_r (p k.0) k.2))
    (or_cases (some n p) (some n q) e))

some_same : (n : ℕ) (p q : ℕ → Bool) → ((i : ℕ) → i < n → p i ≡ q i) → some n p ≡ some n q
some_same n p q h = same_test
    (λ e. let k = some_at p n e in some_of q n k.0 k.1 (sym (h k.0 k.1) ∙ k.2))
    (λ e. let k = some_at q n e in some_of p n k.0 k.1 (h k.0 k.1 ∙ k.2))

worst_or : (a b c d : Bool) → worst_of (a || c) (b || d) ≡ worst_of (eqb (worst_of a b) 7 || eqb (worst_of c d) 7)
    (eqb (worst_of a b) 14 || eqb (worst_of c d) 14)
worst_or true b c d = refl
worst_or false true true d = refl
worst_or false true false true = refl
worst_or false true false false = refl
worst_or false false true d = refl
worst_or false false false true = refl
worst_or false false false false = refl

and-or : (a b c : Bool) → ((a || b) && c) ≡ ((a && c) || (b && c))
and-or true b true = refl
and-or true b false = sym (rw (and-f b))
and-or false b c = refl

-- where the worse of two is none, none is met
least-worst : (a b : Bool) (x : ℕ) → worse_of (worst_of a b) x ≡ 0 → worst_of a b ≡ 0
least-worst true b x h = h
least-worst false true x h = by-test (eqb x 7) (λ e. absurd (let z : ◌≡◌ {A = ℕ} 7 0 = (rw e at h) in omega arith))
    (λ e. absurd (let z : ◌≡◌ {A = ℕ} 14 0 = (rw e at h) in omega arith))
least-worst false false x h = refl

pub none-worse : (sz : Sizes) (fault : ℕ → ℕ) (reads : ℕ → Bool) (x : ℕ) → worse_of (fault_met sz fault reads) x ≡ 0
    → fault_met sz fault reads ≡ 0
unfolding fault_met
none-worse sz fault reads x h =
    least-worst (some_page sz (λ i. reads i && eqb (fault i) 7)) (some_page sz (λ i. reads i && eqb (fault i) 14))
    x h

pub fault-or : (sz : Sizes) (fault : ℕ → ℕ) (p q : ℕ → Bool) → fault_met sz fault (λ i. p i || q i)
    ≡ worse_of (fault_met sz fault p) (fault_met sz fault q)
unfolding fault_met some_page some
fault-or sz fault p q =
    let n : ℕ = sz.N * sz.K in
    let each : (r : ℕ) → some n (λ i. (p i || q i) && eqb (fault i) r)
    ≡ (some n (λ i. p i && eqb (fault i) r) || some n (λ i. q i && eqb (fault i) r)) =
    (λ r. some_same n _ _ (λ i l. and-or (p i) (q i) (eqb (fault i) r))
    ∙ some_or n (λ i. p i && eqb (fault i) r) (λ i. q i && eqb (fault i) r)) in
    ap₂ worst_of (each 7) (each 14) ∙ worst_or (some n (λ i. p i && eqb (fault i) 7)) (some n (λ i. p i && eqb (fault i) 14))
    (some n (λ i. q i && eqb (fault i) 7)) (some n (λ i. q i && eqb (fault i) 14))

-- nothing is met on two sets: nothing is on either
least-worst_2 : (x : ℕ) (a b : Bool) → worse_of x (worst_of a b) ≡ 0 → worst_of a b ≡ 0
least-worst_2 x true b h = by-test (eqb x 7) (λ e. absurd (let z : ◌≡◌ {A = ℕ} 7 0 = (rw e at h) in omega arith))
    (λ e. absurd (let z : ◌≡◌ {A = ℕ} 7 0 = (rw e at h) in omega arith))
least-worst_2 x false true h = by-test (eqb x 7) (λ e. absurd (let z : ◌≡◌ {A = ℕ} 7 0 = (rw e at h) in omega arith))
    (λ e. by-test (eqb x 14) (λ t. absurd (let z : ◌≡◌ {A = ℕ} 14 0 = (rw (e, t) at h) in omega arith))
    (λ t. absurd (let z : ◌≡◌ {A = ℕ} 14 0 = (rw (e, t) at h) in omega arith)))
least-worst_2 x false false h = refl

pub none-either : (sz : Sizes) (fault : ℕ → ℕ) (p q : ℕ → Bool) → fault_met sz fault (λ i. p i || q i) ≡ 0
    → (fault_met sz fault p ≡ 0) × (fault_met sz fault q ≡ 0)
unfolding fault_met
none-either sz fault p q h = let e = sym (fault-or sz fault p q) ∙ h in (
  none-worse sz fault p (fault_met sz fault q) e,
  least-worst_2 (fault_met sz fault p) (some_page sz (λ i. q i && eqb (fault i) 7)) (some_page sz (λ i. q i && eqb (fault i) 14)) e,
)

-- ---- pages that are read alike

module _ (sz : Sizes) where
  pub met-ext : (fault fault' : ℕ → ℕ) (reads reads' : ℕ → Bool)
      → ((i : ℕ) → i < sz.N * sz.K → (r : ℕ) → (reads i && eqb (fault i) r) ≡ (reads' i && eqb (fault' i) r))
      → fault_met sz fault reads ≡ fault_met sz fault' reads'
  unfolding fault_met some_page some
  met-ext fault fault' reads reads' h = ap₂ worst_of (some_same (sz.N * sz.K) _ _ (λ i l. h i l 7))
      (some_same (sz.N * sz.K) _ _ (λ i l. h i l 14))

  -- the same pages
  pub met-set : (fault : ℕ → ℕ) (reads reads' : ℕ → Bool) → ((i : ℕ) → i < sz.N * sz.K → reads i ≡ reads' i)
      → fault_met sz fault reads ≡ fault_met sz fault reads'
  met-set fault reads reads' h = met-ext fault fault reads reads' (λ i l r. ap (λ (x : Bool). x && eqb (fault i) r) (h i l))

  -- pages that have not changed
  pub met-cells : (fault fault' : ℕ → ℕ) (reads : ℕ → Bool) → ((i : ℕ) → i < sz.N * sz.K → reads i ≡ true → fault i ≡ fault' i)
      → fault_met sz fault reads ≡ fault_met sz fault' reads
  met-cells fault fault' reads h = met-ext fault fault' reads reads (λ i l r. by-test (reads i)
      (λ e. rw e (ap (λ (x : ℕ). eqb x r) (h i l e))) (λ e. rw e))

  sum-ext : (n : ℕ) (g g' : ℕ → ℕ) → ((i : ℕ) → i < n → g i ≡ g' i) → sum n g ≡ sum n g'
  unfolding sum
  sum-ext zero g g' h = refl
  sum-ext (suc n) g g' h = let a = sum-ext n g g' (λ i l. h i (omega arith)) in let b = h n (omega arith) in omega arith

  pub mends-set : (mends : ℕ → ℕ) (reads reads' : ℕ → Bool) → ((i : ℕ) → i < sz.N * sz.K → reads i ≡ reads' i)
      → mends_met sz mends reads ≡ mends_met sz mends reads'
  unfolding mends_met
  mends-set mends reads reads' h = sum-ext (sz.N * sz.K) _ _ (λ i l. ap (λ (x : Bool). cond x (mends i) 0) (h i l))

  pub mends-cells : (mends mends' : ℕ → ℕ) (reads : ℕ → Bool) → ((i : ℕ) → i < sz.N * sz.K → reads i ≡ true → mends i ≡ mends' i)
      → mends_met sz mends reads ≡ mends_met sz mends' reads
  unfolding mends_met
  mends-cells mends mends' reads h = sum-ext (sz.N * sz.K) _ _ (λ i l. by-test (reads i) (λ e. rw e (h i l e)) (λ e. rw e))

-- ---- mends over sets of pages

-- no number below n is in both sets
pub mends-or : (sz : Sizes) (mends : ℕ → ℕ) (p q : ℕ → Bool) → ((i : ℕ) → i < sz.N * sz.K → p i ≡ true → q i ≡ true → ⊥)
    → mends_met sz mends (λ i. p i || q i) ≡ mends_met sz mends p + mends_met sz mends q
unfolding mends_met
mends-or sz mends p q apart = sum-or (sz.N * sz.K) mends p q apart

sum-high : (n k : ℕ) (g : ℕ → ℕ) → ((i : ℕ) → i < n → g i ≤ k) → sum n g ≤ n * k
unfolding sum
sum-high zero k g h = omega arith
sum-high (suc n) k g h = let a = sum-high n k g (λ i l. h i (omega arith)) in
    let b = h n (omega arith) in
    let e = suc-mul n k in
    omega arith

-- however many pages are read, their mends are few
pub mends-few : (sz : Sizes) → InLimits sz → (flash codes marks : List ℕ) (reads : ℕ → Bool)
    → mends_met sz (mends_on sz flash codes marks) reads ≤ most_mends
unfolding mends_met
mends-few sz limits flash codes marks reads =
    let a = sum-high (sz.N * sz.K) 8 (λ i. cond (reads i) (mends_on sz flash codes marks i) 0) (λ i l. by-test (reads i)
    (λ e. rw (e, mends-is sz flash codes marks i l) (mends-high (is_coded sz) sz limits (page_at sz.S flash i)
    (page_at (code_long sz) codes i))) (λ e. rw e (omega arith))) in
    let b : sz.N * sz.K ≤ 4096 * 64 = mul-le-mul limits.N_high limits.K_high in omega arith

-- ---- a block

module _ (sz : Sizes) (limits : InLimits sz) (b v : ℕ) (bl : b < sz.N) where
  reads_before : (j : ℕ) → j < b * sz.K + 0 → block_reads sz b v j ≡ false
  unfolding block_reads
  reads_before j l = rw (ne_eqb (j / sz.K) b (λ e. let q = page-split sz limits j b e in omega arith))

  reads_past : (o j : ℕ) → sz.K ≤ o → b * sz.K + o ≤ j → block_reads sz b v j ≡ false
  unfolding block_reads
  reads_past o j k l = rw (ne_eqb (j / sz.K) b (λ e. let q = page-split sz limits j b e in let r = offset_lt sz limits j in omega arith))

  reads_at : (o : ℕ) → o < sz.K → block_reads sz b v (b * sz.K + o) ≡ not (bit v o)
  unfolding block_reads
  reads_at o l = rw (page-div sz limits b o l, page-mod sz limits b o l, eq-eqb b b refl)

module _ (sz : Sizes) (flash codes marks : List ℕ) (b v : ℕ) where
  -- a page of the block meets refusal r
  abbrev meets : ℕ → ℕ → Bool
  meets r i = block_reads sz b v i && eqb (fault_on sz flash codes marks i) r

  abbrev adds : ℕ → ℕ
  adds i = cond (block_reads sz b v i) (mends_on sz flash codes marks i) 0

  abbrev wants : ℕ → Bool
  wants o = not (bit v o) && ltb 0 (mends_at sz flash codes (b * sz.K + o))

  -- the pages of the block below offset o are read
  abbrev reads_to : ℕ → ℕ → Bool
  reads_to o i = block_reads sz b v i && ltb i (b * sz.K + o)

  -- the offsets below o are looked at
  pub record LookedTo (o : ℕ) (seen : BlockSeen) : Type 0 where
    pub fault-is : fault_number seen.fault ≡ fault_met sz (fault_on sz flash codes marks) (reads_to o)
    pub mends-are : seen.mends ≡ mends_met sz (mends_on sz flash codes marks) (reads_to o)
    pub mend-is : seen.mend ≡ mask o wants

  module _ (h : Lent sz flash codes marks) (bl : b < sz.N) where
    limits : InLimits sz
    limits = h.codes-lent.limits

    pub looked-none : LookedTo 0 (record { fault = None; mends = 0; mend = 0 })
    unfolding mask
    looked-none = let none : (i : ℕ) → reads_to 0 i ≡ false = λ i. by-test (ltb i (b * sz.K + 0))
        (λ l. rw (reads_before sz limits b v bl i (ltb-true i (b * sz.K + 0) l)))
        (λ l. rw l (and-f (block_reads sz b v i))) in record {
          fault-is = sym (fault-none sz flash codes marks (reads_to 0) none);
          mends-are = sym (mends-none sz flash codes marks (reads_to 0) none);
          mend-is = refl;
        }

    module _ (o : ℕ) (l : o < sz.K) (seen : BlockSeen) (k : LookedTo o seen) where
      abbrev n : ℕ
      n = b * sz.K + o

      reads-here : block_reads sz b v n ≡ not (bit v o)
      reads-here = reads_at sz limits b v bl o l

      one_more : (i : ℕ) → ltb i (b * sz.K + (o + 1)) ≡ (ltb i n || eqb i n)
      one_more i = same_test
          (λ e. by-test (eqb i n) (λ u. or_r (ltb i n) u) (λ u. let a = ltb-true i (b * sz.K + (o + 1)) e in
          let c = eqb-false i n u in or_l (eqb i n) (lt-ltb i n (omega arith))))
          (λ e. lt-ltb i (b * sz.K + (o + 1)) (⊎_elim (λ u. let a = ltb-true i n u in omega arith)
          (λ u. let a = eqb-true i n u in omega arith) (or_cases (ltb i n) (eqb i n) e)))

      -- the page is valid
      pub looked-valid : bit v o ≡ true → LookedTo (o + 1) seen
      looked-valid e = let same : (i : ℕ) → i < sz.N * sz.K → reads_to o i ≡ reads_to (o + 1) i = λ i il. rw (one_more i)
          (by-test (eqb i n) (λ u. rw (eqb-true i n u, reads-here, e)) (λ u. rw (u, or_false (ltb i n)))) in record {
            fault-is = k.fault-is ∙ met-set sz (fault_on sz flash codes marks) (reads_to o) (reads_to (o + 1)) same;
            mends-are = k.mends-are ∙ mends-set sz (mends_on sz flash codes marks) (reads_to o) (reads_to (o + 1)) same;
            mend-is = k.mend-is ∙ sym (mask-more wants o ∙ rw e);
          }

      module _ (page : Seen) (s : Looked sz flash codes marks n page) where
        pub few-seen : seen.mends + page.mends < 2 ^ 32
        few-seen = let m = s.mends-are ∙ mends-is sz flash codes marks n (page-lt sz limits b o bl l) in
            let high : page.mends ≤ 8 = rw m (mends-high (is_coded sz) sz limits _ _) in
            let q = mends-few sz limits flash codes marks (reads_to o) in let r = k.mends-are in omega arith

        -- the page is read
        module _ (e : bit v o ≡ false) (fault' : Option Fault)
            (worse : fault_number fault' ≡ worse_of (fault_number seen.fault) (fault_number page.fault)) where
          here : (i : ℕ) → i < sz.N * sz.K → (reads_to o i || eqb i n) ≡ reads_to (o + 1) i
          here i il = rw (one_more i) (by-test (eqb i n) (λ u. rw (eqb-true i n u, reads-here, e))
              (λ u. rw (u, or_false (reads_to o i), or_false (ltb i n))))

          looked-read : (mend' : ℕ) → mend' ≡ cond (eqb page.mends 0) seen.mend (with_bit seen.mend o)
              → LookedTo (o + 1) (record { fault = fault'; mends = seen.mends + page.mends; mend = mend' })
          looked-read mend' me = let nl = page-lt sz limits b o bl l in
              let only : (i : ℕ) → i ≢ n → eqb i n ≡ false = λ i ne. ne_eqb i n ne in
              let one = eq-eqb n n refl in
              let mended : page.mends ≡ mends_at sz flash codes n = s.mends-are ∙ mends-is sz flash codes marks n nl in record {
                fault-is = worse ∙ rw (k.fault-is, s.fault-is)
                    (ap (worse_of _) (sym (fault-one sz flash codes marks (λ i. eqb i n) n nl one only))
                    ∙ sym (fault-or sz (fault_on sz flash codes marks) (reads_to o) (λ i. eqb i n))
                    ∙ met-set sz (fault_on sz flash codes marks) _ (reads_to (o + 1)) here);
                mends-are = rw (k.mends-are, s.mends-are)
                    (ap (λ (x : ℕ). mends_met sz (mends_on sz flash codes marks) (reads_to o) + x)
                    (sym (mends-one sz flash codes marks (λ i. eqb i n) n nl one only))
                    ∙ sym (mends-or sz (mends_on sz flash codes marks) (reads_to o) (λ i. eqb i n) (λ i il p q.
                    let a = ltb-true i n (and_r (block_reads sz b v i) _ p) in let c = eqb-true i n q in omega arith))
                    ∙ mends-set sz (mends_on sz flash codes marks) _ (reads_to (o + 1)) here);
                mend-is = rw (me, mask-more wants o, e, ← mended) (by-test (eqb page.mends 0)
                    (λ u. let z = eqb-true page.mends 0 u in rw (u, le-ltb 0 page.mends (omega arith)) k.mend-is)
                    (λ u. let z = eqb-false page.mends 0 u in rw (u, lt-ltb 0 page.mends (omega arith))
                    (ap (λ (x : ℕ). with_bit x o) k.mend-is)));
              }

          -- and wants mending, or not
          pub looked-mend : page.mends ≢ 0
              → LookedTo (o + 1) (record { fault = fault'; mends = seen.mends + page.mends; mend = with_bit seen.mend o })
          looked-mend u = looked-read (with_bit seen.mend o) (rw (ne_eqb page.mends 0 u))

          pub looked-clean : page.mends ≡ 0
              → LookedTo (o + 1) (record { fault = fault'; mends = seen.mends + page.mends; mend = seen.mend })
          looked-clean u = looked-read seen.mend (rw (eq-eqb page.mends 0 u))

    -- all are
    pub looked-all : (o : ℕ) → o ≡ sz.K → (seen : BlockSeen) → LookedTo o seen → BlockLooked sz flash codes marks b v seen
    unfolding mend_set
    looked-all o e seen k = let same : (i : ℕ) → i < sz.N * sz.K → reads_to o i ≡ block_reads sz b v i = λ i il.
        by-test (ltb i (b * sz.K + o)) (λ u. rw u (and-true (block_reads sz b v i)))
        (λ u. rw (u, reads_past sz limits b v bl o i (omega arith) (ltb-false i (b * sz.K + o) u))) in record {
          fault-is = k.fault-is ∙ met-set sz (fault_on sz flash codes marks) (reads_to o) (block_reads sz b v) same;
          mends-are = k.mends-are ∙ mends-set sz (mends_on sz flash codes marks) (reads_to o) (block_reads sz b v) same;
          mend-is = k.mend-is ∙ ap (λ (x : ℕ). mask x wants) e;
        }

    -- there is nothing to look at
    pub looked-plain : is_coded sz ≡ false → is_marked sz ≡ false → BlockLooked sz flash codes marks b v
        (record { fault = None; mends = 0; mend = 0 })
    unfolding fault_met some_page some mends_met mend_set
    looked-plain c m =
        let fault : (i : ℕ) → i < sz.N * sz.K → fault_on sz flash codes marks i
        ≡ 0 = (λ i l. fault-is sz flash codes marks i l ∙ rw (
          unread-plain (is_coded sz) c sz (page_at sz.S flash i)
              (page_at (code_long sz) codes i),
          m,
        )) in
        let none : (i : ℕ) → i < sz.N * sz.K → mends_on sz flash codes marks i
        ≡ 0 = (λ i l. mends-is sz flash codes marks i l ∙ mends-plain (is_coded sz) c sz _ _) in
        let q7 = some-none (meets 7) (sz.N * sz.K) (λ j l. rw (fault j l) (and-f (block_reads sz b v j))) in
        let q14 = some-none (meets 14) (sz.N * sz.K) (λ j l. rw (fault j l) (and-f (block_reads sz b v j))) in
        record {
          fault-is = ap₂ (λ (x y : Bool). cond x 7 (cond y 14 0)) (sym q7) (sym q14);
          mends-are = sym (sum-none adds (sz.N * sz.K) (λ j l. rw (none j l) (cond_same (block_reads sz b v j))));
          mend-is = sym
              (mask-none wants sz.K (λ j l. rw (mends-plain (is_coded sz) c sz (page_at sz.S flash (b * sz.K + j))
              (page_at (code_long sz) codes (b * sz.K + j))) (and-f (not (bit v j)))));
        }

-- ---- no page that is read is faulty

module _ (sz : Sizes) (flash codes marks : List ℕ) (b v : ℕ) (limits : InLimits sz) (bl : b < sz.N) where
  pub no-fault : fault_met sz (fault_on sz flash codes marks) (block_reads sz b v) ≡ 0 → (o : ℕ) → o < sz.K → bit v o ≡ false
      → unreadable_at sz flash codes (b * sz.K + o) ≡ false
  unfolding fault_met some_page some
  no-fault h o l e =
      let nl = page-lt sz limits b o bl l in
      let n : ℕ = b * sz.K + o in
      by-test (unreadable_at sz flash codes n)
      (λ u. let met : meets sz flash codes marks b v 7 n ≡ true = rw (
        reads_at sz limits b v bl o l,
        e,
        fault-is sz flash codes marks n nl,
        u,
      ) in
      let s : some_page sz (meets sz flash codes marks b v 7) ≡ true =
      (some_of (meets sz flash codes marks b v 7) (sz.N * sz.K) n nl met) in
      absurd (seven (some_page sz (meets sz flash codes marks b v 7)) (some_page sz (meets sz flash codes marks b v 14)) s h))
      (λ u. u)

-- where nothing is mended no page wants mending
sum-zero : (n : ℕ) (g : ℕ → ℕ) → sum n g ≡ 0 → (j : ℕ) → j < n → g j ≡ 0
unfolding sum
sum-zero zero g h j l = absurd (omega arith)
sum-zero (suc n) g h j l = by-test (ltb j n)
    (λ u. sum-zero n g (omega arith) j (ltb-true j n u))
    (λ u. let k = ltb-false j n u in let e : j ≡ n = omega arith in rw e (omega arith))

module _ (sz : Sizes) (flash codes marks : List ℕ) (b v : ℕ) (limits : InLimits sz) (bl : b < sz.N) where
  pub none-to_mend : mends_met sz (mends_on sz flash codes marks) (block_reads sz b v) ≡ 0 → mend_set sz flash codes b v ≡ 0
  unfolding mends_met mend_set
  none-to_mend h = mask-none (wants sz flash codes marks b v) sz.K (λ o l. by-test (bit v o)
      (λ e. rw e)
      (λ e. let n : ℕ = b * sz.K + o in let nl = page-lt sz limits b o bl l in
      let z = sum-zero (sz.N * sz.K) (adds sz flash codes marks b v) h n nl in
      let r : block_reads sz b v n ≡ true = reads_at sz limits b v bl o l ∙ rw e in
      let m : mends_at sz flash codes n ≡ 0 = sym (mends-is sz flash codes marks n nl) ∙ rw r at z in
      rw (e, m)))
