-- A page of chunks, at most one bit of each of which has flipped, is read as it was.
use mathlib.Core.Path.{◌≡◌, refl, ap, ◌∙◌}
use mathlib.Core.Logic.{inl, inr}
use mathlib.Core.Bool.{Bool, true, false}
use mathlib.Core.List.{List, [], ◌∷◌}
use Prim.Native.Nat.{ℕ, zero, suc, ◌+◌, ◌*◌, ◌/◌, ◌%◌, ◌^◌, ◌≤◌, ◌<◌}
use native.Mathlib.Nat.{mod-lt, zero-lt-suc}
use native.Mathlib.Omega.{arith}
use lib.Dec.{ltb}
use lib.ListN.{length, get_or, take, drop}
use borrow.Author.Tests.{eqb-true, ltb-true, ltb-false}
use Rattle.prelude.specs.Scan.{count, tab}
use Rattle.prelude.specs.Pages.{page_at, pages_of, flat}
use Rattle.prelude.proofs.Tests.{by-test, not_f}
use Rattle.prelude.proofs.Tab.{length-tab, get_d_tab, tab-ext}
use Rattle.prelude.proofs.Scan.{all_of, count_same, count_none}
use Rattle.prelude.proofs.Pages.{length-page_at, length-flat, ends-before, flat-pages}
use Rattle.codes.specs.Code.{code_of, codes_of}
use Rattle.codes.specs.Reading.{difference, leaves, addressed, legible, mended, differs, code_at, page_legible, page_mended, page_mends}
use Rattle.codes.specs.Reading.{flips_at, flipped_chunks, Bytes, OneFlip, FewFlips, ReadAs, PageReadAs}
use Rattle.codes.proofs.CodeBits.{code_lt, length-flipped}
use Rattle.codes.proofs.Differences.{count-zero, leaves_none, own_read, addressed-lt}
use Rattle.codes.proofs.Chunks.{chunk_read}

get_d_past : (l : List ℕ) (i : ℕ) → length l ≤ i → get_or l i 0 ≡ 0
get_d_past [] i h = refl
get_d_past (x ∷ l) zero h = absurd (omega arith)
get_d_past (x ∷ l) (suc i) h = get_d_past l i (omega arith)

bytes_drop : (n : ℕ) (l : List ℕ) → Bytes l → Bytes (drop n l)
bytes_drop zero l h i = h i
bytes_drop (suc n) [] h i = h i
bytes_drop (suc n) (x ∷ l) h i = bytes_drop n l (λ j. h (suc j)) i

bytes_take : (n : ℕ) (l : List ℕ) → Bytes l → Bytes (take n l)
bytes_take zero l h i = omega arith
bytes_take (suc n) [] h i = h i
bytes_take (suc n) (x ∷ l) h zero = h 0
bytes_take (suc n) (x ∷ l) h (suc i) = bytes_take n l (λ j. h (suc j)) i

pub bytes-page : (s : ℕ) (l : List ℕ) (i : ℕ) → Bytes l → Bytes (page_at s l i)
unfolding page_at
bytes-page s l i h = bytes_take s (drop (i * s) l) (bytes_drop (i * s) l h)

pub code_at-lt : (codes : List ℕ) (i : ℕ) → Bytes codes → code_at codes i < 2 ^ 24
unfolding code_at
code_at-lt codes i h = let a = h (i * 3) in let b = h (i * 3 + 1) in let c = h (i * 3 + 2) in omega arith

three : (c : ℕ) → c < 2 ^ 24 → c / 256 ^ 0 % 256 + c / 256 ^ 1 % 256 * 256 + c / 256 ^ 2 % 256 * 65536 ≡ c
three c h = omega arith

-- the codes of a page are its chunks' codes
pub code-at : (m : ℕ) (page : List ℕ) (i : ℕ) → i < m → code_at (codes_of m page) i ≡ code_of (page_at 256 page i)
unfolding code_at codes_of
code-at m page i l =
    let f : ℕ → ℕ = λ k. code_of (page_at 256 page (k / 3)) / 256 ^ (k % 3) % 256 in
    let a0 : i * 3 / 3 ≡ i = omega arith in let a1 : (i * 3 + 1) / 3 ≡ i = omega arith in let a2 : (i * 3 + 2) / 3 ≡ i = omega arith in
    let b0 : i * 3 % 3 ≡ 0 = omega arith in let b1 : (i * 3 + 1) % 3 ≡ 1 = omega arith in let b2 : (i * 3 + 2) % 3 ≡ 2 = omega arith in
    rw (
      get_d_tab (m * 3) f 0 (i * 3) (omega arith),
      get_d_tab (m * 3) f 0 (i * 3 + 1) (omega arith),
      get_d_tab (m * 3) f 0 (i * 3 + 2) (omega arith),
      a0,
      a1,
      a2,
      b0,
      b1,
      b2,
    )
    (three (code_of (page_at 256 page i)) (code_lt (page_at 256 page i)))

whole : (m : ℕ) (page : List ℕ) → length page ≡ m * 256 → flat (tab m (page_at 256 page)) ≡ page
unfolding pages_of
whole m page l = flat-pages 256 m page l

-- each chunk is read as a chunk of `was`: so the page is
page-of : (m : ℕ) (page codes was : List ℕ) (mend : ℕ → Bool) → length was ≡ m * 256
    → ((i : ℕ) → i < m → ReadAs (page_at 256 page i) (code_at codes i) (page_at 256 was i) (mend i))
    → PageReadAs m page codes was (count m mend)
unfolding page_mended page_mends page_legible
page-of m page codes was mend l one =
    let can = all_of m (λ i. legible (page_at 256 page i) (code_at codes i)) (λ i il. (one i il).can) in
    record {
      can = can;
      data_is = ap flat (tab-ext [] m (λ i. mended (page_at 256 page i) (code_at codes i)) (page_at 256 was) (λ i il. (one i il).data_is))
          ∙ whole m was l;
      mends-are = rw can (count_same m (λ i. differs (page_at 256 page i) (code_at codes i)) mend (λ i il. (one i il).counts));
    }

-- THE THEOREM for a page of m chunks with the codes programmed for it: with at most one bit of each chunk and its code flipped it is read
-- as it was, and each chunk with a flipped bit is mended
pub page-read : (m : ℕ) (page page' codes' : List ℕ) → length page ≡ m * 256 → length page' ≡ m * 256 → Bytes page → Bytes page'
    → Bytes codes'
    → OneFlip m page (codes_of m page) page' codes'
    → PageReadAs m page' codes' page (flipped_chunks m page (codes_of m page) page' codes')
unfolding flipped_chunks
page-read m page page' codes' l l' b b' bc h = page-of m page' codes' page (λ i. ltb 0 (flips_at page (codes_of m page) page' codes' i)) l
    (λ i il.
    let w = ends-before 256 il in let c = code-at m page i il in
    rw c (chunk_read (page_at 256 page i) (page_at 256 page' i) (code_at codes' i)
    (length-page_at 256 page i (omega arith)) (length-page_at 256 page' i (omega arith))
    (bytes-page 256 page i b) (bytes-page 256 page' i b') (code_at-lt codes' i bc) (rw c at (h i il))))

-- any page is read with its own codes as it is, with no mend
pub read-own : (m : ℕ) (page : List ℕ) → length page ≡ m * 256 → PageReadAs m page (codes_of m page) page 0
read-own m page l = rw (count_none m (λ i. false) (λ i il. refl)) at (page-of m page (codes_of m page) page (λ i. false) l
    (λ i il. rw (code-at m page i il) (own_read (page_at 256 page i))))

-- so any page that few flips have reached is read as it was
pub flips-read : (m : ℕ) (page page' codes' : List ℕ) → length page ≡ m * 256 → length page' ≡ m * 256
    → FewFlips m page (codes_of m page) page' codes' → (n : ℕ) × PageReadAs m page' codes' page n
flips-read m page page' codes' l l' (inl h) = (0, rw (h.0, h.1) (read-own m page l))
flips-read m page page' codes' l l' (inr h) = (_, page-read m page page' codes' l l' h.0 h.1 h.2 h.3)

-- a page that can be read and has no mend is read as it is
pub none-mended : (m : ℕ) (page codes : List ℕ) → length page ≡ m * 256 → page_legible m page codes ≡ true → page_mends m page codes ≡ 0
    → page_mended m page codes ≡ page
unfolding page_mends page_mended differs mended
none-mended m page codes l can h = ap flat (tab-ext [] m (λ i. mended (page_at 256 page i) (code_at codes i)) (page_at 256 page) (λ i il.
    let z : difference (page_at 256 page i) (code_at codes i) ≡ 0
    = eqb-true _ 0 (not_f (count-zero m (λ i. differs (page_at 256 page i) (code_at codes i)) (rw can at h) i il)) in
    rw (z, leaves_none))) ∙ whole m page l

-- ---- lengths and bytes

pub length-codes : (m : ℕ) (page : List ℕ) → length (codes_of m page) ≡ m * 3
unfolding codes_of
length-codes m page = length-tab (m * 3) _

bytes-tab : (n : ℕ) (f : ℕ → ℕ) → ((i : ℕ) → f i < 256) → Bytes (tab n f)
bytes-tab n f h i = by-test (ltb i n)
    (λ t. rw (get_d_tab n f 0 i (ltb-true i n t)) (h i))
    (λ t. rw (get_d_past (tab n f) i (let e = length-tab n f in let k = ltb-false i n t in omega arith)) (omega arith))

pub bytes-codes : (m : ℕ) (page : List ℕ) → Bytes (codes_of m page)
unfolding codes_of
bytes-codes m page = bytes-tab (m * 3) _ (λ i. mod-lt (code_of (page_at 256 page (i / 3)) / 256 ^ (i % 3)) (zero-lt-suc 255))

length-mended : (d : List ℕ) (c : ℕ) → length d ≡ 256 → length (mended d c) ≡ 256
unfolding mended
length-mended d c e = by-test (leaves (difference d c)) (λ t. rw t e)
    (λ t. rw t (length-flipped d (addressed (difference d c)) (let w = addressed-lt (difference d c) in omega arith) ∙ e))

-- each chunk is read as long as it was
pub mended-long : (m : ℕ) (page codes : List ℕ) → length page ≡ m * 256 → (i : ℕ) → i < m
    → let f : ℕ → List ℕ = λ i. mended (page_at 256 page i) (code_at codes i) in length (get_or (tab m f) i []) ≡ 256
mended-long m page codes e i l = ap length (get_d_tab m (λ i. mended (page_at 256 page i) (code_at codes i)) [] i l)
    ∙ length-mended (page_at 256 page i) (code_at codes i) (length-page_at 256 page i (let w = ends-before 256 l in omega arith))

-- a page that is read is as long as it was, whatever the codes
pub length-read : (m : ℕ) (page codes : List ℕ) → length page ≡ m * 256 → length (page_mended m page codes) ≡ m * 256
unfolding page_mended
length-read m page codes e =
    let f : ℕ → List ℕ = λ i. mended (page_at 256 page i) (code_at codes i) in
    length-flat 256 (tab m f) [] (λ i l. mended-long m page codes e i (rw length-tab at l)) ∙ ap (λ (x : ℕ). x * 256) (length-tab m f)
