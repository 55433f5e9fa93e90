-- Laws of pages in a list, over the page size s and any element type.
use mathlib.Core.Path.{◌≡◌, refl, sym, ap, ◌∙◌}
use mathlib.Core.Logic.{◌≢◌, ◌⊎◌, inl, inr, ⊎_elim}
use mathlib.Core.Bool.{cond}
use mathlib.Core.List.{List, [], ◌∷◌, ◌++◌, append_assoc}
use Prim.Native.Nat.{ℕ, zero, suc, ◌+◌, ◌-◌, ◌*◌, ◌/◌, ◌%◌, ◌≤◌, ◌<◌}
use native.Mathlib.Nat.{not-suc-le-zero, mul-le-mul_right, suc-mul, zero-mul, mul_assoc, add-mul, add_comm, add-zero, mod-lt}
use native.Mathlib.Nat.{div-lt_iff_lt-mul, div-add-mod'}
use native.Mathlib.Decide.{dec_lt}
use native.Mathlib.Omega.{arith}
use lib.Arith.{digits_lt}
use lib.Dec.{eqb}
use lib.ListN.{length, get_or, set, take, drop, length-append, length-take, length-drop, length-set, take-append-drop}
use lib.Seq.{take-append-le, drop-append-le, drop-append-add, take_at, drop_at, drop-drop, take-take, take-add, take-length, length-take-le}
use lib.Seq.{ext_get_or, get_or-set_same, get_or-set_other}
use borrow.Author.Tests.{eqb-true, eqb-false}
use Rattle.prelude.specs.Scan.{tab, tab_from}
use Rattle.prelude.specs.Pages.{page_at, put_page, run_at, laid, pages_of, flat}
use Rattle.prelude.proofs.Tests.{by-test}
use Rattle.prelude.proofs.Tab.{length-tab, get_d_tab, tab-ext}

-- page j ends where page i begins, or before
pub ends-before : (s : ℕ) {j i : ℕ} → j < i → j * s + s ≤ i * s
ends-before s {j} {i} h = let m : suc j * s ≤ i * s = mul-le-mul_right s h in omega (arith, suc-mul j s)

pub apart : {i j : ℕ} → i ≢ j → (i < j) ⊎ (j < i)
apart {i} {j} ne = pick (dec_lt i j)
  where
    pick : Dec (i < j) → (i < j) ⊎ (j < i)
    pick (yes h) = inl h
    pick (no h) = inr (omega arith)

module _ {A : Type 0} where
  -- what lies in the front of x ++ y is x's
  front : (n m : ℕ) (x y : List A) → n + m ≤ length x → take m (drop n (x ++ y)) ≡ take m (drop n x)
  front n m x y h =
      let k : n ≤ length x = omega arith in
      let g : m ≤ length (drop n x) = simp length-drop (omega arith) in
      rw (drop-append-le n x y k, take-append-le m (drop n x) y g)

  front-take : (n m k : ℕ) (l : List A) → n + m ≤ k → take m (drop n (take k l)) ≡ take m (drop n l)
  front-take zero m k l h = take-take m k l (omega arith)
  front-take (suc n) m zero l h = absurd (not-suc-le-zero {n = n + m} (omega arith))
  front-take (suc n) m (suc k) [] h = refl
  front-take (suc n) m (suc k) (x ∷ xs) h = front-take n m k xs (omega arith)

  -- what lies from n on, past x, is l's
  pub back : (n e : ℕ) (x l : List A) → length x ≡ e → e ≤ n → drop n (x ++ drop e l) ≡ drop n l
  back n e x l h k =
      let j : n ≡ length x + (n - e) = omega arith in
      let i : e + (n - e) ≡ n = omega arith in
      ap (λ (q : ℕ). drop q (x ++ drop e l)) j ∙ drop-append-add x (drop e l) (n - e) ∙ drop-drop (n - e) e l ∙ ap (λ (q : ℕ). drop q l) i

-- laying in keeps the length
pub length-laid : {A : Type 0} (i : ℕ) (x l : List A) → i + length x ≤ length l → length (laid i x l) ≡ length l
unfolding laid
length-laid i x l h = simp (length-append, length-take, length-drop) (omega arith)

-- laid in as two parts, one after the other
pub laid-append : {A : Type 0} (i : ℕ) (x y l : List A) → i + length x ≤ length l → laid i (x ++ y) l ≡ laid (i + length x) y (laid i x l)
unfolding laid
laid-append i x y l h =
    let long : length (take i l ++ x) ≡ i + length x = simp (length-append, length-take) (omega arith) in
    let sum : i + length (x ++ y) ≡ i + length x + length y = simp length-append (omega arith) in
    rw (
      sum,
      append_assoc x y,
      ← append_assoc (take i l) x (y ++ drop (i + length x + length y) l),
      ← append_assoc (take i l) x (drop (i + length x) l),
      take_at (take i l ++ x) (drop (i + length x) l) (i + length x) long,
      back (i + length x + length y) (i + length x) (take i l ++ x) l long (omega arith),
    )

module _ {A : Type 0} (s : ℕ) (l : List A) (i : ℕ) (fits : i * s + s ≤ length l) where
  pub length-page_at : length (page_at s l i) ≡ s
  unfolding page_at
  length-page_at = simp (length-take, length-drop) (omega arith)

module _ {A : Type 0} (s : ℕ) (l : List A) (i : ℕ) (pg : List A) (fits : i * s + s ≤ length l) (full : length pg ≡ s) where
  head-long : length (take (i * s) l) ≡ i * s
  head-long = length-take-le (i * s) l (omega arith)

  upto_long : length (take (i * s) l ++ pg) ≡ i * s + s
  upto_long = simp (length-append, length-take) (omega arith)

  grouped : put_page s l i pg ≡ (take (i * s) l ++ pg) ++ drop (i * s + s) l
  unfolding put_page
  grouped = sym (append_assoc (take (i * s) l) pg (drop (i * s + s) l))

  pub page-put_same : page_at s (put_page s l i pg) i ≡ pg
  unfolding page_at put_page
  page-put_same = rw (drop_at (take (i * s) l) (pg ++ drop (i * s + s) l) (i * s) head-long) (take_at pg (drop (i * s + s) l) s full)

  page-put_below : (j : ℕ) → j < i → page_at s (put_page s l i pg) j ≡ page_at s l j
  unfolding page_at put_page
  page-put_below j h =
      let le : j * s + s ≤ length (take (i * s) l) = omega (arith, head-long, ends-before s h) in
      front (j * s) s (take (i * s) l) (pg ++ drop (i * s + s) l) le
      ∙ sym (front (j * s) s (take (i * s) l) (drop (i * s) l) le)
      ∙ ap (λ (x : List A). take s (drop (j * s) x)) (take-append-drop (i * s) l)

  page-put_above : (j : ℕ) → i < j → page_at s (put_page s l i pg) j ≡ page_at s l j
  unfolding page_at
  page-put_above j h =
      rw grouped (ap (take s) (back (j * s) (i * s + s) (take (i * s) l ++ pg) l upto_long (ends-before s h)))

  pub page-put_other : (j : ℕ) → i ≢ j → page_at s (put_page s l i pg) j ≡ page_at s l j
  page-put_other j ne = ⊎_elim (page-put_above j) (page-put_below j) (apart ne)

-- ---- runs of pages

laid-page : {A : Type 0} {s : ℕ} (i : ℕ) (pg l : List A) → length pg ≡ s → laid (i * s) pg l ≡ put_page s l i pg
unfolding laid put_page
laid-page i pg l full = rw full

module _ {A : Type 0} (s : ℕ) (src : List A) (j : ℕ) where
  run_none : run_at s src j 0 ≡ []
  unfolding run_at
  run_none = rw (zero-mul s)

  run_more : (n : ℕ) → run_at s src j (suc n) ≡ run_at s src j n ++ page_at s src (j + n)
  unfolding run_at page_at
  run_more n = rw (suc-mul n s, take-add (n * s) s (drop (j * s) src), drop-drop (n * s) (j * s) src, add-mul j n s)

  pub length_run : (n : ℕ) → j * s + n * s ≤ length src → length (run_at s src j n) ≡ n * s
  unfolding run_at
  length_run n h = simp (length-take, length-drop) (omega arith)

  -- a run laid in at page i is its pages put there, one after the other
  module _ (l : List A) (i : ℕ) where
    pub laid_none : laid (i * s) (run_at s src j 0) l ≡ l
    unfolding laid
    laid_none = rw (run_none, add-zero (i * s)) (take-append-drop (i * s) l)

    pub laid_more : (n : ℕ) → i * s + suc n * s ≤ length l → j * s + suc n * s ≤ length src
        → laid (i * s) (run_at s src j (suc n)) l ≡ put_page s (laid (i * s) (run_at s src j n) l) (i + n) (page_at s src (j + n))
    laid_more n h k =
        let m = suc-mul n s in
        let long : length (run_at s src j n) ≡ n * s = length_run n (omega arith) in
        let full : length (page_at s src (j + n)) ≡ s = length-page_at s src (j + n) (let a = add-mul j n s in omega arith) in
        rw (run_more n, laid-append (i * s) (run_at s src j n) (page_at s src (j + n)) l (omega arith), long, ← add-mul i n s)
        (laid-page (i + n) _ _ full)

-- a run of n pages
module _ {A : Type 0} (s n : ℕ) where
  pub in_run : (l : List A) → length l ≡ n * s → {i : ℕ} → i < n → i * s + s ≤ length l
  in_run l e h = omega (arith, ends-before s h)

-- blocks of k pages of s: a page of a block is a page of the run
module _ {A : Type 0} (s k : ℕ) (l : List A) (b o : ℕ) (inside : o < k) where
  place : (b * k + o) * s ≡ b * (k * s) + o * s
  place = add-mul (b * k) o s ∙ ap (λ (x : ℕ). x + o * s) (mul_assoc b k s)

  pub page_of-block : page_at s (page_at (k * s) l b) o ≡ page_at s l (b * k + o)
  unfolding page_at
  page_of-block =
      front-take (o * s) s (k * s) (drop (b * (k * s)) l) (ends-before s inside)
      ∙ ap (take s) (drop-drop (o * s) (b * (k * s)) l ∙ ap (λ (x : ℕ). drop x l) (sym place))

  -- a page put into a block, and the block put back, is the page put into the run
  pub put_in-block : (pg : List A) → b * (k * s) + k * s ≤ length l
      → put_page (k * s) l b (put_page s (page_at (k * s) l b) o pg) ≡ put_page s l (b * k + o) pg
  unfolding page_at put_page
  put_in-block pg fits =
      let B = b * (k * s) in
      let L = drop B l in
      let le : o * s + s ≤ k * s = ends-before s inside in
      let long : length (take (k * s) L) ≡ k * s = length-take-le (k * s) L (simp length-drop (omega arith)) in
      let sums : B + (o * s + s) ≡ B + o * s + s = omega arith in
      let rest : drop (o * s + s) (take (k * s) L) ++ drop (B + k * s) l ≡ drop (B + o * s + s) l =
      ap (λ (x : List A). drop (o * s + s) (take (k * s) L) ++ x) (sym (drop-drop (k * s) B l))
      ∙ sym (drop-append-le (o * s + s) (take (k * s) L) (drop (k * s) L) (omega arith))
      ∙ ap (drop (o * s + s)) (take-append-drop (k * s) L)
      ∙ drop-drop (o * s + s) B l ∙ ap (λ (x : ℕ). drop x l) sums in
      rw (place, take-take (o * s) (k * s) L (omega arith), append_assoc, append_assoc, rest, take-add B (o * s) l, append_assoc)

-- ---- cut into pages, and joined

module _ {A : Type 0} where
  flat-from : (s i n : ℕ) (l : List A) → flat (tab_from i n (page_at s l)) ≡ take (n * s) (drop (i * s) l)
  unfolding flat tab_from page_at
  flat-from s i zero l = rw zero-mul
  flat-from s i (suc n) l =
      ap (λ (t : List A). take s (drop (i * s) l) ++ t) (flat-from s (suc i) n l)
      ∙ sym (ap (λ (k : ℕ). take k (drop (i * s) l)) (suc-mul n s ∙ add_comm (n * s) s) ∙ take-add s (n * s) (drop (i * s) l)
      ∙ ap (λ (t : List A). take s (drop (i * s) l) ++ take (n * s) t)
      (drop-drop s (i * s) l ∙ ap (λ (k : ℕ). drop k l) (sym (suc-mul i s))))

  pub flat-pages : (s n : ℕ) (l : List A) → length l ≡ n * s → flat (pages_of s n l) ≡ l
  unfolding pages_of tab
  flat-pages s n l h = flat-from s 0 n l ∙ rw (zero-mul s, ← h) (take-length l)

  -- the pages of a list of pages of s bytes
  pub page-flat : (s : ℕ) (ps : List (List A)) (d : List A) → ((i : ℕ) → i < length ps → length (get_or ps i d) ≡ s) → (i : ℕ)
      → i < length ps → page_at s (flat ps) i ≡ get_or ps i d
  unfolding page_at flat
  page-flat s [] d h i l = absurd (omega arith)
  page-flat s (p ∷ ps) d h zero l = rw (zero-mul s) (take_at p (flat ps) s (h 0 l))
  page-flat s (p ∷ ps) d h (suc i) l =
      ap (λ (k : ℕ). take s (drop k (p ++ flat ps))) (suc-mul i s ∙ add_comm (i * s) s
      ∙ ap (λ (k : ℕ). k + i * s) (sym (h 0 (omega arith))))
      ∙ ap (take s) (drop-append-add p (flat ps) (i * s)) ∙ page-flat s ps d (λ j jl. h (suc j) (omega arith)) i (omega arith)

  pub pages-flat : (s : ℕ) (ps : List (List A)) (d : List A) → ((i : ℕ) → i < length ps → length (get_or ps i d) ≡ s)
      → pages_of s (length ps) (flat ps) ≡ ps
  unfolding pages_of
  pages-flat s ps d h = ext_get_or d _ ps (length-tab (length ps) _)
      (λ i l. let il : i < length ps = (rw length-tab at l) in get_d_tab (length ps) _ d i il ∙ page-flat s ps d h i il)

  pub length-flat : (s : ℕ) (ps : List (List A)) (d : List A) → ((i : ℕ) → i < length ps → length (get_or ps i d) ≡ s)
      → length (flat ps) ≡ length ps * s
  unfolding flat
  length-flat s [] d h = sym (zero-mul s)
  length-flat s (p ∷ ps) d h = length-append p (flat ps) ∙ rw (
    h 0 (omega arith),
    length-flat s ps d (λ j jl. h (suc j) (omega arith)),
    suc-mul,
  ) (add_comm s _)

-- ---- a buffer as a list of pages

module _ {A : Type 0} (s n : ℕ) (l : List A) where
  pub pages-length : length (pages_of s n l) ≡ n
  unfolding pages_of
  pages-length = length-tab n _

  pub page-at : (d : List A) (i : ℕ) → i < n → get_or (pages_of s n l) i d ≡ page_at s l i
  unfolding pages_of
  page-at d i h = get_d_tab n (page_at s l) d i h

  pub page-long : (d : List A) (i : ℕ) → i < n → length l ≡ n * s → length (get_or (pages_of s n l) i d) ≡ s
  page-long d i h e = ap length (page-at d i h) ∙ length-page_at s l i (in_run s n l e h)

  -- a page put is a page set
  pub pages-put : (i : ℕ) (pg : List A) → i < n → length l ≡ n * s → length pg ≡ s
      → pages_of s n (put_page s l i pg) ≡ set (pages_of s n l) i pg
  unfolding pages_of
  pages-put i pg h e g = ext_get_or pg _ _ (simp (length-tab, length-set)) (λ j k. let jl : j < n = (rw length-tab at k) in
      get_d_tab n _ pg j jl ∙ by-test (eqb j i)
      (λ t. rw (eqb-true j i t) (page-put_same s l i pg (in_run s n l e h) g
      ∙ sym (get_or-set_same (tab n (page_at s l)) i pg pg (rw length-tab h))))
      (λ t. let ne = eqb-false j i t in page-put_other s l i pg (in_run s n l e h) g j (λ q. ne (sym q))
      ∙ sym (get_or-set_other (tab n (page_at s l)) i j pg pg ne ∙ get_d_tab n _ pg j jl)))

-- blocks of k pages
module _ {A : Type 0} (s k n : ℕ) (l : List A) (long : length l ≡ n * k * s) where
  block_run : length l ≡ n * (k * s)
  block_run = long ∙ mul_assoc n k s

  pub block-fits : (b : ℕ) → b < n → b * (k * s) + k * s ≤ length l
  block-fits b h = in_run (k * s) n l block_run h

  -- a page of a block
  pub block-page : (d : List A) (b o : ℕ) → b < n → o < k → get_or (pages_of s k (page_at (k * s) l b)) o d
      ≡ get_or (pages_of s (n * k) l) (b * k + o) d
  block-page d b o h g = page-at s k (page_at (k * s) l b) d o g ∙ page_of-block s k l b o g
      ∙ sym (page-at s (n * k) l d (b * k + o) (digits_lt h g))

  pub block-long : (b : ℕ) → b < n → length (page_at (k * s) l b) ≡ k * s
  block-long b h = length-page_at (k * s) l b (block-fits b h)

  -- a block put
  pub block-put : (d : List A) (b : ℕ) (fr : List A) → 0 < k → b < n → length fr ≡ k * s
      → pages_of s (n * k) (put_page (k * s) l b fr) ≡ tab (n * k) (λ j. cond (eqb (j / k) b) (get_or (pages_of s k fr) (j % k) d)
      (get_or (pages_of s (n * k) l) j d))
  unfolding pages_of
  block-put d b fr kp h g = tab-ext d (n * k) _ _ (λ j jl.
      let q : ℕ = j / k in let o : ℕ = j % k in let ql : q < n = (div-lt_iff_lt-mul kp).1 jl in let ol : o < k = mod-lt j kp in
      let e : q * k + o ≡ j = div-add-mod' j k in
      let fit = block-fits b h in
      ap (page_at s (put_page (k * s) l b fr)) (sym e) ∙ sym (page_of-block s k (put_page (k * s) l b fr) q o ol) ∙ by-test (eqb q b)
      (λ t. rw t (ap (λ (x : ℕ). page_at s (page_at (k * s) (put_page (k * s) l b fr) x) o) (eqb-true q b t)
      ∙ ap (λ (x : List A). page_at s x o) (page-put_same (k * s) l b fr fit g) ∙ sym (page-at s k fr d o ol)))
      (λ t. let ne = eqb-false q b t in rw t (ap (λ (x : List A). page_at s x o) (page-put_other (k * s) l b fr fit g q (λ w. ne (sym w)))
      ∙ page_of-block s k l q o ol ∙ ap (page_at s l) e ∙ sym (page-at s (n * k) l d j jl))))
