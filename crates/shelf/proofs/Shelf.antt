-- Entries by the code's tests, and what putting makes of a list.
use mathlib.Core.Path.{◌≡◌, refl, sym, ap, ◌∙◌}
use mathlib.Core.Bool.{Bool, cond, ◌&&◌, and-true}
use mathlib.Core.List.{List, [], ◌++◌, append_assoc, append-nil}
use mathlib.Core.Logic.{◌≢◌}
use Prim.Native.Nat.{ℕ, suc, ◌+◌, ◌-◌, ◌*◌, ◌≤◌, ◌<◌}
use native.Mathlib.Omega.{arith}
use native.Mathlib.Nat.{mul-le-mul, zero-mul, suc-mul}
use lib.Dec.{leb, ltb, eqb}
use lib.ListN.{length, get_or, set, take, drop, length-set, length-append, length-take, length-drop, drop_of_length-le}
use lib.Seq.{get_or-set_same, get_or-set_other, ext_get_or, take-take}
use borrow.Author.Tests.{eqb-true, eqb-false, eq-eqb, ne_eqb, lt-ltb, le-ltb, ltb-true, ltb-false}
use Rattle.prelude.specs.Tests.{every}
use Rattle.prelude.specs.Scan.{all}
use Rattle.prelude.specs.Pages.{page_at, put_page, pages_of}
use Rattle.prelude.proofs.Pages.{length-page_at, page-put_same, page-put_other, pages-put, page-at, pages-length}
use Rattle.prelude.proofs.Tests.{by-test}
use Rattle.prelude.proofs.Scan.{all_same}
use Rattle.prelude.proofs.Tab.{length-tab, get_d_tab}
use Rattle.model.specs.Sizes.{Sizes, vacant}
use Rattle.model.specs.Calls.{Page}
use Rattle.model.specs.Shelf.{shelved, shelve, shelf_ok}
use Rattle.model.proofs.Demand3.{get_d_any}
use Rattle.shelf.specs.Shelf.{Room, Lowered, Shelved}

-- the test of the entries, as the code makes it
pub entries-test : (sz : Sizes) (h : ℕ) (es : List ℕ) → length es ≡ 8
    → (leb (shelved es) h && all 8 (λ i. cond (ltb i (shelved es)) (ltb (get_or es i 0) (sz.N * sz.K)) (eqb (get_or es i 0) vacant)))
    ≡ shelf_ok sz h es
unfolding shelf_ok every
entries-test sz h es e = rw (eq-eqb _ 8 e) (ap (λ (b : Bool). leb (shelved es) h && b) (all_same 8 _ _ (λ i l.
    ap (λ (x : ℕ). cond (ltb i (shelved es)) (ltb x (sz.N * sz.K)) (eqb x vacant)) (get_d_any es i 0 vacant (omega arith)))
    ∙ sym (and-true _)))

-- two numbers of 32 bits have a product of 64
pub product_small : (a b : ℕ) → a < 4294967296 → b < 4294967296 → a * b < 18446744073709551616
product_small a b p q = let r : a ≤ 4294967295 = omega arith in let s : b ≤ 4294967295 = omega arith in
    let l : a * b ≤ 4294967295 * 4294967295 = mul-le-mul r s in omega arith

-- x joins k items: there is room
pub room-put : {X : Type 0} (none : X) (h k : ℕ) (l : List X) (x : X) → k < h → set l k x ≡ shelve none h k l x
unfolding shelve
room-put none h k l x q = rw (lt-ltb k h q)

-- all are in use: l' is l with the first h but one gone down by one, and x is the last
pub full_put : {X : Type 0} (none : X) (h k : ℕ) (l l' : List X) (x : X) → h ≤ k → 0 < h → h ≤ length l → length l' ≡ length l
    → ((i : ℕ) → suc i < h → get_or l' i none ≡ get_or l (suc i) none)
    → ((i : ℕ) → h ≤ i → i < length l → get_or l' i none ≡ get_or l i none) → set l' (h - 1) x ≡ shelve none h k l x
unfolding shelve
full_put none h k l l' x q p f e down rest = rw (le-ltb k h q) (ext_get_or none _ _ (simp (length-set, length-tab) e)
    (λ i b. let il : i < length l = omega (arith, length-set l' (h - 1) x) in by-test (eqb i (h - 1))
    (λ t. let s : suc (h - 1) ≡ h = omega arith in
    rw (eqb-true i (h - 1) t) (get_or-set_same l' (h - 1) x none (omega arith)
    ∙ sym (get_d_tab (length l) _ none (h - 1) (omega arith) ∙ rw (s, le-ltb h h (omega arith), eq-eqb h h refl))))
    (λ t. let ne = eqb-false i (h - 1) t in get_or-set_other l' (h - 1) i x none ne ∙ by-test (ltb (suc i) h)
    (λ w. down i (ltb-true (suc i) h w) ∙ sym (get_d_tab (length l) _ none i il ∙ rw w))
    (λ w. let a = ltb-false (suc i) h w in rest i (omega arith) il
    ∙ sym (get_d_tab (length l) _ none i il ∙ rw (w, ne_eqb (suc i) h (λ (y : suc i ≡ h). ne (omega arith))))))))

-- ---- a page goes down by one

module _ (s i : ℕ) (l : List ℕ) (some : 0 < i) (fits : i * s + s ≤ length l) where
  before-it : (i - 1) * s + s ≡ i * s
  before-it = let e : suc (i - 1) ≡ i = omega arith in sym (suc-mul (i - 1) s) ∙ ap (λ (n : ℕ). n * s) e

  -- put into the part below it, it is put into the whole
  pub put-below : put_page s (take (i * s) l) (i - 1) (page_at s (drop (i * s) l) 0) ++ drop (i * s) l
      ≡ put_page s l (i - 1) (page_at s l i)
  unfolding page_at put_page
  put-below =
      let none : drop ((i - 1) * s + s) (take (i * s) l) ≡ [] =
      drop_of_length-le (take (i * s) l) (omega (arith, before-it, length-take (i * s) l)) in
      rw (none, take-take ((i - 1) * s) (i * s) l (omega (arith, before-it)), append_assoc, append-nil, zero-mul, before-it) refl

  -- the page below is this one, and the others stay
  pub low-page : page_at s (put_page s l (i - 1) (page_at s l i)) (i - 1) ≡ page_at s l i
  low-page = page-put_same s l (i - 1) (page_at s l i) (omega (arith, before-it)) (length-page_at s l i fits)

  pub other-page : (j : ℕ) → j ≢ i - 1 → page_at s (put_page s l (i - 1) (page_at s l i)) j ≡ page_at s l j
  other-page j ne = page-put_other s l (i - 1) (page_at s l i) (omega (arith, before-it)) (length-page_at s l i fits) j (λ q. ne (sym q))

  pub same-length : length (put_page s l (i - 1) (page_at s l i)) ≡ length l
  unfolding put_page
  same-length = simp (length-append, length-take, length-drop, length-page_at s l i fits) (omega (arith, before-it))

-- ---- a page joins the shelf

module _ (sz : Sizes) (es shelf : List ℕ) (n : ℕ) (earlier : List ℕ) (room : Room sz es shelf earlier) where
  -- the page shelved is whole
  earlier-whole : length (page_at sz.S earlier 0) ≡ sz.S
  earlier-whole = length-page_at sz.S earlier 0 (let z = zero-mul sz.S in let q = room.limits.S_high in let long = room.earlier-length in omega arith)

  pub put-room : (k : ℕ) (es' shelf' : List ℕ) → k ≡ shelved es → k < sz.shelf_pages → es' ≡ set es k n
      → shelf' ≡ put_page sz.S shelf k (page_at sz.S earlier 0) → Shelved sz es shelf n earlier es' shelf'
  put-room k es' shelf' e l f g = record {
    entries-are = f ∙ rw (sym e) (room-put vacant sz.shelf_pages k es n l);
    pages-are = ap (pages_of sz.S sz.shelf_pages) g
        ∙ pages-put sz.S sz.shelf_pages shelf k (page_at sz.S earlier 0) l room.shelf-length earlier-whole
        ∙ rw (sym e) (room-put [] sz.shelf_pages k (pages_of sz.S sz.shelf_pages shelf) (page_at sz.S earlier 0) l);
  }

  pub put_full : (k : ℕ) (down low es' shelf' : List ℕ) → k ≡ shelved es → sz.shelf_pages ≤ k → length es ≡ 8 → length down ≡ length es
      → ((i : ℕ) → suc i < sz.shelf_pages → get_or down i vacant ≡ get_or es (suc i) vacant)
      → ((i : ℕ) → sz.shelf_pages ≤ i → get_or down i vacant ≡ get_or es i vacant)
      → Lowered sz.S sz.shelf_pages shelf low → es' ≡ set down (sz.shelf_pages - 1) n
      → shelf' ≡ put_page sz.S low (sz.shelf_pages - 1) (page_at sz.S earlier 0) → Shelved sz es shelf n earlier es' shelf'
  put_full k down low es' shelf' e l eight same lower rest went f g =
      let p = room.some in let high = room.limits.shelf-high in let h : ℕ = sz.shelf_pages in
      let pages : List ℕ → List Page = pages_of sz.S h in
      let many = pages-length sz.S h shelf in let many' = pages-length sz.S h low in
      record {
        entries-are = f ∙ rw (sym e) (full_put vacant h k es down n l p (omega arith) same lower (λ i a b. rest i a));
        pages-are = ap pages g
            ∙ pages-put sz.S h low (h - 1) (page_at sz.S earlier 0) (omega arith) (went.long ∙ room.shelf-length) earlier-whole
            ∙ rw (sym e) (full_put [] h k (pages shelf) (pages low) (page_at sz.S earlier 0) l p (omega arith) (omega arith)
            (λ i a. page-at sz.S h low [] i (omega arith) ∙ went.pages-are i a ∙ sym (page-at sz.S h shelf [] (suc i) a))
            (λ i a b. absurd (omega arith)));
      }
