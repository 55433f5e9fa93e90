-- The pages of array and shelf are bytes, and stay so.
use mathlib.Core.Path.{◌≡◌, refl, ap, ◌∙◌}
use mathlib.Core.Bool.{Bool, true, false}
use mathlib.Core.List.{List, [], ◌∷◌, ◌++◌, map}
use Prim.Native.Nat.{ℕ, zero, suc, ◌+◌, ◌-◌, ◌*◌, ◌≤◌, ◌<◌}
use native.Mathlib.Omega.{arith}
use lib.Dec.{ltb, eqb}
use lib.ListN.{length, get_or, set, take, drop, length-map, get_or-map}
use lib.Seq.{get_or-set_same, get_or-set_other}
use borrow.Author.Tests.{ltb-true, ltb-false, eqb-true, eqb-false}
use Rattle.prelude.specs.Scan.{tab}
use Rattle.prelude.specs.Pages.{page_at, laid, pages_of}
use Rattle.prelude.proofs.Tests.{by-test}
use Rattle.prelude.proofs.Tab.{length-tab, get_d_tab, get_d_past}
use Rattle.model.specs.Sizes.{Sizes, vacant, InLimits, is_coded}
use Rattle.model.specs.Calls.{read, write, part, step, flush, no_bytes, Page, Cell, Outcome, is_refused, Buffers, Fits, flash_cells}
use Rattle.model.specs.Formats.{code_for, format_of, chip_for, store_format, StoreMatches, StoreNear}
use Rattle.model.specs.Lists.{array_after, fed, no_cell, flash_pages}
use Rattle.model.proofs.Buffers.{cells-length}
use Rattle.model.proofs.Formats.{store-corrects, store-bears}
use Rattle.model.proofs.Demand3.{get_d_any, cells_fit}
use Rattle.model.specs.Shelf.{ShelfCall, plainly, back, meant, shelves, shelved, shelve, shelf_after, ShelfReference, ShelfChosen}
use Rattle.model.specs.Shelf.{shelf_fed, pages_of_shelf}
use Rattle.over.specs.Mixed.{Bytes, AllBytes, WritesBytes}

none-bytes : Bytes []
none-bytes j = omega arith

-- a list of pages by what stands at each index
pub each-bytes : (a : List Page) → ((i : ℕ) → i < length a → Bytes (get_or a i [])) → AllBytes a
each-bytes a h i = by-test (ltb i (length a))
    (λ t. h i (ltb-true i (length a) t))
    (λ t. rw (get_d_past [] a i (ltb-false i (length a) t)) none-bytes)

pub bytes-set : (a : List Page) (n : ℕ) (x : Page) → Bytes x → AllBytes a → AllBytes (set a n x)
bytes-set a n x hx ha i = by-test (ltb n (length a))
    (λ t. by-test (eqb i n)
    (λ e. rw (eqb-true i n e, get_or-set_same a n x [] (ltb-true n (length a) t)) hx)
    (λ e. rw (get_or-set_other a n i x [] (eqb-false i n e)) (ha i)))
    (λ t. rw (set_past a n x (ltb-false n (length a) t)) (ha i))
  where
    set_past : (a : List Page) (n : ℕ) (x : Page) → length a ≤ n → set a n x ≡ a
    set_past [] n x h = refl
    set_past (y ∷ l) zero x h = absurd (omega arith)
    set_past (y ∷ l) (suc n) x h = ap (λ (z : List Page). y ∷ z) (set_past l n x (omega arith))

tab-bytes : (n : ℕ) (f : ℕ → Page) → ((i : ℕ) → Bytes (f i)) → AllBytes (tab n f)
tab-bytes n f h = each-bytes (tab n f) (λ i l. rw (get_d_tab n f [] i (rw (length-tab n f) at l)) (h i))

append-bytes : (x y : Page) → Bytes x → Bytes y → Bytes (x ++ y)
append-bytes [] y hx hy j = hy j
append-bytes (b ∷ x) y hx hy zero = hx 0
append-bytes (b ∷ x) y hx hy (suc j) = append-bytes x y (λ i. hx (suc i)) hy j

take-bytes : (n : ℕ) (x : Page) → Bytes x → Bytes (take n x)
take-bytes zero x h j = omega arith
take-bytes (suc n) [] h j = h j
take-bytes (suc n) (b ∷ x) h zero = h 0
take-bytes (suc n) (b ∷ x) h (suc j) = take-bytes n x (λ i. h (suc i)) j

drop-bytes : (n : ℕ) (x : Page) → Bytes x → Bytes (drop n x)
drop-bytes zero x h j = h j
drop-bytes (suc n) [] h j = h j
drop-bytes (suc n) (b ∷ x) h j = drop-bytes n x (λ i. h (suc i)) j

-- the pages of a run of bytes
pub page-bytes : (s : ℕ) (l : List ℕ) (i : ℕ) → Bytes l → Bytes (page_at s l i)
unfolding page_at
page-bytes s l i h = take-bytes s (drop (i * s) l) (drop-bytes (i * s) l h)

pub shelf-bytes : (sz : Sizes) (h : ℕ) (l : List ℕ) → Bytes l → AllBytes (pages_of_shelf sz h l)
unfolding pages_of
shelf-bytes sz h l b = tab-bytes h (page_at sz.S l) (λ i. page-bytes sz.S l i b)

laid-bytes : (i : ℕ) (x y : Page) → Bytes x → Bytes y → Bytes (laid i x y)
unfolding laid
laid-bytes i x y hx hy = append-bytes (take i y) (x ++ drop (i + length x) y) (take-bytes i y hy)
    (append-bytes x (drop (i + length x) y) hx (drop-bytes (i + length x) y hy))

-- what a call puts into the array is bytes
bytes-written : (a : List Page) (es : List ℕ) (ps : List Page) (c : ShelfCall) (down : Bool) → WritesBytes c → AllBytes a → AllBytes ps
    → AllBytes (array_after a (meant es ps c) down)
unfolding array_after
bytes-written a es ps (plainly (read n x)) down w h k = h
bytes-written a es ps (plainly (write n x)) true w h k = h
bytes-written a es ps (plainly (write n x)) false w h k = bytes-set a n x w h
bytes-written a es ps (plainly (part n f x page)) true w h k = h
bytes-written a es ps (plainly (part n f x page)) false w h k = by-test (no_bytes x)
    (λ e. rw e h)
    (λ e. rw e (bytes-set a n (laid f x (get_or a n [])) (laid-bytes f x (get_or a n []) w (h n)) h))
bytes-written a es ps (plainly step) down w h k = h
bytes-written a es ps (plainly flush) down w h k = h
bytes-written a es ps back true w h k = h
bytes-written a es ps back false w h k = bytes-set a _ _ (k (shelved es - 1)) h

-- what is shelved is bytes
bytes-shelved : (h : ℕ) (es : List ℕ) (ps : List Page) (c : ShelfCall) (x : Page) (down : Bool) → Bytes x → AllBytes ps
    → AllBytes (shelf_after h es ps c x down)
unfolding shelf_after shelve
bytes-shelved h es ps c x true hx k = k
bytes-shelved h es ps c x false hx k = by-test (ltb (shelves c) vacant)
    (λ e. rw e (by-test (ltb (shelved es) h)
    (λ t. rw t (bytes-set ps (shelved es) x hx k))
    (λ t. rw t (tab-bytes (length ps) _ (λ i. by-test (ltb (suc i) h)
    (λ d. rw d (k (suc i)))
    (λ d. rw d (by-test (eqb (suc i) h) (λ v. rw v hx) (λ v. rw v (k i)))))))))
    (λ e. rw e k)

module _ (sz : Sizes) (h : ℕ) (r : ShelfReference) (array : AllBytes r.reference.array) (shelf : AllBytes r.shelf) (t : ShelfChosen)
    (w : WritesBytes t.call) (o : Outcome) (cs : List Cell) where
  pub fed-array : AllBytes (shelf_fed sz h r t o cs).reference.array
  unfolding shelf_fed fed
  fed-array = bytes-written r.reference.array r.entries r.shelf t.call (is_refused o.answer) w array shelf

  pub fed-shelf : AllBytes (shelf_fed sz h r t o cs).shelf
  unfolding shelf_fed
  fed-shelf = bytes-shelved h r.entries r.shelf t.call (get_or r.reference.array (shelves t.call) []) (is_refused o.answer)
      (array (shelves t.call)) shelf

-- ---- flash whose codes match is read as its bytes

module _ (sz : Sizes) (limits : InLimits sz) (u : Buffers) (fits : Fits store_format sz u)
    (match : (n : ℕ) → n < sz.N * sz.K → StoreMatches sz (get_or (flash_cells store_format sz u) n no_cell)) (flash : Bytes u.flash) where
  abbrev cells : List Cell
  cells = flash_cells store_format sz u

  cell-bytes : (n : ℕ) → n < sz.N * sz.K → (get_or cells n no_cell).bytes ≡ page_at sz.S u.flash n
  unfolding flash_cells
  cell-bytes n l = ap (λ (c : Cell). c.bytes) (get_d_tab (sz.N * sz.K) _ no_cell n l)

  long : (n : ℕ) → n < sz.N * sz.K → length (get_or cells n no_cell).bytes ≡ sz.S
  long n l = (cells_fit store_format StoreMatches StoreNear sz (store-bears sz limits.whole) u fits n l).0

  page-is : (n : ℕ) → n < sz.N * sz.K → (chip_for sz).page (get_or cells n no_cell) ≡ page_at sz.S u.flash n
  unfolding format_of
  page-is n l = ap ((code_for (is_coded sz)).page_read sz (get_or cells n no_cell).bytes) (match n l)
      ∙ (store-corrects (is_coded sz) sz limits.whole).read-own (get_or cells n no_cell).bytes (long n l) ∙ cell-bytes n l

  pub flash-bytes : AllBytes (flash_pages store_format sz u)
  unfolding flash_pages
  flash-bytes = each-bytes (map (chip_for sz).page cells) (λ i l.
      let n : i < sz.N * sz.K = (let a = length-map cells (chip_for sz).page in let b = cells-length store_format sz u in omega arith) in
      rw (get_d_any (map (chip_for sz).page cells) i [] ((chip_for sz).page no_cell) l ∙ get_or-map (chip_for sz).page cells i no_cell
      ∙ page-is i n)
      (page-bytes sz.S u.flash i flash))
