-- Each format bears what its code corrects, with marks or without; the store's own does.
use mathlib.Core.Path.{◌≡◌, refl, sym, ap, ◌∙◌}
use mathlib.Core.Logic.{inl, inr}
use mathlib.Core.Bool.{Bool, true, false, cond}
use mathlib.Core.List.{List, [], ◌∷◌}
use Prim.Native.Nat.{ℕ, ◌*◌, ◌/◌, ◌<◌}
use lib.ListN.{length, get_or}
use Rattle.prelude.specs.Pages.{page_at, pages_of, flat}
use Rattle.prelude.proofs.Pages.{flat-pages}
use Rattle.prelude.proofs.Tab.{get_d_tab}
use Rattle.codes.specs.Code.{codes_of}
use Rattle.codes.specs.Reading.{page_legible, page_mended, PageReadAs}
use Rattle.codes.proofs.Pages.{page-read, read-own, length-codes, length-read}
use Rattle.model.specs.Sizes.{Sizes, is_coded, is_marked, InLimits}
use Rattle.model.specs.Calls.{Page, Cell, Buffers, Fits, Store, open_store, open_done, flash_cells}
use Rattle.model.specs.Lists.{Chosen, AllPick, no_cell, Reference, flipped, Borne, Quiet, opened, flash_pages, Bears, Demand3}
use Rattle.model.specs.Formats.{Code, no_code, format_of, plain, Matches, NearBy, NoFlips, Corrects}
use Rattle.model.specs.Formats.{page_code, code_for, store_format, PageFlips, flips_for, StoreMatches, StoreNear}
use Rattle.model.proofs.Buffers.{map-tab}
use Rattle.model.proofs.Demand3.{demand_3, demand_3_quiet, Holds, cells_fit}

module _ (code : Code) (Flips : Sizes → Page → List ℕ → Page → List ℕ → Type 0) (sz : Sizes) (h : Corrects code Flips sz) where
  pub format_bears : (marked : Bool) → Bears (format_of code marked) (Matches code) (NearBy Flips) sz
  unfolding format_of
  format_bears marked = record {
    cell-fits = λ x l. (l, h.code-long x l, mark-long marked);
    page-long = λ c f. h.read-long c.bytes c.code f.0 f.1;
    page-cell = λ x l. h.read-own x l;
    matched-cell = λ x l. refl;
    near-self = λ c. (h.flips-none c.bytes c.code, refl);
    page-near = λ c c' f f' e n. h.read-flipped c.bytes c'.bytes c'.code f.0 f'.0 f'.1 (rw e at n.0)
        ∙ sym (rw e (h.read-own c.bytes f.0));
  }
    where
      mark-long : (marked : Bool) → length {A = ℕ} (cond marked (0 ∷ []) []) ≡ cond marked 1 0
      mark-long true = refl
      mark-long false = refl

pub no_code-corrects : (sz : Sizes) → Corrects no_code NoFlips sz
no_code-corrects sz = record {
  code-long = λ x l. refl;
  read-long = λ x k l m. l;
  flips-none = λ x k. (refl, refl);
  read-own = λ x l. refl;
  read-flipped = λ x x' k' l l' m f. f.0;
}

-- demand 3 for a store whose code corrects what may flip, with marks or without, whatever the marks at opening
pub demand_3_coded : (code : Code) (Flips : Sizes → Page → List ℕ → Page → List ℕ → Type 0) (marked : Bool) (sz : Sizes)
    → Corrects code Flips sz
    → Demand3 (format_of code marked) (Matches code) (NearBy Flips) sz
demand_3_coded code Flips marked sz h = demand_3 (format_of code marked) (Matches code) (NearBy Flips) sz
    (format_bears code Flips sz h marked)

-- a plain store, on which nothing flips
pub demand_3_plain : (sz : Sizes) (u : Buffers) → (open_store plain sz u).answer ≡ open_done → (cs : List Chosen) → AllPick cs
    → Quiet plain (NearBy NoFlips) sz u cs (record { cache = (open_store plain sz u).cache; lent = u }) (opened plain sz u)
unfolding format_of flash_cells page_at
demand_3_plain sz u h cs p = demand_3_quiet plain (Matches no_code) (NearBy NoFlips) sz
    (format_bears no_code NoFlips sz (no_code-corrects sz) false) u h (λ n l. ap (λ (c : Cell). c.code) (get_d_tab (sz.N * sz.K) _ _ n l))
    cs p

-- flash as it is read is the lent bytes
pub plain-flash : (marked : Bool) (sz : Sizes) (u : Buffers) → Fits (format_of no_code marked) sz u
    → flat (flash_pages (format_of no_code marked) sz u) ≡ u.flash
unfolding format_of flash_pages flash_cells pages_of
plain-flash marked sz u f = ap flat (map-tab _ _ _) ∙ flat-pages sz.S (sz.N * sz.K) u.flash f.flash-length

-- While flips are borne, no page is unreadable, if the code reads what may flip: then no call is refused 7.
module _ (code : Code) (Flips : Sizes → Page → List ℕ → Page → List ℕ → Type 0) (marked : Bool) (sz : Sizes)
    (laws : Bears (format_of code marked) (Matches code) (NearBy Flips) sz) (u : Buffers)
    (reads : (x x' : Page) (k' : List ℕ) → length x ≡ sz.S → length x' ≡ sz.S → length k' ≡ code.long sz
    → Flips sz x (code.code_of sz x) x' k' → code.unreadable sz x' k' ≡ false) where
  pub never_unreadable : (s : Store) (r : Reference) → Holds (format_of code marked) (Matches code) (NearBy Flips) sz laws u s r
      → (fl cd : List ℕ) → Borne (format_of code marked) (NearBy Flips) sz r (flipped s fl cd).lent
      → (n : ℕ) → n < sz.N * sz.K → let c = get_or (flash_cells (format_of code marked) sz (flipped s fl cd).lent) n no_cell in
      code.unreadable sz c.bytes c.code ≡ false
  unfolding format_of
  never_unreadable s r h fl cd b n l =
      let m = h.inv.matched n l in let f = cells_fit (format_of code marked) (Matches code) (NearBy Flips) sz laws (flipped s fl cd).lent
      b.fits n l in
      reads _ _ _ m.0.0 f.0 f.1 (rw m.1 at (b.near n l).0)

-- ---- the store's own format

module _ (sz : Sizes) (whole : sz.S / 256 * 256 ≡ sz.S) where
  own : (x : Page) → length x ≡ sz.S → PageReadAs (sz.S / 256) x (codes_of (sz.S / 256) x) x 0
  own x l = read-own (sz.S / 256) x (l ∙ sym whole)

  -- a page after flips that a coded store has to bear is read as it was
  borne-read : (x x' : Page) (k' : List ℕ) → length x ≡ sz.S → length x' ≡ sz.S → PageFlips sz x (codes_of (sz.S / 256) x) x' k'
      → (page_legible (sz.S / 256) x' k' ≡ true) × (page_mended (sz.S / 256) x' k' ≡ x)
  borne-read x x' k' l l' f = elim f [
    | inl s ↦ rw (s.0, s.1) ((own x l).can, (own x l).data_is)
    | inr s ↦ let r = page-read (sz.S / 256) x x' k' (l ∙ sym whole) (l' ∙ sym whole) s.0 s.1 s.2 s.3 in (r.can, r.data_is)
  ]

  pub page-corrects : Corrects page_code PageFlips sz
  unfolding page_code
  page-corrects = record {
    code-long = λ x l. length-codes (sz.S / 256) x;
    read-long = λ x k l m. length-read (sz.S / 256) x k (l ∙ sym whole) ∙ whole;
    flips-none = λ x k. inl (refl, refl);
    read-own = λ x l. (own x l).data_is;
    read-flipped = λ x x' k' l l' kl f. (borne-read x x' k' l l' f).1;
  }

  -- no page is unreadable by such flips, and a page with its own code has no mends
  pub page-legible : (x x' : Page) (k' : List ℕ) → length x ≡ sz.S → length x' ≡ sz.S → PageFlips sz x (page_code.code_of sz x) x' k'
      → page_code.unreadable sz x' k' ≡ false
  unfolding page_code
  page-legible x x' k' l l' f = rw (borne-read x x' k' l l' f).0

  pub own-page_mends : (x : Page) → length x ≡ sz.S → page_code.mends sz x (page_code.code_of sz x) ≡ 0
  unfolding page_code
  own-page_mends x l = (own x l).mends-are

-- the code that a store has corrects what it has to bear
pub store-corrects : (coded : Bool) (sz : Sizes) → (coded ≡ true → sz.S / 256 * 256 ≡ sz.S) → Corrects (code_for coded) (flips_for coded) sz
store-corrects true sz whole = page-corrects sz (whole refl)
store-corrects false sz whole = no_code-corrects sz

pub store-bears : (sz : Sizes) → (is_coded sz ≡ true → sz.S / 256 * 256 ≡ sz.S) → Bears store_format StoreMatches StoreNear sz
unfolding format_of
store-bears sz whole =
    let h = format_bears (code_for (is_coded sz)) (flips_for (is_coded sz)) sz (store-corrects (is_coded sz) sz whole) (is_marked sz) in
    record {
      cell-fits = h.cell-fits;
      page-long = h.page-long;
      page-cell = h.page-cell;
      matched-cell = h.matched-cell;
      near-self = h.near-self;
      page-near = h.page-near;
    }

-- demand 3 for the store, with its options
pub demand_3_store : (sz : Sizes) → InLimits sz → Demand3 store_format StoreMatches StoreNear sz
demand_3_store sz l = demand_3 store_format StoreMatches StoreNear sz (store-bears sz l.whole)
