-- Lent buffers as cells and pages, and back.
use mathlib.Core.Path.{◌≡◌, refl, sym, ap, ◌∙◌}
use mathlib.Core.Bool.{true}
use mathlib.Core.List.{List, ◌∷◌, map}
use Prim.Native.Nat.{ℕ, zero, suc, ◌-◌, ◌*◌, ◌<◌}
use native.Mathlib.Omega.{arith}
use lib.Dec.{ltb}
use lib.ListN.{length, get_or, length-map, get_or-map, length-replicate, get_or-eq_default}
use lib.Seq.{ext_get_or}
use borrow.Author.Tests.{ltb-true, ltb-false, eqb-true, eq-eqb}
use Rattle.prelude.specs.Scan.{tab, tab_from}
use Rattle.prelude.specs.Pages.{page_at, pages_of, flat}
use Rattle.prelude.proofs.Tests.{by-test, each, every_of}
use Rattle.prelude.proofs.Tab.{length-tab, get_d_tab}
use Rattle.prelude.proofs.Pages.{flat-pages, pages-flat, page-flat, length-flat, length-page_at, in_run}
use Rattle.model.specs.Sizes.{Sizes}
use Rattle.model.specs.Moves.{Memory}
use Rattle.model.specs.Calls.{Fits, Page, Cell, Format, CellFits, Buffers, lent_ok, zero_page, flash_cells, memory_of, raw_of, codes_of}
use Rattle.model.specs.Calls.{marks_of, buffers_of}
use Rattle.model.proofs.EachPage.{Each, EachM}

map-tab_from : {A B : Type 0} (g : A → B) (i n : ℕ) (f : ℕ → A) → map g (tab_from i n f) ≡ tab_from i n (λ k. g (f k))
unfolding tab_from
map-tab_from g i zero f = refl
map-tab_from g i (suc n) f = ap (λ (l : List _). g (f i) ∷ l) (map-tab_from g (suc i) n f)

pub map-tab : {A B : Type 0} (g : A → B) (n : ℕ) (f : ℕ → A) → map g (tab n f) ≡ tab n (λ k. g (f k))
unfolding tab
map-tab g n f = map-tab_from g 0 n f

module _ (fmt : Format) (sz : Sizes) where
  abbrev pub OfS : Page → Type 0
  OfS x = length x ≡ sz.S

  pub zero-long : OfS (zero_page sz)
  unfolding zero_page
  zero-long = length-replicate {A = ℕ} sz.S 0

  abbrev pub zero_cell : Cell
  zero_cell = (fmt.chip sz).cell (zero_page sz)

  -- every page has S bytes, and every cell its lengths
  abbrev pub Whole : Memory Cell Page → Type 0
  Whole m = EachM (fmt.chip sz) (zero_page sz) (CellFits fmt sz) OfS m

  -- lists of lists of one length, joined and cut again
  module _ (s n : ℕ) (ps : List (List ℕ)) (x : List ℕ) (e : length ps ≡ n) (h : Each x (λ y. length y ≡ s) ps) where
    pub cut_again : pages_of s n (flat ps) ≡ ps
    cut_again = ap (λ (k : ℕ). pages_of s k (flat ps)) (sym e) ∙ pages-flat s ps x (λ j l. h j)

    pub flat-long : length (flat ps) ≡ n * s
    flat-long = length-flat s ps x (λ j l. h j) ∙ ap (λ (k : ℕ). k * s) e

    page-again : (i : ℕ) → i < n → page_at s (flat ps) i ≡ get_or ps i x
    page-again i l = page-flat s ps x (λ j k. h j) i (omega arith)

  -- cells joined and cut again
  module _ (cs : List Cell) (w : Each zero_cell (CellFits fmt sz) cs) (cl : length cs ≡ sz.N * sz.K) where
    -- a part of every cell
    module _ (s : ℕ) (part : Cell → List ℕ) (long : (i : ℕ) → length (part (get_or cs i zero_cell)) ≡ s) where
      part-each : Each (part zero_cell) (λ y. length y ≡ s) (map part cs)
      part-each i = ap length (get_or-map part cs i zero_cell) ∙ long i

      pub part-long : length (flat (map part cs)) ≡ sz.N * sz.K * s
      part-long = flat-long s (sz.N * sz.K) (map part cs) (part zero_cell) (length-map cs part ∙ cl) part-each

      pub part-again : (i : ℕ) → i < sz.N * sz.K → page_at s (flat (map part cs)) i ≡ part (get_or cs i zero_cell)
      part-again i l = page-again s (sz.N * sz.K) (map part cs) (part zero_cell) (length-map cs part ∙ cl) part-each i l
          ∙ get_or-map part cs i zero_cell

    abbrev joined_up : List ℕ → List ℕ → List ℕ → Buffers
    joined_up wear ps bs = record {
      flash = flat (raw_of cs);
      codes = flat (codes_of cs);
      marks = flat (marks_of cs);
      wear = wear;
      pspace = ps;
      bspace = bs;
    }

    pub cells-again : (wear ps bs : List ℕ) → flash_cells fmt sz (joined_up wear ps bs) ≡ cs
    unfolding flash_cells
    cells-again wear ps bs = ext_get_or zero_cell _ cs (length-tab (sz.N * sz.K) _ ∙ sym cl)
        (λ i l. let il : i < sz.N * sz.K = (rw length-tab at l) in
        get_d_tab (sz.N * sz.K) _ zero_cell i il ∙ (λ j. record {
          bytes = part-again sz.S (λ (c : Cell). c.bytes) (λ k. (w k).0) i il j;
          code = part-again (fmt.code_long sz) (λ (c : Cell). c.code) (λ k. (w k).1) i il j;
          mark = part-again (fmt.mark_long sz) (λ (c : Cell). c.mark) (λ k. (w k).2) i il j;
        }))

  module _ (m : Memory Cell Page) (w : Whole m) (fl : length m.flash ≡ sz.N * sz.K) (pl : length m.pspace ≡ sz.P)
      (bl : length m.bspace ≡ sz.B * sz.K) (wear : List ℕ) where
    pub memory_of-buffers : memory_of fmt sz (buffers_of m wear) ≡ m
    unfolding memory_of buffers_of
    memory_of-buffers = λ i. record {
      flash = cells-again m.flash w.flash fl wear (flat m.pspace) (flat m.bspace) i;
      pspace = cut_again sz.S sz.P m.pspace (zero_page sz) pl w.pspace i;
      bspace = cut_again sz.S (sz.B * sz.K) m.bspace (zero_page sz) bl w.bspace i;
    }

    pub lent-buffers : length wear ≡ sz.N → lent_ok fmt sz (buffers_of m wear) ≡ true
    unfolding lent_ok buffers_of
    lent-buffers wl = every_of _ (
      eq-eqb _ _ (part-long m.flash w.flash fl sz.S (λ (c : Cell). c.bytes) (λ k. (w.flash k).0)),
      (
        eq-eqb _ _ (part-long m.flash w.flash fl (fmt.code_long sz) (λ (c : Cell). c.code) (λ k. (w.flash k).1)),
        (
          eq-eqb _ _ (part-long m.flash w.flash fl (fmt.mark_long sz) (λ (c : Cell). c.mark) (λ k. (w.flash k).2)),
          (
            eq-eqb _ _ wl,
            (
              eq-eqb _ _ (flat-long sz.S sz.P m.pspace (zero_page sz) pl w.pspace),
              (eq-eqb _ _ (flat-long sz.S (sz.B * sz.K) m.bspace (zero_page sz) bl w.bspace), tt),
            ),
          ),
        ),
      ),
    )

  -- buffers cut and joined again
  module _ (u : Buffers) (f : Fits fmt sz u) where
    raw-cells : flat (raw_of (flash_cells fmt sz u)) ≡ u.flash
    unfolding flash_cells pages_of
    raw-cells = ap flat (map-tab _ _ _) ∙ flat-pages sz.S (sz.N * sz.K) u.flash f.flash-length

    codes-cells : flat (codes_of (flash_cells fmt sz u)) ≡ u.codes
    unfolding flash_cells pages_of
    codes-cells = ap flat (map-tab _ _ _) ∙ flat-pages (fmt.code_long sz) (sz.N * sz.K) u.codes f.codes-length

    marks-cells : flat (marks_of (flash_cells fmt sz u)) ≡ u.marks
    unfolding flash_cells pages_of
    marks-cells = ap flat (map-tab _ _ _) ∙ flat-pages (fmt.mark_long sz) (sz.N * sz.K) u.marks f.marks-length

    -- with p-space and b-space joined from pages
    pub buffers_of-cells : (ps bs : List Page) → u.pspace ≡ flat ps → u.bspace ≡ flat bs
        → buffers_of (record { flash = flash_cells fmt sz u; pspace = ps; bspace = bs }) u.wear ≡ u
    unfolding buffers_of
    buffers_of-cells ps bs pe be = λ i. record {
      flash = raw-cells i;
      codes = codes-cells i;
      marks = marks-cells i;
      wear = u.wear;
      pspace = sym pe i;
      bspace = sym be i;
    }

    pub buffers_of-memory : buffers_of (memory_of fmt sz u) u.wear ≡ u
    unfolding memory_of
    buffers_of-memory = buffers_of-cells _ _ (sym (flat-pages sz.S sz.P u.pspace f.pspace-length))
        (sym (flat-pages sz.S (sz.B * sz.K) u.bspace f.bspace-length))

    page-long : (s n : ℕ) (l : List ℕ) → length l ≡ n * s → (i : ℕ) → i < n → length (page_at s l i) ≡ s
    page-long s n l h i il = length-page_at s l i (in_run s n l h il)

    pages-long : (n : ℕ) (l : List ℕ) → length l ≡ n * sz.S → (i : ℕ) → OfS (get_or (pages_of sz.S n l) i (zero_page sz))
    unfolding pages_of
    pages-long n l h i = by-test (ltb i n)
        (λ e. let il = ltb-true i n e in ap length (get_d_tab n (page_at sz.S l) (zero_page sz) i il) ∙ page-long sz.S n l h i il)
        (λ e. ap length (get_or-eq_default (tab n (page_at sz.S l)) (zero_page sz) {n = i} (rw length-tab (ltb-false i n e)))
        ∙ zero-long)

    pub cells-long : CellFits fmt sz zero_cell → Each zero_cell (CellFits fmt sz) (flash_cells fmt sz u)
    unfolding flash_cells
    cells-long z i = let n : ℕ = sz.N * sz.K in by-test (ltb i n)
        (λ e. let il = ltb-true i n e in
        rw (get_d_tab n (λ k. record {
          bytes = page_at sz.S u.flash k;
          code = page_at (fmt.code_long sz) u.codes k;
          mark = page_at (fmt.mark_long sz) u.marks k;
        }) zero_cell i il) (
          page-long sz.S n u.flash f.flash-length i il,
          page-long (fmt.code_long sz) n u.codes f.codes-length i il,
          page-long (fmt.mark_long sz) n u.marks f.marks-length i il,
        ))
        (λ e. rw (get_or-eq_default
        (tab n (λ k. record {
          bytes = page_at sz.S u.flash k;
          code = page_at (fmt.code_long sz) u.codes k;
          mark = page_at (fmt.mark_long sz) u.marks k;
        })) zero_cell {n = i} (rw length-tab (ltb-false i n e))) z)

    pub memory-whole : CellFits fmt sz zero_cell → Whole (memory_of fmt sz u)
    unfolding memory_of
    memory-whole z = record {
      flash = cells-long z;
      pspace = pages-long sz.P u.pspace f.pspace-length;
      bspace = pages-long (sz.B * sz.K) u.bspace f.bspace-length;
    }

  pub cells-length : (u : Buffers) → length (flash_cells fmt sz u) ≡ sz.N * sz.K
  unfolding flash_cells
  cells-length u = length-tab _ _

  pub memory-lengths : (u : Buffers) → (length (memory_of fmt sz u).flash ≡ sz.N * sz.K) × (length (memory_of fmt sz u).pspace ≡ sz.P)
      × (length (memory_of fmt sz u).bspace ≡ sz.B * sz.K)
  unfolding memory_of pages_of
  memory-lengths u = (cells-length u, length-tab _ _, length-tab _ _)

-- the test of the buffers' lengths, and the facts
pub fits-of : (fmt : Format) (sz : Sizes) (u : Buffers) → lent_ok fmt sz u ≡ true → Fits fmt sz u
unfolding lent_ok
fits-of fmt sz u h = let e = each _ h in record {
  flash-length = eqb-true _ _ e.0;
  codes-length = eqb-true _ _ e.1.0;
  marks-length = eqb-true _ _ e.1.1.0;
  wear-length = eqb-true _ _ e.1.1.1.0;
  pspace-length = eqb-true _ _ e.1.1.1.1.0;
  bspace-length = eqb-true _ _ e.1.1.1.1.1.0;
}
