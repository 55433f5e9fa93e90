-- The operations of a rewrite, one after the other: the erasure, then each page.
use mathlib.Core.Path.{◌≡◌, refl, sym, ap, ◌∙◌}
use mathlib.Core.Bool.{Bool, true, false, cond, ◌&&◌}
use mathlib.Core.List.{List, [], ◌∷◌}
use Prim.Native.Nat.{ℕ, suc, ◌+◌, ◌-◌, ◌*◌, ◌/◌, ◌%◌, ◌^◌, ◌≤◌, ◌<◌}
use native.Mathlib.Nat.{mul-le-mul}
use native.Mathlib.Omega.{arith}
use Rattle.std.specs.Prelude.{min}
use lib.Dec.{ltb, eqb}
use lib.ListN.{length, get_or, set, length-set, drop, replicate, length-replicate, get_or-replicate}
use lib.Seq.{ext_get_or, get_or-set_same, get_or-set_other, get_or-take, get_or-drop}
use borrow.Author.Tests.{ltb-true, ltb-false, eqb-true, eqb-false, lt-ltb, le-ltb, eq-eqb}
use Rattle.prelude.specs.Pages.{page_at, put_page, pages_of}
use Rattle.prelude.proofs.Tests.{by-test}
use Rattle.prelude.proofs.Tab.{length-tab, get_d_tab, tab-ext, tab-list}
use Rattle.prelude.proofs.Pages.{ends-before, length-page_at, page-at, block-put}
use Rattle.model.specs.Sizes.{Sizes, InLimits, is_coded, is_marked}
use Rattle.model.specs.Moves.{Chip, cell_at, programmed_to}
use Rattle.model.specs.Calls.{Page, Cell, zero_page, flash_cells}
use Rattle.model.specs.Formats.{format_of}
use Rattle.model.proofs.Soundness.{K_pos}
use Rattle.model.proofs.Lookup.{page-div, page-mod, page-lt, page-split, offset_lt}
use Rattle.model.proofs.Parts.{programmed_to-all}
use Rattle.model.specs.Formats.{page_code, code_for, chip_for, code_long, mark_long}
use Rattle.chip.specs.Formats.{cells}
use Rattle.chip.specs.Chip.{Lent, Erased, Programmed, PagesProgrammed, BlockProgrammed}
use Rattle.chip.proofs.Cells.{cells-long, cell-is}

-- ---- over any chip

module _ {C A : Type 0} (chip : Chip C A) (filler : A) (sz : Sizes) (limits : InLimits sz) (fl : List C) (b : ℕ) (pg : ℕ → A) where
  abbrev after : ℕ → List C
  after ops = programmed_to chip filler ops sz fl b pg

  after-long : (ops : ℕ) → length (after ops) ≡ sz.N * sz.K
  unfolding programmed_to
  after-long ops = length-tab (sz.N * sz.K) _

  -- none of them
  pub after_none : length fl ≡ sz.N * sz.K → after 0 ≡ fl
  unfolding programmed_to cell_at
  after_none e = tab-list (chip.cell filler) (sz.N * sz.K) fl e

  -- page o is the next
  pub after-page : (o : ℕ) → b < sz.N → o < sz.K → set (after (suc o)) (b * sz.K + o) (chip.cell (pg o)) ≡ after (suc (o + 1))
  unfolding programmed_to
  after-page o bl ol = ext_get_or (chip.cell filler) _ _ (length-set (after (suc o)) (b * sz.K + o) (chip.cell (pg o))
      ∙ after-long (suc o) ∙ sym (after-long (suc (o + 1)))) (λ n k.
      let nl : n < sz.N * sz.K = (rw (length-set (after (suc o)) (b * sz.K + o) (chip.cell (pg o)), after-long (suc o)) at k) in
      by-test (eqb n (b * sz.K + o))
      (λ e. rw (eqb-true n (b * sz.K + o) e) (get_or-set_same (after (suc o)) (b * sz.K + o) (chip.cell (pg o)) (chip.cell filler)
      (rw (after-long (suc o)) (page-lt sz limits b o bl ol))
      ∙ sym (get_d_tab (sz.N * sz.K) _ (chip.cell filler) (b * sz.K + o) (page-lt sz limits b o bl ol)
      ∙ rw (
        page-div sz limits b o ol,
        page-mod sz limits b o ol,
        eq-eqb b b refl,
        lt-ltb 0 (suc (o + 1)) (omega arith),
        lt-ltb (suc o) (suc (o + 1)) (omega arith),
      ))))
      (λ e. let ne = eqb-false n (b * sz.K + o) e in
      get_or-set_other (after (suc o)) (b * sz.K + o) n (chip.cell (pg o)) (chip.cell filler) ne
      ∙ get_d_tab (sz.N * sz.K) _ (chip.cell filler) n nl ∙ same n ne ∙ sym (get_d_tab (sz.N * sz.K) _ (chip.cell filler) n nl)))
    where
      same : (n : ℕ) → (n ≡ b * sz.K + o → ⊥) → cond (ltb 0 (suc o) && eqb (n / sz.K) b)
          (cond (ltb (suc (n % sz.K)) (suc o)) (chip.cell (pg (n % sz.K))) chip.erased) (cell_at chip filler fl n)
          ≡ cond (ltb 0 (suc (o + 1)) && eqb (n / sz.K) b) (cond (ltb (suc (n % sz.K)) (suc (o + 1))) (chip.cell (pg (n % sz.K)))
          chip.erased) (cell_at chip filler fl n)
      same n ne = rw (lt-ltb 0 (suc o) (omega arith), lt-ltb 0 (suc (o + 1)) (omega arith)) (by-test (eqb (n / sz.K) b)
          (λ e. let q = page-split sz limits n b (eqb-true (n / sz.K) b e) in let no : n % sz.K ≡ o
          → ⊥ = (λ w. ne (sym q ∙ ap (λ (x : ℕ). b * sz.K + x) w)) in
          rw e (by-test (ltb (n % sz.K) o)
          (λ u. let v = ltb-true (n % sz.K) o u in rw (
            lt-ltb (suc (n % sz.K)) (suc o) (omega arith),
            lt-ltb (suc (n % sz.K)) (suc (o + 1)) (omega arith),
          ))
          (λ u. let v = ltb-false (n % sz.K) o u in rw (
            le-ltb (suc (n % sz.K)) (suc o) (omega arith),
            le-ltb (suc (n % sz.K)) (suc (o + 1)) (omega arith),
          ))))
          (λ e. rw e))

  -- the last of them, of K + 1
  pub after_last : (ops many : ℕ) → 0 < ops → many ≡ min (ops - 1) sz.K → after (suc many) ≡ after ops
  after_last ops many p e = by-test (ltb (ops - 1) sz.K)
      (λ u. let v = ltb-true (ops - 1) sz.K u in let r : suc many ≡ ops = omega arith in ap after r)
      (λ u. let v = ltb-false (ops - 1) sz.K u in
      programmed_to-all chip filler sz limits fl b pg (suc many) (omega arith)
      ∙ sym (programmed_to-all chip filler sz limits fl b pg ops (omega arith)))

-- ---- the erasure

-- a page of a block of bytes 255
abbrev blank : ℕ → List ℕ
blank s = replicate s 255

page-erased : (s k o : ℕ) → o < k → page_at s (blank (k * s)) o ≡ blank s
unfolding page_at
page-erased s k o l =
    let m = ends-before s l in
    let full : length (blank (k * s)) ≡ k * s = length-replicate (k * s) 255 in
    let long : length (page_at s (blank (k * s)) o) ≡ s = length-page_at s (blank (k * s)) o (omega arith) in
    ext_get_or 0 (page_at s (blank (k * s)) o) (blank s) (long ∙ sym (length-replicate s 255)) (λ i j. let il : i < s = (rw long at j) in
    get_or-take s (drop (o * s) (blank (k * s))) i 0 il ∙ get_or-drop (o * s) (blank (k * s)) i 0
    ∙ get_or-replicate (k * s) (o * s + i) 255 0 (omega arith) ∙ sym (get_or-replicate s i 255 0 il))

-- page n of a list of which block b is set to bytes 255
module _ (sz : Sizes) (limits : InLimits sz) (s : ℕ) (l : List ℕ) (long : length l ≡ sz.N * sz.K * s) (b : ℕ) (bl : b < sz.N) where
  part-erased : (n : ℕ) → n < sz.N * sz.K → page_at s (put_page (sz.K * s) l b (blank (sz.K * s))) n
      ≡ cond (eqb (n / sz.K) b) (blank s) (page_at s l n)
  part-erased n nl =
      sym (page-at s (sz.N * sz.K) (put_page (sz.K * s) l b (blank (sz.K * s))) [] n nl)
      ∙ ap (λ (x : List (List ℕ)). get_or x n []) (block-put s sz.K sz.N l long [] b (blank (sz.K * s)) (K_pos sz limits) bl
      (length-replicate (sz.K * s) 255))
      ∙ get_d_tab (sz.N * sz.K) (λ j. cond (eqb (j / sz.K) b) (get_or (pages_of s sz.K (blank (sz.K * s))) (j % sz.K) [])
      (get_or (pages_of s (sz.N * sz.K) l) j [])) [] n nl
      ∙ by-test (eqb (n / sz.K) b)
      (λ e. rw e (page-at s sz.K (blank (sz.K * s)) [] (n % sz.K) (offset_lt sz limits n)
      ∙ page-erased s sz.K (n % sz.K) (offset_lt sz limits n)))
      (λ e. rw e (page-at s (sz.N * sz.K) l [] n nl))

mark-blank : (marked : Bool) → blank (cond marked 1 0) ≡ cond marked (255 ∷ []) []
mark-blank true = refl
mark-blank false = refl

module _ (sz : Sizes) (b : ℕ) (flash codes marks : List ℕ) (h : Lent sz flash codes marks) (bl : b < sz.N) where
  pub erased-is : (pg : ℕ → Page)
      → cells sz (put_page (sz.K * sz.S) flash b (blank (sz.K * sz.S)))
      (put_page (sz.K * code_long sz) codes b (blank (sz.K * code_long sz)))
      (put_page (sz.K * mark_long sz) marks b (blank (sz.K * mark_long sz)))
      ≡ programmed_to (chip_for sz) (zero_page sz) 1 sz (cells sz flash codes marks) b pg
  unfolding flash_cells programmed_to format_of
  erased-is pg = tab-ext (chip_for sz).erased (sz.N * sz.K) _ _ (λ n nl. let limits = h.codes-lent.limits in
      let p = part-erased sz limits sz.S flash h.codes-lent.flash-length b bl n nl in
      let q = part-erased sz limits (code_long sz) codes h.codes-lent.codes-length b bl n nl in
      let r = part-erased sz limits (mark_long sz) marks h.marks-length b bl n nl in
      (λ i. record { bytes = p i; code = q i; mark = r i })
      ∙ by-test (eqb (n / sz.K) b)
      (λ e. rw (e, le-ltb (suc (n % sz.K)) 1 (omega arith)) (λ i.
      record { bytes = blank sz.S; code = blank (code_long sz); mark = mark-blank (is_marked sz) i }))
      (λ e. rw e (sym (cell-is sz flash codes marks n nl))))

  -- as it is done
  pub erased-by : (size code mark : ℕ) → size ≡ sz.K * sz.S → code ≡ code_long sz → mark ≡ mark_long sz → (flash' codes' marks' : List ℕ)
      → flash' ≡ put_page size flash b (blank size) → codes' ≡ put_page (sz.K * code) codes b (blank (sz.K * code))
      → marks' ≡ put_page (sz.K * mark) marks b (blank (sz.K * mark))
      → (pg : ℕ → Page) → cells sz flash' codes' marks' ≡ programmed_to (chip_for sz) (zero_page sz) 1 sz (cells sz flash codes marks) b pg
  erased-by size code mark se ce me flash' codes' marks' p q r pg = rw (p, q, r, se, ce, me) (erased-is pg)

-- ---- lengths

code-low : (coded : Bool) (sz : Sizes) → InLimits sz → (code_for coded).long sz ≤ 24
unfolding page_code
code-low true sz limits = let h = limits.S_high in omega arith
code-low false sz limits = omega arith

module _ (sz : Sizes) (limits : InLimits sz) where
  pub codes-fit : (code : ℕ) → code ≡ code_long sz → sz.K * code < 2 ^ 64
  codes-fit code e = let q : code ≤ 24 = (rw e (code-low (is_coded sz) sz limits)) in
      let m : sz.K * code ≤ 64 * 24 = mul-le-mul limits.K_high q in omega arith

-- ---- all operations, or the first of them

module _ (sz : Sizes) (b : ℕ) (stretch : List ℕ) where
  -- where the erasure is done, the pages below offset o are programmed too
  abbrev pub ProgrammedOn : List ℕ → List ℕ → List ℕ → ℕ → List ℕ → List ℕ → List ℕ → Type 0
  ProgrammedOn flash₀ codes₀ marks₀ o flash codes marks = (fl : List Cell)
      → cells sz flash₀ codes₀ marks₀ ≡ programmed_to (chip_for sz) (zero_page sz) 1 sz fl b (page_at sz.S stretch)
      → cells sz flash codes marks ≡ programmed_to (chip_for sz) (zero_page sz) (suc o) sz fl b (page_at sz.S stretch)

  pub on_page : (flash₀ codes₀ marks₀ flash codes marks flash' codes' marks' : List ℕ) (o : ℕ) → InLimits sz → b < sz.N → o < sz.K
      → ProgrammedOn flash₀ codes₀ marks₀ o flash codes marks
      → Programmed sz flash codes marks (b * sz.K + o) (page_at sz.S stretch o) flash' codes' marks'
      → ProgrammedOn flash₀ codes₀ marks₀ (o + 1) flash' codes' marks'
  on_page flash₀ codes₀ marks₀ flash codes marks flash' codes' marks' o limits bl ol h p fl e = p.cells_are
      ∙ ap (λ (x : List Cell). set x (b * sz.K + o) ((chip_for sz).cell (page_at sz.S stretch o))) (h fl e)
      ∙ after-page (chip_for sz) (zero_page sz) sz limits fl b (page_at sz.S stretch) o bl ol

  pub on_all : (flash₀ codes₀ marks₀ flash codes marks : List ℕ) (o many : ℕ) → o ≡ many
      → ProgrammedOn flash₀ codes₀ marks₀ o flash codes marks → PagesProgrammed sz b flash₀ codes₀ marks₀ stretch many flash codes marks
  on_all flash₀ codes₀ marks₀ flash codes marks o many e h = record {
    cells_are = λ fl q. h fl q
        ∙ ap (λ (x : ℕ). programmed_to (chip_for sz) (zero_page sz) (suc x) sz fl b (page_at sz.S stretch)) e;
  }

  module _ (flash codes marks wear : List ℕ) where
    pub block_none : (ops : ℕ) → InLimits sz → ops ≡ 0 → BlockProgrammed sz b flash codes marks wear stretch ops 0 flash codes marks wear
    block_none ops limits z = record {
      cells_are = rw z (sym (after_none (chip_for sz) (zero_page sz) sz limits (cells sz flash codes marks) b (page_at sz.S stretch)
          (cells-long sz flash codes marks)));
      wear-is = rw z;
      left_is = omega arith;
    }

    pub block-all : (ops many left : ℕ) → InLimits sz → 0 < ops → many ≡ min (ops - 1) sz.K
        → left ≡ ops - 1 - many
        → (flash₁ codes₁ marks₁ wear₁ flash' codes' marks' : List ℕ) → Erased sz b flash codes marks wear flash₁ codes₁ marks₁ wear₁
        → PagesProgrammed sz b flash₁ codes₁ marks₁ stretch many flash' codes' marks'
        → BlockProgrammed sz b flash codes marks wear stretch ops left flash' codes' marks' wear₁
    block-all ops many left limits p e l flash₁ codes₁ marks₁ wear₁ flash' codes' marks' h q = record {
      cells_are = q.cells_are (cells sz flash codes marks) (h.cells_are (page_at sz.S stretch))
          ∙ after_last (chip_for sz) (zero_page sz) sz limits (cells sz flash codes marks) b (page_at sz.S stretch) ops many p e;
      wear-is = rw (lt-ltb 0 ops p) h.wear-is;
      left_is = omega arith;
    }
