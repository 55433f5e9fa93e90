-- A block of flash and a frame's stretch, page by page: the merge reads.
use mathlib.Core.Path.{◌≡◌, sym, ap, subst, ◌∙◌}
use mathlib.Core.Bool.{true, false, not, ◌&&◌}
use mathlib.Core.List.{List}
use Prim.Native.Nat.{ℕ, zero, suc, ◌+◌, ◌-◌, ◌*◌, ◌≤◌, ◌<◌}
use native.Mathlib.Nat.{add-zero, add-mul, mul-le-mul_right, suc-mul}
use native.Mathlib.Omega.{arith}
use lib.Dec.{ltb}
use lib.ListN.{length, get_or}
use borrow.Author.Tests.{ltb-true, ltb-false}
use Rattle.prelude.specs.Scan.{first_from}
use Rattle.prelude.specs.Bits.{bit, bit_without}
use Rattle.prelude.specs.Pages.{page_at, put_page, run_at, laid, pages_of}
use Rattle.prelude.proofs.Tests.{by-test, not_t, and_l, and_r}
use Rattle.prelude.proofs.Scan.{First, first_from-is}
use Rattle.prelude.proofs.Bits.{bit-zero, bit_mask}
use Rattle.prelude.proofs.Tab.{get_d_tab, tab-ext, Done, done-put, done-skip, done-past}
use Rattle.prelude.proofs.Pages.{ends-before, length-laid, length_run, laid_none, laid_more, length-page_at, in_run, page-at}
use Rattle.prelude.proofs.Pages.{pages-put}
use Rattle.model.specs.Sizes.{Sizes, is_coded}
use Rattle.model.specs.Calls.{Page, zero_page}
use Rattle.model.proofs.Lookup.{page-lt}
use Rattle.page.specs.Page.{HasPage}
use Rattle.chip.specs.Formats.{read_at, mends_at}
use Rattle.chip.specs.Chip.{Facing, CodesFacing, stretch_pages, raw_page, raw_merged, mended_page, mended_pages, merged_page}
use Rattle.chip.specs.Chip.{merged_pages, mend_set, Settled, Mendable}
use Rattle.chip.proofs.Cells.{read_plain, read-long, mends-coded}

module _ (sz : Sizes) (b : ℕ) (flash stretch : List ℕ) (h : Facing sz b flash stretch) where
  -- the same with another stretch, as long
  pub facing-on : (stretch' : List ℕ) → length stretch' ≡ length stretch → Facing sz b flash stretch'
  facing-on stretch' q = record {
    limits = h.limits;
    b_lt = h.b_lt;
    flash-length = h.flash-length;
    stretch-length = q
        ∙ h.stretch-length;
  }

  -- page o of both
  module _ (o : ℕ) (o_lt : o < sz.K) where
    pub number_lt : b * sz.K + o < sz.N * sz.K
    number_lt = page-lt sz h.limits b o h.b_lt o_lt

    pub in_flash : HasPage sz.S flash (b * sz.K + o)
    in_flash = in_run sz.S (sz.N * sz.K) flash h.flash-length number_lt

    pub in_stretch : HasPage sz.S stretch o
    in_stretch = in_run sz.S sz.K stretch h.stretch-length o_lt

  -- the n pages of both from offset o on
  module _ (o n : ℕ) (l : o + n ≤ sz.K) where
    pub run-in_stretch : o * sz.S + n * sz.S ≤ length stretch
    run-in_stretch = let e = h.stretch-length in rw (← add-mul o n sz.S) (let m = mul-le-mul_right sz.S l in omega arith)

    pub run-in_flash : (b * sz.K + o) * sz.S + n * sz.S ≤ length flash
    run-in_flash = let e = h.flash-length in rw (← add-mul (b * sz.K + o) n sz.S)
        (let m = mul-le-mul_right sz.S (let k = ends-before sz.K h.b_lt in
        let g : b * sz.K + o + n ≤ sz.N * sz.K = omega arith in g) in omega arith)

-- ---- the merge reads

-- the next offset from o on that is in v, or k where there is none
module _ (k v o e : ℕ) (l : o < k) (next : e ≡ first_from o (k - o) (bit_without v 0)) where
  of_v : (i : ℕ) → bit_without v 0 i ≡ bit v i
  of_v i = rw (bit-zero i) (by-test (bit v i) (λ t. rw t) (λ t. rw t))

  is-next : First o (k - o) (bit_without v 0) e
  is-next = rw next (first_from-is o (k - o) (bit_without v 0))

  pub next_low : o ≤ e
  next_low = is-next.low

  pub next-high : e ≤ k
  next-high = let h = is-next.high in omega arith

  next-hit : e < k → bit v e ≡ true
  next-hit t = sym (of_v e) ∙ is-next.hit (omega arith)

  next-miss : (j : ℕ) → o ≤ j → j < e → bit v j ≡ false
  next-miss j p q = sym (of_v j) ∙ is-next.miss j p q

module _ (sz : Sizes) (b : ℕ) (flash stretch₀ : List ℕ) (v : ℕ) where
  -- they are made at the offsets below o
  abbrev pub MergedTo : ℕ → List ℕ → Type 0
  MergedTo o stretch = Done (zero_page sz) sz.K (raw_page sz flash b stretch₀ v) (stretch_pages sz stretch₀) o (stretch_pages sz stretch)

  module _ (stretch : List ℕ) (h : Facing sz b flash stretch) (o : ℕ) (o_lt : o < sz.K) (done : MergedTo o stretch) where
    merged-read : bit v o ≡ false → MergedTo (o + 1) (put_page sz.S stretch o (page_at sz.S flash (b * sz.K + o)))
    unfolding raw_page
    merged-read e = rw (pages-put sz.S sz.K stretch o (page_at sz.S flash (b * sz.K + o)) o_lt h.stretch-length
        (length-page_at sz.S flash _ (in_flash sz b flash stretch h o o_lt)))
        (done-put (zero_page sz) sz.K (raw_page sz flash b stretch₀ v) (stretch_pages sz stretch₀) o (stretch_pages sz stretch) _ done o_lt
        (rw e))

    merged-kept : bit v o ≡ true → MergedTo (o + 1) stretch
    unfolding raw_page
    merged-kept e = done-skip (zero_page sz) sz.K (raw_page sz flash b stretch₀ v) (stretch_pages sz stretch₀) o (stretch_pages sz stretch)
        done
        (rw e (sym (page-at sz.S sz.K stretch₀ (zero_page sz) o o_lt)))

  -- the n offsets from o on are read at once
  merged-run : (stretch : List ℕ) → Facing sz b flash stretch → (o n : ℕ) → o + n ≤ sz.K → MergedTo o stretch
      → ((j : ℕ) → o ≤ j → j < o + n → bit v j ≡ false) → MergedTo (o + n)
      (laid (o * sz.S) (run_at sz.S flash (b * sz.K + o) n) stretch)
  merged-run stretch h o zero l done miss = rw (add-zero o, laid_none sz.S flash (b * sz.K + o) stretch o) done
  merged-run stretch h o (suc n) l done miss =
      let last : o + n < sz.K = omega arith in
      let room = run-in_stretch sz b flash stretch h o (suc n) l in
      let from = run-in_flash sz b flash stretch h o (suc n) l in
      let m = suc-mul n sz.S in
      let g : b * sz.K + (o + n) ≡ b * sz.K + o + n = omega arith in
      let before = merged-run stretch h o n (omega arith) done (λ j p q. miss j p (omega arith)) in
      let long = length-laid (o * sz.S) (run_at sz.S flash (b * sz.K + o) n) stretch
      (rw (length_run sz.S flash (b * sz.K + o) n (omega arith)) (omega arith)) in
      let k : o + suc n ≡ o + n + 1 = omega arith in
      rw (k, laid_more sz.S flash (b * sz.K + o) stretch o n room from, ← g)
      (merged-read _ (facing-on sz b flash stretch h _ long) (o + n) last before (miss (o + n) (omega arith) (omega arith)))

  -- a turn reads the offsets from o to the next valid one, e, and passes that
  pub merged-turn : (stretch : List ℕ) (o e : ℕ) → o < sz.K → e ≡ first_from o (sz.K - o) (bit_without v 0)
      → Facing sz b flash stretch → MergedTo o stretch → MergedTo (e + 1)
      (laid (o * sz.S) (run_at sz.S flash (b * sz.K + o) (e - o)) stretch)
  merged-turn stretch o e l next h done =
      let a = next_low sz.K v o e l next in
      let z = next-high sz.K v o e l next in
      let sum : o + (e - o) ≡ e = omega arith in
      let long = length-laid (o * sz.S) (run_at sz.S flash (b * sz.K + o) (e - o)) stretch
      (rw (length_run sz.S flash (b * sz.K + o) (e - o) (run-in_flash sz b flash stretch h o (e - o) (omega arith)))
      (run-in_stretch sz b flash stretch h o (e - o) (omega arith))) in
      let read : MergedTo e (laid (o * sz.S) (run_at sz.S flash (b * sz.K + o) (e - o)) stretch) =
      subst (λ (x : ℕ). MergedTo x (laid (o * sz.S) (run_at sz.S flash (b * sz.K + o) (e - o)) stretch)) sum
      (merged-run stretch h o (e - o) (omega arith) done (λ j p q. next-miss sz.K v o e l next j p (omega arith))) in
      by-test (ltb e sz.K)
      (λ u. let k = ltb-true e sz.K u in merged-kept _ (facing-on sz b flash stretch h _ long) e k read
      (next-hit sz.K v o e l next k))
      (λ t. done-past _ _ _ _ e _ read (ltb-false e sz.K t))

-- ---- the pages that are mended

pub codes-facing_on : {sz : Sizes} {b : ℕ} {flash codes stretch : List ℕ} → CodesFacing sz b flash codes stretch → (stretch' : List ℕ)
    → length stretch' ≡ length stretch → CodesFacing sz b flash codes stretch'
codes-facing_on h stretch' q = record { codes-lent = h.codes-lent; facing = facing-on _ _ _ _ h.facing stretch' q }

module _ (sz : Sizes) (b : ℕ) (flash codes stretch₀ : List ℕ) (w : ℕ) where
  -- those at the offsets below o
  abbrev pub MendedTo : ℕ → List ℕ → Type 0
  MendedTo o stretch = Done (zero_page sz) sz.K (mended_page sz flash codes b stretch₀ w) (stretch_pages sz stretch₀) o
      (stretch_pages sz stretch)

  module _ (stretch : List ℕ) (h : CodesFacing sz b flash codes stretch) (o : ℕ) (o_lt : o < sz.K) (done : MendedTo o stretch) where
    pub mended-read : bit w o ≡ true → MendedTo (o + 1) (put_page sz.S stretch o (read_at sz flash codes (b * sz.K + o)))
    unfolding mended_page
    mended-read e = rw (pages-put sz.S sz.K stretch o (read_at sz flash codes (b * sz.K + o)) o_lt h.facing.stretch-length
        (read-long sz flash codes (b * sz.K + o) h.codes-lent (number_lt sz b flash stretch h.facing o o_lt)))
        (done-put (zero_page sz) sz.K (mended_page sz flash codes b stretch₀ w) (stretch_pages sz stretch₀) o (stretch_pages sz stretch) _
        done o_lt (rw e))

    pub mended-kept : bit w o ≡ false → MendedTo (o + 1) stretch
    unfolding mended_page
    mended-kept e = done-skip (zero_page sz) sz.K (mended_page sz flash codes b stretch₀ w) (stretch_pages sz stretch₀) o
        (stretch_pages sz stretch) done
        (rw e (sym (page-at sz.S sz.K stretch₀ (zero_page sz) o o_lt)))

-- ---- both together

module _ (sz : Sizes) (b : ℕ) (flash codes stretch : List ℕ) (h : CodesFacing sz b flash codes stretch) (v w : ℕ)
    (q : Settled sz flash codes b v w) where
  in_set : (o : ℕ) → o < sz.K → bit w o ≡ (not (bit v o) && ltb 0 (mends_at sz flash codes (b * sz.K + o)))
  unfolding mend_set
  in_set o l = rw q.mend-is (bit_mask sz.K (λ o. not (bit v o) && ltb 0 (mends_at sz flash codes (b * sz.K + o))) o l)

  pub mendable : Mendable sz flash codes b w
  mendable o l e =
      let f = sym (in_set o l) ∙ e in
      let n = not_t (and_l (not (bit v o)) _ f) in
      let m = ltb-true 0 (mends_at sz flash codes (b * sz.K + o)) (and_r (not (bit v o)) _ f) in
      record {
        codes-lent = h.codes-lent;
        page-lt = number_lt sz b flash stretch h.facing o l;
        coded = mends-coded (is_coded sz) sz _ _ m;
        readable = q.readable o l n;
      }

  -- what is left where nothing is mended any more
  module _ (stretch₁ : List ℕ) (reads : stretch_pages sz stretch₁ ≡ raw_merged sz flash b stretch v) where
    raw-is : (o : ℕ) → o < sz.K → page_at sz.S stretch₁ o ≡ raw_page sz flash b stretch v o
    raw-is o l = sym (page-at sz.S sz.K stretch₁ (zero_page sz) o l) ∙ ap (λ (x : List Page). get_or x o (zero_page sz)) reads
        ∙ get_d_tab sz.K (raw_page sz flash b stretch v) (zero_page sz) o l

    merged-is : (o : ℕ) → o < sz.K → mended_page sz flash codes b stretch₁ w o ≡ merged_page sz flash codes b stretch v o
    unfolding mended_page merged_page raw_page
    merged-is o l = rw (in_set o l, raw-is o l) (by-test (bit v o)
        (λ e. rw e)
        (λ e. rw e (by-test (ltb 0 (mends_at sz flash codes (b * sz.K + o)))
        (λ m. rw m)
        (λ m. rw m (sym (read_plain sz flash codes (b * sz.K + o) h.codes-lent (number_lt sz b flash stretch h.facing o l)
        (q.readable o l e) (let k = ltb-false 0 (mends_at sz flash codes (b * sz.K + o)) m in omega arith)))))))

    pub merged-mended : (stretch₂ : List ℕ) → stretch_pages sz stretch₂ ≡ mended_pages sz flash codes b stretch₁ w
        → stretch_pages sz stretch₂ ≡ merged_pages sz flash codes b stretch v
    merged-mended stretch₂ e = e ∙ tab-ext (zero_page sz) sz.K _ _ merged-is

    pub merged-none : w ≡ 0 → stretch_pages sz stretch₁ ≡ merged_pages sz flash codes b stretch v
    unfolding mended_page pages_of
    merged-none z = tab-ext (zero_page sz) sz.K (page_at sz.S stretch₁) (merged_page sz flash codes b stretch v)
        (λ o l. sym (rw (ap (λ (x : ℕ). bit x o) z ∙ bit-zero o)) ∙ merged-is o l)
