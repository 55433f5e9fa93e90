-- The mends of a whole call: each flash page once, as sheet or by the last step.
use mathlib.Core.Path.{◌≡◌, refl, sym, ◌∙◌}
use mathlib.Core.Bool.{Bool, true, false, cond, ◌&&◌, ◌||◌}
use mathlib.Core.List.{List, []}
use Prim.Native.Nat.{ℕ, zero, suc, ◌+◌, ◌*◌, ◌/◌, ◌≤◌, ◌<◌}
use native.Mathlib.Nat.{div-add-mod', mul-le-mul}
use native.Mathlib.Omega.{arith}
use lib.Dec.{ltb, eqb}
use lib.ListN.{get_or}
use borrow.Author.Tests.{eqb-true, eqb-false, lt-ltb, le-ltb, eq-eqb, ne_eqb}
use Rattle.prelude.proofs.Tests.{by-test, same_test}
use Rattle.model.specs.Sizes.{Sizes, vacant, InLimits}
use Rattle.model.specs.Directory.{Directory}
use Rattle.model.specs.Soundness.{Sound}
use Rattle.model.specs.Policy.{read_way, policy_choice, Plan, plan, erased_by}
use Rattle.model.specs.Moves.{cell_at}
use Rattle.model.specs.Formats.{store_format, chip_for}
use Rattle.model.specs.Calls.{Call, read, write, Page, zero_page, flash_cells, state_of, reads_page, write_merges, reads_flash}
use Rattle.model.specs.Calls.{reads_all, mends_met}
use Rattle.model.specs.Shelf.{plainly, ShelfStore, shelving_reads}
use Rattle.model.proofs.Plan.{policy_choice-picks}
use Rattle.writes.proofs.Ways.{plan-holds}
use Rattle.writes.proofs.Deciding.{merges-erased, erased-merges}
use Rattle.over.specs.Catalogue.{sizes_in, directory_in, sheet_reads, mends_from, whole_reads}
use Rattle.catalogue.specs.Kinds.{Settled, Few, kept_mends, left_mends, skipped}
use Rattle.catalogue.proofs.Stepping.{sound-now, limits-now, mends-low}
use Rattle.catalogue.proofs.Totals.{sum-zero, sum_one, total}

div-low : (j k : ℕ) → 0 < k → j / k ≤ j
div-low j k l = let e = div-add-mod' j k in let r : j / k ≤ j / k = omega arith in let p : j / k * 1 ≤ j / k * k = mul-le-mul r l in
    omega arith

positive : (n : ℕ) → (n ≡ 0 → ⊥) → 0 < n
positive zero ne = absurd (ne refl)
positive (suc n) ne = omega arith

module _ (s : ShelfStore) (c : ℕ) (x : Page) (m : List ℕ) (st : Settled s c x m) where
  abbrev sz : Sizes
  sz = sizes_in s

  abbrev d : Directory
  d = directory_in s

  -- the mends of a flash page, and whether a page is cached nowhere
  abbrev gives : ℕ → ℕ
  gives i = (chip_for sz).mends (cell_at (chip_for sz) (zero_page sz) (flash_cells store_format sz s.store.lent) i)

  abbrev way : ℕ → Bool
  way i = eqb (read_way sz d i) 3

  abbrev any_call : Call Page
  any_call = read 0 []

  sounds : Sound sz d
  sounds = sound-now s x any_call st.ready.sounds st.ready.lends

  limits : InLimits sz
  limits = limits-now s x any_call st.ready.sounds st.ready.lends

  pub k_pos : 0 < sz.K
  k_pos = let q = limits.K_low in omega arith

  pub few-mends : Few c m
  few-mends = record {
    few = st.ready.few;
    each = λ i l. rw (st.mended i l) (mends-low s x any_call st.ready.sounds st.ready.lends _);
  }

  one : (j : ℕ) → j < c → get_or m j 0 ≡ cond (way j) (gives j) 0
  unfolding mends_from mends_met reads_page
  one j l = let q = st.ready.fewer in st.mended j l ∙ sum_one (sz.N * sz.K) gives j (way j) (omega arith)

  -- what the last step reads, and what the whole call does
  abbrev pub last : Call Page → ℕ → Bool
  last k = reads_all store_format policy_choice sz (state_of s.store) k (shelving_reads store_format sz.shelf_pages policy_choice s
      (plainly k))

  or_assoc : (a b e : Bool) → (a || (b || e)) ≡ ((a || b) || e)
  or_assoc true b e = refl
  or_assoc false b e = refl

  whole_is : (k : Call Page) (i : ℕ) → whole_reads policy_choice c s x k i ≡ (last k i || (ltb i c && way i))
  unfolding whole_reads reads_all sheet_reads
  whole_is k i = or_assoc (reads_flash policy_choice sz (state_of s.store) _ i) _ (ltb i c && way i)

  module _ (k b at : ℕ) where
    abbrev skip : ℕ → Bool
    skip j = eqb (j / k) b || eqb j at

    pub counted : (op : Call Page) → ((j : ℕ) → j < c → way j ≡ true → last op j ≡ skip j)
        → mends_from s (whole_reads policy_choice c s x op) ≡ mends_from s (last op) + left_mends c k b at m
    unfolding mends_from mends_met left_mends kept_mends
    counted op met = let q = st.ready.fewer in
        total (sz.N * sz.K) c (omega arith) gives (λ j. get_or m j 0) (last op) way (whole_reads policy_choice c s x op) skip
        (λ i l. whole_is op i) one met

  -- ---- a look and a listing

  not-skipped : (k j : ℕ) → 0 < k → j < c → (eqb (j / k) vacant || eqb j vacant) ≡ false
  not-skipped k j kp l = let f = st.ready.few in let q = div-low j k kp in
      rw (ne_eqb (j / k) vacant (λ e. omega arith), ne_eqb j vacant (λ e. omega arith))

  pub all-counted : (k : ℕ) → 0 < k → left_mends c k vacant vacant m ≡ mends_from s (sheet_reads s c)
  unfolding mends_from mends_met sheet_reads left_mends kept_mends
  all-counted k kp = let q = st.ready.fewer in
      let t = total (sz.N * sz.K) c (omega arith) gives (λ j. get_or m j 0) (λ i. false) way (sheet_reads s c)
      (λ j. eqb (j / k) vacant || eqb j vacant) (λ i l. refl) one (λ j l w. sym (not-skipped k j kp l)) in
      let z = sum-zero (sz.N * sz.K) (λ i. cond false (gives i) 0) (λ i l. refl) in
      omega arith

  -- ---- a read of a page that is no sheet

  module _ (n : ℕ) (y : Page) (far : c ≤ n) where
    read-last : (j : ℕ) → j < c → last (read n y) j ≡ (eqb (j / sz.K) vacant || eqb j vacant)
    unfolding reads_all reads_flash reads_page shelving_reads
    read-last j l = rw (
      not-skipped sz.K j k_pos l,
      ne_eqb j n (λ (e : j
          ≡ n). omega arith),
    ) (by-test (ltb 0 sz.shelf_pages) (λ t. rw t) (λ t. rw t))

    pub read-counted : mends_from s (whole_reads policy_choice c s x (read n y))
        ≡ mends_from s (last (read n y)) + left_mends c sz.K vacant vacant m
    read-counted = counted sz.K vacant vacant (read n y) (λ j l w. read-last j l)

  -- ---- a write of a sheet

  module _ (n : ℕ) (y : Page) (near : n < c) where
    abbrev planned : Plan
    planned = plan policy_choice sz d s.store.lent.wear n

    -- of the pages that are cached nowhere it merges those of the block that it erases
    merged-is : (j : ℕ) → j < c → way j ≡ true → write_merges sz d planned j ≡ eqb (j / sz.K) (erased_by d planned)
    merged-is j l w = let q = st.ready.fewer in same_test
        (λ h. eq-eqb _ _ (merges-erased sz d planned j h))
        (λ h. erased-merges sz d sounds j (omega arith) planned (plan-holds policy_choice policy_choice-picks sz d sounds
        s.store.lent.wear n)
        (eqb-true _ 3 w) (eqb-true _ _ h))

    -- and shelves page n
    shelved-is : (j : ℕ) → j < c → way j ≡ true → shelving_reads store_format sz.shelf_pages policy_choice s (plainly (write n y)) j
        ≡ eqb j (skipped sz n)
    unfolding shelving_reads reads_page skipped
    shelved-is j l w = let f = st.ready.few in by-test (eqb sz.shelf_pages 0)
        (λ e. let z = eqb-true sz.shelf_pages 0 e in rw (
          e,
          le-ltb 0 sz.shelf_pages (omega arith),
          ne_eqb j vacant (λ (t : j
              ≡ vacant). omega arith),
        ))
        (λ e. let z = eqb-false sz.shelf_pages 0 e in rw (
          e,
          lt-ltb 0 sz.shelf_pages (positive sz.shelf_pages z),
          lt-ltb n vacant
              (omega arith),
        ) (by-test (eqb j n)
        (λ t. rw (t, ← eqb-true j n t, w)) (λ t. rw t)))

    write-last : (j : ℕ) → j < c → way j ≡ true → last (write n y) j ≡ (eqb (j / sz.K) (erased_by d planned) || eqb j (skipped sz n))
    unfolding reads_all reads_flash
    write-last j l w = λ i. merged-is j l w i || shelved-is j l w i

    pub write-counted : mends_from s (whole_reads policy_choice c s x (write n y))
        ≡ mends_from s (last (write n y)) + left_mends c sz.K (erased_by d planned) (skipped sz n) m
    write-counted = counted sz.K (erased_by d planned) (skipped sz n) (write n y) write-last
