-- While flips are borne no call is refused 7, and one that finds every cell as it was programmed mends nothing.
use mathlib.Core.Path.{◌≡◌, refl, sym, ap, ◌∙◌}
use mathlib.Core.Bool.{Bool, true, false, cond, ◌&&◌}
use mathlib.Core.List.{List, [], ◌∷◌}
use Prim.Native.Nat.{ℕ, ◌+◌, ◌*◌, ◌/◌, ◌≤◌, ◌<◌}
use native.Mathlib.Omega.{arith}
use lib.Dec.{leb, ltb, eqb}
use lib.ListN.{length, get_or}
use borrow.Author.Tests.{ltb-true, eqb-true, eqb-false}
use Rattle.prelude.specs.Scan.{first}
use Rattle.prelude.proofs.Tests.{by-test, clash, and_r, fails}
use Rattle.prelude.proofs.Scan.{first-hit}
use Rattle.model.specs.Sizes.{Sizes, vacant, is_coded, is_marked, InLimits}
use Rattle.model.specs.Soundness.{sound}
use Rattle.model.specs.Policy.{Choice, Plan, erased_by, Due, clean, due, due_of, is_worn, lowest_worn}
use Rattle.model.specs.Moves.{cell_at}
use Rattle.model.specs.Calls.{refused, is_refused, Call, read, write, part, step, flush, State, Outcome, checked, read_outcome}
use Rattle.model.specs.Calls.{write_outcome, part_outcome, step_outcome, flush_outcome, decide, heeding, some_page}
use Rattle.model.specs.Calls.{fault_met, mends_met}
use Rattle.model.specs.Calls.{Page, Cell, Format, Buffers, lent_ok, Store, zero_page, flash_cells, memory_of, state_of}
use Rattle.model.specs.Calls.{told, fault_of, mends_of}
use Rattle.model.specs.Calls.{reads_all, carried_out, call_reading, open_store, open_done}
use Rattle.model.specs.Lists.{no_cell, added_cause, flipped, Borne}
use Rattle.model.specs.Formats.{code_for, format_of, torn, chip_for, store_format, flips_for, StoreMatches, StoreNear}
use Rattle.model.specs.Shelf.{ShelfStore, ShelfReference, ShelfChosen, ShelfCall, is_back, shelved, shelf_ok, shelf_call, ordinary}
use Rattle.model.specs.Shelf.{shelf_flipped, shelf_opened, no_entries}
use Rattle.model.specs.Legible.{AsProgrammed, ShelfLegible}
use Rattle.model.proofs.Soundness.{limits_of}
use Rattle.model.proofs.Opening.{open_accepted}
use Rattle.model.proofs.Plain.{nothing}
use Rattle.model.proofs.Demand3.{get_d_any, cells_fit, Holds, holds-sound}
use Rattle.model.proofs.Buffers.{cells-length}
use Rattle.model.proofs.RulesCalls.{heeds-rule}
use Rattle.model.proofs.Formats.{page-legible, own-page_mends, store-bears}
use Rattle.model.proofs.Shelf.{Shelves, shelf-step, AllShelfPick, shelves-opened}

-- ---- no cause of the base is one that a request adds

module _ (sz : Sizes) (k : State) where
  checked-cause : (n long : ℕ) (o : Outcome) → added_cause o.answer ≡ 0 → added_cause (checked sz k n long o).answer ≡ 0
  unfolding checked
  checked-cause n long o g = by-test (eqb long sz.S)
      (λ e. rw (e, checked) (by-test (ltb n (sz.N * sz.K)) (λ t. rw t g) (λ t. rw t)))
      (λ e. rw (e, checked))

  write-cause : (n : ℕ) (p : Plan) → added_cause (write_outcome sz k n p).answer ≡ 0
  unfolding write_outcome
  write-cause n p = by-test (is_worn sz k.wear (erased_by k.directory p)) (λ e. rw (e, write_outcome)) (λ e. rw (e, write_outcome))

  part-cause : (first many : ℕ) (w : Outcome) → added_cause w.answer ≡ 0 → added_cause (part_outcome sz k first many w).answer ≡ 0
  unfolding part_outcome
  part-cause first many w g = by-test (leb (first + many) sz.S)
      (λ e. rw (e, part_outcome) (by-test (eqb many 0) (λ t. rw t) (λ t. rw t g)))
      (λ e. rw (e, part_outcome))

  step-cause : (d : Due) → added_cause (step_outcome sz k d).answer ≡ 0
  unfolding step_outcome
  step-cause clean = refl
  step-cause (due b f) = by-test (is_worn sz k.wear b) (λ e. rw (e, step_outcome)) (λ e. rw (e, step_outcome))

  flush-cause : (pick : Choice) → added_cause (flush_outcome pick sz k).answer ≡ 0
  unfolding flush_outcome
  flush-cause pick = by-test (ltb (lowest_worn sz k.directory k.wear) sz.N) (λ e. rw (e, flush_outcome)) (λ e. rw (e, flush_outcome))

  decide-cause : (pick : Choice) (c : Call ℕ) → added_cause (decide pick sz k c).answer ≡ 0
  unfolding decide read_outcome
  decide-cause pick (read n long) = checked-cause n long (read_outcome sz k n) refl
  decide-cause pick (write n long) = checked-cause n long _ (write-cause n _)
  decide-cause pick (part n first many long) = checked-cause n long _ (part-cause first many _ (write-cause n _))
  decide-cause pick step = step-cause (due_of pick sz k.directory)
  decide-cause pick flush = flush-cause pick

-- ---- a call whose pages can all be read, or are as they were programmed

not-seven : (n b : ℕ) → (n ≡ 7 → ⊥) → refused n vacant ≡ refused 7 b → ⊥
not-seven n b h e = h (cc)

module _ (sz : Sizes) (fault : ℕ → ℕ) (reads : ℕ → Bool) (good : (n : ℕ) → n < sz.N * sz.K → fault n ≡ 7 → ⊥) where
  none-bad : some_page sz (λ i. reads i && eqb (fault i) 7) ≡ false
  unfolding some_page
  none-bad = fails _ (λ t. let l = ltb-true (first (sz.N * sz.K) (λ i. reads i && eqb (fault i) 7)) (sz.N * sz.K) t in
      good _ l (eqb-true _ 7 (and_r (reads (first (sz.N * sz.K) (λ i. reads i && eqb (fault i) 7))) _
      (first-hit (sz.N * sz.K) (λ i. reads i && eqb (fault i) 7) l))))

  met-no_seven : fault_met sz fault reads ≡ 7 → ⊥
  unfolding fault_met
  met-no_seven h = by-test (some_page sz (λ i. reads i && eqb (fault i) 14))
      (λ t. let e : fault_met sz fault reads ≡ 14 = rw (none-bad, t) in omega arith)
      (λ t. let e : fault_met sz fault reads ≡ 0 = rw (none-bad, t) in omega arith)

module _ (fmt : Format) (pick : Choice) (besides : ℕ → Bool) (s : Store) (c : Call Page) where
  abbrev sz : Sizes
  sz = s.cache.sizes

  abbrev cell_of : ℕ → Cell
  cell_of n = cell_at (fmt.chip sz) (zero_page sz) (flash_cells fmt sz s.lent) n

  carried-answer : (o : Outcome) → (carried_out fmt pick s c besides o).answer ≡ o.answer
  unfolding carried_out
  carried-answer o = by-test (is_refused o.answer) (λ e. rw (e, carried_out)) (λ e. rw (e, carried_out))

  heeded :
      (late : ℕ) (o : Outcome) (b : ℕ) →
      added_cause o.answer ≡ 0 → (late ≡ 7 → ⊥) → (heeding (state_of s) late o).answer ≡ refused 7 b → ⊥
  heeded late o b plain h e = by-test (is_refused o.answer)
      (λ r. let q : o.answer ≡ refused 7 b = ap (λ (x : Outcome). x.answer) (sym ((heeds-rule (state_of s) late o).0 r)) ∙ e in
      let z : ◌≡◌ {A = ℕ} 0 7 = sym plain ∙ ap added_cause q in omega arith)
      (λ r. by-test (eqb late 0)
      (λ t. clash (ap is_refused (ap (λ (x : Outcome). x.answer) (sym ((heeds-rule (state_of s) late o).2 r (eqb-true late 0 t))) ∙ e)) r)
      (λ t. not-seven late b h (sym ((heeds-rule (state_of s) late o).1 r (eqb-false late 0 t)).0 ∙ e)))

  pub reading-readable : ((n : ℕ) → n < sz.N * sz.K → (fmt.chip sz).fault (cell_of n) ≡ 7 → ⊥) → (b : ℕ)
      → (call_reading fmt pick besides s c).answer ≡ refused 7 b → ⊥
  unfolding call_reading fault_of memory_of
  reading-readable good b = by-test (sound sz s.cache.directory)
      (λ a. rw (a, call_reading) (by-test (lent_ok fmt sz s.lent)
      (λ f. rw f (λ e. heeded _ (decide pick sz (state_of s) (told c)) b (decide-cause sz (state_of s) pick (told c))
      (met-no_seven sz (λ n. (fmt.chip sz).fault (cell_of n)) _ good) (sym (carried-answer _) ∙ e)))
      (λ f. rw f (not-seven 2 b (λ z. omega arith)))))
      (λ a. rw (a, call_reading) (not-seven 4 b (λ z. omega arith)))

  pub reading-mendless : ((n : ℕ) → n < sz.N * sz.K → (fmt.chip sz).mends (cell_of n) ≡ 0) → (call_reading fmt pick besides s c).mends ≡ 0
  unfolding call_reading carried_out mends_of mends_met memory_of
  reading-mendless good = by-test (sound sz s.cache.directory)
      (λ a. rw (a, call_reading) (by-test (lent_ok fmt sz s.lent)
      (λ f. rw f (by-test (is_refused (heeding (state_of s) (fault_of fmt pick sz (memory_of fmt sz s.lent).flash
      (reads_all fmt pick sz (state_of s) c besides)) (decide pick sz (state_of s) (told c))).answer)
      (λ r. rw (r, carried_out))
      (λ r. rw (r, carried_out) (nothing sz (sz.N * sz.K) _ (λ i l. by-test (reads_all fmt pick sz (state_of s) c besides i)
      (λ t. rw t (good i l)) (λ t. rw t))))))
      (λ f. rw f)))
      (λ a. rw (a, call_reading))

-- ---- the same with a shelf

module _ (fmt : Format) (h : ℕ) (pick : Choice) (s : ShelfStore) (c : ShelfCall) where
  abbrev below : Store
  below = s.store

  pub shelf-readable : ((besides : ℕ → Bool) (k : Call Page) (b : ℕ) → (call_reading fmt pick besides below k).answer ≡ refused 7 b → ⊥)
      → (b : ℕ) → (shelf_call fmt h pick s c).answer ≡ refused 7 b → ⊥
  unfolding shelf_call ordinary
  shelf-readable good b = let sz = s.store.cache.sizes in
      by-test (sound sz s.store.cache.directory && shelf_ok sz h s.entries)
      (λ a. rw (a, shelf_call) (by-test (lent_ok fmt sz s.store.lent && eqb (length s.shelf) (h * sz.S))
      (λ f. rw f (by-test (is_back c && eqb (shelved s.entries) 0)
      (λ e. rw e (not-seven 8 b (λ z. omega arith)))
      (λ e. rw e (good _ _ b))))
      (λ f. rw f (not-seven 2 b (λ z. omega arith)))))
      (λ a. rw (a, shelf_call) (not-seven 4 b (λ z. omega arith)))

  pub shelf-mendless :
      ((besides : ℕ → Bool) (k : Call Page) → (call_reading fmt pick besides below k).mends ≡ 0) →
      (shelf_call fmt h pick s c).mends ≡ 0
  unfolding shelf_call ordinary
  shelf-mendless good = let sz = s.store.cache.sizes in
      by-test (sound sz s.store.cache.directory && shelf_ok sz h s.entries)
      (λ a. rw (a, shelf_call) (by-test (lent_ok fmt sz s.store.lent && eqb (length s.shelf) (h * sz.S))
      (λ f. rw f (by-test (is_back c && eqb (shelved s.entries) 0) (λ e. rw e) (λ e. rw e (good _ _))))
      (λ f. rw f)))
      (λ a. rw (a, shelf_call))

-- ---- the store's own cells

-- a page after flips that are borne can be read, and one with its own code has no mends
reads_borne : (coded : Bool) (sz : Sizes) → (coded ≡ true → sz.S / 256 * 256 ≡ sz.S) → (x x' : Page) (k' : List ℕ) → length x ≡ sz.S
    → length x' ≡ sz.S → flips_for coded sz x ((code_for coded).code_of sz x) x' k' → (code_for coded).unreadable sz x' k' ≡ false
reads_borne true sz whole x x' k' l l' f = page-legible sz (whole refl) x x' k' l l' f
reads_borne false sz whole x x' k' l l' f = refl

own-mends : (coded : Bool) (sz : Sizes) → (coded ≡ true → sz.S / 256 * 256 ≡ sz.S) → (x : Page) → length x ≡ sz.S
    → (code_for coded).mends sz x ((code_for coded).code_of sz x) ≡ 0
own-mends true sz whole x l = own-page_mends sz (whole refl) x l
own-mends false sz whole x l = refl

not-7 : (bad t : Bool) → bad ≡ false → ◌≡◌ {A = ℕ} (cond bad 7 (cond t 14 0)) 7 → ⊥
not-7 true t e h = clash refl e
not-7 false true e h = omega arith
not-7 false false e h = omega arith

module _ (sz : Sizes) (limits : InLimits sz) (u : Buffers) (s : Store) (r : ShelfReference)
    (x : Holds store_format StoreMatches StoreNear sz (store-bears sz limits.whole) u s r.reference) (fl cd : List ℕ)
    (b : Borne store_format StoreNear sz r.reference (flipped s fl cd).lent) where
  abbrev now : Buffers
  now = (flipped s fl cd).lent

  cell-is : (n : ℕ) → n < sz.N * sz.K → cell_at (chip_for sz) (zero_page sz) (flash_cells store_format sz now) n
      ≡ get_or (flash_cells store_format sz now) n no_cell
  unfolding cell_at
  cell-is n l = get_d_any (flash_cells store_format sz now) n _ no_cell (rw (cells-length store_format sz now) l)

  pub cell-readable : (n : ℕ) → n < sz.N * sz.K
      → (chip_for sz).fault (cell_at (chip_for sz) (zero_page sz) (flash_cells store_format sz now) n)
      ≡ 7 → ⊥
  unfolding format_of
  cell-readable n l = rw (cell-is n l) (
      let m = x.inv.matched n l in
      let f = cells_fit store_format StoreMatches StoreNear sz (store-bears sz limits.whole) now b.fits n l in
      not-7 _ (torn (is_marked sz) (get_or (flash_cells store_format sz now) n no_cell)) (reads_borne (is_coded sz) sz limits.whole _ _ _
      m.0.0 f.0 (rw m.1 at (b.near n l).0)))

  pub cell-mendless : AsProgrammed store_format sz r.reference now → (n : ℕ) → n < sz.N * sz.K
      → (chip_for sz).mends (cell_at (chip_for sz) (zero_page sz) (flash_cells store_format sz now) n) ≡ 0
  unfolding format_of
  cell-mendless same n l = let m = x.inv.matched n l in
      rw (cell-is n l, same n l, m.1) (own-mends (is_coded sz) sz limits.whole _ m.0.0)

-- ---- every list

module _ (sz : Sizes) (limits : InLimits sz) (u : Buffers) (h : ℕ) (h_le : h ≤ 8) where
  abbrev At : ShelfStore → ShelfReference → Type 0
  At s r = Shelves store_format StoreMatches StoreNear sz (store-bears sz limits.whole) u limits h h_le s r

  legible-list : (cs : List ShelfChosen) → AllShelfPick cs → (s : ShelfStore) (r : ShelfReference) → At s r
      → ShelfLegible store_format StoreNear sz h cs s r
  legible-list [] p s r x = tt
  legible-list (t ∷ cs) p s r x = λ fl cd b.
      let st = shelf-step store_format StoreMatches StoreNear sz (store-bears sz limits.whole) u limits h h_le s r x t p.0 fl cd b in
      let bears = store-bears sz limits.whole in
      let e = (holds-sound store_format StoreMatches StoreNear sz bears u s.store r.reference x.holds).0 in
      record {
        readable = shelf-readable store_format h t.choice (shelf_flipped s fl cd) t.call (λ besides k.
            reading-readable store_format t.choice besides (flipped s.store fl cd) k (rw e (cell-readable sz limits u s.store r
            x.holds fl cd b)));
        mendless = λ same. shelf-mendless store_format h t.choice (shelf_flipped s fl cd) t.call (λ besides k.
            reading-mendless store_format t.choice besides (flipped s.store fl cd) k (rw e (cell-mendless sz limits u s.store r
            x.holds fl cd b same)));
        then = legible-list cs p.1 _ _ st.then;
      }

-- from an accepted opening of a store whose codes match
pub store-legible : (sz : Sizes) (u : Buffers) → (open_store store_format sz u).answer ≡ open_done
    → ((n : ℕ) → n < sz.N * sz.K → StoreMatches sz (get_or (flash_cells store_format sz u) n no_cell))
    → (h : ℕ) → h ≤ 8 → (shelf : List ℕ) → length shelf ≡ h * sz.S → (cs : List ShelfChosen) → AllShelfPick cs
    → ShelfLegible store_format StoreNear sz h cs (record {
      store = record { cache = (open_store store_format sz u).cache; lent = u };
      entries = no_entries;
      shelf = shelf;
    })
    (shelf_opened store_format sz h u shelf)
store-legible sz u acc ok h hl shelf sl cs p = let a = open_accepted store_format sz u acc in
    let limits = limits_of sz a.sizes-ok in
    let bears = store-bears sz limits.whole in
    legible-list sz limits u h hl cs p _ _ (shelves-opened store_format StoreMatches StoreNear sz bears u limits h hl a ok shelf sl)
