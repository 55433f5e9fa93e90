-- The rules of the store's calls that are cut off hold.
use mathlib.Core.Path.{◌≡◌, refl, sym, ap, ◌∙◌}
use mathlib.Core.Logic.{inl, inr}
use mathlib.Core.Bool.{Bool, true, false, ◌&&◌}
use mathlib.Core.List.{List}
use Prim.Native.Nat.{ℕ, zero, suc, ◌*◌}
use native.Mathlib.Omega.{arith}
use lib.Dec.{eqb}
use lib.ListN.{length, get_or}
use Rattle.prelude.proofs.Tests.{by-test, clash}
use Rattle.prelude.proofs.Tab.{length-tab}
use Rattle.prelude.specs.Pages.{flat}
use Rattle.model.specs.Sizes.{Sizes, is_marked, InLimits}
use Rattle.model.specs.Directory.{Directory, frame_at}
use Rattle.model.specs.Soundness.{sound, Sound}
use Rattle.model.specs.Policy.{Choice, Plan, slot_hit, frame_hit, free_slot, join, fill, exchange, evict, Due, clean, due, due_of}
use Rattle.model.specs.Moves.{Memory, cell_at, programmed, put_slot_page, put_frame_page, joined_pages, exchanged_pages, rewritten_pages}
use Rattle.model.specs.Moves.{stepped_pages, written_pages}
use Rattle.model.specs.Calls.{is_refused, Call, read, write, part, step, flush, State, Outcome, decide, heeding, steps_pages, call_pages}
use Rattle.model.specs.Calls.{Page, Cell, CellFits, no_bytes, Buffers, Fits, lent_ok, Store, zero_page, flash_cells, memory_of, buffers_of}
use Rattle.model.specs.Calls.{state_of, told, carried_out, call_reading}
use Rattle.model.specs.Formats.{format_of, store_format, chip_for}
use Rattle.model.specs.Shelf.{ShelfCall, ShelfStore, is_back, shelved, shelf_ok, shelving_reads, ordinary, shelf_call, store_call}
use Rattle.model.specs.CutCalls.{left_in, meant_by, left_whole, CutRule, WholeRule, MarkedZeroRule}
use Rattle.model.proofs.Soundness.{sound-facts}
use Rattle.model.proofs.EachPage.{Each, step-each, flush-each}
use Rattle.model.proofs.Buffers.{OfS, zero-long, zero_cell, Whole, cells-again, memory-whole, cells-length, fits-of}
use Rattle.model.proofs.Formats.{store-bears}
use Rattle.model.proofs.Torn.{heeding-same}
use Rattle.model.proofs.Cut.{whole_left, wear-after, cut-nothing, call-cut, call-whole}

-- ---- the cells that an accepted call leaves

module _ (sz : Sizes) (limits : InLimits sz) (u : Buffers) (f : Fits store_format sz u) where
  abbrev m : Memory Cell Page
  m = memory_of store_format sz u

  abbrev Good : List Cell → Type 0
  Good cs = Each (zero_cell store_format sz) (CellFits store_format sz) cs × (length cs ≡ sz.N * sz.K)

  kept : (x : Page) → OfS store_format sz x → CellFits store_format sz ((chip_for sz).cell x)
  kept x l = (store-bears sz limits.whole).cell-fits x l

  given : (c : Cell) → CellFits store_format sz c → OfS store_format sz ((chip_for sz).page c)
  given c l = (store-bears sz limits.whole).page-long c l

  each : Whole store_format sz m
  each = memory-whole store_format sz u f (kept (zero_page sz) (zero-long store_format sz))

  first_good : Good m.flash
  unfolding memory_of
  first_good = (each.flash, cells-length store_format sz u)

  step-good : (d : Directory) (q : Due) → Good (stepped_pages (chip_for sz) (zero_page sz) sz d m q).flash
  unfolding stepped_pages rewritten_pages programmed
  step-good d clean = first_good
  step-good d (due b f) = (
    (step-each (chip_for sz) (zero_page sz) (CellFits store_format sz) (OfS store_format sz) (zero-long store_format sz) kept given sz d m
        (due b f) each).flash,
    length-tab (sz.N * sz.K) _,
  )

  write-good : (d : Directory) (n : ℕ) (x : Page) (p : Plan) → Good (written_pages (chip_for sz) (zero_page sz) sz d m n x p).flash
  unfolding written_pages put_slot_page put_frame_page joined_pages exchanged_pages
  write-good d n x (slot_hit i) = first_good
  write-good d n x (frame_hit f) = first_good
  write-good d n x (free_slot i) = first_good
  write-good d n x (join v f) = first_good
  write-good d n x (fill v f) = first_good
  write-good d n x (exchange v f) = first_good
  write-good d n x (evict v f) = step-good d (due (frame_at d f) f)

  -- as many cells after steps as before
  steps-more : (pick : Choice) (c : ℕ) (d : Directory) (m : Memory Cell Page) → length m.flash ≡ sz.N * sz.K
      → ((d' : Directory) (m' : Memory Cell Page) → length m'.flash ≡ sz.N * sz.K
      → length (steps_pages pick sz (chip_for sz) (zero_page sz) c d' m').flash ≡ sz.N * sz.K)
      → (q : Due) → due_of pick sz d ≡ q → length (steps_pages pick sz (chip_for sz) (zero_page sz) (suc c) d m).flash ≡ sz.N * sz.K
  unfolding steps_pages stepped_pages rewritten_pages programmed
  steps-more pick c d m l ih clean e = rw (e, steps_pages) l
  steps-more pick c d m l ih (due b f) e = rw (e, steps_pages) (ih _ _ (length-tab (sz.N * sz.K) _))

  steps-long : (pick : Choice) (c : ℕ) (d : Directory) (m : Memory Cell Page) → length m.flash ≡ sz.N * sz.K
      → length (steps_pages pick sz (chip_for sz) (zero_page sz) c d m).flash ≡ sz.N * sz.K
  unfolding steps_pages
  steps-long pick zero d m l = l
  steps-long pick (suc c) d m l = steps-more pick c d m l (λ d' m' l'. steps-long pick c d' m' l') _ refl

  call-good : (pick : Choice) (k : State) (c : Call Page) → Good (call_pages (chip_for sz) (zero_page sz) pick sz k m c).flash
  unfolding call_pages
  call-good pick k (read n x) = first_good
  call-good pick k (write n x) = write-good k.directory n x _
  call-good pick k (part n first x page) = by-test (no_bytes x) (λ e. rw (e, call_pages) first_good)
      (λ e. rw (e, call_pages) (write-good k.directory n _ _))
  call-good pick k step = step-good k.directory _
  call-good pick k flush = (
    (flush-each (chip_for sz) (zero_page sz) (CellFits store_format sz) (OfS store_format sz) (zero-long store_format sz) kept given sz pick
        sz.N k.directory m each).flash,
    steps-long pick sz.N k.directory m first_good.1,
  )

-- ---- a call below the shelf

module _ (pick : Choice) (besides : ℕ → Bool) (s : Store) (c : Call Page) where
  abbrev sz : Sizes
  sz = s.cache.sizes

  carried_same : (o : Outcome) → is_refused (carried_out store_format pick s c besides o).answer ≡ true
      → (carried_out store_format pick s c besides o).store ≡ s
  unfolding carried_out
  carried_same o = by-test (is_refused o.answer) (λ e. rw (e, carried_out) (λ h. refl)) (λ e. rw (e, carried_out) (λ h. clash h e))

  pub below-refused : is_refused (call_reading store_format pick besides s c).answer ≡ true
      → (call_reading store_format pick besides s c).store
      ≡ s
  unfolding call_reading
  below-refused = by-test (sound s.cache.sizes s.cache.directory)
      (λ a. rw (a, call_reading) (by-test (lent_ok store_format s.cache.sizes s.lent) (λ b. rw b (carried_same _)) (λ b. rw b
      (λ h. refl))))
      (λ a. rw (a, call_reading) (λ h. refl))

  -- what is accepted was checked, and leaves the cells and the wear of the model's call
  pub record Below : Type 0 where
    pub sounds : Sound s.cache.sizes s.cache.directory
    pub left : left_in s.cache.sizes (call_reading store_format pick besides s c).store.lent
        ≡ whole_left (chip_for s.cache.sizes) (zero_page s.cache.sizes) pick s.cache.sizes (state_of s)
        (memory_of store_format s.cache.sizes s.lent) c

  carried-left : Sound s.cache.sizes s.cache.directory → Fits store_format s.cache.sizes s.lent → (late : ℕ) →
      let o = heeding (state_of s) late (decide pick s.cache.sizes (state_of s) (told c)) in
      is_refused (carried_out store_format pick s c besides o).answer ≡ false
      → left_in s.cache.sizes (carried_out store_format pick s c besides o).store.lent
      ≡ whole_left (chip_for s.cache.sizes) (zero_page s.cache.sizes) pick s.cache.sizes (state_of s)
      (memory_of store_format s.cache.sizes s.lent) c
  unfolding carried_out buffers_of
  carried-left snd f late = let sz = s.cache.sizes in let d = decide pick sz (state_of s) (told c) in
      let o = heeding (state_of s) late d in
      by-test (is_refused o.answer)
      (λ e. rw (e, carried_out) (λ h. clash e h))
      (λ e. rw (e, carried_out) (λ h.
      let same : o ≡ d = heeding-same (state_of s) late d e in
      let m₁ : Memory Cell Page = call_pages (chip_for sz) (zero_page sz) pick sz (state_of s) (memory_of store_format sz s.lent) c in
      let good = call-good sz snd.limits s.lent f pick (state_of s) c in
      let wear : o.state.wear ≡ _ = ap (λ (x : Outcome). x.state.wear) same
      ∙ wear-after (chip_for sz) (zero_page sz) pick sz (state_of s) (memory_of store_format sz s.lent) c
      (ap (λ (x : Outcome). is_refused x.answer) (sym same) ∙ e) in
      (λ i. record {
        flash = cells-again store_format sz m₁.flash good.0 good.1 o.state.wear (flat m₁.pspace) (flat
            m₁.bspace) i;
        wear = wear i;
      })))

  pub below-accepted : is_refused (call_reading store_format pick besides s c).answer ≡ false → Below
  unfolding call_reading
  below-accepted h = by-test (sound s.cache.sizes s.cache.directory)
      (λ a. by-test (lent_ok store_format s.cache.sizes s.lent)
      (λ b. let snd = sound-facts s.cache.sizes s.cache.directory a in let f = fits-of store_format s.cache.sizes s.lent b in
      record {
        sounds = snd;
        left = rw (a, call_reading) (rw b (carried-left snd f _ (rw (a, b, call_reading) at h)));
      })
      (λ b. clash refl (rw (a, b, call_reading) at h)))
      (λ a. clash refl (rw (a, call_reading) at h))

-- ---- the call with its shelf

module _ (pick : Choice) (s : ShelfStore) (c : ShelfCall) where
  abbrev besides : ℕ → Bool
  besides = shelving_reads store_format s.store.cache.sizes.shelf_pages pick s c

  store-refused : is_refused (store_call pick s c).answer ≡ true → (store_call pick s c).store.store ≡ s.store
  unfolding shelf_call ordinary
  store-refused = let sz = s.store.cache.sizes in let h = sz.shelf_pages in
      by-test (sound sz s.store.cache.directory && shelf_ok sz h s.entries)
      (λ a. rw (a, shelf_call) (by-test (lent_ok store_format sz s.store.lent && eqb (length s.shelf) (h * sz.S))
      (λ b. rw b (by-test (is_back c && eqb (shelved s.entries) 0)
      (λ e. rw e (λ q. refl)) (λ e. rw e (below-refused pick besides s.store (meant_by s c)))))
      (λ b. rw b (λ q. refl))))
      (λ a. rw (a, shelf_call) (λ q. refl))

  -- an accepted one is an accepted call below
  store-accepted : is_refused (store_call pick s c).answer ≡ false
      → (is_refused (call_reading store_format pick besides s.store (meant_by s c)).answer ≡ false)
      × ((store_call pick s c).store.store ≡ (call_reading store_format pick besides s.store (meant_by s c)).store)
  unfolding shelf_call ordinary
  store-accepted = let sz = s.store.cache.sizes in let h = sz.shelf_pages in
      by-test (sound sz s.store.cache.directory && shelf_ok sz h s.entries)
      (λ a. rw (a, shelf_call) (by-test (lent_ok store_format sz s.store.lent && eqb (length s.shelf) (h * sz.S))
      (λ b. rw b (by-test (is_back c && eqb (shelved s.entries) 0)
      (λ e. rw e (λ q. clash refl q)) (λ e. rw e (λ q. (q, refl)))))
      (λ b. rw b (λ q. clash refl q))))
      (λ a. rw (a, shelf_call) (λ q. clash refl q))

  -- the cells and the wear that it leaves are the model's
  pub accepted-whole : is_refused (store_call pick s c).answer ≡ false
      → Sound s.store.cache.sizes s.store.cache.directory × (left_whole pick s c
      ≡ whole_left (chip_for s.store.cache.sizes) (zero_page s.store.cache.sizes) pick s.store.cache.sizes (state_of s.store)
      (memory_of store_format s.store.cache.sizes s.store.lent) (meant_by s c))
  accepted-whole q = let a = store-accepted q in let b = below-accepted pick besides s.store (meant_by s c) a.0 in
      (b.sounds, ap (λ (x : Store). left_in s.store.cache.sizes x.lent) a.1 ∙ b.left)

  -- a refused one leaves all as it was
  refused-left : (u' : Buffers) → (u'.flash ≡ s.store.lent.flash) × (u'.codes ≡ s.store.lent.codes)
      × (u'.marks ≡ s.store.lent.marks) × (u'.wear ≡ s.store.lent.wear)
      → left_in s.store.cache.sizes u' ≡ left_in s.store.cache.sizes s.store.lent
  unfolding flash_cells
  refused-left u' e = rw (e.0, e.1, e.2, e.3)

pub cut-rule : CutRule
unfolding memory_of
cut-rule pick picks ops s c u' k = let sz = s.store.cache.sizes in by-test (is_refused (store_call pick s c).answer)
    (λ q. rw (store-refused pick s c q, refused-left pick s c u' (k.refused-stays q)) (cut-nothing (chip_for sz) (zero_page sz) sz _ _))
    (λ q. let w = accepted-whole pick s c q in
    rw (w.1, k.accepted-left q) (call-cut (chip_for sz) (zero_page sz) pick picks sz (state_of s.store) w.0
    (memory_of store_format sz s.store.lent) ops (meant_by s c)))

pub whole-rule : WholeRule
whole-rule pick picks ops s c u' k enough = let sz = s.store.cache.sizes in by-test (is_refused (store_call pick s c).answer)
    (λ q. refused-left pick s c u' (k.refused-stays q)
    ∙ ap (λ (x : Store). left_in sz x.lent) (sym (store-refused pick s c q)))
    (λ q. let w = accepted-whole pick s c q in
    k.accepted-left q ∙ call-whole (chip_for sz) (zero_page sz) pick picks sz (state_of s.store) w.0
    (memory_of store_format sz s.store.lent) ops (meant_by s c) enough ∙ sym w.1)

-- an erased page of a marked store is not marked 0
erased-marked : (sz : Sizes) → is_marked sz ≡ true → get_or (chip_for sz).erased.mark 0 0 ≡ 255
unfolding format_of
erased-marked sz e = rw e

pub marked-zero_rule : MarkedZeroRule
marked-zero_rule sz l l₁ l' e k = elim k.in_under [
  | inl a ↦ inl a
  | inr a ↦ inr (λ n nl q z. elim (a.0 n nl q) [
    | inl b ↦ b
    | inr b ↦ absurd (let g = erased-marked sz e in
        let y : get_or (cell_at (chip_for sz) (zero_page sz) l'.flash n).mark 0 0 ≡ 255 = ap (λ (x : Cell). get_or x.mark 0 0) b ∙ g in
        omega arith)
  ])
]
