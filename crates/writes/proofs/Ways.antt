-- What each way of a write leaves, and what holds of the plan that asks for it.
use mathlib.Core.Path.{◌≡◌, refl, sym, ap, ◌∙◌, subst}
use mathlib.Core.Bool.{true, false}
use mathlib.Core.List.{List}
use Rattle.std.specs.Prelude.{None}
use Prim.Native.Nat.{ℕ, suc, ◌+◌, ◌*◌, ◌%◌, ◌≤◌, ◌<◌}
use native.Mathlib.Omega.{arith}
use lib.ListN.{set}
use borrow.Author.Tests.{lt-ltb}
use Rattle.model.specs.Sizes.{Sizes, vacant}
use Rattle.model.specs.Directory.{Directory, frame_at}
use Rattle.model.specs.Soundness.{Sound}
use Rattle.model.specs.Policy.{Choice, slot_of, frame_of, Plan, slot_hit, frame_hit, free_slot, join, fill, exchange, evict, plan, victim}
use Rattle.model.specs.Policy.{due, erased_by, way_of}
use Rattle.model.specs.Moves.{Memory, worn_by, touched, put_slot, entered, stepped, written, stepped_pages, written_pages, put_slot_page}
use Rattle.model.specs.Moves.{merged_by, put_frame_page, joined, joined_pages, filled, exchanged_pages}
use Rattle.model.specs.Formats.{store_format, chip_for}
use Rattle.model.specs.Calls.{write_merges}
use Rattle.model.specs.Calls.{Answer, write_done, Page, Cell, Buffers, zero_page, flash_cells, slot_pages, frame_pages, memory_of}
use Rattle.model.specs.Cut.{cut_rewrite, cut_write}
use Rattle.model.specs.Lists.{Picks}
use Rattle.model.proofs.Lookup.{block-vacant, found-slot, frame_is, no-frame}
use Rattle.model.proofs.Calls.{not-worn}
use Rattle.model.proofs.Steps as steps
use Rattle.model.proofs.Plan.{victim-lt, victim-pos, sole-own, occupied-all, fewest-pick, evict-pick, plan-elim, eviction_elim}
use Rattle.moves.specs.Spaces.{spaces}
use Rattle.chip.specs.declared.Rewrote.{Rewrote}
use Rattle.clean.specs.Clean.{Cleanable, BlockCleaned}
use Rattle.answer.specs.Carried.{buffers, left_of}
use Rattle.writes.specs.Ahead.{erased_frame}
use Rattle.writes.specs.Writes.{PlanHolds, mend_by, Carries, CarriedOut}
use Rattle.writes.specs.Enter.{Joining}
use Rattle.writes.proofs.Entering.{JoinEntered, ExchangeEntered}

-- ---- a plan that erases no block: it reads no flash, and leaves flash and wear

pub record Still (sz : Sizes) (d : Directory) (u : Buffers) (p : Plan) : Type 0 where
  pub erases : erased_by d p ≡ vacant
  pub reads : (i : ℕ) → write_merges sz d p i ≡ false
  pub mends : mend_by sz d u.flash u.codes p ≡ 0
  pub merges : merged_by sz d p ≡ 0
  pub leaves : (ops : ℕ) → left_of sz u ≡ cut_write (chip_for sz) (zero_page sz) sz ops d u.wear (memory_of store_format sz u) p

pub still : (sz : Sizes) (d : Directory) (u : Buffers) (p : Plan) → erased_frame p ≡ None → Still sz d u p
unfolding cut_write memory_of
still sz d u (slot_hit i) e = record { erases = refl; reads = λ i. refl; mends = refl; merges = refl; leaves = λ ops. refl }
still sz d u (frame_hit f) e = record { erases = refl; reads = λ i. refl; mends = refl; merges = refl; leaves = λ ops. refl }
still sz d u (free_slot i) e = record { erases = refl; reads = λ i. refl; mends = refl; merges = refl; leaves = λ ops. refl }
still sz d u (join v f) e = record { erases = refl; reads = λ i. refl; mends = refl; merges = refl; leaves = λ ops. refl }
still sz d u (fill v f) e = record { erases = refl; reads = λ i. refl; mends = refl; merges = refl; leaves = λ ops. refl }
still sz d u (exchange v f) e = record { erases = refl; reads = λ i. refl; mends = refl; merges = refl; leaves = λ ops. refl }
still sz d u (evict v f) e = absurd (cc)

-- ---- ways 1 to 6

-- the two spaces beside the flash
beside : (sz : Sizes) (u : Buffers) (pspace' bspace' : List ℕ) (m : Memory Cell Page) → spaces sz pspace' bspace' ≡ m
    → memory_of store_format sz (record u { pspace = pspace'; bspace = bspace' })
    ≡ record { flash = flash_cells store_format sz u; pspace = m.pspace; bspace = m.bspace }
unfolding spaces memory_of flash_cells
beside sz u pspace' bspace' m h = ap (λ (x : Memory Cell Page). record {
  flash = flash_cells store_format sz u;
  pspace = x.pspace;
  bspace = x.bspace;
}) h

module _ {sz : Sizes} {d : Directory} {u : Buffers} {n : ℕ} {page : Page} {mends ops : ℕ} where
  still-way : (p : Plan) → erased_frame p ≡ None → (d' : Directory) (pspace' bspace' : List ℕ) → d' ≡ written sz d n p
      → memory_of store_format sz (record u { pspace = pspace'; bspace = bspace' })
      ≡ written_pages (chip_for sz) (zero_page sz) sz d (memory_of store_format sz u) n page p
      → CarriedOut sz d u n page p mends ops (write_done (way_of p) vacant 0) mends d' (record u { pspace = pspace'; bspace = bspace' })
  unfolding worn_by flash_cells
  still-way p e d' pspace' bspace' de pages = let h = still sz d u p e in record {
    answer-is = rw (h.erases, h.merges);
    mends-are = refl;
    directory-is = de;
    left_is = h.leaves ops;
    wear-is = λ l. rw h.erases;
    pages-are = λ l. pages;
  }

  pub way-1 : (i : ℕ) (pspace' : List ℕ) → slot_pages sz pspace' ≡ set (slot_pages sz u.pspace) i page
      → CarriedOut sz d u n page (slot_hit i) mends ops (write_done 1 vacant 0) mends d (record u { pspace = pspace' })
  unfolding written written_pages put_slot_page memory_of flash_cells
  way-1 i pspace' h = still-way (slot_hit i) refl d pspace' u.bspace refl
      (ap (λ (x : List Page). record { flash = flash_cells store_format sz u; pspace = x; bspace = frame_pages sz u.bspace }) h)

  pub way-2 : (f : ℕ) (bspace' : List ℕ) {d' : Directory} → d' ≡ touched sz false d f
      → frame_pages sz bspace' ≡ set (frame_pages sz u.bspace) (f * sz.K + n % sz.K) page
      → CarriedOut sz d u n page (frame_hit f) mends ops (write_done 2 vacant 0) mends d' (record u { bspace = bspace' })
  unfolding written written_pages put_frame_page memory_of flash_cells
  way-2 f bspace' e h = still-way (frame_hit f) refl _ u.pspace bspace' e
      (ap (λ (x : List Page). record { flash = flash_cells store_format sz u; pspace = slot_pages sz u.pspace; bspace = x }) h)

  pub way-3 : (i : ℕ) (pspace' : List ℕ) {d' : Directory} → d' ≡ put_slot d i n
      → slot_pages sz pspace' ≡ set (slot_pages sz u.pspace) i page
      → CarriedOut sz d u n page (free_slot i) mends ops (write_done 3 vacant 0) mends d' (record u { pspace = pspace' })
  unfolding written written_pages put_slot_page memory_of flash_cells
  way-3 i pspace' e h = still-way (free_slot i) refl _ pspace' u.bspace e
      (ap (λ (x : List Page). record { flash = flash_cells store_format sz u; pspace = x; bspace = frame_pages sz u.bspace }) h)

  module _ (v f : ℕ) {d' : Directory} (pspace' bspace' : List ℕ) where
    pub way-4 : JoinEntered sz false d v f u.pspace u.bspace n page d' pspace' bspace'
        → CarriedOut sz d u n page (join v f) mends ops (write_done 4 vacant 0) mends d' (record u { pspace = pspace'; bspace = bspace' })
    unfolding written written_pages put_slot_page joined_pages filled spaces memory_of
    way-4 h = still-way (join v f) refl _ pspace' bspace' h.directory-is (beside sz u pspace' bspace' _ h.pages-are)

    pub way-5 : JoinEntered sz true d v f u.pspace u.bspace n page d' pspace' bspace'
        → CarriedOut sz d u n page (fill v f) mends ops (write_done 5 vacant 0) mends d' (record u { pspace = pspace'; bspace = bspace' })
    unfolding written written_pages put_slot_page joined_pages filled spaces memory_of
    way-5 h = still-way (fill v f) refl _ pspace' bspace' h.directory-is (beside sz u pspace' bspace' _ h.pages-are)

    pub way-6 : ExchangeEntered sz d v f u.pspace u.bspace n page d' pspace' bspace'
        → CarriedOut sz d u n page (exchange v f) mends ops (write_done 6 vacant 0) mends d'
        (record u { pspace = pspace'; bspace = bspace' })
    unfolding written written_pages put_slot_page exchanged_pages filled spaces memory_of
    way-6 h = still-way (exchange v f) refl _ pspace' bspace' h.directory-is (beside sz u pspace' bspace' _ h.pages-are)

-- ---- way 7

-- a join and an entering beside any flash
joined-beside : (sz : Sizes) (e d' : Directory) (flash codes marks wear pspace bspace pspace' bspace' : List ℕ) (v f n : ℕ) (page : Page)
    → JoinEntered sz true e v f pspace bspace n page d' pspace' bspace'
    → memory_of store_format sz (buffers flash codes marks wear pspace' bspace') ≡ put_slot_page
    (joined_pages (zero_page sz) sz e (memory_of store_format sz (buffers flash codes marks wear pspace bspace)) v f)
    (slot_of sz (joined sz e v f) vacant) page
unfolding put_slot_page joined_pages filled spaces memory_of flash_cells
joined-beside sz e d' flash codes marks wear pspace bspace pspace' bspace' v f n page j =
    beside sz (buffers flash codes marks wear pspace bspace) pspace' bspace' _ j.pages-are

module _ {sz : Sizes} {d : Directory} {flash codes marks wear pspace bspace : List ℕ} {v f : ℕ} {page : Page} {mend : ℕ}
    (q : Carries sz d (buffers flash codes marks wear pspace bspace) page (evict v f) mend) where
  abbrev evicting : Buffers
  evicting = buffers flash codes marks wear pspace bspace

  block-below : frame_at d f < vacant
  block-below = block-vacant sz q.ready.sound.limits (frame_at d f) q.holds.0.block-lt

  -- the frame's block may be cleaned as by a flush step
  block-ready : steps.Ready sz d (frame_at d f) f
  block-ready = steps.ready-frame sz d q.ready.sound f q.holds.0.frame-lt block-below

  pub cleanable : Cleanable sz d flash codes marks wear pspace bspace (frame_at d f) f mend
  cleanable = let h = q.ready.fits in record {
    sound = q.ready.sound;
    block = block-ready;
    unworn = not-worn sz wear (frame_at d f) block-below q.unworn;
    pspace-length = h.pspace-length;
    bspace-length = h.bspace-length;
    faultless = q.faultless;
    mend-is = q.mend-is;
  }

  -- and the victim's pages may join the frame then
  pub cleaned : {e : Directory} → e ≡ stepped sz d (due (frame_at d f) f) → Sound sz e × Joining sz e v f
  cleaned h = let s = q.ready.sound in let g = q.holds.0 in let a : ℕ = frame_at d f in rw h (
    steps.stepped-sound sz d s a f block-ready,
    record {
      victim-lt = g.victim-lt;
      victim-pos = rw (steps.stepped-count sz d s a f block-ready v (λ t. g.victim-out f g.frame-lt (sym t))) q.holds.1;
      frame-lt = g.frame-lt;
      sole = λ k kl ne t. g.victim-out k kl (sym (steps.stepped-frame' sz d s a f block-ready k ne) ∙ t);
    },
  )

  module _ {n : ℕ} (mends : ℕ) {ops : ℕ} {r : Rewrote} {e d' : Directory} {flash' codes' marks' wear' pspace' bspace₁ bspace' : List ℕ}
      (w : BlockCleaned sz d flash codes marks wear pspace bspace (frame_at d f) f ops e r flash' codes' marks' wear' bspace₁)
      (j : JoinEntered sz true e v f pspace bspace₁ n page d' pspace' bspace') where
    worn-once : suc sz.K ≤ ops → wear' ≡ worn_by wear (frame_at d f)
    unfolding cut_rewrite
    worn-once l = ap (λ x. x.wear) w.chip-is ∙ rw (lt-ltb 0 ops (omega arith))

    rewritten : suc sz.K ≤ ops → memory_of store_format sz (buffers flash' codes' marks' wear' pspace bspace₁)
        ≡ stepped_pages (chip_for sz) (zero_page sz) sz d (memory_of store_format sz evicting) (due (frame_at d f) f)
    unfolding memory_of flash_cells
    rewritten l = w.pages-are l

    left_so : left_of sz (buffers flash' codes' marks' wear' pspace' bspace')
        ≡ cut_write (chip_for sz) (zero_page sz) sz ops d wear (memory_of store_format sz evicting) (evict v f)
    unfolding cut_write memory_of flash_cells
    left_so = w.chip-is

    pub way-7 : CarriedOut sz d evicting n page (evict v f) mends ops (write_done 7 (frame_at d f) r.reads) mends d'
        (buffers flash' codes' marks' wear' pspace' bspace')
    unfolding written written_pages
    way-7 = record {
      answer-is = ap (write_done 7 (frame_at d f)) w.reads_are;
      mends-are = refl;
      directory-is = j.directory-is ∙ ap (λ (x : Directory). entered sz (touched sz true (joined sz x v f) f) n) w.directory-is;
      left_is = left_so;
      wear-is = worn-once;
      pages-are = λ l. joined-beside sz e d' flash' codes' marks' wear' pspace bspace₁ pspace' bspace' v f n page j
          ∙ ap (λ (x : Memory Cell Page). put_slot_page (joined_pages (zero_page sz) sz e x v f) (slot_of sz (joined sz e v f) vacant) page)
          (rewritten l)
          ∙ ap (λ (x : Directory). put_slot_page (joined_pages (zero_page sz) sz x
          (stepped_pages (chip_for sz) (zero_page sz) sz d (memory_of store_format sz evicting) (due (frame_at d f) f)) v f)
          (slot_of sz (joined sz x v f) vacant)
          page) w.directory-is;
    }

-- ---- what holds of the plan

pub plan-holds : (pick : Choice) → Picks pick → (sz : Sizes) (d : Directory) → Sound sz d → (w : List ℕ) (n : ℕ)
    → PlanHolds sz d (plan pick sz d w n)
plan-holds pick picks sz d s w n = let Q = PlanHolds sz d in let v : ℕ = victim sz d in let vl = victim-lt sz d s in
    plan-elim pick sz d w Q n
    (λ h. (found-slot sz d n h).0)
    (λ h l. l)
    (λ h k h2. (found-slot sz d vacant h2).0)
    (λ h k full. let pos = victim-pos sz d s full in eviction_elim pick sz d w Q v
    (λ q. record { victim-lt = vl; victim-pos = pos; frame-lt = q; sole = sole-own sz d s v (frame_of sz d v) vl q (frame_is sz d v q) })
    (λ o q. record { victim-lt = vl; victim-pos = pos; frame-lt = q; sole = λ g gl ne e. no-frame sz d v o g gl e })
    (λ o u q. let p = fewest-pick sz d s pick picks _ refl in
    (record { victim-lt = vl; victim-out = no-frame sz d v o; frame-lt = p.0; block-lt = occupied-all sz d s u _ p.0 }, rw p.1 q))
    (λ o u q. let fl = evict-pick sz d s pick picks w in
    (record { victim-lt = vl; victim-out = no-frame sz d v o; frame-lt = fl; block-lt = occupied-all sz d s u _ fl }, pos)))

-- ---- a plan of the code, or how it makes room, and the same one shown

module _ {T : Type 0} (view : T → Plan) {sz : Sizes} {d : Directory} {u : Buffers} {page : Page} {found shown : T}
    (is-shown : found ≡ shown) where
  pub shown-carries : {mend : ℕ} → Carries sz d u page (view found) mend → Carries sz d u page (view shown) mend
  shown-carries {mend} q = subst (λ (t : T). Carries sz d u page (view t) mend) is-shown q

  pub by-shown : {n mends ops mended : ℕ} {a : Answer} {d' : Directory} {u' : Buffers}
      → CarriedOut sz d u n page (view shown) mends ops a mended d' u' → CarriedOut sz d u n page (view found) mends ops a mended d' u'
  by-shown {n} {mends} {ops} {mended} {a} {d'} {u'} w = subst (λ (t : T). CarriedOut sz d u n page (view t) mends ops a mended d' u')
      (sym is-shown) w
