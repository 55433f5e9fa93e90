-- A flush under way: what holds before each of its turns, and what it comes to.
use mathlib.Core.Path.{◌≡◌, refl, sym, ap, ◌∙◌}
use mathlib.Core.Bool.{true, false, ◌||◌}
use mathlib.Core.List.{List}
use Rattle.std.specs.Prelude.{Some}
use Prim.Native.Nat.{ℕ, zero, suc, ◌+◌, ◌-◌, ◌*◌, ◌/◌, ◌≤◌, ◌<◌}
use native.Mathlib.Nat.{sub-zero, mul-le-mul_right, suc-mul}
use native.Mathlib.Omega.{arith}
use lib.ListN.{length}
use borrow.Author.Tests.{lt-ltb, le-ltb, le-leb, lt-leb}
use Rattle.prelude.specs.Scan.{count}
use Rattle.prelude.proofs.Scan.{count-le}
use Rattle.prelude.proofs.Tests.{clash}
use Rattle.model.specs.Sizes.{Sizes}
use Rattle.model.specs.Directory.{Directory, valid_at}
use Rattle.model.specs.Policy.{policy_choice, clean, due, due_of, cached, lowest_worn}
use Rattle.model.specs.Moves.{Memory, cell_at, joined, stepped, stepped_pages}
use Rattle.model.specs.Formats.{store_format, chip_for}
use Rattle.model.specs.Calls.{flush_done, refused, is_refused, Tally, steps, flush_outcome, merges_page, steps_merge}
use Rattle.model.specs.Calls.{mends_met}
use Rattle.model.specs.Calls.{steps_pages, Page, Cell, Buffers, Fits, zero_page, flash_cells, memory_of}
use Rattle.model.specs.Cut.{Left, cut_steps}
use Rattle.model.proofs.Lookup.{block-lt}
use Rattle.model.proofs.Plan.{policy_choice-picks}
use Rattle.model.proofs.Steps.{Below, stepped-sound, cached-now, cached-less, cached-back, stepped-below}
use Rattle.model.proofs.Calls.{flush-below}
use Rattle.model.proofs.Cut.{stepped-other}
use Rattle.model.proofs.Merges.{flush-in, steps_mend, flush-mends}
use Rattle.chip.specs.declared.Rewrote.{Rewrote}
use Rattle.chip.specs.Chip.{Lent, fault_on, mends_on, fault_in, mends_in, block_reads, mend_set}
use Rattle.chip.proofs.Looking.{none-either, met-cells, mends-cells, none-to_mend}
use Rattle.answer.specs.Carried.{buffers, Ready, left_of}
use Rattle.answer.specs.declared.fault.Fault.{Fault}
use Rattle.answer.specs.Numbers.{refusal_of, refusal_for, fault_number}
use Rattle.answer.proofs.Refusals.{fault_refused}
use Rattle.answer.proofs.Heeding.{down-before, down-late, goes_on}
use Rattle.clean.specs.Clean.{Lookable, Cleanable, BlockCleaned}
use Rattle.chip.specs.declared.Seen.{Seen}
use Rattle.flushes.specs.Flushes.{state_in, AllLooked, FlushCarried, flush_merges, Flushable}
use Rattle.flushes.proofs.Stepping.{some-fault, due-ready, due-lookable, worn-whole}
use Rattle.flushes.proofs.Checking.{merges-next, mends-next}

abbrev tally : Directory → Buffers → ℕ → ℕ → Tally
tally d u rewrites merges = record { state = state_in d u; rewrites = rewrites; merges = merges }

-- what the steps that are left make of flash and wear, with so many operations
abbrev left_by : Sizes → ℕ → ℕ → Directory → Buffers → Left Cell
left_by sz c ops d u = cut_steps (chip_for sz) (zero_page sz) sz policy_choice c ops d u.wear (memory_of store_format sz u)

-- The flush began at d₀ and u₀, with so many mends and operations, and has come to d and u. The steps that are left lead where all of them
-- lead from the beginning.
pub record Underway (sz : Sizes) (d₀ : Directory) (u₀ : Buffers) (mends ops₀ : ℕ) (d : Directory) (u : Buffers) (rewrites merges ops : ℕ)
    : Type 0 where
  pub ready : Ready sz d u
  -- no block with a page cached is worn
  pub below : Below sz d u.wear
  -- a step is left for each block with a page cached
  pub few : count sz.N (cached sz d) + rewrites ≤ sz.N
  pub merges-le : merges ≤ rewrites * sz.K
  pub numbers : steps policy_choice sz (sz.N - rewrites) (tally d u rewrites merges) ≡ steps policy_choice sz sz.N (tally d₀ u₀ 0 0)
  pub pages : steps_pages policy_choice sz (chip_for sz) (zero_page sz) (sz.N - rewrites) d (memory_of store_format sz u)
      ≡ steps_pages policy_choice sz (chip_for sz) (zero_page sz) sz.N d₀ (memory_of store_format sz u₀)
  -- what is still to be merged meets no refusal, and wants no mending where the flush has no mends
  pub faultless : fault_in sz u (steps_merge policy_choice sz (sz.N - rewrites) d) ≡ 0
  pub mendless : mends ≡ 0 → mends_in sz u (steps_merge policy_choice sz (sz.N - rewrites) d) ≡ 0
  -- each rewrite took K+1 operations
  pub spent : ops + rewrites * suc sz.K ≡ ops₀
  pub left_so : left_by sz (sz.N - rewrites) ops d u ≡ left_by sz sz.N ops₀ d₀ u₀

-- ---- steps by what is due

module _ (sz : Sizes) (d : Directory) where
  steps-stop : (u : Buffers) (r m : ℕ) → clean ≡ due_of policy_choice sz d → (c : ℕ)
      → steps policy_choice sz c (tally d u r m) ≡ tally d u r m
  unfolding steps
  steps-stop u r m e zero = refl
  steps-stop u r m e (suc c) = rw (← e, steps)

  pages-stop : (m : Memory Cell Page) → clean ≡ due_of policy_choice sz d → (c : ℕ)
      → steps_pages policy_choice sz (chip_for sz) (zero_page sz) c d m ≡ m
  unfolding steps_pages
  pages-stop m e zero = refl
  pages-stop m e (suc c) = rw (← e, steps_pages)

  left-stop : (u : Buffers) (ops : ℕ) → clean ≡ due_of policy_choice sz d → (c : ℕ) → left_by sz c ops d u ≡ left_of sz u
  unfolding cut_steps memory_of
  left-stop u ops e zero = refl
  left-stop u ops e (suc c) = rw (← e, cut_steps)

-- ---- buffers keep their sizes

pub fits_kept : {sz : Sizes} {flash codes marks wear pspace bspace flash' codes' marks' wear' bspace' : List ℕ}
    → Fits store_format sz (buffers flash codes marks wear pspace bspace)
    → Lent sz flash' codes' marks' → length wear' ≡ sz.N → length bspace' ≡ length bspace
    → Fits store_format sz (buffers flash' codes' marks' wear' pspace bspace')
fits_kept h l w b = record {
  flash-length = l.codes-lent.flash-length;
  codes-length = l.codes-lent.codes-length;
  marks-length = l.marks-length;
  wear-length = w;
  pspace-length = h.pspace-length;
  bspace-length = b ∙ h.bspace-length;
}

-- ---- a refused flush, and the first turn

module _ (sz : Sizes) (d : Directory) (u : Buffers) (ops : ℕ) where
  pub flush-worn : (b : ℕ) → b ≡ lowest_worn sz d u.wear → b < sz.N → FlushCarried sz d u ops (refused 6 b) 0 d u
  unfolding flush_outcome
  flush-worn b e l = down-before refl (fault_in sz u (flush_merges sz d)) (flush_outcome policy_choice sz (state_in d u)) 6 b
      (rw (lt-ltb (lowest_worn sz d u.wear) sz.N (rw (sym e) l), flush_outcome) (ap (λ (x : ℕ). record {
        answer = refused 6 x;
        state = state_in d u;
      }) (sym e)))

  -- no block is worn
  module _ (none-worn : sz.N ≤ lowest_worn sz d u.wear) where
    accepted : is_refused (flush_outcome policy_choice sz (state_in d u)).answer ≡ false
    unfolding flush_outcome
    accepted = rw (le-ltb (lowest_worn sz d u.wear) sz.N none-worn, flush_outcome)

    -- a merge read meets a refusal
    pub flush-late : {seen : Seen} → AllLooked sz d u.flash u.codes u.marks seen → (fault : Fault) → seen.fault ≡ Some fault
        → FlushCarried sz d u ops (refusal_of (refusal_for fault)) 0 d u
    flush-late k fault is =
        let met : fault_in sz u (flush_merges sz d) ≡ fault_number (Some fault) = sym k.fault-is ∙ ap fault_number is in
        rw (fault_refused fault, ← met)
        (down-late refl (fault_in sz u (flush_merges sz d)) (flush_outcome policy_choice sz (state_in d u)) accepted
        (λ z. some-fault fault (sym met ∙ z)))

pub begins : {sz : Sizes} {d : Directory} {u : Buffers} {mends : ℕ} (ops : ℕ) → Flushable sz d u mends
    → Underway sz d u mends ops d u 0 0 ops
begins {sz} {d} {u} ops q = record {
  ready = q.ready;
  below = flush-below sz (state_in d u) q.none-worn;
  few = (let h = count-le sz.N (cached sz d) in omega arith);
  merges-le = omega arith;
  numbers = rw (sub-zero sz.N);
  pages = rw (sub-zero sz.N);
  faultless = rw (sub-zero sz.N) q.faultless;
  mendless = λ z. rw (sub-zero sz.N) (sym q.mends-are ∙ z);
  spent = omega arith;
  left_so = rw (sub-zero sz.N);
}

-- ---- each turn

module _ {sz : Sizes} {d₀ : Directory} {u₀ : Buffers} {mends ops₀ : ℕ} {d : Directory} {flash codes marks wear pspace bspace : List ℕ}
    {rewrites merges ops : ℕ}
    (k : Underway sz d₀ u₀ mends ops₀ d (buffers flash codes marks wear pspace bspace) rewrites merges ops) where
  abbrev u : Buffers
  u = buffers flash codes marks wear pspace bspace

  -- nothing is cached any more
  pub flush-done : Flushable sz d₀ u₀ mends → clean ≡ due_of policy_choice sz d
      → FlushCarried sz d₀ u₀ ops₀ (flush_done rewrites merges) mends d u
  unfolding flush_outcome
  flush-done q e =
      let ends : tally d u rewrites merges ≡ steps policy_choice sz sz.N (tally d₀ u₀ 0 0) = sym (steps-stop sz d u rewrites merges e _)
      ∙ k.numbers in
      goes_on (state_in d₀ u₀) (fault_in sz u₀ (flush_merges sz d₀)) (flush_outcome policy_choice sz (state_in d₀ u₀)) q.faultless
      (accepted sz d₀ u₀ ops₀ q.none-worn)
      (rw (le-ltb (lowest_worn sz d₀ u₀.wear) sz.N q.none-worn, flush_outcome) (record {
        refused-is = refl;
        left_is = sym (left-stop sz d u ops e _) ∙ k.left_so;
        whole = λ l. record {
          answer-is = ap (λ (t : Tally). flush_done t.rewrites t.merges) ends;
          mends-are = q.mends-are;
          directory-is = ap (λ (t : Tally). t.state.directory) ends;
          wear-is = ap (λ (t : Tally). t.state.wear) ends;
          pages-are = sym (pages-stop sz d _ e _) ∙ k.pages;
        };
        down = λ r. clash r refl;
      }))

  module _ (b f : ℕ) (e : due b f ≡ due_of policy_choice sz d) where
    -- there is a step left
    pub left : rewrites < sz.N
    left = let h = cached-less sz d k.ready.sound b f (due-ready k.ready b f e) in let l = k.few in omega arith

    fuel : sz.N - rewrites ≡ suc (sz.N - suc rewrites)
    fuel = let l = left in omega arith

    abbrev after : Directory
    after = stepped sz d (due b f)

    -- what this step merges, and what later ones do
    reads_now : steps_merge policy_choice sz (sz.N - rewrites) d
        ≡ (λ n. merges_page sz d b f n || steps_merge policy_choice sz (sz.N - suc rewrites) after n)
    reads_now = rw fuel (λ i n. merges-next sz d k.ready.sound b f e (sz.N - suc rewrites) n i)

    faults : (fault_in sz u (merges_page sz d b f) ≡ 0) × (fault_in sz u (steps_merge policy_choice sz (sz.N - suc rewrites) after) ≡ 0)
    faults = none-either sz (fault_on sz flash codes marks) (merges_page sz d b f)
        (steps_merge policy_choice sz (sz.N - suc rewrites) after)
        (rw reads_now at k.faultless)

    mends-now : mends ≡ 0 → (mends_in sz u (merges_page sz d b f) ≡ 0)
        × (mends_in sz u (steps_merge policy_choice sz (sz.N - suc rewrites) after) ≡ 0)
    mends-now z =
        let s = k.ready.sound in
        let g : ℕ → ℕ = mends_on sz flash codes marks in
        let c : ℕ = sz.N - suc rewrites in
        let a : steps_mend policy_choice sz g (suc c) d ≡ 0 = sym (flush-mends policy_choice policy_choice-picks sz g (suc c) d s)
        ∙ (rw fuel at (k.mendless z)) in
        let h = mends-next sz d s b f e g c in
        let r = flush-mends policy_choice policy_choice-picks sz g c after (stepped-sound sz d s b f (due-ready k.ready b f e)) in
        (omega arith, r ∙ (omega arith))

    pub lookable : Lookable sz d b f
    lookable = due-lookable k.ready b f e

    pub mends-due : mends ≡ 0 → mends_met sz (mends_on sz flash codes marks) (merges_page sz d b f) ≡ 0
    mends-due z = (mends-now z).0

    pub cleanable : (mend : ℕ) → mend ≡ mend_set sz flash codes b (valid_at (joined sz d b f) f)
        → Cleanable sz d flash codes marks wear pspace bspace b f mend
    cleanable mend m = let y = due-ready k.ready b f e in let h = k.ready.fits in record {
      sound = k.ready.sound;
      block = y;
      unworn = k.below b y.b_lt (cached-now sz d k.ready.sound b f y);
      pspace-length = h.pspace-length;
      bspace-length = h.bspace-length;
      faultless = faults.0;
      mend-is = m;
    }

    module _ {d' : Directory} {r : Rewrote} {flash' codes' marks' wear' bspace' : List ℕ}
        (c : BlockCleaned sz d flash codes marks wear pspace bspace b f ops d' r flash' codes' marks' wear' bspace') where
      abbrev u' : Buffers
      u' = buffers flash' codes' marks' wear' pspace bspace'

      reads_le : r.reads ≤ sz.K
      reads_le = let h = c.reads_are in omega arith

      merges-sum : r.reads + merges ≤ suc rewrites * sz.K
      merges-sum = let h = reads_le in let l = k.merges-le in let s = suc-mul rewrites sz.K in omega arith

      -- the operations were not enough for the rewrite
      pub flush-cut : Flushable sz d₀ u₀ mends → ops ≤ sz.K → (rewrites' merges' : ℕ)
          → FlushCarried sz d₀ u₀ ops₀ (flush_done rewrites' merges') mends d' u'
      unfolding flush_outcome cut_steps memory_of flash_cells
      flush-cut q l rewrites' merges' =
          goes_on (state_in d₀ u₀) (fault_in sz u₀ (flush_merges sz d₀)) (flush_outcome policy_choice sz (state_in d₀ u₀)) q.faultless
          (accepted sz d₀ u₀ ops₀ q.none-worn)
          (rw (le-ltb (lowest_worn sz d₀ u₀.wear) sz.N q.none-worn, flush_outcome) (record {
            refused-is = refl;
            left_is = c.chip-is ∙ (rw (fuel, ← e, cut_steps, le-leb ops sz.K l) at k.left_so);
            whole = λ m. absurd (let s = k.spent in let t = left in
                let g : suc rewrites * suc sz.K ≤ sz.N * suc sz.K = mul-le-mul_right (suc sz.K) t in
                let i = suc-mul rewrites (suc sz.K) in omega arith);
            down = λ r. clash r refl;
          }))

      module _ (enough : sz.K < ops) where
        cells-kept : (i : ℕ) → i < sz.N * sz.K → steps_merge policy_choice sz (sz.N - suc rewrites) after i ≡ true
            → cell_at (chip_for sz) (zero_page sz) (flash_cells store_format sz u) i
            ≡ cell_at (chip_for sz) (zero_page sz) (flash_cells store_format sz u') i
        unfolding memory_of flash_cells
        cells-kept i l h =
            let s = k.ready.sound in
            let y = due-ready k.ready b f e in
            let a = flush-in policy_choice policy_choice-picks sz i l (sz.N - suc rewrites) after (stepped-sound sz d s b f y) h in
            let ne = (cached-back sz d s b f y (i / sz.K) (block-lt sz s.limits i l) a.block).1 in
            sym (ap (λ (m : Memory Cell Page). cell_at (chip_for sz) (zero_page sz) m.flash i) (c.pages-are enough)
            ∙ stepped-other (chip_for sz) (zero_page sz) sz d (memory_of store_format sz u) b f i l ne)

        faults-kept : fault_in sz u' (steps_merge policy_choice sz (sz.N - suc rewrites) after) ≡ 0
        unfolding flash_cells
        faults-kept = sym (met-cells sz (fault_on sz flash codes marks) (fault_on sz flash' codes' marks') _
            (λ i l h. ap (chip_for sz).fault (cells-kept i l h))) ∙ faults.1

        mends-kept : mends ≡ 0 → mends_in sz u' (steps_merge policy_choice sz (sz.N - suc rewrites) after) ≡ 0
        unfolding flash_cells
        mends-kept z = sym (mends-cells sz (mends_on sz flash codes marks) (mends_on sz flash' codes' marks') _
            (λ i l h. ap (chip_for sz).mends (cells-kept i l h))) ∙ (mends-now z).1

        pages-whole : memory_of store_format sz u' ≡ stepped_pages (chip_for sz) (zero_page sz) sz d (memory_of store_format sz u) (due b f)
        unfolding memory_of flash_cells
        pages-whole = c.pages-are enough

        left-next : left_by sz (sz.N - suc rewrites) r.left d' u' ≡ left_by sz sz.N ops₀ d₀ u₀
        unfolding cut_steps
        left-next = rw (c.left_is, c.directory-is, pages-whole, worn-whole enough c)
            (rw (fuel, ← e, cut_steps, lt-leb ops sz.K enough) at k.left_so)

        pub turns : Fits store_format sz u' → (r' m' : ℕ) → r' ≡ suc rewrites → m' ≡ r.reads + merges
            → Underway sz d₀ u₀ mends ops₀ d' u' r' m' r.left
        unfolding steps steps_pages
        turns fits r' m' er em =
            let y = due-ready k.ready b f e in
            rw er (record {
              ready = record { sound = rw c.directory-is (stepped-sound sz d k.ready.sound b f y); fits = fits };
              below = rw (c.directory-is, worn-whole enough c) (stepped-below sz d k.ready.sound b f y wear k.below);
              few = rw c.directory-is (let h = cached-less sz d k.ready.sound b f y in let l = k.few in omega arith);
              merges-le = rw em merges-sum;
              numbers = rw (c.directory-is, worn-whole enough c, em, c.reads_are) (rw (fuel, ← e, steps) at k.numbers);
              pages = rw (c.directory-is, pages-whole) (rw (fuel, ← e, steps_pages) at k.pages);
              faultless = rw c.directory-is faults-kept;
              mendless = λ z. rw c.directory-is (mends-kept z);
              spent = (let h = k.spent in let l = c.left_is in let s = suc-mul rewrites (suc sz.K) in omega arith);
              left_so = left-next;
            })

-- where a flush has no mends no page wants mending
pub nothing_to_mend : {sz : Sizes} {d : Directory} (flash codes marks : List ℕ) {b f : ℕ} → Lookable sz d b f
    → mends_met sz (mends_on sz flash codes marks) (merges_page sz d b f) ≡ 0 → 0 ≡ mend_set sz flash codes b (valid_at (joined sz d b f) f)
unfolding merges_page block_reads
nothing_to_mend {sz} {d} flash codes marks {b} {f} q h =
    sym (none-to_mend sz flash codes marks b (valid_at (joined sz d b f) f) q.sound.limits q.block.b_lt h)
