-- A call of the model by its tests, and from what an inner call leaves to what the model's call gives.
use mathlib.Core.Path.{◌≡◌, refl, sym, ap, subst, ◌∙◌}
use mathlib.Core.Logic.{◌≢◌}
use mathlib.Core.Bool.{Bool, true, false, cond, ◌&&◌, ◌||◌}
use mathlib.Core.List.{List, []}
use Prim.Native.Nat.{ℕ, ◌+◌, ◌*◌, ◌≤◌, ◌<◌}
use native.Mathlib.Omega.{arith}
use lib.Dec.{leb, eqb}
use lib.ListN.{length}
use borrow.Author.Tests.{leb-true, eqb-true, eq-eqb, ne_eqb, lt-ltb, le-ltb}
use Rattle.std.specs.Prelude.{None, Some}
use Rattle.prelude.proofs.Tests.{by-test, clash, or_false}
use Rattle.model.specs.Sizes.{Sizes, vacant}
use Rattle.model.specs.Directory.{Directory}
use Rattle.model.specs.Soundness.{sound}
use Rattle.model.specs.Policy.{read_way, policy_choice, Plan, plan, due_of}
use Rattle.model.specs.Moves.{Memory, read_directory}
use Rattle.model.specs.Formats.{store_format, chip_for}
use Rattle.model.specs.Cut.{cut_call, operations}
use Rattle.model.specs.Calls.{Answer, read_done, write_done, refused, is_refused, Call, read, write, part, step, flush, State, Outcome}
use Rattle.model.specs.Calls.{turned_down, checked, read_outcome, write_outcome, part_outcome, step_outcome, flush_outcome, decide}
use Rattle.model.specs.Calls.{no_bytes}
use Rattle.model.specs.Calls.{reads_flash, reads_page, write_merges, step_merges, heeding, call_pages}
use Rattle.model.specs.Calls.{Page, Cell}
use Rattle.model.specs.Calls.{Buffers, lent_ok, Fits, Store, zero_page, flash_cells, memory_of, buffers_of, state_of, told, lent_buffer}
use Rattle.model.specs.Calls.{Result, filled_buffer, unaltered, fault_of, mends_of, reads_all, carried_out, call_reading, call}
use Rattle.model.proofs.Demand3.{KeepsRefused, decide-keeps, heeding-keeps}
use Rattle.model.proofs.Buffers.{buffers_of-memory, fits-of}
use Rattle.model.proofs.Soundness.{sound-facts}
use Rattle.model.proofs.RulesCalls.{heeds-rule}
use Rattle.cache.specs.declared.Sizes as sizes
use Rattle.cache.specs.View.{sizes_of}
use Rattle.answer.specs.declared.fault.Fault.{Fault}
use Rattle.answer.specs.declared.fault.Fault.TheVariants as faults
use Rattle.answer.specs.declared.Refusal.{Refusal}
use Rattle.answer.specs.Ways as ways
use Rattle.answer.specs.Numbers.{refusal_of, refusal_for, fault_number}
use Rattle.answer.specs.Carried.{Ready, left_of, Carried, CarriedTo}
use Rattle.answer.proofs.Refusals.{why_refused, fault_refused}
use Rattle.checked.specs.Called.{store_with, result_with, CalledTo}
use Rattle.checked.specs.Checks.{TurnedDown, Passed, OnPage}
use Rattle.chip.specs.declared.lent.Chip.{Chip}
use Rattle.chip.specs.Chip.{Lent, fault_in, mends_in}
use Rattle.chip.specs.Loan as loan
use Rattle.chip.proofs.Cells.{lent_of}
use Rattle.chip.proofs.Looking.{fault-none, mends-none}
use Rattle.reads.specs.declared.Answered.{Answered}
use Rattle.reads.specs.Reads.{Readable, ReadOut}
use Rattle.writes.specs.Writes.{Writable, write_reads, WroteWith, Wrote}
use Rattle.flushes.specs.Flushes.{StepCarried, flush_merges, FlushCarried}
use Rattle.parts.specs.Parts.{PartReady, PartWrote, combined_of}

and-f : (t : Bool) → (t && false) ≡ false
and-f true = refl
and-f false = refl

or_swap : (x y : Bool) → (x || y) ≡ (y || x)
or_swap true true = refl
or_swap true false = refl
or_swap false true = refl
or_swap false false = refl

or_again : (x y : Bool) → ((x || y) || x) ≡ (y || x)
or_again true true = refl
or_again true false = refl
or_again false true = refl
or_again false false = refl

same-either : (x : Page) (t : Bool) → x ≡ cond t x x
same-either x true = refl
same-either x false = refl

fault-some : (f : Fault) → fault_number (Some f) ≢ 0
fault-some faults.Unreadable = λ e. absurd (omega arith)
fault-some faults.Torn = λ e. absurd (omega arith)

-- what a call on s gives
abbrev given : Store → Answer → ℕ → Directory → Buffers → Page → Result
given s a mends d u page = record {
  answer = a;
  mends = mends;
  store = record { cache = record { sizes = s.cache.sizes; directory = d }; lent = u };
  page = page;
}

-- a call that may read flash pages besides its own
module _ (s : Store) (c : Call Page) (besides : ℕ → Bool) where
  abbrev sz : Sizes
  sz = s.cache.sizes

  -- the pages before, and once an accepted call is carried out
  abbrev before : Memory Cell Page
  before = memory_of store_format sz s.lent

  abbrev after : Memory Cell Page
  after = call_pages (chip_for sz) (zero_page sz) policy_choice sz (state_of s) before c

  -- the flash pages that the call reads, and the refusal that it meets there
  abbrev reading : ℕ → Bool
  reading = reads_all store_format policy_choice sz (state_of s) c besides

  abbrev late : ℕ
  late = fault_of store_format policy_choice sz before.flash reading

  abbrev decided : Outcome
  decided = decide policy_choice sz (state_of s) (told c)

  abbrev buffer_after : Outcome → Page
  buffer_after o = cond (is_refused o.answer) (lent_buffer c) (filled_buffer (chip_for sz) sz s.cache.directory before c)

  pub reading-record : sound sz s.cache.directory ≡ false
      → call_reading store_format policy_choice besides s c ≡ unaltered (refused 4 vacant) s c
  unfolding call_reading
  reading-record a = rw (a, call_reading)

  pub reading-buffer : sound sz s.cache.directory ≡ true → lent_ok store_format sz s.lent ≡ false
      → call_reading store_format policy_choice besides s c ≡ unaltered (refused 2 vacant) s c
  unfolding call_reading
  reading-buffer a b = rw (a, call_reading) (rw b)

  carried-refused : (o : Outcome) → is_refused (carried_out store_format policy_choice s c besides o).answer ≡ is_refused o.answer
  unfolding carried_out
  carried-refused o = by-test (is_refused o.answer) (λ e. rw (e, carried_out) e) (λ e. rw (e, carried_out) e)

  module _ (a : sound sz s.cache.directory ≡ true) (b : lent_ok store_format sz s.lent ≡ true) where
    reading-carried : call_reading store_format policy_choice besides s c
        ≡ carried_out store_format policy_choice s c besides (heeding (state_of s) late decided)
    unfolding call_reading
    reading-carried = rw (a, call_reading) (rw b)

    -- a refused outcome hands everything back, whatever is met in flash
    pub reading-down : (n x : ℕ) → decided ≡ turned_down (state_of s) n x
        → call_reading store_format policy_choice besides s c ≡ unaltered (refused n x) s c
    unfolding carried_out
    reading-down n x e = reading-carried ∙ ap (carried_out store_format policy_choice s c besides) ((heeds-rule (state_of s) late decided).0
        (ap (λ (o : Outcome). is_refused o.answer) e) ∙ e)

    module _ (u' : Buffers) (f' : Fits store_format sz u') (answer : Answer) (mended : ℕ) (d' : Directory) (page' : Page) where
      -- buffers are their pages and wear
      joined-again : (w : List ℕ) (m : Memory Cell Page) → u'.wear ≡ w → memory_of store_format sz u' ≡ m → u' ≡ buffers_of m w
      joined-again w m e q = sym (buffers_of-memory store_format sz u' f') ∙ (λ i. buffers_of (q i) (e i))

      carried-call : (o : Outcome) → KeepsRefused (state_of s) o
          → Carried o (mends_of store_format policy_choice sz before.flash reading) before after answer mended d' u'.wear
          (memory_of store_format sz u') → page' ≡ buffer_after o
          → given s answer mended d' u' page' ≡ carried_out store_format policy_choice s c besides o
      unfolding carried_out
      carried-call o keeps h p =
          let g = h.answer-is in
          by-test (is_refused o.answer)
          (λ e. let k = keeps e in
          let u : u' ≡ s.lent = joined-again s.lent.wear before (h.wear-is ∙ ap (λ (x : State). x.wear) k) (h.pages-are ∙ rw e)
          ∙ buffers_of-memory store_format sz s.lent (fits-of store_format sz s.lent b) in
          let d : d' ≡ s.cache.directory = h.directory-is ∙ ap (λ (x : State). x.directory) k in
          let q : page' ≡ lent_buffer c = p ∙ rw e in
          let z : mended ≡ 0 = h.mends-are ∙ rw e in
          rw (e, carried_out) (λ i. given s (g i) (z i) (d i) (u i) (q i)))
          (λ e. let u = joined-again o.state.wear after h.wear-is (h.pages-are ∙ rw e) in
          let q : page' ≡ filled_buffer (chip_for sz) sz s.cache.directory before c = p ∙ rw e in
          let d = h.directory-is in
          let z : mended ≡ mends_of store_format policy_choice sz before.flash reading = h.mends-are ∙ rw e in
          rw (e, carried_out) (λ i. given s (g i) (z i) (d i) (u i) (q i)))

      module _ (reads : ℕ → Bool) (same : (i : ℕ) → reading i ≡ reads i) (o : Outcome) (is : decided ≡ o) where
        -- the outcome once what it reads is heeded
        abbrev heeded : Outcome
        heeded = heeding (state_of s) (fault_in sz s.lent reads) o

        says : heeding (state_of s) late decided ≡ heeded
        unfolding fault_of memory_of flash_cells
        says = λ j. heeding (state_of s) (fault_in sz s.lent (λ i. same i j)) (is j)

        mends-are : mends_of store_format policy_choice sz before.flash reading ≡ mends_in sz s.lent reads
        unfolding mends_of memory_of flash_cells
        mends-are = λ j. mends_in sz s.lent (λ i. same i j)

        -- an inner call did what the outcome says
        pub reading-done : Carried heeded (mends_in sz s.lent reads) before after answer mended d' u'.wear (memory_of store_format sz u')
            → page' ≡ buffer_after heeded → given s answer mended d' u' page' ≡ call_reading store_format policy_choice besides s c
        reading-done h p = carried-call (heeding (state_of s) late decided)
            (heeding-keeps sz (state_of s) late decided (decide-keeps sz (state_of s) policy_choice (told c)))
            (rw (says, mends-are) h) (rw says p) ∙ sym reading-carried

        -- the model's call is refused where that outcome is
        answered : is_refused (call_reading store_format policy_choice besides s c).answer ≡ is_refused heeded.answer
        answered = ap (λ (x : Result). is_refused x.answer) reading-carried ∙ carried-refused (heeding (state_of s) late decided)
            ∙ ap (λ (x : Outcome). is_refused x.answer) says

        -- the same of an inner call that may do so many operations
        pub reading-to : (ops : ℕ)
            → CarriedTo (operations sz c ≤ ops) heeded (mends_in sz s.lent reads) (left_of sz s.lent)
            (cut_call (chip_for sz) (zero_page sz) policy_choice sz ops (state_of s) before c) before after answer mended d' (left_of sz u')
            (memory_of store_format sz u') → (answer ≡ heeded.answer → page' ≡ buffer_after heeded)
            → CalledTo policy_choice ops besides s c (given s answer mended d' u' page')
        reading-to ops h p = record {
          whole = λ w. let k = h.whole (w (sound-facts sz s.cache.directory a).limits) in reading-done k (p k.answer-is);
          down = λ r. let k = h.down (sym answered ∙ r) in reading-done k (p k.answer-is);
          left = λ r. h.left_is ∙ rw (sym answered ∙ r);
        }

-- ---- the checks

-- a call that a check refuses, however many operations it may do
pub turned-to : (ops : ℕ) (besides : ℕ → Bool) (s : Store) (c : Call Page) (why : Refusal) → TurnedDown s c why
    → CalledTo policy_choice ops besides s c (unaltered (refusal_of why) s c)
turned-to ops besides s c why h = record {
  whole = λ w. sym (h besides);
  down = λ q. sym (h besides);
  left = λ q. clash (ap (λ (x : Result). is_refused x.answer) (h besides) ∙ why_refused why) q;
}

module _ (sz : Sizes) (k : State) (n long : ℕ) (o : Outcome) where
  checked-buffer : (long ≡ sz.S → ⊥) → checked sz k n long o ≡ turned_down k 2 vacant
  unfolding checked
  checked-buffer e = rw (ne_eqb long sz.S e, checked)

  checked-page : long ≡ sz.S → sz.N * sz.K ≤ n → checked sz k n long o ≡ turned_down k 5 vacant
  unfolding checked
  checked-page e l = rw (eq-eqb long sz.S e, checked) (rw (le-ltb n (sz.N * sz.K) l))

  checked-passed : long ≡ sz.S → n < sz.N * sz.K → checked sz k n long o ≡ o
  unfolding checked
  checked-passed e l = rw (eq-eqb long sz.S e, checked) (rw (lt-ltb n (sz.N * sz.K) l))

-- the outcome of a call on a page, once the checks are passed
abbrev written_by : Store → ℕ → Outcome
written_by s n = write_outcome s.cache.sizes (state_of s) n (plan policy_choice s.cache.sizes s.cache.directory s.lent.wear n)

abbrev says_of : Store → Call Page → Outcome
says_of s (read n x) = read_outcome s.cache.sizes (state_of s) n
says_of s (write n x) = written_by s n
says_of s (part n first x page) = part_outcome s.cache.sizes (state_of s) first (length x) (written_by s n)
says_of s step = turned_down (state_of s) 0 0
says_of s flush = turned_down (state_of s) 0 0

on-page : (s : Store) (n long : ℕ) (c : Call Page) → OnPage n long c
    → decide policy_choice s.cache.sizes (state_of s) (told c) ≡ checked s.cache.sizes (state_of s) n long (says_of s c)
unfolding decide
on-page s n long (read m x) h = λ i. checked s.cache.sizes (state_of s) (h.0 i) (h.1 i) (says_of s (read m x))
on-page s n long (write m x) h = λ i. checked s.cache.sizes (state_of s) (h.0 i) (h.1 i) (says_of s (write m x))
on-page s n long (part m first x page) h = λ i. checked s.cache.sizes (state_of s) (h.0 i) (h.1 i) (says_of s (part m first x page))
on-page s n long step h = absurd h
on-page s n long flush h = absurd h

module _ (s : Store) (n long : ℕ) (c : Call Page) (on : OnPage n long c) where
  module _ (a : sound s.cache.sizes s.cache.directory ≡ true) (b : lent_ok store_format s.cache.sizes s.lent ≡ true)
      (besides : ℕ → Bool) where
    pub page-buffer : (long ≡ s.cache.sizes.S → ⊥)
        → call_reading store_format policy_choice besides s c ≡ unaltered (refused 2 vacant) s c
    page-buffer e = reading-down s c besides a b 2 vacant
        (on-page s n long c on ∙ checked-buffer s.cache.sizes (state_of s) n long (says_of s c) e)

    pub page-past : long ≡ s.cache.sizes.S → s.cache.sizes.N * s.cache.sizes.K ≤ n
        → call_reading store_format policy_choice besides s c ≡ unaltered (refused 5 vacant) s c
    page-past e l = reading-down s c besides a b 5 vacant
        (on-page s n long c on ∙ checked-page s.cache.sizes (state_of s) n long (says_of s c) e l)

  decided-is : Passed s n long → decide policy_choice s.cache.sizes (state_of s) (told c) ≡ says_of s c
  decided-is p = on-page s n long c on ∙ checked-passed s.cache.sizes (state_of s) n long (says_of s c) p.2 p.3

-- the checks look at the buffers as they are lent to be read
module _ (z : sizes.Sizes) (d : Directory) {v u : Buffers} (same : v ≡ u) where
  pub down-at : (c : Call Page) (why : Refusal) → TurnedDown (store_with z d v) c why → TurnedDown (store_with z d u) c why
  down-at c why h = subst (λ (w : Buffers). TurnedDown (store_with z d w) c why) same h

  pub checked-at : (sound (sizes_of z) d ≡ true) × (lent_ok store_format (sizes_of z) v ≡ true)
      → (sound (sizes_of z) d ≡ true) × (lent_ok store_format (sizes_of z) u ≡ true)
  checked-at h = rw (← same) h

  pub passed-at : (n long : ℕ) → Passed (store_with z d v) n long → Passed (store_with z d u) n long
  passed-at n long h = rw (← same) h

-- ---- the chip that a call makes of what it is lent, and what is left there

-- for a sound record, of buffers that fit
pub chip-fits : (s : Store) → sound s.cache.sizes s.cache.directory ≡ true → lent_ok store_format s.cache.sizes s.lent ≡ true
    → Lent s.cache.sizes s.lent.flash s.lent.codes s.lent.marks × (length s.lent.wear ≡ s.cache.sizes.N)
chip-fits s a b = let f = fits-of store_format s.cache.sizes s.lent b in
    (lent_of s.cache.sizes s.lent (sound-facts s.cache.sizes s.cache.directory a).limits f, f.wear-length)

-- the buffers still fit
pub fits-after : (z : sizes.Sizes) (chip : Chip) (pspace bspace : List ℕ) → chip.sizes ≡ z → length pspace ≡ z.slots * z.page_size
    → length bspace ≡ z.frames * z.pages_per_block * z.page_size
    → Fits store_format (sizes_of z) (loan.buffers_of chip pspace bspace)
fits-after z chip pspace bspace e p b = let l = chip.lent in record {
  flash-length = rw (← e) l.codes-lent.flash-length;
  codes-length = rw (← e) l.codes-lent.codes-length;
  marks-length = rw (← e) l.marks-length;
  wear-length = rw (← e) chip.wear_length;
  pspace-length = p;
  bspace-length = b;
}

-- what a call is told to leave, by other names
pub called-as : {ops : ℕ} {besides : ℕ → Bool} {s : Store} {c : Call Page} {a : Answer} {mends : ℕ} {z : sizes.Sizes} {d : Directory}
    {page : Page} {u u' : Buffers} → u ≡ u' → CalledTo policy_choice ops besides s c (result_with a mends z d u' page)
    → CalledTo policy_choice ops besides s c (result_with a mends z d u page)
called-as e h = rw e h

pub ready : (s : Store) → sound s.cache.sizes s.cache.directory ≡ true → lent_ok store_format s.cache.sizes s.lent ≡ true
    → Ready s.cache.sizes s.cache.directory s.lent
ready s a b = record {
  sound = sound-facts s.cache.sizes s.cache.directory a;
  fits = fits-of store_format s.cache.sizes s.lent b;
}

-- ---- a read and a write

module _ (s : Store) (n : ℕ) (x : Page) (p : Passed s n (length x)) where
  pub readable : Readable s.cache.sizes s.lent.pspace s.lent.bspace n x
  readable = let f = fits-of store_format s.cache.sizes s.lent p.1 in
      record { pspace-length = f.pspace-length; bspace-length = f.bspace-length; page-lt = p.3; page-length = p.2 }

  pub writable : Writable s.cache.sizes s.cache.directory s.lent n x (record { fault = None; mends = 0 })
  writable = record { ready = ready s p.0 p.1; page-lt = p.3; page-length = p.2; few = omega arith }

  module _ (r : Answered) (d' : Directory) (page' : Page) (h : ReadOut s.cache.sizes s.cache.directory s.lent.flash
      s.lent.codes s.lent.marks s.lent.pspace s.lent.bspace n x r d' page') where
    abbrev reads : ℕ → Bool
    reads = reads_page s.cache.sizes s.cache.directory n

    read-reads : (i : ℕ) → reading s (read n x) (λ i. false) i ≡ reads i
    unfolding reads_all reads_flash
    read-reads i = or_false (reads i)

    accepted : is_refused (says_of s (read n x)).answer ≡ false
    unfolding read_outcome
    accepted = refl

    -- what the read did is what the model's call gives
    read_as : (a : Answer) (mends : ℕ) → Carried (heeding (state_of s) (fault_in s.cache.sizes s.lent reads) (says_of s (read n x)))
        (mends_in s.cache.sizes s.lent reads) (before s (read n x) (λ i. false)) (after s (read n x) (λ i. false)) a mends d' s.lent.wear
        (before s (read n x) (λ i. false))
        → page' ≡ buffer_after s (read n x) (λ i. false)
        (heeding (state_of s) (fault_in s.cache.sizes s.lent reads) (says_of s (read n x)))
        → given s a mends d' s.lent page' ≡ call store_format policy_choice s (read n x)
    unfolding call
    read_as a mends k q = reading-done s (read n x) (λ i. false) p.0 p.1 s.lent (fits-of store_format s.cache.sizes s.lent p.1) a mends d'
        page' reads read-reads (says_of s (read n x)) (decided-is s n (length x) (read n x) (refl, refl) p) k q

    -- flash has it, and it can be read; or it is not in flash
    pub read_done_lem : r.fault ≡ None
        → given s (read_done (ways.read_way r.way)) r.mends d' s.lent page' ≡ call store_format policy_choice s (read n x)
    unfolding read_outcome call_pages memory_of flash_cells
    read_done_lem z =
        let free : fault_number r.fault ≡ 0 = ap fault_number z in
        let stands = (heeds-rule (state_of s) (fault_in s.cache.sizes s.lent reads) (says_of s (read n x))).2 accepted
        (sym h.gave.fault-is ∙ free) in
        read_as (read_done (ways.read_way r.way)) r.mends (rw stands (record {
          answer-is = ap read_done h.gave.way-is;
          mends-are = h.gave.mends-are;
          directory-is = h.directory-is;
          wear-is = refl;
          pages-are = refl;
        })) (rw stands (h.gave.page-is ∙ rw free))

    -- the page meets a fault
    module _ (fault : Fault) (is : r.fault ≡ Some fault) where
      met : fault_number (Some fault) ≡ fault_in s.cache.sizes s.lent reads
      met = sym (ap fault_number is) ∙ h.gave.fault-is

      some : fault_in s.cache.sizes s.lent reads ≢ 0
      some z = fault-some fault (met ∙ z)

      -- a page that is not in flash meets nothing there
      from-flash : read_way s.cache.sizes s.cache.directory n ≡ 3
      unfolding reads_page
      from-flash = by-test (eqb (read_way s.cache.sizes s.cache.directory n) 3) (λ t. eqb-true _ 3 t)
          (λ t. absurd (some (fault-none s.cache.sizes s.lent.flash s.lent.codes s.lent.marks reads (λ i. rw t (and-f (eqb i n))))))

      directory-stays : d' ≡ s.cache.directory
      unfolding read_directory
      directory-stays = h.directory-is ∙ rw (from-flash, read_directory)

      pub read-late : given s (refusal_of (refusal_for fault)) 0 d' s.lent page' ≡ call store_format policy_choice s (read n x)
      read-late =
          let down = (heeds-rule (state_of s) (fault_in s.cache.sizes s.lent reads) (says_of s (read n x))).1 accepted some in
          let same : page' ≡ x = h.gave.page-is ∙ rw (ap fault_number is, ne_eqb (fault_number (Some fault)) 0 (fault-some fault)) in
          read_as (refusal_of (refusal_for fault)) 0 (record {
            answer-is = fault_refused fault ∙ ap (λ (m : ℕ). refused m vacant) met ∙ sym down.0;
            mends-are = rw down.0;
            directory-is = directory-stays ∙ ap (λ (k : State). k.directory) (sym down.1);
            wear-is = ap (λ (k : State). k.wear) (sym down.1);
            pages-are = rw down.0;
          }) (rw down.0 same)

  module _ (u' : Buffers) (f' : Fits store_format s.cache.sizes u') (answer : Answer) (mended : ℕ) (d' : Directory) (ops : ℕ) where
    abbrev planned : Plan
    planned = plan policy_choice s.cache.sizes s.cache.directory s.lent.wear n

    -- the write, with those pages read besides
    pub write-reading : (besides seen : ℕ → Bool) → ((i : ℕ) → besides i ≡ seen i)
        → WroteWith s.cache.sizes s.cache.directory s.lent n x planned seen ops answer mended d' u'
        → CalledTo policy_choice ops besides s (write n x) (given s answer mended d' u' x)
    unfolding call_pages cut_call reads_all reads_flash
    write-reading besides seen same h =
        reading-to s (write n x) besides p.0 p.1 u' f' answer mended d' x (write_reads s.cache.sizes s.cache.directory planned seen)
        (λ i. ap (λ (t : Bool). write_merges s.cache.sizes s.cache.directory planned i || t) (same i)) (says_of s (write n x))
        (decided-is s n (length x) (write n x) (refl, refl) p) ops h
        (λ g. same-either x (is_refused (heeding (state_of s)
        (fault_in s.cache.sizes s.lent (write_reads s.cache.sizes s.cache.directory planned seen)) (says_of s (write n x))).answer))

    pub write_done_lem : Wrote s.cache.sizes s.cache.directory s.lent n x planned (record { fault = None; mends = 0 }) ops answer mended
        d' u' → CalledTo policy_choice ops (λ i. false) s (write n x) (given s answer mended d' u' x)
    write_done_lem h = write-reading (λ i. false) (λ i. false) (λ i. refl) (h (λ i. false) (record {
      within = λ i t. clash t refl;
      fault-is = sym (fault-none s.cache.sizes s.lent.flash s.lent.codes s.lent.marks (λ i. false) (λ i. refl));
      mends-are = sym (mends-none s.cache.sizes s.lent.flash s.lent.codes s.lent.marks (λ i. false) (λ i. refl));
    }))

-- ---- a part write

module _ (sz : Sizes) (k : State) (first many : ℕ) (w : Outcome) where
  part-past : leb (first + many) sz.S ≡ false → part_outcome sz k first many w ≡ turned_down k 2 vacant
  unfolding part_outcome
  part-past e = rw (e, part_outcome)

  part-nothing : leb (first + many) sz.S ≡ true → eqb many 0 ≡ true
      → part_outcome sz k first many w ≡ record { answer = write_done 0 vacant 0; state = k }
  unfolding part_outcome
  part-nothing e q = rw (e, part_outcome) (rw q)

  part-some : leb (first + many) sz.S ≡ true → eqb many 0 ≡ false → part_outcome sz k first many w ≡ w
  unfolding part_outcome
  part-some e q = rw (e, part_outcome) (rw q)

module _ (s : Store) (n first : ℕ) (x page : Page) (p : Passed s n (length page)) where
  abbrev as_write : Outcome
  as_write = written_by s n

  part-decided : decide policy_choice s.cache.sizes (state_of s) (told (part n first x page)) ≡ says_of s (part n first x page)
  part-decided = decided-is s n (length page) (part n first x page) (refl, refl) p

  pub reading-reach : leb (first + length x) s.cache.sizes.S ≡ false → (besides : ℕ → Bool)
      → call_reading store_format policy_choice besides s (part n first x page) ≡ unaltered (refused 2 vacant) s (part n first x page)
  reading-reach h besides = reading-down s (part n first x page) besides p.0 p.1 2 vacant
      (part-decided ∙ part-past s.cache.sizes (state_of s) first (length x) as_write h)

  module _ (r : leb (first + length x) s.cache.sizes.S ≡ true) where
    -- with no bytes nothing is read: way 0
    nothing-done : no_bytes x ≡ true
        → given s (write_done 0 vacant 0) 0 s.cache.directory s.lent page ≡ call store_format policy_choice s (part n first x page)
    unfolding call call_pages reads_all reads_flash
    nothing-done q =
        let sz : Sizes = s.cache.sizes in
        let o : Outcome = record { answer = write_done 0 vacant 0; state = state_of s } in
        let stands = (heeds-rule (state_of s) (fault_in sz s.lent (λ i. false)) o).2 refl
        (fault-none sz s.lent.flash s.lent.codes s.lent.marks (λ i. false) (λ i. refl)) in
        reading-done s (part n first x page) (λ i. false) p.0 p.1 s.lent (fits-of store_format sz s.lent p.1) (write_done 0 vacant 0) 0
        s.cache.directory page (λ i. false) (λ i. rw q) o
        (part-decided ∙ part-nothing sz (state_of s) first (length x) as_write r q)
        (rw stands (record {
          answer-is = refl;
          mends-are = sym (mends-none sz s.lent.flash s.lent.codes s.lent.marks (λ i. false) (λ i. refl));
          directory-is = refl;
          wear-is = refl;
          pages-are = rw (q, call_pages);
        })) (rw stands (rw q))

    -- however many operations there are
    pub nothing-to : (ops : ℕ) → no_bytes x ≡ true → CalledTo policy_choice ops (λ i. false) s (part n first x page)
        (given s (write_done 0 vacant 0) 0 s.cache.directory s.lent page)
    unfolding call cut_call memory_of
    nothing-to ops q = record { whole = λ w. nothing-done q; down = λ g. nothing-done q; left = λ g. rw (q, cut_call) }

    pub part-ready : PartReady s.cache.sizes s.cache.directory s.lent n first x page
    part-ready = record { ready = ready s p.0 p.1; page-lt = p.3; page-length = p.2; reach = leb-true _ _ r }

    module _ (q : no_bytes x ≡ false) (u' : Buffers) (f' : Fits store_format s.cache.sizes u') (answer : Answer) (mended : ℕ)
        (d' : Directory) (page' : Page) (ops : ℕ)
        (h : PartWrote s.cache.sizes s.cache.directory s.lent n first x page ops answer mended d' u' page') where
      -- the part write, with pages read besides that it reads anyhow: page n, and what the write merges
      part-carried : (besides : ℕ → Bool) → ((i : ℕ) → reading s (part n first x page) besides i
          ≡ write_reads s.cache.sizes s.cache.directory (plan policy_choice s.cache.sizes s.cache.directory s.lent.wear n)
          (reads_page s.cache.sizes s.cache.directory n) i)
          → CalledTo policy_choice ops besides s (part n first x page) (given s answer mended d' u' page')
      unfolding call_pages cut_call
      part-carried besides same =
          reading-to s (part n first x page) besides p.0 p.1 u' f' answer mended d' page'
          (write_reads s.cache.sizes s.cache.directory (plan policy_choice s.cache.sizes s.cache.directory s.lent.wear n)
          (reads_page s.cache.sizes s.cache.directory n)) same as_write
          (part-decided ∙ part-some s.cache.sizes (state_of s) first (length x) as_write r q) ops (rw (q, call_pages, cut_call) h.wrote)
          (λ g. rw q (h.page-is
          ∙ ap (λ (t : Answer). cond (is_refused t) page (combined_of s.cache.sizes s.cache.directory s.lent n first x)) g))

      pub part-done : CalledTo policy_choice ops (λ i. false) s (part n first x page) (given s answer mended d' u' page')
      unfolding reads_all reads_flash
      part-done = part-carried (λ i. false) (λ i. rw q (or_false _ ∙ or_swap (reads_page s.cache.sizes s.cache.directory n i) _))

      pub part-reading : (besides : ℕ → Bool) → ((i : ℕ) → besides i ≡ reads_page s.cache.sizes s.cache.directory n i)
          → CalledTo policy_choice ops besides s (part n first x page) (given s answer mended d' u' page')
      unfolding reads_all reads_flash
      part-reading besides same = part-carried besides
          (λ i. rw (q, same i) (or_again (reads_page s.cache.sizes s.cache.directory n i) _))

-- ---- the calls without a page buffer

module _ (s : Store) (a : sound s.cache.sizes s.cache.directory ≡ true) (b : lent_ok store_format s.cache.sizes s.lent ≡ true)
    (u' : Buffers) (f' : Fits store_format s.cache.sizes u') (answer : Answer) (mended : ℕ) (d' : Directory) (ops : ℕ) where
  pub step-done : StepCarried s.cache.sizes s.cache.directory s.lent ops answer mended d' u'
      → CalledTo policy_choice ops (λ i. false) s step (given s answer mended d' u' [])
  unfolding decide call_pages cut_call reads_all reads_flash
  step-done h = let sz : Sizes = s.cache.sizes in let q = due_of policy_choice sz s.cache.directory in
      reading-to s step (λ i. false) a b u' f' answer mended d' [] (step_merges sz s.cache.directory q) (λ i. or_false _)
      (step_outcome sz (state_of s) q) refl ops h (λ g. same-either [] (is_refused (heeding (state_of s)
      (fault_in sz s.lent (step_merges sz s.cache.directory q)) (step_outcome sz (state_of s) q)).answer))

  pub flush-done : FlushCarried s.cache.sizes s.cache.directory s.lent ops answer mended d' u'
      → CalledTo policy_choice ops (λ i. false) s flush (given s answer mended d' u' [])
  unfolding decide call_pages cut_call reads_all reads_flash
  flush-done h = let sz : Sizes = s.cache.sizes in
      reading-to s flush (λ i. false) a b u' f' answer mended d' [] (flush_merges sz s.cache.directory) (λ i. or_false _)
      (flush_outcome policy_choice sz (state_of s)) refl ops h (λ g. same-either [] (is_refused (heeding (state_of s)
      (fault_in sz s.lent (flush_merges sz s.cache.directory)) (flush_outcome policy_choice sz (state_of s))).answer))
