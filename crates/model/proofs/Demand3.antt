-- Demand 3: one theorem about a whole list of calls after an accepted opening.
use mathlib.Core.Path.{subst, ◌≡◌, refl, sym, ap, ◌∙◌}
use mathlib.Core.Logic.{◌⊎◌, inl, inr}
use mathlib.Core.Bool.{Bool, true, false, cond, ◌&&◌}
use mathlib.Core.List.{List, [], ◌∷◌, map}
use Prim.Native.Nat.{ℕ, zero, suc, ◌+◌, ◌-◌, ◌*◌, ◌/◌, ◌≤◌, ◌<◌}
use native.Mathlib.Nat.{not-suc-le-zero}
use native.Mathlib.Omega.{arith}
use lib.Dec.{leb, ltb, eqb}
use lib.Arith.{digits_lt}
use lib.ListN.{length, get_or, set, replicate, get_or-replicate, length-map, get_or-map}
use lib.Seq.{get_or-set_same, get_or-set_other, ext_get_or}
use borrow.Author.Tests.{leb-true, ltb-true, eqb-true, eqb-false, lt-ltb, le-ltb}
use Rattle.prelude.specs.Pages.{laid}
use Rattle.prelude.proofs.Tests.{by-test, clash}
use Rattle.prelude.proofs.Scan.{count-le}
use Rattle.prelude.proofs.Tab.{get_d_tab, tab-ext}
use Rattle.prelude.proofs.Pages.{length-laid}
use Rattle.model.specs.Sizes.{Sizes, vacant}
use Rattle.model.specs.Directory.{Directory}
use Rattle.model.specs.Soundness.{sound}
use Rattle.model.specs.Policy.{least_recent, policy_choice, Choice, Plan, plan, way_of, erased_by, merge_reads, Due, clean, due, due_of}
use Rattle.model.specs.Policy.{is_worn}
use Rattle.model.specs.Policy.{lowest_worn}
use Rattle.model.specs.Moves.{Chip, Memory, cell_at, flash_page, worn_by, joined, written, merged_by, stepped, read_page, stepped_pages}
use Rattle.model.specs.Calls.{Answer, open_done, read_done, write_done, step_done, step_clean, flush_done, refused, is_refused, Call, read}
use Rattle.model.specs.Calls.{write, part, step, flush, State, Outcome, turned_down, checked, read_outcome, write_outcome, part_outcome}
use Rattle.model.specs.Calls.{step_outcome, Tally, steps, flush_outcome, decide, heeding, some_page, fault_met, steps_pages}
use Rattle.model.specs.Calls.{combined, no_bytes, call_pages, Page, Cell, Format, CellFits, Buffers, Fits, open_store, Store}
use Rattle.model.specs.Calls.{Result, zero_page, flash_cells, memory_of, buffers_of, told, lent_buffer, filled_buffer, fault_of, mends_of}
use Rattle.model.specs.Calls.{reads_all, carried_out, call_reading, page_seen}
use Rattle.model.specs.Lists.{Chosen, Picks, AllPick, no_cell, Put, Accepted, Reference, array_after, log_after, before_after, base_after}
use Rattle.model.specs.Lists.{is_flush, added_cause, fed, flash_pages, opened, block_pages, ReadGives, flipped, Borne, After}
use Rattle.model.specs.Lists.{Step, Claim, Quiet, Bears, Demand3}
use Rattle.model.proofs.Soundness.{limits_of, facts-sound}
use Rattle.model.proofs.Lookup.{block-lt, page-div}
use Rattle.model.proofs.Plan.{least_recent-picks, policy_choice-picks}
use Rattle.model.proofs.Reflects.{OwnAll}
use Rattle.model.proofs.Consistent.{Consistent, write-good, step-good}
use Rattle.model.proofs.Steps.{Ready, due-elim, worn_by-length, steps-clean}
use Rattle.model.proofs.Flush.{read_is, read-good, empty-flash, Moved, moved_none, step-moved, write_moves, flush-all}
use Rattle.model.proofs.Opening.{opened-good, Accept, open_accepted, cached-once}
use Rattle.model.proofs.EachPage.{joined-each, merged-each, read-each, written-each, step-each, flush-each}
use Rattle.model.proofs.Buffers.{OfS, zero-long, zero_cell, Whole, cells-again, memory_of-buffers, lent-buffers, buffers_of-cells}
use Rattle.model.proofs.Buffers.{buffers_of-memory, cells-long, memory-whole, cells-length, memory-lengths, fits-of}

-- ---- a refused outcome leaves the state alone

abbrev pub KeepsRefused : State → Outcome → Type 0
KeepsRefused k o = is_refused o.answer ≡ true → o.state ≡ k

module _ (sz : Sizes) (k : State) where
  checked-keeps : (n long : ℕ) (o : Outcome) → KeepsRefused k o → KeepsRefused k (checked sz k n long o)
  unfolding checked
  checked-keeps n long o h = by-test (eqb long sz.S)
      (λ e. rw (e, checked) (by-test (ltb n (sz.N * sz.K)) (λ e'. rw e' h) (λ e'. rw e' (λ q. refl))))
      (λ e. rw (e, checked) (λ q. refl))

  write_keeps : (n : ℕ) (p : Plan) → KeepsRefused k (write_outcome sz k n p)
  unfolding write_outcome
  write_keeps n p = by-test (is_worn sz k.wear (erased_by k.directory p))
      (λ e. rw (e, write_outcome) (λ q. refl))
      (λ e. rw (e, write_outcome) (λ q. clash q refl))

  part-keeps : (first many : ℕ) (w : Outcome) → KeepsRefused k w → KeepsRefused k (part_outcome sz k first many w)
  unfolding part_outcome
  part-keeps first many w h = by-test (leb (first + many) sz.S)
      (λ e. rw (e, part_outcome) (by-test (eqb many 0) (λ e'. rw e' (λ q. refl)) (λ e'. rw e' h)))
      (λ e. rw (e, part_outcome) (λ q. refl))

  step_keeps : (q : Due) → KeepsRefused k (step_outcome sz k q)
  unfolding step_outcome
  step_keeps clean = λ q. refl
  step_keeps (due b f) = by-test (is_worn sz k.wear b) (λ e. rw (e, step_outcome) (λ q. refl))
      (λ e. rw (e, step_outcome) (λ q. clash q refl))

  flush-keeps : (pick : Choice) → KeepsRefused k (flush_outcome pick sz k)
  unfolding flush_outcome
  flush-keeps pick = by-test (ltb (lowest_worn sz k.directory k.wear) sz.N) (λ e. rw (e, flush_outcome) (λ q. refl))
      (λ e. rw (e, flush_outcome) (λ q. clash q refl))

  pub decide-keeps : (pick : Choice) (c : Call ℕ) → KeepsRefused k (decide pick sz k c)
  unfolding decide read_outcome
  decide-keeps pick (read n long) = checked-keeps n long (read_outcome sz k n) (λ q. clash q refl)
  decide-keeps pick (write n long) = checked-keeps n long _ (write_keeps n _)
  decide-keeps pick (part n first many long) = checked-keeps n long _ (part-keeps first many _ (write_keeps n _))
  decide-keeps pick step = step_keeps (due_of pick sz k.directory)
  decide-keeps pick flush = flush-keeps pick

  pub heeding-keeps : (late : ℕ) (o : Outcome) → KeepsRefused k o → KeepsRefused k (heeding k late o)
  unfolding heeding
  heeding-keeps late o h = by-test (is_refused o.answer)
      (λ e. rw (e, heeding) h)
      (λ e. rw (e, heeding) (by-test (eqb late 0) (λ e'. rw e' h) (λ e'. rw e' (λ q. refl))))

  -- what is accepted with a cause heeded is accepted without
  heeding-accepted : (late : ℕ) (o : Outcome) → is_refused (heeding k late o).answer ≡ false → is_refused o.answer ≡ false
  unfolding heeding
  heeding-accepted late o = by-test (is_refused o.answer) (λ e. rw (e, heeding) (λ h. absurd (clash e h))) (λ e h. e)

-- an accepted call is turned down for no cause
no-cause : (a : Answer) → is_refused a ≡ false → added_cause a ≡ 0
no-cause open_done h = refl
no-cause (read_done way) h = refl
no-cause (write_done way b m) h = refl
no-cause (step_done b m) h = refl
no-cause step_clean h = refl
no-cause (flush_done r m) h = refl
no-cause (refused n b) h = clash refl h

-- the book, told by the answer, comes to the same outcome
told_back : (k : State) (late : ℕ) (o : Outcome) → added_cause (refused late vacant) ≡ late
    → heeding k (added_cause (heeding k late o).answer) o ≡ heeding k late o
unfolding heeding
told_back k late o h = by-test (is_refused o.answer)
    (λ e. rw (e, heeding))
    (λ e. by-test (eqb late 0)
    (λ e'. let q : heeding k late o ≡ o = rw (e, heeding) (rw e') in
    ap (λ (u : Outcome). heeding k (added_cause u.answer) o) q ∙ ap (λ (n : ℕ). heeding k n o) (no-cause o.answer e)
    ∙ (let z : heeding k 0 o ≡ o = rw (e, heeding) in z ∙ sym q))
    (λ e'. let q : heeding k late o ≡ turned_down k late vacant = rw (e, heeding) (rw e') in
    ap (λ (u : Outcome). heeding k (added_cause u.answer) o) q ∙ ap (λ (n : ℕ). heeding k n o) h))

fault-cause : (sz : Sizes) (fault : ℕ → ℕ) (reads : ℕ → Bool) → added_cause (refused (fault_met sz fault reads) vacant)
    ≡ fault_met sz fault reads
unfolding fault_met
fault-cause sz fault reads = by-test (some_page sz (λ i. reads i && eqb (fault i) 7))
    (λ e. rw e)
    (λ e. rw e (by-test (some_page sz (λ i. reads i && eqb (fault i) 14)) (λ q. rw q) (λ q. rw q)))

-- an element does not depend on what stands past the end
pub get_d_any : {A : Type 0} (l : List A) (i : ℕ) (x y : A) → i < length l → get_or l i x ≡ get_or l i y
get_d_any [] i x y h = absurd (not-suc-le-zero h)
get_d_any (z ∷ l) zero x y h = refl
get_d_any (z ∷ l) (suc i) x y h = get_d_any l i x y (omega arith)

-- ---- what a refused call leaves beside the store

array-kept : (a : List Page) (c : Call Page) → array_after a c true ≡ a
unfolding array_after
array-kept a (read n x) = refl
array-kept a (write n x) = refl
array-kept a (part n first x page) = refl
array-kept a step = refl
array-kept a flush = refl

pub log-kept : (a : List Page) (l : List Put) (c : Call Page) → log_after a l c true ≡ l
unfolding log_after
log-kept a l (read n x) = refl
log-kept a l (write n x) = refl
log-kept a l (part n first x page) = refl
log-kept a l step = refl
log-kept a l flush = refl

pub not-flushed : (c : Call Page) → (is_flush c && false) ≡ false
not-flushed (read n x) = refl
not-flushed (write n x) = refl
not-flushed (part n first x page) = refl
not-flushed step = refl
not-flushed flush = refl

before_at : {A : Type 0} (sz : Sizes) (k : List (List A)) (l : List A) (w w' : List ℕ) (b : ℕ) → b < sz.N
    → get_or (before_after sz k l w w') b [] ≡ cond (ltb (get_or w b 0) (get_or w' b 0)) l (get_or k b [])
unfolding before_after
before_at sz k l w w' b bl = get_d_tab sz.N _ [] b bl

base-at : (sz : Sizes) (base cs : List Cell) (w w' : List ℕ) (n : ℕ) → n < sz.N * sz.K
    → get_or (base_after sz base cs w w') n no_cell ≡ cond (ltb (get_or w (n / sz.K) 0) (get_or w' (n / sz.K) 0)) (get_or cs n no_cell)
    (get_or base n no_cell)
unfolding base_after
base-at sz base cs w w' n l = get_d_tab (sz.N * sz.K) _ no_cell n l

-- ---- the invariant of a list that began with the flash pages o

module _ (fmt : Format) (Matched : Sizes → Cell → Type 0) (Near : Sizes → Cell → Cell → Type 0) (sz : Sizes)
    (laws : Bears fmt Matched Near sz) (o : List Page) (w₀ : List ℕ) where
  abbrev pub blank : Page
  blank = zero_page sz

  abbrev pub chip : Chip Cell Page
  chip = fmt.chip sz

  kept : (x : Page) → OfS fmt sz x → CellFits fmt sz (chip.cell x)
  kept x h = laws.cell-fits x h

  given : (c : Cell) → CellFits fmt sz c → OfS fmt sz (chip.page c)
  given c h = laws.page-long c h

  -- what a rewrite programs is a page of S bytes, and read as it is
  own-all : (d : Directory) (m : Memory Cell Page) → Whole fmt sz m → OwnAll chip blank sz d m
  own-all d m w b f o = laws.page-cell _ (merged-each chip blank (CellFits fmt sz) (OfS fmt sz) (zero-long fmt sz) kept given sz
      (joined sz d b f) _ b f o (joined-each chip blank (CellFits fmt sz) (OfS fmt sz) (zero-long fmt sz) kept given sz d m b f w))

  -- each page of an array is that of the opening, or was accepted for it
  abbrev pub Accords : List Page → List Put → Type 0
  Accords a log = (n : ℕ) → n < sz.N * sz.K → (get_or a n blank ≡ get_or o n blank) ⊎ Accepted n (get_or a n blank) log

  pub record Inv (r : Reference) (m : Memory Cell Page) : Type 0 where
    pub good : Consistent chip blank sz r.book.directory m r.array
    pub whole : Whole fmt sz m
    pub wear-length : length r.book.wear ≡ sz.N
    pub flash-is : (n : ℕ) → n < sz.N * sz.K → flash_page chip blank m n ≡ get_or (get_or r.array_before (n / sz.K) []) n blank
    pub array-from : Accords r.array r.log
    pub before-from : (b : ℕ) → b < sz.N → Accords (get_or r.array_before b []) (get_or r.log_before b [])
    pub before-length : (b : ℕ) → b < sz.N → length (get_or r.array_before b []) ≡ sz.N * sz.K
    pub flushed-is : r.flushed ≡ true → (n : ℕ) → n < sz.N * sz.K → flash_page chip blank m n ≡ get_or r.array n blank
    -- the cells as they were last programmed, or at opening, had codes that match, and are read as flash is now
    pub matched : (n : ℕ) → n < sz.N * sz.K → CellFits fmt sz (get_or r.base n no_cell) × Matched sz (get_or r.base n no_cell)
    pub based : (n : ℕ) → n < sz.N * sz.K → chip.page (get_or r.base n no_cell) ≡ flash_page chip blank m n
    pub near : (n : ℕ) → n < sz.N * sz.K → Near sz (get_or r.base n no_cell) (cell_at chip blank m.flash n)
    -- a block whose wear has grown since opening has been programmed since
    pub fresh : (n : ℕ) → n < sz.N * sz.K → get_or w₀ (n / sz.K) 0 < get_or r.book.wear (n / sz.K) 0
        → (x : Page) × (get_or r.base n no_cell ≡ chip.cell x)

  module _ (r : Reference) (m : Memory Cell Page) (i : Inv r m) where
    -- from one call to the next
    advance : (r' : Reference) (m' : Memory Cell Page) → Consistent chip blank sz r'.book.directory m' r'.array → Whole fmt sz m'
        → length r'.book.wear ≡ sz.N
        → Moved chip blank sz r.array m r.book.wear m' r'.book.wear
        → r'.array_before ≡ before_after sz r.array_before r.array r.book.wear r'.book.wear
        → r'.log_before ≡ before_after sz r.log_before r.log r.book.wear r'.book.wear
        → r'.base ≡ base_after sz r.base m'.flash r.book.wear r'.book.wear
        → Accords r'.array r'.log
        → (r'.flushed ≡ true → (n : ℕ) → n < sz.N * sz.K → flash_page chip blank m' n ≡ get_or r'.array n blank) → Inv r' m'
    unfolding flash_page cell_at
    advance r' m' g wh wl mv ea el eb af fl = record {
      good = g;
      whole = wh;
      wear-length = wl;
      array-from = af;
      flushed-is = fl;
      flash-is = λ n l. let b : ℕ = n / sz.K in let bl = block-lt sz g.numbers.limits n l in elim (mv.page n l) [
        | inl e ↦ let w = e.0 in ap chip.page e.1 ∙ i.flash-is n l
            ∙ ap (λ (a : List Page). get_or a n blank) (sym (arrays_are b bl
            ∙ ap (array_if b) (le-ltb (get_or r.book.wear b 0) (get_or r'.book.wear b 0) (omega arith))))
        | inr e ↦ ap chip.page e.1 ∙ laws.page-cell _ (array_long n l)
            ∙ ap (λ (a : List Page). get_or a n blank) (sym (arrays_are b bl ∙ ap (array_if b) (lt-ltb _ _ e.0)))
      ];
      before-from = λ b bl. rw (arrays_are b bl, logs_are b bl) (by-test (grown b) (λ t. rw t i.array-from)
          (λ t. rw t (i.before-from b bl)));
      before-length = λ b bl. rw (arrays_are b bl) (by-test (grown b) (λ t. rw t i.good.array-length)
          (λ t. rw t (i.before-length b bl)));
      matched = λ n l. rw (bases_are n l) (elim (mv.page n l) [
        | inl e ↦ let w = e.0 in rw (le-ltb (get_or r.book.wear (n / sz.K) 0) (get_or r'.book.wear (n / sz.K) 0) (omega arith))
            (i.matched n l)
        | inr e ↦ let xl = array_long n l in
            rw (lt-ltb _ _ e.0, new_cell n l, e.1) (kept _ xl, laws.matched-cell _ xl)
      ]);
      based = λ n l. rw (bases_are n l) (elim (mv.page n l) [
        | inl e ↦ let w = e.0 in rw (le-ltb (get_or r.book.wear (n / sz.K) 0) (get_or r'.book.wear (n / sz.K) 0) (omega arith))
            (i.based n l ∙ ap chip.page (sym e.1))
        | inr e ↦ rw (lt-ltb _ _ e.0) (ap chip.page (new_cell n l))
      ]);
      near = λ n l. rw (bases_are n l) (elim (mv.page n l) [
        | inl e ↦ let w = e.0 in rw (
          le-ltb (get_or r.book.wear (n / sz.K) 0) (get_or r'.book.wear (n / sz.K) 0) (omega arith),
          e.1,
        ) (i.near n l)
        | inr e ↦ rw (lt-ltb _ _ e.0, new_cell n l) (laws.near-self _)
      ]);
      fresh = λ n l. rw (bases_are n l) (elim (mv.page n l) [
        | inl e ↦ let w = e.0 in rw (le-ltb (get_or r.book.wear (n / sz.K) 0) (get_or r'.book.wear (n / sz.K) 0) (omega arith))
            (λ h. i.fresh n l (omega arith))
        | inr e ↦ rw (lt-ltb _ _ e.0, new_cell n l) (λ h. (_, e.1))
      ]);
    }
      where
        array_long : (n : ℕ) → n < sz.N * sz.K → length (get_or r.array n blank) ≡ sz.S
        array_long n l = sym (ap length (read_is chip blank sz r.book.directory m r.array i.good n l))
            ∙ read-each chip blank (CellFits fmt sz) (OfS fmt sz) (zero-long fmt sz) kept given sz r.book.directory m n i.whole

        new_cell : (n : ℕ) → n < sz.N * sz.K → get_or m'.flash n no_cell ≡ get_or m'.flash n (chip.cell blank)
        new_cell n l = get_d_any m'.flash n no_cell (chip.cell blank) (let q = g.flash-length in omega arith)

        bases_are : (n : ℕ) → n < sz.N * sz.K → get_or r'.base n no_cell
            ≡ cond (ltb (get_or r.book.wear (n / sz.K) 0) (get_or r'.book.wear (n / sz.K) 0)) (get_or m'.flash n no_cell)
            (get_or r.base n no_cell)
        bases_are n l = ap (λ (c : List Cell). get_or c n no_cell) eb ∙ base-at sz r.base m'.flash r.book.wear r'.book.wear n l

        grown : ℕ → Bool
        grown b = ltb (get_or r.book.wear b 0) (get_or r'.book.wear b 0)

        array_if : ℕ → Bool → List Page
        array_if b t = cond t r.array (get_or r.array_before b [])

        arrays_are : (b : ℕ) → b < sz.N → get_or r'.array_before b [] ≡ cond (grown b) r.array (get_or r.array_before b [])
        arrays_are b bl = ap (λ (l : List (List Page)). get_or l b []) ea
            ∙ before_at sz r.array_before r.array r.book.wear r'.book.wear b bl

        logs_are : (b : ℕ) → b < sz.N → get_or r'.log_before b [] ≡ cond (grown b) r.log (get_or r.log_before b [])
        logs_are b bl = ap (λ (l : List (List Put)). get_or l b []) el
            ∙ before_at sz r.log_before r.log r.book.wear r'.book.wear b bl

    module _ (pick : Choice) (besides : ℕ → Bool) (picks : Picks pick) where
      -- the pages after a call, by its outcome
      abbrev pages_after : Call Page → Outcome → Memory Cell Page
      pages_after c u = cond (is_refused u.answer) m (call_pages chip blank pick sz r.book m c)

      abbrev Next : Call Page → Outcome → Type 0
      Next c u = Inv (fed sz r c u (pages_after c u).flash) (pages_after c u)

      refused-next : (c : Call Page) (n b : ℕ) → Next c (turned_down r.book n b)
      unfolding fed
      refused-next c n b = advance (fed sz r c (turned_down r.book n b) m.flash) m (rw (array-kept r.array c) i.good) i.whole
          i.wear-length (moved_none chip blank sz _ m m _ refl) refl refl refl
          (λ k l. rw (array-kept r.array c, log-kept r.array r.log c) (i.array-from k l)) (λ h. clash h (not-flushed c))

      checked-next : (c : Call Page) (n long : ℕ) (u : Outcome) → (long ≡ sz.S → n < sz.N * sz.K → Next c u)
          → Next c (checked sz r.book n long u)
      unfolding checked
      checked-next c n long u h = by-test (eqb long sz.S)
          (λ e. rw (e, checked) (by-test (ltb n (sz.N * sz.K)) (λ e'. rw e' (h (eqb-true _ _ e) (ltb-true _ _ e')))
          (λ e'. rw e' (refused-next c 5 vacant))))
          (λ e. rw (e, checked) (refused-next c 2 vacant))

      read_next : (n : ℕ) (x : Page) → Next (read n x) (decide pick sz r.book (read n (length x)))
      unfolding decide read_outcome fed array_after log_after call_pages
      read_next n x = checked-next (read n x) n (length x) _ (λ s l. advance (fed sz r (read n x) (read_outcome sz r.book n) m.flash) m
          (read-good chip blank sz r.book.directory m r.array i.good n) i.whole i.wear-length
          (moved_none chip blank sz _ m m _ refl) refl refl refl i.array-from (λ h. clash h refl))

      abbrev wrote : ℕ → Plan → Outcome
      wrote n p = record {
        answer = write_done (way_of p) (erased_by r.book.directory p) (merged_by sz r.book.directory p);
        state = record { directory = written sz r.book.directory n p; wear = worn_by r.book.wear (erased_by r.book.directory p) };
      }

      -- what was accepted for another page stays accepted after a write of x to page n
      later : (a n : ℕ) (x : Page) (l : List Put) (p : List Page) → (a ≡ n → ⊥)
          → (get_or p a blank ≡ get_or o a blank) ⊎ Accepted a (get_or p a blank) l
          → (get_or (set p n x) a blank ≡ get_or o a blank) ⊎ Accepted a (get_or (set p n x) a blank) (record { page = n; bytes = x } ∷ l)
      later a n x l p h q = subst
          (λ (y : Page). (y ≡ get_or o a blank) ⊎ Accepted a y (record { page = n; bytes = x } ∷ l))
          (sym (get_or-set_other p n a x blank h))
          (elim q [ inl e ↦ inl e | inr e ↦ inr (inr e) ])

      write-ok : (n : ℕ) (x : Page) → length x ≡ sz.S → n < sz.N * sz.K
          → Next (write n x) (wrote n (plan pick sz r.book.directory r.book.wear n))
      unfolding fed array_after log_after call_pages
      write-ok n x xl l = let d = r.book.directory in let w = r.book.wear in let p = plan pick sz d w n in
          let m' = call_pages chip blank pick sz r.book m (write n x) in
          advance (fed sz r (write n x) (wrote n p) m'.flash) m'
          (write-good chip blank pick picks sz d w m (own-all d m i.whole) r.array i.good n l x)
          (written-each chip blank (CellFits fmt sz) (OfS fmt sz) (zero-long fmt sz) kept given sz d m n x p i.whole xl)
          (worn_by-length w _ ∙ i.wear-length)
          (write_moves chip blank sz d m (own-all d m i.whole) r.array i.good w i.wear-length pick picks n x)
          refl refl refl
          (λ a al. by-test (eqb a n)
          (λ e. let e2 = eqb-true a n e in
          inr (inl (
            sym e2,
            sym (ap (λ (j : ℕ). get_or (set r.array n x) j blank) e2
                ∙ get_or-set_same r.array n x blank (let h = i.good.array-length in omega arith)),
          )))
          (λ e. later a n x r.log r.array (eqb-false a n e) (i.array-from a al)))
          (λ h. clash h refl)

      write-next : (n : ℕ) (x : Page) → Next (write n x) (decide pick sz r.book (write n (length x)))
      unfolding decide write_outcome
      write-next n x = checked-next (write n x) n (length x) _ (λ s l. by-test
          (is_worn sz r.book.wear (erased_by r.book.directory (plan pick sz r.book.directory r.book.wear n)))
          (λ e. rw (e, write_outcome) (refused-next (write n x) 6 _))
          (λ e. rw (e, write_outcome) (write-ok n x s l)))

      -- the page that a part write reads is the array's
      read_here : (n : ℕ) → n < sz.N * sz.K → read_page chip blank sz r.book.directory m n ≡ get_or r.array n []
      read_here n l = read_is chip blank sz r.book.directory m r.array i.good n l
          ∙ get_d_any r.array n blank [] (let q = i.good.array-length in omega arith)

      combined-here : (n first : ℕ) (x : Page) → n < sz.N * sz.K
          → combined chip blank sz r.book.directory m n first x ≡ laid first x (get_or r.array n [])
      unfolding combined
      combined-here n first x l = ap (laid first x) (read_here n l)

      combined-long : (n first : ℕ) (x : Page) → first + length x ≤ sz.S
          → length (combined chip blank sz r.book.directory m n first x) ≡ sz.S
      unfolding combined
      combined-long n first x h = let p = read-each chip blank (CellFits fmt sz) (OfS fmt sz) (zero-long fmt sz) kept given sz
          r.book.directory m n i.whole in length-laid first x _ (omega arith) ∙ p

      -- a part write with bytes is the write of the combined page
      part-ok : (n first : ℕ) (x page : Page) → no_bytes x ≡ false → first + length x ≤ sz.S → n < sz.N * sz.K
          → Next (part n first x page) (wrote n (plan pick sz r.book.directory r.book.wear n))
      unfolding fed array_after log_after call_pages
      part-ok n first x page e h l = rw (e, call_pages, sym (combined-here n first x l))
          (write-ok n (combined chip blank sz r.book.directory m n first x) (combined-long n first x h) l)

      -- without bytes it is no call at all
      nothing_ok : (n first : ℕ) (x page : Page) → no_bytes x ≡ true
          → Next (part n first x page) (record { answer = write_done 0 vacant 0; state = r.book })
      unfolding fed array_after log_after call_pages
      nothing_ok n first x page e =
          let r' : Reference = record {
            book = r.book;
            array = r.array;
            log = r.log;
            array_before = before_after sz r.array_before r.array r.book.wear r.book.wear;
            log_before = before_after sz r.log_before r.log r.book.wear r.book.wear;
            base = base_after sz r.base m.flash r.book.wear r.book.wear;
            flushed = false;
          } in
          rw (e, call_pages) (advance r' m i.good i.whole i.wear-length (moved_none chip blank sz _ m m _ refl) refl refl refl
          i.array-from (λ q. clash q refl))

      part-next : (n first : ℕ) (x page : Page) → Next (part n first x page)
          (decide pick sz r.book (part n first (length x) (length page)))
      unfolding decide part_outcome write_outcome
      part-next n first x page = let c : Call Page = part n first x page in
          checked-next c n (length page) _ (λ s l. by-test (leb (first + length x) sz.S)
          (λ e. rw (e, part_outcome) (by-test (eqb (length x) 0)
          (λ e'. rw e' (nothing_ok n first x page e'))
          (λ e'. rw e' (by-test (is_worn sz r.book.wear (erased_by r.book.directory
          (plan pick sz r.book.directory r.book.wear n)))
          (λ q. rw (q, write_outcome) (refused-next c 6 _))
          (λ q. rw (q, write_outcome) (part-ok n first x page e' (leb-true _ _ e) l))))))
          (λ e. rw (e, part_outcome) (refused-next c 2 vacant)))

      step_due : ℕ → ℕ → Outcome
      step_due b f = record {
        answer = step_done b (merge_reads sz (joined sz r.book.directory b f) f);
        state = record { directory = stepped sz r.book.directory (due b f); wear = worn_by r.book.wear b };
      }

      step_ok : (b f : ℕ) → Ready sz r.book.directory b f → due_of pick sz r.book.directory ≡ due b f → Next step (step_due b f)
      unfolding fed array_after log_after call_pages step_due
      step_ok b f y e = let d = r.book.directory in let w = r.book.wear in
          rw e (advance (fed sz r step (step_due b f) (stepped_pages chip blank sz d m (due b f)).flash)
          (stepped_pages chip blank sz d m (due b f))
          (step-good chip blank sz d m (own-all d m i.whole) r.array i.good b f y)
          (step-each chip blank (CellFits fmt sz) (OfS fmt sz) (zero-long fmt sz) kept given sz d m (due b f) i.whole)
          (worn_by-length w b ∙ i.wear-length)
          (step-moved chip blank sz d m (own-all d m i.whole) r.array i.good w i.wear-length b f y)
          refl refl refl i.array-from (λ h. clash h refl))

      clean-ok : due_of pick sz r.book.directory ≡ clean → Next step (record { answer = step_clean; state = r.book })
      unfolding fed array_after log_after call_pages stepped_pages
      clean-ok e = rw e (advance (fed sz r step (record { answer = step_clean; state = r.book }) m.flash) m i.good i.whole
          i.wear-length (moved_none chip blank sz _ m m _ refl) refl refl refl i.array-from (λ h. clash h refl))

      step-next : Next step (decide pick sz r.book step)
      unfolding decide step_outcome step_due
      step-next = due-elim sz r.book.directory i.good.numbers pick picks
          (λ q. due_of pick sz r.book.directory ≡ q → Next step (step_outcome sz r.book q))
          (λ b f y e. by-test (is_worn sz r.book.wear b)
          (λ q. rw (q, step_outcome) (refused-next step 6 b))
          (λ q. rw (q, step_outcome) (step_ok b f y e)))
          (λ v e. clean-ok e)
          refl

      start : Tally
      start = record { state = r.book; rewrites = 0; merges = 0 }

      flush_ok : Outcome
      flush_ok = let t = steps pick sz sz.N start in record { answer = flush_done t.rewrites t.merges; state = t.state }

      flush-ok : Next flush flush_ok
      unfolding fed array_after log_after call_pages start flush_ok
      flush-ok = let m' = steps_pages pick sz chip blank sz.N r.book.directory m in
          let h = flush-all chip blank pick picks sz r.array (Whole fmt sz) own-all
          (λ d m b f w. step-each chip blank (CellFits fmt sz) (OfS fmt sz) (zero-long fmt sz) kept given sz d m (due b f) w) sz.N
          start m i.whole i.good i.wear-length in
          let c = steps-clean pick picks sz sz.N start i.good.numbers i.wear-length (count-le sz.N _) in
          advance (fed sz r flush flush_ok m'.flash) m' h.good (flush-each chip blank (CellFits fmt sz) (OfS fmt sz)
          (zero-long fmt sz) kept given sz pick sz.N r.book.directory m i.whole) c.wear-length h.moved refl refl refl
          i.array-from
          (λ q. empty-flash chip blank sz (steps pick sz sz.N start).state.directory m' r.array h.good c.void)

      flush-next : Next flush (decide pick sz r.book flush)
      unfolding decide flush_outcome start flush_ok
      flush-next = by-test (ltb (lowest_worn sz r.book.directory r.book.wear) sz.N)
          (λ e. rw (e, flush_outcome) (refused-next flush 6 _))
          (λ e. rw (e, flush_outcome) flush-ok)

      decide-next : (c : Call Page) → Next c (decide pick sz r.book (told c))
      decide-next (read n x) = read_next n x
      decide-next (write n x) = write-next n x
      decide-next (part n first x page) = part-next n first x page
      decide-next step = step-next
      decide-next flush = flush-next

      -- the outcome of the store's call
      abbrev said : Call Page → Outcome
      said c = heeding r.book (fault_of fmt pick sz m.flash (reads_all fmt pick sz r.book c besides))
          (decide pick sz r.book (told c))

      heeding-next : (c : Call Page) (late : ℕ) (u : Outcome) → Next c u → Next c (heeding r.book late u)
      unfolding heeding
      heeding-next c late u h = by-test (is_refused u.answer)
          (λ e. rw (e, heeding) h)
          (λ e. rw (e, heeding) (by-test (eqb late 0) (λ e'. rw e' h) (λ e'. rw e' (refused-next c late vacant))))

      next : (c : Call Page) → Next c (said c)
      next c = heeding-next c _ _ (decide-next c)

      -- the book is told of it by the answer
      book-says : (c : Call Page) → heeding r.book (added_cause (said c).answer) (decide pick sz r.book (told c)) ≡ said c
      unfolding fault_of
      book-says c = told_back r.book _ _ (fault-cause sz _ _)

      -- ---- the store's call is the book's, with the pages beside it

      abbrev store : Store
      store = record { cache = record { sizes = sz; directory = r.book.directory }; lent = buffers_of m r.book.wear }

      abbrev buffer_after : Call Page → Outcome → Page
      buffer_after c u = cond (is_refused u.answer) (lent_buffer c) (filled_buffer chip sz r.book.directory m c)

      abbrev result_of : Call Page → Outcome → Result
      result_of c u = record {
        answer = u.answer;
        mends = cond (is_refused u.answer) 0 (mends_of fmt pick sz m.flash (reads_all fmt pick sz r.book c besides));
        store = record {
          cache = record { sizes = sz; directory = u.state.directory };
          lent = buffers_of (pages_after c u) u.state.wear;
        };
        page = buffer_after c u;
      }

      same_memory : memory_of fmt sz (buffers_of m r.book.wear) ≡ m
      same_memory = memory_of-buffers fmt sz m i.whole i.good.flash-length i.good.pspace-length i.good.bspace-length
          r.book.wear

      carried-out : (c : Call Page) (u : Outcome) → KeepsRefused r.book u → carried_out fmt pick store c besides u ≡ result_of c u
      unfolding carried_out buffers_of
      carried-out c u keeps = by-test (is_refused u.answer)
          (λ e. rw (e, carried_out)
          (ap (λ (k : State). record {
            answer = u.answer;
            mends = 0;
            store = record { cache = record { sizes = sz; directory = k.directory }; lent = buffers_of m k.wear };
            page = lent_buffer c;
          }) (sym (keeps e))))
          (λ e. rw (e, carried_out) (ap (λ (x : Memory Cell Page). record {
            answer = u.answer;
            mends = mends_of fmt pick sz x.flash (reads_all fmt pick sz r.book c besides);
            store = record {
              cache = record { sizes = sz; directory = u.state.directory };
              lent = buffers_of (call_pages chip blank pick sz r.book x c) u.state.wear;
            };
            page = filled_buffer chip sz r.book.directory x c;
          })
          same_memory))

      call-is : (c : Call Page) → call_reading fmt pick besides store c ≡ result_of c (said c)
      unfolding call_reading buffers_of
      call-is c = let g = i.good in
          rw (facts-sound sz r.book.directory g.numbers, call_reading)
          (rw (lent-buffers fmt sz m i.whole g.flash-length g.pspace-length g.bspace-length r.book.wear i.wear-length)
          (ap (λ (x : Memory Cell Page). carried_out fmt pick store c besides
          (heeding r.book (fault_of fmt pick sz x.flash (reads_all fmt pick sz r.book c besides))
          (decide pick sz r.book (told c)))) same_memory
          ∙ carried-out c (said c) (heeding-keeps sz r.book _ _ (decide-keeps sz r.book pick (told c)))))

      -- a call that is accepted after the checks has a page number of the chip
      checked-lt : (n long : ℕ) (u : Outcome) → is_refused (checked sz r.book n long u).answer ≡ false → n < sz.N * sz.K
      unfolding checked
      checked-lt n long u = by-test (eqb long sz.S)
          (λ e. rw (e, checked) (by-test (ltb n (sz.N * sz.K)) (λ e' h. ltb-true _ _ e') (λ e'. rw e' (λ h. clash refl h))))
          (λ e. rw (e, checked) (λ h. clash refl h))

      -- an accepted read gives the array's page
      read-gives : (n : ℕ) (x : Page) → is_refused (said (read n x)).answer ≡ false
          → read_page chip blank sz r.book.directory m n ≡ get_or r.array n []
      unfolding decide
      read-gives n x h = read_here n (checked-lt n (length x) _ (heeding-accepted sz r.book _ _ h))

      part_gives : (n first : ℕ) (x page : Page) → is_refused (said (part n first x page)).answer ≡ false
          → combined chip blank sz r.book.directory m n first x ≡ laid first x (get_or r.array n [])
      unfolding decide
      part_gives n first x page h = combined-here n first x (checked-lt n (length page) _ (heeding-accepted sz r.book _ _ h))

      reads : (c : Call Page) → ReadGives r.array c (result_of c (said c))
      reads (read n x) = λ h. rw h (read-gives n x h)
      reads (write n x) = tt
      reads (part n first x page) = λ h. rw h (ap (λ (y : Page). cond (no_bytes x) page y) (part_gives n first x page h))
      reads step = tt
      reads flush = tt

  -- ---- bits flip

  module _ (r : Reference) (m : Memory Cell Page) (i : Inv r m) (cs : List Cell) (cl : length cs ≡ sz.N * sz.K)
      (fit : (n : ℕ) → CellFits fmt sz (get_or cs n (zero_cell fmt sz)))
      (near : (n : ℕ) → n < sz.N * sz.K → Near sz (get_or r.base n no_cell) (get_or cs n no_cell)) where
    abbrev flipped-memory : Memory Cell Page
    flipped-memory = record { flash = cs; pspace = m.pspace; bspace = m.bspace }

    -- flash is read as before
    same-page : (n : ℕ) → n < sz.N * sz.K → flash_page chip blank flipped-memory n ≡ flash_page chip blank m n
    unfolding flash_page cell_at
    same-page n l = ap chip.page (get_d_any cs n (chip.cell blank) no_cell (omega arith))
        ∙ laws.page-near _ _ (i.matched n l).0 (rw (get_d_any cs n no_cell (zero_cell fmt sz) (omega arith)) (fit n)) (i.matched n l).1
        (near n l) ∙ i.based n l

    flipped-inv : Inv r flipped-memory
    unfolding cell_at
    flipped-inv = let g = i.good in record {
      good = record {
        numbers = g.numbers;
        reflects = record {
          in_slot = g.reflects.in_slot;
          in_frame = g.reflects.in_frame;
          in_flash = λ n l np nf. same-page n l
              ∙ g.reflects.in_flash n l np nf;
        };
        flash-length = cl;
        pspace-length = g.pspace-length;
        bspace-length = g.bspace-length;
        array-length = g.array-length;
      };
      whole = record { flash = fit; pspace = i.whole.pspace; bspace = i.whole.bspace };
      wear-length = i.wear-length;
      flash-is = λ n l. same-page n l ∙ i.flash-is n l;
      array-from = i.array-from;
      before-from = i.before-from;
      before-length = i.before-length;
      flushed-is = λ h n l. same-page n l ∙ i.flushed-is h n l;
      matched = i.matched;
      based = λ n l. i.based n l ∙ sym (same-page n l);
      near = λ n l. rw (get_d_any cs n (chip.cell blank) no_cell (omega arith)) (near n l);
      fresh = i.fresh;
    }

  -- ---- at the end of the list

  abbrev store_of : Reference → Memory Cell Page → Store
  store_of r m = record { cache = record { sizes = sz; directory = r.book.directory }; lent = buffers_of m r.book.wear }

  module _ (r : Reference) (m : Memory Cell Page) (i : Inv r m) where
    cells_are : flash_cells fmt sz (buffers_of m r.book.wear) ≡ m.flash
    unfolding buffers_of
    cells_are = cells-again fmt sz m.flash i.whole.flash i.good.flash-length _ _ _

    borne : Borne fmt Near sz r (buffers_of m r.book.wear)
    unfolding cell_at
    borne = record {
      fits = fits-of fmt sz _ (lent-buffers fmt sz m i.whole i.good.flash-length i.good.pspace-length i.good.bspace-length
          r.book.wear i.wear-length);
      near = λ n l. rw (cells_are, get_d_any m.flash n no_cell (chip.cell blank) (let q = i.good.flash-length in omega arith))
          (i.near n l);
    }

    pages-at : (n : ℕ) → n < sz.N * sz.K → get_or (flash_pages fmt sz (buffers_of m r.book.wear)) n [] ≡ flash_page chip blank m n
    unfolding flash_pages flash_page cell_at
    pages-at n l = let q = i.good.flash-length in ap (λ (c : List Cell). get_or (map chip.page c) n []) cells_are
        ∙ get_d_any (map chip.page m.flash) n [] (chip.page (chip.cell blank))
        (rw (length-map m.flash chip.page) (omega arith)) ∙ get_or-map chip.page m.flash n (chip.cell blank)

    pages-length : length (flash_pages fmt sz (buffers_of m r.book.wear)) ≡ sz.N * sz.K
    unfolding flash_pages
    pages-length = length-map (flash_cells fmt sz (buffers_of m r.book.wear)) chip.page ∙ cells-length fmt sz _

    blocks_are : (b : ℕ) → b < sz.N → block_pages sz (flash_pages fmt sz (buffers_of m r.book.wear)) b
        ≡ block_pages sz (get_or r.array_before b []) b
    unfolding block_pages
    blocks_are b bl = tab-ext [] sz.K _ _ (λ k kl. let limits = i.good.numbers.limits in let n : ℕ = b * sz.K + k in
        let l : n < sz.N * sz.K = digits_lt bl kl in
        pages-at n l ∙ i.flash-is n l
        ∙ ap (λ (c : ℕ). get_or (get_or r.array_before c []) n blank) (page-div sz limits b k kl)
        ∙ get_d_any (get_or r.array_before b []) n blank [] (rw (i.before-length b bl) l))

    -- the weaker clause follows from the whole blocks
    flash-from : (n : ℕ) → n < sz.N * sz.K → (flash_page chip blank m n ≡ get_or o n blank)
        ⊎ Accepted n (flash_page chip blank m n) (get_or r.log_before (n / sz.K) [])
    flash-from n l = rw (i.flash-is n l) (i.before-from (n / sz.K) (block-lt sz i.good.numbers.limits n l) n l)

    array-is : r.flushed ≡ true → flash_pages fmt sz (buffers_of m r.book.wear) ≡ r.array
    array-is q = ext_get_or [] _ r.array (pages-length ∙ sym i.good.array-length)
        (λ n l. let nl : n < sz.N * sz.K = (rw pages-length at l) in
        pages-at n nl ∙ i.flushed-is q n nl ∙ get_d_any r.array n blank [] (rw i.good.array-length nl))

  module _ (u : Buffers) (h : (n : ℕ) → n < sz.N * sz.K → get_or (flash_pages fmt sz u) n [] ≡ get_or o n blank) where
    after : (r : Reference) (m : Memory Cell Page) → Inv r m → After fmt Near sz u (store_of r m) r
    unfolding buffers_of
    after r m i = record {
      cached-once = λ n l. cached-once sz r.book.directory i.good.numbers n l;
      block-whole = blocks_are r m i;
      flash-from = λ n l. rw (pages-at r m i n l, h n l) (flash-from r m i n l);
      wear-is = refl;
      flushed-is = array-is r m i;
    }

    -- the store after flips, as memory
    module _ (r : Reference) (m : Memory Cell Page) (i : Inv r m) (fl cd : List ℕ)
        (b : Borne fmt Near sz r (flipped (store_of r m) fl cd).lent) where
      abbrev lent-then : Buffers
      lent-then = (flipped (store_of r m) fl cd).lent

      abbrev then-memory : Memory Cell Page
      then-memory = record { flash = flash_cells fmt sz lent-then; pspace = m.pspace; bspace = m.bspace }

      then-inv : Inv r then-memory
      then-inv = flipped-inv r m i (flash_cells fmt sz lent-then) (cells-length fmt sz lent-then)
          (cells-long fmt sz lent-then b.fits (kept blank (zero-long fmt sz))) b.near

      then-lent : buffers_of then-memory r.book.wear ≡ lent-then
      unfolding buffers_of
      then-lent = buffers_of-cells fmt sz lent-then b.fits m.pspace m.bspace refl refl

    seen_here : (r : Reference) (m : Memory Cell Page) → Inv r m → (n : ℕ) → n < sz.N * sz.K
        → page_seen fmt (store_of r m) n ≡ get_or r.array n []
    unfolding page_seen
    seen_here r m i n l = rw (memory_of-buffers fmt sz m i.whole i.good.flash-length i.good.pspace-length
        i.good.bspace-length r.book.wear)
        (read_is chip blank sz r.book.directory m r.array i.good n l
        ∙ get_d_any r.array n blank [] (let q = i.good.array-length in omega arith))

    -- one call, and then what the rest of the list claims
    one : (t : Chosen) (Then : Store → Reference → Type 0) → Picks t.choice
        → ((r : Reference) (m : Memory Cell Page) → Inv r m → Then (store_of r m) r)
        → (r : Reference) (m : Memory Cell Page) → Inv r m → Step fmt Near sz u (store_of r m) r t Then
    unfolding fed
    one t Then p h r m i =
        let i' = next r m i t.choice t.besides p t.call in
        rw (call-is r m i t.choice t.besides p t.call) (rw (book-says r m i t.choice t.besides p t.call) (record {
          answers = refl;
          shows = seen_here r m i;
          reads = reads r m i t.choice t.besides p t.call;
          borne = rw (cells_are _ _ i') (borne _ _ i');
          then = rw (cells_are _ _ i') (h _ _ i');
        }))

    claim : (cs : List Chosen) → AllPick cs → (r : Reference) (m : Memory Cell Page) → Inv r m → Claim fmt Near sz u cs (store_of r m) r
    claim [] p r m i = λ fl cd b. (rw (then-lent r m i fl cd b) at (after r (then-memory r m i fl cd b) (then-inv r m i fl cd b)))
    claim (t ∷ cs) p r m i = λ fl cd b. (rw (then-lent r m i fl cd b)
        at (one t (Claim fmt Near sz u cs) p.0 (claim cs p.1) r (then-memory r m i fl cd b) (then-inv r m i fl cd b)))

-- ---- from an accepted opening

at-opening : (sz : Sizes) (a : List Page) (b : ℕ) → b < sz.N → get_or (replicate sz.N a) b [] ≡ a
at-opening sz a b l = get_or-replicate sz.N b a [] l

module _ (fmt : Format) (Matched : Sizes → Cell → Type 0) (Near : Sizes → Cell → Cell → Type 0) (sz : Sizes)
    (laws : Bears fmt Matched Near sz) (u : Buffers) (a : Accept fmt sz u)
    (ok : (n : ℕ) → n < sz.N * sz.K → Matched sz (get_or (flash_cells fmt sz u) n no_cell)) where
  abbrev pages : List Page
  pages = flash_pages fmt sz u

  abbrev first-memory : Memory Cell Page
  first-memory = memory_of fmt sz u

  opening-length : length pages ≡ sz.N * sz.K
  unfolding flash_pages
  opening-length = length-map (flash_cells fmt sz u) (fmt.chip sz).page ∙ cells-length fmt sz u

  opening-page : (n : ℕ) → n < sz.N * sz.K → flash_page (fmt.chip sz) (zero_page sz) first-memory n ≡ get_or pages n (zero_page sz)
  unfolding flash_pages flash_page cell_at memory_of
  opening-page n l = sym (get_d_any (map (fmt.chip sz).page (flash_cells fmt sz u)) n (zero_page sz)
      ((fmt.chip sz).page ((fmt.chip sz).cell (zero_page sz))) (rw (
        length-map (flash_cells fmt sz u) (fmt.chip sz).page,
        cells-length fmt sz u,
      ) l)
      ∙ get_or-map (fmt.chip sz).page (flash_cells fmt sz u) n ((fmt.chip sz).cell (zero_page sz)))

  opened-inv : Inv fmt Matched Near sz laws pages u.wear (opened fmt sz u) first-memory
  unfolding opened memory_of flash_page cell_at
  opened-inv = let f = fits-of fmt sz u a.lent_ok_lem in let ls = memory-lengths fmt sz u in
      let fits = laws.cell-fits _ (zero-long fmt sz) in record {
        good = opened-good sz (limits_of sz a.sizes-ok) (fmt.chip sz) (zero_page sz) first-memory pages opening-length opening-page
            ls.0 ls.1 ls.2;
        whole = memory-whole fmt sz u f fits;
        wear-length = f.wear-length;
        flash-is = λ n q. let bl = block-lt sz (limits_of sz a.sizes-ok) n q in
            rw (at-opening sz pages (n / sz.K) bl) (opening-page n q);
        array-from = λ n q. inl refl;
        before-from = λ b bl n q. rw (at-opening sz pages b bl) (inl refl);
        before-length = λ b bl. rw (at-opening sz pages b bl) opening-length;
        flushed-is = λ h. clash h refl;
        matched = λ n l. (
          rw (get_d_any (flash_cells fmt sz u) n no_cell (zero_cell fmt sz) (rw (cells-length fmt sz u) l))
              (cells-long fmt sz u f fits n),
          ok n l,
        );
        based = λ n l. ap (fmt.chip sz).page (get_d_any (flash_cells fmt sz u) n no_cell ((fmt.chip sz).cell (zero_page sz))
            (rw (cells-length fmt sz u) l));
        near = λ n l. rw (get_d_any (flash_cells fmt sz u) n no_cell ((fmt.chip sz).cell (zero_page sz)) (rw (cells-length fmt sz u) l))
            (laws.near-self _);
        fresh = λ n l h. absurd (omega arith);
      }

  opened-claim : (cs : List Chosen) → AllPick cs → Claim fmt Near sz u cs (record { cache = (open_store fmt sz u).cache; lent = u })
      (opened fmt sz u)
  unfolding opened
  opened-claim cs p = let f = fits-of fmt sz u a.lent_ok_lem in rw a.cache-is (rw (buffers_of-memory fmt sz u f) at
      (claim fmt Matched Near sz laws pages u.wear u (λ n l. get_d_any pages n [] (zero_page sz) (rw opening-length l)) cs p
      (opened fmt sz u) first-memory opened-inv))

-- lent cells have their lengths
pub cells_fit : (fmt : Format) (Matched : Sizes → Cell → Type 0) (Near : Sizes → Cell → Cell → Type 0) (sz : Sizes)
    → Bears fmt Matched Near sz → (u : Buffers) → Fits fmt sz u
    → (n : ℕ) → n < sz.N * sz.K → CellFits fmt sz (get_or (flash_cells fmt sz u) n no_cell)
cells_fit fmt Matched Near sz laws u f n l =
    rw (get_d_any (flash_cells fmt sz u) n no_cell (zero_cell fmt sz) (rw (cells-length fmt sz u) l))
    (cells-long fmt sz u f (laws.cell-fits _ (zero-long fmt sz)) n)

-- ---- the invariant, for layers above: what holds of store and reference at every point of a list that began with the buffers u

module _ (fmt : Format) (Matched : Sizes → Cell → Type 0) (Near : Sizes → Cell → Cell → Type 0) (sz : Sizes)
    (laws : Bears fmt Matched Near sz) (u : Buffers) where
  pub record Holds (s : Store) (r : Reference) : Type 0 where
    pub memory : Memory Cell Page
    pub store_is : s ≡ record { cache = record { sizes = sz; directory = r.book.directory }; lent = buffers_of memory r.book.wear }
    pub inv : Inv fmt Matched Near sz laws (flash_pages fmt sz u) u.wear r memory

  unit-length : length (flash_pages fmt sz u) ≡ sz.N * sz.K
  unfolding flash_pages
  unit-length = length-map (flash_cells fmt sz u) (fmt.chip sz).page ∙ cells-length fmt sz u

  same-pages : (n : ℕ) → n < sz.N * sz.K → get_or (flash_pages fmt sz u) n [] ≡ get_or (flash_pages fmt sz u) n (zero_page sz)
  same-pages n l = get_d_any (flash_pages fmt sz u) n [] (zero_page sz) (rw unit-length l)

  pub holds_opened : Accept fmt sz u → ((n : ℕ) → n < sz.N * sz.K → Matched sz (get_or (flash_cells fmt sz u) n no_cell))
      → Holds (record { cache = (open_store fmt sz u).cache; lent = u }) (opened fmt sz u)
  unfolding opened
  holds_opened a ok = record {
    memory = memory_of fmt sz u;
    store_is = rw a.cache-is (λ i. record {
      cache = record { sizes = sz; directory = (opened fmt sz u).book.directory };
      lent = sym (buffers_of-memory fmt sz u (fits-of fmt sz u a.lent_ok_lem)) i;
    });
    inv = opened-inv fmt Matched Near sz laws u a ok;
  }

  pub holds-step : (s : Store) (r : Reference) → Holds s r → (t : Chosen) → Picks t.choice → (fl cd : List ℕ)
      → Borne fmt Near sz r (flipped s fl cd).lent → Step fmt Near sz u (flipped s fl cd) r t Holds
  holds-step s r x t p fl cd = rw x.store_is (λ b. let pg : List Page = flash_pages fmt sz u in let m = x.memory in let i = x.inv in
      rw (then-lent fmt Matched Near sz laws pg u.wear u same-pages r m i fl cd b) at
      (one fmt Matched Near sz laws pg u.wear u same-pages t Holds p (λ r m i. record { memory = m; store_is = refl; inv = i }) r _
      (then-inv fmt Matched Near sz laws pg u.wear u same-pages r m i fl cd b)))

  -- a layer may turn a call down by itself
  pub holds-refused : (s : Store) (r : Reference) → Holds s r → (c : Call Page) (n b : ℕ) (fl cd : List ℕ)
      → Borne fmt Near sz r (flipped s fl cd).lent
      → Holds (flipped s fl cd) (fed sz r c (turned_down r.book n b) (flash_cells fmt sz (flipped s fl cd).lent))
  unfolding fed
  holds-refused s r x c n b fl cd = rw x.store_is (λ q. let pg : List Page = flash_pages fmt sz u in let m = x.memory in
      let i = x.inv in
      rw (then-lent fmt Matched Near sz laws pg u.wear u same-pages r m i fl cd q) at
      (turned r _ (then-inv fmt Matched Near sz laws pg u.wear u same-pages r m i fl cd q)))
    where
      turned : (r : Reference) (m : Memory Cell Page) → Inv fmt Matched Near sz laws (flash_pages fmt sz u) u.wear r m
          → Holds (record { cache = record { sizes = sz; directory = r.book.directory }; lent = buffers_of m r.book.wear })
          (fed sz r c (turned_down r.book n b) (flash_cells fmt sz (buffers_of m r.book.wear)))
      turned r m i = rw (cells_are fmt Matched Near sz laws (flash_pages fmt sz u) u.wear r m i)
          (record {
            memory = m;
            store_is = refl;
            inv = refused-next fmt Matched Near sz laws (flash_pages fmt sz u) u.wear r m i
                least_recent (λ j. false) least_recent-picks c n b;
          })

  pub holds-long : (s : Store) (r : Reference) → Holds s r → (n : ℕ) → n < sz.N * sz.K → length (get_or r.array n []) ≡ sz.S
  holds-long s r x n l = let pg : List Page = flash_pages fmt sz u in let m = x.memory in let i = x.inv in
      sym (ap length (read_here fmt Matched Near sz laws pg u.wear r m i least_recent (λ j. false) least_recent-picks n l))
      ∙ read-each (fmt.chip sz) (zero_page sz) (CellFits fmt sz) (OfS fmt sz) (zero-long fmt sz)
      (kept fmt Matched Near sz laws pg u.wear) (given fmt Matched Near sz laws pg u.wear) sz r.book.directory m n i.whole

  pub holds-sound : (s : Store) (r : Reference) → Holds s r → (s.cache.sizes ≡ sz) × (sound sz s.cache.directory ≡ true)
  holds-sound s r x = rw x.store_is (refl, facts-sound sz r.book.directory x.inv.good.numbers)

  pub holds-borne : (s : Store) (r : Reference) → Holds s r → Borne fmt Near sz r s.lent
  holds-borne s r x = rw x.store_is (borne fmt Matched Near sz laws (flash_pages fmt sz u) u.wear r x.memory x.inv)

  pub holds_after : (s : Store) (r : Reference) → Holds s r → (fl cd : List ℕ) → Borne fmt Near sz r (flipped s fl cd).lent
      → After fmt Near sz u (flipped s fl cd) r
  holds_after s r x fl cd = rw x.store_is (λ b. let pg : List Page = flash_pages fmt sz u in let m = x.memory in let i = x.inv in
      rw (then-lent fmt Matched Near sz laws pg u.wear u same-pages r m i fl cd b) at
      (after fmt Matched Near sz laws pg u.wear u same-pages r _
      (then-inv fmt Matched Near sz laws pg u.wear u same-pages r m i fl cd b)))

-- demand 3
pub demand_3 : (fmt : Format) (Matched : Sizes → Cell → Type 0) (Near : Sizes → Cell → Cell → Type 0) (sz : Sizes)
    → Bears fmt Matched Near sz → Demand3 fmt Matched Near sz
demand_3 fmt Matched Near sz laws u h ok cs p = opened-claim fmt Matched Near sz laws u (open_accepted fmt sz u h) ok cs p

-- ---- with the choice of the record's policy

abbrev pub by_policy : List (Call Page) → List Chosen
by_policy [] = []
by_policy (c ∷ cs) = record { choice = policy_choice; besides = λ i. false; call = c } ∷ by_policy cs

pub policy-picks : (cs : List (Call Page)) → AllPick (by_policy cs)
policy-picks [] = tt
policy-picks (c ∷ cs) = (policy_choice-picks, policy-picks cs)

-- ---- where no bit flips

quiet : (fmt : Format) (Near : Sizes → Cell → Cell → Type 0) (sz : Sizes) (u : Buffers) (cs : List Chosen) (s : Store) (r : Reference)
    → Claim fmt Near sz u cs s r → Borne fmt Near sz r s.lent → Quiet fmt Near sz u cs s r
quiet fmt Near sz u [] s r c b = c s.lent.flash s.lent.codes b
quiet fmt Near sz u (t ∷ cs) s r c b = let h = c s.lent.flash s.lent.codes b in
    record {
      answers = h.answers;
      shows = h.shows;
      reads = h.reads;
      borne = h.borne;
      then = quiet fmt Near sz u cs _ _ h.then h.borne;
    }

pub demand_3_quiet : (fmt : Format) (Matched : Sizes → Cell → Type 0) (Near : Sizes → Cell → Cell → Type 0) (sz : Sizes)
    → Bears fmt Matched Near sz
    → (u : Buffers) → (open_store fmt sz u).answer ≡ open_done → ((n : ℕ) → n < sz.N * sz.K
    → Matched sz (get_or (flash_cells fmt sz u) n no_cell))
    → (cs : List Chosen) → AllPick cs → Quiet fmt Near sz u cs (record { cache = (open_store fmt sz u).cache; lent = u }) (opened fmt sz u)
unfolding opened
demand_3_quiet fmt Matched Near sz laws u h ok cs p = let a = open_accepted fmt sz u h in
    quiet fmt Near sz u cs _ (opened fmt sz u) (demand_3 fmt Matched Near sz laws u h ok cs p)
    (record { fits = fits-of fmt sz u a.lent_ok_lem; near = λ n l. laws.near-self _ })
