-- The look before a write, and what becomes of the write by what it foresees.
use mathlib.Core.Path.{◌≡◌, refl, sym, ap, subst, ◌∙◌}
use mathlib.Core.Logic.{◌≢◌}
use mathlib.Core.Bool.{Bool, true, false, cond}
use mathlib.Core.List.{List, []}
use Prim.Native.Nat.{ℕ, ◌+◌, ◌*◌, ◌/◌, ◌≤◌, ◌<◌, ◌^◌}
use native.Mathlib.Omega.{arith}
use lib.Dec.{eqb}
use lib.ListN.{get_or}
use native.Mathlib.Nat.{zero-add}
use borrow.Author.Tests.{eqb-true, eqb-false}
use Rattle.std.proofs.lemmas.Bool.{ne_eqb}
use Rattle.std.specs.Prelude.{Option, None, Some}
use Rattle.prelude.proofs.Tests.{by-test, clash, and_l, and_r, or_false}
use Rattle.model.specs.Sizes.{Sizes, vacant}
use Rattle.model.specs.Directory.{Directory, frame_at, valid_at}
use Rattle.model.specs.Soundness.{Sound}
use Rattle.model.specs.Policy.{Plan, slot_hit, frame_hit, free_slot, join, fill, exchange, evict, way_of, erased_by, is_worn, read_way}
use Rattle.model.specs.Moves.{worn_by, written, merged_by, joined}
use Rattle.model.specs.Calls.{Answer, write_done, refused, is_refused, Outcome, write_outcome, write_merges}
use Rattle.model.specs.Calls.{merges_page, reads_page, fault_met, mends_met, Page, Buffers}
use Rattle.model.proofs.Lookup.{block-lt, block-vacant}
use Rattle.model.proofs.Steps as steps
use Rattle.model.proofs.Merges.{merges-block, reads_merged}
use Rattle.address.specs.declared.BlockNo.{BlockNo}
use Rattle.cache.specs.declared.Directory as listed
use Rattle.cache.specs.View.{block_no, directory_of}
use Rattle.policy.specs.declared.decision.Plan as code
use Rattle.policy.specs.Views.{plan_of}
use Rattle.chip.specs.declared.BlockSeen.{BlockSeen}
use Rattle.chip.specs.declared.Seen.{Seen}
use Rattle.chip.specs.Chip.{fault_on, mends_on, fault_in, mends_in, mend_set, worse_of, most_mends}
use Rattle.chip.proofs.Looking.{fault-none, mends-none, mends-few, fault-or, mends-or, none-worse}
use Rattle.clean.specs.Clean.{Lookable, MergesLooked}
use Rattle.answer.specs.declared.fault.Fault.{Fault}
use Rattle.answer.specs.declared.fault.Fault.TheVariants as faults
use Rattle.answer.specs.declared.Refusal.TheVariants as why
use Rattle.answer.specs.Numbers.{refusal_for, fault_number}
use Rattle.answer.specs.Carried.{buffers}
use Rattle.answer.proofs.Refusals.{fault_refused}
use Rattle.answer.proofs.Heeding.{down-before, down-late, goes_on}
use Rattle.writes.proofs.Listed.{frame-block}
use Rattle.writes.proofs.Ways.{Still, still}
use Rattle.writes.specs.Ahead.{erased_frame, Foreseen, TurnedDown}
use Rattle.writes.specs.declared.ahead.Outlook.{Outlook}
use Rattle.writes.specs.Writes.{Writable, Beside, write_reads, Wrote, PlanHolds, mend_by, Carries, CarriedOut, state}

-- ---- the look at what a plan does

-- a fault's number
some-fault : (fault : Fault) → fault_number (Some fault) ≢ 0
some-fault faults.Unreadable e = omega arith
some-fault faults.Torn e = omega arith

no-fault : (fault : Option Fault) → worse_of 0 (fault_number fault) ≡ fault_number fault
no-fault None = refl
no-fault (Some faults.Unreadable) = refl
no-fault (Some faults.Torn) = refl

-- a plan that erases a block is an eviction
evicting : (p : Plan) (f : ℕ) → erased_frame p ≡ Some f → (v : ℕ) × (p ≡ evict v f)
evicting (slot_hit i) f e = absurd (cc)
evicting (frame_hit g) f e = absurd (cc)
evicting (free_slot i) f e = absurd (cc)
evicting (join v g) f e = absurd (cc)
evicting (fill v g) f e = absurd (cc)
evicting (exchange v g) f e = absurd (cc)
evicting (evict v g) f e = (v, cc)

-- ---- a page that is read besides

-- what a plan merges is of the block that it erases
pub merges-erased : (sz : Sizes) (d : Directory) (p : Plan) (i : ℕ) → write_merges sz d p i ≡ true → i / sz.K ≡ erased_by d p
merges-erased sz d (slot_hit x) i h = clash h refl
merges-erased sz d (frame_hit x) i h = clash h refl
merges-erased sz d (free_slot x) i h = clash h refl
merges-erased sz d (join v f) i h = clash h refl
merges-erased sz d (fill v f) i h = clash h refl
merges-erased sz d (exchange v f) i h = clash h refl
merges-erased sz d (evict v f) i h = merges-block sz d (frame_at d f) f i h

module _ (sz : Sizes) (d : Directory) (s : Sound sz d) (n : ℕ) (l : n < sz.N * sz.K) where
  no_block : n / sz.K ≡ vacant → ⊥
  no_block e = let b = block-vacant sz s.limits (n / sz.K) (block-lt sz s.limits n l) in omega arith

  -- a page that a read finds in flash, of the block that is erased, is merged
  pub erased-merges : (p : Plan) → PlanHolds sz d p → read_way sz d n ≡ 3 → n / sz.K ≡ erased_by d p → write_merges sz d p n ≡ true
  erased-merges (slot_hit i) h w e = absurd (no_block e)
  erased-merges (frame_hit f) h w e = absurd (no_block e)
  erased-merges (free_slot i) h w e = absurd (no_block e)
  erased-merges (join v f) h w e = absurd (no_block e)
  erased-merges (fill v f) h w e = absurd (no_block e)
  erased-merges (exchange v f) h w e = absurd (no_block e)
  erased-merges (evict v f) h w e = reads_merged sz d s (frame_at d f) f (steps.ready-frame sz d s f h.0.frame-lt
      (block-vacant sz s.limits (frame_at d f) h.0.block-lt)) n l w e

  module _ (p : Plan) (h : PlanHolds sz d p) (besides : ℕ → Bool) (within : (i : ℕ) → besides i ≡ true → reads_page sz d n i ≡ true) where
    page-is : (i : ℕ) → besides i ≡ true → i ≡ n
    unfolding reads_page
    page-is i b = eqb-true i n (and_l (eqb i n) _ (within i b))

    way-is : (i : ℕ) → besides i ≡ true → read_way sz d n ≡ 3
    unfolding reads_page
    way-is i b = eqb-true (read_way sz d n) 3 (and_r (eqb i n) _ (within i b))

    -- in the block that is erased it is among the merge reads
    same_reads : n / sz.K ≡ erased_by d p → (i : ℕ) → write_reads sz d p besides i ≡ write_merges sz d p i
    same_reads e i = by-test (besides i)
        (λ b. let m : write_merges sz d p i ≡ true = rw (page-is i b) (erased-merges p h (way-is i b) e) in rw m)
        (λ b. rw b (or_false (write_merges sz d p i)))

    -- so that its mends count once
    pub mends-union : (mends : ℕ → ℕ) → mends_met sz mends (write_reads sz d p besides)
        ≡ cond (eqb (n / sz.K) (erased_by d p)) (mends_met sz mends (write_merges sz d p))
        (mends_met sz mends (write_merges sz d p) + mends_met sz mends besides)
    mends-union mends = by-test (eqb (n / sz.K) (erased_by d p))
        (λ t. let e = same_reads (eqb-true _ _ t) in rw t (λ j. mends_met sz mends (λ i. e i j)))
        (λ t. rw t (mends-or sz mends (write_merges sz d p) besides
        (λ i il m b. eqb-false (n / sz.K) (erased_by d p) t (rw (page-is i b) at (merges-erased sz d p i m)))))

-- ---- what becomes of the write

module _ (sz : Sizes) (d : Directory) (u : Buffers) (n : ℕ) (page : Page) (beside : Seen) (p : Plan) (ops : ℕ) where
  -- the block is worn
  pub wrote-worn : is_worn sz u.wear (erased_by d p) ≡ true → Wrote sz d u n page p beside ops (refused 6 (erased_by d p)) 0 d u
  unfolding write_outcome
  wrote-worn w besides b = down-before refl _ (write_outcome sz (state d u) n p) 6 (erased_by d p) (rw (w, write_outcome))

  module _ (w : is_worn sz u.wear (erased_by d p) ≡ false) where
    accepted-is : write_outcome sz (state d u) n p ≡ record {
      answer = write_done (way_of p) (erased_by d p) (merged_by sz d p);
      state = record { directory = written sz d n p; wear = worn_by u.wear (erased_by d p) };
    }
    unfolding write_outcome
    accepted-is = rw (w, write_outcome)

    accepted : is_refused (write_outcome sz (state d u) n p).answer ≡ false
    accepted = ap (λ (o : Outcome). is_refused o.answer) accepted-is

    late_is : (besides : ℕ → Bool) → Beside sz d u n besides beside
        → fault_in sz u (write_reads sz d p besides) ≡ worse_of (fault_in sz u (write_merges sz d p)) (fault_number beside.fault)
    late_is besides b = fault-or sz (fault_on sz u.flash u.codes u.marks) (write_merges sz d p) besides
        ∙ ap (worse_of (fault_in sz u (write_merges sz d p))) (sym b.fault-is)

    -- what is read meets a refusal
    pub wrote-late : (fault : ℕ) → fault ≡ worse_of (fault_in sz u (write_merges sz d p)) (fault_number beside.fault) → fault ≢ 0
        → Wrote sz d u n page p beside ops (refused fault vacant) 0 d u
    wrote-late fault e ne besides b =
        let late : fault_in sz u (write_reads sz d p besides) ≡ fault = late_is besides b ∙ sym e in
        rw (← late) (down-late refl (fault_in sz u (write_reads sz d p besides)) (write_outcome sz (state d u) n p) accepted
        (λ z. ne (sym late ∙ z)))

    -- or none
    wrote-all : Sound sz d → n < sz.N * sz.K → PlanHolds sz d p
        → worse_of (fault_in sz u (write_merges sz d p)) (fault_number beside.fault) ≡ 0 → (mends : ℕ)
        → mends ≡ cond (eqb (n / sz.K) (erased_by d p)) (mends_in sz u (write_merges sz d p))
        (mends_in sz u (write_merges sz d p) + beside.mends)
        → {answer : Answer} {mended : ℕ} {d' : Directory} {u' : Buffers} → CarriedOut sz d u n page p mends ops answer mended d' u'
        → Wrote sz d u n page p beside ops answer mended d' u'
    wrote-all s l h none mends me {answer} {mended} {d'} {u'} c besides b =
        let late : fault_in sz u (write_reads sz d p besides) ≡ 0 = late_is besides b ∙ none in
        let total = mends-union sz d s n l p h besides b.within
        (mends_on sz u.flash u.codes u.marks) in
        let is : mended ≡ mends_in sz u (write_reads sz d p besides) = c.mends-are ∙ me
        ∙ ap (λ (x : ℕ). cond (eqb (n / sz.K) (erased_by d p)) (mends_in sz u (write_merges sz d p))
        (mends_in sz u (write_merges sz d p) + x)) b.mends-are ∙ sym total in
        goes_on (state d u) (fault_in sz u (write_reads sz d p besides)) (write_outcome sz (state d u) n p) late accepted
        (rw accepted-is (record {
          refused-is = ap is_refused c.answer-is;
          left_is = c.left_is;
          whole = λ e. record {
            answer-is = c.answer-is;
            mends-are = is;
            directory-is = c.directory-is;
            wear-is = c.wear-is e;
            pages-are = c.pages-are e;
          };
          down = λ e. clash e refl;
        }))

-- ---- what the look finds

module _ (sz : Sizes) (d : Directory) (flash codes marks wear : List ℕ) (n : ℕ) (p : Plan) (beside : Seen) where
  abbrev merged_faults : ℕ
  merged_faults = fault_met sz (fault_on sz flash codes marks) (write_merges sz d p)

  abbrev merged_mends : ℕ
  merged_mends = mends_met sz (mends_on sz flash codes marks) (write_merges sz d p)

  -- a fault is met
  turned-late : is_worn sz wear (erased_by d p) ≡ false → (fault : Fault)
      → fault_number (Some fault) ≡ worse_of merged_faults (fault_number beside.fault)
      → TurnedDown sz d flash codes marks wear n p beside (refusal_for fault)
  turned-late w fault e pspace bspace page ops = rw fault_refused
      (wrote-late sz d (buffers flash codes marks wear pspace bspace) n page beside p ops w _ e (some-fault fault))

  -- no block is erased
  module _ (e : erased_frame p ≡ None) where
    quiet : Still sz d (buffers flash codes marks wear [] []) p
    quiet = still sz d (buffers flash codes marks wear [] []) p e

    unworn : is_worn sz wear (erased_by d p) ≡ false
    unfolding is_worn
    unworn = rw quiet.erases

    meets : worse_of merged_faults (fault_number beside.fault) ≡ fault_number beside.fault
    meets = rw (fault-none sz flash codes marks (write_merges sz d p) quiet.reads) (no-fault beside.fault)

    pub beside-late : (fault : Fault) → beside.fault ≡ Some fault → TurnedDown sz d flash codes marks wear n p beside (refusal_for fault)
    beside-late fault is = turned-late unworn fault (sym (ap fault_number is) ∙ sym meets)

    pub still-foreseen : Sound sz d → n < sz.N * sz.K → (q : code.Plan) → plan_of q ≡ p → beside.fault ≡ None
        → Foreseen sz d flash codes marks wear n p beside (record { plan = q; mends = beside.mends; mend = 0 })
    still-foreseen s l q is none = let b = block-vacant sz s.limits (n / sz.K) (block-lt sz s.limits n l) in record {
      plan-is = is;
      unworn = unworn;
      faultless = meets ∙ ap fault_number none;
      mends-are = rw (
        quiet.erases,
        mends-none sz flash codes marks (write_merges sz d p) quiet.reads,
        ne_eqb (n / sz.K) vacant (omega arith),
      )
          (sym (zero-add beside.mends));
      mend-is = sym quiet.mends;
    }

-- plan p erases block b, that of frame f
pub record Erases (sz : Sizes) (d : Directory) (p : Plan) (b f : ℕ) : Type 0 where
  pub sound : Sound sz d
  pub frame-is : erased_frame p ≡ Some f
  pub frame-lt : f < sz.B
  pub block-is : b ≡ frame_at d f
  pub block-lt : b < sz.N

-- the code's record, whose plan erases a block
pub erases-block : (sz : Sizes) (d : listed.Directory) (p : Plan) (f : ℕ) → Sound sz (directory_of d) → PlanHolds sz (directory_of d) p
    → erased_frame p ≡ Some f → Erases sz (directory_of d) p (get_or d.frames f (block_no 0)).0 f
erases-block sz d p f s h e =
    let v = evicting p f e in
    let g = (subst (PlanHolds sz (directory_of d)) v.1 h).0 in
    let b = frame-block sz d f s g.frame-lt in
    record { sound = s; frame-is = e; frame-lt = g.frame-lt; block-is = b; block-lt = rw b g.block-lt }

module _ {sz : Sizes} {d : Directory} {p : Plan} {b f : ℕ} (q : Erases sz d p b f) where
  pub frame-small : f < 8
  frame-small = let l = q.frame-lt in let h = q.sound.limits.B_high in omega arith

  pub lookable : Lookable sz d b f
  lookable = record {
    sound = q.sound;
    block = rw q.block-is (steps.ready-frame sz d q.sound f q.frame-lt
        (block-vacant sz q.sound.limits (frame_at d f) (rw (← q.block-is) q.block-lt)));
  }

  module _ (flash codes marks wear : List ℕ) (n : ℕ) (beside : Seen) where
    erases : (erased_by d p ≡ b) × (mend_by sz d flash codes p ≡ mend_set sz flash codes b (valid_at (joined sz d b f) f))
        × (merged_faults sz d flash codes marks wear n p beside ≡ fault_met sz (fault_on sz flash codes marks) (merges_page sz d b f))
        × (merged_mends sz d flash codes marks wear n p beside ≡ mends_met sz (mends_on sz flash codes marks) (merges_page sz d b f))
    erases = let v = evicting p f q.frame-is in rw (v.1, q.block-is) (refl, refl, refl, refl)

    pub turned-worn : (block : BlockNo) → block.0 ≡ b → is_worn sz wear b ≡ true
        → TurnedDown sz d flash codes marks wear n p beside (why.Worn block)
    turned-worn block is w pspace bspace page ops = rw (is, ← erases.0)
        (wrote-worn sz d (buffers flash codes marks wear pspace bspace) n page beside p ops (rw erases.0 w))

    module _ (w : is_worn sz wear b ≡ false) (seen : BlockSeen) (k : MergesLooked sz d flash codes marks b f seen) where
      pub looked-late : (fault : Fault) → fault_number (Some fault) ≡ worse_of (fault_number seen.fault) (fault_number beside.fault)
          → TurnedDown sz d flash codes marks wear n p beside (refusal_for fault)
      looked-late fault is = turned-late sz d flash codes marks wear n p beside (rw erases.0 w) fault
          (is ∙ ap (λ (x : ℕ). worse_of x (fault_number beside.fault)) (k.fault-is ∙ sym erases.2))

      pub few-mends : beside.mends ≤ most_mends → seen.mends + beside.mends < 2 ^ 32
      few-mends l = let h = mends-few sz q.sound.limits flash codes marks (merges_page sz d b f) in let m = k.mends-are in omega arith

      pub looked-foreseen : (o : code.Plan) → plan_of o ≡ p
          → fault_number None ≡ worse_of (fault_number seen.fault) (fault_number beside.fault)
          → (mends : ℕ) → mends ≡ cond (eqb (n / sz.K) b) seen.mends (seen.mends + beside.mends)
          → Foreseen sz d flash codes marks wear n p beside (record { plan = o; mends = mends; mend = seen.mend })
      looked-foreseen o is none mends me = record {
        plan-is = is;
        unworn = rw erases.0 w;
        faultless = rw (erases.2, ← k.fault-is) (sym none);
        mends-are = rw (erases.0, erases.3, ← k.mends-are) me;
        mend-is = k.mend-is ∙ sym erases.1;
      }

-- ---- the write goes on

module _ {sz : Sizes} {d : Directory} {flash codes marks wear pspace bspace : List ℕ} {n : ℕ} {page : Page} {beside : Seen} {p : Plan}
    {r : Outlook} (q : Writable sz d (buffers flash codes marks wear pspace bspace) n page beside) (h : PlanHolds sz d p)
    (o : Foreseen sz d flash codes marks wear n p beside r) where
  pub may-carry : Carries sz d (buffers flash codes marks wear pspace bspace) page (plan_of r.plan) r.mend
  may-carry = rw o.plan-is (record {
    ready = q.ready;
    page-length = q.page-length;
    holds = h;
    unworn = o.unworn;
    faultless = none-worse sz _ (write_merges sz d p) _ o.faultless;
    mend-is = o.mend-is;
  })

  pub goes-wrote : {ops mended : ℕ} {answer : Answer} {d' : Directory} {u' : Buffers}
      → CarriedOut sz d (buffers flash codes marks wear pspace bspace) n page (plan_of r.plan) r.mends ops answer mended d' u'
      → Wrote sz d (buffers flash codes marks wear pspace bspace) n page p beside ops answer mended d' u'
  goes-wrote {ops} c = wrote-all sz d (buffers flash codes marks wear pspace bspace) n page beside p ops o.unworn q.ready.sound q.page-lt h
      o.faultless r.mends o.mends-are (rw o.plan-is at c)
