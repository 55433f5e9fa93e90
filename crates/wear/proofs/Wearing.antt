-- Every call wears as its answer says, and what that does to the report: the proofs of specs/Wearing.
use Rattle.std.proofs.Common.{◌≡◌, ℕ, ◌+◌, ◌*◌, ◌<◌, Bool, true, false, ◌&&◌, eqb, ltb, leb, List, length, sym, refl, ap, ◌∙◌, inl, inr}
use Rattle.std.proofs.Common.{arith, lt-ltb, le-leb}
use borrow.Author.Tests.{lt-leb}
use Rattle.prelude.proofs.Tests.{by-test, clash}
use Rattle.prelude.proofs.Scan.{all_of, all-fails}
use Rattle.model.specs.Sizes.{Sizes, vacant}
use Rattle.model.specs.Soundness.{sound, Sound}
use Rattle.model.specs.Policy.{Choice, Plan, victim, plan, way_of, erased_by, due_of, is_worn, lowest_worn}
use Rattle.model.specs.Moves.{worn, worn_by}
use Rattle.model.specs.Calls.{Answer, open_done, read_done, write_done, step_done, step_clean, flush_done, refused, is_refused}
use Rattle.model.specs.Calls.{Call, read, write, part, step, flush, State, Outcome, checked, read_outcome, write_outcome, part_outcome}
use Rattle.model.specs.Calls.{step_outcome, flush_outcome, decide, heeding, Page, Format, lent_ok, Store, Result, buffers_of, state_of}
use Rattle.model.specs.Calls.{told}
use Rattle.model.specs.Calls.{carried_out, call_reading}
use Rattle.model.specs.Formats.{store_format}
use Rattle.model.specs.Lists.{Picks}
use Rattle.model.specs.Shelf.{ShelfStore, ShelfCall, shelf_ok, is_back, shelved, ordinary, shelf_call, store_call}
use Rattle.model.proofs.Soundness.{sound-facts}
use Rattle.model.proofs.Lookup.{block-vacant}
use Rattle.model.proofs.Plan.{occupied-all, evict-pick, eviction_elim, plan-elim}
use Rattle.model.proofs.Steps.{due-elim}
use Rattle.wear.specs.Figures.{wear_at, total, largest, spread, erased_once, in_limit}
use Rattle.wear.specs.Report.{Reported, figures, turned_down, record_ok, buffers_ok, reported}
use Rattle.wear.specs.Report.{RefusesRecordRule, RefusesBufferRule, RefusesOverwornRule, GivesRule}
use Rattle.wear.specs.Wearing.{Wears, WearRule, wear_of, StaysAcceptedRule, ErasedOnceMore, ReportChangesRule, ReportStaysRule}
use Rattle.wear.proofs.Change.{erased-total, erased-largest, change-rule, change-at_most_rule}
use Rattle.wear.proofs.Staying.{Fine, long-wear, stays-fine}

-- ---- a call over numbers

-- a refused call leaves the wear
refused-wears : (sz : Sizes) (a : Answer) (w : List ℕ) → is_refused a ≡ true → Wears sz a w w
refused-wears sz open_done w e = refl
refused-wears sz (read_done way) w e = refl
refused-wears sz (write_done way b m) w e = clash e refl
refused-wears sz (step_done b m) w e = clash e refl
refused-wears sz step_clean w e = refl
refused-wears sz (flush_done r m) w e = tt
refused-wears sz (refused n b) w e = refl

module _ (pick : Choice) (picks : Picks pick) (sz : Sizes) (k : State) (s : Sound sz k.directory) where
  abbrev Worn : Outcome → Type 0
  Worn o = Wears sz o.answer k.wear o.state.wear

  -- a block below N is erased once
  erases : (b : ℕ) → b < sz.N → worn_by k.wear b ≡ erased_once k.wear b
  unfolding worn_by worn erased_once
  erases b l = rw (lt-ltb b vacant (block-vacant sz s.limits b l))

  -- way 7 erases a block below N, every other way none
  plan-wears : (n m : ℕ) → let p = plan pick sz k.directory k.wear n in
      Wears sz (write_done (way_of p) (erased_by k.directory p) m) k.wear (worn_by k.wear (erased_by k.directory p))
  unfolding worn_by
  plan-wears n m = let d = k.directory in let w = k.wear in
      let Q : Plan → Type 0 = λ p. Wears sz (write_done (way_of p) (erased_by d p) m) w (worn_by w (erased_by d p)) in
      plan-elim pick sz d w Q n (λ a. inr (omega arith, refl, refl)) (λ a b. inr (omega arith, refl, refl))
      (λ a b c. inr (omega arith, refl, refl)) (λ a b c. eviction_elim pick sz d w Q (victim sz d)
      (λ q. inr (omega arith, refl, refl)) (λ q r. inr (omega arith, refl, refl)) (λ q r t. inr (omega arith, refl, refl))
      (λ q r t. let l = occupied-all sz d s r _ (evict-pick sz d s pick picks w) in inl (refl, l, erases _ l)))

  write-wears : (n : ℕ) → Worn (write_outcome sz k n (plan pick sz k.directory k.wear n))
  unfolding write_outcome
  write-wears n = by-test (is_worn sz k.wear (erased_by k.directory (plan pick sz k.directory k.wear n)))
      (λ e. rw (e, write_outcome) refl)
      (λ e. rw (e, write_outcome) (plan-wears n 0))

  checked-wears : (n long : ℕ) (o : Outcome) → Worn o → Worn (checked sz k n long o)
  unfolding checked
  checked-wears n long o h = by-test (eqb long sz.S)
      (λ e. rw (e, checked) (by-test (ltb n (sz.N * sz.K)) (λ e'. rw e' h) (λ e'. rw e' refl)))
      (λ e. rw (e, checked) refl)

  part-wears : (first many : ℕ) (o : Outcome) → Worn o → Worn (part_outcome sz k first many o)
  unfolding part_outcome
  part-wears first many o h = by-test (leb (first + many) sz.S)
      (λ e. rw (e, part_outcome) (by-test (eqb many 0) (λ e'. rw e' (inr (omega arith, refl, refl))) (λ e'. rw e' h)))
      (λ e. rw (e, part_outcome) refl)

  step-wears : Worn (step_outcome sz k (due_of pick sz k.directory))
  unfolding step_outcome
  step-wears = due-elim sz k.directory s pick picks (λ q. Worn (step_outcome sz k q))
      (λ b f y. by-test (is_worn sz k.wear b)
      (λ e. rw (e, step_outcome) refl)
      (λ e. rw (e, step_outcome) (y.b_lt, erases b y.b_lt)))
      (λ e. refl)

  flush-wears : Worn (flush_outcome pick sz k)
  unfolding flush_outcome
  flush-wears = by-test (ltb (lowest_worn sz k.directory k.wear) sz.N)
      (λ e. rw (e, flush_outcome) refl)
      (λ e. rw (e, flush_outcome) tt)

  decide-wears : (c : Call ℕ) → Worn (decide pick sz k c)
  unfolding decide read_outcome
  decide-wears (read n long) = checked-wears n long _ refl
  decide-wears (write n long) = checked-wears n long _ (write-wears n)
  decide-wears (part n first many long) = checked-wears n long _ (part-wears first many _ (write-wears n))
  decide-wears step = step-wears
  decide-wears flush = flush-wears

  heeding-wears : (late : ℕ) (o : Outcome) → Worn o → Worn (heeding k late o)
  unfolding heeding
  heeding-wears late o h = by-test (is_refused o.answer)
      (λ e. rw (e, heeding) h)
      (λ e. rw (e, heeding) (by-test (eqb late 0) (λ e'. rw e' h) (λ e'. rw e' refl)))

-- ---- a call over buffers

module _ (fmt : Format) (pick : Choice) (besides : ℕ → Bool) (s : Store) (c : Call Page) where
  abbrev Wore : Result → Type 0
  Wore r = Wears s.cache.sizes r.answer s.lent.wear r.store.lent.wear

  carried-wears : (o : Outcome) → Wears s.cache.sizes o.answer s.lent.wear o.state.wear
      → Wore (carried_out fmt pick s c besides o)
  unfolding carried_out buffers_of
  carried-wears o h = by-test (is_refused o.answer)
      (λ e. rw (e, carried_out) (refused-wears s.cache.sizes o.answer s.lent.wear e))
      (λ e. rw (e, carried_out) h)

  reading-wears : Picks pick → Wore (call_reading fmt pick besides s c)
  unfolding call_reading
  reading-wears picks = by-test (sound s.cache.sizes s.cache.directory)
      (λ h. rw (h, call_reading) (by-test (lent_ok fmt s.cache.sizes s.lent)
      (λ e. rw e (carried-wears _ (let d = sound-facts _ _ h in heeding-wears pick picks s.cache.sizes (state_of s) d _ _
      (decide-wears pick picks s.cache.sizes (state_of s) d (told c)))))
      (λ e. rw e refl)))
      (λ h. rw (h, call_reading) refl)

pub wear-rule : WearRule
unfolding shelf_call ordinary
wear-rule pick picks s c =
    let sz = s.store.cache.sizes in
    by-test (sound sz s.store.cache.directory && shelf_ok sz sz.shelf_pages s.entries)
    (λ h. rw (h, shelf_call) (by-test (lent_ok store_format sz s.store.lent && eqb (length s.shelf) (sz.shelf_pages * sz.S))
    (λ e. rw e (by-test (is_back c && eqb (shelved s.entries) 0)
    (λ q. rw q refl)
    (λ q. rw q (reading-wears store_format pick _ s.store _ picks))))
    (λ e. rw e refl)))
    (λ h. rw (h, shelf_call) refl)

-- ---- the report

pub refuses-record_rule : RefusesRecordRule
unfolding reported
refuses-record_rule s h = rw (h, reported)

pub refuses-buffer_rule : RefusesBufferRule
unfolding reported
refuses-buffer_rule s h e = rw (h, reported) (rw e)

pub refuses-overworn_rule : RefusesOverwornRule
unfolding reported in_limit
refuses-overworn_rule s h e b l w = let n = long-wear s e in
    rw (h, reported) (rw e (rw (all-fails (length (wear_of s)) (λ i. leb (wear_at (wear_of s) i) s.store.cache.sizes.W) b (omega arith)
    (lt-leb (wear_at (wear_of s) b) s.store.cache.sizes.W w))))

pub gives-rule : GivesRule
unfolding reported in_limit
gives-rule s h e f = let n = long-wear s e in
    rw (h, reported) (rw e (rw (all_of (length (wear_of s)) (λ i. leb (wear_at (wear_of s) i) s.store.cache.sizes.W)
    (λ i l. le-leb (wear_at (wear_of s) i) s.store.cache.sizes.W (f i (omega arith))))))

abbrev is_figures : Reported → Bool
is_figures (figures t l v) = true
is_figures (turned_down n) = false

abbrev total_in : Reported → ℕ
total_in (figures t l v) = t
total_in (turned_down n) = 0

abbrev largest_in : Reported → ℕ
largest_in (figures t l v) = l
largest_in (turned_down n) = 0

abbrev spread_in : Reported → ℕ
spread_in (figures t l v) = v
spread_in (turned_down n) = 0

-- the figures of the wear
abbrev pub figures_of : ShelfStore → Reported
figures_of s = figures (total (wear_of s)) (largest (wear_of s)) (spread (wear_of s))

-- an accepted report passed all checks
pub fine_of : (s : ShelfStore) → is_figures (reported s) ≡ true → Fine s
unfolding reported
fine_of s = by-test (record_ok s)
    (λ a. rw (a, reported) (by-test (buffers_ok s)
    (λ b. rw b (by-test (in_limit (wear_of s) s.store.cache.sizes.W)
    (λ i. λ e. record { record_ok_lem = a; buffers-ok = b; in_limit_lem = i })
    (λ i. rw i (λ e. clash e refl))))
    (λ b. rw b (λ e. clash e refl))))
    (λ a. rw (a, reported) (λ e. clash e refl))

-- and where they pass it is accepted
pub fine_report : (s : ShelfStore) → Fine s → reported s ≡ figures_of s
unfolding reported
fine_report s f = rw (f.record_ok_lem, reported) (rw f.buffers-ok (rw f.in_limit_lem refl))

module _ (s : ShelfStore) (t l v : ℕ) (e : reported s ≡ figures t l v) where
  accepted : Fine s
  accepted = fine_of s (ap is_figures e)

  figures-are : figures t l v ≡ figures_of s
  figures-are = sym e ∙ fine_report s accepted

  total-is : t ≡ total (wear_of s)
  total-is = ap total_in figures-are

  largest-is : l ≡ largest (wear_of s)
  largest-is = ap largest_in figures-are

  spread-is : v ≡ spread (wear_of s)
  spread-is = ap spread_in figures-are

  long : length (wear_of s) ≡ s.store.cache.sizes.N
  long = long-wear s accepted.buffers-ok

  module _ (pick : Choice) (picks : Picks pick) (c : ShelfCall) where
    after : reported (store_call pick s c).store ≡ figures_of (store_call pick s c).store
    after = fine_report _ (stays-fine s accepted pick picks c)

    -- the figures after one more erasure of block b
    changed : (b : ℕ) → b < s.store.cache.sizes.N → wear_of (store_call pick s c).store ≡ erased_once (wear_of s) b
        → ErasedOnceMore s.store.cache.sizes.N (wear_at (wear_of s) b) t l v (reported (store_call pick s c).store)
    changed b h q = let bl : b < length (wear_of s) = rw long h in
        rw (after, q, total-is, largest-is, spread-is, sym long) (
          spread (erased_once (wear_of s) b),
          (λ i. figures (erased-total (wear_of s) b bl i) (erased-largest (wear_of s) b bl i) (spread (erased_once (wear_of s) b))),
          change-rule (wear_of s) b bl,
          change-at_most_rule (wear_of s) b bl,
        )

pub stays-accepted_rule : StaysAcceptedRule
stays-accepted_rule pick picks s c t l v e = after s t l v e pick picks c

pub report_changes_rule : ReportChangesRule
report_changes_rule pick picks s c b m named t l v e =
    let w = wear-rule pick picks s c in
    elim named [
      | inl a ↦ elim (rw a at w) [
        | inl q ↦ changed s t l v e pick picks c b q.1 q.2
        | inr q ↦ absurd (let z = q.0 in omega arith)
      ]
      | inr a ↦ (let q = (rw a at w) in changed s t l v e pick picks c b q.0 q.1)
    ]

pub report_stays_rule : ReportStaysRule
report_stays_rule pick picks s c way b m named t l v e =
    let w = wear-rule pick picks s c in
    let same : wear_of (store_call pick s c).store ≡ wear_of s → reported (store_call pick s c).store ≡ figures t l v =
    λ q. after s t l v e pick picks c ∙ ap (λ (x : List ℕ). figures (total x) (largest x) (spread x)) q ∙ sym (figures-are s t l v e) in
    elim named [
      | inl a ↦ same (rw a at w)
      | inr a ↦ elim (rw a.0 at w) [ inl q ↦ absurd (a.1 q.0) | inr q ↦ same q.2 ]
    ]
