-- The laws of the calls hold: each of the tests, in its order, passes or fails as the law's facts say.
use mathlib.Core.Path.{◌≡◌, refl, ap, ◌∙◌}
use mathlib.Core.Bool.{Bool, true, false, ◌&&◌}
use mathlib.Core.List.{[]}
use Prim.Native.Nat.{ℕ, zero, suc, ◌+◌, ◌*◌, ◌≤◌, ◌<◌}
use native.Mathlib.Omega.{arith}
use lib.Dec.{leb, ltb, eqb}
use lib.Arith.{digits_lt}
use lib.ListN.{length, get_or}
use borrow.Author.Tests.{ltb-true, eqb-true, lt-ltb, le-ltb, le-leb, lt-leb, eq-eqb, ne_eqb}
use Rattle.prelude.specs.Scan.{first, count}
use Rattle.prelude.proofs.Tests.{by-test, clash, fails, and_l, and_r, and_i}
use Rattle.prelude.proofs.Scan.{first-at, first-hit, count-le}
use Rattle.prelude.proofs.Tab.{get_d_tab}
use Rattle.prelude.proofs.Pages.{page-at}
use Rattle.model.specs.Sizes.{Sizes, vacant}
use Rattle.model.specs.Directory.{Directory, frame_at}
use Rattle.model.specs.Soundness.{sound, Sound}
use Rattle.model.specs.Policy.{Choice, Plan, plan, way_of, slot_hit, frame_hit, free_slot, join, fill, exchange, evict, due, due_of}
use Rattle.model.specs.Policy.{cached, is_worn, lowest_worn}
use Rattle.model.specs.Moves.{Chip, Memory, worn_by, stepped, stepped_pages, written}
use Rattle.model.specs.Calls.{Answer, open_done, read_done, write_done, step_done, step_clean, flush_done, refused, is_refused, Call, read}
use Rattle.model.specs.Calls.{write, part, step, flush, State, Outcome, checked, read_outcome, write_outcome, part_outcome, step_outcome}
use Rattle.model.specs.Calls.{steps, flush_outcome, decide, some_page, fault_met, mends_met, heeding, steps_pages, Page, Cell, Format}
use Rattle.model.specs.Calls.{combined, call_pages, lent_ok, Fits, Store, zero_page, flash_cells, memory_of, state_of, told, fault_of}
use Rattle.model.specs.Calls.{mends_of}
use Rattle.model.specs.Calls.{carried_out, lent_buffer, buffers_of, call_reading, call}
use Rattle.model.specs.Lists.{Picks}
use Rattle.model.specs.RulesCalls.{RefusedRule, CellRule, MemoryRule, ToldRule, HeedsRule, NoneMeets, MeetsRule, CallRule}
use Rattle.model.specs.RulesCalls.{RefusesRecordRule, RefusesBufferRule, Good, says, RefusesThenRule, is_read, fault_at}
use Rattle.model.specs.RulesCalls.{RefusesUnreadableRule, RefusesTornRule, Passes, unsound, lengths, turned, unreadable, torn}
use Rattle.model.specs.RulesCalls.{accepted, CasesRule, AcceptsRule, AcceptsMendsRule, KeepsPageRule}
use Rattle.model.specs.RulesCalls.{FillsReadRule, FillsWriteRule, FillsPartRule, FillsNothingRule, RefusesLengthRule, RefusesPageRule}
use Rattle.model.specs.RulesCalls.{AnswersReadRule, AnswersWriteRule, AnswersEvictRule, RefusesWornRule, RefusesReachRule}
use Rattle.model.specs.RulesCalls.{AnswersNothingRule, AnswersPartRule, AnswersCleanRule, AnswersStepRule, RefusesStepRule}
use Rattle.model.specs.RulesCalls.{RefusesFlushRule, AnswersFlushRule, ReadKeepsRule, NothingKeepsRule, CleanKeepsRule}
use Rattle.model.specs.RulesCalls.{PagesWriteRule, PagesPartRule, PagesStepRule, PagesUntilClean, PagesFlushRule}
use Rattle.model.proofs.Soundness.{sound-facts}
use Rattle.model.proofs.Lookup.{block-vacant}
use Rattle.model.proofs.Buffers.{fits-of, buffers_of-memory}
use Rattle.model.proofs.Steps.{due-elim, cached-less, stepped-sound}
use Rattle.model.proofs.Calls.{flush-is_steps}
use Rattle.model.proofs.RulesRecord.{lengths-rule, sound-rule}
use Rattle.model.proofs.RulesMoves.{merges-rule}
use Rattle.model.proofs.RulesPolicy.{flush-names_rule, flush-free_rule}

-- ---- words

pub refused-rule : RefusedRule
refused-rule a = (by_answer a, λ h. ap is_refused h.2)
  where
    by_answer : (a : Answer) → is_refused a ≡ true → (r : ℕ) × (b : ℕ) × (a ≡ refused r b)
    by_answer open_done h = clash h refl
    by_answer (read_done way) h = clash h refl
    by_answer (write_done way b m) h = clash h refl
    by_answer (step_done b m) h = clash h refl
    by_answer step_clean h = clash h refl
    by_answer (flush_done r m) h = clash h refl
    by_answer (refused r b) h = (r, b, refl)

pub cell-rule : CellRule
unfolding memory_of flash_cells
cell-rule fmt sz u c n l = let e = get_d_tab (sz.N * sz.K) _ c n l in
    (ap (λ (x : Cell). x.bytes) e, ap (λ (x : Cell). x.code) e, ap (λ (x : Cell). x.mark) e)

pub memory-rule : MemoryRule
unfolding memory_of
memory-rule fmt sz u z = (
  (λ i l. page-at sz.S sz.P u.pspace z i l),
  (λ g o gl ol. page-at sz.S (sz.B * sz.K) u.bspace z (g * sz.K + o) (digits_lt gl ol)),
)

-- no two constructors are one
apart : {X : Type 0} → ◌≡◌ {A = ℕ} 0 1 → X
apart e = absurd (omega arith)

pub told-rule : ToldRule
told-rule c = (
  (λ n l. (reads c n l, λ h. ap told h.1 ∙ ap (read n) h.2)),
  (λ n l. (writes c n l, λ h. ap told h.1 ∙ ap (write n) h.2)),
  (λ n first k l. (parts c n first k l, λ h. ap told h.2 ∙ rw (h.3, h.4))),
  (steps-only c, ap told),
  (flushes c, ap told),
)
  where
    reads : (c : Call Page) (n l : ℕ) → told c ≡ read n l → (x : Page) × (c ≡ read n x) × (length x ≡ l)
    reads (read m y) n l e = (y, cc, cc)
    reads (write m y) n l e = apart cc
    reads (part m at y buffer) n l e = apart cc
    reads step n l e = apart cc
    reads flush n l e = apart cc

    writes : (c : Call Page) (n l : ℕ) → told c ≡ write n l → (x : Page) × (c ≡ write n x) × (length x ≡ l)
    writes (read m y) n l e = apart cc
    writes (write m y) n l e = (y, cc, cc)
    writes (part m at y buffer) n l e = apart cc
    writes step n l e = apart cc
    writes flush n l e = apart cc

    parts : (c : Call Page) (n first k l : ℕ) → told c ≡ part n first k l
        → (x page : Page) × (c ≡ part n first x page) × (length x ≡ k) × (length page ≡ l)
    parts (read m y) n first k l e = apart cc
    parts (write m y) n first k l e = apart cc
    parts (part m at y buffer) n first k l e = (y, buffer, cc, cc, cc)
    parts step n first k l e = apart cc
    parts flush n first k l e = apart cc

    steps-only : (c : Call Page) → told c ≡ step → c ≡ step
    steps-only (read m y) e = apart cc
    steps-only (write m y) e = apart cc
    steps-only (part m at y buffer) e = apart cc
    steps-only step e = refl
    steps-only flush e = apart cc

    flushes : (c : Call Page) → told c ≡ flush → c ≡ flush
    flushes (read m y) e = apart cc
    flushes (write m y) e = apart cc
    flushes (part m at y buffer) e = apart cc
    flushes step e = apart cc
    flushes flush e = refl

-- ---- 7 and 14: what a request adds

pub heeds-rule : HeedsRule
unfolding heeding
heeds-rule k late o = (
  (λ e. rw (e, heeding)),
  (λ e ne. rw (e, heeding) (rw (ne_eqb late 0 ne) (refl, refl))),
  (λ e z. rw (e, heeding) (rw (eq-eqb late 0 z))),
)

some-page : (sz : Sizes) (p : ℕ → Bool) (n : ℕ) → n < sz.N * sz.K → p n ≡ true → some_page sz p ≡ true
unfolding some_page
some-page sz p n l h = let k = first-at (sz.N * sz.K) p n l h in lt-ltb (first (sz.N * sz.K) p) (sz.N * sz.K) (omega arith)

no-page : (sz : Sizes) (p : ℕ → Bool) → ((n : ℕ) → n < sz.N * sz.K → p n ≡ true → ⊥) → some_page sz p ≡ false
unfolding some_page
no-page sz p h = fails _ (λ t. let l = ltb-true (first (sz.N * sz.K) p) (sz.N * sz.K) t in
    h (first (sz.N * sz.K) p) l (first-hit (sz.N * sz.K) p l))

none-meets : (sz : Sizes) (fault : ℕ → ℕ) (reads : ℕ → Bool) (r : ℕ) → NoneMeets sz fault reads r
    → some_page sz (λ i. reads i && eqb (fault i) r) ≡ false
none-meets sz fault reads r h = no-page sz (λ i. reads i && eqb (fault i) r)
    (λ n l t. h n l (and_l (reads n) _ t) (eqb-true (fault n) r (and_r (reads n) _ t)))

pub meets-rule : MeetsRule
unfolding fault_met
meets-rule sz fault reads = (
  (λ n l h e. rw (some-page sz (λ i. reads i && eqb (fault i) 7) n l (and_i h (eq-eqb _ 7 e)))),
  (λ h7 n l h e. rw (none-meets sz fault reads 7 h7) (rw (some-page sz (λ i. reads i && eqb (fault i) 14) n l (and_i h (eq-eqb _ 14 e))))),
  (λ h7 h14. rw (none-meets sz fault reads 7 h7) (rw (none-meets sz fault reads 14 h14))),
)

-- ---- 4 and 2: the record, and the lent buffers

pub call-rule : CallRule
unfolding call
call-rule fmt pick s c = refl

pub refuses-record_rule : RefusesRecordRule
unfolding call_reading
refuses-record_rule fmt pick besides s c h = let sz = s.cache.sizes in let d = s.cache.directory in
    let e = fails (sound sz d) (λ t. h ((sound-rule sz d).0 t)) in rw (e, call_reading) (refl, refl, refl)

pub refuses-buffer_rule : RefusesBufferRule
unfolding call_reading
refuses-buffer_rule fmt pick besides s c a h = let sz = s.cache.sizes in let d = (sound-rule sz s.cache.directory).1 a in
    let e = fails (lent_ok fmt sz s.lent) (λ t. h ((lengths-rule fmt sz s.lent).0 t)) in
    rw (d, call_reading) (rw e (refl, refl, refl))

module _ (fmt : Format) (pick : Choice) (besides : ℕ → Bool) (s : Store) (c : Call Page) where
  -- the added cause that the call meets
  abbrev late : ℕ
  late = fault_of fmt pick s.cache.sizes (memory_of fmt s.cache.sizes s.lent).flash (is_read fmt pick besides s c)

  goes_on : Good fmt s → call_reading fmt pick besides s c ≡ carried_out fmt pick s c besides (heeding (state_of s) late (says pick s c))
  unfolding call_reading
  goes_on g = let sz = s.cache.sizes in let d = (sound-rule sz s.cache.directory).1 g.0 in
      let e = (lengths-rule fmt sz s.lent).1 g.1 in
      rw (d, call_reading) (rw e)

  back : (o : Outcome) (r b : ℕ) → o.answer ≡ refused r b → let q = carried_out fmt pick s c besides o in
      (q.answer ≡ refused r b) × (q.store ≡ s) × (q.mends ≡ 0)
  unfolding carried_out
  back o r b h = let e : is_refused o.answer ≡ true = ap is_refused h in rw (e, carried_out) (h, refl, refl)

  -- turned down for an added cause r
  late-down : Good fmt s → is_refused (says pick s c).answer ≡ false → (r : ℕ) → late ≡ r → (r ≡ 0 → ⊥)
      → let q = call_reading fmt pick besides s c in (q.answer ≡ refused r vacant) × (q.store ≡ s) × (q.mends ≡ 0)
  late-down g e r f ne = rw (goes_on g) (rw f
      (back (heeding (state_of s) r (says pick s c)) r vacant ((heeds-rule (state_of s) r (says pick s c)).1 e ne).0))

  goes_through : Passes fmt pick besides s c → call_reading fmt pick besides s c ≡ carried_out fmt pick s c besides (says pick s c)
  unfolding fault_of
  goes_through p = let sz = s.cache.sizes in
      let f : late ≡ 0 = (meets-rule sz (fault_at fmt s) (is_read fmt pick besides s c)).2 p.none-unreadable p.none-torn in
      rw (goes_on p.good) (rw f (rw ((heeds-rule (state_of s) 0 (says pick s c)).2 p.not-refused refl)))

pub refuses-then_rule : RefusesThenRule
refuses-then_rule fmt pick besides s c g r b h = let o = says pick s c in let e : is_refused o.answer ≡ true = ap is_refused h in
    rw (goes_on fmt pick besides s c g) (rw ((heeds-rule (state_of s) (late fmt pick besides s c) o).0 e)
    (back fmt pick besides s c o r b h))

pub refuses-unreadable_rule : RefusesUnreadableRule
unfolding fault_of
refuses-unreadable_rule fmt pick besides s c g e n l h q = late-down fmt pick besides s c g e 7
    ((meets-rule s.cache.sizes (fault_at fmt s) (is_read fmt pick besides s c)).0 n l h q) (λ z. absurd (omega arith))

pub refuses-torn_rule : RefusesTornRule
unfolding fault_of
refuses-torn_rule fmt pick besides s c g e h7 n l h q = late-down fmt pick besides s c g e 14
    ((meets-rule s.cache.sizes (fault_at fmt s) (is_read fmt pick besides s c)).1 h7 n l h q) (λ z. absurd (omega arith))

-- some page read meets r, or none does
some-meets : {X : Type 0} (sz : Sizes) (fault : ℕ → ℕ) (reads : ℕ → Bool) (r : ℕ)
    → ((n : ℕ) → n < sz.N * sz.K → reads n ≡ true → fault n ≡ r → X) → (NoneMeets sz fault reads r → X) → X
unfolding some_page
some-meets sz fault reads r yes-it no_one = let p : ℕ → Bool = λ i. reads i && eqb (fault i) r in let m : ℕ = sz.N * sz.K in
    by-test (some_page sz p)
    (λ t. let l = ltb-true (first m p) m t in let h = first-hit m p l in
    yes-it (first m p) l (and_l (reads (first m p)) _ h) (eqb-true (fault (first m p)) r (and_r (reads (first m p)) _ h)))
    (λ t. no_one (λ n l h e. clash (some-page sz p n l (and_i h (eq-eqb _ r e))) t))

pub cases_rule : CasesRule
cases_rule fmt pick besides s c = let sz = s.cache.sizes in let d = s.cache.directory in
    by-test (sound sz d)
    (λ a. by-test (lent_ok fmt sz s.lent)
    (λ b. let g : Good fmt s = ((sound-rule sz d).0 a, (lengths-rule fmt sz s.lent).0 b) in
    by-test (is_refused (says pick s c).answer)
    (λ e. let w = (refused-rule (says pick s c).answer).0 e in turned g w.0 w.1 w.2)
    (λ e. some-meets sz (fault_at fmt s) (is_read fmt pick besides s c) 7
    (λ n l h q. unreadable g e n l h q)
    (λ h7. some-meets sz (fault_at fmt s) (is_read fmt pick besides s c) 14
    (λ n l h q. torn g e h7 n l h q)
    (λ h14. accepted (record { good = g; not-refused = e; none-unreadable = h7; none-torn = h14 })))))
    (λ b. lengths ((sound-rule sz d).0 a) (λ l. clash ((lengths-rule fmt sz s.lent).1 l) b)))
    (λ a. unsound (λ f. clash ((sound-rule sz d).1 f) a))

pub accepts-rule : AcceptsRule
unfolding carried_out buffers_of
accepts-rule fmt pick besides s c p = let e = p.not-refused in rw (goes_through fmt pick besides s c p) (rw (e, carried_out) (record {
  answer-is = refl;
  sizes-stay = refl;
  record_is = refl;
  wear-is = refl;
  flash-is = refl;
  codes-are = refl;
  marks-are = refl;
  pspace-is = refl;
  bspace-is = refl;
}))

pub accepts-mends_rule : AcceptsMendsRule
unfolding carried_out mends_of mends_met
accepts-mends_rule fmt pick besides s c p = let e = p.not-refused in rw (goes_through fmt pick besides s c p) (rw (e, carried_out))

-- a call that is turned down gives the page buffer as lent, by whichever test
turned_down-page : (fmt : Format) (pick : Choice) (besides : ℕ → Bool) (s : Store) (c : Call Page)
    → is_refused (call_reading fmt pick besides s c).answer ≡ true → (call_reading fmt pick besides s c).page ≡ lent_buffer c
unfolding call_reading carried_out
turned_down-page fmt pick besides s c = let sz = s.cache.sizes in
    let o = heeding (state_of s) (late fmt pick besides s c) (says pick s c) in
    by-test (sound sz s.cache.directory)
    (λ a. by-test (lent_ok fmt sz s.lent)
    (λ b. by-test (is_refused o.answer)
    (λ e. rw (a, call_reading) (rw b (rw (e, carried_out) (λ h. refl))))
    (λ e. rw (a, call_reading) (rw b (rw (e, carried_out) (λ h. clash h e)))))
    (λ b. rw (a, call_reading) (rw b (λ h. refl))))
    (λ a. rw (a, call_reading) (λ h. refl))

pub keeps-page_rule : KeepsPageRule
keeps-page_rule fmt pick besides s n first x page = (
  turned_down-page fmt pick besides s (read n x),
  turned_down-page fmt pick besides s (write n x),
  turned_down-page fmt pick besides s (part n first x page),
)

pub fills-read_rule : FillsReadRule
unfolding carried_out
fills-read_rule fmt pick besides s n x p = let e = p.not-refused in
    rw (goes_through fmt pick besides s (read n x) p) (rw (e, carried_out))

pub fills-write_rule : FillsWriteRule
unfolding carried_out
fills-write_rule fmt pick besides s n x p = let e = p.not-refused in
    rw (goes_through fmt pick besides s (write n x) p) (rw (e, carried_out))

pub fills-part_rule : FillsPartRule
unfolding carried_out combined
fills-part_rule fmt pick besides s n first x page l p = let e = p.not-refused in
    rw (goes_through fmt pick besides s (part n first x page) p)
    (rw (e, carried_out) (rw (ne_eqb (length x) 0 (λ z. absurd (omega arith)))))

pub fills-nothing_rule : FillsNothingRule
unfolding carried_out
fills-nothing_rule fmt pick besides s n first page p = let e = p.not-refused in
    rw (goes_through fmt pick besides s (part n first [] page) p) (rw (e, carried_out))

-- ---- 2 and 5: the page buffer's length, and the page

pub refuses-length_rule : RefusesLengthRule
unfolding decide checked
refuses-length_rule pick sz k n long h = let e = ne_eqb long sz.S h in
    ((rw (e, checked), rw (e, checked)), (rw (e, checked), rw (e, checked)), λ first many. (rw (e, checked), rw (e, checked)))

pub refuses-page_rule : RefusesPageRule
unfolding decide checked
refuses-page_rule pick sz k n h = let e = eq-eqb sz.S sz.S refl in let g = le-ltb n (sz.N * sz.K) h in (
  (rw (e, checked) (rw g), rw (e, checked) (rw g)),
  (rw (e, checked) (rw g), rw (e, checked) (rw g)),
  λ first many. (rw (e, checked) (rw g), rw (e, checked) (rw g)),
)

-- with a page buffer of S bytes and a page below N×K both checks pass
passes : (sz : Sizes) (k : State) (n : ℕ) → n < sz.N * sz.K → (o : Outcome) → checked sz k n sz.S o ≡ o
unfolding checked
passes sz k n l o = rw (eq-eqb sz.S sz.S refl, checked) (rw (lt-ltb n (sz.N * sz.K) l))

-- ---- answers of a read and a write

pub answers-read_rule : AnswersReadRule
unfolding decide read_outcome
answers-read_rule pick sz k n l = rw (passes sz k n l (read_outcome sz k n)) (refl, refl, refl)

pub answers-write_rule : AnswersWriteRule
unfolding decide write_outcome is_worn worn_by
answers-write_rule pick sz k n l p e = rw (passes sz k n l (write_outcome sz k n (plan pick sz k.directory k.wear n)), e) (by-plan p)
  where
    by-plan : (p : Plan) → way_of p ≤ 6 → ((write_outcome sz k n p).answer ≡ write_done (way_of p) 4294967295 0)
        × ((write_outcome sz k n p).state.directory ≡ written sz k.directory n p) × ((write_outcome sz k n p).state.wear ≡ k.wear)
    by-plan (slot_hit i) h = (refl, refl, refl)
    by-plan (frame_hit f) h = (refl, refl, refl)
    by-plan (free_slot i) h = (refl, refl, refl)
    by-plan (join v f) h = (refl, refl, refl)
    by-plan (fill v f) h = (refl, refl, refl)
    by-plan (exchange v f) h = (refl, refl, refl)
    by-plan (evict v f) h = absurd (omega arith)

pub answers-evict_rule : AnswersEvictRule
unfolding decide write_outcome is_worn
answers-evict_rule pick sz k n n-lt ok v f f_lt a_lt e l = let d = k.directory in let b = frame_at d f in
    let v7 = block-vacant sz (sound-facts sz d ok).limits b a_lt in
    rw (passes sz k n n-lt (write_outcome sz k n (plan pick sz d k.wear n)), e)
    (rw (lt-ltb b vacant v7, lt-leb sz.W (get_or k.wear b 0) l, write_outcome)
    (ap (write_done 7 b) (merges-rule sz d ok b f a_lt f_lt), refl, refl))

pub refuses-worn_rule : RefusesWornRule
unfolding decide write_outcome is_worn
refuses-worn_rule pick sz k n n-lt ok v f f_lt a_lt e l = let d = k.directory in let b = frame_at d f in
    let v7 = block-vacant sz (sound-facts sz d ok).limits b a_lt in
    rw (passes sz k n n-lt (write_outcome sz k n (plan pick sz d k.wear n)), e)
    (rw (lt-ltb b vacant v7, le-leb sz.W (get_or k.wear b 0) l, write_outcome) (refl, refl))

-- ---- a part write

pub refuses-reach_rule : RefusesReachRule
unfolding decide part_outcome
refuses-reach_rule pick sz k n n-lt first many l =
    rw (passes sz k n n-lt (part_outcome sz k first many (write_outcome sz k n (plan pick sz k.directory k.wear n))))
    (rw (lt-leb (first + many) sz.S l, part_outcome) (refl, refl))

pub answers-nothing_rule : AnswersNothingRule
unfolding decide part_outcome
answers-nothing_rule pick sz k n n-lt first l =
    rw (passes sz k n n-lt (part_outcome sz k first 0 (write_outcome sz k n (plan pick sz k.directory k.wear n))))
    (rw (le-leb (first + 0) sz.S (omega arith), part_outcome) (refl, refl))

pub answers-part_rule : AnswersPartRule
unfolding decide part_outcome
answers-part_rule pick sz k n n-lt first many p l = let w = write_outcome sz k n (plan pick sz k.directory k.wear n) in
    rw (passes sz k n n-lt (part_outcome sz k first many w), passes sz k n n-lt w)
    (rw (le-leb (first + many) sz.S l, part_outcome) (rw (ne_eqb many 0 (λ z. absurd (omega arith)))))

-- ---- a flush step

pub answers-clean_rule : AnswersCleanRule
unfolding decide step_outcome
answers-clean_rule pick sz k e = rw e (refl, refl)

pub answers-step_rule : AnswersStepRule
unfolding decide step_outcome is_worn
answers-step_rule pick sz k ok b f bl fl e l = let v = block-vacant sz (sound-facts sz k.directory ok).limits b bl in
    rw e (rw (lt-ltb b vacant v, lt-leb sz.W (get_or k.wear b 0) l, step_outcome)
    (ap (step_done b) (merges-rule sz k.directory ok b f bl fl), refl, refl))

pub refuses-step_rule : RefusesStepRule
unfolding decide step_outcome is_worn
refuses-step_rule pick sz k ok b f bl e l = let v = block-vacant sz (sound-facts sz k.directory ok).limits b bl in
    rw e (rw (lt-ltb b vacant v, le-leb sz.W (get_or k.wear b 0) l, step_outcome) (refl, refl))

-- ---- a flush

pub refuses-flush_rule : RefusesFlushRule
unfolding decide flush_outcome
refuses-flush_rule pick sz k ok b bl c h low = let e = flush-names_rule sz k.directory ok k.wear b bl c h low in
    rw (lt-ltb (lowest_worn sz k.directory k.wear) sz.N (omega arith), flush_outcome) (ap (refused 6) e, refl)

pub answers-flush_rule : AnswersFlushRule
unfolding decide flush_outcome
answers-flush_rule pick picks sz k ok wl low =
    let e = le-ltb (lowest_worn sz k.directory k.wear) sz.N (flush-free_rule sz k.directory ok k.wear low) in
    let t = steps pick sz sz.N (record { state = k; rewrites = 0; merges = 0 }) in
    let a : (flush_outcome pick sz k).answer ≡ flush_done t.rewrites t.merges = rw (e, flush_outcome) in
    let q = flush-is_steps pick picks sz k (sound-facts sz k.directory ok) wl t.rewrites t.merges a in
    (t.rewrites, t.merges, a, q.0, q.1)

-- ---- the pages of an accepted call

-- a call that changes no page and no wear changes no buffer
module _ (fmt : Format) (pick : Choice) (besides : ℕ → Bool) (s : Store) (g : Good fmt s) where
  abbrev sizes : Sizes
  sizes = s.cache.sizes

  abbrev memory : Memory Cell Page
  memory = memory_of fmt sizes s.lent

  fits : Fits fmt sizes s.lent
  fits = fits-of fmt sizes s.lent ((lengths-rule fmt sizes s.lent).1 g.1)

  keeps : (c : Call Page) → call_pages (fmt.chip sizes) (zero_page sizes) pick sizes (state_of s) memory c ≡ memory
      → (says pick s c).state.wear ≡ s.lent.wear → (call_reading fmt pick besides s c).store.lent ≡ s.lent
  unfolding carried_out heeding
  keeps c p w = rw (goes_on fmt pick besides s c g) (by-test (is_refused (says pick s c).answer)
      (λ e. rw (e, heeding) (rw (e, carried_out)))
      (λ e. rw (e, heeding) (by-test (eqb (late fmt pick besides s c) 0)
      (λ z. rw z (rw (e, carried_out) (rw (p, w) (buffers_of-memory fmt sizes s.lent fits))))
      (λ z. rw z))))

-- the wear stays whether the checks pass or not
checked-wear : (sz : Sizes) (k : State) (n long : ℕ) (o : Outcome) → o.state.wear ≡ k.wear → (checked sz k n long o).state.wear ≡ k.wear
unfolding checked
checked-wear sz k n long o h = by-test (eqb long sz.S)
    (λ a. rw (a, checked) (by-test (ltb n (sz.N * sz.K)) (λ b. rw b h) (λ b. rw b)))
    (λ a. rw (a, checked))

pub read-keeps_rule : ReadKeepsRule
unfolding call_pages decide read_outcome
read-keeps_rule fmt pick besides s g n x =
    keeps fmt pick besides s g (read n x) refl (checked-wear s.cache.sizes (state_of s) n (length x) _ refl)

pub nothing-keeps_rule : NothingKeepsRule
unfolding call_pages decide part_outcome
nothing-keeps_rule fmt pick besides s g n first page = let sz = s.cache.sizes in let k = state_of s in
    keeps fmt pick besides s g (part n first [] page) refl (checked-wear sz k n (length page) _
    (by-test (leb (first + 0) sz.S) (λ a. rw (a, part_outcome)) (λ a. rw (a, part_outcome))))

pub clean-keeps_rule : CleanKeepsRule
unfolding call_pages decide step_outcome stepped_pages
clean-keeps_rule fmt pick besides s g e = keeps fmt pick besides s g step (rw e) (rw e)

pub pages-write_rule : PagesWriteRule
unfolding call_pages
pages-write_rule C chip z pick sz k m n x p e = rw e

pub pages-part_rule : PagesPartRule
unfolding call_pages combined
pages-part_rule C chip z pick sz k m n first x page l = rw (ne_eqb (length x) 0 (λ q. absurd (omega arith)), call_pages)

pub pages-step_rule : PagesStepRule
unfolding call_pages
pages-step_rule C chip z pick sz k m b f e = rw e

-- as many steps as blocks are cached, and then nothing is due
module _ {C : Type 0} (chip : Chip C Page) (z : Page) (pick : Choice) (picks : Picks pick) (sz : Sizes) where
  steps-to : (c : ℕ) (d : Directory) (m : Memory C Page) → Sound sz d → count sz.N (cached sz d) ≤ c
      → (r : ℕ) × PagesUntilClean chip z pick sz r d m (steps_pages pick sz chip z c d m)
  unfolding steps_pages
  steps-to zero d m s h = due-elim sz d s pick picks
      (λ q. due_of pick sz d ≡ q → (r : ℕ) × PagesUntilClean chip z pick sz r d m m)
      (λ b f y e. absurd (let l = cached-less sz d s b f y in omega arith)) (λ n e. (0, (e, refl))) refl
  steps-to (suc c) d m s h = due-elim sz d s pick picks
      (λ q. due_of pick sz d ≡ q → (r : ℕ) × PagesUntilClean chip z pick sz r d m (steps_pages pick sz chip z (suc c) d m))
      (λ b f y e. let l = cached-less sz d s b f y in let d' = stepped sz d (due b f) in let m' = stepped_pages chip z sz d m (due b f) in
      let ih = steps-to c d' m' (stepped-sound sz d s b f y) (omega arith) in
      let go : steps_pages pick sz chip z (suc c) d m ≡ steps_pages pick sz chip z c d' m' = rw (e, steps_pages) in
      (suc ih.0, (b, f, e, rw go ih.1)))
      (λ n e. let go : steps_pages pick sz chip z (suc c) d m ≡ m = rw (e, steps_pages) in (0, (e, go)))
      refl

pub pages-flush_rule : PagesFlushRule
unfolding call_pages
pages-flush_rule C chip z pick picks sz k m ok =
    steps-to chip z pick picks sz sz.N k.directory m (sound-facts sz k.directory ok) (count-le sz.N _)
