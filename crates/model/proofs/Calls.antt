-- What every call keeps: a sound record stays sound, and no wear passes W. A flush is steps until clean, one for each cached block.
use mathlib.Core.Path.{◌≡◌, refl, ap, ◌∙◌}
use mathlib.Core.Logic.{◌⊎◌, inl, inr}
use mathlib.Core.Bool.{Bool, true, false, ◌&&◌}
use mathlib.Core.List.{List}
use Prim.Native.Nat.{ℕ, zero, suc, ◌+◌, ◌-◌, ◌*◌, ◌≤◌, ◌<◌}
use native.Mathlib.Omega.{arith}
use lib.Dec.{leb, ltb, eqb}
use lib.ListN.{length, get_or, replicate, length-replicate}
use borrow.Author.Tests.{ltb-true, ltb-false, leb-false, lt-leb, eqb-true, lt-ltb, le-ltb}
use Rattle.prelude.specs.Scan.{first, count}
use Rattle.prelude.proofs.Tests.{by-test, clash, and_i, and-not_l, each}
use Rattle.prelude.proofs.Scan.{first-hit, first-at, count-le}
use Rattle.model.specs.Sizes.{Sizes, vacant}
use Rattle.model.specs.Directory.{Directory}
use Rattle.model.specs.Soundness.{sound, Sound}
use Rattle.model.specs.Policy.{in_slots, frame_with, slot_count, read_way, Choice, victim, Plan, plan, erased_by, merge_reads, clean, due}
use Rattle.model.specs.Policy.{occupied, lowest_in_slots, due_of, cached, is_worn, lowest_worn}
use Rattle.model.specs.Moves.{Chip, worn_by, joined, read_directory, written, stepped}
use Rattle.model.specs.Calls.{step_done, step_clean, flush_done, is_refused, Call, read, write, part, step, flush, State, Outcome}
use Rattle.model.specs.Calls.{checked, read_outcome, write_outcome, part_outcome, step_outcome, Tally, steps, flush_outcome, decide}
use Rattle.model.specs.Calls.{heeding, Page, Format, lent_ok, Store, Result, state_of, told, carried_out, call_reading}
use Rattle.model.specs.Lists.{Picks}
use Rattle.model.specs.RulesCalls.{StepsUntilClean}
use Rattle.model.proofs.Soundness.{sound-facts, facts-sound}
use Rattle.model.proofs.Lookup.{block-vacant}
use Rattle.model.proofs.Kept.{with-held, touched-sound}
use Rattle.model.proofs.Plan.{occupied-all, evict-pick, eviction_elim, plan-elim}
use Rattle.model.proofs.Consistent.{Consistent, write-good}
use Rattle.model.proofs.Steps.{Empty, due-elim, stepped-sound, cached-less, cached-now, none-empty, worn_by-length, Within}
use Rattle.model.proofs.Steps.{worn-within, Below, stepped-below, steps-clean, steps-within}

-- ---- soundness

-- the write over pages without contents, of which only the numbers matter
module _ (sz : Sizes) (d : Directory) (s : Sound sz d) where
  abbrev units : ℕ → List (Unit {0})
  units n = replicate n tt

  abbrev unit_chip : Chip (Unit {0}) (Unit {0})
  unit_chip = record { page = λ c. tt; fault = λ c. 0; mends = λ c. 0; erased = tt; cell = λ x. tt }

  bare : Consistent unit_chip tt sz d (record { flash = units (sz.N * sz.K); pspace = units sz.P; bspace = units (sz.B * sz.K) })
      (units (sz.N * sz.K))
  bare = record {
    numbers = s;
    reflects = record { in_slot = λ i l h. refl; in_frame = λ f o fl ol h. refl; in_flash = λ n l np nf. refl };
    flash-length = length-replicate (sz.N * sz.K) tt;
    pspace-length = length-replicate sz.P tt;
    bspace-length = length-replicate (sz.B * sz.K) tt;
    array-length = length-replicate (sz.N * sz.K) tt;
  }

  pub written-sound : (pick : Choice) → Picks pick → (w : List ℕ) (n : ℕ) → n < sz.N * sz.K
      → Sound sz (written sz d n (plan pick sz d w n))
  written-sound pick picks w n l = (write-good unit_chip tt pick picks sz d w _ (λ b f o. refl) _ bare n l tt).numbers

  read-sound : (n : ℕ) → Sound sz (read_directory sz d n)
  unfolding read_directory read_way
  read-sound n = by-test (in_slots sz d n)
      (λ e. rw (e, read_directory, read_way) s)
      (λ e. rw (e, read_directory, read_way) (by-test (ltb (frame_with sz d n) sz.B)
      (λ e'. rw e' (let l = ltb-true (frame_with sz d n) sz.B e' in
      touched-sound sz d s false (frame_with sz d n) l (with-held sz d s n l)))
      (λ e'. rw e' s)))

-- no wear that a test passes is W
pub not-worn : (sz : Sizes) (w : List ℕ) (b : ℕ) → b < vacant → is_worn sz w b ≡ false → get_or w b 0 < sz.W
unfolding is_worn
not-worn sz w b l h = leb-false sz.W (get_or w b 0) (and-not_l (lt-ltb b vacant l) h)

-- a flush that is not refused finds no cached block worn
pub flush-below : (sz : Sizes) (k : State) → sz.N ≤ lowest_worn sz k.directory k.wear → Below sz k.directory k.wear
unfolding lowest_worn
flush-below sz k l b bl c = by-test (leb sz.W (get_or k.wear b 0))
    (λ e. absurd (let q = first-at sz.N (λ i. cached sz k.directory i && leb sz.W (get_or k.wear i 0)) b bl (and_i c e) in
    omega arith))
    (λ e. leb-false sz.W (get_or k.wear b 0) e)

-- ---- a call over numbers

-- from state k to state k' the directory stays sound, the wear keeps its length, and none passes W
pub record Kept (sz : Sizes) (k k' : State) : Type 0 where
  pub numbers : Sound sz k'.directory
  pub wear-length : length k'.wear ≡ sz.N
  pub within : Within sz k.wear → Within sz k'.wear

module _ (pick : Choice) (picks : Picks pick) (sz : Sizes) (k : State) (s : Sound sz k.directory) (wl : length k.wear ≡ sz.N) where
  same : Kept sz k k
  same = record { numbers = s; wear-length = wl; within = λ h. h }

  abbrev Keeps : Outcome → Type 0
  Keeps o = Kept sz k o.state

  checked-kept : (n long : ℕ) (o : Outcome) → (n < sz.N * sz.K → Keeps o) → Keeps (checked sz k n long o)
  unfolding checked
  checked-kept n long o g = by-test (eqb long sz.S)
      (λ e. rw (e, checked) (by-test (ltb n (sz.N * sz.K)) (λ e'. rw e' (g (ltb-true _ _ e'))) (λ e'. rw e' same)))
      (λ e. rw (e, checked) same)

  erased-within : (b : ℕ) → ((b < sz.N) ⊎ (b ≡ vacant)) → is_worn sz k.wear b ≡ false → Within sz k.wear
      → Within sz (worn_by k.wear b)
  unfolding worn_by
  erased-within b c e h = elim c [
    | inl l ↦ let v = block-vacant sz s.limits b l in
        rw (lt-ltb b vacant v) (worn-within sz k.wear b (omega arith) (not-worn sz k.wear b v e) h)
    | inr q ↦ rw (le-ltb b vacant (omega arith)) h
  ]

  -- a write erases a block below N, or none
  plan-erases : (n : ℕ) → (erased_by k.directory (plan pick sz k.directory k.wear n) < sz.N)
      ⊎ (erased_by k.directory (plan pick sz k.directory k.wear n) ≡ vacant)
  plan-erases n = let d = k.directory in let w = k.wear in
      let Q : Plan → Type 0 = λ p. (erased_by d p < sz.N) ⊎ (erased_by d p ≡ vacant) in
      plan-elim pick sz d w Q n (λ a. inr refl) (λ a b. inr refl) (λ a b c. inr refl) (λ a b c. eviction_elim pick sz d w Q (victim sz d)
      (λ q. inr refl) (λ q r. inr refl) (λ q r t. inr refl) (λ q r t. inl (occupied-all sz d s r _ (evict-pick sz d s pick picks w))))

  write_kept : (n : ℕ) → n < sz.N * sz.K → Keeps (write_outcome sz k n (plan pick sz k.directory k.wear n))
  unfolding write_outcome
  write_kept n l = by-test (is_worn sz k.wear (erased_by k.directory (plan pick sz k.directory k.wear n)))
      (λ e. rw (e, write_outcome) same)
      (λ e. rw (e, write_outcome) (record {
        numbers = written-sound sz k.directory s pick picks k.wear n l;
        wear-length = worn_by-length k.wear _ ∙ wl;
        within = erased-within _ (plan-erases n) e;
      }))

  part-kept : (first many : ℕ) (w : Outcome) → Keeps w → Keeps (part_outcome sz k first many w)
  unfolding part_outcome
  part-kept first many w h = by-test (leb (first + many) sz.S)
      (λ e. rw (e, part_outcome) (by-test (eqb many 0) (λ e'. rw e' same) (λ e'. rw e' h)))
      (λ e. rw (e, part_outcome) same)

  step_kept : Keeps (step_outcome sz k (due_of pick sz k.directory))
  unfolding step_outcome
  step_kept = due-elim sz k.directory s pick picks (λ q. Keeps (step_outcome sz k q))
      (λ b f y. by-test (is_worn sz k.wear b)
      (λ e. rw (e, step_outcome) same)
      (λ e. rw (e, step_outcome) (record {
        numbers = stepped-sound sz k.directory s b f y;
        wear-length = worn_by-length k.wear b ∙ wl;
        within = erased-within b (inl y.b_lt) e;
      })))
      (λ e. same)

  abbrev start : Tally
  start = record { state = k; rewrites = 0; merges = 0 }

  flush-kept : Keeps (flush_outcome pick sz k)
  unfolding flush_outcome
  flush-kept = by-test (ltb (lowest_worn sz k.directory k.wear) sz.N)
      (λ e. rw (e, flush_outcome) same)
      (λ e. rw (e, flush_outcome) (
      let c = steps-clean pick picks sz sz.N start s wl (count-le sz.N _) in
      record {
        numbers = c.numbers;
        wear-length = c.wear-length;
        within = λ h. steps-within pick picks sz sz.N start s wl (flush-below sz k (ltb-false _ sz.N e)) h;
      }))

  -- directory and wear stay sound and within W
  pub decide-kept : (c : Call ℕ) → Keeps (decide pick sz k c)
  unfolding decide read_outcome
  decide-kept (read n long) = checked-kept n long _ (λ l. record {
    numbers = read-sound sz k.directory s n;
    wear-length = wl;
    within = λ h. h;
  })
  decide-kept (write n long) = checked-kept n long _ (λ l. write_kept n l)
  decide-kept (part n first many long) = checked-kept n long _ (λ l. part-kept first many _ (write_kept n l))
  decide-kept step = step_kept
  decide-kept flush = flush-kept

  -- also where a cause that a request adds is heeded
  pub heeding-kept : (late : ℕ) (o : Outcome) → Keeps o → Keeps (heeding k late o)
  unfolding heeding
  heeding-kept late o h = by-test (is_refused o.answer)
      (λ e. rw (e, heeding) h)
      (λ e. rw (e, heeding) (by-test (eqb late 0) (λ e'. rw e' h) (λ e'. rw e' same)))

-- ---- a call over buffers

-- a call on a sound record hands back a sound record, whatever the buffers
module _ (fmt : Format) (pick : Choice) (picks : Picks pick) (besides : ℕ → Bool) (s : Store) (c : Call Page)
    (h : sound s.cache.sizes s.cache.directory ≡ true) where
  abbrev SoundStore : Result → Type 0
  SoundStore r = sound r.store.cache.sizes r.store.cache.directory ≡ true

  wear-long : lent_ok fmt s.cache.sizes s.lent ≡ true → length s.lent.wear ≡ s.cache.sizes.N
  unfolding lent_ok
  wear-long e = eqb-true _ _ (each _ e).1.1.1.0

  carried-sound : length s.lent.wear ≡ s.cache.sizes.N → (late : ℕ)
      → SoundStore (carried_out fmt pick s c besides (heeding (state_of s) late (decide pick s.cache.sizes (state_of s) (told c))))
  unfolding carried_out
  carried-sound wl late = let sz = s.cache.sizes in let o = heeding (state_of s) late (decide pick sz (state_of s) (told c)) in
      let d = sound-facts sz s.cache.directory h in by-test (is_refused o.answer)
      (λ e. rw (e, carried_out) h)
      (λ e. rw (e, carried_out) (facts-sound sz o.state.directory
      (heeding-kept pick picks sz (state_of s) d wl late _ (decide-kept pick picks sz (state_of s) d wl (told c))).numbers))

  pub call-sound : SoundStore (call_reading fmt pick besides s c)
  unfolding call_reading
  call-sound = rw (h, call_reading) (by-test (lent_ok fmt s.cache.sizes s.lent)
      (λ e. rw e (carried-sound (wear-long e) _))
      (λ e. rw e h))

-- ---- a flush is steps until clean

module _ (pick : Choice) (picks : Picks pick) (sz : Sizes) where
  empty-clean : (d : Directory) → Empty sz d → due_of pick sz d ≡ clean
  unfolding due_of occupied lowest_in_slots
  empty-clean d e = by-test (ltb (first sz.B (occupied d)) sz.B)
      (λ q. let l = ltb-true _ sz.B q in absurd (e.no_frames _ l (ltb-true _ vacant (first-hit sz.B (occupied d) l))))
      (λ q. rw (q, due_of) (by-test (ltb (lowest_in_slots sz d) sz.N)
      (λ p. let l = ltb-true _ sz.N p in absurd (e.no-slots _ l (ltb-true 0 _ (first-hit sz.N (λ b. ltb 0 (slot_count sz d b)) l))))
      (λ p. rw p)))

  clean-answer : (k : State) → Empty sz k.directory → (decide pick sz k step).answer ≡ step_clean
  unfolding decide step_outcome
  clean-answer k e = rw (empty-clean k.directory e)

  due-answer : (k : State) (b f : ℕ) → due_of pick sz k.directory ≡ due b f → get_or k.wear b 0 < sz.W
      → decide pick sz k step ≡ record {
        answer = step_done b (merge_reads sz (joined sz k.directory b f) f);
        state = record { directory = stepped sz k.directory (due b f); wear = worn_by k.wear b };
      }
  unfolding decide step_outcome is_worn
  due-answer k b f e l = rw e (by-test (ltb b vacant) (λ q. rw (q, lt-leb sz.W (get_or k.wear b 0) l, step_outcome))
      (λ q. rw (q, step_outcome)))

  abbrev Run : Tally → Tally → Type 0
  Run t t' = (r : ℕ) × (m : ℕ) × (t'.rewrites ≡ r + t.rewrites) × (t'.merges ≡ m + t.merges)
      × StepsUntilClean pick sz r t.state m t'.state

  run_none : (t : Tally) → Empty sz t.state.directory → Run t t
  run_none t e = (0, 0, omega arith, omega arith, (clean-answer t.state e, refl, refl))

  steps-run : (c : ℕ) (t : Tally) → Sound sz t.state.directory → length t.state.wear ≡ sz.N
      → count sz.N (cached sz t.state.directory) ≤ c → Below sz t.state.directory t.state.wear
      → Run t (steps pick sz c t)
  unfolding steps
  steps-run zero t s wl h lo = run_none t (none-empty sz t.state.directory s h)
  steps-run (suc c) t s wl h lo = due-elim sz t.state.directory s pick picks
      (λ q. due_of pick sz t.state.directory ≡ q → Run t (steps pick sz (suc c) t))
      (λ b f y e.
      let d = t.state.directory in let w = t.state.wear in let bl = y.b_lt in
      let mr : ℕ = merge_reads sz (joined sz d b f) f in
      let t1 : Tally = record {
        state = record { directory = stepped sz d (due b f); wear = worn_by w b };
        rewrites = suc t.rewrites;
        merges = mr + t.merges;
      } in
      let l = cached-less sz d s b f y in
      let go : steps pick sz (suc c) t ≡ steps pick sz c t1 = rw (e, steps) in
      let says = due-answer t.state b f e (lo b bl (cached-now sz d s b f y)) in
      let ih = steps-run c t1 (stepped-sound sz d s b f y) (worn_by-length w b ∙ wl) (omega arith) (stepped-below sz d s b f y w lo) in
      let r = ih.0 in let m = ih.1 in let i2 = ih.2 in let i3 = ih.3 in
      rw go (suc r, mr + m, omega arith, omega arith, (b, mr, m, ap (λ (x : Outcome). x.answer) says, refl, rw says ih.4)))
      (λ q e. let go : steps pick sz (suc c) t ≡ t = rw (e, steps) in rw go (run_none t q))
      refl

-- an accepted flush is as many steps as blocks are cached, and answers their number and the sum of their merge reads
pub flush-is_steps : (pick : Choice) → Picks pick → (sz : Sizes) (k : State) → Sound sz k.directory → length k.wear ≡ sz.N
    → (r m : ℕ) → (flush_outcome pick sz k).answer ≡ flush_done r m
    → (r ≡ count sz.N (cached sz k.directory)) × StepsUntilClean pick sz r k m (flush_outcome pick sz k).state
unfolding flush_outcome
flush-is_steps pick picks sz k s wl r m = by-test (ltb (lowest_worn sz k.directory k.wear) sz.N)
    (λ e. rw (e, flush_outcome) (λ h. clash refl (ap is_refused h)))
    (λ e. rw (e, flush_outcome) (λ h.
    let t0 : Tally = record { state = k; rewrites = 0; merges = 0 } in
    let t = steps pick sz sz.N t0 in
    let n = (steps-clean pick picks sz sz.N t0 s wl (count-le sz.N _)).rewrites-are in
    let run = steps-run pick picks sz sz.N t0 s wl (count-le sz.N _) (flush-below sz k (ltb-false _ sz.N e)) in
    let r2 = run.2 in let r3 = run.3 in
    let er : t.rewrites ≡ r = cc in let em : t.merges ≡ m = cc in
    let rr : run.0 ≡ r = omega arith in let mm : run.1 ≡ m = omega arith in
    (omega arith, rw (rr, mm) at run.4)))
