-- A flush step, by what is due.
use mathlib.Core.Path.{◌≡◌, refl, sym, ap, ◌∙◌}
use mathlib.Core.Logic.{◌≢◌}
use mathlib.Core.Bool.{true, false}
use mathlib.Core.List.{List}
use Rattle.std.specs.Prelude.{None, Some}
use Prim.Native.Nat.{ℕ, suc, ◌≤◌, ◌<◌}
use native.Mathlib.Omega.{arith}
use lib.ListN.{length}
use borrow.Author.Tests.{lt-ltb}
use Rattle.prelude.proofs.Tests.{clash}
use Rattle.model.specs.Sizes.{Sizes}
use Rattle.model.specs.Directory.{Directory}
use Rattle.model.specs.Policy.{policy_choice, clean, due}
use Rattle.model.specs.Policy.{due_of}
use Rattle.model.specs.Policy.{is_worn}
use Rattle.model.specs.Moves.{worn_by, joined, vacated, stepped, stepped_pages}
use Rattle.model.specs.Calls.{step_done, step_clean, refused, is_refused, step_outcome, merges_page, step_merges, Buffers}
use Rattle.model.specs.Calls.{flash_cells, memory_of}
use Rattle.model.specs.Cut.{cut_rewrite, cut_step}
use Rattle.model.proofs.Lookup.{block-vacant}
use Rattle.model.proofs.Plan.{policy_choice-picks}
use Rattle.model.proofs.Steps as steps
use Rattle.model.proofs.Calls.{not-worn}
use Rattle.cache.specs.View.{directory_of}
use Rattle.cache.specs.declared.Directory as code
use Rattle.chip.specs.declared.BlockSeen.{BlockSeen}
use Rattle.chip.specs.declared.Rewrote.{Rewrote}
use Rattle.chip.specs.Chip.{fault_in}
use Rattle.chip.proofs.Looking.{fault-none, mends-none}
use Rattle.answer.specs.Carried.{buffers, Ready}
use Rattle.answer.specs.declared.fault.Fault.{Fault}
use Rattle.answer.specs.declared.fault.Fault.TheVariants as faults
use Rattle.answer.specs.Numbers.{refusal_of, refusal_for, fault_number}
use Rattle.answer.proofs.Refusals.{fault_refused}
use Rattle.answer.proofs.Heeding.{down-before, down-late, goes_on}
use Rattle.clean.specs.Clean.{Lookable, MergesLooked, Cleanable, BlockCleaned}
use Rattle.flushes.specs.Flushes.{state_in, StepCarried}

-- a cleaning leaves the order of use
pub order-kept : (sz : Sizes) (d d' : code.Directory) (b f : ℕ) → directory_of d' ≡ stepped sz (directory_of d) (due b f)
    → d'.recency ≡ d.recency
unfolding directory_of stepped vacated joined
order-kept sz d d' b f e = ap (λ (x : Directory). x.recency) e

-- a fault's number
pub some-fault : (fault : Fault) → fault_number (Some fault) ≢ 0
some-fault faults.Unreadable e = omega arith
some-fault faults.Torn e = omega arith

-- the block that is due may be cleaned
pub due-ready : {sz : Sizes} {d : Directory} {u : Buffers} (q : Ready sz d u) (b f : ℕ) → due b f ≡ due_of policy_choice sz d
    → steps.Ready sz d b f
due-ready {sz} {d} q b f e = steps.due-ready sz d q.sound policy_choice policy_choice-picks b f (sym e)

-- and looked at
pub due-lookable : {sz : Sizes} {d : Directory} {u : Buffers} (q : Ready sz d u) (b f : ℕ) → due b f ≡ due_of policy_choice sz d
    → Lookable sz d b f
due-lookable {sz} {d} {u} q b f e = record {
  sound = q.sound;
  block = due-ready q b f e;
}

-- what a rewrite leaves of the wear, with operations enough
pub worn-whole : {sz : Sizes} {d : Directory} {flash codes marks wear pspace bspace : List ℕ} {b f ops : ℕ} {d' : Directory} {r : Rewrote}
    {flash' codes' marks' wear' bspace' : List ℕ} → suc sz.K ≤ ops
    → BlockCleaned sz d flash codes marks wear pspace bspace b f ops d' r flash' codes' marks' wear' bspace' → wear' ≡ worn_by wear b
unfolding cut_rewrite
worn-whole {ops = ops} l w = ap (λ x. x.wear) w.chip-is ∙ rw (lt-ltb 0 ops (omega arith))

module _ {sz : Sizes} {d : Directory} {flash codes marks wear pspace bspace : List ℕ}
    (q : Ready sz d (buffers flash codes marks wear pspace bspace)) (ops : ℕ) where
  abbrev u : Buffers
  u = buffers flash codes marks wear pspace bspace

  -- nothing is cached
  pub step-clean : clean ≡ due_of policy_choice sz d → StepCarried sz d u ops step_clean 0 d u
  unfolding step_outcome stepped_pages cut_step memory_of
  step-clean e = rw (← e) (goes_on (state_in d u) (fault_in sz u (step_merges sz d clean)) (step_outcome sz (state_in d u) clean)
      (fault-none sz flash codes marks (step_merges sz d clean) (λ i. refl)) refl (record {
        refused-is = refl;
        left_is = refl;
        whole = λ l. record {
          answer-is = refl;
          mends-are = sym (mends-none sz flash codes marks (step_merges sz d clean) (λ i. refl));
          directory-is = refl;
          wear-is = refl;
          pages-are = refl;
        };
        down = λ r. clash r refl;
      }))

  module _ (b f : ℕ) (e : due b f ≡ due_of policy_choice sz d) where
    pub has-wear : b < length wear
    has-wear = let l = (due-ready q b f e).b_lt in let h = q.fits.wear-length in omega arith

    -- the block is worn
    pub step-worn : is_worn sz wear b ≡ true → StepCarried sz d u ops (refused 6 b) 0 d u
    unfolding step_outcome
    step-worn w = rw (← e) (down-before refl (fault_in sz u (merges_page sz d b f)) (step_outcome sz (state_in d u) (due b f)) 6 b
        (rw (w, step_outcome)))

    -- it is not
    module _ (w : is_worn sz wear b ≡ false) (seen : BlockSeen) (k : MergesLooked sz d flash codes marks b f seen) where
      accepted : is_refused (step_outcome sz (state_in d u) (due b f)).answer ≡ false
      unfolding step_outcome
      accepted = rw (w, step_outcome)

      -- a merge read meets a refusal
      pub step-late : (fault : Fault) → seen.fault ≡ Some fault → StepCarried sz d u ops (refusal_of (refusal_for fault)) 0 d u
      step-late fault is =
          let met : fault_in sz u (merges_page sz d b f) ≡ fault_number (Some fault) = sym k.fault-is ∙ ap fault_number is in
          rw (← e, fault_refused fault, ← met)
          (down-late refl (fault_in sz u (merges_page sz d b f)) (step_outcome sz (state_in d u) (due b f)) accepted
          (λ z. some-fault fault (sym met ∙ z)))

      -- or none
      module _ (none : seen.fault ≡ None) where
        faultless : fault_in sz u (merges_page sz d b f) ≡ 0
        faultless = sym k.fault-is ∙ ap fault_number none

        pub cleanable : Cleanable sz d flash codes marks wear pspace bspace b f seen.mend
        cleanable = let y = due-ready q b f e in record {
          sound = q.sound;
          block = y;
          unworn = not-worn sz wear b (block-vacant sz q.sound.limits b y.b_lt) w;
          pspace-length = q.fits.pspace-length;
          bspace-length = q.fits.bspace-length;
          faultless = faultless;
          mend-is = k.mend-is;
        }

        pub step-done : {d' : Directory} {r : Rewrote} {flash' codes' marks' wear' bspace' : List ℕ}
            → BlockCleaned sz d flash codes marks wear pspace bspace b f ops d' r flash' codes' marks' wear' bspace'
            → StepCarried sz d u ops (step_done b r.reads) seen.mends d' (buffers flash' codes' marks' wear' pspace bspace')
        unfolding step_outcome cut_step memory_of flash_cells
        step-done c = rw (← e) (goes_on (state_in d u) (fault_in sz u (merges_page sz d b f)) (step_outcome sz (state_in d u) (due b f))
            faultless accepted (rw (w, step_outcome) (record {
              refused-is = refl;
              left_is = c.chip-is;
              whole = λ l. record {
                answer-is = ap (step_done b) c.reads_are;
                mends-are = k.mends-are;
                directory-is = c.directory-is;
                wear-is = worn-whole l c;
                pages-are = c.pages-are l;
              };
              down = λ r. clash r refl;
            })))
