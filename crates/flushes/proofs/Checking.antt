-- The check beforehand of a flush, gone through step by step on the directory alone; and what a step leaves of the pages that are still to
-- be merged.
use mathlib.Core.Path.{◌≡◌, refl, sym, ap, ◌∙◌}
use mathlib.Core.Bool.{Bool, true, false, ◌||◌}
use mathlib.Core.List.{List}
use Rattle.std.specs.Prelude.{Option, None}
use Prim.Native.Nat.{ℕ, zero, suc, ◌+◌, ◌*◌, ◌≤◌, ◌<◌}
use native.Mathlib.Nat.{zero-add}
use native.Mathlib.Omega.{arith}
use Rattle.prelude.specs.Scan.{count}
use Rattle.prelude.proofs.Tests.{same_test, or_false}
use Rattle.prelude.proofs.Scan.{count-le}
use Rattle.model.specs.Sizes.{Sizes, is_coded, is_marked}
use Rattle.model.specs.Directory.{Directory}
use Rattle.model.specs.Soundness.{Sound}
use Rattle.model.specs.Policy.{policy_choice, clean, due, due_of, cached}
use Rattle.model.specs.Moves.{stepped}
use Rattle.model.specs.Calls.{merges_page, steps_merge, fault_met, mends_met}
use Rattle.model.proofs.Plain.{no-faults, no-mends, plain-fault, plain-mends}
use Rattle.model.proofs.Plan.{policy_choice-picks}
use Rattle.model.proofs.Steps as steps
use Rattle.model.proofs.Merges.{flush-in, flush-out, steps_mend, flush-mends}
use Rattle.chip.specs.declared.BlockSeen.{BlockSeen}
use Rattle.chip.specs.Chip.{fault_on, mends_on, worse_of, most_mends}
use Rattle.chip.proofs.Looking.{fault-none, fault-or, met-set, mends-set, mends-few}
use Rattle.answer.specs.declared.fault.Fault.{Fault}
use Rattle.answer.specs.Numbers.{fault_number}
use Rattle.clean.specs.Clean.{Lookable, MergesLooked}
use Rattle.flushes.specs.Flushes.{flush_merges, LooksAll, AllLooked}

-- how many blocks are cached: so many steps are left
abbrev pub steps_left : Sizes → Directory → ℕ
steps_left sz d = count sz.N (cached sz d)

module _ (sz : Sizes) (d : Directory) (s : Sound sz d) where
  -- the steps that are left merge all that a flush does
  all-merges : (n : ℕ) → n < sz.N * sz.K → steps_merge policy_choice sz (steps_left sz d) d n ≡ flush_merges sz d n
  all-merges n l = same_test
      (λ h. flush-out policy_choice policy_choice-picks sz n l sz.N d s (count-le sz.N (cached sz d))
      (flush-in policy_choice policy_choice-picks sz n l (steps_left sz d) d s h))
      (λ h. flush-out policy_choice policy_choice-picks sz n l (steps_left sz d) d s (omega arith)
      (flush-in policy_choice policy_choice-picks sz n l sz.N d s h))

  -- where nothing is due nothing is merged
  pub none_left : clean ≡ due_of policy_choice sz d → (c n : ℕ) → steps_merge policy_choice sz c d n ≡ false
  unfolding steps_merge
  none_left e zero n = refl
  none_left e (suc c) n = rw (← e, steps_merge)

  mends-stop : clean ≡ due_of policy_choice sz d → (mends : ℕ → ℕ) (c : ℕ) → steps_mend policy_choice sz mends c d ≡ 0
  unfolding steps_mend
  mends-stop e mends zero = refl
  mends-stop e mends (suc c) = rw (← e, steps_mend)

  module _ (b f : ℕ) (e : due b f ≡ due_of policy_choice sz d) where
    pub merges-next : (c n : ℕ) → steps_merge policy_choice sz (suc c) d n
        ≡ (merges_page sz d b f n || steps_merge policy_choice sz c (stepped sz d (due b f)) n)
    unfolding steps_merge
    merges-next c n = rw (← e, steps_merge)

    pub mends-next : (mends : ℕ → ℕ) (c : ℕ) → steps_mend policy_choice sz mends (suc c) d
        ≡ mends_met sz mends (merges_page sz d b f) + steps_mend policy_choice sz mends c (stepped sz d (due b f))
    unfolding steps_mend
    mends-next mends c = rw (← e, steps_mend)

-- ---- the steps on the directory alone

-- The check began at d₀ and has come to d: the pages in done have been looked at, and those of the steps left come to it.
pub record Ahead (sz : Sizes) (d₀ : Directory) (flash codes marks : List ℕ) (d : Directory) (fault : Option Fault)
    (mends : ℕ) : Type 0 where
  pub sound : Sound sz d
  pub done : ℕ → Bool
  pub fault-is : fault_number fault ≡ fault_met sz (fault_on sz flash codes marks) done
  pub all : (n : ℕ) → n < sz.N * sz.K → (done n || steps_merge policy_choice sz (steps_left sz d) d n) ≡ flush_merges sz d₀ n
  pub mends-are : mends + steps_mend policy_choice sz (mends_on sz flash codes marks) (steps_left sz d) d
      ≡ mends_met sz (mends_on sz flash codes marks) (flush_merges sz d₀)

or_assoc : (a b c : Bool) → ((a || b) || c) ≡ (a || (b || c))
or_assoc true b c = refl
or_assoc false b c = refl

module _ {sz : Sizes} {d₀ : Directory} {flash codes marks : List ℕ} (q : LooksAll sz d₀ flash codes marks) where
  pub ahead_none : Ahead sz d₀ flash codes marks d₀ None 0
  ahead_none = record {
    sound = q.sound;
    done = λ n. false;
    fault-is = sym (fault-none sz flash codes marks (λ n. false) (λ i. refl));
    all = λ n l. all-merges sz d₀ q.sound n l;
    mends-are = zero-add _ ∙ sym (flush-mends policy_choice policy_choice-picks sz _ (steps_left sz d₀) d₀ q.sound)
        ∙ mends-set sz (mends_on sz flash codes marks) _ _ (all-merges sz d₀ q.sound);
  }

  module _ {d : Directory} {fault : Option Fault} {mends : ℕ} (k : Ahead sz d₀ flash codes marks d fault mends) where
    -- nothing is left
    pub ahead_all : clean ≡ due_of policy_choice sz d → AllLooked sz d₀ flash codes marks (record { fault = fault; mends = mends })
    ahead_all e = record {
      fault-is = k.fault-is ∙ met-set sz (fault_on sz flash codes marks) k.done (flush_merges sz d₀)
          (λ i l. sym (or_false (k.done i)) ∙ ap (λ (x : Bool). k.done i || x) (sym (none_left sz d k.sound e (steps_left sz d) i))
          ∙ k.all i l);
      mends-are = (let h = k.mends-are in
          let z = mends-stop sz d k.sound e (mends_on sz flash codes marks) (steps_left sz d) in omega arith);
    }

    module _ (b f : ℕ) (e : due b f ≡ due_of policy_choice sz d) where
      ready : steps.Ready sz d b f
      ready = steps.due-ready sz d k.sound policy_choice policy_choice-picks b f (sym e)

      pub ahead_lookable : Lookable sz d b f
      ahead_lookable = record { sound = k.sound; block = ready }

      abbrev after : Directory
      after = stepped sz d (due b f)

      -- one step fewer is left
      pub ahead_less : steps_left sz d ≡ suc (steps_left sz after)
      ahead_less = steps.cached-less sz d k.sound b f ready

      rest : (n : ℕ) → steps_merge policy_choice sz (steps_left sz d) d n
          ≡ (merges_page sz d b f n || steps_merge policy_choice sz (steps_left sz after) after n)
      rest n = rw ahead_less (merges-next sz d k.sound b f e (steps_left sz after) n)

      module _ (seen : BlockSeen) (m : MergesLooked sz d flash codes marks b f seen) where
        mends-so : mends + seen.mends + steps_mend policy_choice sz (mends_on sz flash codes marks) (steps_left sz after) after
            ≡ mends_met sz (mends_on sz flash codes marks) (flush_merges sz d₀)
        mends-so = let h = k.mends-are in let l : steps_mend policy_choice sz (mends_on sz flash codes marks) (steps_left sz d) d
            ≡ mends_met sz (mends_on sz flash codes marks) (merges_page sz d b f)
            + steps_mend policy_choice sz (mends_on sz flash codes marks) (steps_left sz after) after =
            (rw ahead_less (mends-next sz d k.sound b f e (mends_on sz flash codes marks) (steps_left sz after))) in
            let n = m.mends-are in omega arith

        pub ahead_few : mends + seen.mends ≤ most_mends
        ahead_few = let h = mends-so in
            let l = mends-few sz q.lent.codes-lent.limits flash codes marks (flush_merges sz d₀) in omega arith

        pub ahead_more : (d' : Directory) → d' ≡ after → (fault' : Option Fault)
            → fault_number fault' ≡ worse_of (fault_number fault) (fault_number seen.fault)
            → Ahead sz d₀ flash codes marks d' fault' (mends + seen.mends)
        ahead_more d' de fault' fe = rw de (record {
          sound = steps.stepped-sound sz d k.sound b f ready;
          done = λ n. k.done n || merges_page sz d b f n;
          fault-is = fe ∙ ap (λ (x : ℕ). worse_of x (fault_number seen.fault)) k.fault-is
              ∙ ap (worse_of (fault_met sz (fault_on sz flash codes marks) k.done)) m.fault-is
              ∙ sym (fault-or sz (fault_on sz flash codes marks) k.done (merges_page sz d b f));
          all = λ n l. or_assoc (k.done n) (merges_page sz d b f n) _ ∙ ap (λ (x : Bool). k.done n || x) (sym (rest n)) ∙ k.all n l;
          mends-are = mends-so;
        })

-- a store without codes and marks
pub plain-all : (sz : Sizes) (d : Directory) (flash codes marks : List ℕ) → is_coded sz ≡ false → is_marked sz ≡ false
    → AllLooked sz d flash codes marks (record { fault = None; mends = 0 })
plain-all sz d flash codes marks c m = record {
  fault-is = sym (no-faults sz _ _ (λ i. plain-fault sz c m _));
  mends-are = sym (no-mends sz _ _ (λ i. plain-mends sz c m _));
}
