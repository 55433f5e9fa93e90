-- What a flush step and a flush leave. A primed value is the one afterwards.
use Rattle.std.specs.Prelude.{◌≡◌, Bool, List, ℕ, suc, ◌*◌, ◌≤◌}
use Rattle.model.specs.Sizes.{Sizes}
use Rattle.model.specs.Directory.{Directory}
use Rattle.model.specs.Soundness.{Sound}
use Rattle.model.specs.Policy.{policy_choice, due_of, lowest_worn}
use Rattle.model.specs.Moves.{stepped_pages}
use Rattle.model.specs.Formats.{store_format, chip_for}
use Rattle.model.specs.Calls.{Answer, State, step_outcome, flush_outcome, heeding, step_merges, steps_merge, fault_met, mends_met}
use Rattle.model.specs.Calls.{steps_pages}
use Rattle.model.specs.Calls.{Buffers, zero_page, memory_of}
use Rattle.model.specs.Cut.{cut_step, cut_steps}
use Rattle.chip.specs.declared.Seen.{Seen}
use Rattle.chip.specs.Chip.{Lent, fault_on, mends_on, fault_in, mends_in}
use Rattle.answer.specs.Numbers.{fault_number}
use Rattle.answer.specs.Carried.{Ready, left_of, CarriedTo}

abbrev pub state_in : Directory → Buffers → State
state_in d u = record { directory = d; wear = u.wear }

-- a flush step gave this answer, with at most ops operations of the chip: refusal 6, then what its merge reads meet
abbrev pub StepCarried : Sizes → Directory → Buffers → ℕ → Answer → ℕ → Directory → Buffers → Type 0
StepCarried sz d u ops answer mended d' u' =
    let q = due_of policy_choice sz d in
    let m = memory_of store_format sz u in
    CarriedTo (suc sz.K ≤ ops) (heeding (state_in d u) (fault_in sz u (step_merges sz d q)) (step_outcome sz (state_in d u) q))
    (mends_in sz u (step_merges sz d q)) (left_of sz u) (cut_step (chip_for sz) (zero_page sz) sz ops d u.wear m q) m
    (stepped_pages (chip_for sz) (zero_page sz) sz d m q) answer mended d' (left_of sz u') (memory_of store_format sz u')

-- ---- a flush

-- the flash pages that it merges
abbrev pub flush_merges : Sizes → Directory → ℕ → Bool
flush_merges sz d = steps_merge policy_choice sz sz.N d

-- a flush gave this answer, with at most ops operations of the chip: refusal 6, then what its merge reads meet
abbrev pub FlushCarried : Sizes → Directory → Buffers → ℕ → Answer → ℕ → Directory → Buffers → Type 0
FlushCarried sz d u ops answer mended d' u' =
    let m = memory_of store_format sz u in
    CarriedTo (sz.N * suc sz.K ≤ ops) (heeding (state_in d u) (fault_in sz u (flush_merges sz d))
    (flush_outcome policy_choice sz (state_in d u)))
    (mends_in sz u (flush_merges sz d)) (left_of sz u) (cut_steps (chip_for sz) (zero_page sz) sz policy_choice sz.N ops d u.wear m) m
    (steps_pages policy_choice sz (chip_for sz) (zero_page sz) sz.N d m) answer mended d' (left_of sz u') (memory_of store_format sz u')

-- what the check beforehand asks, and what it finds on all pages that the flush merges
pub record LooksAll (sz : Sizes) (d : Directory) (flash codes marks : List ℕ) : Type 0 where
  pub sound : Sound sz d
  pub lent : Lent sz flash codes marks

pub record AllLooked (sz : Sizes) (d : Directory) (flash codes marks : List ℕ) (r : Seen) : Type 0 where
  pub fault-is : fault_number r.fault ≡ fault_met sz (fault_on sz flash codes marks) (flush_merges sz d)
  pub mends-are : r.mends ≡ mends_met sz (mends_on sz flash codes marks) (flush_merges sz d)

-- no block with a page cached is worn, no merge read meets a refusal, and they have these mends
pub record Flushable (sz : Sizes) (d : Directory) (u : Buffers) (mends : ℕ) : Type 0 where
  pub ready : Ready sz d u
  pub none-worn : sz.N ≤ lowest_worn sz d u.wear
  pub faultless : fault_in sz u (flush_merges sz d) ≡ 0
  pub mends-are : mends ≡ mends_in sz u (flush_merges sz d)
