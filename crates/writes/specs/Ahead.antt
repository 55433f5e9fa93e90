-- What the look before a write asks and gives.
use Rattle.std.specs.Prelude.{◌≡◌, false, cond, Option, None, Some, List, ℕ, ◌+◌, ◌*◌, ◌/◌, ◌≤◌, ◌<◌, eqb}
use Rattle.model.specs.Sizes.{Sizes}
use Rattle.model.specs.Directory.{Directory}
use Rattle.model.specs.Soundness.{Sound}
use Rattle.model.specs.Policy.{Plan, evict, erased_by, is_worn}
use Rattle.model.specs.Calls.{Page, write_merges, fault_met, mends_met}
use Rattle.policy.specs.Views.{plan_of}
use Rattle.chip.specs.declared.Seen.{Seen}
use Rattle.chip.specs.Chip.{fault_on, mends_on, worse_of, most_mends}
use Rattle.answer.specs.declared.Refusal.{Refusal}
use Rattle.answer.specs.Numbers.{refusal_of, fault_number}
use Rattle.answer.specs.Carried.{buffers}
use Rattle.writes.specs.declared.ahead.Outlook.{Outlook}
use Rattle.writes.specs.Writes.{Wrote, mend_by}

-- a sound record, a page of the chip, and no more mends of a read besides than there can be
pub record Looks (sz : Sizes) (d : Directory) (n : ℕ) (beside : Seen) : Type 0 where
  pub sound : Sound sz d
  pub page-lt : n < sz.N * sz.K
  pub few : beside.mends ≤ most_mends

-- the frame whose block a plan erases
abbrev pub erased_frame : Plan → Option ℕ
erased_frame (evict v f) = Some f
erased_frame _ = None

-- the write of page n by plan p goes on: the block that it erases is not worn, and what is read meets no refusal; its mends, those of page
-- n once where it is among the merge reads; and the pages that want mending
pub record Foreseen (sz : Sizes) (d : Directory) (flash codes marks wear : List ℕ) (n : ℕ) (p : Plan) (beside : Seen) (r : Outlook)
    : Type 0 where
  pub plan-is : plan_of r.plan ≡ p
  pub unworn : is_worn sz wear (erased_by d p) ≡ false
  pub faultless : worse_of (fault_met sz (fault_on sz flash codes marks) (write_merges sz d p)) (fault_number beside.fault) ≡ 0
  pub mends-are : r.mends ≡ cond (eqb (n / sz.K) (erased_by d p)) (mends_met sz (mends_on sz flash codes marks) (write_merges sz d p))
      (mends_met sz (mends_on sz flash codes marks) (write_merges sz d p) + beside.mends)
  pub mend-is : r.mend ≡ mend_by sz d flash codes p

-- the write is refused for this, whatever it would write and with whatever operations, and leaves all as it was
abbrev pub TurnedDown : Sizes → Directory → List ℕ → List ℕ → List ℕ → List ℕ → ℕ → Plan → Seen → Refusal → Type 0
TurnedDown sz d flash codes marks wear n p beside why = (pspace bspace : List ℕ) (page : Page) (ops : ℕ)
    → let u = buffers flash codes marks wear pspace bspace in Wrote sz d u n page p beside ops (refusal_of why) 0 d u
