-- From what such a write's read leaves to what its write asks, and back from what that leaves.
use mathlib.Core.Path.{◌≡◌, sym, ◌∙◌}
use Prim.Native.Nat.{ℕ, ◌≤◌}
use Rattle.model.specs.Sizes.{Sizes, InLimits}
use Rattle.model.specs.Directory.{Directory}
use Rattle.model.specs.Policy.{policy_choice, plan}
use Rattle.model.specs.Calls.{Answer, is_refused, write_outcome, write_merges, reads_page, Page, Buffers, flash_cells, memory_of}
use Rattle.chip.specs.declared.Seen.{Seen}
use Rattle.chip.specs.Chip.{fault_on, most_mends}
use Rattle.chip.proofs.Looking.{none-either, mends-few}
use Rattle.reads.specs.declared.Answered.{Answered}
use Rattle.reads.specs.Reads.{Gave}
use Rattle.answer.specs.Numbers.{fault_number}
use Rattle.answer.proofs.Heeding.{met-nothing}
use Rattle.writes.specs.Writes.{Beside, state, write_heeding}
use Rattle.keeping.specs.Keeping.{KeptPage, seen_in}

module _ (sz : Sizes) (d : Directory) (u : Buffers) (n : ℕ) (page page' : Page) (given : Answered)
    (k : Gave sz d u.flash u.codes u.marks u.pspace u.bspace n page given page') where
  abbrev met : Seen
  met = record { fault = given.fault; mends = given.mends }

  -- what was met is met on page n, if it is read from flash
  pub keep-beside : Beside sz d u n (reads_page sz d n) met
  keep-beside = record { within = λ i h. h; fault-is = k.fault-is; mends-are = k.mends-are }

  pub keep-few : InLimits sz → given.mends ≤ most_mends
  keep-few l = rw k.mends-are (mends-few sz l u.flash u.codes u.marks (reads_page sz d n))

  page-then : fault_number given.fault ≡ 0 → page' ≡ seen_in sz d u n
  unfolding memory_of flash_cells
  page-then z = k.page-is ∙ rw z

  -- an accepted write met nothing, so that the page was read
  pub keep-page : (answer : Answer)
      → is_refused answer ≡ is_refused (write_heeding sz d u n (plan policy_choice sz d u.wear n) (reads_page sz d n)).answer
      → KeptPage sz d u n answer page'
  keep-page answer e a = let p = plan policy_choice sz d u.wear n in
      page-then (keep-beside.fault-is ∙ (none-either sz (fault_on sz u.flash u.codes u.marks) (write_merges sz d p)
      (reads_page sz d n)
      (met-nothing (state d u) _ (write_outcome sz (state d u) n p) (sym e ∙ a))).1)
