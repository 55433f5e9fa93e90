-- The tallies, by the answer.
use mathlib.Core.Path.{◌≡◌, refl}
use Prim.Native.Nat.{ℕ, ◌+◌, ◌≤◌}
use native.Mathlib.Omega.{arith}
use lib.Dec.{ltb}
use Rattle.prelude.proofs.Tests.{by-test}
use Rattle.model.specs.Sizes.{vacant}
use Rattle.model.specs.Calls.{write_done}
use Rattle.answer.specs.Numbers.{refusal_of}
use Rattle.answer.specs.declared.Refusal.{Refusal}
use Rattle.answer.specs.declared.Refusal.TheVariants as refusals
use Rattle.tally.specs.declared.Tallies.{Tallies}
use Rattle.tally.specs.Count.{counted, oneMore, one_refused, erasures}

-- every refusal is one refused call
pub refused-counts : (t : Tallies) (why : Refusal) → one_refused t ≡ counted t (refusal_of why)
refused-counts t refusals.Size = refl
refused-counts t refusals.Buffer = refl
refused-counts t refusals.Overworn = refl
refused-counts t refusals.Record = refl
refused-counts t refusals.Page = refl
refused-counts t (refusals.Worn b) = refl
refused-counts t refusals.Unreadable = refl
refused-counts t refusals.Empty = refl
refused-counts t refusals.Torn = refl

-- a write by ways 0 to 6 erases and merges nothing
pub done-counts : (t : Tallies) (way : ℕ) → record {
  reads = t.reads;
  writes = oneMore t.writes way;
  erased = t.erased;
  merged = t.merged;
  refused = t.refused;
} ≡ counted t (write_done way vacant 0)
done-counts t way =
    let e : t.erased ≡ t.erased + 0 = omega arith in let m : t.merged ≡ t.merged + 0 = omega arith in
    λ i. record { reads = t.reads; writes = oneMore t.writes way; erased = e i; merged = m i; refused = t.refused }

pub erasures-le : (b : ℕ) → erasures b ≤ 1
erasures-le b = by-test (ltb b vacant) (λ e. rw e (omega arith)) (λ e. rw e (omega arith))
