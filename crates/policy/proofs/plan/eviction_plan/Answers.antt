use Rattle.std.proofs.Common.{refl, sym, ◌∙◌, arith}
use Rattle.model.specs.Policy.{policy_choice}
use Rattle.model.proofs.Plan.{policy_choice-picks, occupied-all, fewest-pick}
use Rattle.policy.proofs.Asks.{slots_of, valid_of, uses_valid, uses_occupied}
use Rattle.policy.proofs.plan.eviction_plan.Goals as goal

pub victim-v-requires : goal.victim-v-requires
victim-v-requires c = slots_of _ _ c.requires.sound

pub fewest_valid-fewest-requires : goal.fewest_valid-fewest-requires
fewest_valid-fewest-requires c = valid_of _ _ c.requires.sound

pub exchange_frame-f-requires : goal.exchange_frame-f-requires
exchange_frame-f-requires c =
    let k = fewest-pick _ _ c.requires.sound policy_choice policy_choice-picks _ refl in
    uses_valid _ _ _ _ c.requires.sound k.0 (k.1 ∙ sym c.fewest_valid-fewest.ensures)

pub evict_frame-f-requires : goal.evict_frame-f-requires
evict_frame-f-requires c =
    let full = c.in_default-free_frame.ensures.found in
    let q = c.requires in
    uses_occupied _ _ _ q.sound q.wear-length (occupied-all _ _ q.sound (omega arith))
