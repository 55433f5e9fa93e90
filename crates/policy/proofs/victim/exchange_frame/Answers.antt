use Rattle.std.proofs.Common.{◌∙◌, eq-eqb}
use Rattle.prelude.proofs.Bits.{bit_mask}
use Rattle.model.specs.Policy.{valid_count}
use Rattle.policy.proofs.Uses.{listed_valid}
use Rattle.policy.proofs.victim.exchange_frame.Goals as goal

pub chosen-requires : goal.chosen-requires
unfolding valid_count
chosen-requires c =
    let p = c.requires in
    let has = bit_mask _ _ p.frame p.frame-lt ∙ eq-eqb _ _ p.frame_has in
    record { limits = p.sound.limits; listed = listed_valid _ _ _ p; frame = p.frame; frame-lt = p.frame-lt; frame-open = rw c.with_pages.ensures has }
