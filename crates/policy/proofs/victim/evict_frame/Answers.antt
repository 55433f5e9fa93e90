use Rattle.std.proofs.Common.{arith}
use Rattle.prelude.proofs.Bits.{bit-first}
use Rattle.policy.proofs.Uses.{listed_occupied, open_of}
use Rattle.policy.proofs.victim.evict_frame.Goals as goal

pub chosen-requires : goal.chosen-requires
chosen-requires c =
    let e = c.unworn-among.ensures in
    rw e (open_of _ _ _ c.requires.sound.limits (listed_occupied _ _ _ c.requires) (omega arith))

pub chosen-requires-2 : goal.chosen-requires-2
chosen-requires-2 c =
    let s = c.requires.sound in
    let l = s.limits.B_low in
    record { limits = s.limits; listed = listed_occupied _ _ _ c.requires; frame = 0; frame-lt = omega arith; frame-open = rw c.first.ensures (bit-first c.args.z.frames 0 (omega arith)) }
