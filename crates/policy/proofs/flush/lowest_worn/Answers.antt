use Rattle.policy.proofs.flush.lowest_worn.Goals as goal

pub worn_in_slots-requires : goal.worn_in_slots-requires
worn_in_slots-requires c =
    let q = c.requires in
    (record { frames = _; valid = q.valid; recency = q.recency; uses = q.uses; sound = q.with-wear.sound }, q.with-wear.wear-length)

pub worn_in_frames-requires : goal.worn_in_frames-requires
worn_in_frames-requires c =
    let q = c.requires in
    (record { slots = _; valid = q.valid; recency = q.recency; uses = q.uses; sound = q.with-wear.sound }, q.with-wear.wear-length)
