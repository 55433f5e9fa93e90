use Rattle.reads.proofs.Places.{has-buffer, has-frame_page, from-slot, from-frame, from-flash}
use Rattle.reads.proofs.peek.Goals as goal

pub returns-in-Some : goal.returns-in-Some
returns-in-Some c = let k = c.in-Some.ensures in
    rw c.found.ensures (from-slot _ _ _ _ _ c.args.view.lent.codes-lent.limits c.requires _ _ _ _ c.in-Some.i _ k.found k.within
    c.copy_page.ensures)

pub copy_page-requires-in-Some-frame_with : goal.copy_page-requires-in-Some-frame_with
copy_page-requires-in-Some-frame_with c = let l = c.args.view.lent.codes-lent.limits in (
  has-buffer _ _ _ _ _ l c.requires,
  rw c.offset_of-o.ensures (has-frame_page _ _ _ _ _ l c.requires c.in-Some-frame_with.f c.in-Some-frame_with.ensures.within),
)

pub returns-in-Some-frame_with : goal.returns-in-Some-frame_with
returns-in-Some-frame_with c = let k = c.in-Some-frame_with.ensures in
    rw c.found-in-Some-frame_with.ensures (from-frame _ _ _ _ _ c.args.view.lent.codes-lent.limits c.requires _ _ _ _
    c.in_default.ensures.found c.in-Some-frame_with.f _ _ k.found k.within c.offset_of-o.ensures c.copy_page-in-Some-frame_with.ensures)

pub returns : goal.returns
returns c =
    from-flash _ _ _ _ _ c.args.view.lent.codes-lent.limits c.requires _ _ _ _ c.in_default.ensures.found c.read_page-seen.result _
    c.in_default-frame_with.ensures.found c.read_page-seen.ensures
