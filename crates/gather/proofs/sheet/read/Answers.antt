use Rattle.std.proofs.Common.{ap, ℕ, ◌+◌, ◌*◌}
use Rattle.prelude.proofs.Pages.{in_run}
use Rattle.cache.specs.View.{sizes_of, directory_of}
use Rattle.gather.proofs.Decoding.{frame-page_lt, from_slot, from_frame, from_flash}
use Rattle.gather.proofs.sheet.read.Goals as goal

pub returns-in-Some : goal.returns-in-Some
returns-in-Some c =
    let z = sizes_of c.args.view.sizes in
    from_slot z (directory_of c.args.directory.now) _ _ _ _ _ _ _ c.in-Some.ensures.found c.in-Some.ensures.within c.cached.ensures

pub cached-requires-in-Some-frame_with : goal.cached-requires-in-Some-frame_with
cached-requires-in-Some-frame_with c =
    let z = sizes_of c.args.view.sizes in
    let lt = frame-page_lt z c.args.view.lent.codes-lent.limits c.args.n.0 _ c.in-Some-frame_with.ensures.within in
    (rw c.offset_of-o.ensures (in_run z.S (z.B * z.K) _ c.requires.0.bspace-length lt), c.requires.1)

pub returns-in-Some-frame_with : goal.returns-in-Some-frame_with
returns-in-Some-frame_with c =
    let z = sizes_of c.args.view.sizes in
    let e = ap (λ (x : ℕ). c.in-Some-frame_with.f * z.K + x) c.offset_of-o.ensures in
    from_frame z (directory_of c.args.directory.now) _ _ _ _ _ _ c.in_default.ensures.found c.args.view.lent.codes-lent.limits _ _
    c.in-Some-frame_with.ensures.found c.in-Some-frame_with.ensures.within e c.cached-in-Some-frame_with.ensures

pub returns : goal.returns
returns c =
    let z = sizes_of c.args.view.sizes in
    from_flash z (directory_of c.args.directory.now) _ _ _ _ _ _ c.in_default.ensures.found c.in_default-frame_with.ensures.found
    c.requires.0.page-lt c.in_flash.ensures
