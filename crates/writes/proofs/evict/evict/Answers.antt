use native.Mathlib.Omega.{arith}
use mathlib.Core.Path.{◌≡◌}
use lib.ListN.{get_or}
use Rattle.model.specs.Directory.{frame_at}
use Rattle.cache.specs.View.{block_no, directory_of}
use Rattle.writes.proofs.Listed.{frame-block}
use Rattle.writes.proofs.Entering.{joins, join-enters, join-entered}
use Rattle.writes.proofs.Ways.{cleanable, cleaned, way-7}
use Rattle.writes.proofs.evict.evict.Goals as goal
use Rattle.writes.proofs.evict.evict.Goals.{Start}

block-is : (c : Start) → (get_or c.args.directory.now.frames c.args.f (block_no 0)).0
    ≡ frame_at (directory_of c.args.directory.now) c.args.f
block-is c = frame-block _ c.args.directory.now _ c.requires.ready.sound c.requires.holds.0.frame-lt

pub clean_block-done-requires : goal.clean_block-done-requires
clean_block-done-requires c = let start : Start = search in rw (block-is start) (cleanable c.requires)

pub join-requires : goal.join-requires
join-requires c = let start : Start = search in
    let q = c.requires in
    let w = rw (block-is start) at c.clean_block-done.ensures.cleaned in
    let h = cleaned q w.directory-is in
    joins h.0 h.1.victim-lt h.1.frame-lt q.ready.fits.pspace-length (omega (arith, c.clean_block-done.auto, q.ready.fits))

pub enter-requires : goal.enter-requires
enter-requires c = let start : Start = search in
    let q = c.requires in
    let w = rw (block-is start) at c.clean_block-done.ensures.cleaned in
    let h = cleaned q w.directory-is in
    join-enters h.0 h.1 q.ready.fits.pspace-length q.page-length c.join.ensures.directory

pub returns-clause-carried : goal.returns-clause-carried
returns-clause-carried c = let start : Start = search in
    let q = c.requires in
    let w = rw (block-is start) at c.clean_block-done.ensures.cleaned in
    rw (block-is start) (way-7 q _ w (join-entered (cleaned q w.directory-is).0 c.join.ensures c.enter.ensures))
