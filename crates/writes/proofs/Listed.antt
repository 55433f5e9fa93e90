-- Entries of the code's record: the block of a frame, and a page that is put into a slot.
use mathlib.Core.Path.{◌≡◌, sym, ap}
use mathlib.Core.List.{List}
use Prim.Native.Nat.{ℕ, ◌<◌}
use native.Mathlib.Omega.{arith}
use lib.ListN.{get_or, set}
use Rattle.address.specs.declared.PageNo.{PageNo}
use Rattle.model.specs.Sizes.{Sizes}
use Rattle.model.specs.Directory.{frame_at}
use Rattle.model.specs.Soundness.{Sound}
use Rattle.model.specs.Moves.{put_slot}
use Rattle.cache.specs.declared.Directory.{Directory}
use Rattle.cache.specs.View.{block_no, directory_of}
use Rattle.cache.proofs.Entries.{blocks_get, blocks_length, pages_set}

pub frame-block : (sz : Sizes) (d : Directory) (f : ℕ) → Sound sz (directory_of d) → f < sz.B
    → (get_or d.frames f (block_no 0)).0 ≡ frame_at (directory_of d) f
unfolding directory_of
frame-block sz d f s l = let h = s.limits.B_high in let e = s.shape.frames-length in let m = blocks_length d.frames in
    sym (blocks_get d.frames f (block_no 0) (omega arith))

pub placed : (d : Directory) (i : ℕ) (n : PageNo) → directory_of (record d { slots = set d.slots i n }) ≡ put_slot (directory_of d) i n.0
unfolding directory_of put_slot
placed d i n = ap (λ (x : List ℕ). record (directory_of d) { slots = x }) (pages_set d.slots i n)
