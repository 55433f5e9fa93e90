use native.Mathlib.Omega.{arith}
use mathlib.Core.Path.{refl, ap, ◌∙◌}
use Prim.Native.Nat.{ℕ}
use lib.ListN.{get_or}
use Rattle.model.specs.Sizes.{vacant}
use Rattle.shelf.proofs.Shelf.{put-room, put_full}
use Rattle.shelf.proofs.put.Goals as goal

pub returns-then-k-h : goal.returns-then-k-h
returns-then-k-h c =
    put-room _ _ _ _ _ c.requires _ _ _ c.used-k.ensures c.if-k-h.true refl c.copy_page.ensures

pub returns : goal.returns
returns c =
    let m = c.copy_within.ensures.by_index in
    put_full _ _ _ _ _ c.requires _ _ _ _ _ c.used-k.ensures c.if-k-h.false (omega arith) c.copy_within.ensures.len
    (λ i l. m.0 i vacant (omega arith) (omega arith) ∙ ap (λ (j : ℕ). get_or c.args.entries.now j vacant) (omega arith))
    (λ i l. m.2 i vacant (omega arith)) c.lower_pages.ensures refl c.copy_page-2.ensures
