use native.Mathlib.Omega.{arith}
use mathlib.Core.Path.{sym, ap, ◌∙◌}
use mathlib.Core.Bool.{Bool, ◌&&◌}
use Prim.Native.Nat.{ℕ, ◌*◌}
use lib.Dec.{leb, ltb, eqb}
use lib.ListN.{get_or}
use mathlib.Core.Bool.{cond}
use Rattle.prelude.specs.Scan.{all}
use Rattle.model.specs.Sizes.{vacant}
use Rattle.model.specs.Shelf.{shelf_ok}
use Rattle.model.proofs.Shelving.{vacant-ok}
use Rattle.cache.specs.View.{sizes_of}
use Rattle.shelf.proofs.Shelf.{entries-test}
use Rattle.shelf.proofs.sound.Goals as goal

pub returns-then-z-eq0 : goal.returns-then-z-eq0
returns-then-z-eq0 c =
    let a = c.args in
    c.none_used.ensures ∙ sym (vacant-ok (sizes_of a.z) a.entries.now (omega arith))
    ∙ ap (λ (h : ℕ). shelf_ok (sizes_of a.z) h a.entries.now) (sym c.if-z-eq0.true)

pub returns : goal.returns
returns c =
    let a = c.args in
    let tests : ℕ → ℕ → Bool = λ k i. cond (ltb i k) (ltb (get_or a.entries.now i 0) (a.z.blocks * a.z.pages_per_block))
    (eqb (get_or a.entries.now i 0) vacant) in
    ap (λ (b : Bool). leb c.used-k.result a.z.shelf_pages && b) c.run_ok-each.ensures
    ∙ ap (λ (k : ℕ). leb k a.z.shelf_pages && all 8 (tests k)) c.used-k.ensures
    ∙ entries-test (sizes_of a.z) a.z.shelf_pages a.entries.now (omega arith)
