use mathlib.Core.Path.{◌≡◌, refl, sym, ap, ◌∙◌}
use mathlib.Core.Bool.{true, false}
use mathlib.Core.List.{List}
use Prim.Native.Nat.{ℕ, ◌*◌, ◌<◌}
use native.Mathlib.Omega.{arith}
use Rattle.address.specs.declared.PageNo.{PageNo}
use Rattle.prelude.proofs.Tests.{clash, not_t, not_f}
use Rattle.prelude.proofs.Scan.{all_none, all_more, all-fails}
use Rattle.model.specs.Sizes.{Sizes}
use Rattle.model.specs.Directory.{Directory}
use Rattle.model.specs.Soundness.{frame_ok}
use lib.ListN.{get_or}
use Rattle.cache.specs.View.{sizes_of, block_no, directory_of}
use Rattle.cache.proofs.View.{frame-of}
use Rattle.sound.specs.Soundness.{FramesTested}
use Rattle.filter.proofs.Marks.{laid-length}
use Rattle.sound.proofs.Parts.{vacant-ok, vacant-with, held_test, laid-skip, laid_more}
use Rattle.sound.proofs.frames_ok.Goals as goal
use Rattle.sound.proofs.frames_ok.Goals.{then-x+else-v-ne0, else-x+else-sizes-x}

pub loop-f-init : goal.loop-f-init
loop-f-init c = record { long = omega arith; good = all_none _; laid = λ f o l. absurd (omega arith) }

-- one frame's answer is the answer
no : (sz : Sizes) (d : Directory) (seen : List ℕ) (f : ℕ) → f < sz.B → frame_ok sz d f ≡ false → FramesTested sz d seen false
no sz d seen f low e = record { answer = sym (all-fails _ _ f low e); ready = λ t. clash t refl }

pub returns-then-v-ne0 : goal.returns-then-v-ne0
unfolding directory_of
returns-then-v-ne0 c =
    let at = c.loop-f in
    no _ _ _ at.f c.loop-f-test.true
    (vacant-with _ _ at.f c.requires (frame-of c.args.directory.now at.f ∙ c.if-x.true) c.if-v-ne0.true)

pub returns-then-sizes-x : goal.returns-then-sizes-x
unfolding directory_of
returns-then-sizes-x c =
    let at = c.loop-f in
    let k = frame-of c.args.directory.now at.f in
    let held = held_test (sizes_of c.args.sizes) (directory_of c.args.directory.now) at.f (λ q. c.if-x.false (sym k ∙ q)) in
    no _ _ _ at.f c.loop-f-test.true (not_t (sym (rw k at held) ∙ rw c.first-full.ensures at c.if-sizes-x.true))

pub loop-f-preserved : goal.loop-f-preserved
unfolding directory_of
loop-f-preserved c =
    let at = c.loop-f in
    let sz = sizes_of c.args.sizes in
    let d = directory_of c.args.directory.now in
    let k = frame-of c.args.directory.now at.f in
    let good = sym at.invariant.good in
    elim c.if-x.branch [
      | then-x+else-v-ne0 w ↦ let vacant = k ∙ w.if-x.true in rw w.seen-is (record {
        long = at.invariant.long;
        good = sym (all_more (frame_ok sz d) at.f good (sym (vacant-ok sz d at.f vacant w.if-v-ne0.false)));
        laid = laid-skip sz d at.f at.seen vacant at.invariant.laid;
      })
      | else-x+else-sizes-x w ↦
          let held = held_test sz d at.f (λ q. w.if-x.false (sym k ∙ q)) in
          let ok : frame_ok sz d at.f ≡ true = not_f (sym (rw k at held) ∙ rw c.first-full.ensures at w.if-sizes-x.false) in
          let page : w.page_of.result.0 ≡ (get_or c.args.directory.now.frames at.f (block_no 0)).0 * sz.K
          = ap (λ (n : PageNo). n.0) w.page_of.ensures ∙ omega arith in
          rw (w.seen-is ∙ w.lay.ensures) (record {
            long = laid-length at.seen w.page_of.result.0 _ at.invariant.long;
            good = sym (all_more (frame_ok sz d) at.f good (sym ok));
            laid = laid_more sz d at.f at.seen w.page_of.result.0 (rw k page) at.invariant.long at.invariant.laid;
          })
    ]
