-- The parts of the soundness test together are the model's test.
use mathlib.Core.Path.{◌≡◌, sym, ap, ◌∙◌}
use mathlib.Core.Bool.{Bool, true, ◌&&◌}
use mathlib.Core.List.{List, [], ◌∷◌}
use Prim.Native.Nat.{ℕ}
use borrow.Author.Tests.{eq-eqb}
use Rattle.prelude.specs.Scan.{all, all_pairs}
use Rattle.prelude.proofs.Tests.{and_l, and_r, and_i, same_test, each, every_of, chain, chain-every}
use Rattle.prelude.proofs.Scan.{all_both}
use Rattle.model.specs.Sizes.{Sizes, sizes_ok}
use Rattle.model.specs.Directory.{Directory}
use Rattle.model.specs.Soundness.{shape_ok, slot_ok, frame_ok, slots_differ, frames_differ, cached_once, listed_once, slot_past, framePast}
use Rattle.model.specs.Soundness.{uses_ok}
use Rattle.model.specs.Soundness.{sound}
use Rattle.model.specs.Soundness.{Shape}
use Rattle.sound.specs.Soundness.{slot_good}

pub shape-ok : (d : Directory) → Shape d → shape_ok d ≡ true
unfolding shape_ok
shape-ok d h = every_of _ (
  eq-eqb _ _ h.slots_length,
  (
    eq-eqb _ _ h.frames-length,
    (eq-eqb _ _ h.valid-length, (eq-eqb _ _ h.recency-length, (eq-eqb _ _ h.uses-length, tt))),
  ),
)

module _ (sz : Sizes) (d : Directory) where
  abbrev slots_ok : Bool
  slots_ok = all sz.P (slot_ok sz d)

  abbrev slots_apart_lem : Bool
  slots_apart_lem = all_pairs sz.P (slots_differ sz d)

  abbrev slots_once : Bool
  slots_once = all sz.P (λ i. all sz.B (cached_once sz d i))

  slots-good : all sz.P (slot_good sz d) ≡ (slots_ok && (slots_apart_lem && slots_once))
  unfolding slot_good all_pairs
  slots-good = let apart : ℕ → Bool = λ j. all j (λ i. slots_differ sz d i j) in let once : ℕ
      → Bool = λ j. all sz.B (cached_once sz d j) in
      all_both sz.P (slot_ok sz d) (λ j. apart j && once j) ∙ ap (λ b. slots_ok && b) (all_both sz.P apart once)

  -- the parts in the order of the code
  abbrev pub parts : List Bool
  parts = all_pairs sz.B (frames_differ sz d) ∷ all sz.B (listed_once sz d) ∷ all 8 (framePast sz d) ∷ all 128 (slot_past sz d)
      ∷ all 8 (uses_ok sz d) ∷ all sz.B (frame_ok sz d) ∷ all sz.P (slot_good sz d) ∷ []

  pub whole : sizes_ok sz ≡ true → shape_ok d ≡ true → chain parts ≡ sound sz d
  unfolding sound
  whole zo so = chain-every parts ∙ same_test
      (λ h.
      let e0 = each parts h in let e1 = e0.1 in let e2 = e1.1 in let e3 = e2.1 in let e4 = e3.1 in let e5 = e4.1 in
      let e6 = e5.1 in let g = sym slots-good ∙ e6.0 in
      let g2 = and_r slots_ok (slots_apart_lem && slots_once) g in
      every_of _ (
        zo,
        (
          so,
          (
            and_l slots_ok (slots_apart_lem && slots_once) g,
            (
              e5.0,
              (
                and_l slots_apart_lem slots_once g2,
                (e0.0, (and_r slots_apart_lem slots_once g2, (e1.0, (e3.0, (e2.0, (e4.0, tt)))))),
              ),
            ),
          ),
        ),
      ))
      (λ h.
      let e0 = each _ h in let e2 = e0.1.1 in let e3 = e2.1 in let e4 = e3.1 in let e5 = e4.1 in let e6 = e5.1 in let e7 = e6.1 in
      let e8 = e7.1 in let e9 = e8.1 in let e10 = e9.1 in
      every_of parts (e5.0, (e7.0, (e9.0, (e8.0, (e10.0, (e3.0, (slots-good ∙ and_i e2.0 (and_i e4.0 e6.0), tt))))))))
