-- What code reads of the directory where it makes the model's tests, one by one.
use mathlib.Core.Path.{◌≡◌, refl, ap, ◌∙◌}
use mathlib.Core.Bool.{Bool, true, false, not, cond, ◌&&◌, ◌||◌}
use mathlib.Core.List.{List}
use Prim.Native.Nat.{ℕ, zero, suc, ◌/◌, ◌%◌, ◌≤◌, ◌<◌}
use native.Mathlib.Omega.{arith}
use lib.Dec.{ltb, eqb}
use lib.ListN.{length, get_or}
use Rattle.std.proofs.Common.{take, add-one}
use Rattle.std.specs.List.{list_any}
use Rattle.std.proofs.lemmas.List.Folds.{list_any_more}
use borrow.Author.Tests.{lt-ltb, le-ltb}
use Rattle.prelude.specs.Bits.{bit}
use Rattle.prelude.specs.Scan.{all}
use Rattle.prelude.proofs.Tests.{or_l}
use Rattle.prelude.proofs.Scan.{all_of, all_none, all_more, all_end}
use Rattle.model.specs.Sizes.{Sizes, vacant}
use Rattle.model.specs.Directory as model
use Rattle.model.specs.Directory.{slot_at, frame_at, inFrame}
use Rattle.model.specs.Soundness.{slot_past, framePast, uses_ok}
use Rattle.cache.specs.declared.Directory.{Directory}
use Rattle.cache.specs.View.{page_no, block_no, directory_of}
use Rattle.cache.proofs.View.{slot-of, frame-of}

-- a search of the first n entries that finds none
pub none-in : {A : Type 0} (p : A → Bool) (l : List A) (z : A) (n : ℕ) → n ≤ length l
    → not (list_any p (take n l)) ≡ all n (λ i. not (p (get_or l i z)))
unfolding all
none-in p l z zero h = refl
none-in p l z (suc n) h = rw (← add-one n) (ap not (list_any_more p l n z (omega arith)) ∙ not-or _ _
    ∙ ap (λ (b : Bool). b && not (p (get_or l n z))) (none-in p l z n (omega arith)))
  where
    not-or : (a b : Bool) → not (a || b) ≡ (not a && not b)
    not-or true b = refl
    not-or false b = refl

-- nothing is asked of the slots below P, nor of the frames below B
module _ (n : ℕ) (sz : Sizes) (d : model.Directory) where
  pub slots_below : n ≤ sz.P → all n (slot_past sz d) ≡ true
  unfolding slot_past
  slots_below h = all_of _ _ (λ i l. or_l _ (lt-ltb i _ (omega arith)))

  pub frames_below : n ≤ sz.B → all n (framePast sz d) ≡ true
  unfolding framePast
  frames_below h = all_of _ _ (λ f l. or_l _ (lt-ltb f _ (omega arith)))

module _ (d : Directory) where
  -- the entries of slot j and frame f
  abbrev s : ℕ → ℕ
  s j = (get_or d.slots j (page_no 0)).0

  abbrev x : ℕ → ℕ
  x f = (get_or d.frames f (block_no 0)).0

  pub slot_differs_read : (i j : ℕ) → not (eqb (slot_at (directory_of d) i) (slot_at (directory_of d) j)) ≡ not (eqb (s i) (s j))
  slot_differs_read i j = rw (slot-of d i, slot-of d j) refl

  pub frame_new_read : (f : ℕ) → f < length d.frames → not (list_any (λ b. eqb b.0 (x f)) (take f d.frames))
      ≡ all f (λ e. not (eqb (frame_at (directory_of d) e) (frame_at (directory_of d) f)))
  frame_new_read f l = none-in (λ b. eqb b.0 (x f)) d.frames (block_no 0) f (omega arith) ∙ simp (frame-of d)

  module _ (sz : Sizes) where
    pub slot_past_read : (j : ℕ) → sz.P ≤ j → slot_past sz (directory_of d) j ≡ eqb (s j) vacant
    unfolding slot_past
    slot_past_read j l = rw (le-ltb j sz.P l) (ap (λ (y : ℕ). eqb y vacant) (slot-of d j))

    pub frame_past_read : (f : ℕ) → sz.B ≤ f
        → framePast sz (directory_of d) f ≡ (eqb (x f) vacant && eqb (get_or d.valid f 0) 0 && eqb (get_or d.recency f 0) f)
    unfolding framePast directory_of
    frame_past_read f l = rw (le-ltb f sz.B l)
        (ap (λ (y : ℕ). eqb y vacant && eqb (get_or d.valid f 0) 0 && eqb (get_or d.recency f 0) f) (frame-of d f))

    pub uses_read : (f : ℕ)
        → uses_ok sz (directory_of d) f ≡ cond (eqb (x f) vacant) (eqb (get_or d.uses f 0) 0) (ltb 0 (get_or d.uses f 0))
    unfolding uses_ok directory_of
    uses_read f = ap (λ (y : ℕ). cond (eqb y vacant) (eqb (get_or d.uses f 0) 0) (ltb 0 (get_or d.uses f 0))) (frame-of d f)

    pub outside_read : (n f : ℕ)
        → not (inFrame sz (directory_of d) n f) ≡ not (eqb (x f) (n / sz.K) && bit (get_or d.valid f 0) (n % sz.K))
    unfolding inFrame directory_of
    outside_read n f = ap (λ (y : ℕ). not (eqb y (n / sz.K) && bit (get_or d.valid f 0) (n % sz.K))) (frame-of d f)

-- a loop that makes such a test at each turn
pub ruleset testing = (
  all_none,
  all_more,
  all_end,
  slots_below,
  frames_below,
  slot_past_read,
  frame_past_read,
  uses_read,
  outside_read,
  slot_differs_read,
)
