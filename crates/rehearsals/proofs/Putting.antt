-- The lines that are printed, as the pieces that are put one after the other.
use Rattle.std.specs.Prelude.{Result, Ok, Err}
use mathlib.Core.Path.{◌≡◌, refl, sym, ap, ◌∙◌}
use mathlib.Core.Bool.{Bool, true, false, cond}
use mathlib.Core.List.{List, [], ◌∷◌, ◌++◌, append_assoc, map}
use Prim.Native.Nat.{ℕ, suc}
use native.Mathlib.Omega.{arith}
use lib.ListN.{length, take, drop, length-drop}
use lib.Seq.{take_all}
use Rattle.prelude.proofs.Tests.{by-test}
use Rattle.print.specs.Text.{bytes, decimal, form, items}
use Rattle.print.specs.Print.{line, field, refusal, spaced}
use Rattle.print.proofs.Lines.{end, tails, whole}
use Rattle.answer.specs.declared.Opening.{Opening}
use Rattle.answer.specs.declared.Refusal.{Refusal}
use Rattle.answer.specs.declared.Refusal.TheVariants as refusals
use Rattle.rehearsal.specs.declared.Setting.{Setting}
use Rattle.rehearsal.specs.declared.Rehearsed.{Rehearsed}
use Rattle.rehearsal.specs.Class.{setting_ok, rehearsal_of}
use Rattle.rehearsals.specs.Lines.{tally_line, rehearse_line}
use Rattle.rehearsals.specs.Parts.{ways_put, sums_put}

-- numbers after spaces, and a closing bracket
spaced-close : (l : List (List ℕ)) → spaced l ++ (41 ∷ []) ≡ items l
unfolding spaced items
spaced-close [] = refl
spaced-close (i ∷ l) = ap (λ (x : List ℕ). 32 ∷ x) (append_assoc i (spaced l) (41 ∷ []) ∙ ap (λ (x : List ℕ). i ++ x) (spaced-close l))

-- the same with more after it
step : (l : List (List ℕ)) (y : List ℕ) → spaced l ++ (41 ∷ y) ≡ items l ++ y
step l y = sym (append_assoc (spaced l) (41 ∷ []) y) ∙ ap (λ (x : List ℕ). x ++ y) (spaced-close l)

-- pieces put one after the other
eight : (a b c d e f g h : List ℕ) → (((a ++ b) ++ c) ++ d) ++ (((e ++ f) ++ g) ++ h) ≡ a ++ (b ++ (c ++ (d ++ (e ++ (f ++ (g ++ h))))))
eight a b c d e f g h = simp append_assoc

-- a field after what leads to it
abbrev led : List ℕ → ℕ → List ℕ
led lead n = lead ++ (decimal n ++ (41 ∷ []))

-- the pieces of the tallies' line
pub tally-line : (rs ws : List ℕ) (e m r : ℕ) → ways_put rs ws ++ sums_put e m r
    ≡ line "rehearse" (form "reads" (map decimal rs) ∷ form "writes" (map decimal ws) ∷ field "erased" e ∷ field "merged" m
    ∷ field "refused" r ∷ [])
unfolding form items tails
tally-line rs ws e m r =
    let z : List ℕ = led (bytes " (erased ") e ++ (led (bytes " (merged ") m ++ (led (bytes " (refused ") r ++ end)) in
    eight (bytes "(rehearse (reads") (spaced (map decimal rs)) (bytes ") (writes") (spaced (map decimal ws))
    (led (bytes ") (erased ") e) (led (bytes " (merged ") m) (led (bytes " (refused ") r) end
    ∙ ap (λ (x : List ℕ). bytes "(rehearse (reads" ++ x) (step (map decimal rs) (bytes " (writes" ++ (spaced (map decimal ws) ++ (41 ∷ z)))
    ∙ ap (λ (x : List ℕ). items (map decimal rs) ++ (bytes " (writes" ++ x)) (step (map decimal ws) z))
    ∙ whole "rehearse" _

-- a list's entries from 1 on
pub from_one : (n : ℕ) (l : List ℕ) → length l ≡ suc n → take n (drop 1 l) ≡ drop 1 l
from_one n l h = take_all n (drop 1 l) (let e = length-drop 1 l in omega arith)

-- ---- a rehearsal's line, by its answer

abbrev is_done : Result Opening Refusal → Bool
is_done (Ok done) = true
is_done (Err why) = false

abbrev none_torn : Opening
none_torn = record { torn = 0 }

-- what a rehearsal answers
answer-is : (z : Setting) → (rehearsal_of z).answer ≡ cond (setting_ok z) (Ok none_torn) (Err refusals.Size)
unfolding rehearsal_of
answer-is z = by-test (setting_ok z) (λ t. rw t) (λ t. rw t)

-- done or not, by the test
done-of : (b : Bool) (a : Result Opening Refusal) → cond b (Ok none_torn) (Err refusals.Size) ≡ a → b ≡ is_done a
done-of true a w = ap is_done w
done-of false a w = ap is_done w

answered : (z : Setting) (r : Rehearsed) (a : Result Opening Refusal) → r ≡ rehearsal_of z → r.answer ≡ a → setting_ok z ≡ is_done a
answered z r a e d =
    let w : cond (setting_ok z) (Ok none_torn) (Err refusals.Size) ≡ a = sym (answer-is z)
    ∙ ap (λ (x : Rehearsed). x.answer) (sym e) ∙ d in
    done-of (setting_ok z) a w

pub done-line : (z : Setting) (r : Rehearsed) (done : Opening) → r ≡ rehearsal_of z → r.answer ≡ Ok done
    → tally_line r.tallies ≡ rehearse_line z
unfolding rehearse_line
done-line z r done e d = rw (answered z r (Ok done) e d) (ap (λ (x : Rehearsed). tally_line x.tallies) e)

pub refused-line : (z : Setting) (r : Rehearsed) (why : Refusal) → r ≡ rehearsal_of z → r.answer ≡ Err why
    → line "rehearse" (refusal 1 ∷ []) ≡ rehearse_line z
unfolding rehearse_line
refused-line z r why e d = rw (answered z r (Err why) e d)
