-- The line that a word and its numbers make.
use Rattle.std.specs.Prelude.{None, Some}
use mathlib.Core.Path.{◌≡◌, refl}
use mathlib.Core.Bool.{true, false, ◌&&◌, and-false}
use mathlib.Core.List.{List, ◌∷◌, map}
use Prim.Native.Nat.{ℕ, ◌-◌, ◌≤◌, ◌<◌}
use native.Mathlib.Omega.{arith}
use lib.Dec.{eqb, leb}
use lib.ListN.{length, take, drop, get_or, length-map}
use lib.Seq.{length-take-le, get_or-take}
use borrow.Author.Tests.{eqb-true, ne_eqb, leb-false}
use Rattle.prelude.specs.Tests.{every}
use Rattle.prelude.proofs.Tests.{by-test, and_r, and-not_l}
use Rattle.print.specs.Text.{bytes}
use Rattle.script.specs.declared.Numbers.{Numbers}
use Rattle.script.specs.Forms.{words_of, is_number, value_of, same, bracketed}
use Rattle.script.specs.Parts.{AreNumbers}
use Rattle.script.proofs.With.{inside_is}
use Rattle.rehearsals.specs.Lines.{setting_from, line_with, line_of_words, line_of}

-- ---- a word and its numbers

-- as the code has them: a count, and eleven values of which so many count
pub with-eleven : (w v : List ℕ) (count : ℕ) → length v ≡ 11 → count ≤ 11 → (same w (bytes "rehearse") && eqb count 11) ≡ true
    → line_with w (take count v) ≡ Some (setting_from v)
unfolding line_with
with-eleven w v count l h t =
    let e : count ≡ 11 = eqb-true count 11 (and_r (same w (bytes "rehearse")) (eqb count 11) t) in
    let long : length (take count v) ≡ count = length-take-le count v (omega arith) in
    let at : (i : ℕ) → i < 11 → get_or (take count v) i 0 ≡ get_or v i 0 = (λ i k. get_or-take count v i 0 (omega arith)) in
    rw (
      long,
      t,
      at 0 (omega arith),
      at 1 (omega arith),
      at 2 (omega arith),
      at 3 (omega arith),
      at 4 (omega arith),
      at 5 (omega arith),
      at 6 (omega arith),
      at 7 (omega arith),
      at 8 (omega arith),
      at 9 (omega arith),
      at 10 (omega arith),
    ) refl

pub with-other : (w v : List ℕ) (count : ℕ) → length v ≡ 11 → count ≤ 11 → (same w (bytes "rehearse") && eqb count 11) ≡ false
    → line_with w (take count v) ≡ None
unfolding line_with
with-other w v count l h t = let long : length (take count v) ≡ count = length-take-le count v (omega arith) in rw (long, t) refl

pub words_line : (w : List ℕ) (ws : List (List ℕ)) (r : Numbers) → AreNumbers ws r → line_of_words (w ∷ ws) ≡ line_with w (take r.count r.values)
unfolding line_of_words
words_line w ws r n = rw (n.numbers, n.values)

pub words_bad : (w : List ℕ) (ws : List (List ℕ)) → (every (map is_number ws) && leb (length ws) 11) ≡ false → line_of_words (w ∷ ws) ≡ None
unfolding line_of_words line_with
words_bad w ws h = by-test (every (map is_number ws))
    (λ t. rw t (let l = leb-false (length ws) 11 (and-not_l t h) in let m = length-map ws value_of in
    rw (ne_eqb (length (map value_of ws)) 11 (λ e. omega arith), and-false (same w (bytes "rehearse"))) refl))
    (λ t. rw t)

-- ---- brackets

module _ (l : List ℕ) where
  pub bad-line : bracketed l ≡ false → line_of l ≡ None
  unfolding line_of
  bad-line e = rw e

  pub inside-line : bracketed l ≡ true → 2 ≤ length l → line_of l ≡ line_of_words (words_of (take (length l - 1 - 1) (drop 1 l)))
  unfolding line_of
  inside-line e h = rw (e, inside_is l h)
