-- The form of a word and its numbers, from the numbers as the code has them: a count, and eleven values of which so many count.
use mathlib.Core.Path.{◌≡◌, refl, sym, ap, ◌∙◌}
use mathlib.Core.Bool.{Bool, true, false, cond, not, ◌&&◌, ◌||◌, and-false}
use mathlib.Core.List.{List, ◌∷◌, map}
use Prim.Native.Nat.{ℕ, ◌-◌, ◌≤◌, ◌<◌}
use native.Mathlib.Omega.{arith}
use lib.Dec.{leb, eqb}
use lib.ListN.{length, take, drop, get_or, length-map}
use lib.Seq.{length-take-le, get_or-take}
use borrow.Author.Tests.{eqb-true, ne_eqb, leb-false, le-leb, lt-leb}
use Rattle.prelude.proofs.Tests.{by-test, and_l, and_r, and-not_l}
use Rattle.prelude.specs.Tests.{every}
use Rattle.print.specs.Text.{bytes}
use Rattle.script.specs.Forms.{Form, writes, reads, steps, flushes, wears, bad, words_of, value_of, is_number, opening, same, sizes_from}
use Rattle.script.specs.Forms.{form_with, form_of_words, bracketed, inside, form_of}
use Rattle.script.specs.Parts.{AreNumbers}
use Rattle.script.specs.declared.Numbers.{Numbers}

unfoldable pub form_from : List ℕ → ℕ → List ℕ → Form
form_from w count v =
    cond (same w (bytes "open") && eqb count 6) (opening (sizes_from v))
    (cond (same w (bytes "write") && (eqb count 2 && leb (get_or v 1 0) 255)) (writes (get_or v 0 0) (get_or v 1 0))
    (cond (same w (bytes "read") && eqb count 1) (reads (get_or v 0 0))
    (cond (same w (bytes "step") && eqb count 0) steps
    (cond (same w (bytes "flush") && eqb count 0) flushes
    (cond (same w (bytes "wear") && eqb count 0) wears bad)))))

-- a choice by an equal test, of equal things
choice : {s t : Bool} {a b c d : Form} → s ≡ t → (t ≡ true → a ≡ b) → c ≡ d → cond s a c ≡ cond t b d
choice {s} {t} {a} {b} {c} {d} e f g = rw e (by-test t (λ h. rw h (f h)) (λ h. rw h g))

module _ (w : List ℕ) (count : ℕ) (v : List ℕ) (h : count ≤ length v) where
  long : length (take count v) ≡ count
  long = length-take-le count v h

  at : (i : ℕ) → i < count → get_or (take count v) i 0 ≡ get_or v i 0
  at i k = get_or-take count v i 0 k

  -- a word with k numbers
  test : (word : List ℕ) (k : ℕ) → (same w word && eqb (length (take count v)) k) ≡ (same w word && eqb count k)
  test word k = ap (λ (n : ℕ). same w word && eqb n k) long

  counted : (word : List ℕ) (k : ℕ) → (same w word && eqb count k) ≡ true → count ≡ k
  counted word k t = eqb-true count k (and_r (same w word) (eqb count k) t)

  six : count ≡ 6 → sizes_from (take count v) ≡ sizes_from v
  six e = rw (at 0 (omega arith), at 1 (omega arith), at 2 (omega arith), at 3 (omega arith), at 4 (omega arith), at 5 (omega arith))

  pair : (same w (bytes "write") && (eqb (length (take count v)) 2 && leb (get_or (take count v) 1 0) 255))
      ≡ (same w (bytes "write") && (eqb count 2 && leb (get_or v 1 0) 255))
  pair = rw long (by-test (eqb count 2)
      (λ t. let e = eqb-true count 2 t in ap (λ (n : ℕ). same w (bytes "write") && (eqb count 2 && leb n 255)) (at 1 (omega arith)))
      (λ t. rw t))

  two : (same w (bytes "write") && (eqb count 2 && leb (get_or v 1 0) 255)) ≡ true → count ≡ 2
  two t = eqb-true count 2 (and_l (eqb count 2) (leb (get_or v 1 0) 255)
      (and_r (same w (bytes "write")) (eqb count 2 && leb (get_or v 1 0) 255) t))

  pub form-from : form_with w (take count v) ≡ form_from w count v
  unfolding form_with form_from
  form-from =
      choice (test (bytes "open") 6) (λ t. ap opening (six (counted (bytes "open") 6 t)))
      (choice pair (λ t. let e = two t in rw (at 0 (omega arith), at 1 (omega arith)))
      (choice (test (bytes "read") 1) (λ t. ap reads (at 0 (let e = counted (bytes "read") 1 t in omega arith)))
      (choice (test (bytes "step") 0) (λ t. refl)
      (choice (test (bytes "flush") 0) (λ t. refl)
      (choice (test (bytes "wear") 0) (λ t. refl) refl)))))

-- ---- which form it is, by the tests in their order

module _ (w : List ℕ) (count : ℕ) (v : List ℕ) where
  abbrev pub is_open_lem : Bool
  is_open_lem = same w (bytes "open") && eqb count 6

  abbrev pub is_write : Bool
  is_write = same w (bytes "write") && (eqb count 2 && leb (get_or v 1 0) 255)

  abbrev pub is_read : Bool
  is_read = same w (bytes "read") && eqb count 1

  abbrev pub is_step : Bool
  is_step = same w (bytes "step") && eqb count 0

  abbrev pub is_flush : Bool
  is_flush = same w (bytes "flush") && eqb count 0

  abbrev pub is_wear : Bool
  is_wear = same w (bytes "wear") && eqb count 0

  pub from-open : is_open_lem ≡ true → form_from w count v ≡ opening (sizes_from v)
  unfolding form_from
  from-open a = rw a

  pub from-write : is_open_lem ≡ false → is_write ≡ true → form_from w count v ≡ writes (get_or v 0 0) (get_or v 1 0)
  unfolding form_from
  from-write a b = rw (a, b)

  pub from-read : is_open_lem ≡ false → is_write ≡ false → is_read ≡ true → form_from w count v ≡ reads (get_or v 0 0)
  unfolding form_from
  from-read a b c = rw (a, b, c)

  pub from_step : is_open_lem ≡ false → is_write ≡ false → is_read ≡ false → is_step ≡ true → form_from w count v ≡ steps
  unfolding form_from
  from_step a b c d = rw (a, b, c, d)

  pub from-flush : is_open_lem ≡ false → is_write ≡ false → is_read ≡ false → is_step ≡ false → is_flush ≡ true
      → form_from w count v ≡ flushes
  unfolding form_from
  from-flush a b c d e = rw (a, b, c, d, e)

  pub from-wear : is_open_lem ≡ false → is_write ≡ false → is_read ≡ false → is_step ≡ false → is_flush ≡ false → is_wear ≡ true
      → form_from w count v ≡ wears
  unfolding form_from
  from-wear a b c d e f = rw (a, b, c, d, e, f)

  pub from-bad : is_open_lem ≡ false → is_write ≡ false → is_read ≡ false → is_step ≡ false → is_flush ≡ false → is_wear ≡ false
      → form_from w count v ≡ bad
  unfolding form_from
  from-bad a b c d e f = rw (a, b, c, d, e, f)

-- more than six numbers make no form
pub form-more : (w ns : List ℕ) → 6 < length ns → form_with w ns ≡ bad
unfolding form_with form_from
form-more w ns h =
    let no : (word : List ℕ) (k : ℕ) → k ≤ 6 → (same w word && eqb (length ns) k)
    ≡ false = λ word k l. rw (ne_eqb (length ns) k (λ e. omega arith)) (and-false (same w word)) in
    let pair : is_write w (length ns) ns ≡ false = rw (ne_eqb (length ns) 2 (λ e. omega arith)) (and-false (same w (bytes "write"))) in
    from-bad w (length ns) ns (no (bytes "open") 6 (omega arith)) pair (no (bytes "read") 1 (omega arith))
    (no (bytes "step") 0 (omega arith)) (no (bytes "flush") 0 (omega arith)) (no (bytes "wear") 0 (omega arith))

-- ---- a word and the words after it

module _ (w : List ℕ) (ws : List (List ℕ)) (r : Numbers) (n : AreNumbers ws r) where
  pub words_form : form_of_words (w ∷ ws) ≡ form_with w (take r.count r.values)
  unfolding form_of_words
  words_form = rw (n.numbers, n.values)

  pub words_many : 6 < r.count → form_of_words (w ∷ ws) ≡ bad
  words_many h = words_form ∙ form-more w (take r.count r.values)
      (let z = n.long in let k = n.eleven in let v = length-take-le r.count r.values (omega arith) in omega arith)

pub words_bad : (w : List ℕ) (ws : List (List ℕ)) → (every (map is_number ws) && leb (length ws) 11) ≡ false → form_of_words (w ∷ ws) ≡ bad
unfolding form_of_words
words_bad w ws h = by-test (every (map is_number ws))
    (λ t. rw t (form-more w (map value_of ws) (let m = length-map ws value_of in let l = leb-false (length ws) 11 (and-not_l t h) in omega arith)))
    (λ t. rw t)

-- ---- brackets

neither : (a b : Bool) → (not a || not b) ≡ true → (a && (b && true)) ≡ false
neither true true h = sym h
neither true false h = refl
neither false b h = refl

both : (a b : Bool) → (not a || not b) ≡ false → (a && (b && true)) ≡ true
both true true h = refl
both true false h = sym h
both false b h = sym h

-- whether a line stands in brackets, as the code tests it
module _ (l : List ℕ) where
  pub short-bare : length l < 2 → bracketed l ≡ false
  unfolding bracketed every
  short-bare h = rw (lt-leb 2 (length l) h)

  pub not-bracketed : 2 ≤ length l → (not (eqb (get_or l 0 0) 40) || not (eqb (get_or l (length l - 1) 0) 41)) ≡ true → bracketed l ≡ false
  unfolding bracketed every
  not-bracketed h t = rw (le-leb 2 (length l) h, neither (eqb (get_or l 0 0) 40) (eqb (get_or l (length l - 1) 0) 41) t)

  pub is-bracketed : 2 ≤ length l → (not (eqb (get_or l 0 0) 40) || not (eqb (get_or l (length l - 1) 0) 41)) ≡ false → bracketed l ≡ true
  unfolding bracketed every
  is-bracketed h t = rw (le-leb 2 (length l) h, both (eqb (get_or l 0 0) 40) (eqb (get_or l (length l - 1) 0) 41) t)

  pub inside_is : 2 ≤ length l → inside l ≡ take (length l - 1 - 1) (drop 1 l)
  inside_is h = let e : length l - 2 ≡ length l - 1 - 1 = omega arith in ap (λ (k : ℕ). take k (drop 1 l)) e

  pub bad-form : bracketed l ≡ false → form_of l ≡ bad
  unfolding form_of
  bad-form e = rw e

  pub inside-form : bracketed l ≡ true → 2 ≤ length l → form_of l ≡ form_of_words (words_of (take (length l - 1 - 1) (drop 1 l)))
  unfolding form_of
  inside-form e h = rw (e, inside_is h)
