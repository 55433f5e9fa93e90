-- What is left to print at a place of a script.
use mathlib.Core.Path.{◌≡◌, refl, sym, ap, ◌∙◌, subst}
use mathlib.Core.Bool.{Bool, true, false, cond, ◌&&◌, not}
use mathlib.Core.List.{List, [], ◌∷◌, ◌++◌, map}
use Prim.Native.Nat.{ℕ, ◌+◌, ◌≤◌, ◌<◌}
use native.Mathlib.Omega.{arith}
use lib.Dec.{leb, ltb, eqb}
use lib.ListN.{length, get_or, drop}
use borrow.Author.Tests.{ltb-true, ltb-false, lt-ltb, le-ltb}
use Rattle.prelude.specs.Tests.{every}
use Rattle.prelude.proofs.Tests.{by-test, and-not_l, not_f}
use Rattle.model.specs.Sizes.{Sizes, sizes_ok, is_coded, is_marked}
use Rattle.model.specs.Directory.{blank_cache}
use Rattle.model.specs.Shelf.{no_entries, ShelfStore}
use Rattle.model.proofs.Soundness.{limits_of, limits-test}
use Rattle.model.proofs.Plain.{uncoded, unmarked}
use Rattle.print.specs.Text.{bytes}
use Rattle.print.specs.Print.{bad_line}
use Rattle.script.specs.Forms.{Form, writes, reads, steps, flushes, wears, bad, same, is_number, five, buffers_fit, opening, sizes_from}
use Rattle.script.specs.Forms.{form_with, form_of_words, value_of, words_of, bracketed, inside, form_of}
use Rattle.script.specs.Parts.{up_to}
use Rattle.script.specs.Walk.{Item, line, end, item_at}
use Rattle.script.proofs.Limits.{five-in}
use Rattle.script.proofs.Words.{lines_from, lines_none, end-le}
use Rattle.script.proofs.Walk.{item_line, item_end}
use Rattle.cache.specs.View.{sizes_of}
use Rattle.store.specs.declared.Cache.{Cache}
use Rattle.store.specs.View.{cache_of, store_of}
use Rattle.interpret.specs.Lines.{carried, printed_by, output_of, rest, blank_store}
use Rattle.interpret.specs.View.{Held, Sized, front}

-- ---- before an opening

pub held-blank : Held blank_cache.sizes
unfolding blank_cache is_coded is_marked
held-blank = record {
  no-codes = refl;
  no-marks = refl;
  no-shelf = refl;
  S_high = omega arith;
  K_high = omega arith;
  N_high = omega arith;
  B_high = omega arith;
  flash-high = omega arith;
  pspace-high = omega arith;
  bspace-high = omega arith;
}

-- the blank record has no buffers in the memory
pub blank-front : (c : Cache) → (cache_of c ≡ blank_cache) × (c.entries ≡ no_entries) → (flash wear pspace bspace : List ℕ)
    → store_of c (front (sizes_of c.sizes) flash wear pspace bspace) ≡ blank_store
unfolding blank_cache
blank-front c e flash wear pspace bspace = λ i. record {
  store = record { cache = e.0 i; lent = (front (e.0 i).sizes flash wear pspace bspace).below };
  entries = e.1 i;
  shelf = [];
}

-- ---- the form of every line is one whose buffers fit

five-ok : (sz : Sizes) → sizes_ok sz ≡ true → sizes_ok (five sz) ≡ true
five-ok sz ok = limits-test (five sz) (five-in sz (limits_of sz ok))

sized-cond : (b : Bool) (x y : Form) → Sized x → Sized y → Sized (cond b x y)
sized-cond true x y h k = h
sized-cond false x y h k = k

sized-opening : (sz : Sizes) → sz.coded ≡ 0 → sz.marked ≡ 0 → sz.shelf_pages ≡ 0 → Sized (opening sz)
unfolding opening
sized-opening sz c m h = by-test (sizes_ok (five sz) && not (buffers_fit sz)) (λ t. rw t tt)
    (λ t. rw t (uncoded sz c, unmarked sz m, (λ ok. not_f (and-not_l (five-ok sz ok) t)), h))

module _ (w ns : List ℕ) where
  abbrev from-wear : Form
  from-wear = cond (same w (bytes "wear") && eqb (length ns) 0) wears bad

  abbrev from-flush : Form
  from-flush = cond (same w (bytes "flush") && eqb (length ns) 0) flushes from-wear

  abbrev from_step : Form
  from_step = cond (same w (bytes "step") && eqb (length ns) 0) steps from-flush

  abbrev from-read : Form
  from-read = cond (same w (bytes "read") && eqb (length ns) 1) (reads (get_or ns 0 0)) from_step

  abbrev from-write : Form
  from-write = cond (same w (bytes "write") && (eqb (length ns) 2 && leb (get_or ns 1 0) 255))
      (writes (get_or ns 0 0) (get_or ns 1 0)) from-read

  sized-read : Sized from-read
  sized-read = sized-cond (same w (bytes "read") && eqb (length ns) 1) (reads (get_or ns 0 0)) from_step tt
      (sized-cond (same w (bytes "step") && eqb (length ns) 0) steps from-flush tt
      (sized-cond (same w (bytes "flush") && eqb (length ns) 0) flushes from-wear tt
      (sized-cond (same w (bytes "wear") && eqb (length ns) 0) wears bad tt tt)))

  sized-with : Sized (form_with w ns)
  unfolding form_with
  sized-with = sized-cond (same w (bytes "open") && eqb (length ns) 6) (opening (sizes_from ns)) from-write
      (sized-opening (sizes_from ns) refl refl refl)
      (sized-cond (same w (bytes "write") && (eqb (length ns) 2 && leb (get_or ns 1 0) 255))
      (writes (get_or ns 0 0) (get_or ns 1 0)) from-read
      tt sized-read)

sized-words : (ws : List (List ℕ)) → Sized (form_of_words ws)
unfolding form_of_words
sized-words [] = tt
sized-words (w ∷ ws) = sized-cond (every (map is_number ws)) (form_with w (map value_of ws)) bad (sized-with w (map value_of ws)) tt

pub sized-form : (l : List ℕ) → Sized (form_of l)
unfolding form_of
sized-form l = sized-cond (bracketed l) (form_of_words (words_of (inside l))) bad (sized-words (words_of (inside l))) tt

-- ---- the walk

-- what stands at the place is carried out, and the walk goes on
abbrev pub onward : List ℕ → ShelfStore → Item → List ℕ
onward script s (line f n next) = (carried s f n).printed ++ rest script (carried s f n).store next (n + 1)
onward script s end = []

-- what a walker has to know of it
abbrev pub Stands : List ℕ → ℕ → ℕ → Item → Type 0
Stands script at i (line f n next) = Sized f × ((n ≡ i) × ((at < next) × (next ≤ length script + 1)))
Stands script at i end = length script ≤ at

module _ (script : List ℕ) (at i : ℕ) where
  pub rest-item : (s : ShelfStore) → rest script s at i ≡ onward script s (item_at script at i)
  unfolding printed_by
  rest-item s = by-test (ltb at (length script))
      (λ t. let h = ltb-true at (length script) t in ap (printed_by s i) (lines_from script at h)
      ∙ ap (onward script s) (sym (item_line script at i h)))
      (λ t. let h = ltb-false at (length script) t in ap (printed_by s i) (lines_none script at h)
      ∙ ap (onward script s) (sym (item_end script at i h)))

  pub item_stands : Stands script at i (item_at script at i)
  item_stands = by-test (ltb at (length script))
      (λ t. let h = ltb-true at (length script) t in let k = end-le 10 script at (omega arith) in
      subst (Stands script at i) (sym (item_line script at i h)) (
        sized-form (up_to 10 (drop at script)),
        (refl, (omega arith, omega arith)),
      ))
      (λ t. let h = ltb-false at (length script) t in subst (Stands script at i) (sym (item_end script at i h)) h)

pub rest-output : (script : List ℕ) → length script ≤ 32768 → rest script blank_store 0 1 ≡ output_of script
unfolding output_of
rest-output script h = rw (le-ltb 32768 (length script) h)

pub over-output : (script : List ℕ) → 32768 < length script → output_of script ≡ bad_line 0
unfolding output_of
over-output script h = rw (lt-ltb 32768 (length script) h)
