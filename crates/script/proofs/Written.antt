-- A line says a form exactly if it is that form as it is written.
use mathlib.Core.Path.{◌≡◌, refl, sym, ap, ◌∙◌}
use mathlib.Core.Bool.{true, false, not, ◌&&◌}
use mathlib.Core.List.{List, [], ◌∷◌, ◌++◌, append_assoc, append-nil, map}
use Prim.Native.String.{String}
use Prim.Native.Nat.{ℕ, zero, suc, ◌+◌, ◌-◌, ◌<◌, ◌^◌}
use native.Mathlib.Omega.{arith}
use lib.Dec.{eqb, leb}
use lib.ListN.{length, take, get_or, length-append}
use lib.Seq.{take_at, take-suc, take-length, get_or_at}
use borrow.Author.Tests.{eqb-true, eq-eqb, ne_eqb, leb-true, le-leb}
use Rattle.prelude.specs.Tests.{every}
use Rattle.prelude.specs.Scan.{tab, tab_from}
use Rattle.prelude.proofs.Tab.{tab-list}
use Rattle.prelude.proofs.Tests.{by-test, clash, and_l, and_r, and_i, each, every_of}
use Rattle.model.specs.Sizes.{sizes_ok}
use Rattle.print.specs.Text.{bytes, decimal, form, items}
use Rattle.print.specs.Print.{spaced}
use Rattle.script.specs.Forms.{Form, opens, writes, reads, steps, flushes, wears, bad, longer, pieces, words_of, is_digit, value_of}
use Rattle.script.specs.Forms.{is_number, five, buffers_fit, opening, same, sizes_from, form_with, form_of_words, bracketed, inside}
use Rattle.script.specs.Forms.{form_of}
use Rattle.script.specs.Parts.{up_to, end_of, words_after}
use Rattle.script.specs.Written.{numbers_of, written, Sayable}
use Rattle.script.proofs.Words.{pieces-hit, pieces-miss, words_from}
use Rattle.script.proofs.Value.{number-facts}
use Rattle.script.proofs.With.{is_open_lem, is_write, is_read, is_step, is_flush, is_wear, form_from, from-open, from-write, from-read}
use Rattle.script.proofs.With.{from_step, from-flush, from-wear, from-bad}
use Rattle.script.proofs.Numerals.{value-decimal, digit-decimal, number-decimal, decimal-value}

-- ---- words joined by single spaces

abbrev joined : List (List ℕ) → List ℕ
joined [] = []
joined (w ∷ ws) = w ++ spaced ws

-- none of the bytes is a space
abbrev Clear : List ℕ → Type 0
Clear [] = Unit {0}
Clear (x ∷ w) = (eqb x 32 ≡ false) × Clear w

joined-longer : (x : ℕ) (ps : List (List ℕ)) → joined (longer x ps) ≡ x ∷ joined ps
unfolding spaced
joined-longer x [] = refl
joined-longer x (p ∷ ps) = refl

space_joined : (l : List ℕ) → joined ([] ∷ words_of l) ≡ 32 ∷ joined (words_of l)
unfolding spaced
space_joined l = rw (words_from l 0)

-- words and the spaces between them are the whole
words_joined : (l : List ℕ) → joined (words_of l) ≡ l
unfolding words_of pieces spaced
words_joined [] = refl
words_joined (x ∷ l) = by-test (eqb x 32)
    (λ t. rw (pieces-hit 32 ([] ∷ []) x l t) (space_joined l ∙ ap (λ (m : List ℕ). 32 ∷ m) (words_joined l)
    ∙ ap (λ (y : ℕ). y ∷ l) (sym (eqb-true x 32 t))))
    (λ t. rw (pieces-miss 32 ([] ∷ []) x l t) (joined-longer x (words_of l) ∙ ap (λ (m : List ℕ). x ∷ m) (words_joined l)))

-- a clear word alone, and before a space
clear_last : (w : List ℕ) → Clear w → words_of w ≡ w ∷ []
unfolding words_of pieces
clear_last [] c = refl
clear_last (x ∷ w) c = pieces-miss 32 ([] ∷ []) x w c.0 ∙ ap (longer x) (clear_last w c.1)

clear_space : (w l : List ℕ) → Clear w → words_of (w ++ (32 ∷ l)) ≡ w ∷ words_of l
unfolding words_of
clear_space [] l c = pieces-hit 32 ([] ∷ []) 32 l refl
clear_space (x ∷ w) l c = pieces-miss 32 ([] ∷ []) x (w ++ (32 ∷ l)) c.0 ∙ ap (longer x) (clear_space w l c.1)

abbrev AllClear : List (List ℕ) → Type 0
AllClear [] = Unit {0}
AllClear (w ∷ ws) = Clear w × AllClear ws

-- clear words, joined, are those words
joined_words : (w : List ℕ) (ws : List (List ℕ)) → Clear w → AllClear ws → words_of (joined (w ∷ ws)) ≡ w ∷ ws
unfolding spaced
joined_words w [] c cs = ap words_of (append-nil w) ∙ clear_last w c
joined_words w (v ∷ ws) c cs = clear_space w (joined (v ∷ ws)) c ∙ ap (λ (ps : List (List ℕ)). w ∷ ps) (joined_words v ws cs.0 cs.1)

-- digits are clear
clear_digits : (w : List ℕ) → ((i : ℕ) → i < length w → is_digit (get_or w i 0) ≡ true) → Clear w
clear_digits [] h = tt
clear_digits (x ∷ w) h = (
  ne_eqb x 32 (λ e. let l = leb-true 48 x (and_l (leb 48 x) (leb x 57) (h 0 (omega arith))) in omega arith),
  clear_digits w (λ i k. h (suc i) (omega arith)),
)

clear_decimals : (ns : List ℕ) → AllClear (map decimal ns)
clear_decimals [] = tt
clear_decimals (n ∷ ns) = (clear_digits (decimal n) (digit-decimal n), clear_decimals ns)

-- ---- brackets

-- the line with x between the brackets
abbrev within : List ℕ → List ℕ
within x = 40 ∷ (x ++ (41 ∷ []))

items-spaced : (l : List (List ℕ)) → items l ≡ spaced l ++ (41 ∷ [])
unfolding items spaced
items-spaced [] = refl
items-spaced (i ∷ l) = ap (λ (m : List ℕ). 32 ∷ m) (ap (λ (m : List ℕ). i ++ m) (items-spaced l)
    ∙ sym (append_assoc i (spaced l) (41 ∷ [])))

form-within : (w : String) (l : List (List ℕ)) → form w l ≡ within (joined (bytes w ∷ l))
unfolding form
form-within w l = ap (λ (m : List ℕ). 40 ∷ m) (ap (λ (m : List ℕ). bytes w ++ m) (items-spaced l)
    ∙ sym (append_assoc (bytes w) (spaced l) (41 ∷ [])))

module _ (x : List ℕ) where
  long : length (within x) ≡ length x + 2
  long = let z = length-append x (41 ∷ []) in omega arith

  within-inside : inside (within x) ≡ x
  within-inside = let z = long in let e : length (within x) - 2 ≡ length x = omega arith in rw e (take_at x (41 ∷ []) (length x) refl)

  within-bracketed : bracketed (within x) ≡ true
  unfolding bracketed
  within-bracketed =
      let z = long in
      let e : length (within x) - 1 ≡ suc (length x) = omega arith in
      every_of _ (
        le-leb 2 (length (within x)) (omega arith),
        (
          refl,
          (
            eq-eqb (get_or (within x) (length (within x) - 1) 0) 41 (ap (λ (k : ℕ). get_or (within x) k 0) e
                ∙ get_or_at x 41 [] 0 (length x) refl),
            tt,
          ),
        ),
      )

  within-form : form_of (within x) ≡ form_of_words (words_of x)
  unfolding form_of
  within-form = rw (within-bracketed, within-inside)

-- a list and its last element
last-split : (m : List ℕ) → 0 < length m → m ≡ take (length m - 1) m ++ (get_or m (length m - 1) 0 ∷ [])
last-split m h =
    let j = length m - 1 in
    let e : length m ≡ suc (length m - 1) = omega arith in
    sym (take-length m) ∙ ap (λ (k : ℕ). take k m) e ∙ take-suc m (length m - 1) 0 (omega arith)

bracket_within : (l : List ℕ) → bracketed l ≡ true → l ≡ within (inside l)
unfolding bracketed
bracket_within [] h = let z = leb-true 2 0 (each (leb 2 0 ∷ eqb 0 40 ∷ eqb 0 41 ∷ []) h).0 in absurd (omega arith)
bracket_within (x ∷ m) h =
    let f = each (leb 2 (length (x ∷ m)) ∷ eqb x 40 ∷ eqb (get_or (x ∷ m) (length (x ∷ m) - 1) 0) 41 ∷ []) h in
    let k = leb-true 2 (length (x ∷ m)) f.0 in
    let i : length (x ∷ m) - 1 ≡ suc (length m - 1) = omega arith in
    let t : length (x ∷ m) - 2 ≡ length m - 1 = omega arith in
    let z : get_or m (length m - 1) 0 ≡ 41 = ap (λ (j : ℕ). get_or (x ∷ m) j 0) (sym i) ∙ eqb-true _ 41 f.1.1.0 in
    ap (λ (y : ℕ). y ∷ m) (eqb-true x 40 f.1.0) ∙ ap (λ (n : List ℕ). 40 ∷ n) (last-split m (omega arith)
    ∙ ap (λ (y : ℕ). take (length m - 1) m ++ (y ∷ [])) z ∙ ap (λ (j : ℕ). take j m ++ (41 ∷ [])) (sym t))

-- ---- a form that is written is read

abbrev AllFit : List ℕ → Type 0
AllFit [] = Unit {0}
AllFit (n ∷ ns) = (n < 2 ^ 32) × AllFit ns

decimals_numbers : (ns : List ℕ) → AllFit ns → every (map is_number (map decimal ns)) ≡ true
unfolding every
decimals_numbers [] h = refl
decimals_numbers (n ∷ ns) h = and_i (number-decimal n h.0) (decimals_numbers ns h.1)

decimals_values : (ns : List ℕ) → map value_of (map decimal ns) ≡ ns
decimals_values [] = refl
decimals_values (n ∷ ns) = ap (λ (k : ℕ). k ∷ map value_of (map decimal ns)) (value-decimal n)
    ∙ ap (λ (l : List ℕ). n ∷ l) (decimals_values ns)

form-numbers : (w : String) (ns : List ℕ) → Clear (bytes w) → AllFit ns → form_of (form w (map decimal ns)) ≡ form_with (bytes w) ns
unfolding form_of_words
form-numbers w ns c h =
    ap form_of (form-within w (map decimal ns)) ∙ within-form (joined (bytes w ∷ map decimal ns))
    ∙ ap form_of_words (joined_words (bytes w) (map decimal ns) c (clear_decimals ns))
    ∙ rw (decimals_numbers ns h, decimals_values ns)

pub read_back : (f : Form) → Sayable f → form_of (written f) ≡ f
unfolding form_with same opening
read_back (opens sz) h =
    form-numbers "open" (numbers_of sz) (refl, (refl, (refl, (refl, tt))))
    (h.S_fits, (h.K_fits, (h.N_fits, (h.P_fits, (h.B_fits, (h.W_fits, tt)))))) ∙ ap opening (sym h.plain) ∙ rw h.room
read_back (writes n b) h = form-numbers "write" (n ∷ b ∷ []) (refl, (refl, (refl, (refl, (refl, tt))))) (h.0, (omega (arith, h.1), tt))
    ∙ rw (le-leb b 255 (omega (arith, h.1)))
read_back (reads n) h = form-numbers "read" (n ∷ []) (refl, (refl, (refl, (refl, tt)))) (h, tt)
read_back steps h = form-numbers "step" [] (refl, (refl, (refl, (refl, tt)))) tt
read_back flushes h = form-numbers "flush" [] (refl, (refl, (refl, (refl, (refl, tt))))) tt
read_back wears h = form-numbers "wear" [] (refl, (refl, (refl, (refl, tt)))) tt
read_back bad h = absurd h

-- ---- and no other line is

-- the bytes x are the form f as it is written
abbrev Says : List ℕ → Form → Type 0
Says x f = (x ≡ written f) × Sayable f

says-by : {x : List ℕ} {f g : Form} → f ≡ g → ((g ≡ bad → ⊥) → Says x g) → (f ≡ bad → ⊥) → Says x f
says-by {x} {f} {g} e s h = rw e (s (λ k. h (e ∙ k)))

same-is : (w v : List ℕ) → same w v ≡ true → w ≡ v
unfolding same
same-is [] [] h = refl
same-is [] (y ∷ v) h = clash h refl
same-is (x ∷ w) [] h = clash h refl
same-is (x ∷ w) (y ∷ v) h = ap (λ (z : ℕ). z ∷ w) (eqb-true x y (and_l (eqb x y) (same w v) h))
    ∙ ap (λ (l : List ℕ). y ∷ l) (same-is w v (and_r (eqb x y) (same w v) h))

numbers-decimals : (ws : List (List ℕ)) → every (map is_number ws) ≡ true → ws ≡ map decimal (map value_of ws)
unfolding every
numbers-decimals [] h = refl
numbers-decimals (w ∷ ws) h =
    let a = and_l (is_number w) (every (map is_number ws)) h in
    let b = and_r (is_number w) (every (map is_number ws)) h in
    ap (λ (l : List (List ℕ)). w ∷ l) (numbers-decimals ws b) ∙ ap (λ (v : List ℕ). v ∷ map decimal (map value_of ws))
    (sym (decimal-value w a))

numbers_fit : (ws : List (List ℕ)) → every (map is_number ws) ≡ true → AllFit (map value_of ws)
unfolding every
numbers_fit [] h = tt
numbers_fit (w ∷ ws) h =
    let s = (number-facts w (and_l (is_number w) (every (map is_number ws)) h)).small in
    (omega arith, numbers_fit ws (and_r (is_number w) (every (map is_number ws)) h))

fit_at : (ns : List ℕ) (i : ℕ) → AllFit ns → get_or ns i 0 < 2 ^ 32
fit_at [] i h = omega arith
fit_at (n ∷ ns) zero h = h.0
fit_at (n ∷ ns) (suc i) h = fit_at ns i h.1

module _ (w ns : List ℕ) (fit : AllFit ns) where
  -- a word with k numbers is written so
  word_is : (v : String) (k : ℕ) → (same w (bytes v) && eqb (length ns) k) ≡ true
      → within (joined (w ∷ map decimal ns)) ≡ form v (map decimal (tab k (λ i. get_or ns i 0)))
  word_is v k t =
      ap (λ (x : List ℕ). within (joined (x ∷ map decimal ns))) (same-is w (bytes v) (and_l (same w (bytes v)) (eqb (length ns) k) t))
      ∙ ap (λ (l : List ℕ). within (joined (bytes v ∷ map decimal l)))
      (sym (tab-list 0 k ns (eqb-true (length ns) k (and_r (same w (bytes v)) (eqb (length ns) k) t))))
      ∙ sym (form-within v _)

  says-opening : (same w (bytes "open") && eqb (length ns) 6) ≡ true → (opening (sizes_from ns) ≡ bad → ⊥)
      → Says (within (joined (w ∷ map decimal ns))) (opening (sizes_from ns))
  unfolding opening tab tab_from
  says-opening t = by-test (sizes_ok (five (sizes_from ns)) && not (buffers_fit (sizes_from ns)))
      (λ e. rw e (λ h. absurd (h refl)))
      (λ e. rw e (λ h. (
        word_is "open" 6 t,
        record {
          S_fits = fit_at ns 0 fit;
          K_fits = fit_at ns 1 fit;
          N_fits = fit_at ns 2 fit;
          P_fits = fit_at ns 3 fit;
          B_fits = fit_at ns 4 fit;
          W_fits = fit_at ns 5 fit;
          plain = refl;
          room = e;
        },
      )))

  says_write : is_write w (length ns) ns ≡ true → Says (within (joined (w ∷ map decimal ns))) (writes (get_or ns 0 0) (get_or ns 1 0))
  unfolding tab tab_from
  says_write t =
      let s = same w (bytes "write") in
      let k = eqb (length ns) 2 in
      let b = leb (get_or ns 1 0) 255 in
      let r = and_r s (k && b) t in
      let small = leb-true (get_or ns 1 0) 255 (and_r k b r) in
      (word_is "write" 2 (and_i (and_l s (k && b) t) (and_l k b r)), (fit_at ns 0 fit, omega arith))

  says-with : (form_with w ns ≡ bad → ⊥) → Says (within (joined (w ∷ map decimal ns))) (form_with w ns)
  unfolding form_with form_from tab tab_from
  says-with =
      let n = length ns in
      by-test (is_open_lem w n ns) (λ a. says-by (from-open w n ns a) (says-opening a)) (λ a.
      by-test (is_write w n ns) (λ b. says-by (from-write w n ns a b) (λ h. says_write b)) (λ b.
      by-test (is_read w n ns) (λ c. says-by (from-read w n ns a b c) (λ h. (word_is "read" 1 c, fit_at ns 0 fit))) (λ c.
      by-test (is_step w n ns) (λ d. says-by (from_step w n ns a b c d) (λ h. (word_is "step" 0 d, tt))) (λ d.
      by-test (is_flush w n ns) (λ e. says-by (from-flush w n ns a b c d e) (λ h. (word_is "flush" 0 e, tt))) (λ e.
      by-test (is_wear w n ns) (λ f. says-by (from-wear w n ns a b c d e f) (λ h. (word_is "wear" 0 f, tt)))
      (λ f. says-by (from-bad w n ns a b c d e f) (λ h. absurd (h refl))))))))

-- what a line says, if it says something, is what is written there
pub only_so : (l : List ℕ) → (form_of l ≡ bad → ⊥) → Says l (form_of l)
unfolding form_of form_of_words
only_so l = by-test (bracketed l)
    (λ t.
    let x = inside l in
    let w = up_to 32 x in
    let ws = words_after x (end_of 32 x 0) in
    let e : words_of x ≡ w ∷ ws = words_from x 0 in
    let whole : l ≡ within (joined (w ∷ ws)) = bracket_within l t ∙ ap within (sym (words_joined x) ∙ ap joined e) in
    by-test (every (map is_number ws))
    (λ n. let f : form_of l ≡ form_with w (map value_of ws) = rw (t, e, n) in
    says-by f (λ h. let s = says-with w (map value_of ws) (numbers_fit ws n) h in
    (whole ∙ ap (λ (vs : List (List ℕ)). within (joined (w ∷ vs))) (numbers-decimals ws n) ∙ s.0, s.1)))
    (λ n. let f : form_of l ≡ bad = rw (t, e, n) in λ h. absurd (h f)))
    (λ t. let f : form_of l ≡ bad = rw t in λ h. absurd (h f))
