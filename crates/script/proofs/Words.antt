-- Laws of pieces: up to a byte, and the words of a line one by one.
use mathlib.Core.Path.{◌≡◌, refl, sym, ap, ◌∙◌}
use mathlib.Core.Bool.{Bool, true, false, cond, ◌&&◌}
use mathlib.Core.List.{List, [], ◌∷◌}
use Prim.Native.Nat.{ℕ, suc, ◌+◌, ◌-◌, ◌≤◌, ◌<◌}
use native.Mathlib.Omega.{arith}
use native.Mathlib.Numerals.{add-one}
use lib.Dec.{eqb, ltb}
use lib.Pointwise.{pointwise}
use lib.ListN.{length, take, drop, get_or, length-drop, drop_of_length-le}
use lib.Seq.{drop-cons, drop-drop}
use borrow.Author.Tests.{lt-ltb, le-ltb, ltb-true, ltb-false}
use Rattle.prelude.proofs.Tests.{by-test}
use Rattle.script.specs.Forms.{longer, pieces, lines_of, words_of, same}
use Rattle.script.specs.Parts.{up_to, end_of, words_after}

-- ---- the place of a byte

module _ (b x : ℕ) (l : List ℕ) where
  cons_hit : eqb x b ≡ true → up_to b (x ∷ l) ≡ []
  unfolding up_to
  cons_hit e = rw (e, up_to)

  cons_miss : eqb x b ≡ false → up_to b (x ∷ l) ≡ x ∷ up_to b l
  unfolding up_to
  cons_miss e = rw (e, up_to)

module _ (b : ℕ) (l : List ℕ) (i : ℕ) where
  pub end-hit : i < length l → eqb (get_or l i 0) b ≡ true → end_of b l i ≡ i
  end-hit h e = let z = ap length (ap (up_to b) (drop-cons l i 0 h) ∙ cons_hit b (get_or l i 0) (drop (suc i) l) e) in omega arith

  pub end-miss : i < length l → eqb (get_or l i 0) b ≡ false → end_of b l i ≡ end_of b l (i + 1)
  end-miss h e = let z = ap length (ap (up_to b) (drop-cons l i 0 h) ∙ cons_miss b (get_or l i 0) (drop (suc i) l) e) in
      rw add-one (omega arith)

  pub end-end : length l ≤ i → end_of b l i ≡ i
  unfolding up_to
  end-end h = let z = ap length (ap (up_to b) (drop_of_length-le l h)) in omega arith

upto_le : (b : ℕ) (l : List ℕ) → length (up_to b l) ≤ length l
unfolding up_to
upto_le b [] = omega arith
upto_le b (x ∷ l) = by-test (eqb x b) (λ t. let z = ap length (cons_hit b x l t) in omega arith)
    (λ t. let z = ap length (cons_miss b x l t) in let r = upto_le b l in omega arith)

pub end-le : (b : ℕ) (l : List ℕ) (at : ℕ) → at ≤ length l → end_of b l at ≤ length l
end-le b l at h = let z = upto_le b (drop at l) in let d = length-drop at l in omega arith

take-upto : (b : ℕ) (l : List ℕ) → take (length (up_to b l)) l ≡ up_to b l
unfolding up_to
take-upto b [] = refl
take-upto b (x ∷ l) = by-test (eqb x b) (λ t. rw (cons_hit b x l t))
    (λ t. rw (cons_miss b x l t) (ap (λ (m : List ℕ). x ∷ m) (take-upto b l)))

-- the piece from `at` to its end
pub piece_is : (b : ℕ) (l : List ℕ) (at : ℕ) → take (end_of b l at - at) (drop at l) ≡ up_to b (drop at l)
piece_is b l at = let e : end_of b l at - at ≡ length (up_to b (drop at l)) = omega arith in rw e (take-upto b (drop at l))

-- ---- pieces one by one

module _ (b : ℕ) (none : List (List ℕ)) where
  pub pieces-hit : (x : ℕ) (l : List ℕ) → eqb x b ≡ true → pieces b none (x ∷ l) ≡ [] ∷ pieces b none l
  unfolding pieces
  pieces-hit x l e = rw (e, pieces)

  pub pieces-miss : (x : ℕ) (l : List ℕ) → eqb x b ≡ false → pieces b none (x ∷ l) ≡ longer x (pieces b none l)
  unfolding pieces
  pieces-miss x l e = rw (e, pieces)

  -- the pieces after the one that ends at e
  abbrev after : List ℕ → ℕ → List (List ℕ)
  after l e = cond (ltb e (length l)) (pieces b none (drop (e + 1) l)) []

  after-zero : (x : ℕ) (l : List ℕ) → after (x ∷ l) 0 ≡ pieces b none l
  after-zero x l = rw (lt-ltb 0 (suc (length l)) (omega arith))

  after-cons : (x : ℕ) (l : List ℕ) (e : ℕ) → after (x ∷ l) (suc e) ≡ after l e
  after-cons x l e = by-test (ltb e (length l))
      (λ t. rw (t, lt-ltb (suc e) (suc (length l)) (let h = ltb-true e (length l) t in omega arith), add-one, add-one))
      (λ t. rw (t, le-ltb (suc e) (suc (length l)) (let h = ltb-false e (length l) t in omega arith)))

module _ (b : ℕ) (none : List (List ℕ)) (ends : (x : ℕ) → longer x none ≡ (x ∷ []) ∷ []) where
  -- the piece u of x ∷ l, and those after it
  abbrev with : ℕ → List ℕ → List ℕ → List (List ℕ)
  with x l u = u ∷ after b none (x ∷ l) (length u)

  first-hit : (x : ℕ) (l : List ℕ) → eqb x b ≡ true → pieces b none (x ∷ l) ≡ with x l (up_to b (x ∷ l))
  first-hit x l t = pieces-hit b none x l t ∙ ap (λ (ps : List (List ℕ)). [] ∷ ps) (sym (after-zero b none x l))
      ∙ ap (with x l) (sym (cons_hit b x l t))

  pieces-first : (x : ℕ) (l : List ℕ) → pieces b none (x ∷ l) ≡ with x l (up_to b (x ∷ l))
  unfolding pieces up_to
  pieces-first x [] = by-test (eqb x b) (first-hit x []) (λ t. pieces-miss b none x [] t ∙ ends x
      ∙ ap (with x []) (sym (cons_miss b x [] t)))
  pieces-first x (y ∷ m) = by-test (eqb x b) (first-hit x (y ∷ m)) (λ t. pieces-miss b none x (y ∷ m) t ∙ ap (longer x) (pieces-first y m)
      ∙ ap (λ (ps : List (List ℕ)). (x ∷ up_to b (y ∷ m)) ∷ ps) (sym (after-cons b none x (y ∷ m) _))
      ∙ ap (with x (y ∷ m)) (sym (cons_miss b x (y ∷ m) t)))

after-drop : (b : ℕ) (none : List (List ℕ)) (l : List ℕ) (at e : ℕ) → after b none (drop at l) e ≡ after b none l (at + e)
after-drop b none l at e =
    let d = length-drop at l in
    let i : at + (e + 1) ≡ at + e + 1 = omega arith in
    by-test (ltb (at + e) (length l))
    (λ t. rw (t, lt-ltb e (length (drop at l)) (let h = ltb-true (at + e) (length l) t in omega arith), drop-drop, i))
    (λ t. rw (t, le-ltb e (length (drop at l)) (let h = ltb-false (at + e) (length l) t in omega arith)))

words_first : (l : List ℕ) → words_of l ≡ up_to 32 l ∷ after 32 ([] ∷ []) l (length (up_to 32 l))
unfolding words_of pieces up_to
words_first [] = refl
words_first (x ∷ l) = pieces-first 32 ([] ∷ []) (λ y. refl) x l

-- the words from `at` on: the one there, and those after it
pub words_from : (l : List ℕ) (at : ℕ) → words_of (drop at l) ≡ up_to 32 (drop at l) ∷ words_after l (end_of 32 l at)
unfolding words_of
words_from l at = words_first (drop at l) ∙ ap (λ (ps : List (List ℕ)). up_to 32 (drop at l) ∷ ps)
    (after-drop 32 ([] ∷ []) l at (length (up_to 32 (drop at l))))

pub first_word : (l : List ℕ) → take (end_of 32 l 0) l ≡ up_to 32 l
first_word l = let e : end_of 32 l 0 ≡ length (up_to 32 l) = omega arith in rw e (take-upto 32 l)

-- the word after the one that ends at e
pub next_word : (l : List ℕ) (e : ℕ) → e < length l → words_after l e ≡ up_to 32 (drop (e + 1) l) ∷ words_after l (end_of 32 l (e + 1))
next_word l e h = rw (lt-ltb e (length l) h) (words_from l (e + 1))

-- ---- lines one by one

pub lines_none : (l : List ℕ) (at : ℕ) → length l ≤ at → lines_of (drop at l) ≡ []
unfolding lines_of pieces
lines_none l at h = rw (drop_of_length-le l h)

-- the lines from `at` on: the one there, and those after it
pub lines_from : (l : List ℕ) (at : ℕ) → at < length l
    → lines_of (drop at l) ≡ up_to 10 (drop at l) ∷ lines_of (drop (end_of 10 l at + 1) l)
unfolding lines_of
lines_from l at h =
    let rest : after 10 [] l (end_of 10 l at) ≡ lines_of (drop (end_of 10 l at + 1) l) = by-test (ltb (end_of 10 l at) (length l))
    (λ t. rw t)
    (λ t. rw t (sym (lines_none l (end_of 10 l at + 1) (let k = ltb-false (end_of 10 l at) (length l) t in omega arith)))) in
    let whole : lines_of (drop at l) ≡ up_to 10 (drop at l) ∷ after 10 [] (drop at l) (length (up_to 10 (drop at l))) =
    rw (drop-cons l at 0 h) (pieces-first 10 [] (λ y. refl) (get_or l at 0) (drop (suc at) l)) in
    whole ∙ ap (λ (ps : List (List ℕ)). up_to 10 (drop at l) ∷ ps) (after-drop 10 [] l at _ ∙ rest)

-- ---- words that are the same

pub same_is : (w v : List ℕ) → pointwise eqb w v ≡ same w v
unfolding same
same_is [] [] = refl
same_is [] (y ∷ v) = refl
same_is (x ∷ w) [] = refl
same_is (x ∷ w) (y ∷ v) = ap (λ (b : Bool). eqb x y && b) (same_is w v)
