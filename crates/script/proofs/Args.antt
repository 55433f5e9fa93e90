-- Laws of the numbers after a form's word, read one by one.
use mathlib.Core.Path.{◌≡◌, refl, sym, ap, ◌∙◌}
use mathlib.Core.Logic.{◌⊎◌, inl, inr}
use mathlib.Core.Bool.{true, false, ◌&&◌, and_assoc}
use mathlib.Core.List.{List, [], ◌∷◌, ◌++◌, append_assoc, map}
use Prim.Native.Nat.{ℕ, ◌+◌, ◌<◌}
use native.Mathlib.Omega.{arith}
use native.Mathlib.Numerals.{add-one}
use lib.Dec.{leb}
use lib.ListN.{length, take, set, length-append}
use lib.Seq.{take-suc-set}
use borrow.Author.Tests.{leb-true}
use Rattle.prelude.specs.Tests.{every}
use Rattle.prelude.proofs.Tests.{by-test, clash, and_l, and_r, and_i}
use Rattle.script.specs.Forms.{is_number, value_of}

-- of the words ws, all but `rest` are read: they are numbers, and values has them
pub record ReadTo (ws rest : List (List ℕ)) (count : ℕ) (values : List ℕ) : Type 0 where
  pub front : List (List ℕ)
  pub split : ws ≡ front ++ rest
  pub long : length front ≡ count
  pub numbers : every (map is_number front) ≡ true
  pub taken : map value_of front ≡ take count values

every_front : (f r : List (List ℕ)) → every (map is_number (f ++ r)) ≡ (every (map is_number f) && every (map is_number r))
unfolding every
every_front [] r = refl
every_front (w ∷ f) r = ap (λ b. is_number w && b) (every_front f r)
    ∙ sym (and_assoc (is_number w) (every (map is_number f)) (every (map is_number r)))

map-front : (f r : List (List ℕ)) → map value_of (f ++ r) ≡ map value_of f ++ map value_of r
map-front [] r = refl
map-front (w ∷ f) r = ap (λ (l : List ℕ). value_of w ∷ l) (map-front f r)

pub read_none : (ws : List (List ℕ)) (values : List ℕ) → ReadTo ws ws 0 values
unfolding every
read_none ws values = record { front = []; split = refl; long = refl; numbers = refl; taken = refl }

pub read_more : {ws rest : List (List ℕ)} {w : List ℕ} {count : ℕ} {values : List ℕ} → ReadTo ws (w ∷ rest) count values
    → is_number w ≡ true → count < length values
    → ReadTo ws rest (count + 1) (set values count (value_of w))
unfolding every
read_more {ws} {rest} {w} {count} {values} r h k = record {
  front = r.front ++ (w ∷ []);
  split = r.split ∙ sym (append_assoc r.front (w ∷ []) rest);
  long = length-append r.front (w ∷ []) ∙ ap (λ (n : ℕ). n + 1) r.long;
  numbers = every_front r.front (w ∷ []) ∙ and_i r.numbers (and_i h refl);
  taken = map-front r.front (w ∷ []) ∙ ap (λ (l : List ℕ). l ++ (value_of w ∷ [])) r.taken
      ∙ sym (take-suc-set values count (value_of w) k)
      ∙ ap (λ (n : ℕ). take n (set values count (value_of w))) (sym (add-one count));
}

pub read-stop : {ws rest : List (List ℕ)} {w : List ℕ} {count : ℕ} {values : List ℕ} → ReadTo ws (w ∷ rest) count values
    → (is_number w ≡ false) ⊎ (count ≡ 11)
    → (every (map is_number ws) && leb (length ws) 11) ≡ false
unfolding every
read-stop {ws} {rest} {w} {count} {values} r h = by-test (every (map is_number ws) && leb (length ws) 11) (λ t.
    let n : (every (map is_number r.front) && every (map is_number (w ∷ rest))) ≡ true =
    sym (every_front r.front (w ∷ rest)) ∙ ap (λ (l : List (List ℕ)). every (map is_number l)) (sym r.split)
    ∙ and_l (every (map is_number ws)) (leb (length ws) 11) t in
    let i = and_l (is_number w) (every (map is_number rest)) (and_r (every (map is_number r.front)) (every (map is_number (w ∷ rest))) n) in
    let k = leb-true (length ws) 11 (and_r (every (map is_number ws)) (leb (length ws) 11) t) in
    let l = ap length r.split ∙ length-append r.front (w ∷ rest) in
    let f = r.long in
    elim h [ inl q ↦ clash i q | inr q ↦ absurd (omega arith) ]) (λ t. t)
