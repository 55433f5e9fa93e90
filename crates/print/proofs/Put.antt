-- Laws of printing into a lent buffer.
use mathlib.Core.Path.{◌≡◌, refl, sym, ap, ◌∙◌}
use mathlib.Core.List.{List, [], ◌∷◌, ◌++◌, append_assoc}
use Prim.Native.Nat.{ℕ, ◌+◌, ◌≤◌, ◌<◌}
use native.Mathlib.Omega.{arith}
use native.Mathlib.Nat.{add-zero, add_assoc}
use native.Mathlib.Numerals.{add-one}
use lib.ListN.{length, take, drop, set, length-append, take-append-drop}
use lib.Seq.{length-take-le, take_at, drop_at, drop-drop, set_split}
use Rattle.print.specs.Print.{put_at, Printed}

-- what is put after p, which is k long
put-after : (p rest b : List ℕ) (k : ℕ) → length p ≡ k → put_at (p ++ rest) k b ≡ p ++ (b ++ drop (length b) rest)
unfolding put_at
put-after p rest b k e = rw (take_at p rest k e, ← drop-drop (length b) k (p ++ rest), drop_at p rest k e)

module _ (l : List ℕ) (at : ℕ) where
  pub put-none : put_at l at [] ≡ l
  unfolding put_at
  put-none = rw add-zero (take-append-drop at l)

  pub put_one : (x : ℕ) → at < length l → set l at x ≡ put_at l at (x ∷ [])
  unfolding put_at
  put_one x h = rw add-one (set_split l at x h)

  pub put_then : (a b : List ℕ) → at ≤ length l → put_at (put_at l at a) (at + length a) b ≡ put_at l at (a ++ b)
  unfolding put_at
  put_then a b h =
      let front : length (take at l ++ a) ≡ at + length a = length-append (take at l) a
      ∙ ap (λ (k : ℕ). k + length a) (length-take-le at l h) in
      let whole : put_at l at a ≡ (take at l ++ a) ++ drop (at + length a) l = sym (append_assoc (take at l) a _) in
      let same : drop (length b) (drop (at + length a) l) ≡ drop (at + length (a ++ b)) l = rw (drop-drop, length-append, add_assoc) in
      ap (λ (x : List ℕ). put_at x (at + length a) b) whole ∙ put-after (take at l ++ a) _ b (at + length a) front
      ∙ append_assoc (take at l) a _ ∙ ap (λ (x : List ℕ). take at l ++ x)
      (sym (append_assoc a b _) ∙ ap (λ (x : List ℕ). a ++ b ++ x) same)

pub printed-none : (l : List ℕ) (at : ℕ) → Printed 0 [] l at l at
printed-none l at = record { buffer = sym (put-none l at); place = sym (add-zero at); within = omega arith }

pub printed-one : (l : List ℕ) (at x : ℕ) → at < length l → Printed 1 (x ∷ []) l at (set l at x) (at + 1)
printed-one l at x h = record { buffer = put_one l at x h; place = refl; within = omega arith }

-- one after the other
pub printed-then : {q r : ℕ} {a b old m new : List ℕ} {at i j : ℕ} → at ≤ length old → Printed q a old at m i → Printed r b m i new j
    → Printed (q + r) (a ++ b) old at new j
printed-then {q} {r} {a} {b} {old} {m} {new} {at} {i} {j} h x y = record {
  buffer = y.buffer ∙ ap (λ (l : List ℕ). put_at l i b) x.buffer ∙ ap (λ (k : ℕ). put_at (put_at old at a) k b) x.place
      ∙ put_then old at a b h;
  place = y.place ∙ ap (λ (k : ℕ). k + length b) x.place ∙ rw (length-append, add_assoc);
  within = omega arith;
}

-- the same bytes otherwise written, and more room
pub printed-as : {q r : ℕ} {a b old new : List ℕ} {at j : ℕ} → q ≤ r → a ≡ b → Printed q a old at new j → Printed r b old at new j
printed-as {q} {r} {a} {b} {old} {new} {at} {j} h e x = record {
  buffer = x.buffer ∙ ap (put_at old at) e;
  place = x.place ∙ ap (λ (l : List ℕ). at + length l) e;
  within = omega arith;
}

-- what stands in front of the next place
pub printed-front : {q : ℕ} {bs old new : List ℕ} {at next : ℕ} → at ≤ length old → Printed q bs old at new next
    → take next new ≡ take at old ++ bs
unfolding put_at
printed-front {q} {bs} {old} {new} {at} {next} h x =
    let long : length (take at old ++ bs) ≡ next = length-append (take at old) bs ∙ ap (λ (k : ℕ). k + length bs) (length-take-le at old h)
    ∙ sym x.place in
    ap (take next) (x.buffer ∙ sym (append_assoc (take at old) bs _)) ∙ take_at (take at old ++ bs) _ next long
