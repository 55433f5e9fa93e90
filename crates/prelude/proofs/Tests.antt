-- Laws of tests: cases, conjunctions, disjunctions, and lists of tests as facts.
use mathlib.Core.Path.{◌≡◌, refl, sym, ap, ◌∙◌}
use mathlib.Core.Logic.{◌⊎◌, inl, inr}
use mathlib.Core.Bool.{Bool, true, false, not, cond, ◌&&◌, ◌||◌, and_assoc, and-true}
use mathlib.Core.List.{List, [], ◌∷◌}
use Prim.Native.Nat.{ℕ}
use native.Mathlib.Omega.{arith}
use Rattle.prelude.specs.Tests.{every}

-- a goal by cases on a test, each case with the test's result
pub by-test : {X : Type 0} (b : Bool) → (b ≡ true → X) → (b ≡ false → X) → X
by-test true f g = f refl
by-test false f g = g refl

-- a test does not both pass and fail
pub clash : {X : Type 0} {b : Bool} → b ≡ true → b ≡ false → X
clash {b} p q = absurd (let z : ◌≡◌ {A = ℕ} 0 1 = (ap (λ c. cond c 0 1) (sym p ∙ q)) in omega arith)

-- a test that does not pass
pub fails : (b : Bool) → (b ≡ true → ⊥) → b ≡ false
fails b h = by-test b (λ e. absurd (h e)) (λ e. e)

pub and_l : (a b : Bool) → (a && b) ≡ true → a ≡ true
and_l true b h = refl
and_l false b h = h

pub and_r : (a b : Bool) → (a && b) ≡ true → b ≡ true
and_r true b h = h
and_r false b h = clash h refl

pub and_i : {a b : Bool} → a ≡ true → b ≡ true → (a && b) ≡ true
and_i {a} {b} p q = rw (p, q)

pub and-not_l : {a b : Bool} → a ≡ true → (a && b) ≡ false → b ≡ false
and-not_l {a} {b} p h = sym (ap (λ c. c && b) p) ∙ h

pub or_l : {a : Bool} (b : Bool) → a ≡ true → (a || b) ≡ true
or_l {a} b p = rw p

pub or_r : (a : Bool) {b : Bool} → b ≡ true → (a || b) ≡ true
or_r true p = refl
or_r false p = p

pub or_cases : (a b : Bool) → (a || b) ≡ true → (a ≡ true) ⊎ (b ≡ true)
or_cases true b h = inl refl
or_cases false b h = inr h

-- the first of two, where the second fails
pub or_left : (a b : Bool) → (a || b) ≡ true → b ≡ false → a ≡ true
or_left true b h q = refl
or_left false b h q = clash h q

pub or_false : (a : Bool) → (a || false) ≡ a
or_false true = refl
or_false false = refl

-- two tests that pass alike are one
pub same_test : {a b : Bool} → (a ≡ true → b ≡ true) → (b ≡ true → a ≡ true) → a ≡ b
same_test {a = true} {b} f g = sym (f refl)
same_test {a = false} {b = true} f g = g refl
same_test {a = false} {b = false} f g = refl

pub not_t : {b : Bool} → not b ≡ true → b ≡ false
not_t {b = true} h = sym h
not_t {b = false} h = refl

pub not_f : {b : Bool} → not b ≡ false → b ≡ true
not_f {b = true} h = refl
not_f {b = false} h = sym h

pub not-i : {b : Bool} → b ≡ false → not b ≡ true
not-i {b} h = rw h

-- the tests of a list as facts: `e.0`, `e.1.0`, `e.1.1.0` and so on
abbrev pub Each : List Bool → Type 0
Each [] = Unit {0}
Each (b ∷ l) = (b ≡ true) × Each l

pub each : (l : List Bool) → every l ≡ true → Each l
unfolding every
each [] h = tt
each (b ∷ l) h = (and_l b (every l) h, each l (and_r b (every l) h))

pub every_of : (l : List Bool) → Each l → every l ≡ true
unfolding every
every_of [] h = refl
every_of (b ∷ l) h = and_i h.0 (every_of l h.1)

-- tests joined as code joins them, `a & b & c`, which nests to the left
abbrev pub joined : Bool → List Bool → Bool
joined a [] = a
joined a (b ∷ l) = joined (a && b) l

joined-every : (a : Bool) (l : List Bool) → joined a l ≡ (a && every l)
unfolding every
joined-every a [] = sym (and-true a)
joined-every a (b ∷ l) = joined-every (a && b) l ∙ and_assoc a b (every l)

abbrev pub chain : List Bool → Bool
chain [] = true
chain (a ∷ l) = joined a l

pub chain-every : (l : List Bool) → chain l ≡ every l
unfolding every
chain-every [] = refl
chain-every (a ∷ l) = joined-every a l
