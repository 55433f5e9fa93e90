-- A refusal prints its number alone.
use mathlib.Core.Path.{◌≡◌, refl, ap, ◌∙◌}
use mathlib.Core.List.{List}
use Prim.Native.Nat.{ℕ}
use native.Mathlib.Omega.{arith}
use Rattle.model.specs.Sizes.{vacant}
use Rattle.model.specs.Calls.{refused}
use Rattle.answer.specs.declared.Refusal.{Refusal}
use Rattle.answer.specs.declared.Refusal.TheVariants.{Size, Buffer, Overworn, Record, Page, Worn, Unreadable, Empty, Torn}
use Rattle.answer.specs.Numbers.{refusal_of}
use Rattle.replies.specs.Numbers.{numbers_of}
use Rattle.print.specs.Print.{said, Printed}
use Rattle.print.proofs.Put.{printed-as}

said-refused : (why : Refusal) (a b : ℕ) → said (refused (numbers_of (refusal_of why) 0).refusal vacant) a ≡ said (refusal_of why) b
unfolding said
said-refused Size a b = refl
said-refused Buffer a b = refl
said-refused Overworn a b = refl
said-refused Record a b = refl
said-refused Page a b = refl
said-refused (Worn w) a b = refl
said-refused Unreadable a b = refl
said-refused Empty a b = refl
said-refused Torn a b = refl

-- a line l of a refusal's number is the line of the refusal
pub refused-line : (l : List (List ℕ) → List ℕ) (why : Refusal) (n a b : ℕ) {room : ℕ} {old new : List ℕ} {at j : ℕ}
    → n ≡ (numbers_of (refusal_of why) 0).refusal
    → Printed room (l (said (refused n vacant) a)) old at new j → Printed room (l (said (refusal_of why) b)) old at new j
refused-line l why n a b {room} e h = printed-as {q = room} {r = room} (omega arith)
    (ap (λ (m : ℕ). l (said (refused m vacant) a)) e ∙ ap l (said-refused why a b)) h
