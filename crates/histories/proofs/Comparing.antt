-- Two texts that begin alike: one byte more.
use Rattle.std.proofs.Common.{◌≡◌, ℕ, suc, ◌+◌, ◌<◌, List, [], ◌∷◌, ◌++◌, length, get_or, take}
use Rattle.std.proofs.Common.{sym, ap, ◌∙◌, add-one, take-suc}

pub one_more : (a b : List ℕ) (i : ℕ) → i < length a → i < length b → take i a ≡ take i b → get_or a i 0 ≡ get_or b i 0
    → take (i + 1) a ≡ take (i + 1) b
one_more a b i h k e g =
    let l : take (suc i) a ≡ take i a ++ (get_or a i 0 ∷ []) = take-suc a i 0 h in
    let r : take (suc i) b ≡ take i b ++ (get_or b i 0 ∷ []) = take-suc b i 0 k in
    rw add-one (l ∙ ap (λ (x : List ℕ). x ++ (get_or a i 0 ∷ [])) e ∙ ap (λ (x : ℕ). take i b ++ (x ∷ [])) g ∙ sym r)
