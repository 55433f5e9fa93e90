-- The place of the first element that passes, as std's chain of iterators has it and as a scan has it.
use Rattle.std.proofs.Common.{◌≡◌, ap, sym, subst, ◌∙◌, Bool, not, List, [], ◌∷◌, ℕ, suc, ◌+◌, ◌≤◌, ◌<◌, length, take, get_or}
use Rattle.std.proofs.Common.{add-zero, arith, Option}
use Rattle.std.specs.List.{position, position_or_len}
use Rattle.std.specs.Option.{unwrap_or, IfSome}
use Rattle.std.proofs.lemmas.Grind.{common_steps}
use Rattle.std.proofs.lemmas.Bool.Decides.{nat_tests}
use Rattle.std.proofs.lemmas.List.{get_or-take}
use Rattle.std.proofs.lemmas.List.Sums.{prefix_len-le-length}
use Rattle.prelude.specs.Scan.{first, first_from}
use Rattle.prelude.proofs.Scan.{from-same}

shifted : (p : ℕ → Bool) (l : List ℕ) (i : ℕ) (q : ℕ → Bool)
    → ((k : ℕ) → k < length l → q (i + k) ≡ p (get_or l k 0)) → first_from i (length l) q ≡ i + position_or_len p l
unfolding first_from
shifted p [] i q f = sym (add-zero i)
shifted p (x ∷ l) i q f =
    let here : q i ≡ p x = rw add-zero at (f 0 (omega arith)) in
    let rest = shifted p l (suc i) q (λ k h. let e = f (k + 1) (omega arith) in grind (arith, e)) in
    grind (arith, here, rest)

first-length : (p : ℕ → Bool) (l : List ℕ) → first (length l) (λ i. p (get_or l i 0)) ≡ position_or_len p l
unfolding first
first-length p l = let e = shifted p l 0 (λ i. p (get_or l i 0)) (λ k h. grind (arith, common_steps)) in grind (arith, common_steps, e)

position-first : (p : ℕ → Bool) (l : List ℕ) → unwrap_or (position p l) (length l) ≡ position_or_len p l
position-first p l = let h = prefix_len-le-length (λ x. not (p x)) l in grind (arith, common_steps, nat_tests, h)

position-scan : (p : ℕ → Bool) (l : List ℕ) (n : ℕ) → length l ≡ n → unwrap_or (position p l) n ≡ first n (λ i. p (get_or l i 0))
position-scan p l n e =
    subst (λ (k : ℕ). unwrap_or (position p l) k ≡ first k (λ i. p (get_or l i 0))) e (position-first p l ∙ sym (first-length p l))

pub position_take : (p : ℕ → Bool) (l : List ℕ) (n : ℕ) → n ≤ length l
    → unwrap_or (position p (take n l)) n ≡ first n (λ i. p (get_or l i 0))
unfolding first
position_take p l n h = position-scan p (take n l) n (grind (arith, common_steps))
    ∙ from-same 0 n _ _ (λ j lo hi. ap p (get_or-take n l j 0 (omega arith)))

pub position_low : (p : ℕ → Bool) (l : List ℕ) (n : ℕ) → n ≤ length l → (r : Option ℕ) → r ≡ position p (take n l) → IfSome r (λ i. i < n)
position_low p l n h r e = rw e (grind (arith, common_steps, nat_tests))
