use Rattle.std.proofs.Common.{◌≡◌, false, eqb, sym, ap, ◌∙◌, eq-eqb, ne_eqb, ◌⊎◌, inl, inr, arith, ℕ}
use Rattle.model.proofs.Plan.{policy-oldest, policy-fewest}
use Rattle.policy.specs.declared.choice.Policy.{Policy}
use Rattle.policy.specs.declared.choice.Policy.TheVariants.{Lru, Fifo}
use Rattle.policy.specs.Views.{policy_number}
use Rattle.policy.proofs.choice.chosen.Goals as goal

by-age : (p : Policy) (n : ℕ) → policy_number p ≡ n → (p ≡ Lru) ⊎ (p ≡ Fifo) → eqb n 2 ≡ false
by-age p n e (inl h) = ne_eqb n 2 (λ q. let k = ap policy_number h in absurd (omega arith))
by-age p n e (inr h) = ne_eqb n 2 (λ q. let k = ap policy_number h in absurd (omega arith))

pub returns-in-Lru : goal.returns-in-Lru
returns-in-Lru c = c.least_recent.ensures ∙ sym (policy-oldest _ _ _ (by-age _ _ c.of.ensures c.in-Lru.is))

pub returns-in-Lfu : goal.returns-in-Lfu
returns-in-Lfu c = c.least_used.ensures ∙ sym (policy-fewest _ _ _ (eq-eqb _ _ (sym c.in-Lfu.ensures)))
