-- Laws of the walk to the current run, step by step: i counts the steps from 1 on, and c - i are left.
use mathlib.Core.Path.{◌≡◌, sym, ap, ◌∙◌}
use mathlib.Core.Bool.{true, false}
use mathlib.Core.List.{List}
use Prim.Native.Nat.{ℕ, suc, ◌+◌, ◌-◌, ◌≤◌, ◌<◌}
use native.Mathlib.Omega.{arith}
use lib.Dec.{ltb}
use borrow.Author.Tests.{lt-ltb}
use Rattle.runs.specs.Sheet.{Sheet}
use Rattle.runs.specs.Current.{replacer, replaced, follow}

module _ (c : ℕ) (ss : List Sheet) (n at : ℕ) where
  stops-there : replaced c ss at ≡ false → follow c ss (suc n) at ≡ at
  unfolding follow
  stops-there h = rw (h, follow)

  goes_on : replaced c ss at ≡ true → follow c ss (suc n) at ≡ follow c ss n (replacer c ss at)
  unfolding follow
  goes_on h = rw (h, follow)

module _ (c : ℕ) (ss : List Sheet) (i at : ℕ) where
  one_left : i < c → c - i ≡ suc (c - (i + 1))
  one_left l = omega arith

  -- no step is left
  pub follow-none : c ≤ i → at ≡ follow c ss (c - i) at
  unfolding follow
  follow-none l = sym (ap (λ (n : ℕ). follow c ss n at) (let e : c - i ≡ 0 = omega arith in e))

  -- nothing replaces the run
  pub follow-stop : i < c → {next : ℕ} → next ≡ replacer c ss at → next ≡ 0 → at ≡ follow c ss (c - i) at
  follow-stop l e z = sym (ap (λ (n : ℕ). follow c ss n at) (one_left l)
      ∙ stops-there c ss (c - (i + 1)) at (ap (ltb 0) (sym e ∙ z)))

  -- a step to what replaces it
  pub follow-go : i < c → {next : ℕ} → next ≡ replacer c ss at → (next ≡ 0 → ⊥) → follow c ss (c - (i + 1)) next ≡ follow c ss (c - i) at
  follow-go l {next} e ne = sym (ap (λ (n : ℕ). follow c ss n at) (one_left l)
      ∙ goes_on c ss (c - (i + 1)) at (lt-ltb 0 (replacer c ss at) (omega arith)) ∙ ap (follow c ss (c - (i + 1))) (sym e))
