-- Checking a page chunk by chunk, and what a check found.
use mathlib.Core.Path.{◌≡◌, sym, ap, ◌∙◌}
use mathlib.Core.Logic.{◌≢◌}
use mathlib.Core.Bool.{Bool, true, false, ◌||◌}
use mathlib.Core.List.{List}
use Prim.Native.Nat.{ℕ, ◌+◌, ◌≤◌, ◌<◌}
use native.Mathlib.Omega.{arith}
use borrow.Author.Tests.{ne_eqb}
use Rattle.prelude.specs.Scan.{count, all}
use Rattle.prelude.specs.Pages.{page_at}
use Rattle.prelude.proofs.Tests.{by-test, not-i}
use Rattle.prelude.proofs.Scan.{all_none, all-fails, all_more, count_none, count-hit, count-miss}
use Rattle.codes.specs.Reading.{difference, leaves, pairs, legible, differs, code_at, page_legible, page_mends}
use Rattle.codes.proofs.Differences.{leaves_none}
use Rattle.std.specs.Prelude.{Ok, Err}
use Rattle.ecc.specs.declared.Unreadable.{Unreadable}
use Rattle.ecc.specs.Checks.{checked}

-- ---- the loop

module _ (m : ℕ) (page codes : List ℕ) where
  abbrev ok_at : ℕ → Bool
  ok_at i = legible (page_at 256 page i) (code_at codes i)

  abbrev differ_at : ℕ → Bool
  differ_at i = differs (page_at 256 page i) (code_at codes i)

  -- the chunks below i can be read, and n of them are mended
  pub record Checking (i n : ℕ) : Type 0 where
    pub few : n ≤ i
    pub can : all i ok_at ≡ true
    pub mends : n ≡ count i differ_at

  pub check-start : Checking 0 0
  check-start = record {
    few = omega arith;
    can = all_none ok_at;
    mends = sym (count_none 0 differ_at (λ j l. absurd (omega arith)));
  }

  all-next : (i : ℕ) → all i ok_at ≡ true → ok_at i ≡ true → all (i + 1) ok_at ≡ true
  all-next i h k = sym (all_more ok_at i {ok = true} {ok' = true} (sym h) (sym k))

  -- chunk i, by its difference
  module _ (i x : ℕ) (l : i < m) (e : x ≡ difference (page_at 256 page i) (code_at codes i)) where
    equal-can : x ≡ 0 → ok_at i ≡ true
    unfolding legible
    equal-can z = rw (← e, z) (rw leaves_none)

    equal-same : x ≡ 0 → differ_at i ≡ false
    unfolding differs
    equal-same z = rw (← e, z)

    other_differs : x ≢ 0 → differ_at i ≡ true
    unfolding differs
    other_differs z = rw (← e) (not-i (ne_eqb x 0 z))

    pub check-equal : (n : ℕ) → Checking i n → x ≡ 0 → Checking (i + 1) n
    check-equal n h z = let b = h.few in record {
      few = omega arith;
      can = all-next i h.can (equal-can z);
      mends = h.mends ∙ count-miss i differ_at (equal-same z);
    }

    -- by the two tests of its difference
    module _ {f p : Bool} (hf : f ≡ leaves x) (hp : p ≡ pairs x) where
      tested : ok_at i ≡ (f || p)
      unfolding legible
      tested = rw (hf, hp, e)

      pub check-mended : (n : ℕ) → Checking i n → x ≢ 0 → (f || p) ≡ true → Checking (i + 1) (n + 1)
      check-mended n h z t = let b = h.few in record {
        few = omega arith;
        can = all-next i h.can (tested ∙ t);
        mends = ap (λ (k : ℕ). k + 1) h.mends ∙ count-hit i differ_at (other_differs z);
      }

      pub check-fails : (f || p) ≡ false → Err (record {}) ≡ checked m page codes
      unfolding checked page_legible
      check-fails t = rw (all-fails m ok_at i l (tested ∙ t))

  pub check-end : (i n : ℕ) → i ≡ m → Checking i n → Ok n ≡ checked m page codes
  unfolding checked page_legible page_mends
  check-end i n e h = rw (← e, h.can, h.mends)

-- ---- what a check found

module _ (m : ℕ) (page codes : List ℕ) where
  pub unreadable-is : (r : Unreadable) → Err r ≡ checked m page codes → page_legible m page codes ≡ false
  unfolding checked
  unreadable-is r h = by-test (page_legible m page codes) (λ t. absurd (let e = rw t at h in cc)) (λ t. t)

  pub readable-is : (n : ℕ) → Ok n ≡ checked m page codes → page_legible m page codes ≡ true
  unfolding checked
  readable-is n h = by-test (page_legible m page codes) (λ t. t) (λ t. absurd (let e = rw t at h in cc))

  pub mends-is : (n : ℕ) → Ok n ≡ checked m page codes → n ≡ page_mends m page codes
  unfolding checked
  mends-is n h = let e = rw (readable-is n h) at h in cc
