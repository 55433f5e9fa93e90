-- A part `&mut l[a..e]` that is lent, with a = i * s and e = a + s, is page i, and comes back as page i. So is a block, of size k * s.
use mathlib.Core.Path.{◌≡◌, ap, ◌∙◌}
use mathlib.Core.List.{List}
use Prim.Native.Nat.{ℕ, ◌+◌, ◌-◌, ◌*◌, ◌≤◌, ◌<◌}
use native.Mathlib.Omega.{arith}
use lib.ListN.{length}
use borrow.Rule.Slice.PartMut.{put_mid, mid_of, Post-is}
use Rattle.prelude.specs.Pages.{page_at, put_page}
use Rattle.prelude.proofs.Pages.{put_in-block}

-- the part lent
abbrev pub part : {A : Type 0} → ℕ → List A → ℕ → List A
part s l i = mid_of (i * s) (i * s + s - i * s) l

-- l with x in the place of the part
abbrev pub put_part : {A : Type 0} → ℕ → List A → ℕ → List A → List A
put_part s l i x = put_mid (i * s) (i * s + s - i * s) l x

module _ {A : Type 0} (s : ℕ) (l : List A) (i : ℕ) where
  pub got : part s l i ≡ page_at s l i
  unfolding page_at
  got = let e : i * s + s - i * s ≡ s = omega arith in rw e

  pub put : (pg : List A) → put_part s l i pg ≡ put_page s l i pg
  unfolding put_page
  put pg = rw (Post-is (i * s) (i * s + s) l (omega arith))

-- the page at offset o of the block f that is lent
module _ {A : Type 0} (s k : ℕ) (l : List A) (f o : ℕ) (inside : o < k) (fits : f * (k * s) + k * s ≤ length l) where
  pub put_in : (x pg : List A) → x ≡ put_page s (part (k * s) l f) o pg → put_part (k * s) l f x ≡ put_page s l (f * k + o) pg
  put_in x pg e = put (k * s) l f x ∙ ap (put_page (k * s) l f) (e ∙ ap (λ (y : List A). put_page s y o pg) (got (k * s) l f))
      ∙ put_in-block s k l f o inside pg fits
