-- A writer that holds the first bytes of a text, after one write more.
use Rattle.std.proofs.Common.{◌≡◌, ℕ, ◌+◌, List, ◌++◌, [], ◌∷◌, zero, suc, length, take, drop, refl, sym, ap, ◌∙◌, subst, OnErr, Result, Ok}
use Rattle.std.proofs.Common.{Err}
use Rattle.std.specs.declared.option.Option.{Option}
use Rattle.std.specs.Io.KnownBytes.{Appends}
use Rattle.std.proofs.KnownBytes.{Appends-nil, Appends-trans}
use lib.Seq.{take-add, take-length}
use Rattle.streams.specs.Streams.{AppendsFirst}

pub none_grown : (a : Option (List ℕ)) (all : List ℕ) → Appends a a (take 0 all)
none_grown a all = Appends-nil a

take_fewer : (n p : ℕ) (xs : List ℕ) → (k : ℕ) × (take n (take p xs) ≡ take k xs)
take_fewer zero p xs = (0, refl)
take_fewer (suc n) zero xs = (0, refl)
take_fewer (suc n) (suc p) [] = (0, refl)
take_fewer (suc n) (suc p) (x ∷ xs) = let (k, e) = take_fewer n p xs in (suc k, ap (λ l. x ∷ l) e)

module _ (a b c : Option (List ℕ)) (all part : List ℕ) (done n : ℕ) (next : part ≡ take n (drop done all))
    (h : Appends a b (take done all)) where
  -- the write is done
  pub grown : Appends b c part → Appends a c (take (done + n) all)
  grown w = subst (Appends a c) (ap (λ l. take done all ++ l) next ∙ sym (take-add done n all)) (Appends-trans a b c _ _ h w)

  -- it failed
  pub grown-first : AppendsFirst b c part → AppendsFirst a c all
  grown-first (m, w) =
      let (k, e) = take_fewer m n (drop done all) in (
        done + k,
        subst (Appends a c) (ap (λ l. take done all ++ l) (ap (take m) next ∙ e) ∙ sym (take-add done k all))
            (Appends-trans a b c _ _ h w),
      )

-- all of it is written
pub grown-all : (a b : Option (List ℕ)) (all : List ℕ) (n : ℕ) → n ≡ length all → Appends a b (take n all) → Appends a b all
grown-all a b all n e h = subst (Appends a b) (ap (λ k. take k all) e ∙ take-length all) h

pub where_err : {T E P : Type 0} (r : Result T E) → P → OnErr r P
where_err (Ok x) p = tt
where_err (Err e) p = p
