-- Laws of lists built by a rule, and of loops that settle a list entry by entry.
use mathlib.Core.Path.{◌≡◌, refl, sym, ap, ◌∙◌}
use mathlib.Core.Bool.{cond}
use mathlib.Core.List.{List, [], ◌∷◌}
use Prim.Native.Nat.{ℕ, zero, suc, ◌+◌, ◌≤◌, ◌<◌}
use native.Mathlib.Nat.{not-suc-le-zero, add-zero, zero-add}
use native.Mathlib.Omega.{arith}
use lib.Dec.{ltb, eqb}
use lib.ListN.{length, get_or, set, length-set}
use lib.Seq.{get_or-set_same, get_or-set_other, ext_get_or}
use borrow.Author.Tests.{ltb-true, ltb-false, eqb-true, eqb-false, lt-ltb, le-ltb}
use Rattle.prelude.specs.Scan.{tab_from, tab}
use Rattle.prelude.proofs.Tests.{by-test}

module _ {A : Type 0} where
  pub length-tab_from : (i n : ℕ) (f : ℕ → A) → length (tab_from i n f) ≡ n
  unfolding tab_from
  length-tab_from i zero f = refl
  length-tab_from i (suc n) f = ap suc (length-tab_from (suc i) n f)

  pub length-tab : (n : ℕ) (f : ℕ → A) → length (tab n f) ≡ n
  unfolding tab
  length-tab n f = length-tab_from 0 n f

  pub get_d_tab_from : (i n : ℕ) (f : ℕ → A) (d : A) (j : ℕ) → j < n → get_or (tab_from i n f) j d ≡ f (i + j)
  unfolding tab_from
  get_d_tab_from i zero f d j l = absurd (not-suc-le-zero l)
  get_d_tab_from i (suc n) f d zero l = rw add-zero
  get_d_tab_from i (suc n) f d (suc j) l = get_d_tab_from (suc i) n f d j (omega arith) ∙ ap f (omega arith)

  pub get_d_tab : (n : ℕ) (f : ℕ → A) (d : A) (j : ℕ) → j < n → get_or (tab n f) j d ≡ f j
  unfolding tab
  get_d_tab n f d j l = get_d_tab_from 0 n f d j l ∙ ap f (zero-add j)

pub tab-ext : {A : Type 0} (d : A) (n : ℕ) (f g : ℕ → A) → ((i : ℕ) → i < n → f i ≡ g i) → tab n f ≡ tab n g
tab-ext d n f g h = ext_get_or d (tab n f) (tab n g) (length-tab n f ∙ sym (length-tab n g))
    (λ i l. let il : i < n = (rw length-tab at l) in get_d_tab n f d i il ∙ h i il ∙ sym (get_d_tab n g d i il))

-- a list of n entries is the table of them
pub tab-list : {A : Type 0} (d : A) (n : ℕ) (l : List A) → length l ≡ n → tab n (λ i. get_or l i d) ≡ l
tab-list d n l h = ext_get_or d (tab n (λ i. get_or l i d)) l (length-tab n _ ∙ sym h)
    (λ i k. get_d_tab n (λ j. get_or l j d) d i (rw length-tab at k))

-- past its end a list has nothing
pub get_d_past : {A : Type 0} (d : A) (l : List A) (i : ℕ) → length l ≤ i → get_or l i d ≡ d
get_d_past d [] i h = refl
get_d_past d (x ∷ l) zero h = absurd (not-suc-le-zero h)
get_d_past d (x ∷ l) (suc i) h = get_d_past d l i (omega arith)

-- entries below o are what the rule gives, the others as they were
pub record Done {A : Type 0} (d : A) (n : ℕ) (new : ℕ → A) (old : List A) (o : ℕ) (l : List A) : Type 0 where
  pub long : length l ≡ n
  pub each : (j : ℕ) → j < n → get_or l j d ≡ cond (ltb j o) (new j) (get_or old j d)

module _ {A : Type 0} (d : A) (n : ℕ) (new : ℕ → A) (old : List A) where
  -- settled up to o from the start, where the rule leaves what is below o as it was
  pub done-from : (o : ℕ) → length old ≡ n → ((j : ℕ) → j < o → new j ≡ get_or old j d) → Done d n new old o old
  done-from o h f = record { long = h; each = λ j l. by-test (ltb j o) (λ t. rw t (sym (f j (ltb-true j o t)))) (λ t. rw t) }

  pub done_none : length old ≡ n → Done d n new old 0 old
  done_none h = done-from 0 h (λ j l. absurd (omega arith))

  pub done-read : (o : ℕ) (l : List A) → Done d n new old o l → (j : ℕ) → o ≤ j → j < n → get_or l j d ≡ get_or old j d
  done-read o l h j a b = h.each j b ∙ rw (le-ltb j o a)

  pub done-put : (o : ℕ) (l : List A) (x : A) → Done d n new old o l → o < n → x ≡ new o → Done d n new old (o + 1) (set l o x)
  done-put o l x h a e = record {
    long = simp length-set h.long;
    each = λ j k. by-test (eqb j o)
        (λ t. rw (eqb-true j o t, lt-ltb o (o + 1) (omega arith)) (get_or-set_same l o x d (let q = h.long in omega arith) ∙ e))
        (λ t. let ne = eqb-false j o t in get_or-set_other l o j x d ne ∙ h.each j k ∙ by-test (ltb j o)
        (λ u. let v = ltb-true j o u in rw (u, lt-ltb j (o + 1) (omega arith)))
        (λ u. let v = ltb-false j o u in rw (u, le-ltb j (o + 1) (omega arith))));
  }

  pub done-skip : (o : ℕ) (l : List A) → Done d n new old o l → new o ≡ get_or old o d → Done d n new old (o + 1) l
  done-skip o l h e = record {
    long = h.long;
    each = λ j k. h.each j k ∙ by-test (eqb j o)
        (λ t. rw (eqb-true j o t, lt-ltb o (o + 1) (omega arith), le-ltb o o (omega arith)) (sym e))
        (λ t. let ne = eqb-false j o t in by-test (ltb j o)
        (λ u. let v = ltb-true j o u in rw (u, lt-ltb j (o + 1) (omega arith)))
        (λ u. let v = ltb-false j o u in rw (u, le-ltb j (o + 1) (omega arith))));
  }

  -- past the end there is nothing to settle
  pub done-past : (o : ℕ) (l : List A) → Done d n new old o l → n ≤ o → Done d n new old (o + 1) l
  done-past o l h a = record { long = h.long; each = λ j k. h.each j k ∙ rw (lt-ltb j o (omega arith), lt-ltb j (o + 1) (omega arith)) }

  -- settled up to o, where the rule leaves the rest as it was
  pub done-rest : (o : ℕ) (l : List A) → Done d n new old o l → ((j : ℕ) → o ≤ j → j < n → new j ≡ get_or old j d) → l ≡ tab n new
  done-rest o l h f = ext_get_or d l (tab n new) (h.long ∙ sym (length-tab n new)) (λ j k. let q = h.long in let jl : j < n = omega arith in
      h.each j jl ∙ by-test (ltb j o)
      (λ t. rw t (sym (get_d_tab n new d j jl)))
      (λ t. rw t (sym (get_d_tab n new d j jl ∙ f j (ltb-false j o t) jl))))

  pub done_all : (o : ℕ) (l : List A) → Done d n new old o l → n ≤ o → l ≡ tab n new
  done_all o l h a = done-rest o l h (λ j p q. absurd (omega arith))
