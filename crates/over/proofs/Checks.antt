-- Laws of the checks before the last step.
use mathlib.Core.Path.{◌≡◌, refl, sym, ◌∙◌}
use mathlib.Core.Bool.{Bool, true, false, not, ◌&&◌}
use mathlib.Core.List.{[], ◌∷◌}
use Prim.Native.Nat.{ℕ, ◌*◌, ◌≤◌, ◌<◌}
use native.Mathlib.Omega.{arith}
use lib.Dec.{leb, ltb, eqb}
use lib.ListN.{length}
use borrow.Author.Tests.{ltb-true, leb-true, eqb-true, eqb-false}
use Rattle.prelude.proofs.Tests.{by-test, and_l, each, not_t}
use Rattle.prelude.proofs.Scan.{first-hit}
use Rattle.model.specs.Sizes.{Sizes, vacant}
use Rattle.model.specs.Soundness.{sound}
use Rattle.model.specs.Calls.{Answer, refused, some_page, fault_met, Page, lent_ok}
use Rattle.model.specs.Formats.{store_format}
use Rattle.model.specs.Lists.{added_cause}
use Rattle.model.specs.Shelf.{shelf_ok, ShelfStore}
use Rattle.runs.specs.Verdict.{Check, passed, stopped}
use Rattle.over.specs.Catalogue.{sizes_fit, asking, sizes_in, directory_in, entering, fault_at, lowest_refused, sheets_check}

pub by-check : {A X : Type 0} (k : Check A) → (k ≡ passed → X) → ((a : A) → k ≡ stopped a → X) → X
by-check passed f g = f refl
by-check (stopped a) f g = g a refl

module _ (b : Bool) (n : ℕ) (k : Check Answer) where
  pub asked-on : b ≡ true → asking b n k ≡ k
  unfolding asking
  asked-on e = rw (e, asking)

  pub asked-off : b ≡ false → asking b n k ≡ stopped (refused n vacant)
  unfolding asking
  asked-off e = rw (e, asking)

-- what sizes that fit are
pub record Fit (sz : Sizes) (c : ℕ) : Type 0 where
  pub wide : 28 ≤ sz.S
  pub low : 1 ≤ c
  pub high : c ≤ 256
  pub below : c < sz.N * sz.K

pub fit-facts : (sz : Sizes) (c : ℕ) → sizes_fit sz c ≡ true → Fit sz c
unfolding sizes_fit
fit-facts sz c h = let e = each (leb 28 sz.S ∷ leb 1 c ∷ leb c 256 ∷ ltb c (sz.N * sz.K) ∷ []) h in record {
  wide = leb-true 28 sz.S e.0;
  low = leb-true 1 c e.1.0;
  high = leb-true c 256 e.1.1.0;
  below = ltb-true c _ e.1.1.1.0;
}

-- a refusal that is met is 7 or 14
pub met-cause : (sz : Sizes) (fault : ℕ → ℕ) (reads : ℕ → Bool)
    → added_cause (refused (fault_met sz fault reads) vacant) ≡ fault_met sz fault reads
unfolding fault_met
met-cause sz fault reads = by-test (some_page sz (λ i. reads i && eqb (fault i) 7))
    (λ e. rw e)
    (λ e. rw e (by-test (some_page sz (λ i. reads i && eqb (fault i) 14)) (λ t. rw t) (λ t. rw t)))

module _ (s : ShelfStore) (c : ℕ) where
  pub sheets-pass : ltb (lowest_refused s c) c ≡ false → sheets_check s c ≡ passed
  unfolding sheets_check
  sheets-pass e = rw (e, sheets_check)

  pub sheets-stop : ltb (lowest_refused s c) c ≡ true → sheets_check s c ≡ stopped (refused (fault_at s (lowest_refused s c)) vacant)
  unfolding sheets_check
  sheets-stop e = rw (e, sheets_check)

  pub lowest-fault : ltb (lowest_refused s c) c ≡ true → fault_at s (lowest_refused s c) ≡ 0 → ⊥
  unfolding lowest_refused
  lowest-fault e = eqb-false _ 0 (not_t (first-hit c (λ i. not (eqb (fault_at s i) 0)) (ltb-true (lowest_refused s c) c e)))

-- ---- the entry check, whatever follows it

pub not_stopped : {X : Type 0} (a : Answer) → stopped a ≡ passed → X
not_stopped a h = absurd (let z : ◌≡◌ {A = ℕ} 0 1 = cc in omega arith)

module _ (s : ShelfStore) (x : Page) where
  abbrev pub record_ok : Bool
  record_ok = sound (sizes_in s) (directory_in s) && shelf_ok (sizes_in s) (sizes_in s).shelf_pages s.entries

  abbrev pub buffers_ok : Bool
  buffers_ok = lent_ok store_format (sizes_in s) s.store.lent && eqb (length s.shelf) ((sizes_in s).shelf_pages * (sizes_in s).S)

  pub record Enters : Type 0 where
    pub record_ok_lem : record_ok ≡ true
    pub buffers-ok : buffers_ok ≡ true
    pub page-length : length x ≡ (sizes_in s).S
    pub sounds : sound (sizes_in s) (directory_in s) ≡ true
    pub lends : lent_ok store_format (sizes_in s) s.store.lent ≡ true

  module _ (k : Check Answer) where
    pub entry-4 : record_ok ≡ false → entering s x k ≡ stopped (refused 4 vacant)
    unfolding entering
    entry-4 a = asked-off record_ok 4 _ a

    pub entry-2 : record_ok ≡ true → buffers_ok ≡ false → entering s x k ≡ stopped (refused 2 vacant)
    unfolding entering
    entry-2 a b = asked-on record_ok 4 _ a ∙ asked-off buffers_ok 2 _ b

    pub entry-page : record_ok ≡ true → buffers_ok ≡ true → eqb (length x) (sizes_in s).S ≡ false
        → entering s x k ≡ stopped (refused 2 vacant)
    unfolding entering
    entry-page a b e = asked-on record_ok 4 _ a ∙ asked-on buffers_ok 2 _ b ∙ asked-off _ 2 k e

    pub entry-on : record_ok ≡ true → buffers_ok ≡ true → eqb (length x) (sizes_in s).S ≡ true → entering s x k ≡ k
    unfolding entering
    entry-on a b e = asked-on record_ok 4 _ a ∙ asked-on buffers_ok 2 _ b ∙ asked-on _ 2 k e

  pub enters_on : entering s x passed ≡ passed → ((k : Check Answer) → entering s x k ≡ k) × Enters
  enters_on h = by-test record_ok
      (λ a. by-test buffers_ok
      (λ b. by-test (eqb (length x) (sizes_in s).S)
      (λ e. (
        λ k. entry-on k a b e,
        record {
          record_ok_lem = a;
          buffers-ok = b;
          page-length = eqb-true _ _ e;
          sounds = and_l (sound (sizes_in s) (directory_in s)) _ a;
          lends = and_l (lent_ok store_format (sizes_in s) s.store.lent) _ b;
        },
      ))
      (λ e. not_stopped _ (sym (entry-page passed a b e) ∙ h)))
      (λ b. not_stopped _ (sym (entry-2 passed a b) ∙ h)))
      (λ a. not_stopped _ (sym (entry-4 passed a) ∙ h))

  pub enters_off : (a : Answer) → entering s x passed ≡ stopped a → (k : Check Answer) → entering s x k ≡ stopped a
  enters_off why h k = by-test record_ok
      (λ a. by-test buffers_ok
      (λ b. by-test (eqb (length x) (sizes_in s).S)
      (λ e. not_stopped why (sym h ∙ entry-on passed a b e))
      (λ e. entry-page k a b e ∙ sym (entry-page passed a b e) ∙ h))
      (λ b. entry-2 k a b ∙ sym (entry-2 passed a b) ∙ h))
      (λ a. entry-4 k a ∙ sym (entry-4 passed a) ∙ h)
