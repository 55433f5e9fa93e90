-- What an accepted opening gives, and that no page of a sound record is cached twice.
use mathlib.Core.Path.{◌≡◌, refl, sym, ap, ◌∙◌}
use mathlib.Core.Logic.{inl}
use mathlib.Core.Bool.{Bool, true}
use mathlib.Core.List.{List}
use Prim.Native.Nat.{ℕ, ◌-◌, ◌*◌, ◌≤◌, ◌<◌}
use native.Mathlib.Omega.{arith}
use lib.Dec.{leb, ltb, eqb}
use lib.ListN.{length, get_or, get_or-replicate, length-replicate}
use borrow.Author.Tests.{ltb-true, ltb-false, eqb-true}
use Rattle.prelude.specs.Scan.{first, all}
use Rattle.prelude.specs.Bits.{bit}
use Rattle.prelude.proofs.Tests.{by-test, clash}
use Rattle.prelude.proofs.Scan.{first-hit, first-at, count_none, count-one}
use Rattle.prelude.proofs.Tab.{length-tab, get_d_tab}
use Rattle.prelude.proofs.Bits.{bit-zero}
use Rattle.model.specs.Sizes.{Sizes, vacant, sizes_ok, InLimits}
use Rattle.model.specs.Directory.{Directory, slot_at, frame_at, valid_at, recency_at, uses_at, inFrame, vacant_directory}
use Rattle.model.specs.Soundness.{Shape, Sound}
use Rattle.model.specs.Moves.{Chip, Memory, flash_page}
use Rattle.model.specs.Calls.{open_done, is_refused, Format, Buffers, lent_ok, open_store}
use Rattle.model.specs.Lists.{times_cached}
use Rattle.model.proofs.Soundness.{pages-small}
use Rattle.model.proofs.Lookup.{block-vacant, block-lt, frame_has}
use Rattle.model.proofs.Consistent.{Consistent}

vacant-slot : (i : ℕ) → i < 128 → slot_at vacant_directory i ≡ vacant
unfolding vacant_directory
vacant-slot i l = get_or-replicate 128 i vacant 0 l

vacant-frame : (f : ℕ) → f < 8 → frame_at vacant_directory f ≡ vacant
unfolding vacant_directory
vacant-frame f l = get_or-replicate 8 f vacant 0 l

vacant-bits : (f : ℕ) → f < 8 → valid_at vacant_directory f ≡ 0
unfolding vacant_directory
vacant-bits f l = get_or-replicate 8 f 0 0 l

vacant-recency : (f : ℕ) → f < 8 → recency_at vacant_directory f ≡ f
unfolding vacant_directory
vacant-recency f l = get_d_tab 8 (λ i. i) 0 f l

vacant-uses : (f : ℕ) → f < 8 → uses_at vacant_directory f ≡ 0
unfolding vacant_directory
vacant-uses f l = get_or-replicate 8 f 0 0 l

vacant-shape : Shape vacant_directory
unfolding vacant_directory
vacant-shape = record {
  slots_length = length-replicate 128 vacant;
  frames-length = length-replicate 8 vacant;
  valid-length = length-replicate {A = ℕ} 8 0;
  recency-length = length-tab 8 _;
  uses-length = length-replicate {A = ℕ} 8 0;
}

module _ (sz : Sizes) (limits : InLimits sz) where
  pub opened-sound : Sound sz vacant_directory
  opened-sound =
      let pm = limits.P_high in let bm = limits.B_high in
      record {
        limits = limits;
        shape = vacant-shape;
        entries = record {
          slot-in = λ i l. inl (vacant-slot i (omega arith));
          slots_apart = λ i j il jl v e. absurd (let q = vacant-slot i (omega arith) in omega arith);
          frame-in = λ f l. inl (vacant-frame f (omega arith), vacant-bits f (omega arith));
          frames-apart = λ f g fl gl v e. absurd (let q = vacant-frame f (omega arith) in omega arith);
          once = λ i f il fl v e. let q = vacant-slot i (omega arith) in omega arith;
        };
        listed = record {
          recency-lt = λ i l. rw (vacant-recency i (omega arith)) l;
          recency-has = λ f l. (f, l, vacant-recency f (omega arith));
        };
        past = record {
          slot-past = λ i l k. vacant-slot i k;
          frame_past = λ f l k. (vacant-frame f k, vacant-bits f k, vacant-recency f k);
        };
        counted = record { none = λ f l e. vacant-uses f l; some = λ f l e. absurd (e (vacant-frame f l)) };
      }

  module _ {C A : Type 0} (chip : Chip C A) (filler : A) (m : Memory C A) (v : List A) (vl : length v ≡ sz.N * sz.K)
      (is : (n : ℕ) → n < sz.N * sz.K → flash_page chip filler m n ≡ get_or v n filler) (fl : length m.flash ≡ sz.N * sz.K)
      (pl : length m.pspace ≡ sz.P) (bl : length m.bspace ≡ sz.B * sz.K) where
    pub opened-good : Consistent chip filler sz vacant_directory m v
    opened-good = let pm = limits.P_high in let bm = limits.B_high in record {
      numbers = opened-sound;
      reflects = record {
        in_slot = λ i l v. absurd (let q = vacant-slot i (omega arith) in omega arith);
        in_frame = λ f o l ol h. clash h (ap (λ (x : ℕ). bit x o) (vacant-bits f (omega arith)) ∙ bit-zero o);
        in_flash = λ n l np nf. is n l;
      };
      flash-length = fl;
      pspace-length = pl;
      bspace-length = bl;
      array-length = vl;
    }

-- ---- an accepted opening passed refusals 1, 2 and 3

abbrev pub wear_ok : Sizes → Buffers → Bool
wear_ok sz u = all sz.N (λ b. leb (get_or u.wear b 0) sz.W)

pub record Accept (fmt : Format) (sz : Sizes) (u : Buffers) : Type 0 where
  pub sizes-ok : sizes_ok sz ≡ true
  pub lent_ok_lem : lent_ok fmt sz u ≡ true
  pub wear-ok : wear_ok sz u ≡ true
  pub cache-is : (open_store fmt sz u).cache ≡ record { sizes = sz; directory = vacant_directory }

pub open_accepted : (fmt : Format) (sz : Sizes) (u : Buffers) → (open_store fmt sz u).answer ≡ open_done → Accept fmt sz u
unfolding open_store
open_accepted fmt sz u = by-test (sizes_ok sz)
    (λ a. by-test (lent_ok fmt sz u)
    (λ b. by-test (wear_ok sz u)
    (λ c. λ h. record { sizes-ok = a; lent_ok_lem = b; wear-ok = c; cache-is = rw (a, open_store) (rw b (rw c)) })
    (λ c. rw (a, open_store) (rw b (rw c (λ h. clash refl (ap is_refused h))))))
    (λ b. rw (a, open_store) (rw b (λ h. clash refl (ap is_refused h)))))
    (λ a. rw (a, open_store) (λ h. clash refl (ap is_refused h)))

-- ---- no page is cached twice

module _ (sz : Sizes) (d : Directory) (u : Sound sz d) where
  pub cached-once : (n : ℕ) → n < sz.N * sz.K → times_cached sz d n ≤ 1
  unfolding times_cached
  cached-once n l =
      let nv : n < vacant = (let s = (pages-small sz u.limits) in omega arith) in
      let p1 = count-one sz.P (λ i. eqb (slot_at d i) n) (λ i j il jl a b. u.entries.slots_apart i j il jl (rw (eqb-true _ n a) nv)
      (eqb-true _ n a ∙ sym (eqb-true _ n b))) in
      let f1 = count-one sz.B (inFrame sz d n) (λ f g fl gl a b. let x = (frame_has sz d n f a).0 in
      u.entries.frames-apart f g fl gl (rw x (block-vacant sz u.limits _ (block-lt sz u.limits n l)))
      (x ∙ sym (frame_has sz d n g b).0)) in
      by-test (ltb (first sz.P (λ i. eqb (slot_at d i) n)) sz.P)
      (λ e. let k = ltb-true _ sz.P e in let q = eqb-true _ n (first-hit sz.P (λ i. eqb (slot_at d i) n) k) in
      let f0 = count_none sz.B (inFrame sz d n) (λ f fl. by-test (inFrame sz d n f)
      (λ h. absurd (u.entries.once _ f k fl (rw q nv) (rw q h))) (λ h. h)) in omega arith)
      (λ e. let p0 = count_none sz.P (λ i. eqb (slot_at d i) n) (λ i il. by-test (eqb (slot_at d i) n)
      (λ h. absurd (let k = first-at sz.P (λ i. eqb (slot_at d i) n) i il h in
      let k2 = ltb-false (first sz.P (λ i. eqb (slot_at d i) n)) sz.P e in omega arith)) (λ h. h)) in omega arith)
