-- The laws of the record and of opening hold: each test is turned into facts and back, and the refusals follow the tests' order.
use mathlib.Core.Path.{◌≡◌, refl, sym, ap, ◌∙◌}
use mathlib.Core.Logic.{◌⊎◌, inl, inr}
use mathlib.Core.Bool.{true, false}
use mathlib.Core.List.{List, [], ◌∷◌}
use Prim.Native.Nat.{ℕ, zero, suc, ◌+◌, ◌-◌, ◌*◌, ◌/◌, ◌%◌, ◌^◌, ◌≤◌, ◌<◌}
use native.Mathlib.Nat.{pow-suc, mod-lt, div-add-mod'}
use native.Mathlib.Omega.{arith}
use lib.Dec.{leb, ltb, eqb}
use lib.ListN.{length, get_or, get_or-replicate, length-replicate}
use lib.Pow.{pow_pos, shr-shr}
use borrow.Author.Tests.{le-leb, lt-leb, ltb-true, ltb-false, eqb-true, eqb-false, eq-eqb, ne_eqb}
use Rattle.prelude.specs.Bits.{bit}
use Rattle.prelude.proofs.Tests.{by-test, clash, fails, every_of}
use Rattle.prelude.proofs.Scan.{all_of, all-fails, count_none, count_same, listed_at, listed-once}
use Rattle.prelude.proofs.Tab.{length-tab, get_d_tab}
use Rattle.prelude.proofs.Bits.{bit-zero, bit-pos, bits-some, bit_high}
use Rattle.model.specs.Sizes.{Sizes, vacant, sizes_ok, is_coded}
use Rattle.model.specs.Directory.{Directory, slot_at, frame_at, valid_at, recency_at, vacant_directory, blank_cache}
use Rattle.model.specs.Soundness.{sound, Sound}
use Rattle.model.specs.Calls.{lent_ok, torn_blocks, open_store}
use Rattle.model.specs.Formats.{page_code}
use Rattle.model.specs.RulesRecord.{VacantRule, SizesRule, LengthsRule, NoCodesRule, CodesRule, MarksRule, SoundBy, SoundRule}
use Rattle.model.specs.RulesRecord.{StartRule, BlankRule, BlankUnsoundRule, OpeningSizeRule, OpeningBufferRule, OpeningOverwornRule}
use Rattle.model.specs.RulesRecord.{OpeningDoneRule, TornBlocksRule}
use Rattle.model.proofs.Soundness.{coded-on, coded-off, marked-on, marked-off, limits_of, limits-test, sound-facts, facts-sound}
use Rattle.model.proofs.Soundness.{pages-small}
use Rattle.model.proofs.Buffers.{fits-of}
use Rattle.model.proofs.Lookup.{page-div, page-mod, page-vacant, page-split, block-lt, offset_lt, frame_has, has-frame, block-vacant}

-- ---- sizes

pub vacant-rule : VacantRule
vacant-rule = refl

one_of_three : (p : ℕ) → p ≤ 2 → (p ≡ 0) ⊎ ((p ≡ 1) ⊎ (p ≡ 2))
one_of_three p l = by-test (eqb p 0)
    (λ e. inl (eqb-true p 0 e))
    (λ e. inr (by-test (eqb p 1)
    (λ q. inl (eqb-true p 1 q))
    (λ q. let a = eqb-false p 0 e in let b = eqb-false p 1 q in inr (omega arith))))

-- coded is 1
coded-one : (sz : Sizes) → is_coded sz ≡ true → sz.coded ≡ 1
unfolding is_coded
coded-one sz e = eqb-true sz.coded 1 e

pub sizes-rule : SizesRule
sizes-rule sz = (
  (λ h. let l = limits_of sz h in record {
    S_is = (l.S_low, l.S_high);
    K_is = (l.K_low, l.K_high);
    N_is = (l.N_low, l.N_high);
    P_is = (l.P_low, l.P_high);
    B_is = (l.B_low, l.B_high);
    W_is = (l.W_low, l.W_high);
    policy-is = one_of_three sz.policy l.policy-high;
    options-are = (l.coded-high, l.shelf-high, l.marked-high);
    chunks-are = λ e. (sz.S / 256, sym (l.whole (coded-on sz e)));
  }),
  (λ l. limits-test sz (record {
    S_low = l.S_is.0;
    S_high = l.S_is.1;
    K_low = l.K_is.0;
    K_high = l.K_is.1;
    N_low = l.N_is.0;
    N_high = l.N_is.1;
    P_low = l.P_is.0;
    P_high = l.P_is.1;
    B_low = l.B_is.0;
    B_high = l.B_is.1;
    W_low = l.W_is.0;
    W_high = l.W_is.1;
    policy-high = elim l.policy-is [ inl e ↦ omega arith | inr h ↦ elim h [ inl e ↦ omega arith | inr e ↦ omega arith ] ];
    coded-high = l.options-are.0;
    shelf-high = l.options-are.1;
    marked-high = l.options-are.2;
    whole = λ e. let m = l.chunks-are (coded-one sz e) in let q = m.1 in omega arith;
  })),
)

pub lengths-rule : LengthsRule
unfolding lent_ok
lengths-rule fmt sz u = (
  (λ h. let f = fits-of fmt sz u h in record {
    flash-is = f.flash-length;
    codes-are = f.codes-length;
    marks-are = f.marks-length;
    wear-is = f.wear-length;
    pspace-is = f.pspace-length;
    bspace-is = f.bspace-length;
  }),
  (λ l. every_of _ (
    eq-eqb _ _ l.flash-is,
    (
      eq-eqb _ _ l.codes-are,
      (
        eq-eqb _ _ l.marks-are,
        (eq-eqb _ _ l.wear-is, (eq-eqb _ _ l.pspace-is, (eq-eqb _ _ l.bspace-is, tt))),
      ),
    ),
  )),
)

pub no-codes_rule : NoCodesRule
no-codes_rule sz u a b h = let c = coded-off sz (λ e. omega arith) in let m = marked-off sz (λ e. omega arith) in
    let codes : length u.codes ≡ sz.N * sz.K * 0 = (rw c at h.codes-are) in
    let marks : length u.marks ≡ sz.N * sz.K * 0 = (rw m at h.marks-are) in
    (omega arith, omega arith)

no-entries : (l : List ℕ) → length l ≡ 0 → l ≡ []
no-entries [] h = refl
no-entries (x ∷ l) h = absurd (omega arith)

pub marks-rule : MarksRule
marks-rule sz u h = (
  (λ a. let marks : length u.marks ≡ sz.N * sz.K * 1 = (rw (marked-on sz a) at h.marks-are) in omega arith),
  (λ a. let marks : length u.marks ≡ sz.N * sz.K * 0 = (rw (marked-off sz (λ e. omega arith)) at h.marks-are) in
      no-entries u.marks (omega arith)),
)

pub codes-rule : CodesRule
unfolding page_code
codes-rule sz u m a b h = let c = coded-on sz a in let e : sz.S / 256 ≡ m = omega arith in
    (rw c at h.codes-are) ∙ ap (λ (x : ℕ). sz.N * sz.K * (x * 3)) e

-- ---- when a record is sound

-- a number without a bit at k or above is below 2 ^ k
small-pow : (x : ℕ) → x < 2 ^ x
small-pow zero = pow_pos 0
small-pow (suc x) = rw pow-suc (let h = small-pow x in omega arith)

high_part : (m k : ℕ) → 2 ^ k ≤ m → 0 < m / 2 ^ k
high_part m k h = by-test (eqb (m / 2 ^ k) 0)
    (λ e. absurd (let q : 0 * 2 ^ k + m % 2 ^ k ≡ m = (rw (eqb-true (m / 2 ^ k) 0 e) at (div-add-mod' m (2 ^ k))) in
    let r = mod-lt m (pow_pos k) in omega arith))
    (λ e. let ne = eqb-false (m / 2 ^ k) 0 e in omega arith)

none_above : (k m : ℕ) → ((o : ℕ) → k ≤ o → bit m o ≡ false) → m < 2 ^ k
unfolding bit
none_above k m h = by-test (ltb m (2 ^ k)) (λ e. ltb-true m (2 ^ k) e)
    (λ e. let l = ltb-false m (2 ^ k) e in let t = bits-some (m / 2 ^ k) (m / 2 ^ k) (high_part m k l) (small-pow (m / 2 ^ k)) in
    let o = t.0 in
    clash (ap (λ (x : ℕ). eqb (x % 2) 1) (sym (shr-shr m k o)) ∙ t.2) (h (k + o) (omega arith)))

none_at_all : (m : ℕ) → ((o : ℕ) → bit m o ≡ false) → m ≡ 0
none_at_all m h = let l = none_above 0 m (λ o k. h o) in omega arith

module _ (sz : Sizes) (d : Directory) where
  said : Sound sz d → SoundBy sz d
  said s = record {
    sizes-are = (sizes-rule sz).0 (limits-test sz s.limits);
    shape_is = record {
      slots-are = s.shape.slots_length;
      frames-are = s.shape.frames-length;
      valid-are = s.shape.valid-length;
      order_is = s.shape.recency-length;
      uses-are = s.shape.uses-length;
    };
    held-right = record {
      slot-in = s.entries.slot-in;
      frame-in = λ f l. elim (s.entries.frame-in f l) [
        | inl e ↦ inl (e.0, λ o. ap (λ (x : ℕ). bit x o) e.1 ∙ bit-zero o)
        | inr e ↦ let t = bits-some sz.K (valid_at d f) e.1 e.2 in
            inr (e.0, (t.0, t.2), λ o k. bit_high sz.K (valid_at d f) o e.2 k)
      ];
      slots-differ = λ i j il jl e. by-test (ltb (slot_at d i) vacant)
          (λ t. absurd (let q = s.entries.slots_apart i j (omega arith) jl (ltb-true _ vacant t) e in omega arith))
          (λ t. let g = ltb-false (slot_at d i) vacant t in let p = pages-small sz s.limits in
          elim (s.entries.slot-in i (omega arith)) [ inl q ↦ q | inr q ↦ absurd (omega arith) ]);
      frames-differ = λ f g fl gl e. by-test (ltb (frame_at d f) vacant)
          (λ t. absurd (let q = s.entries.frames-apart f g (omega arith) gl (ltb-true _ vacant t) e in omega arith))
          (λ t. let v = ltb-false (frame_at d f) vacant t in elim (s.entries.frame-in f (omega arith)) [
            | inl q ↦ q.0
            | inr q ↦ absurd (let p = block-vacant sz s.limits (frame_at d f) q.0 in omega arith)
          ]);
      cached-once = λ i f b o il fl bl ol e k h. let p = page-vacant sz s.limits b o bl ol in
          s.entries.once i f il fl (omega arith) (has-frame sz d (slot_at d i) f
          (k ∙ sym (ap (λ (x : ℕ). x / sz.K) e ∙ page-div sz s.limits b o ol))
          (ap (λ (x : ℕ). bit (valid_at d f) x) (ap (λ (x : ℕ). x % sz.K) e ∙ page-mod sz s.limits b o ol) ∙ h));
    };
    order-has = s.listed.recency-has;
    order-once = listed-once sz.B (recency_at d) s.listed.recency-has;
    slots-past = s.past.slot-past;
    frames-past = s.past.frame_past;
    uses-some = s.counted.some;
    uses-none = s.counted.none;
  }

  meant : SoundBy sz d → Sound sz d
  meant s =
      let limits = limits_of sz ((sizes-rule sz).1 s.sizes-are) in
      record {
        limits = limits;
        shape = record {
          slots_length = s.shape_is.slots-are;
          frames-length = s.shape_is.frames-are;
          valid-length = s.shape_is.valid-are;
          recency-length = s.shape_is.order_is;
          uses-length = s.shape_is.uses-are;
        };
        entries = record {
          slot-in = s.held-right.slot-in;
          slots_apart = two sz.P (slot_at d) s.held-right.slots-differ;
          frame-in = λ f l. elim (s.held-right.frame-in f l) [
            | inl e ↦ inl (e.0, none_at_all (valid_at d f) e.1)
            | inr e ↦ inr (e.0, bit-pos (valid_at d f) e.1.0 e.1.1, none_above sz.K (valid_at d f) e.2)
          ];
          frames-apart = two sz.B (frame_at d) s.held-right.frames-differ;
          once = λ i f il fl v q. let h = frame_has sz d (slot_at d i) f q in elim (s.held-right.slot-in i il) [
            | inl e ↦ omega arith
            | inr e ↦ s.held-right.cached-once i f (slot_at d i / sz.K) (slot_at d i % sz.K) il fl (block-lt sz limits (slot_at d i) e)
                (offset_lt sz limits (slot_at d i))
                (sym (page-split sz limits (slot_at d i) (slot_at d i / sz.K) refl)) h.0 h.1
          ];
        };
        listed = record { recency-lt = λ i l. (listed_at sz.B (recency_at d) s.order-has i l).0; recency-has = s.order-has };
        past = record { slot-past = s.slots-past; frame_past = s.frames-past };
        counted = record { none = s.uses-none; some = s.uses-some };
      }
    where
      two : (n : ℕ) (g : ℕ → ℕ) → ((i j : ℕ) → i < j → j < n → g i ≡ g j → g i ≡ vacant) → (i j : ℕ) → i < n → j < n → g i < vacant
          → g i ≡ g j → i ≡ j
      two n g h i j il jl v e = by-test (ltb i j)
          (λ t. absurd (let q = h i j (ltb-true i j t) jl e in omega arith))
          (λ t. by-test (ltb j i)
          (λ u. absurd (let q = h j i (ltb-true j i u) il (sym e) in omega arith))
          (λ u. let x = ltb-false i j t in let y = ltb-false j i u in omega arith))

pub sound-rule : SoundRule
sound-rule sz d = ((λ h. said sz d (sound-facts sz d h)), (λ s. facts-sound sz d (meant sz d s)))

-- ---- the blank record, and opening

pub start-rule : StartRule
unfolding vacant_directory
start-rule = record {
  shape_is = record {
    slots-are = length-replicate 128 vacant;
    frames-are = length-replicate 8 vacant;
    valid-are = length-replicate {A = ℕ} 8 0;
    order_is = length-tab 8 _;
    uses-are = length-replicate {A = ℕ} 8 0;
  };
  slot_is = λ i l. get_or-replicate 128 i vacant 0 l;
  frame_is = λ f l. get_or-replicate 8 f vacant 0 l;
  valid-is = λ f l. get_or-replicate 8 f 0 0 l;
  order-at = λ f l. get_d_tab 8 (λ i. i) 0 f l;
  uses-is = λ f l. get_or-replicate 8 f 0 0 l;
}

pub blank-rule : BlankRule
unfolding blank_cache
blank-rule = (refl, start-rule)

pub blank-unsound_rule : BlankUnsoundRule
unfolding blank_cache
blank-unsound_rule = by-test (sound blank_cache.sizes blank_cache.directory)
    (λ h. absurd (let k = ((sound-rule blank_cache.sizes blank_cache.directory).0 h).sizes-are.K_is.0 in omega arith)) (λ h. h)

pub opening-size_rule : OpeningSizeRule
unfolding open_store
opening-size_rule fmt sz u h = let e = fails (sizes_ok sz) (λ t. h ((sizes-rule sz).0 t)) in (
  rw (e, open_store),
  rw (e, open_store),
  rw
      (e, open_store),
)

pub opening-buffer_rule : OpeningBufferRule
unfolding open_store
opening-buffer_rule fmt sz u l h = let a = (sizes-rule sz).1 l in let e = fails (lent_ok fmt sz u) (λ t. h ((lengths-rule fmt sz u).0 t)) in
    (rw (a, open_store) (rw e), rw (a, open_store) (rw e), rw (a, open_store) (rw e))

pub opening-overworn_rule : OpeningOverwornRule
unfolding open_store
opening-overworn_rule fmt sz u l r b bl h = let a = (sizes-rule sz).1 l in let e = (lengths-rule fmt sz u).1 r in
    let c = all-fails sz.N (λ i. leb (get_or u.wear i 0) sz.W) b bl (lt-leb (get_or u.wear b 0) sz.W h) in
    (rw (a, open_store) (rw e (rw c)), rw (a, open_store) (rw e (rw c)), rw (a, open_store) (rw e (rw c)))

pub opening-done_rule : OpeningDoneRule
unfolding open_store
opening-done_rule fmt sz u l r h = let a = (sizes-rule sz).1 l in let e = (lengths-rule fmt sz u).1 r in
    let c = all_of sz.N (λ i. leb (get_or u.wear i 0) sz.W) (λ b bl. le-leb _ _ (h b bl)) in (
      rw (a, open_store) (rw e (rw c)),
      rw (a, open_store) (rw e (rw c)),
      rw (a, open_store) (rw e (rw c start-rule)),
      rw (a, open_store) (rw e
          (rw c)),
    )

-- ---- torn blocks

mark-none : (n : ℕ) → get_or {A = ℕ} [] n 0 ≡ 0
mark-none zero = refl
mark-none (suc n) = refl

pub torn_blocks-rule : TornBlocksRule
unfolding torn_blocks
torn_blocks-rule sz marks = (
  (λ torn h. count_same sz.N _ torn (λ b bl. by-test (torn b)
      (λ t. let w = (h b bl).0 t in rw (
        t,
        all-fails sz.K (λ o. eqb (get_or marks (b * sz.K + o) 0) 0) w.0 w.1
            (ne_eqb (get_or marks (b * sz.K + w.0) 0) 0 w.2),
      ))
      (λ t. rw (
        t,
        all_of sz.K (λ o. eqb (get_or marks (b * sz.K + o) 0) 0) (λ o ol. by-test (eqb (get_or marks (b * sz.K + o) 0) 0)
            (λ q. q) (λ q. clash ((h b bl).1 (o, ol, eqb-false (get_or marks (b * sz.K + o) 0) 0 q)) t)),
      )))),
  (λ e. rw e (count_none sz.N _ (λ b bl. rw (all_of sz.K (λ o. eqb (get_or {A = ℕ} [] (b * sz.K + o) 0) 0)
      (λ o ol. eq-eqb (get_or {A = ℕ} [] (b * sz.K + o) 0) 0 (mark-none (b * sz.K + o))))))),
)
