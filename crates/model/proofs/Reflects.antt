-- What a reader sees is the page array, and each move of pages keeps it so.
use mathlib.Core.Path.{◌≡◌, refl, sym, ap, ap₂, ◌∙◌}
use mathlib.Core.Logic.{◌⊎◌, inl, inr}
use mathlib.Core.Bool.{true, false, cond, ◌&&◌, ◌||◌}
use mathlib.Core.List.{List}
use Prim.Native.Nat.{ℕ, ◌+◌, ◌-◌, ◌*◌, ◌/◌, ◌%◌, ◌≤◌, ◌<◌}
use native.Mathlib.Omega.{arith}
use lib.Dec.{ltb, eqb}
use lib.ListN.{length, get_or, set}
use lib.Seq.{get_or-set_same, get_or-set_other}
use lib.Arith.{digits_lt}
use borrow.Author.Tests.{ltb-true, eqb-true, eqb-false, lt-ltb, eq-eqb, ne_eqb}
use Rattle.prelude.specs.Scan.{count, nth}
use Rattle.prelude.specs.Bits.{bit}
use Rattle.prelude.proofs.Tests.{by-test, clash, and_l, and_i, or_l, or_r, or_left, not_f, and-not_l, not-i}
use Rattle.prelude.proofs.Scan.{nth-is, nth-rank, nth-some, count_past}
use Rattle.prelude.proofs.Tab.{get_d_tab}
use Rattle.prelude.proofs.Bits.{bit_mask, bit-zero}
use Rattle.model.specs.Sizes.{Sizes, vacant, InLimits}
use Rattle.model.specs.Directory.{Directory, slot_at, frame_at, valid_at, inFrame}
use Rattle.model.specs.Soundness.{Shape}
use Rattle.model.specs.Policy.{in_block, slot_of, in_slots}
use Rattle.model.specs.Moves.{Chip, Memory, cell_at, flash_page, programmed, put_slot, put_slot_page, put_frame_page, joined, filled}
use Rattle.model.specs.Moves.{joined_pages, unmet, spare, taken, given_slot, exchanged, exchanged_pages, vacated, merged, rewritten_pages}
use Rattle.model.proofs.Soundness.{pages-small}
use Rattle.model.proofs.Lookup.{NoSlot, NoFrame, page-div, page-mod, page-vacant, offset_lt, page-split, found-slot, in_slots_lem}
use Rattle.model.proofs.Lookup.{block_of, in_block_lem, frame_has, has-frame, own_block}

-- what a rewrite of frame f, of block b, programs is read as it is
abbrev pub Own : {C A : Type 0} → Chip C A → A → Sizes → Directory → Memory C A → ℕ → ℕ → Type 0
Own chip filler sz d m b f = (o : ℕ) → chip.page (chip.cell (merged chip filler sz d m b f o)) ≡ merged chip filler sz d m b f o

-- so for every rewrite that a step may make
abbrev pub OwnAll : {C A : Type 0} → Chip C A → A → Sizes → Directory → Memory C A → Type 0
OwnAll chip filler sz d m = (b f : ℕ) → Own chip filler sz (joined sz d b f) (joined_pages filler sz d m b f) b f

module _ {C A : Type 0} (chip : Chip C A) (filler : A) where
  -- every page is seen as the array has it
  pub record Reflects (sz : Sizes) (d : Directory) (m : Memory C A) (v : List A) : Type 0 where
    pub in_slot : (i : ℕ) → i < sz.P → slot_at d i < vacant → get_or m.pspace i filler ≡ get_or v (slot_at d i) filler
    pub in_frame : (f o : ℕ) → f < sz.B → o < sz.K → bit (valid_at d f) o ≡ true
        → get_or m.bspace (f * sz.K + o) filler ≡ get_or v (frame_at d f * sz.K + o) filler
    pub in_flash : (n : ℕ) → n < sz.N * sz.K → NoSlot sz d n → NoFrame sz d n → flash_page chip filler m n ≡ get_or v n filler

-- ---- the join

module _ (sz : Sizes) (limits : InLimits sz) (d : Directory) (shape : Shape d) (b f : ℕ) (f_lt : f < sz.B) where
  pub joined-slot : (i : ℕ) → i < sz.P → slot_at (joined sz d b f) i ≡ cond (in_block sz d b i) vacant (slot_at d i)
  unfolding joined
  joined-slot i l = get_d_tab 128 _ 0 i (let h = limits.P_high in omega arith)

  pub joined-frame : frame_at (joined sz d b f) f ≡ b
  unfolding joined
  joined-frame = get_or-set_same d.frames f b 0 (let h = limits.B_high in let k = shape.frames-length in omega arith)

  pub joined-frame' : (g : ℕ) → (g ≡ f → ⊥) → frame_at (joined sz d b f) g ≡ frame_at d g
  unfolding joined
  joined-frame' g h = get_or-set_other d.frames f g b 0 h

  pub joined-bits : (o : ℕ) → o < sz.K → bit (valid_at (joined sz d b f) f) o ≡ (bit (valid_at d f) o || in_slots sz d (b * sz.K + o))
  unfolding joined
  joined-bits o l = ap (λ (x : ℕ). bit x o) (get_or-set_same d.valid f _ 0
      (let h = limits.B_high in let k = shape.valid-length in omega arith)) ∙ bit_mask sz.K _ o l

  pub joined-bits' : (g : ℕ) → (g ≡ f → ⊥) → valid_at (joined sz d b f) g ≡ valid_at d g
  unfolding joined
  joined-bits' g h = get_or-set_other d.valid f g _ 0 h

  module _ {C A : Type 0} (filler : A) (m : Memory C A) where
    filled-page : (g o : ℕ) → g < sz.B → o < sz.K → get_or (filled filler sz d m b f) (g * sz.K + o) filler
        ≡ cond (eqb g f && in_slots sz d (b * sz.K + o)) (get_or m.pspace (slot_of sz d (b * sz.K + o)) filler)
        (get_or m.bspace (g * sz.K + o) filler)
    unfolding filled
    filled-page g o gl ol = get_d_tab (sz.B * sz.K) _ filler (g * sz.K + o) (digits_lt gl ol)
        ∙ rw (page-div sz limits g o ol, page-mod sz limits g o ol)

    filled-other : (g o : ℕ) → g < sz.B → o < sz.K → (g ≡ f → ⊥)
        → get_or (filled filler sz d m b f) (g * sz.K + o) filler ≡ get_or m.bspace (g * sz.K + o) filler
    filled-other g o gl ol h = filled-page g o gl ol ∙ rw (ne_eqb g f h)

    filled-kept : (o : ℕ) → o < sz.K → in_slots sz d (b * sz.K + o) ≡ false
        → get_or (filled filler sz d m b f) (f * sz.K + o) filler ≡ get_or m.bspace (f * sz.K + o) filler
    filled-kept o ol h = filled-page f o f_lt ol ∙ rw (h, eq-eqb f f refl)

    module _ (chip : Chip C A) (v : List A) (s : Reflects chip filler sz d m v) (b_lt : b < sz.N) where
      pub filled-victim : (o : ℕ) → o < sz.K → in_slots sz d (b * sz.K + o) ≡ true
          → get_or (filled filler sz d m b f) (f * sz.K + o) filler ≡ get_or v (b * sz.K + o) filler
      filled-victim o ol h = let q = found-slot sz d _ h in
          filled-page f o f_lt ol ∙ rw (h, eq-eqb f f refl)
          (s.in_slot (slot_of sz d (b * sz.K + o)) q.0 (rw q.1 (page-vacant sz limits b o b_lt ol))
          ∙ ap (λ (x : ℕ). get_or v x filler) q.1)

      module _ (own : (frame_at d f ≡ b) ⊎ (valid_at d f ≡ 0)) where
        joined-in-slot : (i : ℕ) → i < sz.P → slot_at (joined sz d b f) i < vacant
            → get_or m.pspace i filler ≡ get_or v (slot_at (joined sz d b f) i) filler
        joined-in-slot i l = rw (joined-slot i l) (by-test (in_block sz d b i)
            (λ e. rw e (λ h. absurd (omega arith)))
            (λ e. rw e (λ h. s.in_slot i l h)))

        joined-in-frame : (g o : ℕ) → g < sz.B → o < sz.K → bit (valid_at (joined sz d b f) g) o ≡ true
            → get_or (filled filler sz d m b f) (g * sz.K + o) filler ≡ get_or v (frame_at (joined sz d b f) g * sz.K + o) filler
        joined-in-frame g o gl ol h = by-test (eqb g f)
            (λ e. let e2 = eqb-true g f e in
            rw (e2, joined-frame) (by-test (in_slots sz d (b * sz.K + o))
            (λ q. filled-victim o ol q)
            (λ q. let w : (bit (valid_at d f) o || in_slots sz d (b * sz.K + o)) ≡ true = sym (joined-bits o ol) ∙ (rw e2 at h) in
            let k : bit (valid_at d f) o ≡ true = or_left (bit (valid_at d f) o) (in_slots sz d (b * sz.K + o)) w q in
            filled-kept o ol q ∙ s.in_frame f o f_lt ol k ∙ rw (own_block sz d b f own o k))))
            (λ e. let e2 = eqb-false g f e in
            rw (joined-frame' g e2) (filled-other g o gl ol e2 ∙ s.in_frame g o gl ol
            (sym (ap (λ (x : ℕ). bit x o) (joined-bits' g e2)) ∙ h)))

        joined-in-flash : (n : ℕ) → n < sz.N * sz.K → NoSlot sz (joined sz d b f) n → NoFrame sz (joined sz d b f) n
            → flash_page chip filler m n ≡ get_or v n filler
        joined-in-flash n l np nf = s.in_flash n l
            (λ i il e. by-test (in_block sz d b i)
            (λ q. let k = block_of sz d b i q in let e' : n / sz.K ≡ b = ap (λ (x : ℕ). x / sz.K) (sym e) ∙ k.1 in
            nf f f_lt (has-frame sz (joined sz d b f) n f (joined-frame ∙ sym e')
            (joined-bits (n % sz.K) (offset_lt sz limits n) ∙ or_r (bit (valid_at d f) (n % sz.K))
            (rw (page-split sz limits n b e') (in_slots_lem sz d n i il e)))))
            (λ q. np i il (joined-slot i il ∙ rw q e)))
            (λ g gl e. let k = frame_has sz d n g e in by-test (eqb g f)
            (λ q. let e2 = eqb-true g f q in let k2 = (rw e2 at k.1) in
            nf f f_lt (has-frame sz (joined sz d b f) n f (joined-frame ∙ sym (own_block sz d b f own _ k2) ∙ (rw e2 at k.0))
            (joined-bits (n % sz.K) (offset_lt sz limits n) ∙ or_l _ k2)))
            (λ q. let e2 = eqb-false g f q in
            nf g gl (has-frame sz (joined sz d b f) n g (joined-frame' g e2 ∙ k.0)
            (ap (λ (x : ℕ). bit x (n % sz.K)) (joined-bits' g e2) ∙ k.1))))

        pub joined-reflects : Reflects chip filler sz (joined sz d b f) (joined_pages filler sz d m b f) v
        unfolding joined_pages flash_page
        joined-reflects = record { in_slot = joined-in-slot; in_frame = joined-in-frame; in_flash = joined-in-flash }

-- ---- the exchange, of a block b with more pages in slots than the frame has valid

module _ (sz : Sizes) (limits : InLimits sz) (d : Directory) (shape : Shape d) (b f : ℕ) (f_lt : f < sz.B) where
  pub exchanged-slot : (i : ℕ) → i < sz.P → slot_at (exchanged sz d b f) i ≡ cond (in_block sz d b i) (given_slot sz d b f i) (slot_at d i)
  unfolding exchanged
  exchanged-slot i l = get_d_tab 128 _ 0 i (let h = limits.P_high in omega arith)

  pub exchanged-frame : frame_at (exchanged sz d b f) f ≡ b
  unfolding exchanged
  exchanged-frame = get_or-set_same d.frames f b 0 (let h = limits.B_high in let k = shape.frames-length in omega arith)

  pub exchanged-frame' : (g : ℕ) → (g ≡ f → ⊥) → frame_at (exchanged sz d b f) g ≡ frame_at d g
  unfolding exchanged
  exchanged-frame' g h = get_or-set_other d.frames f g b 0 h

  pub exchanged-bits : (o : ℕ) → o < sz.K → bit (valid_at (exchanged sz d b f) f) o ≡ in_slots sz d (b * sz.K + o)
  unfolding exchanged
  exchanged-bits o l = ap (λ (x : ℕ). bit x o) (get_or-set_same d.valid f _ 0
      (let h = limits.B_high in let k = shape.valid-length in omega arith)) ∙ bit_mask sz.K _ o l

  pub exchanged-bits' : (g : ℕ) → (g ≡ f → ⊥) → valid_at (exchanged sz d b f) g ≡ valid_at d g
  unfolding exchanged
  exchanged-bits' g h = get_or-set_other d.valid f g _ 0 h

  -- a vacated slot takes a page that the frame had valid
  pub taken-bit : (i : ℕ) → in_block sz d b i ≡ true → taken sz d b f i < sz.K → bit (valid_at d f) (taken sz d b f i) ≡ true
  unfolding taken spare unmet
  taken-bit i q = by-test (spare sz d b f i)
      (λ e. rw e (λ h. and_l (bit (valid_at d f) _) _ (nth-is sz.K (unmet sz d b f) (count i (spare sz d b f)) h).0))
      (λ e. rw e (λ h. not_f (and-not_l q e)))

  -- each page that the frame had valid is taken by a slot
  module _ (enough : count sz.K (unmet sz d b f) ≤ count sz.P (spare sz d b f)) (b_lt : b < sz.N) where
    pub taker : (o : ℕ) → o < sz.K → bit (valid_at d f) o ≡ true → (i : ℕ) × (i < sz.P) × (in_block sz d b i ≡ true)
        × (taken sz d b f i ≡ o)
    unfolding taken spare unmet
    taker o ol h = by-test (in_slots sz d (b * sz.K + o))
        (λ q. let w = found-slot sz d _ q in let i : ℕ = slot_of sz d (b * sz.K + o) in
        let y : in_block sz d b i ≡ true = in_block_lem sz d b i (rw w.1 (page-vacant sz limits b o b_lt ol))
        (ap (λ (x : ℕ). x / sz.K) w.1 ∙ page-div sz limits b o ol) in
        let e' : slot_at d i % sz.K ≡ o = ap (λ (x : ℕ). x % sz.K) w.1 ∙ page-mod sz limits b o ol in
        let ns : spare sz d b f i ≡ false = rw (y, e', h) in
        (i, w.0, y, rw ns e'))
        (λ q. let u : unmet sz d b f o ≡ true = and_i h (not-i q) in
        let c = count_past o sz.K (unmet sz d b f) ol u in
        let i : ℕ = nth sz.P (spare sz d b f) (count o (unmet sz d b f)) in
        let il = nth-some sz.P (spare sz d b f) (count o (unmet sz d b f)) (omega arith) in
        let k = nth-is sz.P (spare sz d b f) (count o (unmet sz d b f)) il in
        (i, il, and_l (in_block sz d b i) _ k.0, rw (k.0, k.1) (nth-rank sz.K (unmet sz d b f) o ol u)))

    module _ {C A : Type 0} (chip : Chip C A) (filler : A) (m : Memory C A) (v : List A) (s : Reflects chip filler sz d m v) where
      exchanged-in_slot : (i : ℕ) → i < sz.P → slot_at (exchanged sz d b f) i < vacant
          → get_or (exchanged_pages filler sz d m b f).pspace i filler ≡ get_or v (slot_at (exchanged sz d b f) i) filler
      unfolding exchanged_pages given_slot
      exchanged-in_slot i l = rw (
        exchanged-slot i l,
        get_d_tab sz.P
            (λ i. cond (in_block sz d b i && ltb (taken sz d b f i) sz.K) (get_or m.bspace (f * sz.K + taken sz d b f i) filler)
            (get_or m.pspace i filler)) filler i l,
      )
          (by-test (in_block sz d b i)
          (λ e. rw e (by-test (ltb (taken sz d b f i) sz.K)
          (λ q. rw q (λ h. let t = ltb-true _ _ q in s.in_frame f (taken sz d b f i) f_lt t (taken-bit i e t)))
          (λ q. rw q (λ h. absurd (omega arith)))))
          (λ e. rw e (λ h. s.in_slot i l h)))

      exchanged-in_frame : (g o : ℕ) → g < sz.B → o < sz.K → bit (valid_at (exchanged sz d b f) g) o ≡ true
          → get_or (filled filler sz d m b f) (g * sz.K + o) filler ≡ get_or v (frame_at (exchanged sz d b f) g * sz.K + o) filler
      exchanged-in_frame g o gl ol h = by-test (eqb g f)
          (λ e. let e2 = eqb-true g f e in
          rw (e2, exchanged-frame) (filled-victim sz limits d shape b f f_lt filler m chip v s b_lt o ol
          (sym (exchanged-bits o ol) ∙ (rw e2 at h))))
          (λ e. let e2 = eqb-false g f e in
          rw (exchanged-frame' g e2) (filled-other sz limits d shape b f f_lt filler m g o gl ol e2
          ∙ s.in_frame g o gl ol (sym (ap (λ (x : ℕ). bit x o) (exchanged-bits' g e2)) ∙ h)))

      exchanged-in_flash : (n : ℕ) → n < sz.N * sz.K → NoSlot sz (exchanged sz d b f) n → NoFrame sz (exchanged sz d b f) n
          → flash_page chip filler m n ≡ get_or v n filler
      unfolding given_slot
      exchanged-in_flash n l np nf = s.in_flash n l
          (λ i il e. by-test (in_block sz d b i)
          (λ q. let k = block_of sz d b i q in let e' : n / sz.K ≡ b = ap (λ (x : ℕ). x / sz.K) (sym e) ∙ k.1 in
          nf f f_lt (has-frame sz (exchanged sz d b f) n f (exchanged-frame ∙ sym e')
          (exchanged-bits (n % sz.K) (offset_lt sz limits n) ∙ rw (page-split sz limits n b e') (in_slots_lem sz d n i il e))))
          (λ q. np i il (exchanged-slot i il ∙ rw q e)))
          (λ g gl e. let k = frame_has sz d n g e in by-test (eqb g f)
          (λ q. let e2 = eqb-true g f q in let t = taker (n % sz.K) (offset_lt sz limits n) (rw e2 at k.1) in
          np t.0 t.1 (exchanged-slot t.0 t.1 ∙ rw (t.2, t.3, lt-ltb (n % sz.K) sz.K (offset_lt sz limits n))
          (page-split sz limits n (frame_at d f) (sym (rw e2 at k.0)))))
          (λ q. let e2 = eqb-false g f q in
          nf g gl (has-frame sz (exchanged sz d b f) n g (exchanged-frame' g e2 ∙ k.0)
          (ap (λ (x : ℕ). bit x (n % sz.K)) (exchanged-bits' g e2) ∙ k.1))))

      pub exchanged-reflects : Reflects chip filler sz (exchanged sz d b f) (exchanged_pages filler sz d m b f) v
      unfolding exchanged_pages flash_page
      exchanged-reflects = record { in_slot = exchanged-in_slot; in_frame = exchanged-in_frame; in_flash = exchanged-in_flash }

-- ---- the rewrite, after which the frame is vacated

module _ (sz : Sizes) (limits : InLimits sz) (d : Directory) (shape : Shape d) (f : ℕ) (f_lt : f < sz.B) where
  pub vacated-frame : frame_at (vacated d f) f ≡ vacant
  unfolding vacated
  vacated-frame = get_or-set_same d.frames f vacant 0 (let h = limits.B_high in let k = shape.frames-length in omega arith)

  pub vacated-frame' : (g : ℕ) → (g ≡ f → ⊥) → frame_at (vacated d f) g ≡ frame_at d g
  unfolding vacated
  vacated-frame' g h = get_or-set_other d.frames f g vacant 0 h

  pub vacated-bits : valid_at (vacated d f) f ≡ 0
  unfolding vacated
  vacated-bits = get_or-set_same d.valid f 0 0 (let h = limits.B_high in let k = shape.valid-length in omega arith)

  pub vacated-bits' : (g : ℕ) → (g ≡ f → ⊥) → valid_at (vacated d f) g ≡ valid_at d g
  unfolding vacated
  vacated-bits' g h = get_or-set_other d.valid f g 0 0 h

  module _ {C A : Type 0} (chip : Chip C A) (filler : A) (m : Memory C A) (v : List A) (s : Reflects chip filler sz d m v) where
    -- what the rewrite programs is the array's page, where the page is in no slot and in no other frame
    pub merged-is : (n : ℕ) → n < sz.N * sz.K → n / sz.K ≡ frame_at d f → (NoSlot sz d n) → (NoFrame sz (vacated d f) n)
        → merged chip filler sz d m (frame_at d f) f (n % sz.K) ≡ get_or v n filler
    unfolding merged
    merged-is n l e' np nf = by-test (bit (valid_at d f) (n % sz.K))
        (λ e. rw e (s.in_frame f (n % sz.K) f_lt (offset_lt sz limits n) e
        ∙ ap (λ (x : ℕ). get_or v x filler) (page-split sz limits n (frame_at d f) e')))
        (λ e. rw e (ap (flash_page chip filler m) (page-split sz limits n (frame_at d f) e') ∙ s.in_flash n l np
        (λ g gl q. let k = frame_has sz d n g q in by-test (eqb g f)
        (λ t. clash (rw (eqb-true g f t) at k.1) e)
        (λ t. let e2 = eqb-false g f t in nf g gl (has-frame sz (vacated d f) n g (vacated-frame' g e2 ∙ k.0)
        (ap (λ (x : ℕ). bit x (n % sz.K)) (vacated-bits' g e2) ∙ k.1))))))

    rewritten-frame' : (g o : ℕ) → g < sz.B → o < sz.K → (g ≡ f → ⊥)
        → get_or (rewritten_pages chip filler sz d m (frame_at d f) f).bspace (g * sz.K + o) filler ≡ get_or m.bspace (g * sz.K + o) filler
    unfolding rewritten_pages
    rewritten-frame' g o gl ol h = get_d_tab (sz.B * sz.K) _ filler (g * sz.K + o) (digits_lt gl ol)
        ∙ rw (page-div sz limits g o ol, ne_eqb g f h)

    pub rewritten-cell : (n : ℕ) → n < sz.N * sz.K → cell_at chip filler (rewritten_pages chip filler sz d m (frame_at d f) f).flash n
        ≡ cond (eqb (n / sz.K) (frame_at d f)) (chip.cell (merged chip filler sz d m (frame_at d f) f (n % sz.K)))
        (cell_at chip filler m.flash n)
    unfolding rewritten_pages programmed cell_at
    rewritten-cell n l = get_d_tab (sz.N * sz.K) _ (chip.cell filler) n l

    rewritten-flash : Own chip filler sz d m (frame_at d f) f → (n : ℕ) → n < sz.N * sz.K
        → flash_page chip filler (rewritten_pages chip filler sz d m (frame_at d f) f) n
        ≡ cond (eqb (n / sz.K) (frame_at d f)) (merged chip filler sz d m (frame_at d f) f (n % sz.K)) (flash_page chip filler m n)
    unfolding flash_page
    rewritten-flash own n l = ap chip.page (rewritten-cell n l)
        ∙ by-test (eqb (n / sz.K) (frame_at d f)) (λ e. rw e (own (n % sz.K))) (λ e. rw e)

    pub rewritten-reflects : Own chip filler sz d m (frame_at d f) f
        → Reflects chip filler sz (vacated d f) (rewritten_pages chip filler sz d m (frame_at d f) f) v
    unfolding vacated rewritten_pages
    rewritten-reflects own = record {
      in_slot = λ i l h. s.in_slot i l h;
      in_frame = λ g o gl ol h. by-test (eqb g f)
          (λ e. clash h (ap (λ (x : ℕ). bit (valid_at (vacated d f) x) o) (eqb-true g f e) ∙ ap (λ (x : ℕ). bit x o) vacated-bits
          ∙ bit-zero o))
          (λ e. let e2 = eqb-false g f e in
          rw (vacated-frame' g e2) (rewritten-frame' g o gl ol e2 ∙ s.in_frame g o gl ol
          (sym (ap (λ (x : ℕ). bit x o) (vacated-bits' g e2)) ∙ h)));
      in_flash = λ n l np nf. rewritten-flash own n l ∙ by-test (eqb (n / sz.K) (frame_at d f))
          (λ e. rw e (merged-is n l (eqb-true _ _ e) np nf))
          (λ e. rw e (s.in_flash n l np (λ g gl q. let k = frame_has sz d n g q in by-test (eqb g f)
          (λ t. absurd (eqb-false _ _ e (sym (rw (eqb-true g f t) at k.0))))
          (λ t. let e2 = eqb-false g f t in nf g gl (has-frame sz (vacated d f) n g (vacated-frame' g e2 ∙ k.0)
          (ap (λ (x : ℕ). bit x (n % sz.K)) (vacated-bits' g e2) ∙ k.1))))));
    }

-- ---- a page put into a slot, or into a slot of a frame

module _ (sz : Sizes) (d : Directory) (shape : Shape d) {C A : Type 0} (chip : Chip C A) (filler : A) (m : Memory C A) (v : List A)
    (s : Reflects chip filler sz d m v) (n : ℕ) (x : A)
    (n-lt : n < sz.N * sz.K) (v-length : length v ≡ sz.N * sz.K) where
  module _ (limits : InLimits sz) (i : ℕ) (i_lt : i < sz.P) (p-length : length m.pspace ≡ sz.P)
      (alone : (j : ℕ) → j < sz.P → (j ≡ i → ⊥) → slot_at d j ≡ n → ⊥) (nf : NoFrame sz d n)
      (held : (slot_at d i ≡ n) ⊎ (slot_at d i ≡ vacant)) where
    pub put_slot-reflects : Reflects chip filler sz (put_slot d i n) (put_slot_page m i x) (set v n x)
    unfolding put_slot put_slot_page inFrame flash_page
    put_slot-reflects = record {
      in_slot = λ j l h. by-test (eqb j i)
          (λ e. let e2 = eqb-true j i e in rw e2
          (get_or-set_same m.pspace i x filler (omega arith) ∙ sym (ap (λ (k : ℕ). get_or (set v n x) k filler)
          (get_or-set_same d.slots i n 0 (let h1 = limits.P_high in let h2 = shape.slots_length in omega arith))
          ∙ get_or-set_same v n x filler (omega arith))))
          (λ e. let e2 = eqb-false j i e in let q = get_or-set_other d.slots i j n 0 e2 in
          get_or-set_other m.pspace i j x filler e2 ∙ s.in_slot j l (rw q at h)
          ∙ rw q (sym (get_or-set_other v n (slot_at d j) x filler (alone j l e2))));
      in_frame = λ g o gl ol h. s.in_frame g o gl ol h ∙ sym (get_or-set_other v n (frame_at d g * sz.K + o) x filler
          (λ e. nf g gl (has-frame sz d n g
          (sym (page-div sz limits (frame_at d g) o ol) ∙ ap (λ (k : ℕ). k / sz.K) e)
          (ap (λ (k : ℕ). bit (valid_at d g) k) (sym (ap (λ (k : ℕ). k % sz.K) e) ∙ page-mod sz limits (frame_at d g) o ol) ∙ h))));
      in_flash = λ k l np nf2. by-test (eqb k n)
          (λ e. absurd (np i i_lt (get_or-set_same d.slots i n 0 (let h1 = limits.P_high in let h2 = shape.slots_length in omega arith)
          ∙ sym (eqb-true k n e))))
          (λ e. let e2 = eqb-false k n e in s.in_flash k l
          (λ j jl q. by-test (eqb j i)
          (λ t. let t2 = eqb-true j i t in elim held [
            | inl w ↦ e2 (sym q ∙ (rw t2 w))
            | inr w ↦
                (let y : k ≡ vacant = sym q ∙ (rw t2 w) in let h3 = (pages-small sz limits) in omega arith)
          ])
          (λ t. np j jl (get_or-set_other d.slots i j n 0 (eqb-false j i t) ∙ q)))
          nf2 ∙ sym (get_or-set_other v n k x filler e2));
    }

  module _ (limits : InLimits sz) (f : ℕ) (f_lt : f < sz.B) (b-length : length m.bspace ≡ sz.B * sz.K)
      (np : NoSlot sz d n) (has : inFrame sz d n f ≡ true) (alone : (g : ℕ) → g < sz.B → (g ≡ f → ⊥) → inFrame sz d n g ≡ true → ⊥) where
    pub put-frame_reflects : Reflects chip filler sz d (put_frame_page m (f * sz.K + n % sz.K) x) (set v n x)
    unfolding put_frame_page flash_page
    put-frame_reflects = record {
      in_slot = λ j l h. s.in_slot j l h ∙ sym (get_or-set_other v n (slot_at d j) x filler (np j l));
      in_frame = λ g o gl ol h. by-test (eqb (g * sz.K + o) (f * sz.K + n % sz.K))
          (λ e. let e2 = eqb-true _ _ e in let k = frame_has sz d n f has in
          let gf : g ≡ f = sym (page-div sz limits g o ol) ∙ ap (λ (k : ℕ). k / sz.K) e2
          ∙ page-div sz limits f (n % sz.K) (offset_lt sz limits n) in
          let on : o ≡ n % sz.K = sym (page-mod sz limits g o ol) ∙ ap (λ (k : ℕ). k % sz.K) e2
          ∙ page-mod sz limits f (n % sz.K) (offset_lt sz limits n) in
          rw (gf, on, page-split sz limits n (frame_at d f) (sym k.0))
          (get_or-set_same m.bspace _ x filler (rw b-length (digits_lt f_lt (offset_lt sz limits n)))
          ∙ sym (get_or-set_same v n x filler (omega arith))))
          (λ e. let e2 = eqb-false _ _ e in
          get_or-set_other m.bspace (f * sz.K + n % sz.K) (g * sz.K + o) x filler e2 ∙ s.in_frame g o gl ol h
          ∙ sym (get_or-set_other v n (frame_at d g * sz.K + o) x filler
          (λ q. let on : o ≡ n % sz.K = sym (page-mod sz limits (frame_at d g) o ol) ∙ ap (λ (k : ℕ). k % sz.K) q in by-test (eqb g f)
          (λ t. e2 (ap₂ (λ (a c : ℕ). a * sz.K + c) (eqb-true g f t) on))
          (λ t. alone g gl (eqb-false g f t) (has-frame sz d n g (sym (page-div sz limits (frame_at d g) o ol)
          ∙ ap (λ (k : ℕ). k / sz.K) q) (ap (λ (k : ℕ). bit (valid_at d g) k) (sym on) ∙ h))))));
      in_flash = λ k l np2 nf2. by-test (eqb k n)
          (λ e. absurd (nf2 f f_lt (rw (eqb-true k n e) has)))
          (λ e. s.in_flash k l np2 nf2 ∙ sym (get_or-set_other v n k x filler (eqb-false k n e)));
    }
