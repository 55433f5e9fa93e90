-- The laws of the moves hold: a lemma for each list of the record or of the pages says what stands at an index; cases give the law.
use mathlib.Core.Path.{◌≡◌, refl, sym, ap, ◌∙◌}
use mathlib.Core.Logic.{◌⊎◌, inl, inr}
use mathlib.Core.Bool.{Bool, true, false, not, cond, ◌&&◌, ◌||◌}
use mathlib.Core.List.{List, [], ◌∷◌, ◌++◌}
use Prim.Native.Nat.{ℕ, zero, suc, ◌+◌, ◌-◌, ◌*◌, ◌/◌, ◌%◌, ◌≤◌, ◌<◌}
use native.Mathlib.Omega.{arith}
use lib.Dec.{ltb, eqb}
use lib.Arith.{digits_lt}
use lib.ListN.{length, get_or, take, length-set, length-append, length-drop, get_or-append}
use lib.Seq.{get_or-set_same, get_or-set_other, get_or-take, get_or-drop, get_or-append_seam, ext_get_or, length-take-le}
use borrow.Author.Tests.{ltb-true, ltb-false, eqb-true, eqb-false, lt-ltb, le-ltb, eq-eqb, ne_eqb}
use Rattle.prelude.specs.Scan.{first, count, nth}
use Rattle.prelude.specs.Bits.{bit, mask}
use Rattle.prelude.proofs.Tests.{by-test, clash, fails, and_l, and_r, and_i, or_l, or_r, or_cases, not_t, not-i, same_test}
use Rattle.prelude.proofs.Scan.{listed-once, first-hit, first-at, all-at, all_of, count_same, count_past, count-mono, nth-is, nth-some}
use Rattle.prelude.proofs.Scan.{nth-none}
use Rattle.prelude.proofs.Tab.{length-tab, get_d_tab}
use Rattle.prelude.proofs.Bits.{bit_mask, mask_lt, bit_high}
use Rattle.model.specs.Sizes.{Sizes, vacant, sizes_ok, InLimits}
use Rattle.model.specs.Directory.{Directory, slot_at, frame_at, valid_at, recency_at, uses_at}
use Rattle.model.specs.Soundness.{sound, Sound}
use Rattle.model.specs.Policy.{in_block, slot_of, in_slots, valid_count}
use Rattle.model.specs.Moves.{Chip, Memory, cell_at, flash_page, programmed, worn, worn_by, recency_after, oneMore, touched, joined}
use Rattle.model.specs.Moves.{filled, joined_pages, unmet}
use Rattle.model.specs.Moves.{spare, taken, given_slot, exchanged, exchanged_pages, vacated, merged, rewritten_pages, stepped}
use Rattle.model.specs.Moves.{stepped_pages}
use Rattle.model.proofs.Soundness.{limits_of, limits-test, sound-facts}
use Rattle.model.proofs.Lookup.{page-div, page-mod, page-split, page-vacant, offset_lt, found-slot, in_slots_lem, block_of, in_block_lem}
use Rattle.model.proofs.Lookup.{own-slot}
use Rattle.model.proofs.Reflects.{taker}
use Rattle.model.proofs.Kept.{enough}
use Rattle.model.proofs.Plan.{valid-ones}
use Rattle.model.specs.RulesWords.{InSlot, OfBlock, pages_in_slots, valid_pages, without}
use Rattle.model.specs.RulesMoves.{WearRule, NoWearRule, MostRecent, Used, Filled, UsedRule, FilledRule, Joined, JoinedRule}
use Rattle.model.specs.RulesMoves.{JoinedPages}
use Rattle.model.specs.RulesMoves.{JoinedPagesRule, Freed, Other, Exchanged, ExchangedRule, ExchangedPages, ExchangedPagesRule}
use Rattle.model.specs.RulesMoves.{Rewritten}
use Rattle.model.specs.RulesMoves.{RewrittenRule, MergesRule, SteppedRule, SteppedPagesRule}
use Rattle.model.proofs.RulesWords.{of_block, block-range, counted}

-- ---- wear

pub wear-rule : WearRule
unfolding worn_by worn
wear-rule w b l v = rw (lt-ltb b vacant v) (
  get_or-set_same w b _ 0 l
      ∙ (omega arith),
  (λ c ne. get_or-set_other w b c _ 0 ne),
  length-set w b _,
)

pub no-wear_rule : NoWearRule
unfolding worn_by
no-wear_rule w = refl

-- ---- the order of use

none_out : (f : ℕ) (l : List ℕ) → ((i : ℕ) → i < length l → get_or l i 0 ≡ f → ⊥) → without f l ≡ l
none_out f [] h = refl
none_out f (x ∷ l) h = let ih = none_out f l (λ i il e. h (suc i) (omega arith) e) in
    rw (ne_eqb x f (λ e. h 0 (omega arith) e), without) (ap (λ (q : List ℕ). x ∷ q) ih)

-- a list that has f at index a alone
once-out : (f : ℕ) (l : List ℕ) (a : ℕ) → a < length l → get_or l a 0 ≡ f → ((i : ℕ) → i < length l → get_or l i 0 ≡ f → i ≡ a)
    → (length l ≡ suc (length (without f l))) × ((i : ℕ) → get_or (without f l) i 0 ≡ cond (ltb i a) (get_or l i 0) (get_or l (suc i) 0))
once-out f [] a al e h = absurd (omega arith)
once-out f (x ∷ l) zero al e h = let q = none_out f l (λ i il k. let z = h (suc i) (omega arith) k in omega arith) in
    rw (eq-eqb x f e, without) (rw q (refl, λ i. rw (le-ltb i 0 (omega arith))))
once-out f (x ∷ l) (suc a) al e h = let ih = once-out f l a (omega arith) e (λ i il k. let z = h (suc i) (omega arith) k in omega arith) in
    rw (ne_eqb x f (λ k. let z = h 0 (omega arith) k in omega arith), without) (ap suc ih.0, by_index ih.1)
  where
    by_index : ((i : ℕ) → get_or (without f l) i 0 ≡ cond (ltb i a) (get_or l i 0) (get_or l (suc i) 0))
        → (i : ℕ) → get_or (x ∷ without f l) i 0 ≡ cond (ltb i (suc a)) (get_or (x ∷ l) i 0) (get_or l i 0)
    by_index g zero = rw (lt-ltb 0 (suc a) (omega arith))
    by_index g (suc i) = g i ∙ by-test (ltb i a)
        (λ t. let k = ltb-true i a t in rw (t, lt-ltb (suc i) (suc a) (omega arith)))
        (λ t. let k = ltb-false i a t in rw (t, le-ltb (suc i) (suc a) (omega arith)))

module _ (sz : Sizes) (d : Directory) (B_low : 1 ≤ sz.B) (B_high : sz.B ≤ 8) (long : length d.recency ≡ 8)
    (has : (f : ℕ) → f < sz.B → (i : ℕ) × (i < sz.B) × (recency_at d i ≡ f)) (f : ℕ) (f_lt : f < sz.B)
    (e : Directory) (e-is : e.recency ≡ recency_after sz d f) where
  at : ℕ
  at = first sz.B (λ i. eqb (recency_at d i) f)

  at_lt : at < sz.B
  unfolding at
  at_lt = let h = has f f_lt in let k = first-at sz.B (λ i. eqb (recency_at d i) f) h.0 h.1 (eq-eqb _ f h.2) in
      let l = h.1 in omega arith

  at-is : recency_at d at ≡ f
  unfolding at
  at-is = eqb-true _ f (first-hit sz.B (λ i. eqb (recency_at d i) f) at_lt)

  order-at : (i : ℕ) → i < 8
      → recency_at e i ≡ cond (ltb i at) (recency_at d i)
      (cond (ltb (suc i) sz.B) (recency_at d (suc i)) (cond (ltb i sz.B) f (recency_at d i)))
  unfolding recency_after at
  order-at i l = ap (λ (q : List ℕ). get_or q i 0) e-is ∙ get_d_tab 8 _ 0 i l

  order-long : length e.recency ≡ 8
  unfolding recency_after
  order-long = ap length e-is ∙ length-tab 8 _

  abbrev B_first : List ℕ
  B_first = take sz.B d.recency

  B_long : length B_first ≡ sz.B
  B_long = length-take-le sz.B d.recency (omega arith)

  out : (length B_first ≡ suc (length (without f B_first)))
      × ((i : ℕ) → get_or (without f B_first) i 0 ≡ cond (ltb i at) (get_or B_first i 0) (get_or B_first (suc i) 0))
  out = let al = at_lt in let bl = B_long in once-out f B_first at (omega arith) (get_or-take sz.B d.recency at 0 al ∙ at-is)
      (λ i il q. let il2 : i < sz.B = omega arith in listed-once sz.B (recency_at d) has i at il2 al
      (sym (get_or-take sz.B d.recency i 0 il2) ∙ q ∙ sym at-is))

  front_at : (i : ℕ) → i < sz.B → recency_at e i ≡ get_or (without f B_first ++ (f ∷ [])) i 0
  front_at i il = let al = at_lt in let bl = B_long in let o = out.0 in by-test (ltb (suc i) sz.B)
      (λ t. let k = ltb-true (suc i) sz.B t in order-at i (omega arith)
      ∙ rw t (sym (get_or-append (without f B_first) (f ∷ []) 0 i (omega arith) ∙ out.1 i
      ∙ rw (get_or-take sz.B d.recency i 0 il, get_or-take sz.B d.recency (suc i) 0 k))))
      (λ t. let k = ltb-false (suc i) sz.B t in let last : i ≡ length (without f B_first) = omega arith in
      order-at i (omega arith) ∙ rw (le-ltb i at (omega arith), t, lt-ltb i sz.B il)
      (sym (ap (λ (j : ℕ). get_or (without f B_first ++ (f ∷ [])) j 0) last ∙ get_or-append_seam (without f B_first) f [] 0)))

  past-at : (i : ℕ) → sz.B + i < 8 → recency_at e (sz.B + i) ≡ recency_at d (sz.B + i)
  past-at i l = let al = at_lt in order-at (sz.B + i) l
      ∙ rw (le-ltb (sz.B + i) at (omega arith), le-ltb (suc (sz.B + i)) sz.B (omega arith), le-ltb (sz.B + i) sz.B (omega arith))

  pub most-recent : MostRecent sz d e f
  most-recent = let h = order-long in let bl = B_long in let o = out.0 in
      let tl = length-take-le sz.B e.recency (omega arith) in
      let al = length-append (without f B_first) (f ∷ []) in
      let dl = length-drop sz.B e.recency in let rl = length-drop sz.B d.recency in record {
        front = ext_get_or 0 _ _ (omega arith) (λ i il. let il2 : i < sz.B = omega arith in
            get_or-take sz.B e.recency i 0 il2 ∙ front_at i il2);
        past = ext_get_or 0 _ _ (omega arith) (λ i il. get_or-drop sz.B e.recency i 0 ∙ past-at i (omega arith)
            ∙ sym (get_or-drop sz.B d.recency i 0));
      }

-- what a use, and a filling, do to an order that is a sound record's, and to its uses
module _ (sz : Sizes) (d : Directory) (B_low : 1 ≤ sz.B) (B_high : sz.B ≤ 8) (long : length d.recency ≡ 8)
    (has : (f : ℕ) → f < sz.B → (i : ℕ) × (i < sz.B) × (recency_at d i ≡ f)) (many : length d.uses ≡ 8) (f : ℕ) (f_lt : f < sz.B) where
  pub is-used : Used sz d (touched sz false d f) f
  unfolding touched oneMore
  is-used = let at = get_or-set_same d.uses f (oneMore (uses_at d f)) 0 (omega arith) in record {
    recent = λ h. most-recent sz d B_low B_high long has f f_lt (touched sz false d f) (rw (ne_eqb sz.policy 1 h) refl);
    fifo = λ h. rw (eq-eqb sz.policy 1 h) refl;
    more = λ h. at ∙ rw (lt-ltb (uses_at d f) 4294967295 h) (omega arith);
    held = λ h. at ∙ rw (le-ltb (uses_at d f) 4294967295 h) refl;
    others = λ g ne. get_or-set_other d.uses f g (oneMore (uses_at d f)) 0 ne;
  }

  pub is-filled : Filled sz d (touched sz true d f) f
  unfolding touched
  is-filled = record { recent = most-recent sz d B_low B_high long has f f_lt (touched sz true d f) refl; uses-stay = refl }

pub used-rule : UsedRule
unfolding touched
used-rule sz d ok f l = let s = sound-facts sz d ok in (
  is-used sz d s.limits.B_low s.limits.B_high s.shape.recency-length s.listed.recency-has s.shape.uses-length f l,
  record { slots-stay = refl; frames-stay = (refl, refl) },
)

pub filled-rule : FilledRule
unfolding touched
filled-rule sz d ok f l = let s = sound-facts sz d ok in (
  is-filled sz d s.limits.B_low s.limits.B_high s.shape.recency-length s.listed.recency-has s.shape.uses-length f l,
  record { slots-stay = refl; frames-stay = (refl, refl) },
)

-- ---- pages of block b in slots join frame f, which is b's or vacant

module _ (sz : Sizes) (d : Directory) (ok : sound sz d ≡ true) (b f : ℕ) (b_lt : b < sz.N) (f_lt : f < sz.B) where
  abbrev s : Sound sz d
  s = sound-facts sz d ok

  not-block : (i : ℕ) → (OfBlock sz d b i → ⊥) → in_block sz d b i ≡ false
  not-block i h = fails (in_block sz d b i) (λ t. h (block-range sz d ok b i t))

  in_slot : (n : ℕ) → InSlot sz d n → in_slots sz d n ≡ true
  in_slot n h = in_slots_lem sz d n h.0 h.1 h.2

  not-slot : (n : ℕ) → (InSlot sz d n → ⊥) → in_slots sz d n ≡ false
  not-slot n h = fails (in_slots sz d n) (λ t. let k = found-slot sz d n t in h (slot_of sz d n, k.0, k.1))

  the_slot : (i o : ℕ) → i < sz.P → o < sz.K → slot_at d i ≡ b * sz.K + o → slot_of sz d (b * sz.K + o) ≡ i
  the_slot i o il ol e = let v = page-vacant sz s.limits b o b_lt ol in ap (slot_of sz d) (sym e) ∙ own-slot sz d s i il (omega arith)

  valid-long : f < length d.valid
  valid-long = let h = s.limits.B_high in let k = s.shape.valid-length in omega arith

  frames-long : f < length d.frames
  frames-long = let h = s.limits.B_high in let k = s.shape.frames-length in omega arith

  uses-long : f < length d.uses
  uses-long = let h = s.limits.B_high in let k = s.shape.uses-length in omega arith

  below-8 : f < 8
  below-8 = let h = s.limits.B_high in omega arith

  join-leaves : Joined sz d (joined sz d b f) b f
  unfolding joined
  join-leaves =
      let p : ℕ → Bool = λ o. bit (valid_at d f) o || in_slots sz d (b * sz.K + o) in
      let at : valid_at (joined sz d b f) f ≡ mask sz.K p = get_or-set_same d.valid f (mask sz.K p) 0 valid-long in
      let used = get_or-set_same d.uses f (cond (ltb 0 (uses_at d f)) (uses_at d f) 1) 0 uses-long in
      record {
        left = λ i l h. get_d_tab 128 _ 0 i l ∙ rw (of_block sz d ok b i b_lt h);
        stays = λ i l h. get_d_tab 128 _ 0 i l ∙ rw (not-block i h);
        frame_is = get_or-set_same d.frames f b 0 frames-long;
        valid-is = λ o l. let q : bit (valid_at (joined sz d b f) f) o ≡ p o = ap (λ (x : ℕ). bit x o) at ∙ bit_mask sz.K p o l in (
          (λ h. elim (or_cases (bit (valid_at d f) o) (in_slots sz d (b * sz.K + o)) (sym q
              ∙ h)) [ inl e ↦ inl e | inr e ↦ (let k = found-slot sz d _ e in inr (slot_of sz d (b * sz.K + o), k.0, k.1)) ]),
          (λ h. q ∙ elim h [ inl e ↦ or_l _ e | inr e ↦ or_r (bit (valid_at d f) o) (in_slot _ e) ]),
        );
        valid-above = λ o l. ap (λ (x : ℕ). bit x o) at ∙ bit_high sz.K (mask sz.K p) o (mask_lt sz.K p) l;
        frames-stay = λ g ne. (get_or-set_other d.frames f g b 0 ne, get_or-set_other d.valid f g _ 0 ne);
        order-stays = refl;
        first-use = λ h. used ∙ rw (le-ltb 0 (uses_at d f) (let z = s.counted.none f below-8 h in omega arith));
        uses-stay = λ h. used ∙ rw (lt-ltb 0 (uses_at d f) (s.counted.some f below-8 h));
        others-stay = λ g ne. get_or-set_other d.uses f g _ 0 ne;
      }

  module _ {C A : Type 0} (filler : A) (m : Memory C A) where
    filled_at : (g o : ℕ) → g < sz.B → o < sz.K → get_or (filled filler sz d m b f) (g * sz.K + o) filler
        ≡ cond (eqb g f && in_slots sz d (b * sz.K + o)) (get_or m.pspace (slot_of sz d (b * sz.K + o)) filler)
        (get_or m.bspace (g * sz.K + o) filler)
    unfolding filled
    filled_at g o gl ol = get_d_tab (sz.B * sz.K) _ filler (g * sz.K + o) (digits_lt gl ol)
        ∙ rw (page-div sz s.limits g o ol, page-mod sz s.limits g o ol)

    filled-copied : (i o : ℕ) → i < sz.P → o < sz.K → slot_at d i ≡ b * sz.K + o
        → get_or (filled filler sz d m b f) (f * sz.K + o) filler ≡ get_or m.pspace i filler
    filled-copied i o il ol e = filled_at f o f_lt ol ∙ rw (eq-eqb f f refl, in_slot _ (i, il, e), the_slot i o il ol e)

    filled-kept : (o : ℕ) → o < sz.K → (InSlot sz d (b * sz.K + o) → ⊥)
        → get_or (filled filler sz d m b f) (f * sz.K + o) filler ≡ get_or m.bspace (f * sz.K + o) filler
    filled-kept o ol h = filled_at f o f_lt ol ∙ rw (eq-eqb f f refl, not-slot _ h)

    filled-others : (g o : ℕ) → g < sz.B → o < sz.K → (g ≡ f → ⊥)
        → get_or (filled filler sz d m b f) (g * sz.K + o) filler ≡ get_or m.bspace (g * sz.K + o) filler
    filled-others g o gl ol ne = filled_at g o gl ol ∙ rw (ne_eqb g f ne)

    filled-long : length (filled filler sz d m b f) ≡ sz.B * sz.K
    unfolding filled
    filled-long = length-tab _ _

    join-moves : JoinedPages filler sz d m (joined_pages filler sz d m b f) b f
    unfolding joined_pages
    join-moves = record {
      copied = filled-copied;
      kept = filled-kept;
      others = filled-others;
      bspace-long = filled-long;
      flash-stays = refl;
      pspace-stays = refl;
    }

pub joined-rule : JoinedRule
joined-rule sz d ok b f bl fl = join-leaves sz d ok b f bl fl

pub joined_pages-rule : JoinedPagesRule
joined_pages-rule sz d ok b f bl fl C A filler m = join-moves sz d ok b f bl fl filler m

-- ---- way 6: block b's pages in slots exchange with the pages of frame f

module _ (sz : Sizes) (d : Directory) (ok : sound sz d ≡ true) (b f : ℕ) (b_lt : b < sz.N) (f_lt : f < sz.B) (a_lt : frame_at d f < sz.N)
    (fewer : valid_pages d f < pages_in_slots sz d b) where
  abbrev s6 : Sound sz d
  s6 = sound-facts sz d ok

  abbrev e6 : Directory
  e6 = exchanged sz d b f

  page-block : (i o : ℕ) → o < sz.K → slot_at d i ≡ b * sz.K + o → in_block sz d b i ≡ true
  page-block i o ol e = in_block_lem sz d b i (let v = page-vacant sz s6.limits b o b_lt ol in
      omega arith) (ap (λ (x : ℕ). x / sz.K) e ∙ page-div sz s6.limits b o ol)

  page-offset : (i o : ℕ) → o < sz.K → slot_at d i ≡ b * sz.K + o → slot_at d i % sz.K ≡ o
  page-offset i o ol e = ap (λ (x : ℕ). x % sz.K) e ∙ page-mod sz s6.limits b o ol

  freed_spare : (i : ℕ) → Freed sz d b f i → spare sz d b f i ≡ true
  unfolding spare
  freed_spare i (il, (o, ol, e, h)) = and_i (page-block i o ol e) (not-i (ap (bit (valid_at d f)) (page-offset i o ol e) ∙ h))

  spare-freed : (i : ℕ) → i < sz.P → spare sz d b f i ≡ true → Freed sz d b f i
  unfolding spare
  spare-freed i il h = let k = block_of sz d b i (and_l (in_block sz d b i) _ h) in (
    il,
    (
      slot_at d i % sz.K,
      offset_lt sz s6.limits (slot_at d i),
      sym (page-split sz s6.limits (slot_at d i) b k.1),
      not_t
          (and_r (in_block sz d b i) _ h),
    ),
  )

  room : count sz.K (unmet sz d b f) < count sz.P (spare sz d b f)
  room = let v = valid-ones sz d s6 f f_lt in let c = counted sz d ok b b_lt in
      enough sz s6.limits d s6.shape s6.entries b f f_lt b_lt (omega arith)

  slot-at : (i : ℕ) → i < 128 → slot_at e6 i ≡ cond (in_block sz d b i) (given_slot sz d b f i) (slot_at d i)
  unfolding exchanged
  slot-at i l = get_d_tab 128 _ 0 i l

  taken-freed : (i : ℕ) → spare sz d b f i ≡ true → taken sz d b f i ≡ nth sz.K (unmet sz d b f) (count i (spare sz d b f))
  unfolding taken
  taken-freed i h = rw h

  -- what a victim's slot holds then
  given : (i : ℕ) → i < sz.P → in_block sz d b i ≡ true
      → ((sz.K ≤ taken sz d b f i) × (slot_at e6 i ≡ vacant))
      ⊎ ((taken sz d b f i < sz.K) × (slot_at e6 i ≡ frame_at d f * sz.K + taken sz d b f i))
  unfolding given_slot
  given i l h = let p = s6.limits.P_high in by-test (ltb (taken sz d b f i) sz.K)
      (λ t. inr (ltb-true _ sz.K t, slot-at i (omega arith) ∙ rw (h, t)))
      (λ t. inl (ltb-false _ sz.K t, slot-at i (omega arith) ∙ rw (h, t)))

  -- a slot that holds an old page's number takes that page
  given-offset : (i o : ℕ) → i < sz.P → o < sz.K → in_block sz d b i ≡ true → slot_at e6 i ≡ frame_at d f * sz.K + o → taken sz d b f i ≡ o
  given-offset i o il ol h e = elim (given i il h) [
    | inl k ↦ absurd (let k1 = k.1 in let v = page-vacant sz s6.limits (frame_at d f) o a_lt ol in omega arith)
    | inr k ↦ sym (page-mod sz s6.limits (frame_at d f) (taken sz d b f i) k.0) ∙ ap (λ (x : ℕ). x % sz.K) (sym k.1 ∙ e)
        ∙ page-mod sz s6.limits (frame_at d f) o ol
  ]

  given-vacant : (i : ℕ) → i < sz.P → in_block sz d b i ≡ true → slot_at e6 i ≡ vacant → sz.K ≤ taken sz d b f i
  given-vacant i il h e = elim (given i il h) [
    | inl k ↦ k.0
    | inr k ↦ absurd (let k0 = k.0 in let k1 = k.1 in let v = page-vacant sz s6.limits (frame_at d f) (taken sz d b f i) a_lt k.0 in
        omega arith)
  ]

  freed_block : (i : ℕ) → Freed sz d b f i → in_block sz d b i ≡ true
  freed_block i (il, (o, ol, e, h)) = page-block i o ol e

  unmet-other : (o : ℕ) → o < sz.K → unmet sz d b f o ≡ true → Other sz d b f o
  unfolding unmet
  unmet-other o ol h = (
    ol,
    and_l (bit (valid_at d f) o) _ h,
    λ k. clash (in_slots_lem sz d _ k.0 k.1 k.2)
        (not_t (and_r (bit (valid_at d f) o) _ h)),
  )

  -- slots and offsets have one rank
  rank : (i o : ℕ) → Freed sz d b f i → o < sz.K → slot_at e6 i ≡ frame_at d f * sz.K + o
      → (count o (unmet sz d b f) ≡ count i (spare sz d b f)) × (unmet sz d b f o ≡ true)
  rank i o h ol e = let t = taken-freed i (freed_spare i h) in let q = given-offset i o h.0 ol (freed_block i h) e in
      let n : nth sz.K (unmet sz d b f) (count i (spare sz d b f)) ≡ o = sym t ∙ q in
      let k = nth-is sz.K (unmet sz d b f) (count i (spare sz d b f)) (omega arith) in (rw n at k.1, rw n at k.0)

  taken-met : (i o : ℕ) → o < sz.K → slot_at d i ≡ b * sz.K + o → bit (valid_at d f) o ≡ true → taken sz d b f i ≡ o
  unfolding taken spare
  taken-met i o ol e h = let q = page-offset i o ol e in let ns : spare sz d b f i ≡ false = rw (page-block i o ol e, q, h) in rw ns q

  taken-other : (i : ℕ) → spare sz d b f i ≡ false → taken sz d b f i ≡ slot_at d i % sz.K
  unfolding taken
  taken-other i h = rw h

  goes_to : (o : ℕ) → Other sz d b f o → (i : ℕ) × Freed sz d b f i × (slot_at e6 i ≡ frame_at d f * sz.K + o)
  goes_to o (ol, h, nowhere) = let r = room in let t = taker sz s6.limits d s6.shape b f f_lt (omega arith) b_lt o ol h in
      let i = t.0 in let il = t.1 in let q = t.3 in
      let fr : Freed sz d b f i = by-test (spare sz d b f i) (λ y. spare-freed i il y) (λ y. absurd (nowhere (
        i,
        il,
        sym (page-split sz s6.limits (slot_at d i) b (block_of sz d b i t.2).1)
            ∙ ap (λ (x : ℕ). b * sz.K + x) (sym (taken-other i y) ∙ q),
      ))) in (
        i,
        fr,
        elim (given i il t.2) [
          | inl k ↦ absurd (let k0 = k.0 in omega arith)
          | inr k ↦ k.1
              ∙ ap (λ (x : ℕ). frame_at d f * sz.K + x) q
        ],
      )

  none_left : (i j : ℕ) → Freed sz d b f i → Freed sz d b f j → i < j → slot_at e6 i ≡ vacant → slot_at e6 j ≡ vacant
  none_left i j hi hj ij e = let v = given-vacant i hi.0 (freed_block i hi) e in let ti = taken-freed i (freed_spare i hi) in
      let tj = taken-freed j (freed_spare j hj) in
      let r = count i (spare sz d b f) in let C = count sz.K (unmet sz d b f) in
      let c : C ≤ r = by-test (ltb r C)
      (λ t. absurd (let n = nth-some sz.K (unmet sz d b f) r (ltb-true r C t) in omega arith)) (λ t. ltb-false r C t) in
      let m = count-mono i j (spare sz d b f) (omega arith) in
      let n = nth-none sz.K (unmet sz d b f) (count j (spare sz d b f)) (omega arith) in
      elim (given j hj.0 (freed_block j hj)) [ inl k ↦ k.1 | inr k ↦ absurd (let k0 = k.0 in omega arith) ]

  exchange-leaves : Exchanged sz d e6 b f
  unfolding exchanged
  exchange-leaves =
      let p : ℕ → Bool = λ o. in_slots sz d (b * sz.K + o) in
      let at : valid_at e6 f ≡ mask sz.K p = get_or-set_same d.valid f (mask sz.K p) 0 (valid-long sz d ok b f b_lt f_lt) in
      record {
        slots-go = record {
          stays = λ i l h. slot-at i l ∙ rw (not-block sz d ok b f b_lt f_lt i h);
          met = λ i o il ol e h. let q = taken-met i o ol e h in elim (given i il (page-block i o ol e)) [
            | inl k ↦ absurd (let k0 = k.0 in omega arith)
            | inr k ↦ k.1 ∙ ap (λ (x : ℕ). frame_at d f * sz.K + x) q
          ];
          takes = λ i h. elim (given i h.0 (freed_block i h)) [
            | inl k ↦ inl k.1
            | inr k ↦ inr (taken sz d b f i, unmet-other (taken sz d b f i) k.0 (rank i (taken sz d b f i) h k.0 k.1).1, k.1)
          ];
          all_go = goes_to;
          upward = λ i j o p hi hj ij ol pl ei ej. let a = rank i o hi ol ei in let c = rank j p hj pl ej in let a0 = a.0 in
              let c0 = c.0 in
              let m = count_past i j (spare sz d b f) ij (freed_spare i hi) in
              by-test (ltb o p) (λ t. ltb-true o p t) (λ t. absurd (let n = count-mono p o (unmet sz d b f) (ltb-false o p t) in
              omega arith));
          no_gap = none_left;
        };
        frame_is = get_or-set_same d.frames f b 0 (frames-long sz d ok b f b_lt f_lt);
        valid-is = λ o l. let q : bit (valid_at e6 f) o ≡ p o = ap (λ (x : ℕ). bit x o) at ∙ bit_mask sz.K p o l in (
          (λ h. let k = found-slot sz d _ (sym q ∙ h) in (slot_of sz d (b * sz.K + o), k.0, k.1)),
          (λ h. q ∙ in_slots_lem sz d _ h.0 h.1 h.2),
        );
        valid-above = λ o l. ap (λ (x : ℕ). bit x o) at ∙ bit_high sz.K (mask sz.K p) o (mask_lt sz.K p) l;
        frames-stay = λ g ne. (get_or-set_other d.frames f g b 0 ne, get_or-set_other d.valid f g _ 0 ne);
        order-stays = refl;
        first-use = get_or-set_same d.uses f 1 0 (uses-long sz d ok b f b_lt f_lt);
        others-stay = λ g ne. get_or-set_other d.uses f g 1 0 ne;
      }

  module _ {C A : Type 0} (filler : A) (m : Memory C A) where
    pspace-at : (i : ℕ) → i < sz.P → get_or (exchanged_pages filler sz d m b f).pspace i filler
        ≡ cond (in_block sz d b i && ltb (taken sz d b f i) sz.K) (get_or m.bspace (f * sz.K + taken sz d b f i) filler)
        (get_or m.pspace i filler)
    unfolding exchanged_pages
    pspace-at i l = get_d_tab sz.P _ filler i l

    left_alone : (i : ℕ) → i < sz.P → slot_at e6 i ≡ vacant → get_or (exchanged_pages filler sz d m b f).pspace i filler ≡ get_or
        m.pspace i filler
    left_alone i l e = by-test (in_block sz d b i)
        (λ t. pspace-at i l ∙ rw (t, le-ltb (taken sz d b f i) sz.K (given-vacant i l t e)))
        (λ t. pspace-at i l ∙ rw t)

    exchange-moves : ExchangedPages filler sz d e6 m (exchanged_pages filler sz d m b f) b f
    unfolding exchanged_pages
    exchange-moves = record {
      taken-over = λ i o il ol h e. let t = of_block sz d ok b i b_lt h in let q = given-offset i o il ol t e in
          pspace-at i il ∙ rw (t, q, lt-ltb o sz.K ol);
      vacant-kept = left_alone;
      pspace-kept = λ i il h. pspace-at i il ∙ rw (not-block sz d ok b f b_lt f_lt i h);
      copied = filled-copied sz d ok b f b_lt f_lt filler m;
      kept = filled-kept sz d ok b f b_lt f_lt filler m;
      others = filled-others sz d ok b f b_lt f_lt filler m;
      pspace-long = length-tab _ _;
      bspace-long = filled-long sz d ok b f b_lt f_lt filler m;
      flash-stays = refl;
    }

pub exchanged-rule : ExchangedRule
exchanged-rule sz d ok b f bl fl al fewer = exchange-leaves sz d ok b f bl fl al fewer

pub exchanged_pages-rule : ExchangedPagesRule
exchanged_pages-rule sz d ok b f bl fl al fewer C A filler m = exchange-moves sz d ok b f bl fl al fewer filler m

-- ---- a rewrite of frame f of block b

module _ (sz : Sizes) (limits : sizes_ok sz ≡ true) (d : Directory) (b f : ℕ) (b_lt : b < sz.N) (f_lt : f < sz.B)
    {C A : Type 0} (chip : Chip C A) (filler : A) (m : Memory C A) where
  abbrev l7 : InLimits sz
  l7 = limits_of sz limits

  abbrev then : Memory C A
  then = rewritten_pages chip filler sz d m b f

  flash-cell : (c o : ℕ) → c < sz.N → o < sz.K → cell_at chip filler then.flash (c * sz.K + o)
      ≡ cond (eqb c b) (chip.cell (merged chip filler sz d m b f o)) (cell_at chip filler m.flash (c * sz.K + o))
  unfolding rewritten_pages programmed cell_at
  flash-cell c o cl ol = get_d_tab (sz.N * sz.K) _ (chip.cell filler) (c * sz.K + o) (digits_lt cl ol)
      ∙ rw (page-div sz l7 c o ol, page-mod sz l7 c o ol)

  frame-page : (g o : ℕ) → g < sz.B → o < sz.K → get_or then.bspace (g * sz.K + o) filler
      ≡ cond (eqb g f) (merged chip filler sz d m b f o) (get_or m.bspace (g * sz.K + o) filler)
  unfolding rewritten_pages
  frame-page g o gl ol = get_d_tab (sz.B * sz.K) _ filler (g * sz.K + o) (digits_lt gl ol)
      ∙ rw (page-div sz l7 g o ol, page-mod sz l7 g o ol)

  rewrite_leaves : Rewritten chip filler sz d m then b f
  unfolding rewritten_pages programmed merged
  rewrite_leaves = record {
    merge_read = λ o l h. frame-page f o f_lt l ∙ rw (eq-eqb f f refl, h);
    valid-kept = λ o l h. frame-page f o f_lt l ∙ rw (eq-eqb f f refl, h);
    programmed-all = λ o l. flash-cell b o b_lt l
        ∙ rw (eq-eqb b b refl) (ap chip.cell (sym (frame-page f o f_lt l ∙ rw (eq-eqb f f refl))));
    bspace-others = λ g o gl ol ne. frame-page g o gl ol ∙ rw (ne_eqb g f ne);
    flash-others = λ c o cl ol ne. flash-cell c o cl ol ∙ rw (ne_eqb c b ne);
    pspace-stays = refl;
    flash-long = length-tab _ _;
    bspace-long = length-tab _ _;
  }

pub rewritten-rule : RewrittenRule
rewritten-rule sz limits d b f bl fl C A chip filler m = rewrite_leaves sz limits d b f bl fl chip filler m

-- those that do not pass are the rest
count-rest : (n : ℕ) (p : ℕ → Bool) → n - count n p ≡ count n (λ i. not (p i))
unfolding count
count-rest n p = let h = both n in omega arith
  where
    both : (k : ℕ) → count k p + count k (λ i. not (p i)) ≡ k
    both zero = refl
    both (suc k) = let h = both k in by-test (p k) (λ t. rw t (omega arith)) (λ t. rw t (omega arith))

pub merges-rule : MergesRule
unfolding valid_count
merges-rule sz d ok b f bl fl = let j = joined-rule sz d ok b f bl fl in
    count-rest sz.K (bit (valid_at (joined sz d b f) f)) ∙ count_same sz.K _ _ (λ o l. same_test
    (λ h. and_i
    (not-i (fails (bit (valid_at d f) o) (λ t. clash ((j.valid-is o l).1 (inl t)) (not_t h))))
    (all_of sz.P _ (λ i il. not-i (ne_eqb (slot_at d i) _ (λ e. clash ((j.valid-is o l).1 (inr (i, il, e))) (not_t h))))))
    (λ h. not-i (fails (bit (valid_at (joined sz d b f) f) o) (λ t. elim ((j.valid-is o l).0 t) [
      | inl e ↦ clash e (not_t (and_l (not (bit (valid_at d f) o)) _ h))
      | inr e ↦ eqb-false _ _ (not_t (all-at sz.P (λ i. not (eqb (slot_at d i) (b * sz.K + o))) (and_r (not (bit (valid_at d f) o)) _ h)
          e.0 e.1)) e.2
    ]))))

-- ---- a flush step for block b through frame f

pub stepped-rule : SteppedRule
unfolding stepped vacated joined
stepped-rule sz d ok b f b_lt f_lt = let j = joined-rule sz d ok b f b_lt f_lt in record {
  left = j.left;
  stays = j.stays;
  vacated-frame = (
    get_or-set_same (joined sz d b f).frames f vacant 0 (simp length-set (frames-long sz d ok b f b_lt f_lt)),
    get_or-set_same (joined sz d b f).valid f 0 0 (simp length-set (valid-long sz d ok b f b_lt f_lt)),
  );
  frames-stay = λ g ne. let k = j.frames-stay g ne in
      (get_or-set_other (joined sz d b f).frames f g vacant 0 ne ∙ k.0, get_or-set_other (joined sz d b f).valid f g 0 0 ne ∙ k.1);
  order-stays = refl;
  no-use = get_or-set_same (joined sz d b f).uses f 0 0 (simp length-set (uses-long sz d ok b f b_lt f_lt));
  others-stay = λ g ne. get_or-set_other (joined sz d b f).uses f g 0 0 ne ∙ j.others-stay g ne;
}

-- the pages join, and then the frame is rewritten
pub stepped_pages-rule : SteppedPagesRule
unfolding stepped_pages flash_page
stepped_pages-rule sz d ok b f b_lt f_lt C A chip filler m =
    let j = joined-rule sz d ok b f b_lt f_lt in let p = joined_pages-rule sz d ok b f b_lt f_lt C A filler m in
    let limits = limits-test sz (sound-facts sz d ok).limits in
    let r = rewritten-rule sz limits (joined sz d b f) b f b_lt f_lt C A chip filler (joined_pages filler sz d m b f) in
    record {
      from-slot = λ i o il ol e. r.programmed-all o ol
          ∙ ap chip.cell (r.valid-kept o ol ((j.valid-is o ol).1 (inr (i, il, e))) ∙ p.copied i o il ol e);
      from-frame = λ o ol ni h. r.programmed-all o ol
          ∙ ap chip.cell (r.valid-kept o ol ((j.valid-is o ol).1 (inl h)) ∙ p.kept o ol ni);
      from-flash = λ o ol ni h. r.programmed-all o ol ∙ ap chip.cell
          (r.merge_read o ol (fails _ (λ t. elim ((j.valid-is o ol).0 t) [ inl e ↦ clash e h | inr e ↦ ni e ]))
          ∙ ap (λ l. chip.page (cell_at chip filler l (b * sz.K + o))) p.flash-stays);
      in_frame = r.programmed-all;
      bspace-others = λ g o gl ol ne. r.bspace-others g o gl ol ne ∙ p.others g o gl ol ne;
      flash-others = λ c o cl ol ne. r.flash-others c o cl ol ne ∙ ap (λ l. cell_at chip filler l (c * sz.K + o)) p.flash-stays;
      pspace-stays = r.pspace-stays ∙ p.pspace-stays;
      flash-long = r.flash-long;
      bspace-long = r.bspace-long;
    }
