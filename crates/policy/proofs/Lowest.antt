-- The lowest block among those of the slots and the frames: of any in slots, and of a worn one.
use mathlib.Core.Path.{◌≡◌, refl, sym, ap, ◌∙◌}
use mathlib.Core.Bool.{Bool, true, false, cond, ◌&&◌, and-or_distrib_right}
use mathlib.Core.List.{List}
use Prim.Native.Nat.{ℕ, ◌+◌, ◌/◌, ◌≤◌, ◌<◌, min}
use native.Mathlib.Nat.{le-div_iff_mul-le, div-add-mod'}
use native.Mathlib.Omega.{arith}
use lib.Dec.{leb, ltb}
use lib.ListN.{get_or}
use borrow.Author.Tests.{ltb-true, ltb-false, lt-ltb, le-ltb}
use Rattle.prelude.specs.Scan.{first, least}
use Rattle.prelude.proofs.Tests.{by-test, clash, and_l, and_r, and_i}
use Rattle.prelude.proofs.Scan.{first-is, first-le, first-or, first-least, least-hit, least-miss, least-le, least-is, least-top}
use Rattle.model.specs.Sizes.{Sizes, vacant, InLimits}
use Rattle.model.specs.Directory.{Directory, slot_at, frame_at}
use Rattle.model.specs.Policy.{frame_of, slot_count, lowest_in_slots, cached, is_worn, lowest_worn}
use Rattle.model.proofs.Soundness.{K_pos}
use Rattle.model.proofs.Lookup.{block-vacant, block_of, in_block_lem, frame_is, no-frame, page-of, some-pages}
use Rattle.policy.specs.Views.{worn_in_slots, worn_in_frames, SlotsOf, FramesOf}
use Rattle.policy.proofs.Held.{held_lt}

-- a loop that keeps the least: it begins, and one more turn
pub least_none : (g : ℕ → ℕ) (d : ℕ) → least 0 g d ≡ d
unfolding least
least_none g d = refl

pub least_more : (i : ℕ) (g : ℕ → ℕ) (d : ℕ) → least (i + 1) g d ≡ min (least i g d) (g i)
least_more i g d = by-test (ltb (g i) (least i g d))
    (λ t. let l = ltb-true (g i) (least i g d) t in let h = least-hit i g d l in omega arith)
    (λ t. let l = ltb-false (g i) (least i g d) t in let h = least-miss i g d l in omega arith)

pub ruleset leasts = (least_none, least_more)

-- ---- the lowest block in slots is the block of the least page number

div_mono : (k a b : ℕ) → 0 < k → a ≤ b → a / k ≤ b / k
div_mono k a b p l = (le-div_iff_mul-le p).1 (let e = div-add-mod' a k in omega arith)

module _ (sz : Sizes) (d : Directory) (s : SlotsOf sz d.slots) where
  -- the least page number in slots
  abbrev least_page : ℕ
  least_page = least sz.P (slot_at d) vacant

  -- block b has a page in a slot
  in_slot : (b : ℕ) → 0 < slot_count sz d b → (least_page < vacant) × (least_page / sz.K ≤ b)
  in_slot b h = let p = page-of sz d b h in let q = block_of sz d b p.0 p.2 in
      let l = least-le sz.P (slot_at d) vacant p.0 p.1 in let q0 = q.0 in
      (omega arith, rw (← q.1) (div_mono sz.K least_page (slot_at d p.0) (K_pos sz s.sound.limits) (omega arith)))

  pub lowest_none : least sz.P (slot_at d) vacant ≡ vacant → lowest_in_slots sz d ≡ sz.N
  unfolding lowest_in_slots
  lowest_none h = sym (first-is sz.N (λ b. ltb 0 (slot_count sz d b)) sz.N (omega arith)
      (λ b l. by-test (ltb 0 (slot_count sz d b)) (λ t. absurd (let k = (in_slot b (ltb-true 0 (slot_count sz d b) t)).0 in omega arith))
      (λ t. t))
      (λ l. absurd (omega arith)))

  some_slot : (least_page ≡ vacant → ⊥) → (i : ℕ) × (i < sz.P) × (slot_at d i ≡ least_page) × (least_page < vacant)
  some_slot h =
      let top = least-top sz.P (slot_at d) vacant in let w = least-is sz.P (slot_at d) vacant (omega arith) in (w.0, w.1, w.2, omega arith)

  pub lowest_lt : (least sz.P (slot_at d) vacant ≡ vacant → ⊥) → least sz.P (slot_at d) vacant / sz.K < sz.N
  lowest_lt h = let w = some_slot h in let at = w.2 in let top = w.3 in rw (← at) (held_lt sz d w.0 s w.1 (omega arith))

  pub lowest_some : (least sz.P (slot_at d) vacant ≡ vacant → ⊥) → lowest_in_slots sz d ≡ least sz.P (slot_at d) vacant / sz.K
  unfolding lowest_in_slots
  lowest_some h =
      let w = some_slot h in let at = w.2 in let top = w.3 in let bl = lowest_lt h in
      sym (first-is sz.N (λ b. ltb 0 (slot_count sz d b)) (least_page / sz.K) (omega arith)
      (λ b l. by-test (ltb 0 (slot_count sz d b)) (λ t. absurd (let k = (in_slot b (ltb-true 0 (slot_count sz d b) t)).1 in omega arith))
      (λ t. t))
      (λ l. lt-ltb 0 _ (some-pages sz d (least_page / sz.K) w.0 w.1
      (in_block_lem sz d (least_page / sz.K) w.0 (omega arith) (ap (λ (x : ℕ). x / sz.K) at)))))

pub ruleset lowest = (lowest_none, lowest_some)

-- ---- the lowest worn block of entries: o says which entries are occupied, u their block

worn-is : (sz : Sizes) → InLimits sz → (w : List ℕ) (b : ℕ) → b < sz.N → is_worn sz w b ≡ leb sz.W (get_or w b 0)
unfolding is_worn
worn-is sz limits w b l = rw (lt-ltb b vacant (block-vacant sz limits b l))

module _ (sz : Sizes) (w : List ℕ) (o : ℕ → Bool) (u : ℕ → ℕ) where
  -- an entry's block where it is worn, else N
  abbrev pub worn-block : ℕ → ℕ
  worn-block i = cond (o i && is_worn sz w (u i)) (u i) sz.N

  -- a loop that keeps the lowest: entry i may take its place, or is not occupied
  module _ (i : ℕ) where
    low-top : least i worn-block sz.N ≤ sz.N
    low-top = least-top i worn-block sz.N

    worn-more : o i ≡ true → least (i + 1) worn-block sz.N
        ≡ cond (ltb (u i) (least i worn-block sz.N) && is_worn sz w (u i)) (u i) (least i worn-block sz.N)
    worn-more p = by-test (ltb (u i) (least i worn-block sz.N) && is_worn sz w (u i))
        (λ t. let x : worn-block i ≡ u i = rw (p, and_r (ltb (u i) (least i worn-block sz.N)) (is_worn sz w (u i)) t) in
        let l = ltb-true (u i) _ (and_l (ltb (u i) (least i worn-block sz.N)) (is_worn sz w (u i)) t) in
        rw t (sym (least-hit i worn-block sz.N (rw x l)) ∙ x))
        (λ t. rw t (sym (least-miss i worn-block sz.N (rw p (by-test (is_worn sz w (u i))
        (λ k. rw k (by-test (ltb (u i) (least i worn-block sz.N)) (λ l. clash (and_i l k) t) (λ l. ltb-false (u i) _ l)))
        (λ k. rw k low-top))))))

    worn-skip : o i ≡ false → least (i + 1) worn-block sz.N ≡ least i worn-block sz.N
    worn-skip p = sym (least-miss i worn-block sz.N (rw p low-top))

  -- the least of them is the lowest worn block of those that the occupied entries have
  worn-lowest : InLimits sz → (m : ℕ) (has : ℕ → Bool) → ((i : ℕ) → i < m → o i ≡ true → has (u i) ≡ true)
      → ((b : ℕ) → b < sz.N → has b ≡ true → (i : ℕ) × (i < m) × (o i ≡ true) × (u i ≡ b))
      → least m worn-block sz.N ≡ first sz.N (λ b. has b && leb sz.W (get_or w b 0))
  worn-lowest limits m has into from = first-least sz.N m (λ b. has b && leb sz.W (get_or w b 0)) worn-block
      (λ i l. by-test (o i && is_worn sz w (u i))
      (λ t. rw t (λ k. and_i (into i l (and_l (o i) (is_worn sz w (u i)) t))
      (sym (worn-is sz limits w (u i) k) ∙ and_r (o i) (is_worn sz w (u i)) t)))
      (λ t. rw t (λ k. absurd (omega arith))))
      (λ b l t. let x = from b l (and_l (has b) (leb sz.W (get_or w b 0)) t) in
      (x.0, x.1, rw (x.2, x.3, worn-is sz limits w b l, and_r (has b) (leb sz.W (get_or w b 0)) t)))

min_of : (a b c : ℕ) → cond (ltb b a) b a ≡ c → min a b ≡ c
min_of a b c = by-test (ltb b a)
    (λ t. let l = ltb-true b a t in rw t (λ e. omega arith))
    (λ t. let l = ltb-false b a t in rw t (λ e. omega arith))

-- the block of slot i where it holds a page and the block is worn, else N
unfoldable pub slot_worn : Sizes → Directory → List ℕ → ℕ → ℕ
slot_worn sz d w = worn-block sz w (λ i. ltb (slot_at d i) vacant) (λ i. slot_at d i / sz.K)

-- the block of frame f where that is occupied and the block is worn, else N
unfoldable pub frame_worn : Sizes → Directory → List ℕ → ℕ → ℕ
frame_worn sz d w = worn-block sz w (λ f. ltb (frame_at d f) vacant) (frame_at d)

module _ (sz : Sizes) (d : Directory) (w : List ℕ) (i : ℕ) where
  pub slot_more : slot_at d i < vacant → least (i + 1) (slot_worn sz d w) sz.N
      ≡ cond (ltb (slot_at d i / sz.K) (least i (slot_worn sz d w) sz.N) && is_worn sz w (slot_at d i / sz.K)) (slot_at d i / sz.K)
      (least i (slot_worn sz d w) sz.N)
  unfolding slot_worn
  slot_more h = worn-more sz w _ _ i (lt-ltb _ vacant h)

  pub slot_skip : vacant ≤ slot_at d i → least (i + 1) (slot_worn sz d w) sz.N ≡ least i (slot_worn sz d w) sz.N
  unfolding slot_worn
  slot_skip h = worn-skip sz w _ _ i (le-ltb _ vacant h)

  pub frame_more : frame_at d i < vacant → least (i + 1) (frame_worn sz d w) sz.N
      ≡ cond (ltb (frame_at d i) (least i (frame_worn sz d w) sz.N) && is_worn sz w (frame_at d i)) (frame_at d i)
      (least i (frame_worn sz d w) sz.N)
  unfolding frame_worn
  frame_more h = worn-more sz w _ _ i (lt-ltb _ vacant h)

  pub frame_skip : vacant ≤ frame_at d i → least (i + 1) (frame_worn sz d w) sz.N ≡ least i (frame_worn sz d w) sz.N
  unfolding frame_worn
  frame_skip h = worn-skip sz w _ _ i (le-ltb _ vacant h)

module _ (sz : Sizes) (d : Directory) (w : List ℕ) where
  pub slots_lowest : SlotsOf sz d.slots → worn_in_slots sz d w ≡ least sz.P (slot_worn sz d w) sz.N
  unfolding worn_in_slots slot_worn
  slots_lowest s = sym (worn-lowest sz w (λ i. ltb (slot_at d i) vacant) (λ i. slot_at d i / sz.K) s.sound.limits sz.P
      (λ b. ltb 0 (slot_count sz d b))
      (λ i l t. lt-ltb 0 _ (some-pages sz d (slot_at d i / sz.K) i l
      (in_block_lem sz d (slot_at d i / sz.K) i (ltb-true (slot_at d i) vacant t) refl)))
      (λ b l t. let p = page-of sz d b (ltb-true 0 (slot_count sz d b) t) in let q = block_of sz d b p.0 p.2 in
      (p.0, p.1, lt-ltb (slot_at d p.0) vacant q.0, q.1)))

  pub frames_lowest : FramesOf sz d.frames → worn_in_frames sz d w ≡ least sz.B (frame_worn sz d w) sz.N
  unfolding worn_in_frames frame_worn
  frames_lowest s = sym (worn-lowest sz w (λ f. ltb (frame_at d f) vacant) (frame_at d) s.sound.limits sz.B (λ b. ltb (frame_of sz d b) sz.B)
      (λ f l t. by-test (ltb (frame_of sz d (frame_at d f)) sz.B) (λ q. q)
      (λ q. absurd (no-frame sz d (frame_at d f) (ltb-false (frame_of sz d (frame_at d f)) sz.B q) f l refl)))
      (λ b l t. let p = ltb-true (frame_of sz d b) sz.B t in let e = frame_is sz d b p in
      (frame_of sz d b, p, lt-ltb (frame_at d (frame_of sz d b)) vacant (rw e (block-vacant sz s.sound.limits b l)), e)))

  -- the lowest worn block is the lower of the two
  pub lower : min (worn_in_slots sz d w) (worn_in_frames sz d w) ≡ lowest_worn sz d w
  unfolding worn_in_slots worn_in_frames lowest_worn cached
  lower = min_of _ _ _ (first-or sz.N _ _ _ (λ b. and-or_distrib_right (ltb 0 (slot_count sz d b)) (ltb (frame_of sz d b) sz.B)
      (leb sz.W (get_or w b 0))))

  pub lowest_le : lowest_worn sz d w ≤ sz.N
  unfolding lowest_worn
  lowest_le = first-le sz.N _
