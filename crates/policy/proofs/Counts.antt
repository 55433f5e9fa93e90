-- The victim by a table of counts: what holds of the table and of the highest rank after the first i slots, and the victim by its rank.
use mathlib.Core.Path.{◌≡◌, refl, sym, ◌∙◌}
use mathlib.Core.List.{List}
use Prim.Native.Nat.{ℕ, ◌+◌, ◌-◌, ◌*◌, ◌/◌, ◌≤◌, ◌<◌, max}
use native.Mathlib.Omega.{arith}
use lib.Dec.{eqb, ltb}
use lib.ListN.{length, get_or, set, replicate, length-set, length-replicate, get_or-replicate}
use lib.Seq.{get_or-set_same, get_or-set_other}
use borrow.Author.Tests.{eqb-true, eqb-false, ltb-true, ltb-false}
use Rattle.prelude.specs.Scan.{count}
use Rattle.prelude.proofs.Tests.{by-test}
use Rattle.prelude.proofs.Scan.{count-hit, count-miss, count_none, count-le, argmax-lt, argmax-ge, leads-is}
use Rattle.model.specs.Sizes.{Sizes, vacant, InLimits}
use Rattle.model.specs.Directory.{Directory, slot_at}
use Rattle.model.specs.Soundness.{Sound}
use Rattle.model.specs.Policy.{in_block, slot_count, victim}
use Rattle.model.proofs.Lookup.{in_block_lem, not-in_block, some-pages}
use Rattle.model.proofs.Plan.{slot-block}
use Rattle.cache.specs.View.{block_no}
use Rattle.policy.specs.Views.{victim_of, rank_of, Cleared}

-- the pages of block b in the first i slots
abbrev pub pages-to : Sizes → Directory → ℕ → ℕ → ℕ
pages-to sz d i b = count i (in_block sz d b)

-- table l has them for each block, and the highest rank is that of block `leader`: a rank is a count times 4,096 less the block
pub record Counted (sz : Sizes) (d : Directory) (i : ℕ) (l : List ℕ) (lead : ℕ) : Type 0 where
  pub long : sz.N ≤ length l
  pub each : (b : ℕ) → b < sz.N → get_or l b 0 ≡ pages-to sz d i b
  pub leader : ℕ
  pub low : leader < sz.N
  pub leads : pages-to sz d i leader * 4096 ≡ lead + leader
  pub top : (b : ℕ) → b < sz.N → pages-to sz d i b * 4096 ≤ lead + b

-- a block has no more pages than there are slots, so a rank is small
pub few : (sz : Sizes) (d : Directory) (i : ℕ) (l : List ℕ) (lead b : ℕ) → Counted sz d i l lead → i ≤ 128 → b < sz.N → get_or l b 0 ≤ 128
few sz d i l lead b h k bl = let e = h.each b bl in let m = count-le i (in_block sz d b) in omega arith

pub cleared_zeros : (sz : Sizes) (n : ℕ) → sz.N ≤ n → Cleared sz (replicate n 0)
cleared_zeros sz n h = record { long = rw (length-replicate {A = ℕ} n 0) h; zeros = λ b l. get_or-replicate {A = ℕ} n b 0 0 (omega arith) }

module _ (sz : Sizes) (d : Directory) where
  pub counted_none : InLimits sz → (l : List ℕ) → Cleared sz l → Counted sz d 0 l 0
  unfolding count
  counted_none limits l h = record {
    long = h.long;
    each = h.zeros;
    leader = 0;
    low = limits.N_low;
    leads = refl;
    top = λ b k. omega arith;
  }

  module _ (i : ℕ) (l : List ℕ) (lead : ℕ) (h : Counted sz d i l lead) where
    pub counted-vacant : slot_at d i ≡ vacant → Counted sz d (i + 1) l lead
    counted-vacant e = record {
      long = h.long;
      each = λ b bl. h.each b bl ∙ same b;
      leader = h.leader;
      low = h.low;
      leads = rw (← (same h.leader)) h.leads;
      top = λ b bl. rw (← (same b)) (h.top b bl);
    }
      where
        same : (b : ℕ) → pages-to sz d i b ≡ pages-to sz d (i + 1) b
        same b = count-miss i (in_block sz d b) (not-in_block sz d b i (λ k q. absurd (omega arith)))

    -- slot i holds a page of block b
    module _ (b v : ℕ) (page : slot_at d i < vacant) (own : slot_at d i / sz.K ≡ b) (bl : b < sz.N) (ve : v ≡ get_or l b 0 + 1) where
      grown : v ≡ pages-to sz d (i + 1) b
      grown = let a = h.each b bl in let c = count-hit i (in_block sz d b) (in_block_lem sz d b i page own) in omega arith

      other : (j : ℕ) → (j ≡ b → ⊥) → pages-to sz d i j ≡ pages-to sz d (i + 1) j
      other j ne = count-miss i (in_block sz d j) (not-in_block sz d j i (λ k q. ne (sym q ∙ own)))

      stored : (c : ℕ) → c < sz.N → get_or (set l b v) c 0 ≡ pages-to sz d (i + 1) c
      stored c cl = by-test (eqb c b)
          (λ t. rw (eqb-true c b t) (get_or-set_same l b v 0 (let k = h.long in omega arith) ∙ grown))
          (λ t. let ne = eqb-false c b t in get_or-set_other l b c v 0 ne ∙ h.each c cl ∙ other c ne)

      -- the ranks are as before, but for b's
      ranks : (t : ℕ) → lead ≤ t → v * 4096 ≤ t + b → (j : ℕ) → j < sz.N → pages-to sz d (i + 1) j * 4096 ≤ t + j
      ranks t o n j jl = by-test (eqb j b) (λ q. rw (eqb-true j b q, ← grown) n)
          (λ q. let a = h.top j jl in let e = other j (eqb-false j b q) in omega arith)

      -- block b takes the lead, or it stays
      counted-taken : lead < v * 4096 - b → Counted sz d (i + 1) (set l b v) (v * 4096 - b)
      counted-taken t = record {
        long = rw (length-set l b v) h.long;
        each = stored;
        leader = b;
        low = bl;
        leads = rw (← grown) (omega arith);
        top = ranks (v * 4096 - b) (omega arith) (omega arith);
      }

      counted-kept : v * 4096 - b ≤ lead → Counted sz d (i + 1) (set l b v) lead
      counted-kept t = record {
        long = rw (length-set l b v) h.long;
        each = stored;
        leader = h.leader;
        low = h.low;
        leads = rw (← (other h.leader ne)) h.leads;
        top = ranks lead (omega arith) (omega arith);
      }
        where
          ne : h.leader ≡ b → ⊥
          ne q = let e : pages-to sz d i b * 4096 ≡ lead + b = (rw q at h.leads) in let a = h.each b bl in omega arith

      pub counted_more : Counted sz d (i + 1) (set l b v) (max lead (v * 4096 - b))
      counted_more = by-test (ltb lead (v * 4096 - b))
          (λ t. let k = ltb-true lead (v * 4096 - b) t in let e : v * 4096 - b ≡ max lead (v * 4096 - b) = omega arith in
          rw (← e) (counted-taken k))
          (λ t. let k = ltb-false lead (v * 4096 - b) t in let e : lead ≡ max lead (v * 4096 - b) = omega arith in
          rw (← e) (counted-kept k))

module _ (sz : Sizes) (d : Directory) (limits : InLimits sz) where
  module _ (l : List ℕ) (lead : ℕ) (h : Counted sz d sz.P l lead) where
    leader-is : h.leader ≡ victim sz d
    unfolding victim slot_count
    leader-is = leads-is sz.N (pages-to sz d sz.P) h.leader (record {
      low = h.low;
      le = λ j jl. (let a = h.top j jl in let e = h.leads in let r = h.low in let n = limits.N_high in omega arith);
      lt = λ j jl. (let r = h.low in let a = h.top j (omega arith) in let e = h.leads in omega arith);
    })

    pub counted-all : lead ≡ rank_of (victim_of sz d)
    unfolding rank_of victim_of slot_count
    counted-all = let e : pages-to sz d sz.P (victim sz d) * 4096 ≡ lead + victim sz d = (rw leader-is at h.leads) in omega arith

  -- a rank is not cut off at 0: a victim that has no pages is block 0
  within : victim sz d ≤ slot_count sz d (victim sz d) * 4096
  unfolding victim
  within =
      let g = slot_count sz d in let low = argmax-lt sz.N g limits.N_low in let n = limits.N_high in by-test (ltb 0 (g (victim sz d)))
      (λ t. let p = ltb-true 0 (g (victim sz d)) t in omega arith)
      (λ t. let p = ltb-false 0 (g (victim sz d)) t in
      let e : 0 ≡ victim sz d = leads-is sz.N g 0 (record {
        low = limits.N_low;
        le = λ j jl. (let m = argmax-ge sz.N g j jl in omega arith);
        lt = λ j jl. absurd (omega arith);
      }) in omega arith)

  module _ (r : ℕ) (e : r ≡ rank_of (victim_of sz d)) where
    pub rank-low : r ≤ 524288
    unfolding rank_of victim_of slot_count
    rank-low = let m = count-le sz.P (in_block sz d (victim sz d)) in let p = limits.P_high in omega arith

    -- the victim's rank taken apart
    pub rank-apart : record { block = block_no ((r + 4095) / 4096 * 4096 - r); pages = (r + 4095) / 4096 } ≡ victim_of sz d
    unfolding rank_of victim_of victim
    rank-apart =
        let low = argmax-lt sz.N (slot_count sz d) limits.N_low in let n = limits.N_high in let w = within in
        let pages : (r + 4095) / 4096 ≡ slot_count sz d (victim sz d) = omega arith in
        let block : (r + 4095) / 4096 * 4096 - r ≡ victim sz d = omega arith in
        λ j. record { block = block_no (block j); pages = pages j }

-- "none" is 0 pages: exactly where no slot holds a page
module _ (sz : Sizes) (d : Directory) where
  pub no-victim : ((i : ℕ) → i < sz.P → slot_at d i ≡ vacant) → (victim_of sz d).pages ≡ 0
  unfolding victim_of slot_count
  no-victim h = count_none sz.P (in_block sz d (victim sz d)) (λ i l. not-in_block sz d (victim sz d) i
      (λ k q. let e = h i l in absurd (omega arith)))

  pub some-victim : Sound sz d → (i : ℕ) → i < sz.P → slot_at d i < vacant → 0 < (victim_of sz d).pages
  unfolding victim_of victim
  some-victim s i l h = let b : ℕ = slot_at d i / sz.K in
      let most = argmax-ge sz.N (slot_count sz d) b (slot-block sz d s i l h) in
      let some = some-pages sz d b i l (in_block_lem sz d b i h refl) in omega arith
