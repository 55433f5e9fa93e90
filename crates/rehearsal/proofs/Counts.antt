-- The sums of a rehearsal's tallies: the proofs of specs/Sums.
use mathlib.Core.Path.{◌≡◌, refl, sym, ap, subst, ◌∙◌}
use mathlib.Core.Logic.{inl, inr}
use mathlib.Core.Bool.{true}
use mathlib.Core.List.{List}
use Prim.Native.Nat.{ℕ, zero, suc, ◌+◌, ◌≤◌, ◌<◌}
use native.Mathlib.Numerals.{add-one}
use native.Mathlib.Omega.{arith}
use lib.ListN.{length, get_or, set, replicate, length-set, length-replicate}
use lib.Seq.{get_or-set_same, get_or-set_other}
use borrow.Author.Tests.{lt-ltb}
use Rattle.model.specs.Sizes.{Sizes, vacant}
use Rattle.model.specs.Policy.{policy_choice}
use Rattle.model.specs.Calls.{Answer, open_done, read_done, write_done, step_done, step_clean, flush_done, refused}
use Rattle.model.specs.Shelf.{plainly, ShelfStore}
use Rattle.model.proofs.Plan.{policy_choice-picks}
use Rattle.wear.specs.Figures.{total, erased_once}
use Rattle.wear.specs.Wearing.{Wears, wear_of}
use Rattle.wear.proofs.Sums.{sum-le}
use Rattle.wear.proofs.Change.{erased-total}
use Rattle.wear.proofs.Wearing.{wear-rule}
use Rattle.perform.specs.Effects.{fresh}
use Rattle.turns.specs.declared.Call.{Call}
use Rattle.tally.specs.declared.Tallies.{Tallies}
use Rattle.tally.specs.Count.{counted, oneMore, erasures, Ranged}
use Rattle.rehearsal.specs.declared.Setting.{Setting}
use Rattle.rehearsal.specs.Class.{Scene, store_sizes, setting_ok, asked, served, turn_at, turned, rehearsed, blank_class, opened_store}
use Rattle.rehearsal.specs.Class.{begun, rehearsal_of}
use Rattle.rehearsal.specs.Sums.{AllCountedRule, ErasuresRule, WornRule}
use Rattle.rehearsal.proofs.Seats.{zeros, served-ranged, rehearsed-sizes}
use Rattle.rehearsal.proofs.Beginning.{K_few, N_few, opened-as}

-- ---- sums

-- one more at an entry is one more in all
more-total : (l : List ℕ) (i : ℕ) → i < length l → total (oneMore l i) ≡ total l + 1
unfolding erased_once
more-total l i h = ap (λ (x : ℕ). total (set l i x)) (add-one (get_or l i 0)) ∙ erased-total l i h

zero-total : (n : ℕ) → total (replicate n 0) ≡ 0
unfolding total
zero-total n = let l : List ℕ = replicate n 0 in
    let s = sum-le (length l) (λ i. get_or l i 0) 0 (λ i h. let z = zeros n i in omega arith) in omega arith

erased-long : (w : List ℕ) (b : ℕ) → length (erased_once w b) ≡ length w
unfolding erased_once
erased-long w b = length-set w b _

-- after n answers, with N blocks of wear w
record Sums (t : Tallies) (w : List ℕ) (N n : ℕ) : Type 0 where
  pub reads_long : length t.reads ≡ 4
  pub writes-long : length t.writes ≡ 8
  pub wear-long : length w ≡ N
  pub all-counted : total t.reads + total t.writes + t.refused ≡ n
  pub by-way_7 : t.erased ≡ get_or t.writes 7 0
  pub in_wear : total w ≡ t.erased

module _ (sz : Sizes) (N_high : sz.N ≤ 4096) (t : Tallies) (n : ℕ) where
  -- a read by one more way
  sums_read : (w w' : List ℕ) (way : ℕ) → Sums t w sz.N n → way < 4 → w' ≡ w → Sums (counted t (read_done way)) w' sz.N (suc n)
  sums_read w w' way s r e = rw e (record {
    reads_long = length-set t.reads way _ ∙ s.reads_long;
    writes-long = s.writes-long;
    wear-long = s.wear-long;
    all-counted = let l = s.reads_long in let m = more-total t.reads way (omega arith) in let a = s.all-counted in omega arith;
    by-way_7 = s.by-way_7;
    in_wear = s.in_wear;
  })

  -- a write by way 7, which erases block b
  sums_rewrote : (w w' : List ℕ) (b m : ℕ) → Sums t w sz.N n → b < sz.N → w' ≡ erased_once w b
      → Sums (counted t (write_done 7 b m)) w' sz.N (suc n)
  sums_rewrote w w' b m s h e =
      let l = s.writes-long in let k = s.wear-long in
      let v : erasures b ≡ 1 = rw (lt-ltb b vacant (omega arith)) in
      let g = get_or-set_same t.writes 7 (get_or t.writes 7 0 + 1) 0 (omega arith) in
      let q = s.by-way_7 in
      rw e (record {
        reads_long = s.reads_long;
        writes-long = length-set t.writes 7 _ ∙ s.writes-long;
        wear-long = erased-long w b ∙ s.wear-long;
        all-counted = let o = more-total t.writes 7 (omega arith) in let a = s.all-counted in omega arith;
        by-way_7 = omega arith;
        in_wear = let o = erased-total w b (omega arith) in let a = s.in_wear in omega arith;
      })

  -- a write by another way
  sums_wrote : (w w' : List ℕ) (way m : ℕ) → Sums t w sz.N n → way < 7 → w' ≡ w
      → Sums (counted t (write_done way vacant m)) w' sz.N (suc n)
  sums_wrote w w' way m s h e =
      let l = s.writes-long in
      let g = get_or-set_other t.writes way 7 (get_or t.writes way 0 + 1) 0 (λ (q : 7 ≡ way). omega arith) in
      let q = s.by-way_7 in
      rw e (record {
        reads_long = s.reads_long;
        writes-long = length-set t.writes way _ ∙ s.writes-long;
        wear-long = s.wear-long;
        all-counted = let o = more-total t.writes way (omega arith) in let a = s.all-counted in omega arith;
        by-way_7 = omega arith;
        in_wear = let a = s.in_wear in omega arith;
      })

  sums_more : (w w' : List ℕ) (a : Answer) → Sums t w sz.N n → Ranged a → Wears sz a w w' → Sums (counted t a) w' sz.N (suc n)
  sums_more w w' open_done s r e = absurd r
  sums_more w w' (read_done way) s r e = sums_read w w' way s r e
  sums_more w w' (write_done way b m) s r e = elim e [
    | inl q ↦ rw q.0 (sums_rewrote w w' b m s q.1 q.2)
    | inr q ↦ rw q.1 (sums_wrote w w' way m s q.0 q.2)
  ]
  sums_more w w' (step_done b m) s r e = absurd r
  sums_more w w' step_clean s r e = absurd r
  sums_more w w' (flush_done x m) s r e = absurd r
  sums_more w w' (refused x b) s r e = rw e (record {
    reads_long = s.reads_long;
    writes-long = s.writes-long;
    wear-long = s.wear-long;
    all-counted = let a = s.all-counted in omega arith;
    by-way_7 = s.by-way_7;
    in_wear = s.in_wear;
  })

-- ---- turns

abbrev SumsIn : Setting → Scene → ℕ → Type 0
SumsIn z m n = Sums m.class.tallies (wear_of m.store) z.blocks n

-- a bench's call wears as its answer says
served-wears : (long : ℕ) (s : ShelfStore) (c : Call)
    → Wears s.store.cache.sizes (served long s c).answer (wear_of s) (wear_of (served long s c).store)
unfolding served
served-wears long s c = wear-rule policy_choice policy_choice-picks s (plainly (asked long c))

module _ (z : Setting) (ok : setting_ok z ≡ true) where
  after_turn : (t n : ℕ) (m : Scene) → m.store.store.cache.sizes ≡ store_sizes z → SumsIn z m n → SumsIn z (turned z t m) (suc n)
  unfolding turned
  after_turn t n m e s =
      let u = turn_at z t m in
      let g = served z.page_size m.store u.call in
      sums_more (store_sizes z) (N_few z ok) m.class.tallies n (wear_of m.store) (wear_of g.store) g.answer s
      (served-ranged z.page_size m.store u.call (rw e (K_few z ok)))
      (subst (λ (sz : Sizes). Wears sz g.answer (wear_of m.store) (wear_of g.store)) e
      (served-wears z.page_size m.store u.call))

  at_first_lem : SumsIn z (begun z) 0
  unfolding begun blank_class opened_store fresh
  at_first_lem = record {
    reads_long = refl;
    writes-long = refl;
    wear-long = length-replicate {A = ℕ} z.blocks 0;
    all-counted = let a = zero-total 4 in let b = zero-total 8 in omega arith;
    by-way_7 = refl;
    in_wear = zero-total z.blocks;
  }

  begun-as : (begun z).store.store.cache.sizes ≡ store_sizes z
  unfolding begun
  begun-as = opened-as z ok

  sums_all : (n : ℕ) → SumsIn z (rehearsed z n (begun z)) n
  unfolding rehearsed
  sums_all zero = at_first_lem
  sums_all (suc n) = after_turn n n (rehearsed z n (begun z)) (rehearsed-sizes z n (begun z) ∙ begun-as) (sums_all n)

  -- the tallies of the rehearsal are those after all turns
  all-turns : (rehearsal_of z).tallies ≡ (rehearsed z z.turns (begun z)).class.tallies
  unfolding rehearsal_of
  all-turns = rw ok

pub all-counted_rule : AllCountedRule
all-counted_rule z ok = rw (all-turns z ok) (sums_all z ok z.turns).all-counted

pub erasures-rule : ErasuresRule
erasures-rule z ok = rw (all-turns z ok) (sums_all z ok z.turns).by-way_7

pub worn-rule : WornRule
worn-rule z ok = rw (all-turns z ok) (sym (sums_all z ok z.turns).in_wear)
