-- What holds after each turn, by the definitions alone: last pages are pages, no tally is above the number of turns, the sizes stay.
use mathlib.Core.Path.{◌≡◌, refl, sym, ap, ◌∙◌}
use mathlib.Core.List.{List, [], ◌∷◌}
use Prim.Native.Nat.{ℕ, zero, suc, ◌+◌, ◌%◌, ◌≤◌, ◌<◌}
use native.Mathlib.Numerals.{add-one}
use native.Mathlib.Omega.{arith}
use lib.ListN.{length, get_or, set, replicate}
use Rattle.model.specs.Policy.{policy_choice}
use Rattle.model.specs.Calls.{Answer, open_done, read_done, write_done, step_done, step_clean, flush_done, refused}
use Rattle.model.specs.Formats.{store_format}
use Rattle.model.specs.Shelf.{plainly, ShelfStore}
use Rattle.model.proofs.Shelf.{sizes-stay}
use Rattle.turns.specs.declared.Call.{Call}
use Rattle.turns.specs.declared.Call.TheVariants as asks
use Rattle.turns.specs.declared.Turn.{Turn}
use Rattle.turns.specs.Turns.{turn_of}
use Rattle.turns.proofs.Pages.{page-in}
use Rattle.tally.specs.declared.Tallies.{Tallies}
use Rattle.tally.specs.Count.{counted, oneMore, no_tallies, Within, Ranged}
use Rattle.tally.proofs.Counting.{erasures-le}
use Rattle.rehearsal.specs.declared.Setting.{Setting}
use Rattle.rehearsal.specs.declared.course.Class.{Class}
use Rattle.rehearsal.specs.Class.{Scene, Gave, scene, rates_of, asked, served, seated_by, turn_at, turned_by, turned, rehearsed}
use Rattle.rehearsal.specs.Class.{blank_class}
use Rattle.rehearsal.specs.Ready.{Ready, Seated}
use Rattle.rehearsal.proofs.Answers.{read-ranged, write-ranged}

-- ---- lists

-- what holds of each entry holds after one is set; past the end an entry is 0
set-each : (Q : ℕ → Type 0) (l : List ℕ) (b p : ℕ) → ((j : ℕ) → Q (get_or l j 0)) → Q p → (j : ℕ) → Q (get_or (set l b p) j 0)
set-each Q [] b p h k j = h j
set-each Q (x ∷ l) zero p h k zero = k
set-each Q (x ∷ l) zero p h k (suc j) = h (suc j)
set-each Q (x ∷ l) (suc b) p h k zero = h zero
set-each Q (x ∷ l) (suc b) p h k (suc j) = set-each Q l b p (λ i. h (suc i)) k j

pub zeros : (n j : ℕ) → ◌≡◌ {A = ℕ} (get_or (replicate n 0) j 0) 0
zeros zero j = refl
zeros (suc n) zero = refl
zeros (suc n) (suc j) = zeros n j

-- ---- tallies

more-le : (l : List ℕ) (c w : ℕ) → ((j : ℕ) → get_or l j 0 ≤ c) → (j : ℕ) → get_or (oneMore l w) j 0 ≤ c + 1
more-le l c w h j = set-each (λ x. x ≤ c + 1) l w (get_or l w 0 + 1) (λ i. let k = h i in omega arith) (let k = h w in omega arith) j

up : (l : List ℕ) (c : ℕ) → ((j : ℕ) → get_or l j 0 ≤ c) → (j : ℕ) → get_or l j 0 ≤ c + 1
up l c h j = let k = h j in omega arith

counted-within : (t : Tallies) (a : Answer) (c : ℕ) → Within t c → Ranged a → Within (counted t a) (c + 1)
counted-within t open_done c w r = absurd r
counted-within t (read_done way) c w r = record {
  reads = more-le t.reads c way w.reads;
  writes = up t.writes c w.writes;
  erased = let h = w.erased in omega arith;
  merged = let h = w.merged in omega arith;
  refused = let h = w.refused in omega arith;
}
counted-within t (write_done way b m) c w r = record {
  reads = up t.reads c w.reads;
  writes = more-le t.writes c way w.writes;
  erased = let h = w.erased in let e = erasures-le b in omega arith;
  merged = let h = w.merged in let k = r.1 in omega arith;
  refused = let h = w.refused in omega arith;
}
counted-within t (step_done b m) c w r = absurd r
counted-within t step_clean c w r = absurd r
counted-within t (flush_done n m) c w r = absurd r
counted-within t (refused n b) c w r = record {
  reads = up t.reads c w.reads;
  writes = up t.writes c w.writes;
  erased = let h = w.erased in omega arith;
  merged = let h = w.merged in omega arith;
  refused = let h = w.refused in omega arith;
}

within-le : (t : Tallies) (c e : ℕ) → Within t c → c ≤ e → Within t e
within-le t c e w h = record {
  reads = λ j. let k = w.reads j in omega arith;
  writes = λ j. let k = w.writes j in omega arith;
  erased = let k = w.erased in omega arith;
  merged = let k = w.merged in omega arith;
  refused = let k = w.refused in omega arith;
}

within_none : Within no_tallies 0
within_none = record {
  reads = λ j. let z = zeros 4 j in omega arith;
  writes = λ j. let z = zeros 8 j in omega arith;
  erased = omega arith;
  merged = omega arith;
  refused = omega arith;
}

-- ---- a bench's call

-- its answer may be counted
pub served-ranged : (n : ℕ) (s : ShelfStore) (c : Call) → s.store.cache.sizes.K ≤ 64 → Ranged (served n s c).answer
unfolding served
served-ranged n s (asks.Read m) h = read-ranged policy_choice s m.0 (replicate n 0)
served-ranged n s (asks.Write m b) h = write-ranged policy_choice s m.0 (replicate n b) h

-- it leaves the sizes as they are
pub served-sizes : (n : ℕ) (s : ShelfStore) (c : Call) → (served n s c).store.store.cache.sizes ≡ s.store.cache.sizes
unfolding served
served-sizes n s c = sizes-stay store_format policy_choice s.store.cache.sizes.shelf_pages s (plainly (asked n c))

-- ---- turns

seated_after : (z : Setting) (t n : ℕ) (m : Scene) → Ready z → m.store.store.cache.sizes.K ≤ 64 → Seated z m.class n
    → Seated z (turned z t m).class (n + 1)
unfolding turned turn_of
seated_after z t n m r k s = let u = turn_at z t m in record {
  lasts = set-each (λ x. x < (rates_of z).pages) m.class.last (t % z.benches) u.page s.lasts
      (page-in m.class.state (get_or m.class.last (t % z.benches) 0) (rates_of z) r.p_low);
  within = counted-within m.class.tallies (served z.page_size m.store u.call).answer n s.within
      (served-ranged z.page_size m.store u.call k);
}

pub rehearsed-sizes : (z : Setting) (n : ℕ) (m : Scene) → (rehearsed z n m).store.store.cache.sizes ≡ m.store.store.cache.sizes
unfolding rehearsed turned
rehearsed-sizes z zero m = refl
rehearsed-sizes z (suc n) m =
    served-sizes z.page_size (rehearsed z n m).store (turn_at z n (rehearsed z n m)).call ∙ rehearsed-sizes z n m

seated_all : (z : Setting) (n : ℕ) (s : ShelfStore) → Ready z → s.store.cache.sizes.K ≤ 64
    → Seated z (rehearsed z n (scene (blank_class z.state) s)).class n
unfolding rehearsed blank_class
seated_all z zero s r k = record { lasts = λ j. let e = zeros 16 j in let q = r.p_low in omega arith; within = within_none }
seated_all z (suc n) s r k = rw (sym (add-one n)) (seated_after z n n (rehearsed z n (scene (blank_class z.state) s)) r
    (rw (rehearsed-sizes z n (scene (blank_class z.state) s)) k) (seated_all z n s r k))

-- after fewer than 1,024 turns
pub seated_few : (z : Setting) (n : ℕ) (s : ShelfStore) (m : Scene) → Ready z → s.store.cache.sizes.K ≤ 64 → n < z.turns
    → m ≡ rehearsed z n (scene (blank_class z.state) s) → Seated z m.class 1023 × (m.store.store.cache.sizes.K ≤ 64)
seated_few z n s m r k l e = rw e (let a = seated_all z n s r k in let h = r.t_high in
    (record { lasts = a.lasts; within = within-le _ n 1023 a.within (omega arith) }, rw (rehearsed-sizes z n _) k))

-- a turn's parts, put together
pub turn_is : (z : Setting) (t : ℕ) (m : Scene) (b n : ℕ) (u : Turn) (g : Gave) (y : Class)
    → b ≡ t % z.benches → u ≡ turn_of m.class.state (get_or m.class.last b 0) (rates_of z) → n ≡ z.page_size
    → g ≡ served n m.store u.call → y ≡ seated_by m.class b u.page u.state g.answer
    → scene y g.store ≡ turned z t m
unfolding turned
turn_is z t m b n u g y eb eu en eg ey = rw ey (ap (turned_by m b u) eg ∙ rw (eu, eb, en))

-- one turn more
pub again : (z : Setting) (t : ℕ) (m₀ m m' : Scene) → m ≡ rehearsed z t m₀ → m' ≡ turned z t m → m' ≡ rehearsed z (t + 1) m₀
unfolding rehearsed
again z t m₀ m m' e g = rw (add-one t) (g ∙ ap (turned z t) e)

pub no-turn : (z : Setting) (m₀ : Scene) → m₀ ≡ rehearsed z 0 m₀
unfolding rehearsed
no-turn z m₀ = refl

-- the buffers keep their lengths
pub record Same (f w p b g f₀ w₀ p₀ b₀ g₀ : List ℕ) : Type 0 where
  pub flash : length f ≡ length f₀
  pub wear : length w ≡ length w₀
  pub pspace : length p ≡ length p₀
  pub bspace : length b ≡ length b₀
  pub page : length g ≡ length g₀
