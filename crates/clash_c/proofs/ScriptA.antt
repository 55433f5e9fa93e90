-- Demand 3 for C on document 01's script A: the store's calls with their answers in numbers are calls for C, and as contracted.
use mathlib.Core.Path.{◌≡◌, refl, ap, subst}
use mathlib.Core.List.{List, [], ◌∷◌}
use Prim.Native.Nat.{ℕ}
use Rattle.model.specs.Calls.{Answer, open_done}
use Rattle.cache.specs.View.{sizes_of}
use Rattle.answer.specs.Numbers.{read_of, write_of, step_of, flush_of, mends_of_read, mends_of_write, mends_of_step, mends_of_flush}
use Rattle.replies.specs.Numbers.{numbers_of}
use Rattle.store.specs.declared.Cache.{Cache}
use Rattle.store.specs.View.{Lent}
use Rattle.store.specs.Histories as store
use Rattle.store.proofs.ScriptA.{sizes, lent_a, opening, turns, accepted, accepted-answer, as_contracted}
use Rattle.store.proofs.Demand3.{codes-match}
use Rattle.clash_c.specs.declared.Reply.{Reply}
use Rattle.clash_c.specs.Replies.{opened_in_numbers, in_numbers}
use Rattle.clash_c.specs.Histories.{Made, read, write, part, step, flush, back}
use Rattle.clash_c.specs.Histories.{reply_of, lent_after, Contract, Turn, AsContracted, Claim}
use Rattle.clash_c.proofs.Demand3.{demand_3}

abbrev reply : Cache → Answer → ℕ → Reply
reply c a mends = record { cache = c; answer = numbers_of a mends }

-- a call of the store as a call for C
abbrev for_c : store.Made → Made
for_c (store.read n page out page') = read n.0 page (reply out.cache (read_of out.answer) (mends_of_read out.answer)) page'
for_c (store.write n page out u') = write n.0 page (reply out.cache (write_of out.answer) (mends_of_write out.answer)) u'
for_c (store.part n first x page out u' page') = part n.0 first x page
    (reply out.cache (write_of out.answer) (mends_of_write out.answer)) u' page'
for_c (store.step out flash' codes' marks' wear' bspace') = step (reply out.cache (step_of out.answer)
    (mends_of_step out.answer)) flash' codes' marks' wear' bspace'
for_c (store.flush out flash' codes' marks' wear' bspace') = flush (reply out.cache (flush_of out.answer)
    (mends_of_flush out.answer)) flash' codes' marks' wear' bspace'
for_c (store.back out below') = back (reply out.cache (write_of out.answer) (mends_of_write out.answer)) below'

abbrev all_for_c : List store.Turn → List Turn
all_for_c [] = []
all_for_c (t ∷ ts) = record { flash = t.flash; codes = t.codes; made = for_c t.made } ∷ all_for_c ts

-- as contracted for the store, as contracted for C
for_c-contracted : (c : Cache) (u : Lent) (m : store.Made) → store.Contract c u m → Contract c u (for_c m)
for_c-contracted c u (store.read n page out page') h = ap in_numbers h
for_c-contracted c u (store.write n page out u') h = ap in_numbers h
for_c-contracted c u (store.part n first x page out u' page') h = ap in_numbers h
for_c-contracted c u (store.step out flash' codes' marks' wear' bspace') h = ap in_numbers h
for_c-contracted c u (store.flush out flash' codes' marks' wear' bspace') h = ap in_numbers h
for_c-contracted c u (store.back out below') h = ap in_numbers h

cache-same : (m : store.Made) → store.cache_after m ≡ (reply_of (for_c m)).cache
cache-same (store.read n page out page') = refl
cache-same (store.write n page out u') = refl
cache-same (store.part n first x page out u' page') = refl
cache-same (store.step out flash' codes' marks' wear' bspace') = refl
cache-same (store.flush out flash' codes' marks' wear' bspace') = refl
cache-same (store.back out below') = refl

lent_same : (u : Lent) (m : store.Made) → store.lent_after u m ≡ lent_after u (for_c m)
lent_same u (store.read n page out page') = refl
lent_same u (store.write n page out u') = refl
lent_same u (store.part n first x page out u' page') = refl
lent_same u (store.step out flash' codes' marks' wear' bspace') = refl
lent_same u (store.flush out flash' codes' marks' wear' bspace') = refl
lent_same u (store.back out below') = refl

contracted : (c : Cache) (u : Lent) (ts : List store.Turn) → store.AsContracted c u ts → AsContracted c u (all_for_c ts)
contracted c u [] h = tt
contracted c u (t ∷ ts) h = let v : Lent = store.lent_to u t in (
  for_c-contracted c v t.made h.0,
  contracted _ _ ts
      (subst (λ (d : Cache). store.AsContracted d (lent_after v (for_c t.made)) ts) (cache-same t.made)
      (subst (λ (w : Lent). store.AsContracted (store.cache_after t.made) w ts) (lent_same v t.made) h.1)),
)

-- what demand 3 says of script A's calls for C
pub claim : Claim (sizes_of sizes) lent_a opening.cache lent_a (store.begun (sizes_of sizes) lent_a) (all_for_c turns)
claim = demand_3 sizes lent_a (reply opening.cache open_done 0) (ap opened_in_numbers accepted) refl
    (codes-match (sizes_of sizes) lent_a refl accepted-answer) (all_for_c turns) (contracted opening.cache lent_a turns as_contracted)
