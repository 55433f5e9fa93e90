-- What the store answers to a read and to a write may be counted: ways are at most 3 and 7, merge reads at most K.
use mathlib.Core.Path.{◌≡◌, sym, subst}
use mathlib.Core.Bool.{Bool, ◌&&◌}
use Prim.Native.Nat.{ℕ, ◌*◌, ◌≤◌, ◌<◌}
use native.Mathlib.Omega.{arith}
use lib.Dec.{ltb, eqb}
use lib.ListN.{length}
use Rattle.prelude.proofs.Tests.{by-test}
use Rattle.model.specs.Sizes.{Sizes}
use Rattle.model.specs.Directory.{Directory}
use Rattle.model.specs.Soundness.{sound}
use Rattle.model.specs.Policy.{Choice, Plan, slot_hit, frame_hit, free_slot, join, fill, exchange, evict, in_slots, frame_with, read_way}
use Rattle.model.specs.Policy.{plan}
use Rattle.model.specs.Policy.{way_of, erased_by, is_worn}
use Rattle.model.specs.Moves.{merged_by}
use Rattle.model.specs.Calls.{is_refused, Call, read, write, State, state_of, Outcome, Store, Page, Format, told, lent_ok, checked}
use Rattle.model.specs.Calls.{read_outcome, write_outcome, decide, heeding, carried_out, call_reading}
use Rattle.model.specs.Formats.{store_format}
use Rattle.model.specs.Shelf.{ShelfStore, plainly, shelf_ok, ordinary, shelf_call, store_call}
use Rattle.tally.specs.Count.{Ranged}

read-way : (sz : Sizes) (d : Directory) (n : ℕ) → read_way sz d n < 4
unfolding read_way
read-way sz d n = by-test (in_slots sz d n)
    (λ e. rw (e, read_way) (omega arith))
    (λ e. by-test (ltb (frame_with sz d n) sz.B) (λ g. rw (e, g, read_way) (omega arith)) (λ g. rw (e, g, read_way) (omega arith)))

way-of : (p : Plan) → way_of p < 8
way-of (slot_hit i) = omega arith
way-of (frame_hit f) = omega arith
way-of (free_slot i) = omega arith
way-of (join v f) = omega arith
way-of (fill v f) = omega arith
way-of (exchange v f) = omega arith
way-of (evict v f) = omega arith

merged-le : (sz : Sizes) (d : Directory) (p : Plan) → merged_by sz d p ≤ sz.K
merged-le sz d (slot_hit i) = omega arith
merged-le sz d (frame_hit f) = omega arith
merged-le sz d (free_slot i) = omega arith
merged-le sz d (join v f) = omega arith
merged-le sz d (fill v f) = omega arith
merged-le sz d (exchange v f) = omega arith
merged-le sz d (evict v f) = omega arith

checked-ranged : (sz : Sizes) (k : State) (n long : ℕ) (o : Outcome) → Ranged o.answer → Ranged (checked sz k n long o).answer
unfolding checked
checked-ranged sz k n long o h = by-test (eqb long sz.S)
    (λ e. by-test (ltb n (sz.N * sz.K)) (λ g. rw (e, g, checked) h) (λ g. rw (e, g, checked) tt))
    (λ e. rw (e, checked) tt)

write-outcome : (sz : Sizes) (k : State) (n : ℕ) (p : Plan) → sz.K ≤ 64 → Ranged (write_outcome sz k n p).answer
unfolding write_outcome
write-outcome sz k n p h = by-test (is_worn sz k.wear (erased_by k.directory p))
    (λ e. rw (e, write_outcome) tt)
    (λ e. rw (e, write_outcome) (way-of p, (let m = merged-le sz k.directory p in omega arith)))

heeding-ranged : (k : State) (late : ℕ) (o : Outcome) → Ranged o.answer → Ranged (heeding k late o).answer
unfolding heeding
heeding-ranged k late o h = by-test (is_refused o.answer)
    (λ e. rw (e, heeding) h)
    (λ e. rw (e, heeding) (by-test (eqb late 0) (λ e'. rw e' h) (λ e'. rw e' tt)))

carried-answer : (fmt : Format) (pick : Choice) (s : Store) (c : Call Page) (besides : ℕ → Bool) (o : Outcome)
    → (carried_out fmt pick s c besides o).answer ≡ o.answer
unfolding carried_out
carried-answer fmt pick s c besides o = by-test (is_refused o.answer) (λ e. rw (e, carried_out)) (λ e. rw (e, carried_out))

-- refusals 4 and 2 may be counted; else it is as the outcome
reading-ranged : (fmt : Format) (pick : Choice) (besides : ℕ → Bool) (s : Store) (c : Call Page)
    → Ranged (decide pick s.cache.sizes (state_of s) (told c)).answer → Ranged (call_reading fmt pick besides s c).answer
unfolding call_reading
reading-ranged fmt pick besides s c h = by-test (sound s.cache.sizes s.cache.directory)
    (λ e. rw (e, call_reading) (by-test (lent_ok fmt s.cache.sizes s.lent)
    (λ g. rw g (subst Ranged (sym (carried-answer fmt pick s c besides _)) (heeding-ranged (state_of s) _ _ h)))
    (λ g. rw g tt)))
    (λ e. rw (e, call_reading) tt)

called : (pick : Choice) (s : ShelfStore) (c : Call Page)
    → Ranged (decide pick s.store.cache.sizes (state_of s.store) (told c)).answer
    → Ranged (store_call pick s (plainly c)).answer
unfolding shelf_call ordinary
called pick s c h = let sz = s.store.cache.sizes in
    by-test (sound sz s.store.cache.directory && shelf_ok sz sz.shelf_pages s.entries)
    (λ e. rw (e, shelf_call) (by-test (lent_ok store_format sz s.store.lent && eqb (length s.shelf) (sz.shelf_pages * sz.S))
    (λ g. rw g (reading-ranged store_format pick _ s.store c h))
    (λ g. rw g tt)))
    (λ e. rw (e, shelf_call) tt)

pub read-ranged : (pick : Choice) (s : ShelfStore) (n : ℕ) (x : Page) → Ranged (store_call pick s (plainly (read n x))).answer
unfolding decide read_outcome
read-ranged pick s n x = let sz = s.store.cache.sizes in
    called pick s (read n x) (checked-ranged sz (state_of s.store) n (length x) (read_outcome sz (state_of s.store) n)
    (read-way sz s.store.cache.directory n))

pub write-ranged : (pick : Choice) (s : ShelfStore) (n : ℕ) (x : Page) → s.store.cache.sizes.K ≤ 64
    → Ranged (store_call pick s (plainly (write n x))).answer
unfolding decide
write-ranged pick s n x h = let sz = s.store.cache.sizes in let k = state_of s.store in
    called pick s (write n x) (checked-ranged sz k n (length x) (write_outcome sz k n (plan pick sz k.directory k.wear n))
    (write-outcome sz k n (plan pick sz k.directory k.wear n) h))
