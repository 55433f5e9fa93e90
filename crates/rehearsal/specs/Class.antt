-- Request A13: a class rehearsed on the model's store, turn by turn.
use Rattle.std.specs.Prelude.{Ok, Err, Bool, cond, ◌&&◌, [], ◌∷◌, ℕ, zero, suc, ◌*◌, ◌%◌, leb, get_or, set, replicate}
use Rattle.prelude.specs.Tests.{every}
use Rattle.model.specs.Sizes.{Sizes, plain_sizes, sizes_ok}
use Rattle.model.specs.Policy.{policy_choice}
use Rattle.model.specs.Calls as calls
use Rattle.model.specs.Calls.{Answer, Page}
use Rattle.model.specs.Shelf.{plainly, ShelfStore, store_open, store_call}
use Rattle.answer.specs.declared.Refusal.TheVariants as refusals
use Rattle.script.specs.Forms.{buffers_fit}
use Rattle.store.specs.View.{Lent, store_of}
use Rattle.perform.specs.Effects.{fresh}
use Rattle.turns.specs.declared.Call.{Call}
use Rattle.turns.specs.declared.Call.TheVariants as asks
use Rattle.turns.specs.declared.Rates.{Rates}
use Rattle.turns.specs.declared.Turn.{Turn}
use Rattle.turns.specs.Turns.{turn_of}
use Rattle.tally.specs.Count.{answer_of, counted, no_tallies}
use Rattle.rehearsal.specs.declared.Setting.{Setting}
use Rattle.rehearsal.specs.declared.Rehearsed.{Rehearsed}
use Rattle.rehearsal.specs.declared.course.Class.{Class}
use Rattle.rehearsal.specs.declared.course.Seat.{Seat}
use Rattle.rehearsal.specs.declared.serve.Served.{Served}

-- ---- settings

-- the plain LRU store, with no option
abbrev pub store_sizes : Setting → Sizes
store_sizes z = plain_sizes z.page_size z.pages_per_block z.blocks z.slots z.frames z.wear_limit

-- N×K pages, and the two rates
abbrev pub rates_of : Setting → Rates
rates_of z = record { pages = z.blocks * z.pages_per_block; write = z.write_rate; run = z.run_rate }

-- 1 to 16 benches, 0 to 1,024 turns, rates 0 to 256
unfoldable pub class_ok : Setting → Bool
class_ok z = every (
    leb 1 z.benches ∷ leb z.benches 16 ∷ leb z.turns 1024 ∷ leb z.write_rate 256 ∷ leb z.run_rate 256 ∷ [])

-- every setting is in its range, and the sizes are within the script program's
unfoldable pub setting_ok : Setting → Bool
setting_ok z = sizes_ok (store_sizes z) && (buffers_fit (store_sizes z) && class_ok z)

-- ---- a bench's call

-- a read is lent a page of S zeros, a write a page of its byte
abbrev pub asked : ℕ → Call → calls.Call Page
asked s (asks.Read n) = calls.read n.0 (replicate s 0)
asked s (asks.Write n b) = calls.write n.0 (replicate s b)

-- what a call gives: its answer, and the store after it
pub record Gave : Type 0 where
  pub answer : Answer
  pub store : ShelfStore

-- the call on the store, by its ordinary rules, with a page buffer of so many bytes
unfoldable pub served : ℕ → ShelfStore → Call → Gave
served long s c = let r = store_call policy_choice s (plainly (asked long c)) in record { answer = r.answer; store = r.store }

-- the same of what the code hands back, with the buffers u
abbrev pub gave_of : Served → Lent → Gave
gave_of r u = record { answer = answer_of r.answered; store = store_of r.cache u }

-- ---- turns

-- all that a turn changes
pub record Scene : Type 0 where
  pub class : Class
  pub store : ShelfStore

abbrev pub scene : Class → ShelfStore → Scene
scene c s = record { class = c; store = s }

-- the same of what the code hands back, with the buffers u
abbrev pub scene_of : Seat → Lent → Scene
scene_of r u = scene r.class (store_of r.cache u)

-- before the first turn each bench's last page is 0, and nothing is counted
unfoldable pub blank_class : ℕ → Class
blank_class state = record { state = state; last = replicate 16 0; tallies = no_tallies }

-- after bench b's call the page is its last page, refused or not, and the answer is counted
abbrev pub seated_by : Class → ℕ → ℕ → ℕ → Answer → Class
seated_by c b page state a = record { state = state; last = set c.last b page; tallies = counted c.tallies a }

-- turn t is taken by bench t mod benches, from the generator's state and the bench's last page
abbrev pub turn_at : Setting → ℕ → Scene → Turn
turn_at z t m = turn_of m.class.state (get_or m.class.last (t % z.benches) 0) (rates_of z)

-- what the turn of bench b and the store's result leave
abbrev pub turned_by : Scene → ℕ → Turn → Gave → Scene
turned_by m b u g = scene (seated_by m.class b u.page u.state g.answer) g.store

-- one turn is one call
unfoldable pub turned : Setting → ℕ → Scene → Scene
turned z t m = turned_by m (t % z.benches) (turn_at z t m) (served z.page_size m.store (turn_at z t m).call)

-- the first n turns
unfoldable pub rehearsed : Setting → ℕ → Scene → Scene
rehearsed z zero m = m
rehearsed z (suc n) m = turned z n (rehearsed z n m)

-- ---- a whole rehearsal

-- the store as the script program opens it
unfoldable pub opened_store : Sizes → ShelfStore
opened_store sz = let o = store_open sz (fresh sz).below (fresh sz).shelf in
    record { store = record { cache = o.cache; lent = (fresh sz).below }; entries = o.entries; shelf = (fresh sz).shelf }

-- as a rehearsal begins
unfoldable pub begun : Setting → Scene
begun z = scene (blank_class z.state) (opened_store (store_sizes z))

-- a setting out of range is refused 1; else the tallies are those after all turns
unfoldable pub rehearsal_of : Setting → Rehearsed
rehearsal_of z = cond (setting_ok z)
    (record { answer = Ok (record { torn = 0 }); tallies = (rehearsed z z.turns (begun z)).class.tallies })
    (record { answer = Err refusals.Size; tallies = no_tallies })
