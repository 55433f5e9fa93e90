-- A call of the store with its line printed: what the script's line does.
use mathlib.Core.Path.{◌≡◌, sym, ap, ◌∙◌}
use mathlib.Core.List.{List}
use Prim.Native.Nat.{ℕ, ◌≤◌}
use native.Mathlib.Omega.{arith}
use lib.ListN.{length, take, get_or, replicate}
use Rattle.model.specs.Policy.{policy_choice}
use Rattle.model.specs.Calls.{Page, read, write, step, flush}
use Rattle.model.specs.Shelf.{plainly, ShelfStore, ShelfResult, store_call}
use Rattle.model.proofs.Shelving.{empty-is}
use Rattle.answer.specs.Numbers.{read_of, write_of, step_of, flush_of}
use Rattle.print.specs.Print.{Printed, line_room, wear_room, write_line, read_line, step_line, flush_line}
use Rattle.print.proofs.Put.{printed-front, printed-as}
use Rattle.store.specs.declared.Cache.{Cache}
use Rattle.store.specs.View.{ReadOut, WriteOut, StepOut, FlushOut, Lent}
use Rattle.store.specs.View.{lent, plain_lent, store_of, read_result, write_result, step_result, flush_result}
use Rattle.perform.specs.declared.Lined.{Lined}
use Rattle.perform.specs.Effects.{Effect, written, was_read, stepped, flushed}
use Rattle.perform.specs.View.{Carries}

-- the store after, and a line printed
pub carries : {room : ℕ} {e : Effect} {r : Lined} {u : Lent} {old out : List ℕ} → room ≤ wear_room 4096 → store_of r.cache u ≡ e.store
    → Printed room e.printed old 0 out r.printed → Carries e r u out
carries {room} {e} {r} {u} {old} {out} h s p =
    let f : take r.printed out ≡ e.printed = printed-front {at = 0} (omega arith) p in
    record { effect = λ i. record { store = s i; printed = f i }; within = omega arith }

-- no codes, no marks and no shelf are left where none were lent
pub none_left : (flash codes marks wear pspace bspace shelf : List ℕ) → length codes ≡ 0 → length marks ≡ 0 → length shelf ≡ 0
    → lent flash codes marks wear pspace bspace shelf ≡ plain_lent flash wear pspace bspace
none_left flash codes marks wear pspace bspace shelf c m s = λ i. lent flash (empty-is codes c i) (empty-is marks m i) wear pspace bspace
    (empty-is shelf s i)

-- a call that leaves the buffers u, which are v
module _ (s : ShelfStore) (u v : Lent) (left : u ≡ v) (old out : List ℕ) (k : ℕ) where
  left_as : (c : Cache) (t : ShelfStore) → store_of c u ≡ t → store_of c v ≡ t
  left_as c t e = ap (store_of c) (sym left) ∙ e

  pub step-carries : (r : StepOut) → step_result r u ≡ store_call policy_choice s (plainly step) → Printed line_room (step_line (step_of
      r.answer)) old 0 out k
      → Carries (stepped s) (record { cache = r.cache; printed = k }) v out
  unfolding stepped
  step-carries r e p = carries {room = line_room} (omega arith) (left_as r.cache _ (ap (λ (x : ShelfResult). x.store) e))
      (printed-as {q = line_room} {r = line_room} (omega arith) (ap (λ (x : ShelfResult). step_line x.answer) e) p)

  pub flush-carries : (r : FlushOut) → flush_result r u ≡ store_call policy_choice s (plainly flush)
      → Printed line_room (flush_line (flush_of r.answer)) old 0 out k
      → Carries (flushed s) (record { cache = r.cache; printed = k }) v out
  unfolding flushed
  flush-carries r e p = carries {room = line_room} (omega arith) (left_as r.cache _ (ap (λ (x : ShelfResult). x.store) e))
      (printed-as {q = line_room} {r = line_room} (omega arith) (ap (λ (x : ShelfResult). flush_line x.answer) e) p)

  pub write-carries : (n b : ℕ) (page : Page) → page ≡ replicate s.store.cache.sizes.S b
      → (r : WriteOut) → write_result r u page ≡ store_call policy_choice s (plainly (write n page))
      → Printed line_room (write_line n (write_of r.answer)) old 0 out k
      → Carries (written s n b) (record { cache = r.cache; printed = k }) v out
  unfolding written
  write-carries n b page f r e p =
      let e' : write_result r u page ≡ store_call policy_choice s (plainly (write n (replicate s.store.cache.sizes.S b))) = e
      ∙ ap (λ (x : Page). store_call policy_choice s (plainly (write n x))) f in
      carries {room = line_room} (omega arith) (left_as r.cache _ (ap (λ (x : ShelfResult). x.store) e'))
      (printed-as {q = line_room} {r = line_room} (omega arith) (ap (λ (x : ShelfResult). write_line n x.answer) e') p)

  pub read-carries : (n byte : ℕ) (page page' : Page) → page ≡ replicate s.store.cache.sizes.S 0
      → (r : ReadOut) → read_result r u page' ≡ store_call policy_choice s (plainly (read n page)) → byte ≡ get_or page' 0 0
      → Printed line_room (read_line n (read_of r.answer) byte) old 0 out k
      → Carries (was_read s n) (record { cache = r.cache; printed = k }) v out
  unfolding was_read
  read-carries n byte page page' f r e g p =
      let e' : read_result r u page' ≡ store_call policy_choice s (plainly (read n (replicate s.store.cache.sizes.S 0))) = e
      ∙ ap (λ (x : Page). store_call policy_choice s (plainly (read n x))) f in
      carries {room = line_room} (omega arith) (left_as r.cache _ (ap (λ (x : ShelfResult). x.store) e'))
      (printed-as {q = line_room} {r = line_room} (omega arith) (ap (read_line n (read_of r.answer)) g
      ∙ ap (λ (x : ShelfResult). read_line n x.answer (get_or x.page 0 0)) e') p)
