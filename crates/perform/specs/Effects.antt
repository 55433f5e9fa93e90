-- What each form of a line does to the store, and what it prints.
use Rattle.std.specs.Prelude.{cond, List, ℕ, ◌*◌, get_or, replicate}
use Rattle.model.specs.Sizes.{Sizes}
use Rattle.model.specs.Policy.{policy_choice}
use Rattle.model.specs.Calls.{is_refused, read, write, step, flush}
use Rattle.model.specs.Shelf.{plainly, ShelfStore, store_open, store_call}
use Rattle.store.specs.View.{Lent, plain_lent}
use Rattle.print.specs.Print.{open_line, write_line, read_line, step_line, flush_line}

-- an accepted opening starts with flash bytes 255 and wear 0; p-space and b-space are zeros
unfoldable pub fresh : Sizes → Lent
fresh sz = plain_lent (replicate (sz.N * sz.K * sz.S) 255) (replicate sz.N 0) (replicate (sz.P * sz.S) 0)
    (replicate (sz.B * sz.K * sz.S) 0)

-- the store after a line, and the bytes printed
pub record Effect : Type 0 where
  pub store : ShelfStore
  pub printed : List ℕ

module _ (s : ShelfStore) where
  -- a refused opening keeps the store in use
  unfoldable pub opened : Sizes → Effect
  opened sz = let o = store_open sz (fresh sz).below (fresh sz).shelf in
      let new : ShelfStore = record {
        store = record { cache = o.cache; lent = (fresh sz).below };
        entries = o.entries;
        shelf = (fresh sz).shelf;
      } in
      record { store = cond (is_refused o.answer) s new; printed = open_line o.answer }

  -- page n is filled with byte b
  unfoldable pub written : ℕ → ℕ → Effect
  written n b = let r = store_call policy_choice s (plainly (write n (replicate s.store.cache.sizes.S b))) in
      record { store = r.store; printed = write_line n r.answer }

  -- a read is lent a page of zeros, and prints the first byte of what it gives
  unfoldable pub was_read : ℕ → Effect
  was_read n = let r = store_call policy_choice s (plainly (read n (replicate s.store.cache.sizes.S 0))) in
      record { store = r.store; printed = read_line n r.answer (get_or r.page 0 0) }

  unfoldable pub stepped : Effect
  stepped = let r = store_call policy_choice s (plainly step) in record { store = r.store; printed = step_line r.answer }

  unfoldable pub flushed : Effect
  flushed = let r = store_call policy_choice s (plainly flush) in record { store = r.store; printed = flush_line r.answer }

  -- nothing is done
  abbrev pub only : List ℕ → Effect
  only l = record { store = s; printed = l }
