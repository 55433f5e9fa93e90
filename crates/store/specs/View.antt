-- The record, the lent buffers and what a call hands back, as the model has them.
use Rattle.std.specs.Prelude.{Option, Result, List, [], ℕ}
use Rattle.model.specs.Directory as directory
use Rattle.model.specs.Calls.{Buffers, Page}
use Rattle.model.specs.Shelf.{ShelfOpened, ShelfStore, ShelfResult}
use Rattle.cache.specs.View.{sizes_of, directory_of}
use Rattle.answer.specs.declared.Refusal.{Refusal}
use Rattle.answer.specs.declared.Opening.{Opening}
use Rattle.answer.specs.declared.Read.{Read}
use Rattle.answer.specs.declared.Write.{Write}
use Rattle.answer.specs.declared.Step.{Step}
use Rattle.answer.specs.declared.Flush.{Flush}
use Rattle.answer.specs.Carried.{buffers}
use Rattle.answer.specs.Numbers.{opening_of, torn_of, read_of, write_of, step_of, flush_of, mends_of_read, mends_of_write, mends_of_step}
use Rattle.answer.specs.Numbers.{mends_of_flush}
use Rattle.store.specs.declared.Cache.{Cache}
use Rattle.store.specs.declared.Out.{Out}

-- what an opening, a read, a write, a flush step and a flush hand back
abbrev pub Opened : Type 0
Opened = Out (Result Opening Refusal)

abbrev pub ReadOut : Type 0
ReadOut = Out (Result Read Refusal)

abbrev pub WriteOut : Type 0
WriteOut = Out (Result Write Refusal)

abbrev pub StepOut : Type 0
StepOut = Out (Result (Option Step) Refusal)

abbrev pub FlushOut : Type 0
FlushOut = Out (Result Flush Refusal)

abbrev pub cache_of : Cache → directory.Cache
cache_of c = record { sizes = sizes_of c.sizes; directory = directory_of c.directory }

abbrev pub opened_of : Opened → ShelfOpened
opened_of r = record { answer = opening_of r.answer; torn = torn_of r.answer; cache = cache_of r.cache; entries = r.cache.entries }

-- what is lent: the buffers that every store has, and the shelf
pub record Lent : Type 0 where
  pub below : Buffers
  pub shelf : List ℕ

-- flash, codes, marks, wear, p-space, b-space, shelf
abbrev pub lent : List ℕ → List ℕ → List ℕ → List ℕ → List ℕ → List ℕ → List ℕ → Lent
lent flash codes marks wear pspace bspace shelf = record { below = buffers flash codes marks wear pspace bspace; shelf = shelf }

-- of a store without options: flash, wear, p-space, b-space
abbrev pub plain_lent : List ℕ → List ℕ → List ℕ → List ℕ → Lent
plain_lent flash wear pspace bspace = lent flash [] [] wear pspace bspace []

-- the record with its lent buffers
abbrev pub store_of : Cache → Lent → ShelfStore
store_of c u = record { store = record { cache = cache_of c; lent = u.below }; entries = c.entries; shelf = u.shelf }

abbrev pub read_result : ReadOut → Lent → Page → ShelfResult
read_result r u page = record { answer = read_of r.answer; mends = mends_of_read r.answer; store = store_of r.cache u; page = page }

abbrev pub write_result : WriteOut → Lent → Page → ShelfResult
write_result r u page = record { answer = write_of r.answer; mends = mends_of_write r.answer; store = store_of r.cache u; page = page }

-- a flush step and a flush have no page buffer
abbrev pub step_result : StepOut → Lent → ShelfResult
step_result r u = record { answer = step_of r.answer; mends = mends_of_step r.answer; store = store_of r.cache u; page = [] }

abbrev pub flush_result : FlushOut → Lent → ShelfResult
flush_result r u = record { answer = flush_of r.answer; mends = mends_of_flush r.answer; store = store_of r.cache u; page = [] }
