-- What a call for C hands back, and what the model's call gives, with the answer in numbers.
use Rattle.model.specs.Directory.{Cache}
use Rattle.std.specs.Prelude.{ℕ, List}
use Rattle.model.specs.Calls.{Page}
use Rattle.model.specs.Shelf.{ShelfOpened, ShelfStore, ShelfResult}
use Rattle.replies.specs.declared.Answer.{Answer}
use Rattle.replies.specs.Numbers.{answer_numbers, numbers_of}
use Rattle.store.specs.View.{Lent, cache_of, store_of}
use Rattle.clash_c.specs.declared.Reply.{Reply}

pub record OpeningReply : Type 0 where
  pub answer : Answer
  pub cache : Cache
  pub entries : List ℕ

abbrev pub opened_reply : Reply → OpeningReply
opened_reply r = record { answer = r.answer; cache = cache_of r.cache; entries = r.cache.entries }

abbrev pub opened_in_numbers : ShelfOpened → OpeningReply
opened_in_numbers o = record { answer = answer_numbers o.answer 0 o.torn; cache = o.cache; entries = o.entries }

-- the answer, the record handed back with the lent buffers, and the page buffer
pub record CallReply : Type 0 where
  pub answer : Answer
  pub store : ShelfStore
  pub page : Page

abbrev pub replied : Reply → Lent → Page → CallReply
replied r u page = record { answer = r.answer; store = store_of r.cache u; page = page }

abbrev pub in_numbers : ShelfResult → CallReply
in_numbers r = record { answer = numbers_of r.answer r.mends; store = r.store; page = r.page }
