-- Demand 3 on script A, clause by clause, by computing the store, the page array and the rewrite book side by side.
use mathlib.Core.Path.{◌≡◌, refl}
use mathlib.Core.Bool.{false}
use mathlib.Core.List.{List, [], ◌∷◌}
use Prim.Native.Nat.{ℕ}
use lib.ListN.{take, replicate}
use Rattle.prelude.specs.Tests.{every}
use Rattle.prelude.specs.Scan.{first_from, first, count, all, all_pairs, nth, argmax, least, tab_from, tab}
use Rattle.prelude.specs.Bits.{bit, mask}
use Rattle.prelude.specs.Pages.{page_at, pages_of, flat}
use Rattle.model.specs.Sizes.{vacant, Sizes, plain_sizes, is_coded, is_marked, sizes_ok}
use Rattle.model.specs.Directory.{inFrame, vacant_directory, blank_cache}
use Rattle.model.specs.Soundness.{shape_ok, slot_ok, frame_ok, slots_differ, frames_differ, cached_once, listed_once, slot_past, framePast}
use Rattle.model.specs.Soundness.{uses_ok, sound}
use Rattle.model.specs.Policy.{in_block, slot_of, in_slots, frame_with, frame_of, valid_count, slot_count, read_way, least_recent, victim}
use Rattle.model.specs.Policy.{fewest_valid, evictable, any_evictable, evict_frame, eviction_plan, plan, occupied, lowest_in_slots, due_of}
use Rattle.model.specs.Policy.{cached, is_worn, lowest_worn}
use Rattle.model.specs.Policy.{fewest_uses, policy_choice}
use Rattle.model.specs.Moves.{cell_at, flash_page, programmed, worn, worn_by, recency_after, touched, put_slot, entered, put_slot_page}
use Rattle.model.specs.Moves.{put_frame_page}
use Rattle.model.specs.Moves.{joined, filled, joined_pages, unmet, spare, taken, given_slot, exchanged, exchanged_pages, vacated, merged}
use Rattle.model.specs.Moves.{rewritten_pages, read_directory, written, stepped, read_page, written_pages, stepped_pages}
use Rattle.model.specs.Moves.{oneMore}
use Rattle.model.specs.Calls.{read_done, write_done, flush_done, refused, Answer, Call, read, write, flush, checked, read_outcome}
use Rattle.model.specs.Calls.{write_outcome, step_outcome, steps, flush_outcome, decide, steps_pages, call_pages, Page, Buffers, lent_ok}
use Rattle.model.specs.Calls.{open_store, Store, zero_page, memory_of, buffers_of, carried_out, call}
use Rattle.model.specs.Calls.{flash_cells, call_reading, reads_all, heeding, fault_of, fault_met, some_page, mends_of, mends_met, sum}
use Rattle.model.specs.Calls.{reads_flash}
use Rattle.model.specs.Calls.{reads_page, steps_merge, merges_page}
use Rattle.model.specs.Formats.{format_of, torn, store_format}
use Rattle.model.specs.Lists.{book_says, flash_pages, base_after, Put, Reference, opened, fed, array_after, log_after, before_after}
use Rattle.model.specs.Lists.{block_pages, times_cached}

abbrev pub sizes_a : Sizes
sizes_a = plain_sizes 1 2 3 2 1 9

abbrev pub lent_a : Buffers
lent_a = record { flash = replicate 6 255; codes = []; marks = []; wear = replicate 3 0; pspace = replicate 2 0; bspace = replicate 2 0 }

-- four writes, the last by way 7; a read from a frame, one from flash; a refused read and a refused write; a flush
writes_a : List (Call Page)
writes_a = write 0 (10 ∷ []) ∷ write 2 (20 ∷ []) ∷ write 4 (30 ∷ []) ∷ write 3 (40 ∷ []) ∷ []

rest_a : List (Call Page)
rest_a = read 2 (0 ∷ []) ∷ read 1 (0 ∷ []) ∷ read 6 (7 ∷ []) ∷ write 2 (9 ∷ 9 ∷ []) ∷ flush ∷ []

-- store and reference side by side, with the answers of both and the page buffers, latest first
record Pair : Type 0 where
  store : Store
  reference : Reference
  says : List Answer
  book_said : List Answer
  buffers : List Page

both : Pair → List (Call Page) → Pair
both p [] = p
both p (c ∷ cs) =
    let r = call store_format policy_choice p.store c in
    let o = book_says sizes_a p.reference (record { choice = policy_choice; besides = λ i. false; call = c }) r.answer in
    both (record {
      store = r.store;
      reference = fed sizes_a p.reference c o (flash_cells store_format sizes_a r.store.lent);
      says = r.answer ∷ p.says;
      book_said = o.answer ∷ p.book_said;
      buffers = r.page ∷ p.buffers;
    }) cs

start : Pair
start = record {
  store = record { cache = (open_store store_format sizes_a lent_a).cache; lent = lent_a };
  reference = opened store_format sizes_a lent_a;
  says = [];
  book_said = [];
  buffers = [];
}

wrote : Pair
wrote = both start writes_a

ran : Pair
ran = both wrote rest_a

abbrev both_say : List Answer
both_say = flush_done 2 1 ∷ refused 2 vacant ∷ refused 5 vacant ∷ read_done 3 ∷ read_done 2 ∷ write_done 7 0 1 ∷ write_done 5 vacant 0
    ∷ write_done 3 vacant 0 ∷ write_done 3 vacant 0 ∷ []

-- x was accepted for page n
abbrev put : ℕ → Page → Put
put n x = record { page = n; bytes = x }

pub record Clauses : Type 0 where
  -- the store answers as the book does, refusals included
  answers : ran.says ≡ both_say
  book-answers : ran.book_said ≡ both_say
  -- the page array: what was last accepted for each page, or what flash held at opening
  array : ran.reference.array ≡ (10 ∷ []) ∷ (255 ∷ []) ∷ (20 ∷ []) ∷ (40 ∷ []) ∷ (30 ∷ []) ∷ (255 ∷ []) ∷ []
  -- what was accepted, latest first: the four writes, and nothing of the refused calls, the reads and the flush
  log : ran.reference.log ≡ put 3 (40 ∷ []) ∷ put 4 (30 ∷ []) ∷ put 2 (20 ∷ []) ∷ put 0 (10 ∷ []) ∷ []
  -- each accepted read gave that page, of 2 and of 1, and the refused calls left their buffers
  reads : take 5 ran.buffers ≡ [] ∷ (9 ∷ 9 ∷ []) ∷ (7 ∷ []) ∷ (255 ∷ []) ∷ (20 ∷ []) ∷ []
  -- no page is cached twice
  once : tab 6 (times_cached sizes_a wrote.store.cache.directory) ≡ 0 ∷ 0 ∷ 1 ∷ 1 ∷ 1 ∷ 0 ∷ []
  -- array and log before the call of a block's last rewrite: the fourth write made block 0's
  arrays_before : wrote.reference.array_before
      ≡ ((10 ∷ []) ∷ (255 ∷ []) ∷ (20 ∷ []) ∷ (255 ∷ []) ∷ (30 ∷ []) ∷ (255 ∷ []) ∷ []) ∷ replicate 6 (255 ∷ []) ∷ replicate 6
      (255 ∷ []) ∷ []
  logs_before : wrote.reference.log_before ≡ (put 4 (30 ∷ []) ∷ put 2 (20 ∷ []) ∷ put 0 (10 ∷ []) ∷ []) ∷ [] ∷ [] ∷ []
  -- every flash block is, as a whole, the array before the call of its last rewrite, or at opening
  blocks_whole : tab 3 (block_pages sizes_a (flash_pages store_format sizes_a wrote.store.lent))
      ≡ ((10 ∷ []) ∷ (255 ∷ []) ∷ []) ∷ replicate 2 (255 ∷ []) ∷ replicate 2 (255 ∷ []) ∷ []
  -- each block's wear is the book's
  wear : ran.store.lent.wear ≡ 1 ∷ 1 ∷ 1 ∷ []
  book-wear : ran.reference.book.wear ≡ 1 ∷ 1 ∷ 1 ∷ []
  -- after the flush, flash is that array
  flash : ran.store.lent.flash ≡ 10 ∷ 255 ∷ 20 ∷ 40 ∷ 30 ∷ 255 ∷ []

-- every clause holds, by computing with the definitions
pub clauses : Clauses
unfolding start wrote ran both writes_a rest_a block_pages times_cached opened fed array_after log_after before_after open_store call
    carried_out memory_of buffers_of zero_page lent_ok call_pages steps_pages decide flush_outcome steps step_outcome write_outcome
    read_outcome checked stepped_pages written_pages read_page stepped written read_directory rewritten_pages merged vacated exchanged_pages
    exchanged given_slot taken spare unmet joined_pages filled joined put_frame_page put_slot_page entered put_slot touched recency_after
    oneMore worn_by worn programmed flash_page format_of torn flash_cells call_reading reads_all heeding fault_of fault_met some_page
    mends_of mends_met sum reads_flash reads_page steps_merge merges_page cell_at base_after flash_pages is_coded is_marked lowest_worn
    is_worn cached due_of lowest_in_slots occupied plan eviction_plan evict_frame any_evictable evictable fewest_valid victim policy_choice
    fewest_uses least_recent read_way slot_count valid_count frame_of frame_with in_slots slot_of in_block inFrame sound uses_ok framePast
    slot_past listed_once cached_once frames_differ slots_differ frame_ok slot_ok shape_ok sizes_ok vacant_directory blank_cache every first
    first_from count all all_pairs tab tab_from bit mask nth argmax least page_at pages_of flat
clauses = record {
  answers = refl;
  book-answers = refl;
  array = refl;
  log = refl;
  reads = refl;
  once = refl;
  arrays_before = refl;
  logs_before = refl;
  blocks_whole = refl;
  wear = refl;
  book-wear = refl;
  flash = refl;
}
