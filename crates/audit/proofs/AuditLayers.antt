-- Histories with a shelf, what a store without one refuses, and calls that are cut off.
use mathlib.Core.Path.{◌≡◌, refl}
use mathlib.Core.Bool.{true}
use mathlib.Core.List.{List, [], ◌∷◌, map, reverse}
use Prim.Native.Nat.{ℕ}
use lib.ListN.{get_or, replicate, take, set}
use Rattle.prelude.specs.Tests.{every}
use Rattle.prelude.specs.Scan.{first_from, first, count, all, all_pairs, nth, argmax, least, tab_from, tab}
use Rattle.prelude.specs.Bits.{bit, mask}
use Rattle.prelude.specs.Pages.{page_at, laid, pages_of, flat}
use Rattle.model.specs.Sizes.{Sizes, vacant, sizes_ok, plain_sizes, is_coded, is_marked}
use Rattle.model.specs.Directory.{inFrame, vacant_directory, blank_cache}
use Rattle.model.specs.Soundness.{shape_ok, slot_ok, frame_ok, slots_differ, frames_differ, cached_once, listed_once, slot_past, framePast}
use Rattle.model.specs.Soundness.{uses_ok, sound}
use Rattle.model.specs.Policy.{in_block, slot_of, in_slots, frame_with, frame_of, valid_count, slot_count, read_way, least_recent, victim}
use Rattle.model.specs.Policy.{fewest_valid, evictable, any_evictable, evict_frame, eviction_plan, plan, occupied, lowest_in_slots, due_of}
use Rattle.model.specs.Policy.{cached, is_worn, lowest_worn}
use Rattle.model.specs.Policy.{fewest_uses, policy_choice}
use Rattle.model.specs.Moves.{cell_at, flash_page, programmed, programmed_to, worn, worn_by, recency_after, touched, put_slot, entered}
use Rattle.model.specs.Moves.{put_slot_page, put_frame_page, joined, filled, joined_pages, unmet, spare, taken, given_slot, exchanged}
use Rattle.model.specs.Moves.{exchanged_pages, vacated, merged, rewritten_pages, read_directory, written, stepped, read_page}
use Rattle.model.specs.Moves.{written_pages, stepped_pages}
use Rattle.model.specs.Moves.{oneMore}
use Rattle.model.specs.Calls.{Answer, open_done, read_done, write_done, refused, Call, read, write, part}
use Rattle.model.specs.Calls.{step, flush, checked, read_outcome, write_outcome, part_outcome, step_outcome, steps, flush_outcome, decide}
use Rattle.model.specs.Calls.{steps_pages, combined, call_pages, Page, Format, Buffers, lent_ok, torn_blocks, open_store, Store}
use Rattle.model.specs.Calls.{state_of}
use Rattle.model.specs.Calls.{zero_page, memory_of, buffers_of, raw_of, marks_of, carried_out, reads_all, call_reading, call, heeding}
use Rattle.model.specs.Calls.{fault_of, fault_met, some_page, mends_of, mends_met, sum, reads_flash, reads_page, steps_merge, merges_page}
use Rattle.model.specs.Calls.{flash_cells, page_seen, lent_buffer}
use Rattle.model.specs.Formats.{no_code, format_of, torn, plain}
use Rattle.model.specs.Cut.{cut_rewrite, cut_step, cut_write, cut_steps, cut_call}
use Rattle.model.specs.Shelf.{shelved, shelve, shelf_ok, ShelfCall, plainly, back, entries_after, shelf_after, ShelfStore, shelving_reads}
use Rattle.model.specs.Shelf.{ordinary, shelf_call, no_entries, ShelfResult, ShelfOpened, open_shelf, store_open, store_call}

abbrev sizes_a : Sizes
sizes_a = plain_sizes 1 2 3 1 1 9

-- ---- the shelf

record Gives : Type 0 where
  answers : List Answer
  bytes : List ℕ
  entries : List ℕ
  shelf : List ℕ

runs : ℕ → ShelfStore → List ShelfCall → List Answer → List ℕ → Gives
runs h s [] ys bs = record { answers = reverse ys; bytes = reverse bs; entries = take 3 s.entries; shelf = s.shelf }
runs h s (c ∷ cs) ys bs = let r = shelf_call plain h policy_choice s c in runs h r.store cs (r.answer ∷ ys) (get_or r.page 0 0 ∷ bs)

start : ℕ → ShelfStore
start h = let u : Buffers = record {
  flash = replicate 6 255;
  codes = [];
  marks = [];
  wear = replicate 3 0;
  pspace = 0 ∷ [];
  bspace = 0 ∷ 0 ∷ [];
} in
    record { store = record { cache = (open_store plain sizes_a u).cache; lent = u }; entries = replicate 8 vacant; shelf = replicate h 0 }

abbrev way : ℕ → Answer
way n = write_done n vacant 0

-- two shelf pages: the third write drops the oldest entry; two are taken back, the third taking back is refused 8
two-pages : Gives
two-pages = runs 2 (start 2) (plainly (write 0 (10 ∷ [])) ∷ plainly (write 0 (11 ∷ [])) ∷ plainly (write 2 (20 ∷ [])) ∷ back ∷ back ∷ back
    ∷ plainly (read 0 (7 ∷ [])) ∷ plainly (read 2 (7 ∷ [])) ∷ []) [] []

-- refused calls shelve nothing, a part write does, and without bytes it does not
parts : Gives
parts = runs 2 (start 2) (back ∷ plainly (write 6 (10 ∷ [])) ∷ plainly (part 1 0 [] (7 ∷ [])) ∷ plainly (part 1 0 (12 ∷ []) (7 ∷ [])) ∷ [])
    [] []

-- no shelf page: nothing is shelved
no-pages : Gives
no-pages = runs 0 (start 0) (plainly (write 0 (10 ∷ [])) ∷ back ∷ []) [] []

shelf-rows : two-pages ∷ parts ∷ no-pages ∷ [] ≡
    record {
      answers = way 3 ∷ way 1 ∷ way 5 ∷ way 1 ∷ way 2 ∷ refused 8 vacant ∷ read_done 2 ∷ read_done 1 ∷ [];
      bytes = 10 ∷ 11 ∷ 20 ∷ 0 ∷ 0 ∷ 0 ∷ 10 ∷ 255 ∷ [];
      entries = vacant ∷ vacant ∷ vacant ∷ [];
      shelf = 10 ∷ 255 ∷ [];
    }
    ∷ record {
      answers = refused 8 vacant ∷ refused 5 vacant ∷ way 0 ∷ way 3 ∷ [];
      bytes = 0 ∷ 10 ∷ 7 ∷ 12 ∷ [];
      entries = 1 ∷ vacant ∷ vacant ∷ [];
      shelf = 255 ∷ 0 ∷ [];
    }
    ∷ record { answers = way 3 ∷ refused 8 vacant ∷ []; bytes = 10 ∷ 0 ∷ []; entries = vacant ∷ vacant ∷ vacant ∷ []; shelf = [] } ∷ []
unfolding two-pages parts no-pages runs start shelf_call shelf_ok shelved shelve entries_after shelf_after shelving_reads ordinary page_seen
    open_store call carried_out memory_of buffers_of zero_page lent_ok call_pages steps_pages decide flush_outcome steps step_outcome
    part_outcome write_outcome read_outcome checked combined laid stepped_pages written_pages read_page stepped written read_directory
    rewritten_pages merged vacated exchanged_pages exchanged given_slot taken spare unmet joined_pages filled joined put_frame_page
    put_slot_page entered put_slot touched recency_after oneMore worn_by worn programmed flash_page lowest_worn format_of torn flash_cells
    call_reading reads_all heeding fault_of fault_met some_page mends_of mends_met sum reads_flash reads_page steps_merge merges_page
    cell_at is_worn cached due_of lowest_in_slots occupied plan eviction_plan evict_frame any_evictable evictable fewest_valid victim
    policy_choice fewest_uses least_recent read_way slot_count valid_count frame_of frame_with in_slots slot_of in_block inFrame sound
    framePast uses_ok slot_past listed_once cached_once frames_differ slots_differ frame_ok slot_ok shape_ok sizes_ok vacant_directory
    blank_cache every first first_from count all all_pairs tab tab_from bit mask nth argmax least page_at pages_of flat
shelf-rows = refl

-- ---- no shelf page: entries and a shelf are refused

-- page 0 written into the slot, with entries es and shelf sb beside
holding : List ℕ → List ℕ → ShelfStore
holding es sb = record {
  store = (shelf_call plain 0 policy_choice (start 0) (plainly (write 0 (10 ∷ [])))).store.store;
  entries = es;
  shelf = sb;
}

-- the same record, in which a slot past P has a page
spoilt : List ℕ → List ℕ → ShelfStore
spoilt es sb = let s = holding es sb in record {
  store = record {
    cache = record {
      sizes = sizes_a;
      directory = record {
        slots = set s.store.cache.directory.slots 1 4;
        frames = s.store.cache.directory.frames;
        valid = s.store.cache.directory.valid;
        recency = s.store.cache.directory.recency;
        uses = s.store.cache.directory.uses;
      };
    };
    lent = s.store.lent;
  };
  entries = es;
  shelf = sb;
}

-- every call, with a page buffer of 7
each-call : List (Call Page)
each-call = read 0 (7 ∷ []) ∷ write 1 (7 ∷ []) ∷ part 1 0 (9 ∷ []) (7 ∷ []) ∷ step ∷ flush ∷ []

-- what each leaves
all_left : ShelfStore → List ShelfResult
all_left s = map (λ c. store_call policy_choice s (plainly c)) each-call

-- refused n, and all handed back
all-refused : ℕ → ShelfStore → List ShelfResult
all-refused n s = map (λ c. record { answer = refused n vacant; mends = 0; store = s; page = lent_buffer c }) each-call

-- an entry at index 0, or at 7; a shelf of one byte; both; and each of them on the spoilt record
unshelved-rows :
    all_left (holding (set no_entries 0 0) []) ∷ all_left (holding (set no_entries 7 3) []) ∷ all_left (holding no_entries (0 ∷ []))
    ∷ all_left (holding (set no_entries 0 0) (0 ∷ [])) ∷ all_left (spoilt (set no_entries 0 0) []) ∷ all_left (spoilt no_entries (0 ∷ []))
    ∷ []
    ≡ all-refused 4 (holding (set no_entries 0 0) []) ∷ all-refused 4 (holding (set no_entries 7 3) [])
    ∷ all-refused 2 (holding no_entries (0 ∷ [])) ∷ all-refused 4 (holding (set no_entries 0 0) (0 ∷ []))
    ∷ all-refused 4 (spoilt (set no_entries 0 0) []) ∷ all-refused 4 (spoilt no_entries (0 ∷ [])) ∷ []
unfolding start holding spoilt each-call all_left all-refused shelf_call shelf_ok shelved shelve entries_after shelf_after shelving_reads
    ordinary page_seen open_store call carried_out memory_of buffers_of zero_page lent_ok call_pages steps_pages decide flush_outcome steps
    step_outcome part_outcome write_outcome read_outcome checked combined laid stepped_pages written_pages read_page stepped written
    read_directory rewritten_pages merged vacated exchanged_pages exchanged given_slot taken spare unmet joined_pages filled joined
    put_frame_page put_slot_page entered put_slot touched recency_after oneMore worn_by worn programmed flash_page lowest_worn format_of
    torn flash_cells call_reading reads_all heeding fault_of fault_met some_page mends_of mends_met sum reads_flash reads_page steps_merge
    merges_page cell_at is_worn cached due_of lowest_in_slots occupied plan eviction_plan evict_frame any_evictable evictable fewest_valid
    victim policy_choice fewest_uses least_recent read_way slot_count valid_count frame_of frame_with in_slots slot_of in_block inFrame
    sound framePast uses_ok slot_past listed_once cached_once frames_differ slots_differ frame_ok slot_ok shape_ok sizes_ok vacant_directory
    blank_cache every first first_from count all all_pairs tab tab_from bit mask nth argmax least page_at pages_of flat is_coded is_marked
unshelved-rows = refl

-- openings: with no shelf, with one of a byte, with one and a size beyond its limits; with a shelf page and its byte, none and two
abbrev lent_a : Buffers
lent_a = (start 0).store.lent

shelf_of1 : Sizes
shelf_of1 = record {
  S = 1;
  K = 2;
  N = 3;
  P = 1;
  B = 1;
  W = 9;
  policy = 0;
  coded = 0;
  shelf_pages = 1;
  marked = 0;
}

abbrev unopened : ℕ → ShelfOpened
unopened n = record { answer = refused n vacant; torn = 0; cache = blank_cache; entries = no_entries }

opening-rows :
    store_open sizes_a lent_a [] ∷ store_open sizes_a lent_a (0 ∷ []) ∷ store_open (plain_sizes 1 1 3 1 1 9) lent_a (0 ∷ [])
    ∷ store_open shelf_of1 lent_a (0 ∷ []) ∷ store_open shelf_of1 lent_a [] ∷ store_open shelf_of1 lent_a (0 ∷ 0 ∷ []) ∷ []
    ≡ record { answer = open_done; torn = 0; cache = record { sizes = sizes_a; directory = vacant_directory }; entries = no_entries }
    ∷ unopened
    2
    ∷ unopened 1 ∷ record {
      answer = open_done;
      torn = 0;
      cache = record { sizes = shelf_of1; directory = vacant_directory };
      entries =
          no_entries;
    }
    ∷ unopened 2 ∷ unopened 2 ∷ []
unfolding shelf_of1 start torn_blocks open_shelf shelf_call shelf_ok shelved shelve entries_after shelf_after shelving_reads ordinary
    page_seen open_store call carried_out memory_of buffers_of zero_page lent_ok call_pages steps_pages decide flush_outcome steps
    step_outcome part_outcome write_outcome read_outcome checked combined laid stepped_pages written_pages read_page stepped written
    read_directory rewritten_pages merged vacated exchanged_pages exchanged given_slot taken spare unmet joined_pages filled joined
    put_frame_page put_slot_page entered put_slot touched recency_after oneMore worn_by worn programmed flash_page lowest_worn format_of
    torn flash_cells call_reading reads_all heeding fault_of fault_met some_page mends_of mends_met sum reads_flash reads_page steps_merge
    merges_page cell_at is_worn cached due_of lowest_in_slots occupied plan eviction_plan evict_frame any_evictable evictable fewest_valid
    victim policy_choice fewest_uses least_recent read_way slot_count valid_count frame_of frame_with in_slots slot_of in_block inFrame
    sound framePast uses_ok slot_past listed_once cached_once frames_differ slots_differ frame_ok slot_ok shape_ok sizes_ok vacant_directory
    blank_cache every first first_from count all all_pairs tab tab_from bit mask nth argmax least page_at pages_of flat is_coded is_marked
opening-rows = refl

-- ---- the cut of a flush, with marks: pages 2 and 3 in the frame, page 0 in the slot

marked : Format
marked = format_of no_code true

filled_store : Store
filled_store = let u : Buffers = record {
  flash = 1 ∷ 2 ∷ 3 ∷ 4 ∷ 5 ∷ 6 ∷ [];
  codes = [];
  marks = replicate 6 0;
  wear = replicate 3 0;
  pspace = 0 ∷ [];
  bspace = 0 ∷ 0 ∷ [];
} in
    let s1 = (call marked policy_choice (record { cache = (open_store marked sizes_a u).cache; lent = u }) (write 2 (50 ∷ []))).store in
    let s2 = (call marked policy_choice s1 (write 3 (51 ∷ []))).store in
    (call marked policy_choice s2 (write 0 (52 ∷ []))).store

record Cut : Type 0 where
  flash : List ℕ
  marks : List ℕ
  wear : List ℕ

cut : ℕ → Cut
cut ops = let l = cut_call (marked.chip sizes_a) (zero_page sizes_a) policy_choice sizes_a ops (state_of filled_store)
    (memory_of marked sizes_a filled_store.lent) flush in
    record { flash = flat (raw_of l.flash); marks = flat (marks_of l.flash); wear = l.wear }

cut-rows : cut 0 ∷ cut 1 ∷ cut 2 ∷ cut 3 ∷ cut 4 ∷ cut 5 ∷ cut 6 ∷ cut 9 ∷ [] ≡
    record { flash = 1 ∷ 2 ∷ 3 ∷ 4 ∷ 5 ∷ 6 ∷ []; marks = 0 ∷ 0 ∷ 0 ∷ 0 ∷ 0 ∷ 0 ∷ []; wear = 0 ∷ 0 ∷ 0 ∷ [] }
    ∷ record { flash = 1 ∷ 2 ∷ 255 ∷ 255 ∷ 5 ∷ 6 ∷ []; marks = 0 ∷ 0 ∷ 255 ∷ 255 ∷ 0 ∷ 0 ∷ []; wear = 0 ∷ 1 ∷ 0 ∷ [] }
    ∷ record { flash = 1 ∷ 2 ∷ 50 ∷ 255 ∷ 5 ∷ 6 ∷ []; marks = 0 ∷ 0 ∷ 0 ∷ 255 ∷ 0 ∷ 0 ∷ []; wear = 0 ∷ 1 ∷ 0 ∷ [] }
    ∷ record { flash = 1 ∷ 2 ∷ 50 ∷ 51 ∷ 5 ∷ 6 ∷ []; marks = 0 ∷ 0 ∷ 0 ∷ 0 ∷ 0 ∷ 0 ∷ []; wear = 0 ∷ 1 ∷ 0 ∷ [] }
    ∷ record { flash = 255 ∷ 255 ∷ 50 ∷ 51 ∷ 5 ∷ 6 ∷ []; marks = 255 ∷ 255 ∷ 0 ∷ 0 ∷ 0 ∷ 0 ∷ []; wear = 1 ∷ 1 ∷ 0 ∷ [] }
    ∷ record { flash = 52 ∷ 255 ∷ 50 ∷ 51 ∷ 5 ∷ 6 ∷ []; marks = 0 ∷ 255 ∷ 0 ∷ 0 ∷ 0 ∷ 0 ∷ []; wear = 1 ∷ 1 ∷ 0 ∷ [] }
    ∷ record { flash = 52 ∷ 2 ∷ 50 ∷ 51 ∷ 5 ∷ 6 ∷ []; marks = 0 ∷ 0 ∷ 0 ∷ 0 ∷ 0 ∷ 0 ∷ []; wear = 1 ∷ 1 ∷ 0 ∷ [] }
    ∷ record { flash = 52 ∷ 2 ∷ 50 ∷ 51 ∷ 5 ∷ 6 ∷ []; marks = 0 ∷ 0 ∷ 0 ∷ 0 ∷ 0 ∷ 0 ∷ []; wear = 1 ∷ 1 ∷ 0 ∷ [] } ∷ []
unfolding cut marked filled_store cut_call cut_steps cut_step cut_write cut_rewrite programmed_to open_store call carried_out memory_of
    buffers_of zero_page lent_ok call_pages steps_pages decide flush_outcome steps step_outcome part_outcome write_outcome read_outcome
    checked combined laid stepped_pages written_pages read_page stepped written read_directory rewritten_pages merged vacated
    exchanged_pages exchanged given_slot taken spare unmet joined_pages filled joined put_frame_page put_slot_page entered put_slot touched
    recency_after oneMore worn_by worn programmed flash_page lowest_worn format_of torn flash_cells call_reading reads_all heeding fault_of
    fault_met some_page mends_of mends_met sum reads_flash reads_page steps_merge merges_page cell_at is_worn cached due_of lowest_in_slots
    occupied plan eviction_plan evict_frame any_evictable evictable fewest_valid victim policy_choice fewest_uses least_recent read_way
    slot_count valid_count frame_of frame_with in_slots slot_of in_block inFrame sound framePast uses_ok slot_past listed_once cached_once
    frames_differ slots_differ frame_ok slot_ok shape_ok sizes_ok vacant_directory blank_cache every first first_from count all all_pairs
    tab tab_from bit mask nth argmax least page_at pages_of flat
cut-rows = refl
