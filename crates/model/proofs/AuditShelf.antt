-- Request A8: histories with shelf pages, and records whose entries are spoilt. The rows were worked out by tools/shelf-rows.
use mathlib.Core.Path.{◌≡◌, refl}
use mathlib.Core.Bool.{false}
use mathlib.Core.List.{List, [], ◌∷◌, ◌++◌, map, reverse}
use Prim.Native.Nat.{ℕ, ◌-◌}
use lib.ListN.{length, replicate}
use Rattle.prelude.specs.Tests.{every}
use Rattle.prelude.specs.Scan.{first_from, first, count, all, all_pairs, nth, argmax, least, tab_from, tab}
use Rattle.prelude.specs.Bits.{bit, mask}
use Rattle.prelude.specs.Pages.{page_at, laid, pages_of, flat}
use Rattle.model.specs.Sizes.{Sizes, vacant, sizes_ok, is_coded, is_marked}
use Rattle.model.specs.Directory.{inFrame, vacant_directory, blank_cache}
use Rattle.model.specs.Soundness.{shape_ok, slot_ok, frame_ok, slots_differ, frames_differ, cached_once, listed_once, slot_past, framePast}
use Rattle.model.specs.Soundness.{uses_ok, sound}
use Rattle.model.specs.Policy.{in_block, slot_of, in_slots, frame_with, frame_of, valid_count, slot_count, read_way, least_recent, victim}
use Rattle.model.specs.Policy.{fewest_valid, evictable, any_evictable, evict_frame, eviction_plan, plan, occupied, lowest_in_slots, due_of}
use Rattle.model.specs.Policy.{cached, is_worn, lowest_worn, fewest_uses, policy_choice}
use Rattle.model.specs.Moves.{cell_at, flash_page, programmed, worn, worn_by, recency_after, touched, put_slot, entered, oneMore}
use Rattle.model.specs.Moves.{put_slot_page, put_frame_page, joined, filled, joined_pages, unmet, spare, taken, given_slot, exchanged}
use Rattle.model.specs.Moves.{exchanged_pages, vacated, merged, rewritten_pages, read_directory, written, stepped, read_page}
use Rattle.model.specs.Moves.{written_pages, stepped_pages}
use Rattle.model.specs.Calls.{Answer, read_done, write_done, flush_done, refused, read, write, part, step, flush, checked}
use Rattle.model.specs.Calls.{read_outcome, write_outcome, part_outcome, step_outcome, steps, flush_outcome, decide, steps_pages, combined}
use Rattle.model.specs.Calls.{call_pages, Page, Format, Buffers, lent_ok, open_store, zero_page, memory_of, buffers_of, carried_out}
use Rattle.model.specs.Calls.{reads_all, call_reading, call, heeding, fault_of, fault_met, some_page, mends_of, mends_met, sum, reads_flash}
use Rattle.model.specs.Calls.{reads_page, steps_merge, merges_page, flash_cells, page_seen, lent_buffer}
use Rattle.model.specs.Formats.{format_of, torn, plain}
use Rattle.model.specs.Shelf.{shelved, shelve, shelf_ok, ShelfCall, plainly, back, entries_after, shelf_after, ShelfStore, ShelfResult}
use Rattle.model.specs.Shelf.{shelving_reads, ordinary, shelf_call, no_entries}
use Rattle.model.proofs.AuditRows.{way, directory_of}
use Rattle.model.proofs.AuditCells.{copies}

-- 3 blocks of 2 pages of a byte, a slot, a frame, and h shelf pages
abbrev sizes_with : ℕ → Sizes
sizes_with h = record { S = 1; K = 2; N = 3; P = 1; B = 1; W = 9; policy = 0; coded = 0; shelf_pages = h; marked = 0 }

-- ---- what a row lists

-- Each call's answer, its mends and the page buffer then; at the end the record, the lent buffers and the shelf. Slots and
-- frames that a row does not list are vacant, their bits and uses 0, and their order entry is their own index.
record Gives : Type 0 where
  answers : List Answer
  mends : List ℕ
  buffers : List Page
  slots : List ℕ
  frames : List ℕ
  valid : List ℕ
  uses : List ℕ
  flash : List ℕ
  codes : List ℕ
  wear : List ℕ
  pspace : List ℕ
  bspace : List ℕ
  entries : List ℕ
  shelf : List ℕ

-- an opening with so many shelf pages, all 0, on flash and codes as given (without codes: those of a plain store), and the calls after it
record Row : Type 0 where
  pages : ℕ
  wear : List ℕ
  flash : List ℕ
  codes : List ℕ
  calls : List ShelfCall
  gives : Gives

-- ---- what is compared

record Ran : Type 0 where
  answers : List Answer
  mends : List ℕ
  buffers : List Page
  store : ShelfStore

-- with codes, a page has two copies of its byte
abbrev format_by : List ℕ → Format
format_by [] = plain
format_by (x ∷ l) = format_of copies false

abbrev listed : Row → Ran
listed r = let g = r.gives in record {
  answers = g.answers;
  mends = g.mends;
  buffers = g.buffers;
  store = record {
    store = record {
      cache = record { sizes = sizes_with r.pages; directory = directory_of g.slots g.frames g.valid [] g.uses };
      lent = record { flash = g.flash; codes = g.codes; marks = []; wear = g.wear; pspace = g.pspace; bspace = g.bspace };
    };
    entries = g.entries;
    shelf = g.shelf;
  };
}

-- the calls one after the other, by the definitions
abbrev runs : Format → ℕ → ShelfStore → List ShelfCall → List Answer → List ℕ → List Page → Ran
runs fmt h s [] ys ms bs = record { answers = reverse ys; mends = reverse ms; buffers = reverse bs; store = s }
runs fmt h s (c ∷ cs) ys ms bs =
    let r = shelf_call fmt h policy_choice s c in runs fmt h r.store cs (r.answer ∷ ys) (r.mends ∷ ms) (r.page ∷ bs)

abbrev given : Row → Ran
given r = let u : Buffers = record {
  flash = r.flash;
  codes = r.codes;
  marks = [];
  wear = r.wear;
  pspace = 0 ∷ [];
  bspace = 0 ∷ 0 ∷ [];
} in let fmt = format_by r.codes in
    runs fmt r.pages (record {
      store = record { cache = (open_store fmt (sizes_with r.pages) u).cache; lent = u };
      entries = no_entries;
      shelf = replicate r.pages 0;
    }) r.calls [] [] []

-- ---- the rows

-- a byte is written as page n; a page buffer of another length is lent; bytes are laid into page n, with a page buffer of 7; it is read;
-- a flush
abbrev w : ℕ → ℕ → ShelfCall
w n b = plainly (write n (b ∷ []))

abbrev lends : ℕ → Page → ShelfCall
lends n x = plainly (write n x)

abbrev p : ℕ → Page → ShelfCall
p n x = plainly (part n 0 x (7 ∷ []))

abbrev r : ℕ → ShelfCall
r n = plainly (read n (7 ∷ []))

abbrev clean : ShelfCall
clean = plainly flush

-- One shelf page: the second write drops the first entry. One write is taken back, and then the shelf is empty.
abbrev one-page : Row
one-page = record {
  pages = 1;
  wear = 0 ∷ 0 ∷ 0 ∷ [];
  flash = 255 ∷ 255 ∷ 255 ∷ 255 ∷ 255 ∷ 255 ∷ [];
  codes = [];
  calls = w 0 10 ∷ w 0 11 ∷ back ∷ back ∷ r 0 ∷ [];
  gives = record {
    answers = way 3 ∷ way 1 ∷ way 1 ∷ refused 8 vacant ∷ read_done 1 ∷ [];
    mends = 0 ∷ 0 ∷ 0 ∷ 0 ∷ 0 ∷ [];
    buffers = (10 ∷ []) ∷ (11 ∷ []) ∷ [] ∷ [] ∷ (10 ∷ []) ∷ [];
    slots = 0 ∷ [];
    frames = vacant ∷ [];
    valid = 0 ∷ [];
    uses = 0 ∷ [];
    flash = 255 ∷ 255 ∷ 255 ∷ 255 ∷ 255 ∷ 255 ∷ [];
    codes = [];
    wear = 0 ∷ 0 ∷ 0 ∷ [];
    pspace = 10 ∷ [];
    bspace = 0 ∷ 0 ∷ [];
    entries = vacant ∷ vacant ∷ vacant ∷ vacant ∷ vacant ∷ vacant ∷ vacant ∷ vacant ∷ [];
    shelf = 10 ∷ [];
  };
}

-- Three shelf pages and four writes: the oldest entry leaves, all else moves down by one; three are taken back.
abbrev three-pages : Row
three-pages = record {
  pages = 3;
  wear = 0 ∷ 0 ∷ 0 ∷ [];
  flash = 255 ∷ 255 ∷ 255 ∷ 255 ∷ 255 ∷ 255 ∷ [];
  codes = [];
  calls = w 0 10 ∷ w 2 20 ∷ w 0 11 ∷ w 4 30 ∷ back ∷ back ∷ back ∷ back ∷ r 0 ∷ r 2 ∷ r 4 ∷ [];
  gives = record {
    answers = way 3 ∷ way 5 ∷ way 2 ∷ write_done 7 0 1 ∷ way 1 ∷ write_done 7 1 1 ∷ write_done 7 2 1 ∷ refused 8 vacant ∷ read_done 2
        ∷ read_done 1 ∷ read_done 3 ∷ [];
    mends = 0 ∷ 0 ∷ 0 ∷ 0 ∷ 0 ∷ 0 ∷ 0 ∷ 0 ∷ 0 ∷ 0 ∷ 0 ∷ [];
    buffers = (10 ∷ []) ∷ (20 ∷ []) ∷ (11 ∷ []) ∷ (30 ∷ []) ∷ [] ∷ [] ∷ [] ∷ [] ∷ (10 ∷ []) ∷ (255 ∷ []) ∷ (255 ∷ []) ∷ [];
    slots = 2 ∷ [];
    frames = 0 ∷ [];
    valid = 1 ∷ [];
    uses = 2 ∷ [];
    flash = 11 ∷ 255 ∷ 20 ∷ 255 ∷ 255 ∷ 255 ∷ [];
    codes = [];
    wear = 1 ∷ 1 ∷ 1 ∷ [];
    pspace = 255 ∷ [];
    bspace = 10 ∷ 255 ∷ [];
    entries = vacant ∷ vacant ∷ vacant ∷ vacant ∷ vacant ∷ vacant ∷ vacant ∷ vacant ∷ [];
    shelf = 255 ∷ 10 ∷ 255 ∷ [];
  };
}

-- The same, before anything is taken back.
abbrev overflow : Row
overflow = record {
  pages = 3;
  wear = 0 ∷ 0 ∷ 0 ∷ [];
  flash = 255 ∷ 255 ∷ 255 ∷ 255 ∷ 255 ∷ 255 ∷ [];
  codes = [];
  calls = w 0 10 ∷ w 2 20 ∷ w 0 11 ∷ w 4 30 ∷ [];
  gives = record {
    answers = way 3 ∷ way 5 ∷ way 2 ∷ write_done 7 0 1 ∷ [];
    mends = 0 ∷ 0 ∷ 0 ∷ 0 ∷ [];
    buffers = (10 ∷ []) ∷ (20 ∷ []) ∷ (11 ∷ []) ∷ (30 ∷ []) ∷ [];
    slots = 4 ∷ [];
    frames = 1 ∷ [];
    valid = 1 ∷ [];
    uses = 1 ∷ [];
    flash = 11 ∷ 255 ∷ 255 ∷ 255 ∷ 255 ∷ 255 ∷ [];
    codes = [];
    wear = 1 ∷ 0 ∷ 0 ∷ [];
    pspace = 30 ∷ [];
    bspace = 20 ∷ 255 ∷ [];
    entries = 2 ∷ 0 ∷ 4 ∷ vacant ∷ vacant ∷ vacant ∷ vacant ∷ vacant ∷ [];
    shelf = 255 ∷ 10 ∷ 255 ∷ [];
  };
}

-- The same page stands twice, and a third time.
abbrev page-twice : Row
page-twice = record {
  pages = 3;
  wear = 0 ∷ 0 ∷ 0 ∷ [];
  flash = 255 ∷ 255 ∷ 255 ∷ 255 ∷ 255 ∷ 255 ∷ [];
  codes = [];
  calls = w 3 1 ∷ w 3 2 ∷ w 3 3 ∷ back ∷ back ∷ r 3 ∷ back ∷ r 3 ∷ [];
  gives = record {
    answers = way 3 ∷ way 1 ∷ way 1 ∷ way 1 ∷ way 1 ∷ read_done 1 ∷ way 1 ∷ read_done 1 ∷ [];
    mends = 0 ∷ 0 ∷ 0 ∷ 0 ∷ 0 ∷ 0 ∷ 0 ∷ 0 ∷ [];
    buffers = (1 ∷ []) ∷ (2 ∷ []) ∷ (3 ∷ []) ∷ [] ∷ [] ∷ (1 ∷ []) ∷ [] ∷ (255 ∷ []) ∷ [];
    slots = 3 ∷ [];
    frames = vacant ∷ [];
    valid = 0 ∷ [];
    uses = 0 ∷ [];
    flash = 255 ∷ 255 ∷ 255 ∷ 255 ∷ 255 ∷ 255 ∷ [];
    codes = [];
    wear = 0 ∷ 0 ∷ 0 ∷ [];
    pspace = 255 ∷ [];
    bspace = 0 ∷ 0 ∷ [];
    entries = vacant ∷ vacant ∷ vacant ∷ vacant ∷ vacant ∷ vacant ∷ vacant ∷ vacant ∷ [];
    shelf = 255 ∷ 1 ∷ 2 ∷ [];
  };
}

-- Three writes are flushed and then taken back: by way 3, by way 5, and by way 7, which rewrites block 2.
abbrev by-way_7 : Row
by-way_7 = record {
  pages = 3;
  wear = 0 ∷ 0 ∷ 0 ∷ [];
  flash = 255 ∷ 255 ∷ 255 ∷ 255 ∷ 255 ∷ 255 ∷ [];
  codes = [];
  calls = w 0 10 ∷ w 2 20 ∷ w 4 30 ∷ clean ∷ back ∷ back ∷ back ∷ r 0 ∷ r 2 ∷ r 4 ∷ [];
  gives = record {
    answers = way 3 ∷ way 5 ∷ write_done 7 0 1 ∷ flush_done 2 2 ∷ way 3 ∷ way 5 ∷ write_done 7 2 1 ∷ read_done 1 ∷ read_done 2 ∷ read_done 3
        ∷ [];
    mends = 0 ∷ 0 ∷ 0 ∷ 0 ∷ 0 ∷ 0 ∷ 0 ∷ 0 ∷ 0 ∷ 0 ∷ [];
    buffers = (10 ∷ []) ∷ (20 ∷ []) ∷ (30 ∷ []) ∷ [] ∷ [] ∷ [] ∷ [] ∷ (255 ∷ []) ∷ (255 ∷ []) ∷ (255 ∷ []) ∷ [];
    slots = 0 ∷ [];
    frames = 1 ∷ [];
    valid = 1 ∷ [];
    uses = 2 ∷ [];
    flash = 10 ∷ 255 ∷ 20 ∷ 255 ∷ 255 ∷ 255 ∷ [];
    codes = [];
    wear = 1 ∷ 1 ∷ 2 ∷ [];
    pspace = 255 ∷ [];
    bspace = 255 ∷ 255 ∷ [];
    entries = vacant ∷ vacant ∷ vacant ∷ vacant ∷ vacant ∷ vacant ∷ vacant ∷ vacant ∷ [];
    shelf = 255 ∷ 255 ∷ 255 ∷ [];
  };
}

-- Block 2 is worn by then: the third taking back is refused 6, and its entry stays.
abbrev worn-block : Row
worn-block = record {
  pages = 3;
  wear = 0 ∷ 0 ∷ 8 ∷ [];
  flash = 255 ∷ 255 ∷ 255 ∷ 255 ∷ 255 ∷ 255 ∷ [];
  codes = [];
  calls = w 0 10 ∷ w 2 20 ∷ w 4 30 ∷ clean ∷ back ∷ back ∷ back ∷ [];
  gives = record {
    answers = way 3 ∷ way 5 ∷ write_done 7 0 1 ∷ flush_done 2 2 ∷ way 3 ∷ way 5 ∷ refused 6 2 ∷ [];
    mends = 0 ∷ 0 ∷ 0 ∷ 0 ∷ 0 ∷ 0 ∷ 0 ∷ [];
    buffers = (10 ∷ []) ∷ (20 ∷ []) ∷ (30 ∷ []) ∷ [] ∷ [] ∷ [] ∷ [] ∷ [];
    slots = 2 ∷ [];
    frames = 2 ∷ [];
    valid = 1 ∷ [];
    uses = 1 ∷ [];
    flash = 10 ∷ 255 ∷ 20 ∷ 255 ∷ 30 ∷ 255 ∷ [];
    codes = [];
    wear = 1 ∷ 1 ∷ 9 ∷ [];
    pspace = 255 ∷ [];
    bspace = 255 ∷ 255 ∷ [];
    entries = 0 ∷ vacant ∷ vacant ∷ vacant ∷ vacant ∷ vacant ∷ vacant ∷ vacant ∷ [];
    shelf = 255 ∷ 255 ∷ 255 ∷ [];
  };
}

-- Refused writes shelve nothing: an empty shelf, no such page, a page buffer too short and too long, a reach, a worn block.
abbrev refusals : Row
refusals = record {
  pages = 3;
  wear = 9 ∷ 0 ∷ 0 ∷ [];
  flash = 255 ∷ 255 ∷ 255 ∷ 255 ∷ 255 ∷ 255 ∷ [];
  codes = [];
  calls = back ∷ w 6 10 ∷ lends 0 [] ∷ lends 0 (1 ∷ 2 ∷ []) ∷ p 1 (1 ∷ 2 ∷ []) ∷ w 0 10 ∷ w 2 20 ∷ w 4 30 ∷ p 4 (30 ∷ []) ∷ [];
  gives = record {
    answers = refused 8 vacant ∷ refused 5 vacant ∷ refused 2 vacant ∷ refused 2 vacant ∷ refused 2 vacant ∷ way 3 ∷ way 5 ∷ refused 6 0
        ∷ refused 6 0 ∷ [];
    mends = 0 ∷ 0 ∷ 0 ∷ 0 ∷ 0 ∷ 0 ∷ 0 ∷ 0 ∷ 0 ∷ [];
    buffers = [] ∷ (10 ∷ []) ∷ [] ∷ (1 ∷ 2 ∷ []) ∷ (7 ∷ []) ∷ (10 ∷ []) ∷ (20 ∷ []) ∷ (30 ∷ []) ∷ (7 ∷ []) ∷ [];
    slots = 2 ∷ [];
    frames = 0 ∷ [];
    valid = 1 ∷ [];
    uses = 1 ∷ [];
    flash = 255 ∷ 255 ∷ 255 ∷ 255 ∷ 255 ∷ 255 ∷ [];
    codes = [];
    wear = 9 ∷ 0 ∷ 0 ∷ [];
    pspace = 20 ∷ [];
    bspace = 10 ∷ 0 ∷ [];
    entries = 0 ∷ 2 ∷ vacant ∷ vacant ∷ vacant ∷ vacant ∷ vacant ∷ vacant ∷ [];
    shelf = 255 ∷ 255 ∷ 0 ∷ [];
  };
}

-- A part write shelves, and without bytes it does not: there is nothing to take back then.
abbrev parts : Row
parts = record {
  pages = 3;
  wear = 0 ∷ 0 ∷ 0 ∷ [];
  flash = 255 ∷ 255 ∷ 255 ∷ 255 ∷ 255 ∷ 255 ∷ [];
  codes = [];
  calls = p 1 [] ∷ back ∷ p 1 (12 ∷ []) ∷ p 1 [] ∷ p 1 (13 ∷ []) ∷ back ∷ r 1 ∷ back ∷ r 1 ∷ back ∷ [];
  gives = record {
    answers = way 0 ∷ refused 8 vacant ∷ way 3 ∷ way 0 ∷ way 1 ∷ way 1 ∷ read_done 1 ∷ way 1 ∷ read_done 1 ∷ refused 8 vacant ∷ [];
    mends = 0 ∷ 0 ∷ 0 ∷ 0 ∷ 0 ∷ 0 ∷ 0 ∷ 0 ∷ 0 ∷ 0 ∷ [];
    buffers = (7 ∷ []) ∷ [] ∷ (12 ∷ []) ∷ (7 ∷ []) ∷ (13 ∷ []) ∷ [] ∷ (12 ∷ []) ∷ [] ∷ (255 ∷ []) ∷ [] ∷ [];
    slots = 1 ∷ [];
    frames = vacant ∷ [];
    valid = 0 ∷ [];
    uses = 0 ∷ [];
    flash = 255 ∷ 255 ∷ 255 ∷ 255 ∷ 255 ∷ 255 ∷ [];
    codes = [];
    wear = 0 ∷ 0 ∷ 0 ∷ [];
    pspace = 255 ∷ [];
    bspace = 0 ∷ 0 ∷ [];
    entries = vacant ∷ vacant ∷ vacant ∷ vacant ∷ vacant ∷ vacant ∷ vacant ∷ vacant ∷ [];
    shelf = 255 ∷ 12 ∷ 0 ∷ [];
  };
}

-- No shelf page: nothing is shelved.
abbrev no-pages : Row
no-pages = record {
  pages = 0;
  wear = 0 ∷ 0 ∷ 0 ∷ [];
  flash = 255 ∷ 255 ∷ 255 ∷ 255 ∷ 255 ∷ 255 ∷ [];
  codes = [];
  calls = w 0 10 ∷ w 0 11 ∷ back ∷ p 0 (12 ∷ []) ∷ back ∷ [];
  gives = record {
    answers = way 3 ∷ way 1 ∷ refused 8 vacant ∷ way 1 ∷ refused 8 vacant ∷ [];
    mends = 0 ∷ 0 ∷ 0 ∷ 0 ∷ 0 ∷ [];
    buffers = (10 ∷ []) ∷ (11 ∷ []) ∷ [] ∷ (12 ∷ []) ∷ [] ∷ [];
    slots = 0 ∷ [];
    frames = vacant ∷ [];
    valid = 0 ∷ [];
    uses = 0 ∷ [];
    flash = 255 ∷ 255 ∷ 255 ∷ 255 ∷ 255 ∷ 255 ∷ [];
    codes = [];
    wear = 0 ∷ 0 ∷ 0 ∷ [];
    pspace = 12 ∷ [];
    bspace = 0 ∷ 0 ∷ [];
    entries = vacant ∷ vacant ∷ vacant ∷ vacant ∷ vacant ∷ vacant ∷ vacant ∷ vacant ∷ [];
    shelf = [];
  };
}

-- A page in the frame is shelved without a use of the frame: one use is the write's, one the taking back's.
abbrev way-2 : Row
way-2 = record {
  pages = 2;
  wear = 0 ∷ 0 ∷ 0 ∷ [];
  flash = 255 ∷ 255 ∷ 255 ∷ 255 ∷ 255 ∷ 255 ∷ [];
  codes = [];
  calls = w 0 10 ∷ w 2 20 ∷ w 0 11 ∷ back ∷ r 0 ∷ [];
  gives = record {
    answers = way 3 ∷ way 5 ∷ way 2 ∷ way 2 ∷ read_done 2 ∷ [];
    mends = 0 ∷ 0 ∷ 0 ∷ 0 ∷ 0 ∷ [];
    buffers = (10 ∷ []) ∷ (20 ∷ []) ∷ (11 ∷ []) ∷ [] ∷ (10 ∷ []) ∷ [];
    slots = 2 ∷ [];
    frames = 0 ∷ [];
    valid = 1 ∷ [];
    uses = 4 ∷ [];
    flash = 255 ∷ 255 ∷ 255 ∷ 255 ∷ 255 ∷ 255 ∷ [];
    codes = [];
    wear = 0 ∷ 0 ∷ 0 ∷ [];
    pspace = 20 ∷ [];
    bspace = 10 ∷ 0 ∷ [];
    entries = 2 ∷ vacant ∷ vacant ∷ vacant ∷ vacant ∷ vacant ∷ vacant ∷ vacant ∷ [];
    shelf = 255 ∷ 10 ∷ [];
  };
}

-- With codes: shelving mends page 0 and page 1, and page 2, which is unreadable, refuses its write 7; without a shelf it does not.
-- Way 7 merges page 1, which is read for the shelf too and counts once.
abbrev coded : Row
coded = record {
  pages = 2;
  wear = 0 ∷ 0 ∷ 0 ∷ [];
  flash = 10 ∷ 99 ∷ 20 ∷ 21 ∷ 30 ∷ 31 ∷ [];
  codes = 10 ∷ 12 ∷ 11 ∷ 11 ∷ 1 ∷ 2 ∷ 21 ∷ 21 ∷ 30 ∷ 30 ∷ 31 ∷ 31 ∷ [];
  calls = w 2 50 ∷ w 0 40 ∷ w 5 45 ∷ w 1 41 ∷ back ∷ r 1 ∷ [];
  gives = record {
    answers = refused 7 vacant ∷ way 3 ∷ way 5 ∷ write_done 7 0 1 ∷ way 1 ∷ read_done 1 ∷ [];
    mends = 0 ∷ 1 ∷ 0 ∷ 1 ∷ 0 ∷ 0 ∷ [];
    buffers = (50 ∷ []) ∷ (40 ∷ []) ∷ (45 ∷ []) ∷ (41 ∷ []) ∷ [] ∷ (11 ∷ []) ∷ [];
    slots = 1 ∷ [];
    frames = 2 ∷ [];
    valid = 2 ∷ [];
    uses = 1 ∷ [];
    flash = 40 ∷ 11 ∷ 20 ∷ 21 ∷ 30 ∷ 31 ∷ [];
    codes = 40 ∷ 40 ∷ 11 ∷ 11 ∷ 1 ∷ 2 ∷ 21 ∷ 21 ∷ 30 ∷ 30 ∷ 31 ∷ 31 ∷ [];
    wear = 1 ∷ 0 ∷ 0 ∷ [];
    pspace = 11 ∷ [];
    bspace = 40 ∷ 45 ∷ [];
    entries = 5 ∷ vacant ∷ vacant ∷ vacant ∷ vacant ∷ vacant ∷ vacant ∷ vacant ∷ [];
    shelf = 31 ∷ 11 ∷ [];
  };
}

-- The same without shelf pages.
abbrev coded-unshelved : Row
coded-unshelved = record {
  pages = 0;
  wear = 0 ∷ 0 ∷ 0 ∷ [];
  flash = 10 ∷ 99 ∷ 20 ∷ 21 ∷ 30 ∷ 31 ∷ [];
  codes = 10 ∷ 12 ∷ 11 ∷ 11 ∷ 1 ∷ 2 ∷ 21 ∷ 21 ∷ 30 ∷ 30 ∷ 31 ∷ 31 ∷ [];
  calls = w 2 50 ∷ w 0 40 ∷ w 1 41 ∷ [];
  gives = record {
    answers = way 3 ∷ way 5 ∷ write_done 7 1 1 ∷ [];
    mends = 0 ∷ 0 ∷ 0 ∷ [];
    buffers = (50 ∷ []) ∷ (40 ∷ []) ∷ (41 ∷ []) ∷ [];
    slots = 1 ∷ [];
    frames = 0 ∷ [];
    valid = 1 ∷ [];
    uses = 1 ∷ [];
    flash = 10 ∷ 99 ∷ 50 ∷ 21 ∷ 30 ∷ 31 ∷ [];
    codes = 10 ∷ 12 ∷ 11 ∷ 11 ∷ 50 ∷ 50 ∷ 21 ∷ 21 ∷ 30 ∷ 30 ∷ 31 ∷ 31 ∷ [];
    wear = 0 ∷ 1 ∷ 0 ∷ [];
    pspace = 41 ∷ [];
    bspace = 40 ∷ 21 ∷ [];
    entries = vacant ∷ vacant ∷ vacant ∷ vacant ∷ vacant ∷ vacant ∷ vacant ∷ vacant ∷ [];
    shelf = [];
  };
}

abbrev table : List Row
table = one-page ∷ three-pages ∷ overflow ∷ page-twice ∷ by-way_7 ∷ worn-block ∷ refusals ∷ parts ∷ no-pages ∷ way-2 ∷ coded
    ∷ coded-unshelved ∷ []

-- ---- entries and shelves that do not fit

-- a store as opened, with h shelf pages, these entries and this shelf
abbrev holding : ℕ → List ℕ → List ℕ → ShelfStore
holding h es sb = record {
  store = record {
    cache = record { sizes = sizes_with h; directory = vacant_directory };
    lent = record {
      flash = replicate 6 255;
      codes = [];
      marks = [];
      wear = 0 ∷ 0 ∷ 0 ∷ [];
      pspace = 0 ∷ [];
      bspace = 0 ∷ 0 ∷ [];
    };
  };
  entries = es;
  shelf = sb;
}

record Try : Type 0 where
  pages : ℕ
  entries : List ℕ
  shelf : List ℕ
  -- the refusal of every call
  gives : ℕ

-- the first entries are listed, the rest are vacant
abbrev tries : ℕ → List ℕ → List ℕ → ℕ → Try
tries h es sb n = record { pages = h; entries = es ++ replicate (8 - length es) vacant; shelf = sb; gives = n }

abbrev each-call : List ShelfCall
each-call = r 0 ∷ w 1 7 ∷ p 1 (9 ∷ []) ∷ p 1 [] ∷ plainly step ∷ clean ∷ back ∷ []

abbrev buffer : ShelfCall → Page
buffer (plainly c) = lent_buffer c
buffer back = []

abbrev tried : Try → List ShelfResult
tried t = map (λ c. shelf_call plain t.pages policy_choice (holding t.pages t.entries t.shelf) c) each-call

abbrev refuses : Try → List ShelfResult
refuses t = map (λ c. record {
  answer = refused t.gives vacant;
  mends = 0;
  store = holding t.pages t.entries t.shelf;
  page = buffer c;
}) each-call

abbrev unfit : List Try
unfit =
    -- more entries than shelf pages
    tries 1 (0 ∷ 1 ∷ []) (0 ∷ []) 4
    ∷ tries 2 (0 ∷ 0 ∷ 0 ∷ []) (0 ∷ 0 ∷ []) 4
    ∷ tries 0 (0 ∷ []) [] 4
    -- an entry has page N×K, or the highest number that is not vacant
    ∷ tries 2 (6 ∷ []) (0 ∷ 0 ∷ []) 4
    ∷ tries 2 (0 ∷ 4294967294 ∷ []) (0 ∷ 0 ∷ []) 4
    -- a vacant entry before one in use, and the last entry in use
    ∷ tries 2 (vacant ∷ 0 ∷ []) (0 ∷ 0 ∷ []) 4
    ∷ tries 3 (0 ∷ vacant ∷ 0 ∷ []) (0 ∷ 0 ∷ 0 ∷ []) 4
    ∷ tries 3 (vacant ∷ vacant ∷ vacant ∷ vacant ∷ vacant ∷ vacant ∷ vacant ∷ 0 ∷ []) (0 ∷ 0 ∷ 0 ∷ []) 4
    -- nine entries
    ∷ tries 3 (vacant ∷ vacant ∷ vacant ∷ vacant ∷ vacant ∷ vacant ∷ vacant ∷ vacant ∷ vacant ∷ []) (0 ∷ 0 ∷ 0 ∷ []) 4
    -- nine shelf pages
    ∷ tries 9 [] (replicate 9 0) 4
    -- a shelf too short and too long, with an entry and without, and none; entries that are spoilt come first
    ∷ tries 2 (0 ∷ []) (0 ∷ []) 2
    ∷ tries 2 [] (0 ∷ 0 ∷ 0 ∷ []) 2
    ∷ tries 2 [] [] 2
    ∷ tries 0 [] (0 ∷ []) 2
    ∷ tries 1 (6 ∷ []) [] 4
    ∷ []

-- every row holds, by the definitions
pub shelf-rows : (map given table ≡ map listed table) × (map tried unfit ≡ map refuses unfit)
unfolding shelf_call shelf_ok shelved shelve entries_after shelf_after shelving_reads ordinary page_seen open_store call carried_out
    memory_of buffers_of zero_page lent_ok call_pages steps_pages decide flush_outcome steps step_outcome part_outcome write_outcome
    read_outcome checked combined laid stepped_pages written_pages read_page stepped written read_directory rewritten_pages merged vacated
    exchanged_pages exchanged given_slot taken spare unmet joined_pages filled joined put_frame_page put_slot_page entered put_slot touched
    recency_after oneMore worn_by worn programmed flash_page lowest_worn format_of torn flash_cells call_reading reads_all heeding fault_of
    fault_met some_page mends_of mends_met sum reads_flash reads_page steps_merge merges_page cell_at is_worn cached due_of lowest_in_slots
    occupied plan eviction_plan evict_frame any_evictable evictable fewest_valid victim policy_choice fewest_uses least_recent read_way
    slot_count valid_count frame_of frame_with in_slots slot_of in_block inFrame sound framePast uses_ok slot_past listed_once cached_once
    frames_differ slots_differ frame_ok slot_ok shape_ok sizes_ok vacant_directory blank_cache every first first_from count all all_pairs
    tab tab_from bit mask nth argmax least page_at pages_of flat is_coded is_marked
shelf-rows = (refl, refl)
