-- Request A12: histories of a marked store, and calls cut off after each number of operations. The rows were worked out by tools/cut-rows.
use mathlib.Core.Path.{◌≡◌, refl}
use mathlib.Core.Bool.{true}
use mathlib.Core.List.{List, [], ◌∷◌, map, reverse}
use Prim.Native.Nat.{ℕ, ◌-◌}
use lib.ListN.{length, replicate}
use Rattle.prelude.specs.Tests.{every}
use Rattle.prelude.specs.Scan.{first_from, first, count, all, all_pairs, nth, argmax, least, tab_from, tab}
use Rattle.prelude.specs.Bits.{bit, mask}
use Rattle.prelude.specs.Pages.{page_at, laid, pages_of, flat}
use Rattle.model.specs.Sizes.{Sizes, vacant, sizes_ok, is_coded, is_marked}
use Rattle.model.specs.Directory.{inFrame, vacant_directory, blank_cache}
use Rattle.model.specs.Soundness.{shape_ok, slot_ok, frame_ok, slots_differ, frames_differ, cached_once, listed_once, slot_past, framePast}
use Rattle.model.specs.Soundness.{uses_ok, sound}
use Rattle.model.specs.Policy.{in_block, slot_of, in_slots, frame_with, frame_of, valid_count, slot_count, read_way, least_recent, victim}
use Rattle.model.specs.Policy.{fewest_valid, evictable, any_evictable, evict_frame, eviction_plan, plan, occupied, lowest_in_slots, due_of}
use Rattle.model.specs.Policy.{cached, is_worn, lowest_worn, fewest_uses, policy_choice}
use Rattle.model.specs.Moves.{cell_at, flash_page, programmed, programmed_to, worn, worn_by, recency_after, touched, put_slot, entered}
use Rattle.model.specs.Moves.{oneMore}
use Rattle.model.specs.Moves.{put_slot_page, put_frame_page, joined, filled, joined_pages, unmet, spare, taken, given_slot, exchanged}
use Rattle.model.specs.Moves.{exchanged_pages, vacated, merged, rewritten_pages, read_directory, written, stepped, read_page}
use Rattle.model.specs.Moves.{written_pages, stepped_pages}
use Rattle.model.specs.Calls.{Answer, read_done, step_done, flush_done, refused, read, write, part, step, flush}
use Rattle.model.specs.Calls.{checked}
use Rattle.model.specs.Calls.{read_outcome, write_outcome, part_outcome, step_outcome, steps, flush_outcome, decide, steps_pages, combined}
use Rattle.model.specs.Calls.{call_pages, Page, Format, Buffers, lent_ok, torn_blocks, open_store, raw_of, marks_of, zero_page}
use Rattle.model.specs.Calls.{memory_of, buffers_of, carried_out}
use Rattle.model.specs.Calls.{reads_all, call_reading, call, heeding, fault_of, fault_met, some_page, mends_of, mends_met, sum, reads_flash}
use Rattle.model.specs.Calls.{reads_page, steps_merge, merges_page, flash_cells, page_seen}
use Rattle.model.specs.Formats.{format_of, torn, store_format}
use Rattle.model.specs.Cut.{cut_rewrite, cut_step, cut_write, cut_steps, cut_call}
use Rattle.model.specs.CutCalls.{left_after}
use Rattle.model.specs.Shelf.{shelved, shelve, shelf_ok, ShelfCall, plainly, back, entries_after, shelf_after, ShelfStore}
use Rattle.model.specs.Shelf.{shelving_reads, ordinary, shelf_call, no_entries}
use Rattle.model.proofs.AuditRows.{way}
use Rattle.model.proofs.AuditCells.{copies}

-- 3 blocks of 2 pages of a byte with a mark each, a slot, a frame, and h shelf pages
abbrev sizes_with : ℕ → Sizes
sizes_with h = record { S = 1; K = 2; N = 3; P = 1; B = 1; W = 9; policy = 0; coded = 0; shelf_pages = h; marked = 1 }

-- ---- what a row lists

-- the torn blocks that the opening answers, each call's answer, its mends and the page buffer then, what the calls leave of flash, and the
-- torn blocks that an opening would answer afterwards
record Gives : Type 0 where
  torn : ℕ
  answers : List Answer
  mends : List ℕ
  buffers : List Page
  flash : List ℕ
  codes : List ℕ
  marks : List ℕ
  wear : List ℕ
  after : ℕ

-- an opening with so many shelf pages, all 0, on flash, codes and marks as given (without codes: those of an uncoded store), and the calls
-- after it
record Row : Type 0 where
  pages : ℕ
  wear : List ℕ
  flash : List ℕ
  codes : List ℕ
  marks : List ℕ
  calls : List ShelfCall
  gives : Gives

-- with codes, a page has two copies of its byte
abbrev format_by : List ℕ → Format
format_by [] = store_format
format_by (x ∷ l) = format_of copies true

abbrev lent_as : List ℕ → List ℕ → List ℕ → List ℕ → Buffers
lent_as flash codes marks wear = record {
  flash = flash;
  codes = codes;
  marks = marks;
  wear = wear;
  pspace = 0 ∷ [];
  bspace = 0 ∷ 0 ∷ [];
}

-- as opened
abbrev started : Format → ℕ → Buffers → ShelfStore
started fmt h u = record {
  store = record { cache = (open_store fmt (sizes_with h) u).cache; lent = u };
  entries = no_entries;
  shelf = replicate h 0;
}

-- the calls one after the other, by the definitions
abbrev runs : Format → ℕ → ℕ → ShelfStore → List ShelfCall → List Answer → List ℕ → List Page → Gives
runs fmt h torn s [] ys ms bs = let u = s.store.lent in record {
  torn = torn;
  answers = reverse ys;
  mends = reverse ms;
  buffers = reverse bs;
  flash = u.flash;
  codes = u.codes;
  marks = u.marks;
  wear = u.wear;
  after = (open_store fmt (sizes_with h) u).torn;
}
runs fmt h torn s (c ∷ cs) ys ms bs =
    let r = shelf_call fmt h policy_choice s c in runs fmt h torn r.store cs (r.answer ∷ ys) (r.mends ∷ ms) (r.page ∷ bs)

abbrev given : Row → Gives
given r = let u = lent_as r.flash r.codes r.marks r.wear in let fmt = format_by r.codes in
    runs fmt r.pages (open_store fmt (sizes_with r.pages) u).torn (started fmt r.pages u) r.calls [] [] []

abbrev listed : Row → Gives
listed r = r.gives

-- what a cut leaves: bytes, marks, wear, and the torn blocks that the next opening answers
record After : Type 0 where
  flash : List ℕ
  marks : List ℕ
  wear : List ℕ
  torn : ℕ

abbrev left : List ℕ → List ℕ → List ℕ → ℕ → After
left flash marks wear torn = record { flash = flash; marks = marks; wear = wear; torn = torn }

-- calls after an opening, and one more that is cut off after 0, 1, 2 operations and so on
record Cuts : Type 0 where
  pages : ℕ
  wear : List ℕ
  flash : List ℕ
  codes : List ℕ
  marks : List ℕ
  calls : List ShelfCall
  last : ShelfCall
  gives : List After

abbrev after : ShelfStore → List ShelfCall → ShelfStore
after s [] = s
after s (c ∷ cs) = after (shelf_call store_format s.store.cache.sizes.shelf_pages policy_choice s c).store cs

abbrev cut_at : ShelfStore → ShelfCall → ℕ → After
cut_at s c ops = let l = left_after policy_choice ops s c in let marks = flat (marks_of l.flash) in
    left (flat (raw_of l.flash)) marks l.wear (torn_blocks s.store.cache.sizes marks)

abbrev cuts : Cuts → List After
cuts r = let s = after (started store_format r.pages (lent_as r.flash r.codes r.marks r.wear)) r.calls in
    tab (length r.gives) (cut_at s r.last)

abbrev cuts_listed : Cuts → List After
cuts_listed r = r.gives

-- ---- the rows

-- a byte is written as page n; bytes are laid into page n, with a page buffer of 7; it is read; a flush, and a step
abbrev w : ℕ → ℕ → ShelfCall
w n b = plainly (write n (b ∷ []))

abbrev p : ℕ → Page → ShelfCall
p n x = plainly (part n 0 x (7 ∷ []))

abbrev r : ℕ → ShelfCall
r n = plainly (read n (7 ∷ []))

abbrev clean : ShelfCall
clean = plainly flush

abbrev one : ShelfCall
one = plainly step

-- Reads by way 3 of torn pages are refused 14, whatever the mark is; the others are read. One block has two torn pages.
abbrev reads : Row
reads = record {
  pages = 0;
  wear = 0 ∷ 0 ∷ 0 ∷ [];
  flash = 10 ∷ 11 ∷ 20 ∷ 21 ∷ 30 ∷ 31 ∷ [];
  codes = [];
  marks = 0 ∷ 1 ∷ 255 ∷ 255 ∷ 0 ∷ 0 ∷ [];
  calls = r 0 ∷ r 1 ∷ r 2 ∷ r 3 ∷ r 4 ∷ r 5 ∷ r 6 ∷ [];
  gives = record {
    torn = 2;
    answers = read_done 3 ∷ refused 14 vacant ∷ refused 14 vacant ∷ refused 14 vacant ∷ read_done 3 ∷ read_done 3 ∷ refused 5 vacant ∷ [];
    mends = 0 ∷ 0 ∷ 0 ∷ 0 ∷ 0 ∷ 0 ∷ 0 ∷ [];
    buffers = (10 ∷ []) ∷ (7 ∷ []) ∷ (7 ∷ []) ∷ (7 ∷ []) ∷ (30 ∷ []) ∷ (31 ∷ []) ∷ (7 ∷ []) ∷ [];
    flash = 10 ∷ 11 ∷ 20 ∷ 21 ∷ 30 ∷ 31 ∷ [];
    codes = [];
    marks = 0 ∷ 1 ∷ 255 ∷ 255 ∷ 0 ∷ 0 ∷ [];
    wear = 0 ∷ 0 ∷ 0 ∷ [];
    after = 2;
  };
}

-- A torn page that has been written is read from its place and from its frame.
abbrev cached-reads : Row
cached-reads = record {
  pages = 0;
  wear = 0 ∷ 0 ∷ 0 ∷ [];
  flash = 10 ∷ 11 ∷ 20 ∷ 21 ∷ 30 ∷ 31 ∷ [];
  codes = [];
  marks = 0 ∷ 0 ∷ 255 ∷ 255 ∷ 0 ∷ 0 ∷ [];
  calls = w 2 50 ∷ r 2 ∷ w 3 51 ∷ r 2 ∷ r 3 ∷ [];
  gives = record {
    torn = 1;
    answers = way 3 ∷ read_done 1 ∷ way 5 ∷ read_done 2 ∷ read_done 1 ∷ [];
    mends = 0 ∷ 0 ∷ 0 ∷ 0 ∷ 0 ∷ [];
    buffers = (50 ∷ []) ∷ (50 ∷ []) ∷ (51 ∷ []) ∷ (50 ∷ []) ∷ (51 ∷ []) ∷ [];
    flash = 10 ∷ 11 ∷ 20 ∷ 21 ∷ 30 ∷ 31 ∷ [];
    codes = [];
    marks = 0 ∷ 0 ∷ 255 ∷ 255 ∷ 0 ∷ 0 ∷ [];
    wear = 0 ∷ 0 ∷ 0 ∷ [];
    after = 1;
  };
}

-- A merge of a torn page is refused 14, in a step and in a flush; both are done once that page is written.
abbrev merges : Row
merges = record {
  pages = 0;
  wear = 0 ∷ 0 ∷ 0 ∷ [];
  flash = 10 ∷ 11 ∷ 20 ∷ 21 ∷ 30 ∷ 31 ∷ [];
  codes = [];
  marks = 0 ∷ 0 ∷ 0 ∷ 255 ∷ 0 ∷ 0 ∷ [];
  calls = w 2 50 ∷ one ∷ clean ∷ w 3 51 ∷ one ∷ r 3 ∷ [];
  gives = record {
    torn = 1;
    answers = way 3 ∷ refused 14 vacant ∷ refused 14 vacant ∷ way 5 ∷ step_done 1 0 ∷ read_done 3 ∷ [];
    mends = 0 ∷ 0 ∷ 0 ∷ 0 ∷ 0 ∷ 0 ∷ [];
    buffers = (50 ∷ []) ∷ [] ∷ [] ∷ (51 ∷ []) ∷ [] ∷ (51 ∷ []) ∷ [];
    flash = 10 ∷ 11 ∷ 50 ∷ 51 ∷ 30 ∷ 31 ∷ [];
    codes = [];
    marks = 0 ∷ 0 ∷ 0 ∷ 0 ∷ 0 ∷ 0 ∷ [];
    wear = 0 ∷ 1 ∷ 0 ∷ [];
    after = 0;
  };
}

-- Another write was not left waiting: way 7 merges the torn page now, so that not even that page can be written.
abbrev by-way_7 : Row
by-way_7 = record {
  pages = 0;
  wear = 0 ∷ 0 ∷ 0 ∷ [];
  flash = 10 ∷ 11 ∷ 20 ∷ 21 ∷ 30 ∷ 31 ∷ [];
  codes = [];
  marks = 0 ∷ 0 ∷ 0 ∷ 255 ∷ 0 ∷ 0 ∷ [];
  calls = w 2 50 ∷ w 4 40 ∷ w 0 60 ∷ w 3 51 ∷ clean ∷ r 4 ∷ [];
  gives = record {
    torn = 1;
    answers = way 3 ∷ way 5 ∷ refused 14 vacant ∷ refused 14 vacant ∷ refused 14 vacant ∷ read_done 1 ∷ [];
    mends = 0 ∷ 0 ∷ 0 ∷ 0 ∷ 0 ∷ 0 ∷ [];
    buffers = (50 ∷ []) ∷ (40 ∷ []) ∷ (60 ∷ []) ∷ (51 ∷ []) ∷ [] ∷ (40 ∷ []) ∷ [];
    flash = 10 ∷ 11 ∷ 20 ∷ 21 ∷ 30 ∷ 31 ∷ [];
    codes = [];
    marks = 0 ∷ 0 ∷ 0 ∷ 255 ∷ 0 ∷ 0 ∷ [];
    wear = 0 ∷ 0 ∷ 0 ∷ [];
    after = 1;
  };
}

-- 6 before 14, and 5 and 2 before it.
abbrev worn-first : Row
worn-first = record {
  pages = 0;
  wear = 0 ∷ 9 ∷ 0 ∷ [];
  flash = 10 ∷ 11 ∷ 20 ∷ 21 ∷ 30 ∷ 31 ∷ [];
  codes = [];
  marks = 0 ∷ 0 ∷ 0 ∷ 255 ∷ 0 ∷ 0 ∷ [];
  calls = w 2 50 ∷ one ∷ clean ∷ w 4 40 ∷ w 0 60 ∷ p 3 (1 ∷ []) ∷ w 6 1 ∷ p 3 (1 ∷ 2 ∷ []) ∷ r 3 ∷ [];
  gives = record {
    torn = 1;
    answers = way 3 ∷ refused 6 1 ∷ refused 6 1 ∷ way 5 ∷ refused 6 1 ∷ refused 6 1 ∷ refused 5 vacant ∷ refused 2 vacant
        ∷ refused 14 vacant ∷ [];
    mends = 0 ∷ 0 ∷ 0 ∷ 0 ∷ 0 ∷ 0 ∷ 0 ∷ 0 ∷ 0 ∷ [];
    buffers = (50 ∷ []) ∷ [] ∷ [] ∷ (40 ∷ []) ∷ (60 ∷ []) ∷ (7 ∷ []) ∷ (1 ∷ []) ∷ (7 ∷ []) ∷ (7 ∷ []) ∷ [];
    flash = 10 ∷ 11 ∷ 20 ∷ 21 ∷ 30 ∷ 31 ∷ [];
    codes = [];
    marks = 0 ∷ 0 ∷ 0 ∷ 255 ∷ 0 ∷ 0 ∷ [];
    wear = 0 ∷ 9 ∷ 0 ∷ [];
    after = 1;
  };
}

-- A part write of a torn page is refused 14 and changes nothing; without bytes it reads nothing. After a write of the page it is done.
abbrev parts : Row
parts = record {
  pages = 0;
  wear = 0 ∷ 0 ∷ 0 ∷ [];
  flash = 10 ∷ 11 ∷ 20 ∷ 21 ∷ 30 ∷ 31 ∷ [];
  codes = [];
  marks = 0 ∷ 0 ∷ 0 ∷ 7 ∷ 0 ∷ 0 ∷ [];
  calls = p 3 (1 ∷ []) ∷ p 3 [] ∷ w 3 51 ∷ p 3 (52 ∷ []) ∷ r 3 ∷ p 2 (53 ∷ []) ∷ [];
  gives = record {
    torn = 1;
    answers = refused 14 vacant ∷ way 0 ∷ way 3 ∷ way 1 ∷ read_done 1 ∷ way 5 ∷ [];
    mends = 0 ∷ 0 ∷ 0 ∷ 0 ∷ 0 ∷ 0 ∷ [];
    buffers = (7 ∷ []) ∷ (7 ∷ []) ∷ (51 ∷ []) ∷ (52 ∷ []) ∷ (52 ∷ []) ∷ (53 ∷ []) ∷ [];
    flash = 10 ∷ 11 ∷ 20 ∷ 21 ∷ 30 ∷ 31 ∷ [];
    codes = [];
    marks = 0 ∷ 0 ∷ 0 ∷ 7 ∷ 0 ∷ 0 ∷ [];
    wear = 0 ∷ 0 ∷ 0 ∷ [];
    after = 1;
  };
}

-- One torn block, no shelf: its torn pages are written, a flush makes it whole, and the page that was not torn keeps its byte.
abbrev repaired : Row
repaired = record {
  pages = 0;
  wear = 0 ∷ 0 ∷ 0 ∷ [];
  flash = 10 ∷ 11 ∷ 20 ∷ 21 ∷ 30 ∷ 31 ∷ [];
  codes = [];
  marks = 0 ∷ 0 ∷ 0 ∷ 255 ∷ 0 ∷ 0 ∷ [];
  calls = w 3 51 ∷ clean ∷ r 2 ∷ r 3 ∷ [];
  gives = record {
    torn = 1;
    answers = way 3 ∷ flush_done 1 1 ∷ read_done 3 ∷ read_done 3 ∷ [];
    mends = 0 ∷ 0 ∷ 0 ∷ 0 ∷ [];
    buffers = (51 ∷ []) ∷ [] ∷ (20 ∷ []) ∷ (51 ∷ []) ∷ [];
    flash = 10 ∷ 11 ∷ 20 ∷ 51 ∷ 30 ∷ 31 ∷ [];
    codes = [];
    marks = 0 ∷ 0 ∷ 0 ∷ 0 ∷ 0 ∷ 0 ∷ [];
    wear = 0 ∷ 1 ∷ 0 ∷ [];
    after = 0;
  };
}

-- Both its pages torn: one written is not enough.
abbrev both-torn : Row
both-torn = record {
  pages = 0;
  wear = 0 ∷ 0 ∷ 0 ∷ [];
  flash = 10 ∷ 11 ∷ 20 ∷ 21 ∷ 30 ∷ 31 ∷ [];
  codes = [];
  marks = 0 ∷ 0 ∷ 255 ∷ 255 ∷ 0 ∷ 0 ∷ [];
  calls = w 3 51 ∷ clean ∷ w 2 50 ∷ clean ∷ r 2 ∷ r 3 ∷ [];
  gives = record {
    torn = 1;
    answers = way 3 ∷ refused 14 vacant ∷ way 5 ∷ flush_done 1 0 ∷ read_done 3 ∷ read_done 3 ∷ [];
    mends = 0 ∷ 0 ∷ 0 ∷ 0 ∷ 0 ∷ 0 ∷ [];
    buffers = (51 ∷ []) ∷ [] ∷ (50 ∷ []) ∷ [] ∷ (50 ∷ []) ∷ (51 ∷ []) ∷ [];
    flash = 10 ∷ 11 ∷ 50 ∷ 51 ∷ 30 ∷ 31 ∷ [];
    codes = [];
    marks = 0 ∷ 0 ∷ 0 ∷ 0 ∷ 0 ∷ 0 ∷ [];
    wear = 0 ∷ 1 ∷ 0 ∷ [];
    after = 0;
  };
}

-- Two torn blocks: the flush of one leaves the other torn.
abbrev two_blocks : Row
two_blocks = record {
  pages = 0;
  wear = 0 ∷ 0 ∷ 0 ∷ [];
  flash = 10 ∷ 11 ∷ 20 ∷ 21 ∷ 30 ∷ 31 ∷ [];
  codes = [];
  marks = 0 ∷ 255 ∷ 0 ∷ 255 ∷ 0 ∷ 0 ∷ [];
  calls = w 3 51 ∷ clean ∷ r 1 ∷ w 1 41 ∷ clean ∷ r 0 ∷ [];
  gives = record {
    torn = 2;
    answers = way 3 ∷ flush_done 1 1 ∷ refused 14 vacant ∷ way 3 ∷ flush_done 1 1 ∷ read_done 3 ∷ [];
    mends = 0 ∷ 0 ∷ 0 ∷ 0 ∷ 0 ∷ 0 ∷ [];
    buffers = (51 ∷ []) ∷ [] ∷ (7 ∷ []) ∷ (41 ∷ []) ∷ [] ∷ (10 ∷ []) ∷ [];
    flash = 10 ∷ 41 ∷ 20 ∷ 51 ∷ 30 ∷ 31 ∷ [];
    codes = [];
    marks = 0 ∷ 0 ∷ 0 ∷ 0 ∷ 0 ∷ 0 ∷ [];
    wear = 1 ∷ 1 ∷ 0 ∷ [];
    after = 0;
  };
}

-- With a shelf a write of a torn page is refused 14, since it would be shelved; the entries stay.
abbrev shelving : Row
shelving = record {
  pages = 2;
  wear = 0 ∷ 0 ∷ 0 ∷ [];
  flash = 10 ∷ 11 ∷ 20 ∷ 21 ∷ 30 ∷ 31 ∷ [];
  codes = [];
  marks = 0 ∷ 0 ∷ 0 ∷ 255 ∷ 0 ∷ 0 ∷ [];
  calls = w 3 51 ∷ w 2 50 ∷ w 3 51 ∷ back ∷ r 2 ∷ [];
  gives = record {
    torn = 1;
    answers = refused 14 vacant ∷ way 3 ∷ refused 14 vacant ∷ way 1 ∷ read_done 1 ∷ [];
    mends = 0 ∷ 0 ∷ 0 ∷ 0 ∷ 0 ∷ [];
    buffers = (51 ∷ []) ∷ (50 ∷ []) ∷ (51 ∷ []) ∷ [] ∷ (20 ∷ []) ∷ [];
    flash = 10 ∷ 11 ∷ 20 ∷ 21 ∷ 30 ∷ 31 ∷ [];
    codes = [];
    marks = 0 ∷ 0 ∷ 0 ∷ 255 ∷ 0 ∷ 0 ∷ [];
    wear = 0 ∷ 0 ∷ 0 ∷ [];
    after = 1;
  };
}

-- With codes: 7 before 14, on one page and over all pages that a call reads; a torn page that could be mended is refused 14.
abbrev seven-first : Row
seven-first = record {
  pages = 0;
  wear = 0 ∷ 0 ∷ 0 ∷ [];
  flash = 10 ∷ 11 ∷ 20 ∷ 21 ∷ 30 ∷ 31 ∷ [];
  codes = 10 ∷ 12 ∷ 11 ∷ 11 ∷ 1 ∷ 2 ∷ 21 ∷ 21 ∷ 3 ∷ 4 ∷ 31 ∷ 31 ∷ [];
  marks = 0 ∷ 0 ∷ 0 ∷ 255 ∷ 255 ∷ 0 ∷ [];
  calls = r 0 ∷ r 3 ∷ r 4 ∷ w 5 45 ∷ one ∷ w 2 50 ∷ clean ∷ one ∷ w 4 46 ∷ clean ∷ w 3 51 ∷ clean ∷ r 4 ∷ [];
  gives = record {
    torn = 2;
    answers = read_done 3 ∷ refused 14 vacant ∷ refused 7 vacant ∷ way 3 ∷ refused 7 vacant ∷ way 5 ∷ refused 7 vacant ∷ refused 7 vacant
        ∷ refused 7 vacant ∷ refused 7 vacant ∷ refused 7 vacant ∷ refused 7 vacant ∷ refused 7 vacant ∷ [];
    mends = 1 ∷ 0 ∷ 0 ∷ 0 ∷ 0 ∷ 0 ∷ 0 ∷ 0 ∷ 0 ∷ 0 ∷ 0 ∷ 0 ∷ 0 ∷ [];
    buffers = (10 ∷ []) ∷ (7 ∷ []) ∷ (7 ∷ []) ∷ (45 ∷ []) ∷ [] ∷ (50 ∷ []) ∷ [] ∷ [] ∷ (46 ∷ []) ∷ [] ∷ (51 ∷ []) ∷ [] ∷ (7 ∷ []) ∷ [];
    flash = 10 ∷ 11 ∷ 20 ∷ 21 ∷ 30 ∷ 31 ∷ [];
    codes = 10 ∷ 12 ∷ 11 ∷ 11 ∷ 1 ∷ 2 ∷ 21 ∷ 21 ∷ 3 ∷ 4 ∷ 31 ∷ 31 ∷ [];
    marks = 0 ∷ 0 ∷ 0 ∷ 255 ∷ 255 ∷ 0 ∷ [];
    wear = 0 ∷ 0 ∷ 0 ∷ [];
    after = 2;
  };
}

-- A torn page with a flipped copy is refused 14.
abbrev torn-mend : Row
torn-mend = record {
  pages = 0;
  wear = 0 ∷ 0 ∷ 0 ∷ [];
  flash = 10 ∷ 11 ∷ 20 ∷ 21 ∷ 30 ∷ 31 ∷ [];
  codes = 10 ∷ 12 ∷ 11 ∷ 11 ∷ 1 ∷ 2 ∷ 21 ∷ 21 ∷ 3 ∷ 4 ∷ 31 ∷ 31 ∷ [];
  marks = 255 ∷ 0 ∷ 0 ∷ 0 ∷ 0 ∷ 0 ∷ [];
  calls = r 0 ∷ p 0 (1 ∷ []) ∷ r 1 ∷ [];
  gives = record {
    torn = 1;
    answers = refused 14 vacant ∷ refused 14 vacant ∷ read_done 3 ∷ [];
    mends = 0 ∷ 0 ∷ 0 ∷ [];
    buffers = (7 ∷ []) ∷ (7 ∷ []) ∷ (11 ∷ []) ∷ [];
    flash = 10 ∷ 11 ∷ 20 ∷ 21 ∷ 30 ∷ 31 ∷ [];
    codes = 10 ∷ 12 ∷ 11 ∷ 11 ∷ 1 ∷ 2 ∷ 21 ∷ 21 ∷ 3 ∷ 4 ∷ 31 ∷ 31 ∷ [];
    marks = 255 ∷ 0 ∷ 0 ∷ 0 ∷ 0 ∷ 0 ∷ [];
    wear = 0 ∷ 0 ∷ 0 ∷ [];
    after = 1;
  };
}

-- A step: block 1 through the frame, with page 3 merged.
abbrev of_step : Cuts
of_step = record {
  pages = 0;
  wear = 0 ∷ 0 ∷ 0 ∷ [];
  flash = 10 ∷ 11 ∷ 20 ∷ 21 ∷ 30 ∷ 31 ∷ [];
  codes = [];
  marks = 0 ∷ 0 ∷ 0 ∷ 0 ∷ 0 ∷ 0 ∷ [];
  calls = w 2 50 ∷ [];
  last = one;
  gives =
      left (10 ∷ 11 ∷ 20 ∷ 21 ∷ 30 ∷ 31 ∷ []) (0 ∷ 0 ∷ 0 ∷ 0 ∷ 0 ∷ 0 ∷ []) (0 ∷ 0 ∷ 0 ∷ []) 0
      ∷ left (10 ∷ 11 ∷ 255 ∷ 255 ∷ 30 ∷ 31 ∷ []) (0 ∷ 0 ∷ 255 ∷ 255 ∷ 0 ∷ 0 ∷ []) (0 ∷ 1 ∷ 0 ∷ []) 1
      ∷ left (10 ∷ 11 ∷ 50 ∷ 255 ∷ 30 ∷ 31 ∷ []) (0 ∷ 0 ∷ 0 ∷ 255 ∷ 0 ∷ 0 ∷ []) (0 ∷ 1 ∷ 0 ∷ []) 1
      ∷ left (10 ∷ 11 ∷ 50 ∷ 21 ∷ 30 ∷ 31 ∷ []) (0 ∷ 0 ∷ 0 ∷ 0 ∷ 0 ∷ 0 ∷ []) (0 ∷ 1 ∷ 0 ∷ []) 0
      ∷ left (10 ∷ 11 ∷ 50 ∷ 21 ∷ 30 ∷ 31 ∷ []) (0 ∷ 0 ∷ 0 ∷ 0 ∷ 0 ∷ 0 ∷ []) (0 ∷ 1 ∷ 0 ∷ []) 0
      ∷ [];
}

-- A flush of two blocks: the frame's block first.
abbrev of_flush : Cuts
of_flush = record {
  pages = 0;
  wear = 0 ∷ 0 ∷ 0 ∷ [];
  flash = 10 ∷ 11 ∷ 20 ∷ 21 ∷ 30 ∷ 31 ∷ [];
  codes = [];
  marks = 0 ∷ 0 ∷ 0 ∷ 0 ∷ 0 ∷ 0 ∷ [];
  calls = w 2 50 ∷ w 4 40 ∷ [];
  last = clean;
  gives =
      left (10 ∷ 11 ∷ 20 ∷ 21 ∷ 30 ∷ 31 ∷ []) (0 ∷ 0 ∷ 0 ∷ 0 ∷ 0 ∷ 0 ∷ []) (0 ∷ 0 ∷ 0 ∷ []) 0
      ∷ left (10 ∷ 11 ∷ 255 ∷ 255 ∷ 30 ∷ 31 ∷ []) (0 ∷ 0 ∷ 255 ∷ 255 ∷ 0 ∷ 0 ∷ []) (0 ∷ 1 ∷ 0 ∷ []) 1
      ∷ left (10 ∷ 11 ∷ 50 ∷ 255 ∷ 30 ∷ 31 ∷ []) (0 ∷ 0 ∷ 0 ∷ 255 ∷ 0 ∷ 0 ∷ []) (0 ∷ 1 ∷ 0 ∷ []) 1
      ∷ left (10 ∷ 11 ∷ 50 ∷ 21 ∷ 30 ∷ 31 ∷ []) (0 ∷ 0 ∷ 0 ∷ 0 ∷ 0 ∷ 0 ∷ []) (0 ∷ 1 ∷ 0 ∷ []) 0
      ∷ left (10 ∷ 11 ∷ 50 ∷ 21 ∷ 255 ∷ 255 ∷ []) (0 ∷ 0 ∷ 0 ∷ 0 ∷ 255 ∷ 255 ∷ []) (0 ∷ 1 ∷ 1 ∷ []) 1
      ∷ left (10 ∷ 11 ∷ 50 ∷ 21 ∷ 40 ∷ 255 ∷ []) (0 ∷ 0 ∷ 0 ∷ 0 ∷ 0 ∷ 255 ∷ []) (0 ∷ 1 ∷ 1 ∷ []) 1
      ∷ left (10 ∷ 11 ∷ 50 ∷ 21 ∷ 40 ∷ 31 ∷ []) (0 ∷ 0 ∷ 0 ∷ 0 ∷ 0 ∷ 0 ∷ []) (0 ∷ 1 ∷ 1 ∷ []) 0
      ∷ left (10 ∷ 11 ∷ 50 ∷ 21 ∷ 40 ∷ 31 ∷ []) (0 ∷ 0 ∷ 0 ∷ 0 ∷ 0 ∷ 0 ∷ []) (0 ∷ 1 ∷ 1 ∷ []) 0
      ∷ [];
}

-- A write by way 7, whose page goes to a place: the frame's block 1 is rewritten.
abbrev of_write : Cuts
of_write = record {
  pages = 0;
  wear = 0 ∷ 0 ∷ 0 ∷ [];
  flash = 10 ∷ 11 ∷ 20 ∷ 21 ∷ 30 ∷ 31 ∷ [];
  codes = [];
  marks = 0 ∷ 0 ∷ 0 ∷ 0 ∷ 0 ∷ 0 ∷ [];
  calls = w 2 50 ∷ w 4 40 ∷ [];
  last = w 0 60;
  gives =
      left (10 ∷ 11 ∷ 20 ∷ 21 ∷ 30 ∷ 31 ∷ []) (0 ∷ 0 ∷ 0 ∷ 0 ∷ 0 ∷ 0 ∷ []) (0 ∷ 0 ∷ 0 ∷ []) 0
      ∷ left (10 ∷ 11 ∷ 255 ∷ 255 ∷ 30 ∷ 31 ∷ []) (0 ∷ 0 ∷ 255 ∷ 255 ∷ 0 ∷ 0 ∷ []) (0 ∷ 1 ∷ 0 ∷ []) 1
      ∷ left (10 ∷ 11 ∷ 50 ∷ 255 ∷ 30 ∷ 31 ∷ []) (0 ∷ 0 ∷ 0 ∷ 255 ∷ 0 ∷ 0 ∷ []) (0 ∷ 1 ∷ 0 ∷ []) 1
      ∷ left (10 ∷ 11 ∷ 50 ∷ 21 ∷ 30 ∷ 31 ∷ []) (0 ∷ 0 ∷ 0 ∷ 0 ∷ 0 ∷ 0 ∷ []) (0 ∷ 1 ∷ 0 ∷ []) 0
      ∷ left (10 ∷ 11 ∷ 50 ∷ 21 ∷ 30 ∷ 31 ∷ []) (0 ∷ 0 ∷ 0 ∷ 0 ∷ 0 ∷ 0 ∷ []) (0 ∷ 1 ∷ 0 ∷ []) 0
      ∷ [];
}

-- A part write by way 7, of a page of the block that is rewritten.
abbrev of_part : Cuts
of_part = record {
  pages = 0;
  wear = 0 ∷ 0 ∷ 0 ∷ [];
  flash = 10 ∷ 11 ∷ 20 ∷ 21 ∷ 30 ∷ 31 ∷ [];
  codes = [];
  marks = 0 ∷ 0 ∷ 0 ∷ 0 ∷ 0 ∷ 0 ∷ [];
  calls = w 2 50 ∷ w 4 40 ∷ [];
  last = p 3 (61 ∷ []);
  gives =
      left (10 ∷ 11 ∷ 20 ∷ 21 ∷ 30 ∷ 31 ∷ []) (0 ∷ 0 ∷ 0 ∷ 0 ∷ 0 ∷ 0 ∷ []) (0 ∷ 0 ∷ 0 ∷ []) 0
      ∷ left (10 ∷ 11 ∷ 255 ∷ 255 ∷ 30 ∷ 31 ∷ []) (0 ∷ 0 ∷ 255 ∷ 255 ∷ 0 ∷ 0 ∷ []) (0 ∷ 1 ∷ 0 ∷ []) 1
      ∷ left (10 ∷ 11 ∷ 50 ∷ 255 ∷ 30 ∷ 31 ∷ []) (0 ∷ 0 ∷ 0 ∷ 255 ∷ 0 ∷ 0 ∷ []) (0 ∷ 1 ∷ 0 ∷ []) 1
      ∷ left (10 ∷ 11 ∷ 50 ∷ 21 ∷ 30 ∷ 31 ∷ []) (0 ∷ 0 ∷ 0 ∷ 0 ∷ 0 ∷ 0 ∷ []) (0 ∷ 1 ∷ 0 ∷ []) 0
      ∷ left (10 ∷ 11 ∷ 50 ∷ 21 ∷ 30 ∷ 31 ∷ []) (0 ∷ 0 ∷ 0 ∷ 0 ∷ 0 ∷ 0 ∷ []) (0 ∷ 1 ∷ 0 ∷ []) 0
      ∷ [];
}

-- A write that erases nothing.
abbrev of_hit : Cuts
of_hit = record {
  pages = 0;
  wear = 0 ∷ 0 ∷ 0 ∷ [];
  flash = 10 ∷ 11 ∷ 20 ∷ 21 ∷ 30 ∷ 31 ∷ [];
  codes = [];
  marks = 0 ∷ 0 ∷ 0 ∷ 0 ∷ 0 ∷ 0 ∷ [];
  calls = w 2 50 ∷ w 4 40 ∷ [];
  last = w 4 41;
  gives =
      left (10 ∷ 11 ∷ 20 ∷ 21 ∷ 30 ∷ 31 ∷ []) (0 ∷ 0 ∷ 0 ∷ 0 ∷ 0 ∷ 0 ∷ []) (0 ∷ 0 ∷ 0 ∷ []) 0
      ∷ left (10 ∷ 11 ∷ 20 ∷ 21 ∷ 30 ∷ 31 ∷ []) (0 ∷ 0 ∷ 0 ∷ 0 ∷ 0 ∷ 0 ∷ []) (0 ∷ 0 ∷ 0 ∷ []) 0
      ∷ left (10 ∷ 11 ∷ 20 ∷ 21 ∷ 30 ∷ 31 ∷ []) (0 ∷ 0 ∷ 0 ∷ 0 ∷ 0 ∷ 0 ∷ []) (0 ∷ 0 ∷ 0 ∷ []) 0
      ∷ [];
}

-- A part write without bytes, and nothing cached.
abbrev of_nothing : Cuts
of_nothing = record {
  pages = 0;
  wear = 0 ∷ 0 ∷ 0 ∷ [];
  flash = 10 ∷ 11 ∷ 20 ∷ 21 ∷ 30 ∷ 31 ∷ [];
  codes = [];
  marks = 0 ∷ 0 ∷ 0 ∷ 0 ∷ 0 ∷ 0 ∷ [];
  calls = [];
  last = p 3 [];
  gives =
      left (10 ∷ 11 ∷ 20 ∷ 21 ∷ 30 ∷ 31 ∷ []) (0 ∷ 0 ∷ 0 ∷ 0 ∷ 0 ∷ 0 ∷ []) (0 ∷ 0 ∷ 0 ∷ []) 0
      ∷ left (10 ∷ 11 ∷ 20 ∷ 21 ∷ 30 ∷ 31 ∷ []) (0 ∷ 0 ∷ 0 ∷ 0 ∷ 0 ∷ 0 ∷ []) (0 ∷ 0 ∷ 0 ∷ []) 0
      ∷ left (10 ∷ 11 ∷ 20 ∷ 21 ∷ 30 ∷ 31 ∷ []) (0 ∷ 0 ∷ 0 ∷ 0 ∷ 0 ∷ 0 ∷ []) (0 ∷ 0 ∷ 0 ∷ []) 0
      ∷ [];
}

-- A flush with nothing cached.
abbrev of_clean : Cuts
of_clean = record {
  pages = 0;
  wear = 0 ∷ 0 ∷ 0 ∷ [];
  flash = 10 ∷ 11 ∷ 20 ∷ 21 ∷ 30 ∷ 31 ∷ [];
  codes = [];
  marks = 0 ∷ 0 ∷ 0 ∷ 0 ∷ 0 ∷ 0 ∷ [];
  calls = [];
  last = clean;
  gives =
      left (10 ∷ 11 ∷ 20 ∷ 21 ∷ 30 ∷ 31 ∷ []) (0 ∷ 0 ∷ 0 ∷ 0 ∷ 0 ∷ 0 ∷ []) (0 ∷ 0 ∷ 0 ∷ []) 0
      ∷ left (10 ∷ 11 ∷ 20 ∷ 21 ∷ 30 ∷ 31 ∷ []) (0 ∷ 0 ∷ 0 ∷ 0 ∷ 0 ∷ 0 ∷ []) (0 ∷ 0 ∷ 0 ∷ []) 0
      ∷ left (10 ∷ 11 ∷ 20 ∷ 21 ∷ 30 ∷ 31 ∷ []) (0 ∷ 0 ∷ 0 ∷ 0 ∷ 0 ∷ 0 ∷ []) (0 ∷ 0 ∷ 0 ∷ []) 0
      ∷ [];
}

-- A taking back by way 7.
abbrev of_back : Cuts
of_back = record {
  pages = 3;
  wear = 0 ∷ 0 ∷ 0 ∷ [];
  flash = 10 ∷ 11 ∷ 20 ∷ 21 ∷ 30 ∷ 31 ∷ [];
  codes = [];
  marks = 0 ∷ 0 ∷ 0 ∷ 0 ∷ 0 ∷ 0 ∷ [];
  calls = w 0 60 ∷ w 2 50 ∷ w 4 40 ∷ clean ∷ back ∷ back ∷ [];
  last = back;
  gives =
      left (60 ∷ 11 ∷ 50 ∷ 21 ∷ 40 ∷ 31 ∷ []) (0 ∷ 0 ∷ 0 ∷ 0 ∷ 0 ∷ 0 ∷ []) (1 ∷ 1 ∷ 1 ∷ []) 0
      ∷ left (60 ∷ 11 ∷ 50 ∷ 21 ∷ 255 ∷ 255 ∷ []) (0 ∷ 0 ∷ 0 ∷ 0 ∷ 255 ∷ 255 ∷ []) (1 ∷ 1 ∷ 2 ∷ []) 1
      ∷ left (60 ∷ 11 ∷ 50 ∷ 21 ∷ 30 ∷ 255 ∷ []) (0 ∷ 0 ∷ 0 ∷ 0 ∷ 0 ∷ 255 ∷ []) (1 ∷ 1 ∷ 2 ∷ []) 1
      ∷ left (60 ∷ 11 ∷ 50 ∷ 21 ∷ 30 ∷ 31 ∷ []) (0 ∷ 0 ∷ 0 ∷ 0 ∷ 0 ∷ 0 ∷ []) (1 ∷ 1 ∷ 2 ∷ []) 0
      ∷ left (60 ∷ 11 ∷ 50 ∷ 21 ∷ 30 ∷ 31 ∷ []) (0 ∷ 0 ∷ 0 ∷ 0 ∷ 0 ∷ 0 ∷ []) (1 ∷ 1 ∷ 2 ∷ []) 0
      ∷ [];
}

-- A read.
abbrev of_read : Cuts
of_read = record {
  pages = 0;
  wear = 0 ∷ 0 ∷ 0 ∷ [];
  flash = 10 ∷ 11 ∷ 20 ∷ 21 ∷ 30 ∷ 31 ∷ [];
  codes = [];
  marks = 0 ∷ 0 ∷ 0 ∷ 0 ∷ 0 ∷ 0 ∷ [];
  calls = w 2 50 ∷ [];
  last = r 0;
  gives =
      left (10 ∷ 11 ∷ 20 ∷ 21 ∷ 30 ∷ 31 ∷ []) (0 ∷ 0 ∷ 0 ∷ 0 ∷ 0 ∷ 0 ∷ []) (0 ∷ 0 ∷ 0 ∷ []) 0
      ∷ left (10 ∷ 11 ∷ 20 ∷ 21 ∷ 30 ∷ 31 ∷ []) (0 ∷ 0 ∷ 0 ∷ 0 ∷ 0 ∷ 0 ∷ []) (0 ∷ 0 ∷ 0 ∷ []) 0
      ∷ [];
}

-- A flush of a block that was torn: its torn page is written, and another block is torn still.
abbrev of_torn : Cuts
of_torn = record {
  pages = 0;
  wear = 0 ∷ 0 ∷ 0 ∷ [];
  flash = 10 ∷ 11 ∷ 20 ∷ 21 ∷ 30 ∷ 31 ∷ [];
  codes = [];
  marks = 0 ∷ 255 ∷ 0 ∷ 255 ∷ 0 ∷ 0 ∷ [];
  calls = w 3 51 ∷ [];
  last = clean;
  gives =
      left (10 ∷ 11 ∷ 20 ∷ 21 ∷ 30 ∷ 31 ∷ []) (0 ∷ 255 ∷ 0 ∷ 255 ∷ 0 ∷ 0 ∷ []) (0 ∷ 0 ∷ 0 ∷ []) 2
      ∷ left (10 ∷ 11 ∷ 255 ∷ 255 ∷ 30 ∷ 31 ∷ []) (0 ∷ 255 ∷ 255 ∷ 255 ∷ 0 ∷ 0 ∷ []) (0 ∷ 1 ∷ 0 ∷ []) 2
      ∷ left (10 ∷ 11 ∷ 20 ∷ 255 ∷ 30 ∷ 31 ∷ []) (0 ∷ 255 ∷ 0 ∷ 255 ∷ 0 ∷ 0 ∷ []) (0 ∷ 1 ∷ 0 ∷ []) 2
      ∷ left (10 ∷ 11 ∷ 20 ∷ 51 ∷ 30 ∷ 31 ∷ []) (0 ∷ 255 ∷ 0 ∷ 0 ∷ 0 ∷ 0 ∷ []) (0 ∷ 1 ∷ 0 ∷ []) 1
      ∷ left (10 ∷ 11 ∷ 20 ∷ 51 ∷ 30 ∷ 31 ∷ []) (0 ∷ 255 ∷ 0 ∷ 0 ∷ 0 ∷ 0 ∷ []) (0 ∷ 1 ∷ 0 ∷ []) 1
      ∷ [];
}

abbrev table : List Row
table = reads ∷ cached-reads ∷ merges ∷ by-way_7 ∷ worn-first ∷ parts ∷ repaired ∷ both-torn ∷ two_blocks ∷ shelving ∷ seven-first ∷
    torn-mend ∷ []

abbrev cut_table : List Cuts
cut_table = of_step ∷ of_flush ∷ of_write ∷ of_part ∷ of_hit ∷ of_nothing ∷ of_clean ∷ of_back ∷ of_read ∷ of_torn ∷ []

-- every row holds, by the definitions
pub cut-rows : (map given table ≡ map listed table) × (map cuts cut_table ≡ map cuts_listed cut_table)
unfolding cut_call cut_steps cut_step cut_write cut_rewrite programmed_to torn_blocks shelf_call shelf_ok shelved shelve entries_after
    shelf_after shelving_reads ordinary page_seen open_store call carried_out memory_of buffers_of zero_page lent_ok call_pages steps_pages
    decide flush_outcome steps step_outcome part_outcome write_outcome read_outcome checked combined laid stepped_pages written_pages
    read_page stepped written read_directory rewritten_pages merged vacated exchanged_pages exchanged given_slot taken spare unmet
    joined_pages filled joined put_frame_page put_slot_page entered put_slot touched recency_after oneMore worn_by worn programmed
    flash_page lowest_worn format_of torn flash_cells call_reading reads_all heeding fault_of fault_met some_page mends_of mends_met sum
    reads_flash reads_page steps_merge merges_page cell_at is_worn cached due_of lowest_in_slots occupied plan eviction_plan evict_frame
    any_evictable evictable fewest_valid victim policy_choice fewest_uses least_recent read_way slot_count valid_count frame_of frame_with
    in_slots slot_of in_block inFrame sound framePast uses_ok slot_past listed_once cached_once frames_differ slots_differ frame_ok slot_ok
    shape_ok sizes_ok vacant_directory blank_cache every first first_from count all all_pairs tab tab_from bit mask nth argmax least page_at
    pages_of flat is_coded is_marked
cut-rows = (refl, refl)
