-- Histories of a store with a code and with marks: refusals 7 and 14, their order, mends, and the rewrite book, which is told of both. The
-- code of these rows keeps two copies.
use mathlib.Core.Path.{◌≡◌, refl}
use mathlib.Core.Bool.{true, false, not, cond, ◌&&◌}
use mathlib.Core.List.{List, [], ◌∷◌, map, reverse, ◌++◌}
use Prim.Native.Nat.{ℕ}
use lib.Dec.{eqb}
use lib.ListN.{length, get_or}
use Rattle.prelude.specs.Tests.{every}
use Rattle.prelude.specs.Scan.{first_from, first, count, all, all_pairs, nth, argmax, least, tab_from, tab}
use Rattle.prelude.specs.Bits.{bit, mask}
use Rattle.prelude.specs.Pages.{page_at, laid, pages_of, flat}
use Rattle.model.specs.Sizes.{Sizes, vacant, sizes_ok, plain_sizes}
use Rattle.model.specs.Directory.{inFrame, vacant_directory, blank_cache}
use Rattle.model.specs.Soundness.{shape_ok, slot_ok, frame_ok, slots_differ, frames_differ, cached_once, listed_once, slot_past, framePast}
use Rattle.model.specs.Soundness.{uses_ok, sound}
use Rattle.model.specs.Policy.{in_block, slot_of, in_slots, frame_with, frame_of, valid_count, slot_count, read_way, least_recent, victim}
use Rattle.model.specs.Policy.{fewest_valid, evictable, any_evictable, evict_frame, eviction_plan, plan, occupied, lowest_in_slots, due_of}
use Rattle.model.specs.Policy.{cached, is_worn, lowest_worn}
use Rattle.model.specs.Policy.{fewest_uses, policy_choice}
use Rattle.model.specs.Moves.{cell_at, flash_page, programmed, worn, worn_by, recency_after, touched, put_slot, entered, put_slot_page}
use Rattle.model.specs.Moves.{put_frame_page, joined, filled, joined_pages, unmet, spare, taken, given_slot, exchanged, exchanged_pages}
use Rattle.model.specs.Moves.{vacated, merged, rewritten_pages, read_directory, written, stepped, read_page, written_pages, stepped_pages}
use Rattle.model.specs.Moves.{oneMore}
use Rattle.model.specs.Calls.{Answer, read_done, write_done, step_done, refused, Call, read, write, part}
use Rattle.model.specs.Calls.{step, flush, checked, read_outcome, write_outcome, part_outcome, step_outcome, steps, flush_outcome, decide}
use Rattle.model.specs.Calls.{steps_pages, combined, call_pages, Page, Format, Buffers, lent_ok, open_store, Store, zero_page}
use Rattle.model.specs.Calls.{memory_of, buffers_of, carried_out, reads_all, call_reading, call, heeding, fault_of, fault_met, some_page}
use Rattle.model.specs.Calls.{mends_of, mends_met, sum, reads_flash, reads_page, steps_merge, merges_page, flash_cells}
use Rattle.model.specs.Lists.{Reference, array_after, log_after, before_after, book_says, base_after, fed, flash_pages, opened}
use Rattle.model.specs.Formats.{Code, format_of, torn}

-- pages of one byte, with two copies as their code: two that agree are read
abbrev pub copies : Code
copies = record {
  long = λ sz. 2;
  code_of = λ sz x. x ++ x;
  page_read = λ sz x k. cond (eqb (length x) 1 && eqb (get_or k 0 0) (get_or k 1 0)) (get_or k 0 0 ∷ []) x;
  unreadable = λ sz x k. not (eqb (get_or k 0 0) (get_or k 1 0)) && not (eqb (get_or x 0 0) (get_or k 0 0))
      && not (eqb (get_or x 0 0) (get_or k 1 0));
  mends = λ sz x k. cond (eqb (get_or x 0 0) (get_or k 0 0) && eqb (get_or x 0 0) (get_or k 1 0)) 0 1;
}

abbrev both : Format
both = format_of copies true

abbrev sizes_a : Sizes
sizes_a = plain_sizes 1 2 3 1 1 9

record Gives : Type 0 where
  answers : List Answer
  mends : List ℕ
  bytes : List ℕ
  flash : List ℕ
  codes : List ℕ
  marks : List ℕ

record Row : Type 0 where
  flash : List ℕ
  codes : List ℕ
  marks : List ℕ
  wear : List ℕ
  calls : List (Call Page)
  gives : Gives

-- what is compared: what a row lists, and the answers of the rewrite book, which is told of 7 and 14 by the store's answers
record Ran : Type 0 where
  gives : Gives
  booked : List Answer

-- store and book side by side
runs : Store → Reference → List (Call Page) → List Answer → List Answer → List ℕ → List ℕ → Ran
runs s r [] ys zs ms bs = record {
  gives = record {
    answers = reverse ys;
    mends = reverse ms;
    bytes = reverse bs;
    flash = s.lent.flash;
    codes = s.lent.codes;
    marks = s.lent.marks;
  };
  booked = reverse zs;
}
runs s r (c ∷ cs) ys zs ms bs =
    let q = call both policy_choice s c in
    let o = book_says sizes_a r (record { choice = policy_choice; besides = λ i. false; call = c }) q.answer in
    let r' = fed sizes_a r c o (flash_cells both sizes_a q.store.lent) in
    runs q.store r' cs (q.answer ∷ ys) (o.answer ∷ zs) (q.mends ∷ ms) (get_or q.page 0 0 ∷ bs)

gave : Row → Ran
gave r = let u : Buffers = record {
  flash = r.flash;
  codes = r.codes;
  marks = r.marks;
  wear = r.wear;
  pspace = 0 ∷ [];
  bspace = 0 ∷ 0 ∷ [];
} in
    runs (record { cache = (open_store both sizes_a u).cache; lent = u }) (opened both sizes_a u) r.calls [] [] [] []

-- the book answers as the store does
gives : Row → Ran
gives r = record { gives = r.gives; booked = r.gives.answers }

-- page 0 has a flipped copy, page 1 a flipped byte, page 2 is unreadable, page 3 is torn, page 4 is unreadable and torn
abbrev flash0 : List ℕ
flash0 = 10 ∷ 99 ∷ 20 ∷ 21 ∷ 30 ∷ 31 ∷ []

abbrev codes0 : List ℕ
codes0 = 10 ∷ 12 ∷ 11 ∷ 11 ∷ 1 ∷ 2 ∷ 21 ∷ 21 ∷ 3 ∷ 4 ∷ 31 ∷ 31 ∷ []

abbrev marks0 : List ℕ
marks0 = 0 ∷ 0 ∷ 0 ∷ 255 ∷ 255 ∷ 0 ∷ []

-- reads by way 3: mended, refused 7, refused 14, 7 before 14, and nothing to mend; 5 before all
reads : Row
reads = record {
  flash = flash0;
  codes = codes0;
  marks = marks0;
  wear = 0 ∷ 0 ∷ 0 ∷ [];
  calls = read 0 (7 ∷ []) ∷ read 1 (7 ∷ []) ∷ read 2 (7 ∷ []) ∷ read 3 (7 ∷ []) ∷ read 4 (7 ∷ []) ∷ read 5 (7 ∷ []) ∷ read 6 (7 ∷ []) ∷ [];
  gives = record {
    answers = read_done 3 ∷ read_done 3 ∷ refused 7 vacant ∷ refused 14 vacant ∷ refused 7 vacant ∷ read_done 3 ∷ refused 5 vacant ∷ [];
    mends = 1 ∷ 1 ∷ 0 ∷ 0 ∷ 0 ∷ 0 ∷ 0 ∷ [];
    bytes = 10 ∷ 11 ∷ 7 ∷ 7 ∷ 7 ∷ 31 ∷ 7 ∷ [];
    flash = flash0;
    codes = codes0;
    marks = marks0;
  };
}

-- A write of an unreadable page merges nothing; the step that rewrites its block merges page 3, which is torn; once that is written too
-- the step is done, and the block has fresh codes and marks 0. Block 0 keeps its flipped bits.
step-merges : Row
step-merges = record {
  flash = flash0;
  codes = codes0;
  marks = marks0;
  wear = 0 ∷ 0 ∷ 0 ∷ [];
  calls = write 2 (50 ∷ []) ∷ step ∷ flush ∷ read 2 (7 ∷ []) ∷ write 3 (51 ∷ []) ∷ step ∷ read 3 (7 ∷ []) ∷ [];
  gives = record {
    answers = write_done 3 vacant 0 ∷ refused 14 vacant ∷ refused 14 vacant ∷ read_done 1 ∷ write_done 5 vacant 0 ∷ step_done 1 0
        ∷ read_done 3
        ∷ [];
    mends = 0 ∷ 0 ∷ 0 ∷ 0 ∷ 0 ∷ 0 ∷ 0 ∷ [];
    bytes = 50 ∷ 0 ∷ 0 ∷ 50 ∷ 51 ∷ 0 ∷ 51 ∷ [];
    flash = 10 ∷ 99 ∷ 50 ∷ 51 ∷ 30 ∷ 31 ∷ [];
    codes = 10 ∷ 12 ∷ 11 ∷ 11 ∷ 50 ∷ 50 ∷ 51 ∷ 51 ∷ 3 ∷ 4 ∷ 31 ∷ 31 ∷ [];
    marks = 0 ∷ 0 ∷ 0 ∷ 0 ∷ 255 ∷ 0 ∷ [];
  };
}

-- Way 7 mends what it merges: block 0 is rewritten as it was read. The part write of page 1 reads it twice, by way 3 and by the merge of
-- its own block, and counts it once.
part-mends : Row
part-mends = record {
  flash = flash0;
  codes = codes0;
  marks = marks0;
  wear = 0 ∷ 0 ∷ 0 ∷ [];
  calls = write 0 (40 ∷ []) ∷ write 5 (45 ∷ []) ∷ part 1 0 (41 ∷ []) (7 ∷ []) ∷ [];
  gives = record {
    answers = write_done 3 vacant 0 ∷ write_done 5 vacant 0 ∷ write_done 7 0 1 ∷ [];
    mends = 0 ∷ 0 ∷ 1 ∷ [];
    bytes = 40 ∷ 45 ∷ 41 ∷ [];
    flash = 40 ∷ 11 ∷ 20 ∷ 21 ∷ 30 ∷ 31 ∷ [];
    codes = 40 ∷ 40 ∷ 11 ∷ 11 ∷ 1 ∷ 2 ∷ 21 ∷ 21 ∷ 3 ∷ 4 ∷ 31 ∷ 31 ∷ [];
    marks = marks0;
  };
}

-- A flush checks all its merges first: 7 in the last block stands before 14 in the one before it; and 6 before both.
flush-first : Row
flush-first = record {
  flash = flash0;
  codes = codes0;
  marks = marks0;
  wear = 0 ∷ 0 ∷ 0 ∷ [];
  calls = write 2 (50 ∷ []) ∷ write 5 (45 ∷ []) ∷ flush ∷ step ∷ write 0 (1 ∷ []) ∷ [];
  gives = record {
    answers = write_done 3 vacant 0 ∷ write_done 5 vacant 0 ∷ refused 7 vacant ∷ refused 14 vacant ∷ refused 14 vacant ∷ [];
    mends = 0 ∷ 0 ∷ 0 ∷ 0 ∷ 0 ∷ [];
    bytes = 50 ∷ 45 ∷ 0 ∷ 0 ∷ 1 ∷ [];
    flash = flash0;
    codes = codes0;
    marks = marks0;
  };
}

worn-first : Row
worn-first = record {
  flash = flash0;
  codes = codes0;
  marks = marks0;
  wear = 0 ∷ 9 ∷ 9 ∷ [];
  calls = write 2 (50 ∷ []) ∷ write 5 (45 ∷ []) ∷ flush ∷ step ∷ write 0 (1 ∷ []) ∷ part 3 0 [] (7 ∷ []) ∷ part 3 0 (8 ∷ []) (7 ∷ []) ∷ [];
  gives = record {
    answers = write_done 3 vacant 0 ∷ write_done 5 vacant 0 ∷ refused 6 1 ∷ refused 6 1 ∷ refused 6 1 ∷ write_done 0 vacant 0 ∷ refused 6 1
        ∷ [];
    mends = 0 ∷ 0 ∷ 0 ∷ 0 ∷ 0 ∷ 0 ∷ 0 ∷ [];
    bytes = 50 ∷ 45 ∷ 0 ∷ 0 ∷ 1 ∷ 7 ∷ 7 ∷ [];
    flash = flash0;
    codes = codes0;
    marks = marks0;
  };
}

table : List Row
table = reads ∷ step-merges ∷ part-mends ∷ flush-first ∷ worn-first ∷ []

rows : map gave table ≡ map gives table
unfolding reads step-merges part-mends flush-first worn-first table gives gave runs opened flash_pages fed array_after log_after
    before_after base_after open_store call carried_out memory_of buffers_of zero_page lent_ok call_pages steps_pages decide flush_outcome
    steps step_outcome part_outcome write_outcome read_outcome checked combined laid stepped_pages written_pages read_page stepped written
    read_directory rewritten_pages merged vacated exchanged_pages exchanged given_slot taken spare unmet joined_pages filled joined
    put_frame_page put_slot_page entered put_slot touched recency_after oneMore worn_by worn programmed flash_page lowest_worn format_of
    torn flash_cells call_reading reads_all heeding fault_of fault_met some_page mends_of mends_met sum reads_flash reads_page steps_merge
    merges_page cell_at is_worn cached due_of lowest_in_slots occupied plan eviction_plan evict_frame any_evictable evictable fewest_valid
    victim policy_choice fewest_uses least_recent read_way slot_count valid_count frame_of frame_with in_slots slot_of in_block inFrame
    sound framePast uses_ok slot_past listed_once cached_once frames_differ slots_differ frame_ok slot_ok shape_ok sizes_ok vacant_directory
    blank_cache every first first_from count all all_pairs tab tab_from bit mask nth argmax least page_at pages_of flat
rows = refl
