-- Demand 3 for the code on document 01's script A: its writes, reads and flush as calls of the code, each with what came out of it. They
-- are as contracted, so that the hypothesis can be met, and what the theorem says of them are the paper's bytes and wear.
use mathlib.Core.Path.{◌≡◌, refl, sym, ap, subst}
use mathlib.Core.Bool.{not}
use mathlib.Core.List.{List, [], ◌∷◌, map, ◌++◌}
use Prim.Native.Nat.{ℕ}
use lib.ListN.{get_or, replicate}
use Rattle.std.specs.Prelude.{Ok}
use Rattle.prelude.specs.Tests.{every}
use Rattle.prelude.specs.Scan.{first_from, first, count, all, all_pairs, nth, argmax, least, tab_from, tab}
use Rattle.prelude.specs.Bits.{bit, mask}
use Rattle.prelude.specs.Pages.{page_at, pages_of, flat}
use Rattle.model.specs.Sizes.{vacant, is_coded, is_marked, sizes_ok}
use Rattle.model.specs.Directory.{inFrame, vacant_directory, blank_cache}
use Rattle.model.specs.Soundness.{shape_ok, slot_ok, frame_ok, slots_differ, frames_differ, cached_once, listed_once, slot_past, framePast}
use Rattle.model.specs.Soundness.{uses_ok, sound}
use Rattle.model.specs.Policy.{in_block, slot_of, in_slots, frame_with, frame_of, valid_count, slot_count, read_way, least_recent, victim}
use Rattle.model.specs.Policy.{fewest_valid, evictable, any_evictable, evict_frame, eviction_plan, plan, occupied, lowest_in_slots, due_of}
use Rattle.model.specs.Policy.{cached, is_worn, lowest_worn}
use Rattle.model.specs.Policy.{fewest_uses, policy_choice}
use Rattle.model.specs.Moves.{flash_page, cell_at, programmed, worn, worn_by, recency_after, touched, put_slot, entered, put_slot_page}
use Rattle.model.specs.Moves.{put_frame_page}
use Rattle.model.specs.Moves.{joined, filled, joined_pages, unmet, spare, taken, given_slot, exchanged, exchanged_pages, vacated, merged}
use Rattle.model.specs.Moves.{rewritten_pages, read_directory, written, stepped, read_page, written_pages, stepped_pages}
use Rattle.model.specs.Moves.{oneMore}
use Rattle.model.specs.Calls.{checked, read_outcome, write_outcome, step_outcome, steps, flush_outcome, decide, steps_pages, call_pages}
use Rattle.model.specs.Calls.{Page}
use Rattle.model.specs.Calls.{lent_ok, open_store, zero_page, memory_of, buffers_of, flash_cells, carried_out, call_reading}
use Rattle.model.specs.Calls.{reads_all, heeding, fault_of, fault_met, some_page, mends_of, mends_met, reads_flash, reads_page, steps_merge}
use Rattle.model.specs.Calls.{torn_blocks, merges_page, sum, open_done, Answer, is_refused}
use Rattle.model.specs.Formats.{format_of, torn, store_format, StoreNear}
use Rattle.model.specs.Lists.{fed, flash_pages, After}
use Rattle.model.specs.Shelf.{ShelfOpened, ShelfReference, shelved, shelve, shelf_ok, entries_after, shelf_after, open_shelf, store_open}
use Rattle.model.specs.Shelf.{shelving_reads, ordinary, shelf_call, shelf_fed}
use Rattle.cache.specs.declared.Sizes.{Sizes}
use Rattle.cache.specs.View.{sizes_of, directory_of, page_no, block_no}
use Rattle.answer.specs.declared.way.ReadWay.TheVariants as reads
use Rattle.answer.specs.declared.way.WriteWay.TheVariants as ways
use Rattle.answer.specs.declared.Write.TheVariants as writes
use Rattle.store.specs.declared.Cache.{Cache}
use Rattle.store.specs.View.{Opened, Lent, lent, store_of}
use Rattle.store.specs.Histories as made
use Rattle.store.specs.Histories.{Made, cache_after, lent_after, fed_by, StillNear, Turn, AsContracted, Claim, OpeningContract, begun}
use Rattle.store.proofs.Demand3.{near-opened, codes-match, demand_3}

-- S 1, K 2, N 3, P 2, B 1, W 9
abbrev pub sizes : Sizes
sizes = record {
  page_size = 1;
  pages_per_block = 2;
  blocks = 3;
  slots = 2;
  frames = 1;
  wear_limit = 9;
  policy = 0;
  coded = 0;
  shelf_pages = 0;
  marked = 0;
}

-- the chip as the script program delivers it, and cleared spaces
abbrev pub lent_a : Lent
lent_a = lent (replicate 6 255) [] [] (replicate 3 0) (replicate 2 0) (replicate 2 0) []

-- a record with pages m and n in its two slots, and block b with the valid pages v and c uses in its frame
abbrev holding : ℕ → ℕ → ℕ → ℕ → ℕ → Cache
holding m n b v c = record {
  sizes = sizes;
  entries = replicate 8 vacant;
  directory = record {
    slots = map page_no (m ∷ n ∷ replicate 126 vacant);
    frames = map block_no (b ∷ replicate 7 vacant);
    valid = v ∷ replicate 7 0;
    recency = 0 ∷ 1 ∷ 2 ∷ 3 ∷ 4 ∷ 5 ∷ 6 ∷ 7 ∷ [];
    uses = c ∷ replicate 7 0;
  };
}

abbrev pub opening : Opened
opening = record { cache = holding vacant vacant vacant 0 0; answer = Ok (record { torn = 0 }) }

abbrev byte : ℕ → Page
byte b = b ∷ []

-- write 0, 2, 4 and 3, of which the last erases block 0
abbrev written-0 : Made
written-0 = made.write (page_no 0) (byte 10) (record { cache = holding 0 vacant vacant 0 0; answer = Ok (writes.Done ways.FreeSlot 0) })
    (lent (replicate 6 255) [] [] (replicate 3 0) (10 ∷ 0 ∷ []) (0 ∷ 0 ∷ []) [])

abbrev written_2 : Made
written_2 = made.write (page_no 2) (byte 20) (record { cache = holding 0 2 vacant 0 0; answer = Ok (writes.Done ways.FreeSlot 0) })
    (lent (replicate 6 255) [] [] (replicate 3 0) (10 ∷ 20 ∷ []) (0 ∷ 0 ∷ []) [])

abbrev written_4 : Made
written_4 = made.write (page_no 4) (byte 30) (record { cache = holding 4 2 0 1 1; answer = Ok (writes.Done ways.Fill 0) })
    (lent (replicate 6 255) [] [] (replicate 3 0) (30 ∷ 20 ∷ []) (10 ∷ 0 ∷ []) [])

abbrev written-3 : Made
written-3 = made.write (page_no 3) (byte 40) (record { cache = holding 4 3 1 1 1; answer = Ok (writes.Rewrote (block_no 0) 1 0) })
    (lent (10 ∷ 255 ∷ 255 ∷ 255 ∷ 255 ∷ 255 ∷ []) [] [] (1 ∷ 0 ∷ 0 ∷ []) (30 ∷ 40 ∷ []) (20 ∷ 255 ∷ []) [])

-- read 2 from the frame, and 1 from flash
abbrev read-2 : Made
read-2 = made.read (page_no 2) (byte 0) (record { cache = holding 4 3 1 1 2; answer = Ok (record { way = reads.Frame; mends = 0 }) })
    (byte 20)

abbrev read-1 : Made
read-1 = made.read (page_no 1) (byte 0) (record { cache = holding 4 3 1 1 2; answer = Ok (record { way = reads.Flash; mends = 0 }) })
    (byte 255)

-- the flush rewrites blocks 1 and 2
abbrev flushed : Made
flushed = made.flush (record { cache = holding vacant vacant vacant 0 0; answer = Ok (record { rewrites = 2; merged = 1; mends = 0 }) })
    (10 ∷ 255 ∷ 20 ∷ 40 ∷ 30 ∷ 255 ∷ []) [] [] (1 ∷ 1 ∷ 1 ∷ []) (30 ∷ 255 ∷ [])

-- between the calls no bit flips
abbrev quietly : Lent → List Made → List Turn
quietly u [] = []
quietly u (m ∷ ms) = record { flash = u.below.flash; codes = u.below.codes; made = m } ∷ quietly (lent_after u m) ms

abbrev made-a : List Made
made-a = written-0 ∷ written_2 ∷ written_4 ∷ written-3 ∷ read-2 ∷ read-1 ∷ flushed ∷ []

abbrev writes-a : List Made
writes-a = written-0 ∷ written_2 ∷ written_4 ∷ written-3 ∷ []

abbrev pub turns : List Turn
turns = quietly lent_a made-a

pub accepted : OpeningContract sizes lent_a opening
unfolding open_shelf open_store lent_ok is_coded is_marked sizes_ok vacant_directory blank_cache every all tab tab_from directory_of
    torn_blocks count
accepted = refl

-- each call was made on what the one before it left, and did what its contract says
pub as_contracted : AsContracted opening.cache lent_a turns
unfolding directory_of shelf_call shelf_ok shelved shelve entries_after shelf_after shelving_reads ordinary call_reading reads_all heeding
    fault_of fault_met some_page mends_of mends_met sum reads_flash reads_page steps_merge merges_page cell_at is_coded is_marked format_of
    torn flash_cells uses_ok carried_out memory_of buffers_of zero_page lent_ok call_pages steps_pages decide flush_outcome steps
    step_outcome write_outcome read_outcome checked stepped_pages written_pages read_page stepped written read_directory rewritten_pages
    merged vacated exchanged_pages exchanged given_slot taken spare unmet joined_pages filled joined put_frame_page put_slot_page entered
    put_slot touched recency_after oneMore worn_by worn programmed flash_page lowest_worn is_worn cached due_of lowest_in_slots occupied
    plan eviction_plan evict_frame any_evictable evictable fewest_valid victim policy_choice fewest_uses least_recent read_way slot_count
    valid_count frame_of frame_with in_slots slot_of in_block inFrame sound framePast slot_past listed_once cached_once frames_differ
    slots_differ frame_ok slot_ok shape_ok sizes_ok every first first_from count all all_pairs tab tab_from bit mask nth argmax least
    page_at pages_of flat
as_contracted = (refl, (refl, (refl, (refl, (refl, (refl, (refl, tt)))))))

pub accepted-answer : (store_open (sizes_of sizes) lent_a.below lent_a.shelf).answer ≡ open_done
accepted-answer = ap (λ (x : ShelfOpened). x.answer) (sym accepted)

-- what demand 3 says of them
pub claim : Claim (sizes_of sizes) lent_a opening.cache lent_a (begun (sizes_of sizes) lent_a) turns
claim = demand_3 sizes lent_a opening accepted refl (codes-match (sizes_of sizes) lent_a refl accepted-answer) turns as_contracted

-- page array, book and log, the record and the buffers, after calls from the opening on
abbrev fed_all : ShelfReference → Lent → List Made → ShelfReference
fed_all r u [] = r
fed_all r u (m ∷ ms) = fed_all (fed_by (sizes_of sizes) r u m) (lent_after u m) ms

abbrev cache_all : Cache → List Made → Cache
cache_all c [] = c
cache_all c (m ∷ ms) = cache_all (cache_after m) ms

abbrev lent_all : Lent → List Made → Lent
lent_all u [] = u
lent_all u (m ∷ ms) = lent_all (lent_after u m) ms

abbrev beside : List Made → ShelfReference
beside ms = fed_all (begun (sizes_of sizes) lent_a) lent_a ms

-- what is claimed of calls ms between which no bit flips
abbrev Rest : ShelfReference → Cache → Lent → List Made → Type 0
Rest r c u ms = Claim (sizes_of sizes) lent_a c u r (quietly u ms) × StillNear (sizes_of sizes) r u

onward : (ms rest : List Made) (r : ShelfReference) (c : Cache) (u : Lent) → Rest r c u (ms ++ rest)
    → Rest (fed_all r u ms) (cache_all c ms) (lent_all u ms) rest
onward [] rest r c u h = h
onward (m ∷ ms) rest r c u h = let k = h.0 h.1 in
    onward ms rest (fed_by (sizes_of sizes) r u m) (cache_after m) (lent_after u m) (k.then, k.near)

after-calls : (ms rest : List Made) → ms ++ rest ≡ made-a → Rest (beside ms) (cache_all opening.cache ms) (lent_all lent_a ms) rest
after-calls ms rest e = onward ms rest _ _ lent_a
    (subst (Rest _ opening.cache lent_a) (sym e) (claim, near-opened (sizes_of sizes) lent_a accepted-answer))

-- the read of page 2 gave the array's page 2
pub read_a : byte 20 ≡ get_or (beside writes-a).reference.array 2 []
read_a = let h = after-calls writes-a (read-2 ∷ read-1 ∷ flushed ∷ []) refl in (h.0 h.1).reads refl

-- the flash that the flush left is the array, since the book takes the flush too, and the wear is the book's
after-all : After store_format StoreNear (sizes_of sizes) lent_a.below
    (store_of (cache_after flushed) (lent_all lent_a made-a)).store (beside made-a).reference
after-all = let h = after-calls made-a [] refl in h.0 (lent_all lent_a made-a).below.flash (lent_all lent_a made-a).below.codes h.1

pub flash-a : 10 ∷ 255 ∷ 20 ∷ 40 ∷ 30 ∷ 255 ∷ [] ≡ flat (beside made-a).reference.array
unfolding shelf_fed fed flash_pages flash_cells format_of pages_of page_at flat tab tab_from is_coded is_marked
flash-a =
    let h = after-calls (writes-a ++ read-2 ∷ read-1 ∷ []) (flushed ∷ []) refl in
    ap flat (after-all.flushed-is (ap (λ (a : Answer). not (is_refused a)) (sym (h.0 h.1).answers)))

pub wear-a : 1 ∷ 1 ∷ 1 ∷ [] ≡ (beside made-a).reference.book.wear
wear-a = after-all.wear-is
