-- Demand 3 at script A's sizes, for its writes, reads and flush: the opening is accepted, and the claim speaks of these very bytes.
use mathlib.Core.Path.{◌≡◌, refl}
use mathlib.Core.List.{List, [], ◌∷◌}
use Rattle.prelude.specs.Tests.{every}
use Rattle.prelude.specs.Scan.{first_from, first, count, all, all_pairs, nth, argmax, least, tab_from, tab}
use Rattle.prelude.specs.Bits.{bit, mask}
use Rattle.prelude.specs.Pages.{page_at, pages_of, flat}
use Rattle.model.specs.Sizes.{sizes_ok}
use Rattle.model.specs.Directory.{inFrame, vacant_directory, blank_cache}
use Rattle.model.specs.Soundness.{shape_ok, slot_ok, frame_ok, slots_differ, frames_differ, cached_once, listed_once, slot_past, framePast}
use Rattle.model.specs.Soundness.{uses_ok, sound}
use Rattle.model.specs.Policy.{in_block, slot_of, in_slots, frame_with, frame_of, valid_count, slot_count, read_way, least_recent, victim}
use Rattle.model.specs.Policy.{fewest_valid, evictable, any_evictable, evict_frame, eviction_plan, plan, occupied, lowest_in_slots, due_of}
use Rattle.model.specs.Policy.{cached, is_worn, lowest_worn}
use Rattle.model.specs.Policy.{fewest_uses, policy_choice}
use Rattle.model.specs.Moves.{cell_at, flash_page, programmed, worn, worn_by, recency_after, touched, put_slot, entered, put_slot_page}
use Rattle.model.specs.Moves.{put_frame_page, joined, filled, joined_pages, unmet, spare, taken, given_slot, exchanged, exchanged_pages}
use Rattle.model.specs.Moves.{vacated, merged, rewritten_pages, read_directory, written, stepped, read_page, written_pages, stepped_pages}
use Rattle.model.specs.Moves.{oneMore}
use Rattle.model.specs.Calls.{Call, read, write, flush, checked, read_outcome, write_outcome, step_outcome, steps, flush_outcome, decide}
use Rattle.model.specs.Calls.{steps_pages, call_pages, Page, lent_ok, open_store, Store, zero_page, memory_of, buffers_of, carried_out}
use Rattle.model.specs.Calls.{reads_all, call_reading, call, heeding, fault_of, fault_met, some_page, mends_of, mends_met, sum, reads_flash}
use Rattle.model.specs.Calls.{reads_page, steps_merge, merges_page, flash_cells}
use Rattle.model.specs.Formats.{format_of, torn, plain, NearBy, NoFlips}
use Rattle.model.proofs.Formats.{demand_3_plain}
use Rattle.model.specs.Lists.{Quiet, flash_pages, base_after, opened, fed, array_after}
use Rattle.model.proofs.AuditClauses.{sizes_a, lent_a}
use Rattle.model.proofs.Demand3.{by_policy, policy-picks}

abbrev calls_a : List (Call Page)
calls_a = write 0 (10 ∷ []) ∷ write 2 (20 ∷ []) ∷ write 4 (30 ∷ []) ∷ write 3 (40 ∷ []) ∷ read 2 (0 ∷ []) ∷ read 1 (0 ∷ []) ∷ flush ∷ []

abbrev store_a : Store
store_a = record { cache = (open_store plain sizes_a lent_a).cache; lent = lent_a }

pub claim-a : Quiet plain (NearBy NoFlips) sizes_a lent_a (by_policy calls_a) store_a (opened plain sizes_a lent_a)
unfolding open_store call carried_out memory_of buffers_of zero_page lent_ok call_pages steps_pages decide flush_outcome steps step_outcome
    write_outcome read_outcome checked stepped_pages written_pages read_page stepped written read_directory rewritten_pages merged vacated
    exchanged_pages exchanged given_slot taken spare unmet joined_pages filled joined put_frame_page put_slot_page entered put_slot touched
    recency_after oneMore worn_by worn programmed flash_page lowest_worn format_of torn flash_cells call_reading reads_all heeding fault_of
    fault_met some_page mends_of mends_met sum reads_flash reads_page steps_merge merges_page cell_at is_worn cached due_of lowest_in_slots
    occupied plan eviction_plan evict_frame any_evictable evictable fewest_valid victim policy_choice fewest_uses least_recent read_way
    slot_count valid_count frame_of frame_with in_slots slot_of in_block inFrame sound framePast uses_ok slot_past listed_once cached_once
    frames_differ slots_differ frame_ok slot_ok shape_ok sizes_ok vacant_directory blank_cache every first first_from count all all_pairs
    tab tab_from bit mask nth argmax least page_at pages_of flat
claim-a = demand_3_plain sizes_a lent_a refl (by_policy calls_a) (policy-picks calls_a)

-- the flash that the flush leaves is the page array: the newest contents of every page
abbrev ran : Store → List (Call Page) → Store
ran s [] = s
ran s (c ∷ cs) = ran (call plain policy_choice s c).store cs

pub flash-a : flash_pages plain sizes_a (ran store_a calls_a).lent ≡ (10 ∷ []) ∷ (255 ∷ []) ∷ (20 ∷ []) ∷ (40 ∷ []) ∷ (30 ∷ []) ∷ (255 ∷ [])
    ∷ []
unfolding opened fed array_after base_after flash_pages open_store call carried_out memory_of buffers_of zero_page lent_ok call_pages
    steps_pages decide flush_outcome steps step_outcome write_outcome read_outcome checked stepped_pages written_pages read_page stepped
    written read_directory rewritten_pages merged vacated exchanged_pages exchanged given_slot taken spare unmet joined_pages filled joined
    put_frame_page put_slot_page entered put_slot touched recency_after oneMore worn_by worn programmed flash_page lowest_worn format_of
    torn flash_cells call_reading reads_all heeding fault_of fault_met some_page mends_of mends_met sum reads_flash reads_page steps_merge
    merges_page cell_at is_worn cached due_of lowest_in_slots occupied plan eviction_plan evict_frame any_evictable evictable fewest_valid
    victim policy_choice fewest_uses least_recent read_way slot_count valid_count frame_of frame_with in_slots slot_of in_block inFrame
    sound framePast uses_ok slot_past listed_once cached_once frames_differ slots_differ frame_ok slot_ok shape_ok sizes_ok vacant_directory
    blank_cache every first first_from count all all_pairs tab tab_from bit mask nth argmax least page_at pages_of flat
flash-a = claim-a.then.then.then.then.then.then.then.flushed-is refl

-- the page that the fifth call read is the one last accepted for its number
pub read_a : (call plain policy_choice (ran store_a (write 0 (10 ∷ []) ∷ write 2 (20 ∷ []) ∷ write 4 (30 ∷ []) ∷ write 3 (40 ∷ []) ∷ []))
    (read 2 (0 ∷ []))).page ≡ 20 ∷ []
unfolding opened fed array_after base_after flash_pages open_store call carried_out memory_of buffers_of zero_page lent_ok call_pages
    steps_pages decide flush_outcome steps step_outcome write_outcome read_outcome checked stepped_pages written_pages read_page stepped
    written read_directory rewritten_pages merged vacated exchanged_pages exchanged given_slot taken spare unmet joined_pages filled joined
    put_frame_page put_slot_page entered put_slot touched recency_after oneMore worn_by worn programmed flash_page lowest_worn format_of
    torn flash_cells call_reading reads_all heeding fault_of fault_met some_page mends_of mends_met sum reads_flash reads_page steps_merge
    merges_page cell_at is_worn cached due_of lowest_in_slots occupied plan eviction_plan evict_frame any_evictable evictable fewest_valid
    victim policy_choice fewest_uses least_recent read_way slot_count valid_count frame_of frame_with in_slots slot_of in_block inFrame
    sound framePast uses_ok slot_past listed_once cached_once frames_differ slots_differ frame_ok slot_ok shape_ok sizes_ok vacant_directory
    blank_cache every first first_from count all all_pairs tab tab_from bit mask nth argmax least page_at pages_of flat
read_a = claim-a.then.then.then.then.reads refl
