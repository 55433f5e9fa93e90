-- The tables of the audit hold, by computing with the definitions.
use mathlib.Core.Path.{◌≡◌, refl}
use mathlib.Core.List.{List, [], ◌∷◌, map}
use Rattle.prelude.specs.Tests.{every}
use Rattle.prelude.specs.Scan.{first_from, first, count, all, all_pairs, nth, argmax, least, tab_from, tab}
use Rattle.prelude.specs.Bits.{bit, mask}
use Rattle.prelude.specs.Pages.{page_at, laid, pages_of, flat}
use Rattle.model.specs.Sizes.{is_coded, is_marked, sizes_ok}
use Rattle.model.specs.Directory.{inFrame, vacant_directory, blank_cache}
use Rattle.model.specs.Soundness.{shape_ok, slot_ok, frame_ok, slots_differ, frames_differ, cached_once, listed_once, slot_past, framePast}
use Rattle.model.specs.Soundness.{uses_ok, sound}
use Rattle.model.specs.Policy.{in_block, slot_of, in_slots, frame_with, frame_of, valid_count, slot_count, read_way, least_recent, victim}
use Rattle.model.specs.Policy.{fewest_valid, evictable, any_evictable, evict_frame, eviction_plan, plan, occupied, lowest_in_slots, due_of}
use Rattle.model.specs.Policy.{cached, is_worn, lowest_worn}
use Rattle.model.specs.Policy.{fewest_uses, policy_choice}
use Rattle.model.specs.Moves.{cell_at, flash_page, programmed, worn, worn_by, recency_after, touched, put_slot, entered, put_slot_page}
use Rattle.model.specs.Moves.{put_frame_page}
use Rattle.model.specs.Moves.{joined, filled, joined_pages, unmet, spare, taken, given_slot, exchanged, exchanged_pages, vacated, merged}
use Rattle.model.specs.Moves.{rewritten_pages, read_directory, written, stepped, read_page, written_pages, stepped_pages}
use Rattle.model.specs.Moves.{oneMore}
use Rattle.model.specs.Calls.{checked, read_outcome, write_outcome, part_outcome, step_outcome, steps, flush_outcome, decide, steps_pages}
use Rattle.model.specs.Calls.{combined, call_pages, lent_ok, torn_blocks, open_store, zero_page, memory_of, buffers_of, carried_out, call}
use Rattle.model.specs.Calls.{flash_cells, call_reading, reads_all, heeding, fault_of, fault_met, some_page, mends_of, mends_met, sum}
use Rattle.model.specs.Calls.{reads_flash}
use Rattle.model.specs.Calls.{reads_page, steps_merge, merges_page}
use Rattle.model.specs.Formats.{format_of, torn, page_code}
use Rattle.model.proofs.AuditRows.{Row, given, listed}
use Rattle.model.proofs.AuditPaper.{paper}
use Rattle.model.proofs.AuditWays.{ways}
use Rattle.model.proofs.AuditFrames.{tie_of_three, oldest_of_four}
use Rattle.model.proofs.AuditWorn.{worn_blocks}
use Rattle.model.proofs.AuditParts.{parts}
use Rattle.model.proofs.AuditPolicy.{fifo-joins, lfu_ties, lfu_passes, begun, begun_listed, counts}
use Rattle.model.proofs.AuditOpenings.{openings, opened, opened_listed, limits, causes, options, called, called_listed, lendings}
use Rattle.model.proofs.AuditSpoilt.{tried, tried_unspoilt, unspoilt_listed, unspoilt, spoilt_listed, spoilt}

-- every row of these tables of the base holds, by the definitions
pub rows : (map given paper ≡ map listed paper) × (map given ways ≡ map listed ways)
    × (map given worn_blocks ≡ map listed worn_blocks) × (map given parts ≡ map listed parts) × (map given openings ≡ map listed openings)
    × (map opened causes ≡ map opened_listed causes) × (map opened limits ≡ map opened_listed limits)
    × (map opened options ≡ map opened_listed options) × (map called lendings ≡ map called_listed lendings)
    × (map tried_unspoilt unspoilt ≡ map unspoilt_listed unspoilt) × (map tried spoilt ≡ map spoilt_listed spoilt)
unfolding open_store torn_blocks call carried_out memory_of buffers_of zero_page lent_ok call_pages steps_pages decide flush_outcome steps
    step_outcome part_outcome write_outcome read_outcome checked combined laid stepped_pages written_pages read_page stepped written
    read_directory rewritten_pages merged vacated exchanged_pages exchanged given_slot taken spare unmet joined_pages filled joined
    put_frame_page put_slot_page entered put_slot touched recency_after oneMore worn_by worn programmed flash_page format_of torn page_code
    flash_cells call_reading reads_all heeding fault_of fault_met some_page mends_of mends_met sum reads_flash reads_page steps_merge
    merges_page cell_at is_coded is_marked lowest_worn is_worn cached due_of lowest_in_slots occupied plan eviction_plan evict_frame
    any_evictable evictable fewest_valid victim policy_choice fewest_uses least_recent read_way slot_count valid_count frame_of frame_with
    in_slots slot_of in_block inFrame sound uses_ok framePast slot_past listed_once cached_once frames_differ slots_differ frame_ok slot_ok
    shape_ok sizes_ok vacant_directory blank_cache every first first_from count all all_pairs tab tab_from bit mask nth argmax least page_at
    pages_of flat
rows = (refl, refl, refl, refl, refl, refl, refl, refl, refl, refl, refl)

-- Of the two largest tables, the rows that wrong definitions come up against first. That all rows of both hold is shown in the crate `audit`.
abbrev pub telling : List Row
telling = tie_of_three ∷ oldest_of_four ∷ fifo-joins ∷ lfu_ties ∷ lfu_passes ∷ []

-- they hold too, and those that start from a record with the greatest use counts
pub telling-rows : (map given telling ≡ map listed telling) × (map begun counts ≡ map begun_listed counts)
unfolding open_store torn_blocks call carried_out memory_of buffers_of zero_page lent_ok call_pages steps_pages decide flush_outcome steps
    step_outcome part_outcome write_outcome read_outcome checked combined laid stepped_pages written_pages read_page stepped written
    read_directory rewritten_pages merged vacated exchanged_pages exchanged given_slot taken spare unmet joined_pages filled joined
    put_frame_page put_slot_page entered put_slot touched recency_after oneMore worn_by worn programmed flash_page format_of torn
    flash_cells call_reading reads_all heeding fault_of fault_met some_page mends_of mends_met sum reads_flash reads_page steps_merge
    merges_page cell_at is_coded is_marked lowest_worn is_worn cached due_of lowest_in_slots occupied plan eviction_plan evict_frame
    any_evictable evictable fewest_valid victim policy_choice fewest_uses least_recent read_way slot_count valid_count frame_of frame_with
    in_slots slot_of in_block inFrame sound uses_ok framePast slot_past listed_once cached_once frames_differ slots_differ frame_ok slot_ok
    shape_ok sizes_ok vacant_directory blank_cache every first first_from count all all_pairs tab tab_from bit mask nth argmax least page_at
    pages_of flat
telling-rows = (refl, refl)
