-- Histories that tell the ways apart: which slot, block and frame, what becomes recent, and the slips of document 01.
use mathlib.Core.List.{List, [], ◌∷◌}
use Rattle.model.specs.Sizes.{plain_sizes, vacant}
use Rattle.model.specs.Calls.{open_done, read_done, write_done, step_done, flush_done, read, write, step, flush}
use Rattle.model.proofs.AuditRows.{Row, way}

-- a read hit in a frame makes it recent: way 7 then takes the other
abbrev pub read-hit : Row
read-hit = record {
  sizes = plain_sizes 1 2 5 2 2 9;
  wear = 0 ∷ 0 ∷ 0 ∷ 0 ∷ 0 ∷ [];
  calls = write 0 (1 ∷ []) ∷ write 2 (2 ∷ []) ∷ write 4 (3 ∷ []) ∷ write 6 (4 ∷ []) ∷ read 0 (0 ∷ []) ∷ write 8 (5 ∷ []) ∷ [];
  gives = record {
    opening = open_done;
    answers = way 3 ∷ way 3 ∷ way 5 ∷ way 5 ∷ read_done 2 ∷ write_done 7 1 1 ∷ [];
    pages = (1 ∷ []) ∷ (2 ∷ []) ∷ (3 ∷ []) ∷ (4 ∷ []) ∷ (1 ∷ []) ∷ (5 ∷ []) ∷ [];
    sizes = plain_sizes 1 2 5 2 2 9;
    slots = 8 ∷ 6 ∷ [];
    frames = 0 ∷ 2 ∷ [];
    valid = 1 ∷ 1 ∷ [];
    recency = 0 ∷ 1 ∷ [];
    uses = 2 ∷ 1 ∷ [];
    flash = 255 ∷ 255 ∷ 2 ∷ 255 ∷ 255 ∷ 255 ∷ 255 ∷ 255 ∷ 255 ∷ 255 ∷ [];
    pspace = 5 ∷ 4 ∷ [];
    bspace = 1 ∷ 0 ∷ 3 ∷ 255 ∷ [];
    wear = 0 ∷ 1 ∷ 0 ∷ 0 ∷ 0 ∷ [];
  };
}

-- a write hit in a frame makes it recent
abbrev pub write-hit : Row
write-hit = record {
  sizes = plain_sizes 1 2 5 2 2 9;
  wear = 0 ∷ 0 ∷ 0 ∷ 0 ∷ 0 ∷ [];
  calls = write 0 (1 ∷ []) ∷ write 2 (2 ∷ []) ∷ write 4 (3 ∷ []) ∷ write 6 (4 ∷ []) ∷ write 0 (6 ∷ []) ∷ write 8 (5 ∷ []) ∷ [];
  gives = record {
    opening = open_done;
    answers = way 3 ∷ way 3 ∷ way 5 ∷ way 5 ∷ way 2 ∷ write_done 7 1 1 ∷ [];
    pages = (1 ∷ []) ∷ (2 ∷ []) ∷ (3 ∷ []) ∷ (4 ∷ []) ∷ (6 ∷ []) ∷ (5 ∷ []) ∷ [];
    sizes = plain_sizes 1 2 5 2 2 9;
    slots = 8 ∷ 6 ∷ [];
    frames = 0 ∷ 2 ∷ [];
    valid = 1 ∷ 1 ∷ [];
    recency = 0 ∷ 1 ∷ [];
    uses = 2 ∷ 1 ∷ [];
    flash = 255 ∷ 255 ∷ 2 ∷ 255 ∷ 255 ∷ 255 ∷ 255 ∷ 255 ∷ 255 ∷ 255 ∷ [];
    pspace = 5 ∷ 4 ∷ [];
    bspace = 6 ∷ 0 ∷ 3 ∷ 255 ∷ [];
    wear = 0 ∷ 1 ∷ 0 ∷ 0 ∷ 0 ∷ [];
  };
}

-- hits in a slot leave the order alone, though their block has a frame
abbrev pub slot-hit : Row
slot-hit = record {
  sizes = plain_sizes 1 4 4 3 2 9;
  wear = 0 ∷ 0 ∷ 0 ∷ 0 ∷ [];
  calls = write 10 (1 ∷ []) ∷ write 7 (2 ∷ []) ∷ write 15 (3 ∷ []) ∷ write 8 (4 ∷ []) ∷ write 4 (5 ∷ []) ∷ write 4 (6 ∷ [])
      ∷ read 4 (0 ∷ []) ∷ step ∷ [];
  gives = record {
    opening = open_done;
    answers = way 3 ∷ way 3 ∷ way 3 ∷ way 5 ∷ way 5 ∷ way 1 ∷ read_done 1 ∷ step_done 1 2 ∷ [];
    pages = (1 ∷ []) ∷ (2 ∷ []) ∷ (3 ∷ []) ∷ (4 ∷ []) ∷ (5 ∷ []) ∷ (6 ∷ []) ∷ (6 ∷ []) ∷ [] ∷ [];
    sizes = plain_sizes 1 4 4 3 2 9;
    slots = vacant ∷ vacant ∷ 15 ∷ [];
    frames = vacant ∷ 2 ∷ [];
    valid = 0 ∷ 5 ∷ [];
    recency = 0 ∷ 1 ∷ [];
    uses = 0 ∷ 1 ∷ [];
    flash = 255 ∷ 255 ∷ 255 ∷ 255 ∷ 6 ∷ 255 ∷ 255 ∷ 2 ∷ 255 ∷ 255 ∷ 255 ∷ 255 ∷ 255 ∷ 255 ∷ 255 ∷ 255 ∷ [];
    pspace = 6 ∷ 4 ∷ 3 ∷ [];
    bspace = 6 ∷ 255 ∷ 255 ∷ 2 ∷ 4 ∷ 0 ∷ 1 ∷ 0 ∷ [];
    wear = 0 ∷ 1 ∷ 0 ∷ 0 ∷ [];
  };
}

-- a join makes its frame recent
abbrev pub join-recent : Row
join-recent = record {
  sizes = plain_sizes 1 2 5 2 2 9;
  wear = 0 ∷ 0 ∷ 0 ∷ 0 ∷ 0 ∷ [];
  calls = write 7 (1 ∷ []) ∷ write 2 (2 ∷ []) ∷ write 0 (3 ∷ []) ∷ write 3 (4 ∷ []) ∷ write 4 (5 ∷ []) ∷ write 6 (6 ∷ []) ∷ [];
  gives = record {
    opening = open_done;
    answers = way 3 ∷ way 3 ∷ way 5 ∷ way 5 ∷ way 4 ∷ write_done 7 0 1 ∷ [];
    pages = (1 ∷ []) ∷ (2 ∷ []) ∷ (3 ∷ []) ∷ (4 ∷ []) ∷ (5 ∷ []) ∷ (6 ∷ []) ∷ [];
    sizes = plain_sizes 1 2 5 2 2 9;
    slots = 7 ∷ 6 ∷ [];
    frames = 1 ∷ 2 ∷ [];
    valid = 3 ∷ 1 ∷ [];
    recency = 0 ∷ 1 ∷ [];
    uses = 2 ∷ 1 ∷ [];
    flash = 3 ∷ 255 ∷ 255 ∷ 255 ∷ 255 ∷ 255 ∷ 255 ∷ 255 ∷ 255 ∷ 255 ∷ [];
    pspace = 1 ∷ 6 ∷ [];
    bspace = 2 ∷ 4 ∷ 5 ∷ 255 ∷ [];
    wear = 1 ∷ 0 ∷ 0 ∷ 0 ∷ 0 ∷ [];
  };
}

-- way 6 takes the least recent of frames with equally few pages
abbrev pub tie_frames : Row
tie_frames = record {
  sizes = plain_sizes 1 2 5 2 2 9;
  wear = 0 ∷ 0 ∷ 0 ∷ 0 ∷ 0 ∷ [];
  calls = write 1 (1 ∷ []) ∷ write 3 (2 ∷ []) ∷ write 9 (3 ∷ []) ∷ write 8 (4 ∷ []) ∷ write 4 (5 ∷ []) ∷ [];
  gives = record {
    opening = open_done;
    answers = way 3 ∷ way 3 ∷ way 5 ∷ way 5 ∷ way 6 ∷ [];
    pages = (1 ∷ []) ∷ (2 ∷ []) ∷ (3 ∷ []) ∷ (4 ∷ []) ∷ (5 ∷ []) ∷ [];
    sizes = plain_sizes 1 2 5 2 2 9;
    slots = 1 ∷ 4 ∷ [];
    frames = 4 ∷ 1 ∷ [];
    valid = 3 ∷ 2 ∷ [];
    recency = 1 ∷ 0 ∷ [];
    uses = 1 ∷ 1 ∷ [];
    flash = 255 ∷ 255 ∷ 255 ∷ 255 ∷ 255 ∷ 255 ∷ 255 ∷ 255 ∷ 255 ∷ 255 ∷ [];
    pspace = 1 ∷ 5 ∷ [];
    bspace = 4 ∷ 3 ∷ 0 ∷ 2 ∷ [];
    wear = 0 ∷ 0 ∷ 0 ∷ 0 ∷ 0 ∷ [];
  };
}

-- the victim is the lowest of blocks with equally many pages
abbrev pub tie_blocks : Row
tie_blocks = record {
  sizes = plain_sizes 1 2 5 2 2 9;
  wear = 0 ∷ 0 ∷ 0 ∷ 0 ∷ 0 ∷ [];
  calls = write 8 (1 ∷ []) ∷ write 1 (2 ∷ []) ∷ write 4 (3 ∷ []) ∷ [];
  gives = record {
    opening = open_done;
    answers = way 3 ∷ way 3 ∷ way 5 ∷ [];
    pages = (1 ∷ []) ∷ (2 ∷ []) ∷ (3 ∷ []) ∷ [];
    sizes = plain_sizes 1 2 5 2 2 9;
    slots = 8 ∷ 4 ∷ [];
    frames = 0 ∷ vacant ∷ [];
    valid = 2 ∷ 0 ∷ [];
    recency = 1 ∷ 0 ∷ [];
    uses = 1 ∷ 0 ∷ [];
    flash = 255 ∷ 255 ∷ 255 ∷ 255 ∷ 255 ∷ 255 ∷ 255 ∷ 255 ∷ 255 ∷ 255 ∷ [];
    pspace = 1 ∷ 3 ∷ [];
    bspace = 0 ∷ 2 ∷ 0 ∷ 0 ∷ [];
    wear = 0 ∷ 0 ∷ 0 ∷ 0 ∷ 0 ∷ [];
  };
}

-- way 6 gives the old pages left to the vacated slots by slot number, not by page number
abbrev pub slot-order : Row
slot-order = record {
  sizes = plain_sizes 1 4 4 3 2 9;
  wear = 0 ∷ 0 ∷ 0 ∷ 0 ∷ [];
  calls = write 10 (1 ∷ []) ∷ write 15 (2 ∷ []) ∷ write 5 (3 ∷ []) ∷ write 1 (4 ∷ []) ∷ write 8 (5 ∷ []) ∷ write 0 (6 ∷ []) ∷ [];
  gives = record {
    opening = open_done;
    answers = way 3 ∷ way 3 ∷ way 3 ∷ way 5 ∷ way 5 ∷ way 6 ∷ [];
    pages = (1 ∷ []) ∷ (2 ∷ []) ∷ (3 ∷ []) ∷ (4 ∷ []) ∷ (5 ∷ []) ∷ (6 ∷ []) ∷ [];
    sizes = plain_sizes 1 4 4 3 2 9;
    slots = 5 ∷ 15 ∷ 0 ∷ [];
    frames = 2 ∷ 0 ∷ [];
    valid = 5 ∷ 2 ∷ [];
    recency = 1 ∷ 0 ∷ [];
    uses = 1 ∷ 1 ∷ [];
    flash = 255 ∷ 255 ∷ 255 ∷ 255 ∷ 255 ∷ 255 ∷ 255 ∷ 255 ∷ 255 ∷ 255 ∷ 255 ∷ 255 ∷ 255 ∷ 255 ∷ 255 ∷ 255 ∷ [];
    pspace = 3 ∷ 2 ∷ 6 ∷ [];
    bspace = 5 ∷ 3 ∷ 1 ∷ 0 ∷ 0 ∷ 4 ∷ 0 ∷ 0 ∷ [];
    wear = 0 ∷ 0 ∷ 0 ∷ 0 ∷ [];
  };
}

-- way 6 moves the old pages before it overwrites them: each page reads as written
abbrev pub exchange-bytes : Row
exchange-bytes = record {
  sizes = plain_sizes 1 4 3 3 1 9;
  wear = 0 ∷ 0 ∷ 0 ∷ [];
  calls = write 0 (10 ∷ []) ∷ write 4 (20 ∷ []) ∷ write 8 (30 ∷ []) ∷ write 9 (40 ∷ []) ∷ write 5 (50 ∷ []) ∷ read 0 (0 ∷ [])
      ∷ read 4 (0 ∷ []) ∷ read 5 (0 ∷ []) ∷ read 8 (0 ∷ []) ∷ read 9 (0 ∷ []) ∷ [];
  gives = record {
    opening = open_done;
    answers = way 3 ∷ way 3 ∷ way 3 ∷ way 5 ∷ way 6 ∷ read_done 1 ∷ read_done 1 ∷ read_done 1 ∷ read_done 2 ∷ read_done 2 ∷ [];
    pages = (10 ∷ []) ∷ (20 ∷ []) ∷ (30 ∷ []) ∷ (40 ∷ []) ∷ (50 ∷ []) ∷ (10 ∷ []) ∷ (20 ∷ []) ∷ (50 ∷ []) ∷ (30 ∷ []) ∷ (40 ∷ []) ∷ [];
    sizes = plain_sizes 1 4 3 3 1 9;
    slots = 5 ∷ 4 ∷ 0 ∷ [];
    frames = 2 ∷ [];
    valid = 3 ∷ [];
    recency = 0 ∷ [];
    uses = 3 ∷ [];
    flash = 255 ∷ 255 ∷ 255 ∷ 255 ∷ 255 ∷ 255 ∷ 255 ∷ 255 ∷ 255 ∷ 255 ∷ 255 ∷ 255 ∷ [];
    pspace = 50 ∷ 20 ∷ 10 ∷ [];
    bspace = 30 ∷ 40 ∷ 0 ∷ 0 ∷ [];
    wear = 0 ∷ 0 ∷ 0 ∷ [];
  };
}

-- way 6 with two old pages that meet no victim page, and three slots for them: offsets upward go to slots upward
abbrev pub two-unmet : Row
two-unmet = record {
  sizes = plain_sizes 1 5 4 5 1 9;
  wear = 0 ∷ 0 ∷ 0 ∷ 0 ∷ [];
  calls = write 0 (1 ∷ []) ∷ write 1 (2 ∷ []) ∷ write 7 (3 ∷ []) ∷ write 8 (4 ∷ []) ∷ write 15 (5 ∷ []) ∷ write 9 (6 ∷ [])
      ∷ write 10 (7 ∷ []) ∷ write 11 (8 ∷ []) ∷ [];
  gives = record {
    opening = open_done;
    answers = way 3 ∷ way 3 ∷ way 3 ∷ way 3 ∷ way 3 ∷ way 5 ∷ way 3 ∷ way 6 ∷ [];
    pages = (1 ∷ []) ∷ (2 ∷ []) ∷ (3 ∷ []) ∷ (4 ∷ []) ∷ (5 ∷ []) ∷ (6 ∷ []) ∷ (7 ∷ []) ∷ (8 ∷ []) ∷ [];
    sizes = plain_sizes 1 5 4 5 1 9;
    slots = 0 ∷ 10 ∷ 1 ∷ 11 ∷ 15 ∷ [];
    frames = 1 ∷ [];
    valid = 28 ∷ [];
    recency = 0 ∷ [];
    uses = 1 ∷ [];
    flash = 255 ∷ 255 ∷ 255 ∷ 255 ∷ 255 ∷ 255 ∷ 255 ∷ 255 ∷ 255 ∷ 255 ∷ 255 ∷ 255 ∷ 255 ∷ 255 ∷ 255 ∷ 255 ∷ 255 ∷ 255 ∷ 255 ∷ 255 ∷ [];
    pspace = 1 ∷ 7 ∷ 2 ∷ 8 ∷ 5 ∷ [];
    bspace = 1 ∷ 2 ∷ 3 ∷ 4 ∷ 6 ∷ [];
    wear = 0 ∷ 0 ∷ 0 ∷ 0 ∷ [];
  };
}

-- a flush step leaves the order alone
abbrev pub step-order : Row
step-order = record {
  sizes = plain_sizes 1 2 5 2 2 9;
  wear = 0 ∷ 0 ∷ 0 ∷ 0 ∷ 0 ∷ [];
  calls = write 0 (1 ∷ []) ∷ write 2 (2 ∷ []) ∷ write 4 (3 ∷ []) ∷ write 6 (4 ∷ []) ∷ read 0 (0 ∷ []) ∷ step ∷ [];
  gives = record {
    opening = open_done;
    answers = way 3 ∷ way 3 ∷ way 5 ∷ way 5 ∷ read_done 2 ∷ step_done 1 1 ∷ [];
    pages = (1 ∷ []) ∷ (2 ∷ []) ∷ (3 ∷ []) ∷ (4 ∷ []) ∷ (1 ∷ []) ∷ [] ∷ [];
    sizes = plain_sizes 1 2 5 2 2 9;
    slots = 4 ∷ 6 ∷ [];
    frames = 0 ∷ vacant ∷ [];
    valid = 1 ∷ 0 ∷ [];
    recency = 1 ∷ 0 ∷ [];
    uses = 2 ∷ 0 ∷ [];
    flash = 255 ∷ 255 ∷ 2 ∷ 255 ∷ 255 ∷ 255 ∷ 255 ∷ 255 ∷ 255 ∷ 255 ∷ [];
    pspace = 3 ∷ 4 ∷ [];
    bspace = 1 ∷ 0 ∷ 2 ∷ 255 ∷ [];
    wear = 0 ∷ 1 ∷ 0 ∷ 0 ∷ 0 ∷ [];
  };
}

-- a step's merge reads are counted after the join
abbrev pub merge_count : Row
merge_count = record {
  sizes = plain_sizes 1 4 4 3 2 9;
  wear = 0 ∷ 0 ∷ 0 ∷ 0 ∷ [];
  calls = write 4 (1 ∷ []) ∷ write 8 (2 ∷ []) ∷ write 12 (3 ∷ []) ∷ write 5 (4 ∷ []) ∷ step ∷ [];
  gives = record {
    opening = open_done;
    answers = way 3 ∷ way 3 ∷ way 3 ∷ way 5 ∷ step_done 1 2 ∷ [];
    pages = (1 ∷ []) ∷ (2 ∷ []) ∷ (3 ∷ []) ∷ (4 ∷ []) ∷ [] ∷ [];
    sizes = plain_sizes 1 4 4 3 2 9;
    slots = vacant ∷ 8 ∷ 12 ∷ [];
    frames = vacant ∷ vacant ∷ [];
    valid = 0 ∷ 0 ∷ [];
    recency = 1 ∷ 0 ∷ [];
    uses = 0 ∷ 0 ∷ [];
    flash = 255 ∷ 255 ∷ 255 ∷ 255 ∷ 1 ∷ 4 ∷ 255 ∷ 255 ∷ 255 ∷ 255 ∷ 255 ∷ 255 ∷ 255 ∷ 255 ∷ 255 ∷ 255 ∷ [];
    pspace = 4 ∷ 2 ∷ 3 ∷ [];
    bspace = 1 ∷ 4 ∷ 255 ∷ 255 ∷ 0 ∷ 0 ∷ 0 ∷ 0 ∷ [];
    wear = 0 ∷ 1 ∷ 0 ∷ 0 ∷ [];
  };
}

-- a flush goes over frames, then slots: 4 blocks cached, 4 rewrites
abbrev pub flush-all : Row
flush-all = record {
  sizes = plain_sizes 1 2 5 2 2 9;
  wear = 0 ∷ 0 ∷ 0 ∷ 0 ∷ 0 ∷ [];
  calls = write 0 (1 ∷ []) ∷ write 2 (2 ∷ []) ∷ write 4 (3 ∷ []) ∷ write 9 (4 ∷ []) ∷ flush ∷ read 0 (0 ∷ []) ∷ read 9 (0 ∷ []) ∷ [];
  gives = record {
    opening = open_done;
    answers = way 3 ∷ way 3 ∷ way 5 ∷ way 5 ∷ flush_done 4 4 ∷ read_done 3 ∷ read_done 3 ∷ [];
    pages = (1 ∷ []) ∷ (2 ∷ []) ∷ (3 ∷ []) ∷ (4 ∷ []) ∷ [] ∷ (1 ∷ []) ∷ (4 ∷ []) ∷ [];
    sizes = plain_sizes 1 2 5 2 2 9;
    slots = vacant ∷ vacant ∷ [];
    frames = vacant ∷ vacant ∷ [];
    valid = 0 ∷ 0 ∷ [];
    recency = 0 ∷ 1 ∷ [];
    uses = 0 ∷ 0 ∷ [];
    flash = 1 ∷ 255 ∷ 2 ∷ 255 ∷ 3 ∷ 255 ∷ 255 ∷ 255 ∷ 255 ∷ 4 ∷ [];
    pspace = 3 ∷ 4 ∷ [];
    bspace = 255 ∷ 4 ∷ 2 ∷ 255 ∷ [];
    wear = 1 ∷ 1 ∷ 1 ∷ 0 ∷ 1 ∷ [];
  };
}

-- a read from flash caches nothing
abbrev pub read-miss : Row
read-miss = record {
  sizes = plain_sizes 1 2 5 2 2 9;
  wear = 0 ∷ 0 ∷ 0 ∷ 0 ∷ 0 ∷ [];
  calls = read 3 (0 ∷ []) ∷ write 5 (2 ∷ []) ∷ write 3 (3 ∷ []) ∷ write 3 (4 ∷ []) ∷ read 3 (0 ∷ []) ∷ [];
  gives = record {
    opening = open_done;
    answers = read_done 3 ∷ way 3 ∷ way 3 ∷ way 1 ∷ read_done 1 ∷ [];
    pages = (255 ∷ []) ∷ (2 ∷ []) ∷ (3 ∷ []) ∷ (4 ∷ []) ∷ (4 ∷ []) ∷ [];
    sizes = plain_sizes 1 2 5 2 2 9;
    slots = 5 ∷ 3 ∷ [];
    frames = vacant ∷ vacant ∷ [];
    valid = 0 ∷ 0 ∷ [];
    recency = 0 ∷ 1 ∷ [];
    uses = 0 ∷ 0 ∷ [];
    flash = 255 ∷ 255 ∷ 255 ∷ 255 ∷ 255 ∷ 255 ∷ 255 ∷ 255 ∷ 255 ∷ 255 ∷ [];
    pspace = 2 ∷ 4 ∷ [];
    bspace = 0 ∷ 0 ∷ 0 ∷ 0 ∷ [];
    wear = 0 ∷ 0 ∷ 0 ∷ 0 ∷ 0 ∷ [];
  };
}

-- a block that has a frame gets no second one
abbrev pub one-frame : Row
one-frame = record {
  sizes = plain_sizes 1 2 5 2 2 9;
  wear = 0 ∷ 0 ∷ 0 ∷ 0 ∷ 0 ∷ [];
  calls = write 5 (1 ∷ []) ∷ write 7 (2 ∷ []) ∷ write 4 (3 ∷ []) ∷ write 8 (4 ∷ []) ∷ write 6 (5 ∷ []) ∷ [];
  gives = record {
    opening = open_done;
    answers = way 3 ∷ way 3 ∷ way 5 ∷ way 4 ∷ way 5 ∷ [];
    pages = (1 ∷ []) ∷ (2 ∷ []) ∷ (3 ∷ []) ∷ (4 ∷ []) ∷ (5 ∷ []) ∷ [];
    sizes = plain_sizes 1 2 5 2 2 9;
    slots = 8 ∷ 6 ∷ [];
    frames = 2 ∷ 3 ∷ [];
    valid = 3 ∷ 2 ∷ [];
    recency = 0 ∷ 1 ∷ [];
    uses = 2 ∷ 1 ∷ [];
    flash = 255 ∷ 255 ∷ 255 ∷ 255 ∷ 255 ∷ 255 ∷ 255 ∷ 255 ∷ 255 ∷ 255 ∷ [];
    pspace = 4 ∷ 5 ∷ [];
    bspace = 3 ∷ 1 ∷ 0 ∷ 2 ∷ [];
    wear = 0 ∷ 0 ∷ 0 ∷ 0 ∷ 0 ∷ [];
  };
}

-- merge reads come before the erasure: pages that were not cached survive a rewrite
abbrev pub merge_first : Row
merge_first = record {
  sizes = plain_sizes 1 4 4 3 2 9;
  wear = 0 ∷ 0 ∷ 0 ∷ 0 ∷ [];
  calls = write 7 (1 ∷ []) ∷ flush ∷ write 4 (3 ∷ []) ∷ step ∷ read 7 (0 ∷ []) ∷ read 4 (0 ∷ []) ∷ [];
  gives = record {
    opening = open_done;
    answers = way 3 ∷ flush_done 1 3 ∷ way 3 ∷ step_done 1 3 ∷ read_done 3 ∷ read_done 3 ∷ [];
    pages = (1 ∷ []) ∷ [] ∷ (3 ∷ []) ∷ [] ∷ (1 ∷ []) ∷ (3 ∷ []) ∷ [];
    sizes = plain_sizes 1 4 4 3 2 9;
    slots = vacant ∷ vacant ∷ vacant ∷ [];
    frames = vacant ∷ vacant ∷ [];
    valid = 0 ∷ 0 ∷ [];
    recency = 0 ∷ 1 ∷ [];
    uses = 0 ∷ 0 ∷ [];
    flash = 255 ∷ 255 ∷ 255 ∷ 255 ∷ 3 ∷ 255 ∷ 255 ∷ 1 ∷ 255 ∷ 255 ∷ 255 ∷ 255 ∷ 255 ∷ 255 ∷ 255 ∷ 255 ∷ [];
    pspace = 3 ∷ 0 ∷ 0 ∷ [];
    bspace = 3 ∷ 255 ∷ 255 ∷ 1 ∷ 0 ∷ 0 ∷ 0 ∷ 0 ∷ [];
    wear = 0 ∷ 2 ∷ 0 ∷ 0 ∷ [];
  };
}

-- way 7 with two pages of the rewritten block in slots: no merge read is left, their slots are vacated, and flash has them
abbrev pub stragglers : Row
stragglers = record {
  sizes = plain_sizes 1 4 4 4 2 9;
  wear = 0 ∷ 0 ∷ 0 ∷ 0 ∷ [];
  calls = write 6 (10 ∷ []) ∷ write 11 (20 ∷ []) ∷ write 4 (30 ∷ []) ∷ write 12 (40 ∷ []) ∷ write 9 (50 ∷ []) ∷ write 14 (60 ∷ [])
      ∷ write 10 (70 ∷ []) ∷ write 15 (80 ∷ []) ∷ write 8 (90 ∷ []) ∷ write 2 (100 ∷ []) ∷ read 10 (0 ∷ []) ∷ read 8 (0 ∷ []) ∷ [];
  gives = record {
    opening = open_done;
    answers = way 3 ∷ way 3 ∷ way 3 ∷ way 3 ∷ way 5 ∷ way 3 ∷ way 5 ∷ way 3 ∷ way 6 ∷ write_done 7 2 0 ∷ read_done 3 ∷ read_done 3 ∷ [];
    pages = (10 ∷ []) ∷ (20 ∷ []) ∷ (30 ∷ []) ∷ (40 ∷ []) ∷ (50 ∷ []) ∷ (60 ∷ []) ∷ (70 ∷ []) ∷ (80 ∷ []) ∷ (90 ∷ []) ∷ (100 ∷ [])
        ∷ (70 ∷ []) ∷ (90 ∷ []) ∷ [];
    sizes = plain_sizes 1 4 4 4 2 9;
    slots = 2 ∷ vacant ∷ vacant ∷ vacant ∷ [];
    frames = 3 ∷ 1 ∷ [];
    valid = 13 ∷ 5 ∷ [];
    recency = 0 ∷ 1 ∷ [];
    uses = 1 ∷ 1 ∷ [];
    flash = 255 ∷ 255 ∷ 255 ∷ 255 ∷ 255 ∷ 255 ∷ 255 ∷ 255 ∷ 90 ∷ 50 ∷ 70 ∷ 20 ∷ 255 ∷ 255 ∷ 255 ∷ 255 ∷ [];
    pspace = 100 ∷ 90 ∷ 10 ∷ 30 ∷ [];
    bspace = 40 ∷ 0 ∷ 60 ∷ 80 ∷ 30 ∷ 50 ∷ 10 ∷ 20 ∷ [];
    wear = 0 ∷ 0 ∷ 1 ∷ 0 ∷ [];
  };
}

abbrev pub ways : List Row
ways = read-hit ∷ write-hit ∷ slot-hit ∷ join-recent ∷ tie_frames ∷ tie_blocks ∷ slot-order ∷ exchange-bytes ∷ two-unmet ∷ step-order
    ∷ merge_count ∷ flush-all ∷ read-miss ∷ one-frame ∷ merge_first ∷ stragglers ∷ []
