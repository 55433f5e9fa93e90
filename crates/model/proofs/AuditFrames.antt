-- Histories with three, four and eight frames: the order of use.
use mathlib.Core.List.{List, [], ◌∷◌}
use Rattle.model.specs.Sizes.{plain_sizes, vacant}
use Rattle.model.specs.Calls.{open_done, read_done, write_done, step_done, step_clean, flush_done, read, write, step, flush}
use Rattle.model.proofs.AuditRows.{Row, way}

-- a read hit of the least recent of three frames puts it last and leaves the other two in their order
abbrev pub first-used : Row
first-used = record {
  sizes = plain_sizes 1 2 6 2 3 9;
  wear = 0 ∷ 0 ∷ 0 ∷ 0 ∷ 0 ∷ 0 ∷ [];
  calls = write 0 (1 ∷ []) ∷ write 2 (2 ∷ []) ∷ write 4 (3 ∷ []) ∷ write 6 (4 ∷ []) ∷ write 8 (5 ∷ []) ∷ read 0 (0 ∷ [])
      ∷ write 10 (6 ∷ []) ∷ [];
  gives = record {
    opening = open_done;
    answers = way 3 ∷ way 3 ∷ way 5 ∷ way 5 ∷ way 5 ∷ read_done 2 ∷ write_done 7 1 1 ∷ [];
    pages = (1 ∷ []) ∷ (2 ∷ []) ∷ (3 ∷ []) ∷ (4 ∷ []) ∷ (5 ∷ []) ∷ (1 ∷ []) ∷ (6 ∷ []) ∷ [];
    sizes = plain_sizes 1 2 6 2 3 9;
    slots = 8 ∷ 10 ∷ [];
    frames = 0 ∷ 3 ∷ 2 ∷ [];
    valid = 1 ∷ 1 ∷ 1 ∷ [];
    recency = 2 ∷ 0 ∷ 1 ∷ [];
    uses = 2 ∷ 1 ∷ 1 ∷ [];
    flash = 255 ∷ 255 ∷ 2 ∷ 255 ∷ 255 ∷ 255 ∷ 255 ∷ 255 ∷ 255 ∷ 255 ∷ 255 ∷ 255 ∷ [];
    pspace = 5 ∷ 6 ∷ [];
    bspace = 1 ∷ 0 ∷ 4 ∷ 255 ∷ 3 ∷ 0 ∷ [];
    wear = 0 ∷ 1 ∷ 0 ∷ 0 ∷ 0 ∷ 0 ∷ [];
  };
}

-- a write hit of the frame in the middle puts it last: way 7 then takes the first, and after it the third
abbrev pub middle_used : Row
middle_used = record {
  sizes = plain_sizes 1 2 6 2 3 9;
  wear = 0 ∷ 0 ∷ 0 ∷ 0 ∷ 0 ∷ 0 ∷ [];
  calls = write 0 (1 ∷ []) ∷ write 2 (2 ∷ []) ∷ write 4 (3 ∷ []) ∷ write 6 (4 ∷ []) ∷ write 8 (5 ∷ []) ∷ write 2 (6 ∷ [])
      ∷ write 10 (7 ∷ []) ∷ write 11 (8 ∷ []) ∷ [];
  gives = record {
    opening = open_done;
    answers = way 3 ∷ way 3 ∷ way 5 ∷ way 5 ∷ way 5 ∷ way 2 ∷ write_done 7 0 1 ∷ write_done 7 2 1 ∷ [];
    pages = (1 ∷ []) ∷ (2 ∷ []) ∷ (3 ∷ []) ∷ (4 ∷ []) ∷ (5 ∷ []) ∷ (6 ∷ []) ∷ (7 ∷ []) ∷ (8 ∷ []) ∷ [];
    sizes = plain_sizes 1 2 6 2 3 9;
    slots = 11 ∷ 10 ∷ [];
    frames = 3 ∷ 1 ∷ 4 ∷ [];
    valid = 1 ∷ 1 ∷ 1 ∷ [];
    recency = 1 ∷ 0 ∷ 2 ∷ [];
    uses = 1 ∷ 2 ∷ 1 ∷ [];
    flash = 1 ∷ 255 ∷ 255 ∷ 255 ∷ 3 ∷ 255 ∷ 255 ∷ 255 ∷ 255 ∷ 255 ∷ 255 ∷ 255 ∷ [];
    pspace = 8 ∷ 7 ∷ [];
    bspace = 4 ∷ 255 ∷ 6 ∷ 0 ∷ 5 ∷ 255 ∷ [];
    wear = 1 ∷ 0 ∷ 1 ∷ 0 ∷ 0 ∷ 0 ∷ [];
  };
}

-- two of three frames have equally few pages: way 6 takes the less recent of the two, which has neither the lower number nor the first
-- entry of the order
abbrev pub tie_of_three : Row
tie_of_three = record {
  sizes = plain_sizes 1 4 6 4 3 9;
  wear = 0 ∷ 0 ∷ 0 ∷ 0 ∷ 0 ∷ 0 ∷ [];
  calls = write 0 (1 ∷ []) ∷ write 1 (2 ∷ []) ∷ write 4 (3 ∷ []) ∷ write 8 (4 ∷ []) ∷ write 12 (5 ∷ []) ∷ write 16 (6 ∷ [])
      ∷ write 20 (7 ∷ []) ∷ write 13 (8 ∷ []) ∷ read 4 (0 ∷ []) ∷ write 17 (9 ∷ []) ∷ read 8 (0 ∷ []) ∷ read 12 (0 ∷ [])
      ∷ read 13 (0 ∷ []) ∷ [];
  gives = record {
    opening = open_done;
    answers = way 3 ∷ way 3 ∷ way 3 ∷ way 3 ∷ way 5 ∷ way 3 ∷ way 5 ∷ way 5 ∷ read_done 2 ∷ way 6 ∷ read_done 1 ∷ read_done 2 ∷ read_done 2
        ∷ [];
    pages = (1 ∷ []) ∷ (2 ∷ []) ∷ (3 ∷ []) ∷ (4 ∷ []) ∷ (5 ∷ []) ∷ (6 ∷ []) ∷ (7 ∷ []) ∷ (8 ∷ []) ∷ (3 ∷ []) ∷ (9 ∷ []) ∷ (4 ∷ [])
        ∷ (5 ∷ []) ∷ (8 ∷ []) ∷ [];
    sizes = plain_sizes 1 4 6 4 3 9;
    slots = 8 ∷ 16 ∷ 20 ∷ 17 ∷ [];
    frames = 0 ∷ 1 ∷ 3 ∷ [];
    valid = 3 ∷ 1 ∷ 3 ∷ [];
    recency = 0 ∷ 1 ∷ 2 ∷ [];
    uses = 1 ∷ 2 ∷ 3 ∷ [];
    flash = 255 ∷ 255 ∷ 255 ∷ 255 ∷ 255 ∷ 255 ∷ 255 ∷ 255 ∷ 255 ∷ 255 ∷ 255 ∷ 255 ∷ 255 ∷ 255 ∷ 255 ∷ 255 ∷ 255 ∷ 255 ∷ 255 ∷ 255 ∷ 255
        ∷ 255 ∷ 255 ∷ 255 ∷ [];
    pspace = 4 ∷ 6 ∷ 7 ∷ 9 ∷ [];
    bspace = 1 ∷ 2 ∷ 0 ∷ 0 ∷ 3 ∷ 0 ∷ 0 ∷ 0 ∷ 5 ∷ 8 ∷ 0 ∷ 0 ∷ [];
    wear = 0 ∷ 0 ∷ 0 ∷ 0 ∷ 0 ∷ 0 ∷ [];
  };
}

-- way 6 takes the frame with the fewest pages, though a less recent one has fewer than v as well
abbrev pub fewest-of_three : Row
fewest-of_three = record {
  sizes = plain_sizes 1 4 6 4 3 9;
  wear = 0 ∷ 0 ∷ 0 ∷ 0 ∷ 0 ∷ 0 ∷ [];
  calls = write 0 (1 ∷ []) ∷ write 1 (2 ∷ []) ∷ write 20 (3 ∷ []) ∷ write 21 (4 ∷ []) ∷ write 7 (5 ∷ []) ∷ write 12 (6 ∷ [])
      ∷ write 16 (7 ∷ []) ∷ write 22 (8 ∷ []) ∷ write 23 (9 ∷ []) ∷ write 13 (10 ∷ []) ∷ write 14 (11 ∷ []) ∷ write 8 (12 ∷ [])
      ∷ read 7 (0 ∷ []) ∷ read 12 (0 ∷ []) ∷ read 13 (0 ∷ []) ∷ read 14 (0 ∷ []) ∷ [];
  gives = record {
    opening = open_done;
    answers = way 3 ∷ way 3 ∷ way 3 ∷ way 3 ∷ way 5 ∷ way 3 ∷ way 5 ∷ way 3 ∷ way 5 ∷ way 4 ∷ way 3 ∷ way 6 ∷ read_done 1 ∷ read_done 2
        ∷ read_done 2 ∷ read_done 2 ∷ [];
    pages = (1 ∷ []) ∷ (2 ∷ []) ∷ (3 ∷ []) ∷ (4 ∷ []) ∷ (5 ∷ []) ∷ (6 ∷ []) ∷ (7 ∷ []) ∷ (8 ∷ []) ∷ (9 ∷ []) ∷ (10 ∷ []) ∷ (11 ∷ [])
        ∷ (12 ∷ []) ∷ (5 ∷ []) ∷ (6 ∷ []) ∷ (10 ∷ []) ∷ (11 ∷ []) ∷ [];
    sizes = plain_sizes 1 4 6 4 3 9;
    slots = 7 ∷ 8 ∷ 16 ∷ vacant ∷ [];
    frames = 0 ∷ 5 ∷ 3 ∷ [];
    valid = 3 ∷ 15 ∷ 7 ∷ [];
    recency = 0 ∷ 1 ∷ 2 ∷ [];
    uses = 1 ∷ 2 ∷ 4 ∷ [];
    flash = 255 ∷ 255 ∷ 255 ∷ 255 ∷ 255 ∷ 255 ∷ 255 ∷ 255 ∷ 255 ∷ 255 ∷ 255 ∷ 255 ∷ 255 ∷ 255 ∷ 255 ∷ 255 ∷ 255 ∷ 255 ∷ 255 ∷ 255 ∷ 255
        ∷ 255 ∷ 255 ∷ 255 ∷ [];
    pspace = 5 ∷ 12 ∷ 7 ∷ 11 ∷ [];
    bspace = 1 ∷ 2 ∷ 0 ∷ 0 ∷ 3 ∷ 4 ∷ 8 ∷ 9 ∷ 6 ∷ 10 ∷ 11 ∷ 5 ∷ [];
    wear = 0 ∷ 0 ∷ 0 ∷ 0 ∷ 0 ∷ 0 ∷ [];
  };
}

-- three frames used in mixed order by a read hit, a write hit and a join, but not by a hit in a slot or a read from flash: steps in
-- succession take the frames in that order, then the slots by block
abbrev pub steps-of_three : Row
steps-of_three = record {
  sizes = plain_sizes 1 4 6 4 3 9;
  wear = 0 ∷ 0 ∷ 0 ∷ 0 ∷ 0 ∷ 0 ∷ [];
  calls = write 0 (1 ∷ []) ∷ write 4 (2 ∷ []) ∷ write 8 (3 ∷ []) ∷ write 12 (4 ∷ []) ∷ write 16 (5 ∷ []) ∷ write 5 (6 ∷ [])
      ∷ write 9 (7 ∷ []) ∷ write 10 (8 ∷ []) ∷ write 11 (9 ∷ []) ∷ read 4 (0 ∷ []) ∷ write 0 (10 ∷ []) ∷ write 10 (11 ∷ [])
      ∷ read 3 (0 ∷ []) ∷ write 17 (12 ∷ []) ∷ write 6 (13 ∷ []) ∷ step ∷ step ∷ step ∷ step ∷ step ∷ step ∷ [];
  gives = record {
    opening = open_done;
    answers = way 3 ∷ way 3 ∷ way 3 ∷ way 3 ∷ way 5 ∷ way 5 ∷ way 4 ∷ way 5 ∷ way 3 ∷ read_done 2 ∷ way 2 ∷ way 1 ∷ read_done 3 ∷ way 4
        ∷ way 3 ∷ step_done 1 1 ∷ step_done 0 3 ∷ step_done 2 0 ∷ step_done 3 3 ∷ step_done 4 2 ∷ step_clean ∷ [];
    pages = (1 ∷ []) ∷ (2 ∷ []) ∷ (3 ∷ []) ∷ (4 ∷ []) ∷ (5 ∷ []) ∷ (6 ∷ []) ∷ (7 ∷ []) ∷ (8 ∷ []) ∷ (9 ∷ []) ∷ (2 ∷ []) ∷ (10 ∷ [])
        ∷ (11 ∷ []) ∷ (255 ∷ []) ∷ (12 ∷ []) ∷ (13 ∷ []) ∷ [] ∷ [] ∷ [] ∷ [] ∷ [] ∷ [] ∷ [];
    sizes = plain_sizes 1 4 6 4 3 9;
    slots = vacant ∷ vacant ∷ vacant ∷ vacant ∷ [];
    frames = vacant ∷ vacant ∷ vacant ∷ [];
    valid = 0 ∷ 0 ∷ 0 ∷ [];
    recency = 1 ∷ 0 ∷ 2 ∷ [];
    uses = 0 ∷ 0 ∷ 0 ∷ [];
    flash = 10 ∷ 255 ∷ 255 ∷ 255 ∷ 2 ∷ 6 ∷ 13 ∷ 255 ∷ 3 ∷ 7 ∷ 11 ∷ 9 ∷ 4 ∷ 255 ∷ 255 ∷ 255 ∷ 5 ∷ 12 ∷ 255 ∷ 255 ∷ 255 ∷ 255 ∷ 255 ∷ 255
        ∷ [];
    pspace = 5 ∷ 12 ∷ 13 ∷ 4 ∷ [];
    bspace = 5 ∷ 12 ∷ 255 ∷ 255 ∷ 2 ∷ 6 ∷ 13 ∷ 255 ∷ 3 ∷ 7 ∷ 11 ∷ 9 ∷ [];
    wear = 1 ∷ 1 ∷ 1 ∷ 1 ∷ 1 ∷ 0 ∷ [];
  };
}

-- the same by a flush: 5 blocks cached, 5 rewrites, merge reads counted after the join; a worn block with no page cached does not stop it
abbrev pub flush_of-three : Row
flush_of-three = record {
  sizes = plain_sizes 1 4 6 4 3 9;
  wear = 0 ∷ 0 ∷ 0 ∷ 0 ∷ 0 ∷ 9 ∷ [];
  calls = write 0 (1 ∷ []) ∷ write 4 (2 ∷ []) ∷ write 8 (3 ∷ []) ∷ write 12 (4 ∷ []) ∷ write 16 (5 ∷ []) ∷ write 5 (6 ∷ [])
      ∷ write 9 (7 ∷ []) ∷ write 10 (8 ∷ []) ∷ write 11 (9 ∷ []) ∷ read 4 (0 ∷ []) ∷ write 0 (10 ∷ []) ∷ write 10 (11 ∷ [])
      ∷ read 3 (0 ∷ []) ∷ write 17 (12 ∷ []) ∷ write 6 (13 ∷ []) ∷ flush ∷ read 10 (0 ∷ []) ∷ read 6 (0 ∷ []) ∷ [];
  gives = record {
    opening = open_done;
    answers = way 3 ∷ way 3 ∷ way 3 ∷ way 3 ∷ way 5 ∷ way 5 ∷ way 4 ∷ way 5 ∷ way 3 ∷ read_done 2 ∷ way 2 ∷ way 1 ∷ read_done 3 ∷ way 4
        ∷ way 3 ∷ flush_done 5 9 ∷ read_done 3 ∷ read_done 3 ∷ [];
    pages = (1 ∷ []) ∷ (2 ∷ []) ∷ (3 ∷ []) ∷ (4 ∷ []) ∷ (5 ∷ []) ∷ (6 ∷ []) ∷ (7 ∷ []) ∷ (8 ∷ []) ∷ (9 ∷ []) ∷ (2 ∷ []) ∷ (10 ∷ [])
        ∷ (11 ∷ []) ∷ (255 ∷ []) ∷ (12 ∷ []) ∷ (13 ∷ []) ∷ [] ∷ (11 ∷ []) ∷ (13 ∷ []) ∷ [];
    sizes = plain_sizes 1 4 6 4 3 9;
    slots = vacant ∷ vacant ∷ vacant ∷ vacant ∷ [];
    frames = vacant ∷ vacant ∷ vacant ∷ [];
    valid = 0 ∷ 0 ∷ 0 ∷ [];
    recency = 1 ∷ 0 ∷ 2 ∷ [];
    uses = 0 ∷ 0 ∷ 0 ∷ [];
    flash = 10 ∷ 255 ∷ 255 ∷ 255 ∷ 2 ∷ 6 ∷ 13 ∷ 255 ∷ 3 ∷ 7 ∷ 11 ∷ 9 ∷ 4 ∷ 255 ∷ 255 ∷ 255 ∷ 5 ∷ 12 ∷ 255 ∷ 255 ∷ 255 ∷ 255 ∷ 255 ∷ 255
        ∷ [];
    pspace = 5 ∷ 12 ∷ 13 ∷ 4 ∷ [];
    bspace = 5 ∷ 12 ∷ 255 ∷ 255 ∷ 2 ∷ 6 ∷ 13 ∷ 255 ∷ 3 ∷ 7 ∷ 11 ∷ 9 ∷ [];
    wear = 1 ∷ 1 ∷ 1 ∷ 1 ∷ 1 ∷ 9 ∷ [];
  };
}

-- way 5 fills the first vacant frame by number, and a step passes over a vacant frame that is least recent
abbrev pub vacant-of_three : Row
vacant-of_three = record {
  sizes = plain_sizes 1 2 6 2 3 9;
  wear = 0 ∷ 0 ∷ 0 ∷ 0 ∷ 0 ∷ 0 ∷ [];
  calls = write 0 (1 ∷ []) ∷ write 2 (2 ∷ []) ∷ write 4 (3 ∷ []) ∷ write 6 (4 ∷ []) ∷ write 8 (5 ∷ []) ∷ read 2 (0 ∷ []) ∷ read 0 (0 ∷ [])
      ∷ step ∷ step ∷ write 10 (6 ∷ []) ∷ step ∷ [];
  gives = record {
    opening = open_done;
    answers = way 3 ∷ way 3 ∷ way 5 ∷ way 5 ∷ way 5 ∷ read_done 2 ∷ read_done 2 ∷ step_done 2 1 ∷ step_done 1 1 ∷ way 5 ∷ step_done 0 1
        ∷ [];
    pages = (1 ∷ []) ∷ (2 ∷ []) ∷ (3 ∷ []) ∷ (4 ∷ []) ∷ (5 ∷ []) ∷ (2 ∷ []) ∷ (1 ∷ []) ∷ [] ∷ [] ∷ (6 ∷ []) ∷ [] ∷ [];
    sizes = plain_sizes 1 2 6 2 3 9;
    slots = 8 ∷ 10 ∷ [];
    frames = vacant ∷ 3 ∷ vacant ∷ [];
    valid = 0 ∷ 1 ∷ 0 ∷ [];
    recency = 2 ∷ 0 ∷ 1 ∷ [];
    uses = 0 ∷ 1 ∷ 0 ∷ [];
    flash = 1 ∷ 255 ∷ 2 ∷ 255 ∷ 3 ∷ 255 ∷ 255 ∷ 255 ∷ 255 ∷ 255 ∷ 255 ∷ 255 ∷ [];
    pspace = 5 ∷ 6 ∷ [];
    bspace = 1 ∷ 255 ∷ 4 ∷ 255 ∷ 3 ∷ 255 ∷ [];
    wear = 1 ∷ 1 ∷ 1 ∷ 0 ∷ 0 ∷ 0 ∷ [];
  };
}

-- a history of the outside vectors, without its reads from flash and with two writes more: pages of two bytes, ways 1, 2, 3, 5, 7 (with
-- two pages from slots) and 6 over three frames
abbrev pub of_vectors : Row
of_vectors = record {
  sizes = plain_sizes 2 6 5 6 3 3;
  wear = 0 ∷ 0 ∷ 0 ∷ 0 ∷ 0 ∷ [];
  calls = write 6 (244 ∷ 244 ∷ []) ∷ write 23 (202 ∷ 202 ∷ []) ∷ write 23 (43 ∷ 43 ∷ []) ∷ write 18 (238 ∷ 238 ∷ [])
      ∷ write 19 (242 ∷ 242 ∷ []) ∷ write 11 (79 ∷ 79 ∷ []) ∷ write 4 (10 ∷ 10 ∷ []) ∷ write 23 (52 ∷ 52 ∷ []) ∷ write 29 (71 ∷ 71 ∷ [])
      ∷ write 27 (99 ∷ 99 ∷ []) ∷ read 6 (0 ∷ 0 ∷ []) ∷ write 6 (149 ∷ 149 ∷ []) ∷ write 24 (166 ∷ 166 ∷ []) ∷ write 13 (67 ∷ 67 ∷ [])
      ∷ write 23 (181 ∷ 181 ∷ []) ∷ write 28 (215 ∷ 215 ∷ []) ∷ read 28 (0 ∷ 0 ∷ []) ∷ write 17 (77 ∷ 77 ∷ []) ∷ write 0 (225 ∷ 225 ∷ [])
      ∷ read 19 (0 ∷ 0 ∷ []) ∷ write 25 (76 ∷ 76 ∷ []) ∷ write 15 (61 ∷ 61 ∷ []) ∷ write 10 (247 ∷ 247 ∷ []) ∷ write 8 (21 ∷ 21 ∷ [])
      ∷ write 22 (33 ∷ 33 ∷ []) ∷ write 29 (44 ∷ 44 ∷ []) ∷ [];
  gives = record {
    opening = open_done;
    answers = way 3 ∷ way 3 ∷ way 1 ∷ way 3 ∷ way 3 ∷ way 3 ∷ way 3 ∷ way 1 ∷ way 5 ∷ way 3 ∷ read_done 1 ∷ way 1 ∷ way 3 ∷ way 5 ∷ way 2
        ∷ way 3 ∷ read_done 1 ∷ way 3 ∷ way 5 ∷ read_done 2 ∷ way 3 ∷ write_done 7 4 1 ∷ way 3 ∷ way 3 ∷ way 3 ∷ way 6 ∷ [];
    pages = (244 ∷ 244 ∷ []) ∷ (202 ∷ 202 ∷ []) ∷ (43 ∷ 43 ∷ []) ∷ (238 ∷ 238 ∷ []) ∷ (242 ∷ 242 ∷ []) ∷ (79 ∷ 79 ∷ []) ∷ (10 ∷ 10 ∷ [])
        ∷ (52 ∷ 52 ∷ []) ∷ (71 ∷ 71 ∷ []) ∷ (99 ∷ 99 ∷ []) ∷ (244 ∷ 244 ∷ []) ∷ (149 ∷ 149 ∷ []) ∷ (166 ∷ 166 ∷ []) ∷ (67 ∷ 67 ∷ [])
        ∷ (181 ∷ 181 ∷ []) ∷ (215 ∷ 215 ∷ []) ∷ (215 ∷ 215 ∷ []) ∷ (77 ∷ 77 ∷ []) ∷ (225 ∷ 225 ∷ []) ∷ (242 ∷ 242 ∷ []) ∷ (76 ∷ 76 ∷ [])
        ∷ (61 ∷ 61 ∷ []) ∷ (247 ∷ 247 ∷ []) ∷ (21 ∷ 21 ∷ []) ∷ (33 ∷ 33 ∷ []) ∷ (44 ∷ 44 ∷ []) ∷ [];
    sizes = plain_sizes 2 6 5 6 3 3;
    slots = 6 ∷ 29 ∷ 10 ∷ 11 ∷ 8 ∷ 22 ∷ [];
    frames = 3 ∷ 0 ∷ 2 ∷ [];
    valid = 35 ∷ 17 ∷ 42 ∷ [];
    recency = 0 ∷ 1 ∷ 2 ∷ [];
    uses = 3 ∷ 1 ∷ 1 ∷ [];
    flash = 255 ∷ 255 ∷ 255 ∷ 255 ∷ 255 ∷ 255 ∷ 255 ∷ 255 ∷ 255 ∷ 255 ∷ 255 ∷ 255 ∷ 255 ∷ 255 ∷ 255 ∷ 255 ∷ 255 ∷ 255 ∷ 255 ∷ 255 ∷ 255
        ∷ 255 ∷ 255 ∷ 255 ∷ 255 ∷ 255 ∷ 255 ∷ 255 ∷ 255 ∷ 255 ∷ 255 ∷ 255 ∷ 255 ∷ 255 ∷ 255 ∷ 255 ∷ 255 ∷ 255 ∷ 255 ∷ 255 ∷ 255 ∷ 255
        ∷ 255 ∷ 255 ∷ 255 ∷ 255 ∷ 255 ∷ 255 ∷ 166 ∷ 166 ∷ 76 ∷ 76 ∷ 255 ∷ 255 ∷ 99 ∷ 99 ∷ 215 ∷ 215 ∷ 71 ∷ 71 ∷ [];
    pspace = 149 ∷ 149 ∷ 44 ∷ 44 ∷ 247 ∷ 247 ∷ 79 ∷ 79 ∷ 21 ∷ 21 ∷ 33 ∷ 33 ∷ [];
    bspace = 238 ∷ 238 ∷ 242 ∷ 242 ∷ 0 ∷ 0 ∷ 0 ∷ 0 ∷ 0 ∷ 0 ∷ 181 ∷ 181 ∷ 225 ∷ 225 ∷ 76 ∷ 76 ∷ 255 ∷ 255 ∷ 99 ∷ 99 ∷ 10 ∷ 10 ∷ 71 ∷ 71
        ∷ 149 ∷ 149 ∷ 67 ∷ 67 ∷ 0 ∷ 0 ∷ 61 ∷ 61 ∷ 0 ∷ 0 ∷ 77 ∷ 77 ∷ [];
    wear = 0 ∷ 0 ∷ 0 ∷ 0 ∷ 1 ∷ [];
  };
}

-- a read hit of the oldest of four frames puts it last and leaves the other three in their order, in which way 7 and a step take them
abbrev pub oldest_of_four : Row
oldest_of_four = record {
  sizes = plain_sizes 1 2 6 1 4 9;
  wear = 0 ∷ 0 ∷ 0 ∷ 0 ∷ 0 ∷ 0 ∷ [];
  calls = write 0 (1 ∷ []) ∷ write 2 (2 ∷ []) ∷ write 4 (3 ∷ []) ∷ write 6 (4 ∷ []) ∷ write 8 (5 ∷ []) ∷ read 0 (0 ∷ [])
      ∷ write 10 (6 ∷ []) ∷ step ∷ [];
  gives = record {
    opening = open_done;
    answers = way 3 ∷ way 5 ∷ way 5 ∷ way 5 ∷ way 5 ∷ read_done 2 ∷ write_done 7 1 1 ∷ step_done 2 1 ∷ [];
    pages = (1 ∷ []) ∷ (2 ∷ []) ∷ (3 ∷ []) ∷ (4 ∷ []) ∷ (5 ∷ []) ∷ (1 ∷ []) ∷ (6 ∷ []) ∷ [] ∷ [];
    sizes = plain_sizes 1 2 6 1 4 9;
    slots = 10 ∷ [];
    frames = 0 ∷ 4 ∷ vacant ∷ 3 ∷ [];
    valid = 1 ∷ 1 ∷ 0 ∷ 1 ∷ [];
    recency = 2 ∷ 3 ∷ 0 ∷ 1 ∷ [];
    uses = 2 ∷ 1 ∷ 0 ∷ 1 ∷ [];
    flash = 255 ∷ 255 ∷ 2 ∷ 255 ∷ 3 ∷ 255 ∷ 255 ∷ 255 ∷ 255 ∷ 255 ∷ 255 ∷ 255 ∷ [];
    pspace = 6 ∷ [];
    bspace = 1 ∷ 0 ∷ 5 ∷ 255 ∷ 3 ∷ 255 ∷ 4 ∷ 0 ∷ [];
    wear = 0 ∷ 1 ∷ 1 ∷ 0 ∷ 0 ∷ 0 ∷ [];
  };
}

-- eight frames, all held: a read hit of the third and a write hit of the first, then a rewrite and a step in the order left
abbrev pub eight-frames : Row
eight-frames = record {
  sizes = plain_sizes 1 2 10 1 8 9;
  wear = 0 ∷ 0 ∷ 0 ∷ 0 ∷ 0 ∷ 0 ∷ 0 ∷ 0 ∷ 0 ∷ 0 ∷ [];
  calls = write 0 (1 ∷ []) ∷ write 2 (2 ∷ []) ∷ write 4 (3 ∷ []) ∷ write 6 (4 ∷ []) ∷ write 8 (5 ∷ []) ∷ write 10 (6 ∷ [])
      ∷ write 12 (7 ∷ []) ∷ write 14 (8 ∷ []) ∷ write 16 (9 ∷ []) ∷ read 4 (0 ∷ []) ∷ write 0 (10 ∷ []) ∷ write 18 (11 ∷ []) ∷ step ∷ [];
  gives = record {
    opening = open_done;
    answers = way 3 ∷ way 5 ∷ way 5 ∷ way 5 ∷ way 5 ∷ way 5 ∷ way 5 ∷ way 5 ∷ way 5 ∷ read_done 2 ∷ way 2 ∷ write_done 7 1 1 ∷ step_done 3 1
        ∷ [];
    pages = (1 ∷ []) ∷ (2 ∷ []) ∷ (3 ∷ []) ∷ (4 ∷ []) ∷ (5 ∷ []) ∷ (6 ∷ []) ∷ (7 ∷ []) ∷ (8 ∷ []) ∷ (9 ∷ []) ∷ (3 ∷ []) ∷ (10 ∷ [])
        ∷ (11 ∷ []) ∷ [] ∷ [];
    sizes = plain_sizes 1 2 10 1 8 9;
    slots = 18 ∷ [];
    frames = 0 ∷ 8 ∷ 2 ∷ vacant ∷ 4 ∷ 5 ∷ 6 ∷ 7 ∷ [];
    valid = 1 ∷ 1 ∷ 1 ∷ 0 ∷ 1 ∷ 1 ∷ 1 ∷ 1 ∷ [];
    recency = 3 ∷ 4 ∷ 5 ∷ 6 ∷ 7 ∷ 2 ∷ 0 ∷ 1 ∷ [];
    uses = 2 ∷ 1 ∷ 2 ∷ 0 ∷ 1 ∷ 1 ∷ 1 ∷ 1 ∷ [];
    flash = 255 ∷ 255 ∷ 2 ∷ 255 ∷ 255 ∷ 255 ∷ 4 ∷ 255 ∷ 255 ∷ 255 ∷ 255 ∷ 255 ∷ 255 ∷ 255 ∷ 255 ∷ 255 ∷ 255 ∷ 255 ∷ 255 ∷ 255 ∷ [];
    pspace = 11 ∷ [];
    bspace = 10 ∷ 0 ∷ 9 ∷ 255 ∷ 3 ∷ 0 ∷ 4 ∷ 255 ∷ 5 ∷ 0 ∷ 6 ∷ 0 ∷ 7 ∷ 0 ∷ 8 ∷ 0 ∷ [];
    wear = 0 ∷ 1 ∷ 0 ∷ 1 ∷ 0 ∷ 0 ∷ 0 ∷ 0 ∷ 0 ∷ 0 ∷ [];
  };
}

abbrev pub many_frames : List Row
many_frames = first-used ∷ middle_used ∷ tie_of_three ∷ fewest-of_three ∷ steps-of_three ∷ flush_of-three ∷ vacant-of_three ∷ of_vectors
    ∷ oldest_of_four ∷ eight-frames ∷ []
