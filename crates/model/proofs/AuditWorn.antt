-- Histories with worn blocks: refusal 6, whom it names, and way 7 passing worn blocks over (request A4).
use mathlib.Core.List.{List, [], ◌∷◌}
use Rattle.model.specs.Sizes.{plain_sizes}
use Rattle.model.specs.Calls.{open_done, read_done, write_done, refused, read, write, part, step, flush}
use Rattle.model.proofs.AuditRows.{Row, way}

-- refusal 6 of a write, a step and a flush; the flush names the lowest worn block, the others the one due
abbrev pub worn-blocks : Row
worn-blocks = record {
  sizes = plain_sizes 1 2 5 2 2 9;
  wear = 0 ∷ 9 ∷ 0 ∷ 9 ∷ 0 ∷ [];
  calls = write 6 (1 ∷ []) ∷ write 8 (2 ∷ []) ∷ write 2 (3 ∷ []) ∷ write 0 (4 ∷ []) ∷ write 4 (5 ∷ []) ∷ step ∷ flush ∷ read 6 (0 ∷ [])
      ∷ step ∷ [];
  gives = record {
    opening = open_done;
    answers = way 3 ∷ way 3 ∷ way 5 ∷ way 5 ∷ refused 6 3 ∷ refused 6 3 ∷ refused 6 1 ∷ read_done 2 ∷ refused 6 1 ∷ [];
    pages = (1 ∷ []) ∷ (2 ∷ []) ∷ (3 ∷ []) ∷ (4 ∷ []) ∷ (5 ∷ []) ∷ [] ∷ [] ∷ (1 ∷ []) ∷ [] ∷ [];
    sizes = plain_sizes 1 2 5 2 2 9;
    slots = 0 ∷ 8 ∷ [];
    frames = 3 ∷ 1 ∷ [];
    valid = 1 ∷ 1 ∷ [];
    recency = 1 ∷ 0 ∷ [];
    uses = 2 ∷ 1 ∷ [];
    flash = 255 ∷ 255 ∷ 255 ∷ 255 ∷ 255 ∷ 255 ∷ 255 ∷ 255 ∷ 255 ∷ 255 ∷ [];
    pspace = 4 ∷ 2 ∷ [];
    bspace = 1 ∷ 0 ∷ 3 ∷ 0 ∷ [];
    wear = 0 ∷ 9 ∷ 0 ∷ 9 ∷ 0 ∷ [];
  };
}

-- a worn block at the old end is passed over: way 7 takes the next frame, whose block has wear W-1; a step and a flush are refused at the
-- worn block, before and after
abbrev pub worn-of_three : Row
worn-of_three = record {
  sizes = plain_sizes 1 2 6 2 3 9;
  wear = 8 ∷ 0 ∷ 9 ∷ 0 ∷ 0 ∷ 0 ∷ [];
  calls = write 0 (1 ∷ []) ∷ write 2 (2 ∷ []) ∷ write 4 (3 ∷ []) ∷ write 6 (4 ∷ []) ∷ write 8 (5 ∷ []) ∷ read 0 (0 ∷ []) ∷ read 2 (0 ∷ [])
      ∷ step ∷ flush ∷ write 10 (6 ∷ []) ∷ step ∷ flush ∷ [];
  gives = record {
    opening = open_done;
    answers = way 3 ∷ way 3 ∷ way 5 ∷ way 5 ∷ way 5 ∷ read_done 2 ∷ read_done 2 ∷ refused 6 2 ∷ refused 6 2 ∷ write_done 7 0 1 ∷ refused 6 2
        ∷ refused 6 2 ∷ [];
    pages = (1 ∷ []) ∷ (2 ∷ []) ∷ (3 ∷ []) ∷ (4 ∷ []) ∷ (5 ∷ []) ∷ (1 ∷ []) ∷ (2 ∷ []) ∷ [] ∷ [] ∷ (6 ∷ []) ∷ [] ∷ [] ∷ [];
    sizes = plain_sizes 1 2 6 2 3 9;
    slots = 8 ∷ 10 ∷ [];
    frames = 3 ∷ 1 ∷ 2 ∷ [];
    valid = 1 ∷ 1 ∷ 1 ∷ [];
    recency = 2 ∷ 1 ∷ 0 ∷ [];
    uses = 1 ∷ 2 ∷ 1 ∷ [];
    flash = 1 ∷ 255 ∷ 255 ∷ 255 ∷ 255 ∷ 255 ∷ 255 ∷ 255 ∷ 255 ∷ 255 ∷ 255 ∷ 255 ∷ [];
    pspace = 5 ∷ 6 ∷ [];
    bspace = 4 ∷ 255 ∷ 2 ∷ 0 ∷ 3 ∷ 0 ∷ [];
    wear = 9 ∷ 0 ∷ 9 ∷ 0 ∷ 0 ∷ 0 ∷ [];
  };
}

-- all three frames hold worn blocks: a write and a part write are refused and name the block of the least recent frame, which is neither
-- the lowest block nor in the first frame; a step names it too, and a flush names the lowest
abbrev pub all-worn : Row
all-worn = record {
  sizes = plain_sizes 1 2 6 2 3 9;
  wear = 9 ∷ 9 ∷ 9 ∷ 0 ∷ 0 ∷ 0 ∷ [];
  calls = write 10 (1 ∷ []) ∷ write 4 (2 ∷ []) ∷ write 2 (3 ∷ []) ∷ write 0 (4 ∷ []) ∷ write 8 (5 ∷ []) ∷ read 4 (0 ∷ [])
      ∷ write 6 (6 ∷ []) ∷ part 6 0 (7 ∷ []) (8 ∷ []) ∷ step ∷ flush ∷ [];
  gives = record {
    opening = open_done;
    answers = way 3 ∷ way 3 ∷ way 5 ∷ way 5 ∷ way 5 ∷ read_done 2 ∷ refused 6 1 ∷ refused 6 1 ∷ refused 6 1 ∷ refused 6 0 ∷ [];
    pages = (1 ∷ []) ∷ (2 ∷ []) ∷ (3 ∷ []) ∷ (4 ∷ []) ∷ (5 ∷ []) ∷ (2 ∷ []) ∷ (6 ∷ []) ∷ (8 ∷ []) ∷ [] ∷ [] ∷ [];
    sizes = plain_sizes 1 2 6 2 3 9;
    slots = 10 ∷ 8 ∷ [];
    frames = 2 ∷ 1 ∷ 0 ∷ [];
    valid = 1 ∷ 1 ∷ 1 ∷ [];
    recency = 1 ∷ 2 ∷ 0 ∷ [];
    uses = 2 ∷ 1 ∷ 1 ∷ [];
    flash = 255 ∷ 255 ∷ 255 ∷ 255 ∷ 255 ∷ 255 ∷ 255 ∷ 255 ∷ 255 ∷ 255 ∷ 255 ∷ 255 ∷ [];
    pspace = 1 ∷ 5 ∷ [];
    bspace = 2 ∷ 0 ∷ 3 ∷ 0 ∷ 4 ∷ 0 ∷ [];
    wear = 9 ∷ 9 ∷ 9 ∷ 0 ∷ 0 ∷ 0 ∷ [];
  };
}

-- only the most recent frame has a block below W: way 7 takes it, and takes it again for the block that fills it
abbrev pub last-unworn : Row
last-unworn = record {
  sizes = plain_sizes 1 2 6 2 3 9;
  wear = 9 ∷ 9 ∷ 8 ∷ 0 ∷ 0 ∷ 0 ∷ [];
  calls = write 10 (1 ∷ []) ∷ write 4 (2 ∷ []) ∷ write 2 (3 ∷ []) ∷ write 0 (4 ∷ []) ∷ write 8 (5 ∷ []) ∷ read 4 (0 ∷ [])
      ∷ write 6 (6 ∷ []) ∷ write 9 (7 ∷ []) ∷ read 4 (0 ∷ []) ∷ read 8 (0 ∷ []) ∷ step ∷ flush ∷ [];
  gives = record {
    opening = open_done;
    answers = way 3 ∷ way 3 ∷ way 5 ∷ way 5 ∷ way 5 ∷ read_done 2 ∷ write_done 7 2 1 ∷ write_done 7 4 1 ∷ read_done 3 ∷ read_done 3
        ∷ refused 6 1 ∷ refused 6 0 ∷ [];
    pages = (1 ∷ []) ∷ (2 ∷ []) ∷ (3 ∷ []) ∷ (4 ∷ []) ∷ (5 ∷ []) ∷ (2 ∷ []) ∷ (6 ∷ []) ∷ (7 ∷ []) ∷ (2 ∷ []) ∷ (5 ∷ []) ∷ [] ∷ [] ∷ [];
    sizes = plain_sizes 1 2 6 2 3 9;
    slots = 10 ∷ 9 ∷ [];
    frames = 3 ∷ 1 ∷ 0 ∷ [];
    valid = 1 ∷ 1 ∷ 1 ∷ [];
    recency = 1 ∷ 2 ∷ 0 ∷ [];
    uses = 1 ∷ 1 ∷ 1 ∷ [];
    flash = 255 ∷ 255 ∷ 255 ∷ 255 ∷ 2 ∷ 255 ∷ 255 ∷ 255 ∷ 5 ∷ 255 ∷ 255 ∷ 255 ∷ [];
    pspace = 1 ∷ 7 ∷ [];
    bspace = 6 ∷ 255 ∷ 3 ∷ 0 ∷ 4 ∷ 0 ∷ [];
    wear = 9 ∷ 9 ∷ 9 ∷ 0 ∷ 1 ∷ 0 ∷ [];
  };
}

-- a flush names the lowest worn block, here one with pages in slots only, though a frame holds a worn block too
abbrev pub worn-in_slots : Row
worn-in_slots = record {
  sizes = plain_sizes 1 2 5 2 2 9;
  wear = 9 ∷ 9 ∷ 0 ∷ 0 ∷ 0 ∷ [];
  calls = write 2 (1 ∷ []) ∷ write 8 (2 ∷ []) ∷ write 4 (3 ∷ []) ∷ write 0 (4 ∷ []) ∷ flush ∷ step ∷ [];
  gives = record {
    opening = open_done;
    answers = way 3 ∷ way 3 ∷ way 5 ∷ way 5 ∷ refused 6 0 ∷ refused 6 1 ∷ [];
    pages = (1 ∷ []) ∷ (2 ∷ []) ∷ (3 ∷ []) ∷ (4 ∷ []) ∷ [] ∷ [] ∷ [];
    sizes = plain_sizes 1 2 5 2 2 9;
    slots = 0 ∷ 8 ∷ [];
    frames = 1 ∷ 2 ∷ [];
    valid = 1 ∷ 1 ∷ [];
    recency = 0 ∷ 1 ∷ [];
    uses = 1 ∷ 1 ∷ [];
    flash = 255 ∷ 255 ∷ 255 ∷ 255 ∷ 255 ∷ 255 ∷ 255 ∷ 255 ∷ 255 ∷ 255 ∷ [];
    pspace = 4 ∷ 2 ∷ [];
    bspace = 1 ∷ 0 ∷ 3 ∷ 0 ∷ [];
    wear = 9 ∷ 9 ∷ 0 ∷ 0 ∷ 0 ∷ [];
  };
}

-- the lowest worn block is in a frame and a higher one in slots: the flush names the one in the frame
abbrev pub worn-in_frames : Row
worn-in_frames = record {
  sizes = plain_sizes 1 2 5 2 2 9;
  wear = 9 ∷ 0 ∷ 0 ∷ 9 ∷ 0 ∷ [];
  calls = write 0 (1 ∷ []) ∷ write 8 (2 ∷ []) ∷ write 2 (3 ∷ []) ∷ write 6 (4 ∷ []) ∷ flush ∷ [];
  gives = record {
    opening = open_done;
    answers = way 3 ∷ way 3 ∷ way 5 ∷ way 5 ∷ refused 6 0 ∷ [];
    pages = (1 ∷ []) ∷ (2 ∷ []) ∷ (3 ∷ []) ∷ (4 ∷ []) ∷ [] ∷ [];
    sizes = plain_sizes 1 2 5 2 2 9;
    slots = 6 ∷ 8 ∷ [];
    frames = 0 ∷ 1 ∷ [];
    valid = 1 ∷ 1 ∷ [];
    recency = 0 ∷ 1 ∷ [];
    uses = 1 ∷ 1 ∷ [];
    flash = 255 ∷ 255 ∷ 255 ∷ 255 ∷ 255 ∷ 255 ∷ 255 ∷ 255 ∷ 255 ∷ 255 ∷ [];
    pspace = 4 ∷ 2 ∷ [];
    bspace = 1 ∷ 0 ∷ 3 ∷ 0 ∷ [];
    wear = 9 ∷ 0 ∷ 0 ∷ 9 ∷ 0 ∷ [];
  };
}

-- way 6 rewrites nothing and asks for no wear: among frames with equally few pages it takes the least recent, though its block is worn
abbrev pub tie_worn : Row
tie_worn = record {
  sizes = plain_sizes 1 2 5 2 2 9;
  wear = 9 ∷ 0 ∷ 0 ∷ 0 ∷ 0 ∷ [];
  calls = write 1 (1 ∷ []) ∷ write 3 (2 ∷ []) ∷ write 9 (3 ∷ []) ∷ write 8 (4 ∷ []) ∷ write 4 (5 ∷ []) ∷ [];
  gives = record {
    opening = open_done;
    answers = way 3 ∷ way 3 ∷ way 5 ∷ way 5 ∷ way 6 ∷ [];
    pages = (1 ∷ []) ∷ (2 ∷ []) ∷ (3 ∷ []) ∷ (4 ∷ []) ∷ (5 ∷ []) ∷ [];
    sizes = plain_sizes 1 2 5 2 2 9;
    slots = 1 ∷ 4 ∷ [];
    frames = 4 ∷ 1 ∷ [];
    valid = 3 ∷ 2 ∷ [];
    recency = 1 ∷ 0 ∷ [];
    uses = 1 ∷ 1 ∷ [];
    flash = 255 ∷ 255 ∷ 255 ∷ 255 ∷ 255 ∷ 255 ∷ 255 ∷ 255 ∷ 255 ∷ 255 ∷ [];
    pspace = 1 ∷ 5 ∷ [];
    bspace = 4 ∷ 3 ∷ 0 ∷ 2 ∷ [];
    wear = 9 ∷ 0 ∷ 0 ∷ 0 ∷ 0 ∷ [];
  };
}

-- so it does where the blocks of all frames are worn
abbrev pub tie_worn_both : Row
tie_worn_both = record {
  sizes = plain_sizes 1 2 5 2 2 9;
  wear = 9 ∷ 9 ∷ 0 ∷ 0 ∷ 0 ∷ [];
  calls = write 1 (1 ∷ []) ∷ write 3 (2 ∷ []) ∷ write 9 (3 ∷ []) ∷ write 8 (4 ∷ []) ∷ write 4 (5 ∷ []) ∷ flush ∷ [];
  gives = record {
    opening = open_done;
    answers = way 3 ∷ way 3 ∷ way 5 ∷ way 5 ∷ way 6 ∷ refused 6 0 ∷ [];
    pages = (1 ∷ []) ∷ (2 ∷ []) ∷ (3 ∷ []) ∷ (4 ∷ []) ∷ (5 ∷ []) ∷ [] ∷ [];
    sizes = plain_sizes 1 2 5 2 2 9;
    slots = 1 ∷ 4 ∷ [];
    frames = 4 ∷ 1 ∷ [];
    valid = 3 ∷ 2 ∷ [];
    recency = 1 ∷ 0 ∷ [];
    uses = 1 ∷ 1 ∷ [];
    flash = 255 ∷ 255 ∷ 255 ∷ 255 ∷ 255 ∷ 255 ∷ 255 ∷ 255 ∷ 255 ∷ 255 ∷ [];
    pspace = 1 ∷ 5 ∷ [];
    bspace = 4 ∷ 3 ∷ 0 ∷ 2 ∷ [];
    wear = 9 ∷ 9 ∷ 0 ∷ 0 ∷ 0 ∷ [];
  };
}

abbrev pub worn_blocks : List Row
worn_blocks = worn-blocks ∷ worn-of_three ∷ all-worn ∷ last-unworn ∷ worn-in_slots ∷ worn-in_frames ∷ tie_worn ∷ tie_worn_both ∷ []
