-- Histories of part writes (request A1).
use mathlib.Core.List.{List, [], ◌∷◌}
use Rattle.model.specs.Sizes.{plain_sizes, vacant}
use Rattle.model.specs.Calls.{open_done, read_done, write_done, flush_done, refused, read, write, part, flush}
use Rattle.model.proofs.AuditRows.{Row, way}

-- P7's history by part writes: each way 0 to 7; pages that stand in a slot, in a frame and in flash; bytes that end exactly at S
abbrev pub part-ways : Row
part-ways = record {
  sizes = plain_sizes 2 4 3 3 1 9;
  wear = 0 ∷ 0 ∷ 0 ∷ [];
  calls = part 0 0 (10 ∷ 11 ∷ []) (7 ∷ 7 ∷ []) ∷ part 4 1 (20 ∷ []) (7 ∷ 7 ∷ []) ∷ part 8 0 (30 ∷ []) (7 ∷ 7 ∷ [])
      ∷ part 9 1 (40 ∷ []) (7 ∷ 7 ∷ []) ∷ part 5 0 (50 ∷ []) (7 ∷ 7 ∷ []) ∷ part 6 1 (60 ∷ []) (7 ∷ 7 ∷ [])
      ∷ part 8 1 (70 ∷ []) (7 ∷ 7 ∷ []) ∷ part 1 0 (80 ∷ []) (7 ∷ 7 ∷ []) ∷ part 2 0 (90 ∷ 91 ∷ []) (7 ∷ 7 ∷ [])
      ∷ part 2 1 (92 ∷ []) (7 ∷ 7 ∷ []) ∷ part 0 1 (13 ∷ []) (7 ∷ 7 ∷ []) ∷ part 9 0 (41 ∷ []) (7 ∷ 7 ∷ []) ∷ part 0 0 [] (7 ∷ 7 ∷ [])
      ∷ part 0 2 [] (7 ∷ 7 ∷ []) ∷ read 0 (0 ∷ 0 ∷ []) ∷ [];
  gives = record {
    opening = open_done;
    answers = way 3 ∷ way 3 ∷ way 3 ∷ way 5 ∷ way 6 ∷ write_done 7 2 2 ∷ way 3 ∷ write_done 7 1 1 ∷ way 3 ∷ way 1 ∷ way 2 ∷ way 4 ∷ way 0
        ∷ way 0 ∷ read_done 2 ∷ [];
    pages = (10 ∷ 11 ∷ []) ∷ (255 ∷ 20 ∷ []) ∷ (30 ∷ 255 ∷ []) ∷ (255 ∷ 40 ∷ []) ∷ (50 ∷ 255 ∷ []) ∷ (255 ∷ 60 ∷ []) ∷ (30 ∷ 70 ∷ [])
        ∷ (80 ∷ 255 ∷ []) ∷ (90 ∷ 91 ∷ []) ∷ (90 ∷ 92 ∷ []) ∷ (10 ∷ 13 ∷ []) ∷ (41 ∷ 40 ∷ []) ∷ (7 ∷ 7 ∷ []) ∷ (7 ∷ 7 ∷ [])
        ∷ (10 ∷ 13 ∷ []) ∷ [];
    sizes = plain_sizes 2 4 3 3 1 9;
    slots = 9 ∷ 8 ∷ vacant ∷ [];
    frames = 0 ∷ [];
    valid = 7 ∷ [];
    recency = 0 ∷ [];
    uses = 4 ∷ [];
    flash = 255 ∷ 255 ∷ 255 ∷ 255 ∷ 255 ∷ 255 ∷ 255 ∷ 255 ∷ 255 ∷ 20 ∷ 50 ∷ 255 ∷ 255 ∷ 60 ∷ 255 ∷ 255 ∷ 30 ∷ 255 ∷ 255 ∷ 40 ∷ 255 ∷ 255
        ∷ 255 ∷ 255 ∷ [];
    pspace = 41 ∷ 40 ∷ 30 ∷ 70 ∷ 90 ∷ 92 ∷ [];
    bspace = 10 ∷ 13 ∷ 80 ∷ 255 ∷ 90 ∷ 92 ∷ 255 ∷ 255 ∷ [];
    wear = 0 ∷ 1 ∷ 1 ∷ [];
  };
}

-- the page buffer is refused 2, then the page 5, then bytes past S 2: one byte past, a first byte above S without bytes; way 0 passes the
-- same checks
abbrev pub part-buffers : Row
part-buffers = record {
  sizes = plain_sizes 2 4 3 3 1 9;
  wear = 0 ∷ 0 ∷ 0 ∷ [];
  calls = part 0 1 (1 ∷ []) (7 ∷ []) ∷ part 12 0 (1 ∷ []) (7 ∷ 7 ∷ 7 ∷ []) ∷ part 0 0 [] (7 ∷ []) ∷ part 12 1 (1 ∷ 2 ∷ []) (7 ∷ 7 ∷ [])
      ∷ part 12 0 [] (7 ∷ 7 ∷ []) ∷ part 0 1 (1 ∷ 2 ∷ []) (7 ∷ 7 ∷ []) ∷ part 0 0 (1 ∷ 2 ∷ 3 ∷ []) (7 ∷ 7 ∷ []) ∷ part 0 3 [] (7 ∷ 7 ∷ [])
      ∷ part 0 2 (1 ∷ []) (7 ∷ 7 ∷ []) ∷ part 11 0 (1 ∷ 2 ∷ []) (7 ∷ 7 ∷ []) ∷ [];
  gives = record {
    opening = open_done;
    answers = refused 2 vacant ∷ refused 2 vacant ∷ refused 2 vacant ∷ refused 5 vacant ∷ refused 5 vacant ∷ refused 2 vacant
        ∷ refused 2 vacant ∷ refused 2 vacant ∷ refused 2 vacant ∷ way 3 ∷ [];
    pages = (7 ∷ []) ∷ (7 ∷ 7 ∷ 7 ∷ []) ∷ (7 ∷ []) ∷ (7 ∷ 7 ∷ []) ∷ (7 ∷ 7 ∷ []) ∷ (7 ∷ 7 ∷ []) ∷ (7 ∷ 7 ∷ []) ∷ (7 ∷ 7 ∷ [])
        ∷ (7 ∷ 7 ∷ []) ∷ (1 ∷ 2 ∷ []) ∷ [];
    sizes = plain_sizes 2 4 3 3 1 9;
    slots = 11 ∷ vacant ∷ vacant ∷ [];
    frames = vacant ∷ [];
    valid = 0 ∷ [];
    recency = 0 ∷ [];
    uses = 0 ∷ [];
    flash = 255 ∷ 255 ∷ 255 ∷ 255 ∷ 255 ∷ 255 ∷ 255 ∷ 255 ∷ 255 ∷ 255 ∷ 255 ∷ 255 ∷ 255 ∷ 255 ∷ 255 ∷ 255 ∷ 255 ∷ 255 ∷ 255 ∷ 255 ∷ 255
        ∷ 255 ∷ 255 ∷ 255 ∷ [];
    pspace = 1 ∷ 2 ∷ 0 ∷ 0 ∷ 0 ∷ 0 ∷ [];
    bspace = 0 ∷ 0 ∷ 0 ∷ 0 ∷ 0 ∷ 0 ∷ 0 ∷ 0 ∷ [];
    wear = 0 ∷ 0 ∷ 0 ∷ [];
  };
}

-- a worn block refuses the part write 6 and leaves the page buffer alone; bytes past S come first, and way 0 asks for no wear
abbrev pub part-worn : Row
part-worn = record {
  sizes = plain_sizes 2 2 3 2 1 9;
  wear = 9 ∷ 0 ∷ 0 ∷ [];
  calls = write 0 (10 ∷ 11 ∷ []) ∷ write 2 (20 ∷ 21 ∷ []) ∷ write 4 (30 ∷ 31 ∷ []) ∷ part 3 0 (40 ∷ []) (7 ∷ 7 ∷ [])
      ∷ part 3 1 (40 ∷ 41 ∷ []) (7 ∷ 7 ∷ []) ∷ part 3 0 [] (7 ∷ 7 ∷ []) ∷ part 4 1 (32 ∷ []) (7 ∷ 7 ∷ []) ∷ [];
  gives = record {
    opening = open_done;
    answers = way 3 ∷ way 3 ∷ way 5 ∷ refused 6 0 ∷ refused 2 vacant ∷ way 0 ∷ way 1 ∷ [];
    pages = (10 ∷ 11 ∷ []) ∷ (20 ∷ 21 ∷ []) ∷ (30 ∷ 31 ∷ []) ∷ (7 ∷ 7 ∷ []) ∷ (7 ∷ 7 ∷ []) ∷ (7 ∷ 7 ∷ []) ∷ (30 ∷ 32 ∷ []) ∷ [];
    sizes = plain_sizes 2 2 3 2 1 9;
    slots = 4 ∷ 2 ∷ [];
    frames = 0 ∷ [];
    valid = 1 ∷ [];
    recency = 0 ∷ [];
    uses = 1 ∷ [];
    flash = 255 ∷ 255 ∷ 255 ∷ 255 ∷ 255 ∷ 255 ∷ 255 ∷ 255 ∷ 255 ∷ 255 ∷ 255 ∷ 255 ∷ [];
    pspace = 30 ∷ 32 ∷ 20 ∷ 21 ∷ [];
    bspace = 10 ∷ 11 ∷ 0 ∷ 0 ∷ [];
    wear = 9 ∷ 0 ∷ 0 ∷ [];
  };
}

-- way 0 on a page in a frame is no use: way 7 takes that frame
abbrev pub part-no_use : Row
part-no_use = record {
  sizes = plain_sizes 2 2 5 2 2 9;
  wear = 0 ∷ 0 ∷ 0 ∷ 0 ∷ 0 ∷ [];
  calls = write 0 (1 ∷ 1 ∷ []) ∷ write 2 (2 ∷ 2 ∷ []) ∷ write 4 (3 ∷ 3 ∷ []) ∷ write 6 (4 ∷ 4 ∷ []) ∷ part 0 1 [] (7 ∷ 7 ∷ [])
      ∷ part 8 1 (5 ∷ []) (7 ∷ 7 ∷ []) ∷ [];
  gives = record {
    opening = open_done;
    answers = way 3 ∷ way 3 ∷ way 5 ∷ way 5 ∷ way 0 ∷ write_done 7 0 1 ∷ [];
    pages = (1 ∷ 1 ∷ []) ∷ (2 ∷ 2 ∷ []) ∷ (3 ∷ 3 ∷ []) ∷ (4 ∷ 4 ∷ []) ∷ (7 ∷ 7 ∷ []) ∷ (255 ∷ 5 ∷ []) ∷ [];
    sizes = plain_sizes 2 2 5 2 2 9;
    slots = 8 ∷ 6 ∷ [];
    frames = 2 ∷ 1 ∷ [];
    valid = 1 ∷ 1 ∷ [];
    recency = 1 ∷ 0 ∷ [];
    uses = 1 ∷ 1 ∷ [];
    flash = 1 ∷ 1 ∷ 255 ∷ 255 ∷ 255 ∷ 255 ∷ 255 ∷ 255 ∷ 255 ∷ 255 ∷ 255 ∷ 255 ∷ 255 ∷ 255 ∷ 255 ∷ 255 ∷ 255 ∷ 255 ∷ 255 ∷ 255 ∷ [];
    pspace = 255 ∷ 5 ∷ 4 ∷ 4 ∷ [];
    bspace = 3 ∷ 3 ∷ 255 ∷ 255 ∷ 2 ∷ 2 ∷ 0 ∷ 0 ∷ [];
    wear = 1 ∷ 0 ∷ 0 ∷ 0 ∷ 0 ∷ [];
  };
}

-- a part write of a page in a frame makes it recent
abbrev pub part-hit : Row
part-hit = record {
  sizes = plain_sizes 2 2 5 2 2 9;
  wear = 0 ∷ 0 ∷ 0 ∷ 0 ∷ 0 ∷ [];
  calls = write 0 (1 ∷ 1 ∷ []) ∷ write 2 (2 ∷ 2 ∷ []) ∷ write 4 (3 ∷ 3 ∷ []) ∷ write 6 (4 ∷ 4 ∷ []) ∷ part 0 1 (6 ∷ []) (7 ∷ 7 ∷ [])
      ∷ part 8 1 (5 ∷ []) (7 ∷ 7 ∷ []) ∷ part 2 0 (9 ∷ []) (7 ∷ 7 ∷ []) ∷ flush ∷ [];
  gives = record {
    opening = open_done;
    answers = way 3 ∷ way 3 ∷ way 5 ∷ way 5 ∷ way 2 ∷ write_done 7 1 1 ∷ write_done 7 0 1 ∷ flush_done 4 4 ∷ [];
    pages = (1 ∷ 1 ∷ []) ∷ (2 ∷ 2 ∷ []) ∷ (3 ∷ 3 ∷ []) ∷ (4 ∷ 4 ∷ []) ∷ (1 ∷ 6 ∷ []) ∷ (255 ∷ 5 ∷ []) ∷ (9 ∷ 2 ∷ []) ∷ [] ∷ [];
    sizes = plain_sizes 2 2 5 2 2 9;
    slots = vacant ∷ vacant ∷ [];
    frames = vacant ∷ vacant ∷ [];
    valid = 0 ∷ 0 ∷ [];
    recency = 1 ∷ 0 ∷ [];
    uses = 0 ∷ 0 ∷ [];
    flash = 1 ∷ 6 ∷ 255 ∷ 255 ∷ 9 ∷ 2 ∷ 255 ∷ 255 ∷ 3 ∷ 3 ∷ 255 ∷ 255 ∷ 4 ∷ 4 ∷ 255 ∷ 255 ∷ 255 ∷ 5 ∷ 255 ∷ 255 ∷ [];
    pspace = 255 ∷ 5 ∷ 9 ∷ 2 ∷ [];
    bspace = 255 ∷ 5 ∷ 255 ∷ 255 ∷ 3 ∷ 3 ∷ 255 ∷ 255 ∷ [];
    wear = 1 ∷ 2 ∷ 1 ∷ 1 ∷ 1 ∷ [];
  };
}

-- on the blank record a part write is refused 4, also without bytes
abbrev pub part-unsound : Row
part-unsound = record {
  sizes = plain_sizes 0 2 3 2 1 9;
  wear = 0 ∷ 0 ∷ 0 ∷ [];
  calls = part 0 0 [] [] ∷ part 0 0 (1 ∷ []) (7 ∷ []) ∷ [];
  gives = record {
    opening = refused 1 vacant;
    answers = refused 4 vacant ∷ refused 4 vacant ∷ [];
    pages = [] ∷ (7 ∷ []) ∷ [];
    sizes = plain_sizes 0 0 0 0 0 0;
    slots = [];
    frames = [];
    valid = [];
    recency = [];
    uses = [];
    flash = [];
    pspace = [];
    bspace = [];
    wear = 0 ∷ 0 ∷ 0 ∷ [];
  };
}

abbrev pub parts : List Row
parts = part-ways ∷ part-buffers ∷ part-worn ∷ part-no_use ∷ part-hit ∷ part-unsound ∷ []
