-- The histories of document 01 that are proved: P1 to P11.
use mathlib.Core.List.{List, [], ◌∷◌}
use Rattle.model.specs.Sizes.{plain_sizes, vacant}
use Rattle.model.specs.Calls.{open_done, read_done, write_done, step_clean, flush_done, refused, read, write, step, flush}
use Rattle.model.proofs.AuditRows.{Row, way}

-- P1: script A's four writes
abbrev pub p1 : Row
p1 = record {
  sizes = plain_sizes 1 2 3 2 1 9;
  wear = 0 ∷ 0 ∷ 0 ∷ [];
  calls = write 0 (10 ∷ []) ∷ write 2 (20 ∷ []) ∷ write 4 (30 ∷ []) ∷ write 3 (40 ∷ []) ∷ [];
  gives = record {
    opening = open_done;
    answers = way 3 ∷ way 3 ∷ way 5 ∷ write_done 7 0 1 ∷ [];
    pages = (10 ∷ []) ∷ (20 ∷ []) ∷ (30 ∷ []) ∷ (40 ∷ []) ∷ [];
    sizes = plain_sizes 1 2 3 2 1 9;
    slots = 4 ∷ 3 ∷ [];
    frames = 1 ∷ [];
    valid = 1 ∷ [];
    recency = 0 ∷ [];
    uses = 1 ∷ [];
    flash = 10 ∷ 255 ∷ 255 ∷ 255 ∷ 255 ∷ 255 ∷ [];
    pspace = 30 ∷ 40 ∷ [];
    bspace = 20 ∷ 255 ∷ [];
    wear = 1 ∷ 0 ∷ 0 ∷ [];
  };
}

-- P2: its flush
abbrev pub p2 : Row
p2 = record {
  sizes = plain_sizes 1 2 3 2 1 9;
  wear = 0 ∷ 0 ∷ 0 ∷ [];
  calls = write 0 (10 ∷ []) ∷ write 2 (20 ∷ []) ∷ write 4 (30 ∷ []) ∷ write 3 (40 ∷ []) ∷ read 2 (0 ∷ []) ∷ read 1 (0 ∷ []) ∷ flush ∷ [];
  gives = record {
    opening = open_done;
    answers = way 3 ∷ way 3 ∷ way 5 ∷ write_done 7 0 1 ∷ read_done 2 ∷ read_done 3 ∷ flush_done 2 1 ∷ [];
    pages = (10 ∷ []) ∷ (20 ∷ []) ∷ (30 ∷ []) ∷ (40 ∷ []) ∷ (20 ∷ []) ∷ (255 ∷ []) ∷ [] ∷ [];
    sizes = plain_sizes 1 2 3 2 1 9;
    slots = vacant ∷ vacant ∷ [];
    frames = vacant ∷ [];
    valid = 0 ∷ [];
    recency = 0 ∷ [];
    uses = 0 ∷ [];
    flash = 10 ∷ 255 ∷ 20 ∷ 40 ∷ 30 ∷ 255 ∷ [];
    pspace = 30 ∷ 40 ∷ [];
    bspace = 30 ∷ 255 ∷ [];
    wear = 1 ∷ 1 ∷ 1 ∷ [];
  };
}

-- P3: its refused read
abbrev pub p3 : Row
p3 = record {
  sizes = plain_sizes 1 2 3 2 1 9;
  wear = 0 ∷ 0 ∷ 0 ∷ [];
  calls = write 0 (10 ∷ []) ∷ write 2 (20 ∷ []) ∷ write 4 (30 ∷ []) ∷ write 3 (40 ∷ []) ∷ read 2 (0 ∷ []) ∷ read 1 (0 ∷ []) ∷ flush
      ∷ read 6 (7 ∷ []) ∷ [];
  gives = record {
    opening = open_done;
    answers = way 3 ∷ way 3 ∷ way 5 ∷ write_done 7 0 1 ∷ read_done 2 ∷ read_done 3 ∷ flush_done 2 1 ∷ refused 5 vacant ∷ [];
    pages = (10 ∷ []) ∷ (20 ∷ []) ∷ (30 ∷ []) ∷ (40 ∷ []) ∷ (20 ∷ []) ∷ (255 ∷ []) ∷ [] ∷ (7 ∷ []) ∷ [];
    sizes = plain_sizes 1 2 3 2 1 9;
    slots = vacant ∷ vacant ∷ [];
    frames = vacant ∷ [];
    valid = 0 ∷ [];
    recency = 0 ∷ [];
    uses = 0 ∷ [];
    flash = 10 ∷ 255 ∷ 20 ∷ 40 ∷ 30 ∷ 255 ∷ [];
    pspace = 30 ∷ 40 ∷ [];
    bspace = 30 ∷ 255 ∷ [];
    wear = 1 ∷ 1 ∷ 1 ∷ [];
  };
}

-- P4: of the writes 0, 4, 8, 9, 5 the fourth is way 5
abbrev pub p4 : Row
p4 = record {
  sizes = plain_sizes 1 4 3 3 1 9;
  wear = 0 ∷ 0 ∷ 0 ∷ [];
  calls = write 0 (10 ∷ []) ∷ write 4 (20 ∷ []) ∷ write 8 (30 ∷ []) ∷ write 9 (40 ∷ []) ∷ [];
  gives = record {
    opening = open_done;
    answers = way 3 ∷ way 3 ∷ way 3 ∷ way 5 ∷ [];
    pages = (10 ∷ []) ∷ (20 ∷ []) ∷ (30 ∷ []) ∷ (40 ∷ []) ∷ [];
    sizes = plain_sizes 1 4 3 3 1 9;
    slots = 9 ∷ 4 ∷ 8 ∷ [];
    frames = 0 ∷ [];
    valid = 1 ∷ [];
    recency = 0 ∷ [];
    uses = 1 ∷ [];
    flash = 255 ∷ 255 ∷ 255 ∷ 255 ∷ 255 ∷ 255 ∷ 255 ∷ 255 ∷ 255 ∷ 255 ∷ 255 ∷ 255 ∷ [];
    pspace = 40 ∷ 20 ∷ 30 ∷ [];
    bspace = 10 ∷ 0 ∷ 0 ∷ 0 ∷ [];
    wear = 0 ∷ 0 ∷ 0 ∷ [];
  };
}

-- P5: the fifth is way 6; slots then 5, 4, 0, frame block 2 with bits 3, no erasure
abbrev pub p5 : Row
p5 = record {
  sizes = plain_sizes 1 4 3 3 1 9;
  wear = 0 ∷ 0 ∷ 0 ∷ [];
  calls = write 0 (10 ∷ []) ∷ write 4 (20 ∷ []) ∷ write 8 (30 ∷ []) ∷ write 9 (40 ∷ []) ∷ write 5 (50 ∷ []) ∷ [];
  gives = record {
    opening = open_done;
    answers = way 3 ∷ way 3 ∷ way 3 ∷ way 5 ∷ way 6 ∷ [];
    pages = (10 ∷ []) ∷ (20 ∷ []) ∷ (30 ∷ []) ∷ (40 ∷ []) ∷ (50 ∷ []) ∷ [];
    sizes = plain_sizes 1 4 3 3 1 9;
    slots = 5 ∷ 4 ∷ 0 ∷ [];
    frames = 2 ∷ [];
    valid = 3 ∷ [];
    recency = 0 ∷ [];
    uses = 1 ∷ [];
    flash = 255 ∷ 255 ∷ 255 ∷ 255 ∷ 255 ∷ 255 ∷ 255 ∷ 255 ∷ 255 ∷ 255 ∷ 255 ∷ 255 ∷ [];
    pspace = 50 ∷ 20 ∷ 10 ∷ [];
    bspace = 30 ∷ 40 ∷ 0 ∷ 0 ∷ [];
    wear = 0 ∷ 0 ∷ 0 ∷ [];
  };
}

-- P6: then 6 is way 7, block 2, 2 merge reads
abbrev pub p6 : Row
p6 = record {
  sizes = plain_sizes 1 4 3 3 1 9;
  wear = 0 ∷ 0 ∷ 0 ∷ [];
  calls = write 0 (10 ∷ []) ∷ write 4 (20 ∷ []) ∷ write 8 (30 ∷ []) ∷ write 9 (40 ∷ []) ∷ write 5 (50 ∷ []) ∷ write 6 (60 ∷ []) ∷ [];
  gives = record {
    opening = open_done;
    answers = way 3 ∷ way 3 ∷ way 3 ∷ way 5 ∷ way 6 ∷ write_done 7 2 2 ∷ [];
    pages = (10 ∷ []) ∷ (20 ∷ []) ∷ (30 ∷ []) ∷ (40 ∷ []) ∷ (50 ∷ []) ∷ (60 ∷ []) ∷ [];
    sizes = plain_sizes 1 4 3 3 1 9;
    slots = 6 ∷ vacant ∷ 0 ∷ [];
    frames = 1 ∷ [];
    valid = 3 ∷ [];
    recency = 0 ∷ [];
    uses = 1 ∷ [];
    flash = 255 ∷ 255 ∷ 255 ∷ 255 ∷ 255 ∷ 255 ∷ 255 ∷ 255 ∷ 30 ∷ 40 ∷ 255 ∷ 255 ∷ [];
    pspace = 60 ∷ 20 ∷ 10 ∷ [];
    bspace = 20 ∷ 50 ∷ 255 ∷ 255 ∷ [];
    wear = 0 ∷ 0 ∷ 1 ∷ [];
  };
}

-- P7, with request A2: then 8 is way 3; 1 is way 7, block 1, with page 6 from its slot, which page 1 takes; 2 is way 3 (before A2: way 4)
abbrev pub p7 : Row
p7 = record {
  sizes = plain_sizes 1 4 3 3 1 9;
  wear = 0 ∷ 0 ∷ 0 ∷ [];
  calls = write 0 (10 ∷ []) ∷ write 4 (20 ∷ []) ∷ write 8 (30 ∷ []) ∷ write 9 (40 ∷ []) ∷ write 5 (50 ∷ []) ∷ write 6 (60 ∷ [])
      ∷ write 8 (70 ∷ []) ∷ write 1 (80 ∷ []) ∷ write 2 (90 ∷ []) ∷ [];
  gives = record {
    opening = open_done;
    answers = way 3 ∷ way 3 ∷ way 3 ∷ way 5 ∷ way 6 ∷ write_done 7 2 2 ∷ way 3 ∷ write_done 7 1 1 ∷ way 3 ∷ [];
    pages = (10 ∷ []) ∷ (20 ∷ []) ∷ (30 ∷ []) ∷ (40 ∷ []) ∷ (50 ∷ []) ∷ (60 ∷ []) ∷ (70 ∷ []) ∷ (80 ∷ []) ∷ (90 ∷ []) ∷ [];
    sizes = plain_sizes 1 4 3 3 1 9;
    slots = 1 ∷ 8 ∷ 2 ∷ [];
    frames = 0 ∷ [];
    valid = 1 ∷ [];
    recency = 0 ∷ [];
    uses = 1 ∷ [];
    flash = 255 ∷ 255 ∷ 255 ∷ 255 ∷ 20 ∷ 50 ∷ 60 ∷ 255 ∷ 30 ∷ 40 ∷ 255 ∷ 255 ∷ [];
    pspace = 80 ∷ 70 ∷ 90 ∷ [];
    bspace = 10 ∷ 50 ∷ 60 ∷ 255 ∷ [];
    wear = 0 ∷ 1 ∷ 1 ∷ [];
  };
}

-- P8: 0, 4, 5, 8, 1, 9: the last is way 7, because 2 is not fewer than 2
abbrev pub p8 : Row
p8 = record {
  sizes = plain_sizes 1 4 3 3 1 9;
  wear = 0 ∷ 0 ∷ 0 ∷ [];
  calls = write 0 (10 ∷ []) ∷ write 4 (20 ∷ []) ∷ write 5 (30 ∷ []) ∷ write 8 (40 ∷ []) ∷ write 1 (50 ∷ []) ∷ write 9 (60 ∷ []) ∷ [];
  gives = record {
    opening = open_done;
    answers = way 3 ∷ way 3 ∷ way 3 ∷ way 5 ∷ way 3 ∷ write_done 7 1 2 ∷ [];
    pages = (10 ∷ []) ∷ (20 ∷ []) ∷ (30 ∷ []) ∷ (40 ∷ []) ∷ (50 ∷ []) ∷ (60 ∷ []) ∷ [];
    sizes = plain_sizes 1 4 3 3 1 9;
    slots = 9 ∷ 8 ∷ vacant ∷ [];
    frames = 0 ∷ [];
    valid = 3 ∷ [];
    recency = 0 ∷ [];
    uses = 1 ∷ [];
    flash = 255 ∷ 255 ∷ 255 ∷ 255 ∷ 20 ∷ 30 ∷ 255 ∷ 255 ∷ 255 ∷ 255 ∷ 255 ∷ 255 ∷ [];
    pspace = 60 ∷ 40 ∷ 50 ∷ [];
    bspace = 10 ∷ 50 ∷ 255 ∷ 255 ∷ [];
    wear = 0 ∷ 1 ∷ 0 ∷ [];
  };
}

-- P9: page N×K-1 is read, page N×K refused
abbrev pub p9 : Row
p9 = record {
  sizes = plain_sizes 1 4 3 3 1 9;
  wear = 0 ∷ 0 ∷ 0 ∷ [];
  calls = read 11 (1 ∷ []) ∷ read 12 (1 ∷ []) ∷ write 12 (1 ∷ []) ∷ [];
  gives = record {
    opening = open_done;
    answers = read_done 3 ∷ refused 5 vacant ∷ refused 5 vacant ∷ [];
    pages = (255 ∷ []) ∷ (1 ∷ []) ∷ (1 ∷ []) ∷ [];
    sizes = plain_sizes 1 4 3 3 1 9;
    slots = vacant ∷ vacant ∷ vacant ∷ [];
    frames = vacant ∷ [];
    valid = 0 ∷ [];
    recency = 0 ∷ [];
    uses = 0 ∷ [];
    flash = 255 ∷ 255 ∷ 255 ∷ 255 ∷ 255 ∷ 255 ∷ 255 ∷ 255 ∷ 255 ∷ 255 ∷ 255 ∷ 255 ∷ [];
    pspace = 0 ∷ 0 ∷ 0 ∷ [];
    bspace = 0 ∷ 0 ∷ 0 ∷ 0 ∷ [];
    wear = 0 ∷ 0 ∷ 0 ∷ [];
  };
}

-- P10: wear W-1 is rewritten
abbrev pub p10 : Row
p10 = record {
  sizes = plain_sizes 1 2 3 2 1 9;
  wear = 8 ∷ 0 ∷ 0 ∷ [];
  calls = write 0 (10 ∷ []) ∷ write 2 (20 ∷ []) ∷ write 4 (30 ∷ []) ∷ write 3 (40 ∷ []) ∷ [];
  gives = record {
    opening = open_done;
    answers = way 3 ∷ way 3 ∷ way 5 ∷ write_done 7 0 1 ∷ [];
    pages = (10 ∷ []) ∷ (20 ∷ []) ∷ (30 ∷ []) ∷ (40 ∷ []) ∷ [];
    sizes = plain_sizes 1 2 3 2 1 9;
    slots = 4 ∷ 3 ∷ [];
    frames = 1 ∷ [];
    valid = 1 ∷ [];
    recency = 0 ∷ [];
    uses = 1 ∷ [];
    flash = 10 ∷ 255 ∷ 255 ∷ 255 ∷ 255 ∷ 255 ∷ [];
    pspace = 30 ∷ 40 ∷ [];
    bspace = 20 ∷ 255 ∷ [];
    wear = 9 ∷ 0 ∷ 0 ∷ [];
  };
}

-- P10: wear W is refused
abbrev pub p10-worn : Row
p10-worn = record {
  sizes = plain_sizes 1 2 3 2 1 9;
  wear = 9 ∷ 0 ∷ 0 ∷ [];
  calls = write 0 (10 ∷ []) ∷ write 2 (20 ∷ []) ∷ write 4 (30 ∷ []) ∷ write 3 (40 ∷ []) ∷ [];
  gives = record {
    opening = open_done;
    answers = way 3 ∷ way 3 ∷ way 5 ∷ refused 6 0 ∷ [];
    pages = (10 ∷ []) ∷ (20 ∷ []) ∷ (30 ∷ []) ∷ (40 ∷ []) ∷ [];
    sizes = plain_sizes 1 2 3 2 1 9;
    slots = 4 ∷ 2 ∷ [];
    frames = 0 ∷ [];
    valid = 1 ∷ [];
    recency = 0 ∷ [];
    uses = 1 ∷ [];
    flash = 255 ∷ 255 ∷ 255 ∷ 255 ∷ 255 ∷ 255 ∷ [];
    pspace = 30 ∷ 20 ∷ [];
    bspace = 10 ∷ 0 ∷ [];
    wear = 9 ∷ 0 ∷ 0 ∷ [];
  };
}

-- P11: the flush of a clean store has 0 rewrites, and its step is clean
abbrev pub p11 : Row
p11 = record {
  sizes = plain_sizes 1 4 3 3 1 9;
  wear = 0 ∷ 0 ∷ 0 ∷ [];
  calls = flush ∷ step ∷ [];
  gives = record {
    opening = open_done;
    answers = flush_done 0 0 ∷ step_clean ∷ [];
    pages = [] ∷ [] ∷ [];
    sizes = plain_sizes 1 4 3 3 1 9;
    slots = vacant ∷ vacant ∷ vacant ∷ [];
    frames = vacant ∷ [];
    valid = 0 ∷ [];
    recency = 0 ∷ [];
    uses = 0 ∷ [];
    flash = 255 ∷ 255 ∷ 255 ∷ 255 ∷ 255 ∷ 255 ∷ 255 ∷ 255 ∷ 255 ∷ 255 ∷ 255 ∷ 255 ∷ [];
    pspace = 0 ∷ 0 ∷ 0 ∷ [];
    bspace = 0 ∷ 0 ∷ 0 ∷ 0 ∷ [];
    wear = 0 ∷ 0 ∷ 0 ∷ [];
  };
}

abbrev pub paper : List Row
paper = p1 ∷ p2 ∷ p3 ∷ p4 ∷ p5 ∷ p6 ∷ p7 ∷ p8 ∷ p9 ∷ p10 ∷ p10-worn ∷ p11 ∷ []
