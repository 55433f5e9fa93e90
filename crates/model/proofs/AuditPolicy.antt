-- Request A5: histories with three frames under each of the three policies, which tell them apart, and the use counts.
use mathlib.Core.List.{List, [], ◌∷◌}
use Prim.Native.Nat.{ℕ, suc}
use Rattle.model.specs.Sizes.{Sizes, vacant}
use Rattle.model.specs.Directory.{Directory}
use Rattle.model.specs.Calls.{open_done, read_done, write_done, step_done, refused, Call, read, write, step, flush, Page}
use Rattle.model.proofs.AuditRows.{Row, Whole, way, directory_of, listed, erased, runs}

-- 6 blocks of 2 pages, 2 slots, 3 frames, and the policy given
abbrev sizes_by : ℕ → Sizes
sizes_by c = record { S = 1; K = 2; N = 6; P = 2; B = 3; W = 9; policy = c; coded = 0; shelf_pages = 0; marked = 0 }

-- page n is written with byte n+1; page n is read
abbrev w : ℕ → Call Page
w n = write n (suc n ∷ [])

abbrev r : ℕ → Call Page
r n = read n (0 ∷ [])

-- Three frames are filled in turn; frame 1 is then used thrice in all, frame 2 twice, frame 0 thrice, in this order, by reads and a write.
-- LRU evicts frame 1, FIFO frame 0, LFU frame 2.
abbrev evicts : List (Call Page)
evicts = w 0 ∷ w 2 ∷ w 4 ∷ w 6 ∷ w 8 ∷ r 2 ∷ w 2 ∷ r 4 ∷ r 0 ∷ r 0 ∷ w 10 ∷ []

abbrev pub lru_evicts : Row
lru_evicts = record {
  sizes = sizes_by 0;
  wear = 0 ∷ 0 ∷ 0 ∷ 0 ∷ 0 ∷ 0 ∷ [];
  calls = evicts;
  gives = record {
    opening = open_done;
    answers = way 3 ∷ way 3 ∷ way 5 ∷ way 5 ∷ way 5 ∷ read_done 2 ∷ way 2 ∷ read_done 2 ∷ read_done 2 ∷ read_done 2
        ∷ write_done 7 1 1 ∷ [];
    pages = (1 ∷ []) ∷ (3 ∷ []) ∷ (5 ∷ []) ∷ (7 ∷ []) ∷ (9 ∷ []) ∷ (3 ∷ []) ∷ (3 ∷ []) ∷ (5 ∷ []) ∷ (1 ∷ []) ∷ (1 ∷ [])
        ∷ (11 ∷ []) ∷ [];
    sizes = sizes_by 0;
    slots = 8 ∷ 10 ∷ [];
    frames = 0 ∷ 3 ∷ 2 ∷ [];
    valid = 1 ∷ 1 ∷ 1 ∷ [];
    recency = 2 ∷ 0 ∷ 1 ∷ [];
    uses = 3 ∷ 1 ∷ 2 ∷ [];
    flash = 255 ∷ 255 ∷ 3 ∷ 255 ∷ 255 ∷ 255 ∷ 255 ∷ 255 ∷ 255 ∷ 255 ∷ 255 ∷ 255 ∷ [];
    pspace = 9 ∷ 11 ∷ [];
    bspace = 1 ∷ 0 ∷ 7 ∷ 255 ∷ 5 ∷ 0 ∷ [];
    wear = 0 ∷ 1 ∷ 0 ∷ 0 ∷ 0 ∷ 0 ∷ [];
  };
}

abbrev pub fifo-evicts : Row
fifo-evicts = record {
  sizes = sizes_by 1;
  wear = 0 ∷ 0 ∷ 0 ∷ 0 ∷ 0 ∷ 0 ∷ [];
  calls = evicts;
  gives = record {
    opening = open_done;
    answers = way 3 ∷ way 3 ∷ way 5 ∷ way 5 ∷ way 5 ∷ read_done 2 ∷ way 2 ∷ read_done 2 ∷ read_done 2 ∷ read_done 2
        ∷ write_done 7 0 1 ∷ [];
    pages = (1 ∷ []) ∷ (3 ∷ []) ∷ (5 ∷ []) ∷ (7 ∷ []) ∷ (9 ∷ []) ∷ (3 ∷ []) ∷ (3 ∷ []) ∷ (5 ∷ []) ∷ (1 ∷ []) ∷ (1 ∷ [])
        ∷ (11 ∷ []) ∷ [];
    sizes = sizes_by 1;
    slots = 8 ∷ 10 ∷ [];
    frames = 3 ∷ 1 ∷ 2 ∷ [];
    valid = 1 ∷ 1 ∷ 1 ∷ [];
    recency = 1 ∷ 2 ∷ 0 ∷ [];
    uses = 1 ∷ 3 ∷ 2 ∷ [];
    flash = 1 ∷ 255 ∷ 255 ∷ 255 ∷ 255 ∷ 255 ∷ 255 ∷ 255 ∷ 255 ∷ 255 ∷ 255 ∷ 255 ∷ [];
    pspace = 9 ∷ 11 ∷ [];
    bspace = 7 ∷ 255 ∷ 3 ∷ 0 ∷ 5 ∷ 0 ∷ [];
    wear = 1 ∷ 0 ∷ 0 ∷ 0 ∷ 0 ∷ 0 ∷ [];
  };
}

abbrev pub lfu_evicts : Row
lfu_evicts = record {
  sizes = sizes_by 2;
  wear = 0 ∷ 0 ∷ 0 ∷ 0 ∷ 0 ∷ 0 ∷ [];
  calls = evicts;
  gives = record {
    opening = open_done;
    answers = way 3 ∷ way 3 ∷ way 5 ∷ way 5 ∷ way 5 ∷ read_done 2 ∷ way 2 ∷ read_done 2 ∷ read_done 2 ∷ read_done 2
        ∷ write_done 7 2 1 ∷ [];
    pages = (1 ∷ []) ∷ (3 ∷ []) ∷ (5 ∷ []) ∷ (7 ∷ []) ∷ (9 ∷ []) ∷ (3 ∷ []) ∷ (3 ∷ []) ∷ (5 ∷ []) ∷ (1 ∷ []) ∷ (1 ∷ [])
        ∷ (11 ∷ []) ∷ [];
    sizes = sizes_by 2;
    slots = 8 ∷ 10 ∷ [];
    frames = 0 ∷ 1 ∷ 3 ∷ [];
    valid = 1 ∷ 1 ∷ 1 ∷ [];
    recency = 1 ∷ 0 ∷ 2 ∷ [];
    uses = 3 ∷ 3 ∷ 1 ∷ [];
    flash = 255 ∷ 255 ∷ 255 ∷ 255 ∷ 5 ∷ 255 ∷ 255 ∷ 255 ∷ 255 ∷ 255 ∷ 255 ∷ 255 ∷ [];
    pspace = 9 ∷ 11 ∷ [];
    bspace = 1 ∷ 0 ∷ 3 ∷ 0 ∷ 7 ∷ 255 ∷ [];
    wear = 0 ∷ 0 ∷ 1 ∷ 0 ∷ 0 ∷ 0 ∷ [];
  };
}

-- After the same uses a step takes the frame that each would evict, which is filled again, and another step the next one; pages of blocks 0
-- and 1 then go on.
abbrev stepped : List (Call Page)
stepped = w 0 ∷ w 2 ∷ w 4 ∷ w 6 ∷ w 8 ∷ r 2 ∷ w 2 ∷ r 4 ∷ r 0 ∷ r 0 ∷ step ∷ w 10 ∷ step ∷ w 1 ∷ w 3 ∷ []

abbrev pub lru_steps : Row
lru_steps = record {
  sizes = sizes_by 0;
  wear = 0 ∷ 0 ∷ 0 ∷ 0 ∷ 0 ∷ 0 ∷ [];
  calls = stepped;
  gives = record {
    opening = open_done;
    answers = way 3 ∷ way 3 ∷ way 5 ∷ way 5 ∷ way 5 ∷ read_done 2 ∷ way 2 ∷ read_done 2 ∷ read_done 2 ∷ read_done 2 ∷ step_done 1 1
        ∷ way 5 ∷ step_done 2 1 ∷ way 5 ∷ way 4 ∷ [];
    pages = (1 ∷ []) ∷ (3 ∷ []) ∷ (5 ∷ []) ∷ (7 ∷ []) ∷ (9 ∷ []) ∷ (3 ∷ []) ∷ (3 ∷ []) ∷ (5 ∷ []) ∷ (1 ∷ []) ∷ (1 ∷ []) ∷ []
        ∷ (11 ∷ []) ∷ [] ∷ (2 ∷ []) ∷ (4 ∷ []) ∷ [];
    sizes = sizes_by 0;
    slots = 3 ∷ 10 ∷ [];
    frames = 0 ∷ 3 ∷ 4 ∷ [];
    valid = 3 ∷ 1 ∷ 1 ∷ [];
    recency = 1 ∷ 2 ∷ 0 ∷ [];
    uses = 4 ∷ 1 ∷ 1 ∷ [];
    flash = 255 ∷ 255 ∷ 3 ∷ 255 ∷ 5 ∷ 255 ∷ 255 ∷ 255 ∷ 255 ∷ 255 ∷ 255 ∷ 255 ∷ [];
    pspace = 4 ∷ 11 ∷ [];
    bspace = 1 ∷ 2 ∷ 7 ∷ 255 ∷ 9 ∷ 255 ∷ [];
    wear = 0 ∷ 1 ∷ 1 ∷ 0 ∷ 0 ∷ 0 ∷ [];
  };
}

abbrev pub fifo-steps : Row
fifo-steps = record {
  sizes = sizes_by 1;
  wear = 0 ∷ 0 ∷ 0 ∷ 0 ∷ 0 ∷ 0 ∷ [];
  calls = stepped;
  gives = record {
    opening = open_done;
    answers = way 3 ∷ way 3 ∷ way 5 ∷ way 5 ∷ way 5 ∷ read_done 2 ∷ way 2 ∷ read_done 2 ∷ read_done 2 ∷ read_done 2 ∷ step_done 0 1
        ∷ way 5 ∷ step_done 1 1 ∷ way 5 ∷ write_done 7 2 1 ∷ [];
    pages = (1 ∷ []) ∷ (3 ∷ []) ∷ (5 ∷ []) ∷ (7 ∷ []) ∷ (9 ∷ []) ∷ (3 ∷ []) ∷ (3 ∷ []) ∷ (5 ∷ []) ∷ (1 ∷ []) ∷ (1 ∷ []) ∷ []
        ∷ (11 ∷ []) ∷ [] ∷ (2 ∷ []) ∷ (4 ∷ []) ∷ [];
    sizes = sizes_by 1;
    slots = 3 ∷ 10 ∷ [];
    frames = 3 ∷ 4 ∷ 0 ∷ [];
    valid = 1 ∷ 1 ∷ 2 ∷ [];
    recency = 0 ∷ 1 ∷ 2 ∷ [];
    uses = 1 ∷ 1 ∷ 1 ∷ [];
    flash = 1 ∷ 255 ∷ 3 ∷ 255 ∷ 5 ∷ 255 ∷ 255 ∷ 255 ∷ 255 ∷ 255 ∷ 255 ∷ 255 ∷ [];
    pspace = 4 ∷ 11 ∷ [];
    bspace = 7 ∷ 255 ∷ 9 ∷ 255 ∷ 5 ∷ 2 ∷ [];
    wear = 1 ∷ 1 ∷ 1 ∷ 0 ∷ 0 ∷ 0 ∷ [];
  };
}

abbrev pub lfu_steps : Row
lfu_steps = record {
  sizes = sizes_by 2;
  wear = 0 ∷ 0 ∷ 0 ∷ 0 ∷ 0 ∷ 0 ∷ [];
  calls = stepped;
  gives = record {
    opening = open_done;
    answers = way 3 ∷ way 3 ∷ way 5 ∷ way 5 ∷ way 5 ∷ read_done 2 ∷ way 2 ∷ read_done 2 ∷ read_done 2 ∷ read_done 2 ∷ step_done 2 1
        ∷ way 5 ∷ step_done 3 1 ∷ way 5 ∷ way 4 ∷ [];
    pages = (1 ∷ []) ∷ (3 ∷ []) ∷ (5 ∷ []) ∷ (7 ∷ []) ∷ (9 ∷ []) ∷ (3 ∷ []) ∷ (3 ∷ []) ∷ (5 ∷ []) ∷ (1 ∷ []) ∷ (1 ∷ []) ∷ []
        ∷ (11 ∷ []) ∷ [] ∷ (2 ∷ []) ∷ (4 ∷ []) ∷ [];
    sizes = sizes_by 2;
    slots = 3 ∷ 10 ∷ [];
    frames = 0 ∷ 1 ∷ 4 ∷ [];
    valid = 3 ∷ 1 ∷ 1 ∷ [];
    recency = 1 ∷ 2 ∷ 0 ∷ [];
    uses = 4 ∷ 3 ∷ 1 ∷ [];
    flash = 255 ∷ 255 ∷ 255 ∷ 255 ∷ 5 ∷ 255 ∷ 7 ∷ 255 ∷ 255 ∷ 255 ∷ 255 ∷ 255 ∷ [];
    pspace = 4 ∷ 11 ∷ [];
    bspace = 1 ∷ 2 ∷ 3 ∷ 0 ∷ 9 ∷ 255 ∷ [];
    wear = 0 ∷ 0 ∷ 1 ∷ 1 ∷ 0 ∷ 0 ∷ [];
  };
}

-- Frame 0 is filled, frame 1 filled and read, frame 2 filled, and a page joins frame 0: one use more, which leaves it the oldest under FIFO
-- alone. LRU then evicts frame 1, FIFO frame 0, LFU frame 2.
abbrev joins : List (Call Page)
joins = w 0 ∷ w 2 ∷ w 4 ∷ w 6 ∷ r 2 ∷ w 1 ∷ w 8 ∷ w 10 ∷ []

abbrev pub lru_joins : Row
lru_joins = record {
  sizes = sizes_by 0;
  wear = 0 ∷ 0 ∷ 0 ∷ 0 ∷ 0 ∷ 0 ∷ [];
  calls = joins;
  gives = record {
    opening = open_done;
    answers = way 3 ∷ way 3 ∷ way 5 ∷ way 5 ∷ read_done 2 ∷ way 5 ∷ way 4 ∷ write_done 7 1 1 ∷ [];
    pages = (1 ∷ []) ∷ (3 ∷ []) ∷ (5 ∷ []) ∷ (7 ∷ []) ∷ (3 ∷ []) ∷ (2 ∷ []) ∷ (9 ∷ []) ∷ (11 ∷ []) ∷ [];
    sizes = sizes_by 0;
    slots = 8 ∷ 10 ∷ [];
    frames = 0 ∷ 3 ∷ 2 ∷ [];
    valid = 3 ∷ 1 ∷ 1 ∷ [];
    recency = 2 ∷ 0 ∷ 1 ∷ [];
    uses = 2 ∷ 1 ∷ 1 ∷ [];
    flash = 255 ∷ 255 ∷ 3 ∷ 255 ∷ 255 ∷ 255 ∷ 255 ∷ 255 ∷ 255 ∷ 255 ∷ 255 ∷ 255 ∷ [];
    pspace = 9 ∷ 11 ∷ [];
    bspace = 1 ∷ 2 ∷ 7 ∷ 255 ∷ 5 ∷ 0 ∷ [];
    wear = 0 ∷ 1 ∷ 0 ∷ 0 ∷ 0 ∷ 0 ∷ [];
  };
}

abbrev pub fifo-joins : Row
fifo-joins = record {
  sizes = sizes_by 1;
  wear = 0 ∷ 0 ∷ 0 ∷ 0 ∷ 0 ∷ 0 ∷ [];
  calls = joins;
  gives = record {
    opening = open_done;
    answers = way 3 ∷ way 3 ∷ way 5 ∷ way 5 ∷ read_done 2 ∷ way 5 ∷ way 4 ∷ write_done 7 0 0 ∷ [];
    pages = (1 ∷ []) ∷ (3 ∷ []) ∷ (5 ∷ []) ∷ (7 ∷ []) ∷ (3 ∷ []) ∷ (2 ∷ []) ∷ (9 ∷ []) ∷ (11 ∷ []) ∷ [];
    sizes = sizes_by 1;
    slots = 8 ∷ 10 ∷ [];
    frames = 3 ∷ 1 ∷ 2 ∷ [];
    valid = 1 ∷ 1 ∷ 1 ∷ [];
    recency = 1 ∷ 2 ∷ 0 ∷ [];
    uses = 1 ∷ 2 ∷ 1 ∷ [];
    flash = 1 ∷ 2 ∷ 255 ∷ 255 ∷ 255 ∷ 255 ∷ 255 ∷ 255 ∷ 255 ∷ 255 ∷ 255 ∷ 255 ∷ [];
    pspace = 9 ∷ 11 ∷ [];
    bspace = 7 ∷ 2 ∷ 3 ∷ 0 ∷ 5 ∷ 0 ∷ [];
    wear = 1 ∷ 0 ∷ 0 ∷ 0 ∷ 0 ∷ 0 ∷ [];
  };
}

abbrev pub lfu_joins : Row
lfu_joins = record {
  sizes = sizes_by 2;
  wear = 0 ∷ 0 ∷ 0 ∷ 0 ∷ 0 ∷ 0 ∷ [];
  calls = joins;
  gives = record {
    opening = open_done;
    answers = way 3 ∷ way 3 ∷ way 5 ∷ way 5 ∷ read_done 2 ∷ way 5 ∷ way 4 ∷ write_done 7 2 1 ∷ [];
    pages = (1 ∷ []) ∷ (3 ∷ []) ∷ (5 ∷ []) ∷ (7 ∷ []) ∷ (3 ∷ []) ∷ (2 ∷ []) ∷ (9 ∷ []) ∷ (11 ∷ []) ∷ [];
    sizes = sizes_by 2;
    slots = 8 ∷ 10 ∷ [];
    frames = 0 ∷ 1 ∷ 3 ∷ [];
    valid = 3 ∷ 1 ∷ 1 ∷ [];
    recency = 1 ∷ 0 ∷ 2 ∷ [];
    uses = 2 ∷ 2 ∷ 1 ∷ [];
    flash = 255 ∷ 255 ∷ 255 ∷ 255 ∷ 5 ∷ 255 ∷ 255 ∷ 255 ∷ 255 ∷ 255 ∷ 255 ∷ 255 ∷ [];
    pspace = 9 ∷ 11 ∷ [];
    bspace = 1 ∷ 2 ∷ 3 ∷ 0 ∷ 7 ∷ 255 ∷ [];
    wear = 0 ∷ 0 ∷ 1 ∷ 0 ∷ 0 ∷ 0 ∷ [];
  };
}

-- Frames 1 and 2 have the fewest uses, two each, and frame 2 is the less recent of them: LFU evicts it. LRU and FIFO evict frame 0, with
-- three uses.
abbrev ties : List (Call Page)
ties = w 0 ∷ w 2 ∷ w 4 ∷ w 6 ∷ w 8 ∷ r 0 ∷ r 0 ∷ r 4 ∷ r 2 ∷ w 10 ∷ []

abbrev pub lru_ties : Row
lru_ties = record {
  sizes = sizes_by 0;
  wear = 0 ∷ 0 ∷ 0 ∷ 0 ∷ 0 ∷ 0 ∷ [];
  calls = ties;
  gives = record {
    opening = open_done;
    answers = way 3 ∷ way 3 ∷ way 5 ∷ way 5 ∷ way 5 ∷ read_done 2 ∷ read_done 2 ∷ read_done 2 ∷ read_done 2 ∷ write_done 7 0 1 ∷ [];
    pages = (1 ∷ []) ∷ (3 ∷ []) ∷ (5 ∷ []) ∷ (7 ∷ []) ∷ (9 ∷ []) ∷ (1 ∷ []) ∷ (1 ∷ []) ∷ (5 ∷ []) ∷ (3 ∷ []) ∷ (11 ∷ []) ∷ [];
    sizes = sizes_by 0;
    slots = 8 ∷ 10 ∷ [];
    frames = 3 ∷ 1 ∷ 2 ∷ [];
    valid = 1 ∷ 1 ∷ 1 ∷ [];
    recency = 2 ∷ 1 ∷ 0 ∷ [];
    uses = 1 ∷ 2 ∷ 2 ∷ [];
    flash = 1 ∷ 255 ∷ 255 ∷ 255 ∷ 255 ∷ 255 ∷ 255 ∷ 255 ∷ 255 ∷ 255 ∷ 255 ∷ 255 ∷ [];
    pspace = 9 ∷ 11 ∷ [];
    bspace = 7 ∷ 255 ∷ 3 ∷ 0 ∷ 5 ∷ 0 ∷ [];
    wear = 1 ∷ 0 ∷ 0 ∷ 0 ∷ 0 ∷ 0 ∷ [];
  };
}

abbrev pub fifo-ties : Row
fifo-ties = record {
  sizes = sizes_by 1;
  wear = 0 ∷ 0 ∷ 0 ∷ 0 ∷ 0 ∷ 0 ∷ [];
  calls = ties;
  gives = record {
    opening = open_done;
    answers = way 3 ∷ way 3 ∷ way 5 ∷ way 5 ∷ way 5 ∷ read_done 2 ∷ read_done 2 ∷ read_done 2 ∷ read_done 2 ∷ write_done 7 0 1 ∷ [];
    pages = (1 ∷ []) ∷ (3 ∷ []) ∷ (5 ∷ []) ∷ (7 ∷ []) ∷ (9 ∷ []) ∷ (1 ∷ []) ∷ (1 ∷ []) ∷ (5 ∷ []) ∷ (3 ∷ []) ∷ (11 ∷ []) ∷ [];
    sizes = sizes_by 1;
    slots = 8 ∷ 10 ∷ [];
    frames = 3 ∷ 1 ∷ 2 ∷ [];
    valid = 1 ∷ 1 ∷ 1 ∷ [];
    recency = 1 ∷ 2 ∷ 0 ∷ [];
    uses = 1 ∷ 2 ∷ 2 ∷ [];
    flash = 1 ∷ 255 ∷ 255 ∷ 255 ∷ 255 ∷ 255 ∷ 255 ∷ 255 ∷ 255 ∷ 255 ∷ 255 ∷ 255 ∷ [];
    pspace = 9 ∷ 11 ∷ [];
    bspace = 7 ∷ 255 ∷ 3 ∷ 0 ∷ 5 ∷ 0 ∷ [];
    wear = 1 ∷ 0 ∷ 0 ∷ 0 ∷ 0 ∷ 0 ∷ [];
  };
}

abbrev pub lfu_ties : Row
lfu_ties = record {
  sizes = sizes_by 2;
  wear = 0 ∷ 0 ∷ 0 ∷ 0 ∷ 0 ∷ 0 ∷ [];
  calls = ties;
  gives = record {
    opening = open_done;
    answers = way 3 ∷ way 3 ∷ way 5 ∷ way 5 ∷ way 5 ∷ read_done 2 ∷ read_done 2 ∷ read_done 2 ∷ read_done 2 ∷ write_done 7 2 1 ∷ [];
    pages = (1 ∷ []) ∷ (3 ∷ []) ∷ (5 ∷ []) ∷ (7 ∷ []) ∷ (9 ∷ []) ∷ (1 ∷ []) ∷ (1 ∷ []) ∷ (5 ∷ []) ∷ (3 ∷ []) ∷ (11 ∷ []) ∷ [];
    sizes = sizes_by 2;
    slots = 8 ∷ 10 ∷ [];
    frames = 0 ∷ 1 ∷ 3 ∷ [];
    valid = 1 ∷ 1 ∷ 1 ∷ [];
    recency = 0 ∷ 1 ∷ 2 ∷ [];
    uses = 3 ∷ 2 ∷ 1 ∷ [];
    flash = 255 ∷ 255 ∷ 255 ∷ 255 ∷ 5 ∷ 255 ∷ 255 ∷ 255 ∷ 255 ∷ 255 ∷ 255 ∷ 255 ∷ [];
    pspace = 9 ∷ 11 ∷ [];
    bspace = 1 ∷ 0 ∷ 3 ∷ 0 ∷ 7 ∷ 255 ∷ [];
    wear = 0 ∷ 0 ∷ 1 ∷ 0 ∷ 0 ∷ 0 ∷ [];
  };
}

-- Way 6 where all frames have one page: LRU takes frame 1, FIFO frame 0, LFU frame 2. The frame has one use then.
abbrev exchanges : List (Call Page)
exchanges = w 0 ∷ w 2 ∷ w 4 ∷ w 6 ∷ w 7 ∷ r 2 ∷ r 2 ∷ r 4 ∷ r 0 ∷ r 0 ∷ w 8 ∷ []

abbrev pub lru_exchanges : Row
lru_exchanges = record {
  sizes = sizes_by 0;
  wear = 0 ∷ 0 ∷ 0 ∷ 0 ∷ 0 ∷ 0 ∷ [];
  calls = exchanges;
  gives = record {
    opening = open_done;
    answers = way 3 ∷ way 3 ∷ way 5 ∷ way 5 ∷ way 5 ∷ read_done 2 ∷ read_done 2 ∷ read_done 2 ∷ read_done 2 ∷ read_done 2 ∷ way 6 ∷ [];
    pages = (1 ∷ []) ∷ (3 ∷ []) ∷ (5 ∷ []) ∷ (7 ∷ []) ∷ (8 ∷ []) ∷ (3 ∷ []) ∷ (3 ∷ []) ∷ (5 ∷ []) ∷ (1 ∷ []) ∷ (1 ∷ [])
        ∷ (9 ∷ []) ∷ [];
    sizes = sizes_by 0;
    slots = 8 ∷ 2 ∷ [];
    frames = 0 ∷ 3 ∷ 2 ∷ [];
    valid = 1 ∷ 3 ∷ 1 ∷ [];
    recency = 2 ∷ 0 ∷ 1 ∷ [];
    uses = 3 ∷ 1 ∷ 2 ∷ [];
    flash = 255 ∷ 255 ∷ 255 ∷ 255 ∷ 255 ∷ 255 ∷ 255 ∷ 255 ∷ 255 ∷ 255 ∷ 255 ∷ 255 ∷ [];
    pspace = 9 ∷ 3 ∷ [];
    bspace = 1 ∷ 0 ∷ 7 ∷ 8 ∷ 5 ∷ 0 ∷ [];
    wear = 0 ∷ 0 ∷ 0 ∷ 0 ∷ 0 ∷ 0 ∷ [];
  };
}

abbrev pub fifo-exchanges : Row
fifo-exchanges = record {
  sizes = sizes_by 1;
  wear = 0 ∷ 0 ∷ 0 ∷ 0 ∷ 0 ∷ 0 ∷ [];
  calls = exchanges;
  gives = record {
    opening = open_done;
    answers = way 3 ∷ way 3 ∷ way 5 ∷ way 5 ∷ way 5 ∷ read_done 2 ∷ read_done 2 ∷ read_done 2 ∷ read_done 2 ∷ read_done 2 ∷ way 6 ∷ [];
    pages = (1 ∷ []) ∷ (3 ∷ []) ∷ (5 ∷ []) ∷ (7 ∷ []) ∷ (8 ∷ []) ∷ (3 ∷ []) ∷ (3 ∷ []) ∷ (5 ∷ []) ∷ (1 ∷ []) ∷ (1 ∷ [])
        ∷ (9 ∷ []) ∷ [];
    sizes = sizes_by 1;
    slots = 8 ∷ 0 ∷ [];
    frames = 3 ∷ 1 ∷ 2 ∷ [];
    valid = 3 ∷ 1 ∷ 1 ∷ [];
    recency = 1 ∷ 2 ∷ 0 ∷ [];
    uses = 1 ∷ 3 ∷ 2 ∷ [];
    flash = 255 ∷ 255 ∷ 255 ∷ 255 ∷ 255 ∷ 255 ∷ 255 ∷ 255 ∷ 255 ∷ 255 ∷ 255 ∷ 255 ∷ [];
    pspace = 9 ∷ 1 ∷ [];
    bspace = 7 ∷ 8 ∷ 3 ∷ 0 ∷ 5 ∷ 0 ∷ [];
    wear = 0 ∷ 0 ∷ 0 ∷ 0 ∷ 0 ∷ 0 ∷ [];
  };
}

abbrev pub lfu_exchanges : Row
lfu_exchanges = record {
  sizes = sizes_by 2;
  wear = 0 ∷ 0 ∷ 0 ∷ 0 ∷ 0 ∷ 0 ∷ [];
  calls = exchanges;
  gives = record {
    opening = open_done;
    answers = way 3 ∷ way 3 ∷ way 5 ∷ way 5 ∷ way 5 ∷ read_done 2 ∷ read_done 2 ∷ read_done 2 ∷ read_done 2 ∷ read_done 2 ∷ way 6 ∷ [];
    pages = (1 ∷ []) ∷ (3 ∷ []) ∷ (5 ∷ []) ∷ (7 ∷ []) ∷ (8 ∷ []) ∷ (3 ∷ []) ∷ (3 ∷ []) ∷ (5 ∷ []) ∷ (1 ∷ []) ∷ (1 ∷ [])
        ∷ (9 ∷ []) ∷ [];
    sizes = sizes_by 2;
    slots = 8 ∷ 4 ∷ [];
    frames = 0 ∷ 1 ∷ 3 ∷ [];
    valid = 1 ∷ 1 ∷ 3 ∷ [];
    recency = 1 ∷ 0 ∷ 2 ∷ [];
    uses = 3 ∷ 3 ∷ 1 ∷ [];
    flash = 255 ∷ 255 ∷ 255 ∷ 255 ∷ 255 ∷ 255 ∷ 255 ∷ 255 ∷ 255 ∷ 255 ∷ 255 ∷ 255 ∷ [];
    pspace = 9 ∷ 5 ∷ [];
    bspace = 1 ∷ 0 ∷ 3 ∷ 0 ∷ 7 ∷ 8 ∷ [];
    wear = 0 ∷ 0 ∷ 0 ∷ 0 ∷ 0 ∷ 0 ∷ [];
  };
}

-- The uses of `evicts`, and all frames hold worn blocks: the write is refused 6 and names the block that the policy would evict, and so
-- does a step; a flush names the lowest worn one.
abbrev refusals : List (Call Page)
refusals = w 0 ∷ w 2 ∷ w 4 ∷ w 6 ∷ w 8 ∷ r 2 ∷ w 2 ∷ r 4 ∷ r 0 ∷ r 0 ∷ w 10 ∷ step ∷ flush ∷ []

abbrev pub lru_refuses : Row
lru_refuses = record {
  sizes = sizes_by 0;
  wear = 9 ∷ 9 ∷ 9 ∷ 0 ∷ 0 ∷ 0 ∷ [];
  calls = refusals;
  gives = record {
    opening = open_done;
    answers = way 3 ∷ way 3 ∷ way 5 ∷ way 5 ∷ way 5 ∷ read_done 2 ∷ way 2 ∷ read_done 2 ∷ read_done 2 ∷ read_done 2 ∷ refused 6 1
        ∷ refused 6 1 ∷ refused 6 0 ∷ [];
    pages = (1 ∷ []) ∷ (3 ∷ []) ∷ (5 ∷ []) ∷ (7 ∷ []) ∷ (9 ∷ []) ∷ (3 ∷ []) ∷ (3 ∷ []) ∷ (5 ∷ []) ∷ (1 ∷ []) ∷ (1 ∷ [])
        ∷ (11 ∷ []) ∷ [] ∷ [] ∷ [];
    sizes = sizes_by 0;
    slots = 8 ∷ 6 ∷ [];
    frames = 0 ∷ 1 ∷ 2 ∷ [];
    valid = 1 ∷ 1 ∷ 1 ∷ [];
    recency = 1 ∷ 2 ∷ 0 ∷ [];
    uses = 3 ∷ 3 ∷ 2 ∷ [];
    flash = 255 ∷ 255 ∷ 255 ∷ 255 ∷ 255 ∷ 255 ∷ 255 ∷ 255 ∷ 255 ∷ 255 ∷ 255 ∷ 255 ∷ [];
    pspace = 9 ∷ 7 ∷ [];
    bspace = 1 ∷ 0 ∷ 3 ∷ 0 ∷ 5 ∷ 0 ∷ [];
    wear = 9 ∷ 9 ∷ 9 ∷ 0 ∷ 0 ∷ 0 ∷ [];
  };
}

abbrev pub fifo-refuses : Row
fifo-refuses = record {
  sizes = sizes_by 1;
  wear = 9 ∷ 9 ∷ 9 ∷ 0 ∷ 0 ∷ 0 ∷ [];
  calls = refusals;
  gives = record {
    opening = open_done;
    answers = way 3 ∷ way 3 ∷ way 5 ∷ way 5 ∷ way 5 ∷ read_done 2 ∷ way 2 ∷ read_done 2 ∷ read_done 2 ∷ read_done 2 ∷ refused 6 0
        ∷ refused 6 0 ∷ refused 6 0 ∷ [];
    pages = (1 ∷ []) ∷ (3 ∷ []) ∷ (5 ∷ []) ∷ (7 ∷ []) ∷ (9 ∷ []) ∷ (3 ∷ []) ∷ (3 ∷ []) ∷ (5 ∷ []) ∷ (1 ∷ []) ∷ (1 ∷ [])
        ∷ (11 ∷ []) ∷ [] ∷ [] ∷ [];
    sizes = sizes_by 1;
    slots = 8 ∷ 6 ∷ [];
    frames = 0 ∷ 1 ∷ 2 ∷ [];
    valid = 1 ∷ 1 ∷ 1 ∷ [];
    recency = 0 ∷ 1 ∷ 2 ∷ [];
    uses = 3 ∷ 3 ∷ 2 ∷ [];
    flash = 255 ∷ 255 ∷ 255 ∷ 255 ∷ 255 ∷ 255 ∷ 255 ∷ 255 ∷ 255 ∷ 255 ∷ 255 ∷ 255 ∷ [];
    pspace = 9 ∷ 7 ∷ [];
    bspace = 1 ∷ 0 ∷ 3 ∷ 0 ∷ 5 ∷ 0 ∷ [];
    wear = 9 ∷ 9 ∷ 9 ∷ 0 ∷ 0 ∷ 0 ∷ [];
  };
}

abbrev pub lfu_refuses : Row
lfu_refuses = record {
  sizes = sizes_by 2;
  wear = 9 ∷ 9 ∷ 9 ∷ 0 ∷ 0 ∷ 0 ∷ [];
  calls = refusals;
  gives = record {
    opening = open_done;
    answers = way 3 ∷ way 3 ∷ way 5 ∷ way 5 ∷ way 5 ∷ read_done 2 ∷ way 2 ∷ read_done 2 ∷ read_done 2 ∷ read_done 2 ∷ refused 6 2
        ∷ refused 6 2 ∷ refused 6 0 ∷ [];
    pages = (1 ∷ []) ∷ (3 ∷ []) ∷ (5 ∷ []) ∷ (7 ∷ []) ∷ (9 ∷ []) ∷ (3 ∷ []) ∷ (3 ∷ []) ∷ (5 ∷ []) ∷ (1 ∷ []) ∷ (1 ∷ [])
        ∷ (11 ∷ []) ∷ [] ∷ [] ∷ [];
    sizes = sizes_by 2;
    slots = 8 ∷ 6 ∷ [];
    frames = 0 ∷ 1 ∷ 2 ∷ [];
    valid = 1 ∷ 1 ∷ 1 ∷ [];
    recency = 1 ∷ 2 ∷ 0 ∷ [];
    uses = 3 ∷ 3 ∷ 2 ∷ [];
    flash = 255 ∷ 255 ∷ 255 ∷ 255 ∷ 255 ∷ 255 ∷ 255 ∷ 255 ∷ 255 ∷ 255 ∷ 255 ∷ 255 ∷ [];
    pspace = 9 ∷ 7 ∷ [];
    bspace = 1 ∷ 0 ∷ 3 ∷ 0 ∷ 5 ∷ 0 ∷ [];
    wear = 9 ∷ 9 ∷ 9 ∷ 0 ∷ 0 ∷ 0 ∷ [];
  };
}

-- Only the block of the frame that FIFO, or LFU, would take is worn: a step looks at this frame and is refused, a write passes it over.
abbrev passes : List (Call Page)
passes = w 0 ∷ w 2 ∷ w 4 ∷ w 6 ∷ w 8 ∷ r 2 ∷ w 2 ∷ r 4 ∷ r 0 ∷ r 0 ∷ step ∷ w 10 ∷ w 11 ∷ []

abbrev pub fifo-passes : Row
fifo-passes = record {
  sizes = sizes_by 1;
  wear = 9 ∷ 0 ∷ 0 ∷ 0 ∷ 0 ∷ 0 ∷ [];
  calls = passes;
  gives = record {
    opening = open_done;
    answers = way 3 ∷ way 3 ∷ way 5 ∷ way 5 ∷ way 5 ∷ read_done 2 ∷ way 2 ∷ read_done 2 ∷ read_done 2 ∷ read_done 2 ∷ refused 6 0
        ∷ write_done 7 1 1 ∷ write_done 7 2 1 ∷ [];
    pages = (1 ∷ []) ∷ (3 ∷ []) ∷ (5 ∷ []) ∷ (7 ∷ []) ∷ (9 ∷ []) ∷ (3 ∷ []) ∷ (3 ∷ []) ∷ (5 ∷ []) ∷ (1 ∷ []) ∷ (1 ∷ []) ∷ []
        ∷ (11 ∷ []) ∷ (12 ∷ []) ∷ [];
    sizes = sizes_by 1;
    slots = 11 ∷ 10 ∷ [];
    frames = 0 ∷ 3 ∷ 4 ∷ [];
    valid = 1 ∷ 1 ∷ 1 ∷ [];
    recency = 0 ∷ 1 ∷ 2 ∷ [];
    uses = 3 ∷ 1 ∷ 1 ∷ [];
    flash = 255 ∷ 255 ∷ 3 ∷ 255 ∷ 5 ∷ 255 ∷ 255 ∷ 255 ∷ 255 ∷ 255 ∷ 255 ∷ 255 ∷ [];
    pspace = 12 ∷ 11 ∷ [];
    bspace = 1 ∷ 0 ∷ 7 ∷ 255 ∷ 9 ∷ 255 ∷ [];
    wear = 9 ∷ 1 ∷ 1 ∷ 0 ∷ 0 ∷ 0 ∷ [];
  };
}

abbrev pub lfu_passes : Row
lfu_passes = record {
  sizes = sizes_by 2;
  wear = 0 ∷ 0 ∷ 9 ∷ 0 ∷ 0 ∷ 0 ∷ [];
  calls = passes;
  gives = record {
    opening = open_done;
    answers = way 3 ∷ way 3 ∷ way 5 ∷ way 5 ∷ way 5 ∷ read_done 2 ∷ way 2 ∷ read_done 2 ∷ read_done 2 ∷ read_done 2 ∷ refused 6 2
        ∷ write_done 7 1 1 ∷ write_done 7 3 1 ∷ [];
    pages = (1 ∷ []) ∷ (3 ∷ []) ∷ (5 ∷ []) ∷ (7 ∷ []) ∷ (9 ∷ []) ∷ (3 ∷ []) ∷ (3 ∷ []) ∷ (5 ∷ []) ∷ (1 ∷ []) ∷ (1 ∷ []) ∷ []
        ∷ (11 ∷ []) ∷ (12 ∷ []) ∷ [];
    sizes = sizes_by 2;
    slots = 11 ∷ 10 ∷ [];
    frames = 0 ∷ 4 ∷ 2 ∷ [];
    valid = 1 ∷ 1 ∷ 1 ∷ [];
    recency = 2 ∷ 0 ∷ 1 ∷ [];
    uses = 3 ∷ 1 ∷ 2 ∷ [];
    flash = 255 ∷ 255 ∷ 3 ∷ 255 ∷ 255 ∷ 255 ∷ 7 ∷ 255 ∷ 255 ∷ 255 ∷ 255 ∷ 255 ∷ [];
    pspace = 12 ∷ 11 ∷ [];
    bspace = 1 ∷ 0 ∷ 9 ∷ 255 ∷ 5 ∷ 0 ∷ [];
    wear = 0 ∷ 1 ∷ 9 ∷ 1 ∷ 0 ∷ 0 ∷ [];
  };
}

-- LFU, 4 blocks of 4 pages, 4 slots, 2 frames: frame 0 has 3 pages and one use, frame 1 has 2 pages and two uses. Way 6 takes the frame
-- with the fewest pages, not the one with the fewest uses of those that have fewer than the victim.
abbrev four_pages : Sizes
four_pages = record { S = 1; K = 4; N = 4; P = 4; B = 2; W = 9; policy = 2; coded = 0; shelf_pages = 0; marked = 0 }

abbrev fewest : List (Call Page)
fewest = w 0 ∷ w 1 ∷ w 2 ∷ w 4 ∷ w 5 ∷ w 8 ∷ w 9 ∷ w 10 ∷ w 11 ∷ r 4 ∷ w 12 ∷ []

abbrev pub lfu_takes_the_fewest : Row
lfu_takes_the_fewest = record {
  sizes = four_pages;
  wear = 0 ∷ 0 ∷ 0 ∷ 0 ∷ [];
  calls = fewest;
  gives = record {
    opening = open_done;
    answers = way 3 ∷ way 3 ∷ way 3 ∷ way 3 ∷ way 5 ∷ way 3 ∷ way 3 ∷ way 5 ∷ way 3 ∷ read_done 2 ∷ way 6 ∷ [];
    pages = (1 ∷ []) ∷ (2 ∷ []) ∷ (3 ∷ []) ∷ (5 ∷ []) ∷ (6 ∷ []) ∷ (9 ∷ []) ∷ (10 ∷ []) ∷ (11 ∷ []) ∷ (12 ∷ []) ∷ (5 ∷ []) ∷ (13
        ∷ []) ∷ [];
    sizes = four_pages;
    slots = 12 ∷ 4 ∷ 5 ∷ vacant ∷ [];
    frames = 0 ∷ 2 ∷ [];
    valid = 7 ∷ 15 ∷ [];
    recency = 0 ∷ 1 ∷ [];
    uses = 1 ∷ 1 ∷ [];
    flash = 255 ∷ 255 ∷ 255 ∷ 255 ∷ 255 ∷ 255 ∷ 255 ∷ 255 ∷ 255 ∷ 255 ∷ 255 ∷ 255 ∷ 255 ∷ 255 ∷ 255 ∷ 255 ∷ [];
    pspace = 13 ∷ 5 ∷ 6 ∷ 12 ∷ [];
    bspace = 1 ∷ 2 ∷ 3 ∷ 0 ∷ 9 ∷ 10 ∷ 11 ∷ 12 ∷ [];
    wear = 0 ∷ 0 ∷ 0 ∷ 0 ∷ [];
  };
}

-- LFU, the block of the frame with the fewest uses is worn: of the two others way 7 takes the one with fewer uses, which is the more
-- recent.
abbrev by_uses : List (Call Page)
by_uses = w 0 ∷ w 2 ∷ w 4 ∷ w 6 ∷ w 8 ∷ r 2 ∷ r 2 ∷ w 2 ∷ r 4 ∷ r 0 ∷ r 0 ∷ w 10 ∷ []

abbrev pub lfu_passes_by_uses : Row
lfu_passes_by_uses = record {
  sizes = sizes_by 2;
  wear = 0 ∷ 0 ∷ 9 ∷ 0 ∷ 0 ∷ 0 ∷ [];
  calls = by_uses;
  gives = record {
    opening = open_done;
    answers = way 3 ∷ way 3 ∷ way 5 ∷ way 5 ∷ way 5 ∷ read_done 2 ∷ read_done 2 ∷ way 2 ∷ read_done 2 ∷ read_done 2 ∷ read_done 2
        ∷ write_done 7 0 1 ∷ [];
    pages = (1 ∷ []) ∷ (3 ∷ []) ∷ (5 ∷ []) ∷ (7 ∷ []) ∷ (9 ∷ []) ∷ (3 ∷ []) ∷ (3 ∷ []) ∷ (3 ∷ []) ∷ (5 ∷ []) ∷ (1 ∷ []) ∷ (1 ∷ [])
        ∷ (11 ∷ []) ∷ [];
    sizes = sizes_by 2;
    slots = 8 ∷ 10 ∷ [];
    frames = 3 ∷ 1 ∷ 2 ∷ [];
    valid = 1 ∷ 1 ∷ 1 ∷ [];
    recency = 1 ∷ 2 ∷ 0 ∷ [];
    uses = 1 ∷ 4 ∷ 2 ∷ [];
    flash = 1 ∷ 255 ∷ 255 ∷ 255 ∷ 255 ∷ 255 ∷ 255 ∷ 255 ∷ 255 ∷ 255 ∷ 255 ∷ 255 ∷ [];
    pspace = 9 ∷ 11 ∷ [];
    bspace = 7 ∷ 255 ∷ 3 ∷ 0 ∷ 5 ∷ 0 ∷ [];
    wear = 1 ∷ 0 ∷ 9 ∷ 0 ∷ 0 ∷ 0 ∷ [];
  };
}

-- LFU, one step: the frame that it takes keeps its place in the order of use.
abbrev one_step : List (Call Page)
one_step = w 0 ∷ w 2 ∷ w 4 ∷ w 6 ∷ w 8 ∷ r 2 ∷ w 2 ∷ r 4 ∷ r 0 ∷ r 0 ∷ step ∷ []

abbrev pub lfu_step_stays : Row
lfu_step_stays = record {
  sizes = sizes_by 2;
  wear = 0 ∷ 0 ∷ 0 ∷ 0 ∷ 0 ∷ 0 ∷ [];
  calls = one_step;
  gives = record {
    opening = open_done;
    answers = way 3 ∷ way 3 ∷ way 5 ∷ way 5 ∷ way 5 ∷ read_done 2 ∷ way 2 ∷ read_done 2 ∷ read_done 2 ∷ read_done 2 ∷ step_done 2 1 ∷ [];
    pages = (1 ∷ []) ∷ (3 ∷ []) ∷ (5 ∷ []) ∷ (7 ∷ []) ∷ (9 ∷ []) ∷ (3 ∷ []) ∷ (3 ∷ []) ∷ (5 ∷ []) ∷ (1 ∷ []) ∷ (1 ∷ []) ∷ [] ∷ [];
    sizes = sizes_by 2;
    slots = 8 ∷ 6 ∷ [];
    frames = 0 ∷ 1 ∷ vacant ∷ [];
    valid = 1 ∷ 1 ∷ 0 ∷ [];
    recency = 1 ∷ 2 ∷ 0 ∷ [];
    uses = 3 ∷ 3 ∷ 0 ∷ [];
    flash = 255 ∷ 255 ∷ 255 ∷ 255 ∷ 5 ∷ 255 ∷ 255 ∷ 255 ∷ 255 ∷ 255 ∷ 255 ∷ 255 ∷ [];
    pspace = 9 ∷ 7 ∷ [];
    bspace = 1 ∷ 0 ∷ 3 ∷ 0 ∷ 5 ∷ 255 ∷ [];
    wear = 0 ∷ 0 ∷ 1 ∷ 0 ∷ 0 ∷ 0 ∷ [];
  };
}

-- ---- from a record whose counts stand at the greatest number and one below it

-- the directory from which the calls start, and the row otherwise
pub record Begun : Type 0 where
  pub starts : Directory
  pub row : Row

-- what the definitions give, and what the row lists
abbrev pub begun : Begun → Whole
begun r = let g = r.row in runs open_done (record {
  cache = record { sizes = g.sizes; directory = r.starts };
  lent = erased g.sizes g.wear;
}) g.calls [] [] []

abbrev pub begun_listed : Begun → Whole
begun_listed r = listed r.row

-- The record is sound: frame 0 has 4,294,967,295 uses, frame 1 one fewer. Hits of both, by reads and a write, and a join of frame 0 leave
-- both at 4,294,967,295.
abbrev counted : List (Call Page)
counted = r 0 ∷ r 2 ∷ r 2 ∷ w 0 ∷ w 6 ∷ []

abbrev pub held_up : Begun
held_up = record {
  starts = directory_of (1 ∷ 4 ∷ []) (0 ∷ 1 ∷ vacant ∷ []) (1 ∷ 1 ∷ 0 ∷ []) (0 ∷ 1 ∷ 2 ∷ []) (4294967295 ∷ 4294967294 ∷ 0 ∷ []);
  row = record {
    sizes = sizes_by 2;
    wear = 0 ∷ 0 ∷ 0 ∷ 0 ∷ 0 ∷ 0 ∷ [];
    calls = counted;
    gives = record {
      opening = open_done;
      answers = read_done 2 ∷ read_done 2 ∷ read_done 2 ∷ way 2 ∷ way 4 ∷ [];
      pages = (0 ∷ []) ∷ (0 ∷ []) ∷ (0 ∷ []) ∷ (1 ∷ []) ∷ (7 ∷ []) ∷ [];
      sizes = sizes_by 2;
      slots = 6 ∷ 4 ∷ [];
      frames = 0 ∷ 1 ∷ vacant ∷ [];
      valid = 3 ∷ 1 ∷ 0 ∷ [];
      recency = 2 ∷ 1 ∷ 0 ∷ [];
      uses = 4294967295 ∷ 4294967295 ∷ 0 ∷ [];
      flash = 255 ∷ 255 ∷ 255 ∷ 255 ∷ 255 ∷ 255 ∷ 255 ∷ 255 ∷ 255 ∷ 255 ∷ 255 ∷ 255 ∷ [];
      pspace = 7 ∷ 0 ∷ [];
      bspace = 1 ∷ 0 ∷ 0 ∷ 0 ∷ 0 ∷ 0 ∷ [];
      wear = 0 ∷ 0 ∷ 0 ∷ 0 ∷ 0 ∷ 0 ∷ [];
    };
  };
}

-- ---- the tables

abbrev pub policies : List Row
policies =
    lru_evicts ∷ fifo-evicts ∷ lfu_evicts
    ∷ lru_steps ∷ fifo-steps ∷ lfu_steps
    ∷ lru_joins ∷ fifo-joins ∷ lfu_joins
    ∷ lru_ties ∷ fifo-ties ∷ lfu_ties
    ∷ lru_exchanges ∷ fifo-exchanges ∷ lfu_exchanges
    ∷ lru_refuses ∷ fifo-refuses ∷ lfu_refuses
    ∷ fifo-passes ∷ lfu_passes
    ∷ lfu_takes_the_fewest ∷ lfu_passes_by_uses ∷ lfu_step_stays ∷ []

abbrev pub counts : List Begun
counts = held_up ∷ []
