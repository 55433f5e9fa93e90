-- Records with one entry spoilt, one or more for each condition of soundness: a call on them is refused 4, and hands all back.
use mathlib.Core.List.{List, [], ◌∷◌, ◌++◌}
use Prim.Native.Nat.{ℕ}
use lib.ListN.{replicate}
use Rattle.model.specs.Sizes.{Sizes, plain_sizes, vacant}
use Rattle.model.specs.Directory.{Directory}
use Rattle.model.specs.Policy.{policy_choice}
use Rattle.model.specs.Calls.{Answer, read_done, refused, read, Page, Store, Result, call}
use Rattle.model.specs.Formats.{store_format}
use Rattle.model.proofs.AuditRows.{directory_of, erased}

-- the record with these sizes and numbers, and the erased buffers of the sizes 1 4 3 3 2 9
abbrev pub store_of : Sizes → Directory → Store
store_of sz d = record { cache = record { sizes = sz; directory = d }; lent = erased (plain_sizes 1 4 3 3 2 9) (0 ∷ 0 ∷ 0 ∷ []) }

-- with these slots, frames, valid sets, order and uses
abbrev pub record_of : Sizes → List ℕ → List ℕ → List ℕ → List ℕ → List ℕ → Store
record_of sz slots frames valid recency uses = store_of sz (directory_of slots frames valid recency uses)

-- a read of page 0 with byte 7 in the page buffer
abbrev pub tried : Store → Result
tried s = call store_format policy_choice s (read 0 (7 ∷ []))

-- ---- sound records

-- a sound record, the read's answer, and the page that it gives; the record stays as it is
pub record Unspoilt : Type 0 where
  pub store : Store
  pub answer : Answer
  pub page : Page

abbrev pub tried_unspoilt : Unspoilt → Result
tried_unspoilt r = tried r.store

abbrev pub unspoilt_listed : Unspoilt → Result
unspoilt_listed r = record { answer = r.answer; mends = 0; store = r.store; page = r.page }

-- the record that is spoilt below
abbrev pub held : Unspoilt
held = record {
  store = record_of (plain_sizes 1 4 3 3 2 9) (0 ∷ vacant ∷ 9 ∷ []) (1 ∷ 2 ∷ []) (5 ∷ 1 ∷ []) (1 ∷ 0 ∷ []) (3 ∷ 1 ∷ []);
  answer = read_done 1;
  page = 0 ∷ [];
}

-- no slot and no frame held
abbrev pub vacant_ones : Unspoilt
vacant_ones = record {
  store = record_of (plain_sizes 1 4 3 3 2 9) (vacant ∷ vacant ∷ vacant ∷ []) (vacant ∷ vacant ∷ []) (0 ∷ 0 ∷ []) (0 ∷ 1 ∷ []) (0 ∷ 0 ∷ []);
  answer = read_done 3;
  page = 255 ∷ [];
}

-- the highest page in a slot, a frame with all its pages valid, and the highest count of uses
abbrev pub highest : Unspoilt
highest = record {
  store = record_of (plain_sizes 1 4 3 3 2 9) (11 ∷ vacant ∷ 3 ∷ []) (1 ∷ 0 ∷ []) (15 ∷ 6 ∷ []) (0 ∷ 1 ∷ []) (1 ∷ 4294967295 ∷ []);
  answer = read_done 3;
  page = 255 ∷ [];
}

-- the first of them with other sizes
abbrev with_sizes : Sizes → Store
with_sizes sz = record_of sz (0 ∷ vacant ∷ 9 ∷ []) (1 ∷ 2 ∷ []) (5 ∷ 1 ∷ []) (1 ∷ 0 ∷ []) (3 ∷ 1 ∷ [])

-- with options: policy, coded, shelf pages, marked; and with pages of so many bytes
abbrev with_options_at : ℕ → ℕ → ℕ → ℕ → ℕ → Store
with_options_at s policy coded shelf_pages marked = with_sizes (record {
  S = s;
  K = 4;
  N = 3;
  P = 3;
  B = 2;
  W = 9;
  policy = policy;
  coded = coded;
  shelf_pages = shelf_pages;
  marked = marked;
})

abbrev with_options : ℕ → ℕ → ℕ → ℕ → Store
with_options policy coded shelf_pages marked = with_options_at 1 policy coded shelf_pages marked

-- the first of them under FIFO and LFU
abbrev pub held_by : ℕ → Unspoilt
held_by policy = record { store = with_options policy 0 0 0; answer = read_done 1; page = 0 ∷ [] }

-- and with 1 and 8 shelf pages
abbrev pub held_with : ℕ → Unspoilt
held_with pages = record { store = with_options 0 0 pages 0; answer = read_done 1; page = 0 ∷ [] }

-- and with marks
abbrev pub held_marked : Unspoilt
held_marked = record {
  store = record {
    cache = (with_options 0 0 0 1).cache;
    lent = record {
      flash = replicate 12 255;
      codes = [];
      marks = replicate 12 0;
      wear = 0 ∷ 0 ∷ 0 ∷ [];
      pspace = replicate 3 0;
      bspace = replicate 8 0;
    };
  };
  answer = read_done 1;
  page = 0 ∷ [];
}

abbrev pub unspoilt : List Unspoilt
unspoilt = held ∷ vacant_ones ∷ highest ∷ held_by 1 ∷ held_by 2 ∷ held_with 1 ∷ held_with 8 ∷ held_marked ∷ []

-- ---- the first of them spoilt at one place

abbrev with_slots : List ℕ → Store
with_slots slots = record_of (plain_sizes 1 4 3 3 2 9) slots (1 ∷ 2 ∷ []) (5 ∷ 1 ∷ []) (1 ∷ 0 ∷ []) (3 ∷ 1 ∷ [])

-- with the uses that the frames should have
abbrev with_frames : List ℕ → List ℕ → List ℕ → Store
with_frames frames valid uses = record_of (plain_sizes 1 4 3 3 2 9) (0 ∷ vacant ∷ 9 ∷ []) frames valid (1 ∷ 0 ∷ []) uses

abbrev with_order : List ℕ → Store
with_order recency = record_of (plain_sizes 1 4 3 3 2 9) (0 ∷ vacant ∷ 9 ∷ []) (1 ∷ 2 ∷ []) (5 ∷ 1 ∷ []) recency (3 ∷ 1 ∷ [])

-- with these use counts
abbrev with_uses : List ℕ → Store
with_uses uses = record_of (plain_sizes 1 4 3 3 2 9) (0 ∷ vacant ∷ 9 ∷ []) (1 ∷ 2 ∷ []) (5 ∷ 1 ∷ []) (1 ∷ 0 ∷ []) uses

-- with a use count too few
abbrev with_seven_uses : Store
with_seven_uses = let d = directory_of (0 ∷ vacant ∷ 9 ∷ []) (1 ∷ 2 ∷ []) (5 ∷ 1 ∷ []) (1 ∷ 0 ∷ []) [] in
    store_of (plain_sizes 1 4 3 3 2 9) (record {
      slots = d.slots;
      frames = d.frames;
      valid = d.valid;
      recency = d.recency;
      uses = 3 ∷ 1 ∷ 0 ∷ 0 ∷ 0 ∷ 0 ∷ 0 ∷ [];
    })

abbrev pub spoilt_listed : Store → Result
spoilt_listed s = record { answer = refused 4 vacant; mends = 0; store = s; page = 7 ∷ [] }

abbrev pub spoilt : List Store
spoilt =
    -- S is 0
    with_sizes (plain_sizes 0 4 3 3 2 9)
    -- S is 2049
    ∷ with_sizes (plain_sizes 2049 4 3 3 2 9)
    -- K is 1
    ∷ with_sizes (plain_sizes 1 1 3 3 2 9)
    -- K is 65
    ∷ with_sizes (plain_sizes 1 65 3 3 2 9)
    -- N is 0
    ∷ with_sizes (plain_sizes 1 4 0 3 2 9)
    -- N is 4097
    ∷ with_sizes (plain_sizes 1 4 4097 3 2 9)
    -- P is 0
    ∷ with_sizes (plain_sizes 1 4 3 0 2 9)
    -- P is 129
    ∷ with_sizes (plain_sizes 1 4 3 129 2 9)
    -- B is 0
    ∷ with_sizes (plain_sizes 1 4 3 3 0 9)
    -- B is 9
    ∷ with_sizes (plain_sizes 1 4 3 3 9 9)
    -- W is 0
    ∷ with_sizes (plain_sizes 1 4 3 3 2 0)
    -- W is 1000001
    ∷ with_sizes (plain_sizes 1 4 3 3 2 1000001)
    -- the policy is 3, 4294967295
    ∷ with_options 3 0 0 0
    ∷ with_options 4294967295 0 0 0
    -- coded is 1, and S no multiple of 256
    ∷ with_options 0 1 0 0
    ∷ with_options_at 255 0 1 0 0
    ∷ with_options_at 384 0 1 0 0
    -- coded is 2
    ∷ with_options 0 2 0 0
    ∷ with_options_at 256 0 2 0 0
    -- there are 9 shelf pages, or the highest number
    ∷ with_options 0 0 9 0
    ∷ with_options 0 0 4294967295 0
    -- marked is 2, or the highest number
    ∷ with_options 0 0 0 2
    ∷ with_options 0 0 0 4294967295
    -- a slot holds page N×K
    ∷ with_slots (0 ∷ vacant ∷ 12 ∷ [])
    -- a slot holds a number below vacant that is no page
    ∷ with_slots (0 ∷ vacant ∷ 4294967294 ∷ [])
    -- a frame holds block N
    ∷ with_frames (1 ∷ 3 ∷ []) (5 ∷ 1 ∷ []) (3 ∷ 1 ∷ [])
    -- a vacant frame has a valid bit
    ∷ with_frames (1 ∷ vacant ∷ []) (5 ∷ 1 ∷ []) (3 ∷ 0 ∷ [])
    -- a frame has no valid bit
    ∷ with_frames (1 ∷ 2 ∷ []) (5 ∷ 0 ∷ []) (3 ∷ 1 ∷ [])
    -- a frame has a valid bit at K
    ∷ with_frames (1 ∷ 2 ∷ []) (5 ∷ 17 ∷ []) (3 ∷ 1 ∷ [])
    -- a frame has a valid bit at 63
    ∷ with_frames (1 ∷ 2 ∷ []) (9223372036854775813 ∷ 1 ∷ []) (3 ∷ 1 ∷ [])
    -- a page stands in two slots
    ∷ with_slots (0 ∷ 9 ∷ 9 ∷ [])
    -- a block stands in two frames
    ∷ with_frames (1 ∷ 1 ∷ []) (5 ∷ 2 ∷ []) (3 ∷ 1 ∷ [])
    -- a page stands in a slot and is valid in a frame
    ∷ with_slots (0 ∷ vacant ∷ 8 ∷ [])
    -- the order lists a frame twice
    ∷ with_order (1 ∷ 1 ∷ [])
    -- the order lists a frame past B
    ∷ with_order (1 ∷ 2 ∷ [])
    -- the order lists vacant
    ∷ with_order (vacant ∷ 0 ∷ [])
    -- a slot past P holds a page
    ∷ with_slots (0 ∷ vacant ∷ 9 ∷ 1 ∷ [])
    -- the last slot holds a page
    ∷ with_slots ((0 ∷ vacant ∷ 9 ∷ []) ++ (replicate 124 vacant ++ (1 ∷ [])))
    -- a frame past B holds a block
    ∷ with_frames (1 ∷ 2 ∷ 0 ∷ []) (5 ∷ 1 ∷ []) (3 ∷ 1 ∷ 1 ∷ [])
    -- the last frame holds a block
    ∷ with_frames (1 ∷ 2 ∷ vacant ∷ vacant ∷ vacant ∷ vacant ∷ vacant ∷ 0 ∷ []) (5 ∷ 1 ∷ []) (3 ∷ 1 ∷ 0 ∷ 0 ∷ 0 ∷ 0 ∷ 0 ∷ 1 ∷ [])
    -- a frame past B has a valid bit
    ∷ with_frames (1 ∷ 2 ∷ []) (5 ∷ 1 ∷ 1 ∷ []) (3 ∷ 1 ∷ [])
    -- the last frame has a valid bit
    ∷ with_frames (1 ∷ 2 ∷ []) (5 ∷ 1 ∷ 0 ∷ 0 ∷ 0 ∷ 0 ∷ 0 ∷ 1 ∷ []) (3 ∷ 1 ∷ [])
    -- order entries past B change places
    ∷ with_order (1 ∷ 0 ∷ 3 ∷ 2 ∷ [])
    -- the last order entry is not its own index
    ∷ with_order (1 ∷ 0 ∷ 2 ∷ 3 ∷ 4 ∷ 5 ∷ 6 ∷ 0 ∷ [])
    -- there are 129 slots
    ∷ with_slots ((0 ∷ vacant ∷ 9 ∷ []) ++ replicate 126 vacant)
    -- there are 9 frames
    ∷ with_frames (1 ∷ 2 ∷ vacant ∷ vacant ∷ vacant ∷ vacant ∷ vacant ∷ vacant ∷ vacant ∷ []) (5 ∷ 1 ∷ []) (3 ∷ 1 ∷ [])
    -- there are 9 valid sets
    ∷ with_frames (1 ∷ 2 ∷ []) (5 ∷ 1 ∷ 0 ∷ 0 ∷ 0 ∷ 0 ∷ 0 ∷ 0 ∷ 0 ∷ []) (3 ∷ 1 ∷ [])
    -- there are 9 order entries
    ∷ with_order (1 ∷ 0 ∷ 2 ∷ 3 ∷ 4 ∷ 5 ∷ 6 ∷ 7 ∷ 8 ∷ [])
    -- a frame that holds a block has no use
    ∷ with_uses (0 ∷ 1 ∷ [])
    -- the last frame below B has none
    ∷ with_uses (3 ∷ 0 ∷ [])
    -- a vacant frame has a use
    ∷ with_frames (1 ∷ vacant ∷ []) (5 ∷ 0 ∷ []) (3 ∷ 1 ∷ [])
    -- a frame past B has a use
    ∷ with_uses (3 ∷ 1 ∷ 1 ∷ [])
    -- the last frame has a use
    ∷ with_uses (3 ∷ 1 ∷ 0 ∷ 0 ∷ 0 ∷ 0 ∷ 0 ∷ 1 ∷ [])
    -- there are 7 use counts
    ∷ with_seven_uses
    -- there are 9 use counts
    ∷ with_uses (3 ∷ 1 ∷ 0 ∷ 0 ∷ 0 ∷ 0 ∷ 0 ∷ 0 ∷ 0 ∷ [])
    ∷ []
