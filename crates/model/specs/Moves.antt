-- How directory, pages and wear change. Each move has a part over numbers and a part over pages; a page is a value of any type.
use Rattle.std.specs.Prelude.{Bool, true, false, not, cond, ◌&&◌, ◌||◌, List, ℕ, suc, ◌+◌, ◌*◌, ◌/◌, ◌%◌, ltb, eqb, get_or, set}
use Rattle.prelude.specs.Scan.{first, count, nth, tab}
use Rattle.prelude.specs.Bits.{bit, mask}
use Rattle.model.specs.Sizes.{Sizes, vacant}
use Rattle.model.specs.Directory.{Directory, slot_at, frame_at, valid_at, recency_at, uses_at}
use Rattle.model.specs.Policy.{in_block, slot_of, in_slots, frame_with, read_way, Plan, slot_hit, frame_hit, free_slot, join, fill}
use Rattle.model.specs.Policy.{exchange}
use Rattle.model.specs.Policy.{evict, merge_reads, Due, clean, due}

-- Flash holds raw pages, cells, of any type C. Of a cell: the page that reading it gives, the refusal that a read or merge from it meets
-- (0: none; 7 unreadable, 14 torn), and how many chunks the reading mends; and the cells that erasing, and programming a page, leave.
pub record Chip (C A : Type 0) : Type 0 where
  pub page : C → A
  pub fault : C → ℕ
  pub mends : C → ℕ
  pub erased : C
  pub cell : A → C

-- flash of N×K cells, p-space of P pages, b-space of B×K
pub record Memory (C A : Type 0) : Type 0 where
  pub flash : List C
  pub pspace : List A
  pub bspace : List A

-- ---- the chip; filler stands for a page past the end of a list

module _ {C A : Type 0} (chip : Chip C A) (filler : A) where
  -- cell n of a list of cells
  unfoldable pub cell_at : List C → ℕ → C
  cell_at fl n = get_or fl n (chip.cell filler)

  -- page n of flash, as the chip reads it
  unfoldable pub flash_page : Memory C A → ℕ → A
  flash_page m n = chip.page (cell_at m.flash n)

  -- flash with block b erased and all its K pages programmed, offset o with pg o; the cells of every other block stay as they are
  unfoldable pub programmed : Sizes → List C → ℕ → (ℕ → A) → List C
  programmed sz fl b pg = tab (sz.N * sz.K) (λ n. cond (eqb (n / sz.K) b) (chip.cell (pg (n % sz.K))) (cell_at fl n))

  -- the same after the first ops of its K+1 chip operations: the erasure, then each page, offsets upward
  unfoldable pub programmed_to : ℕ → Sizes → List C → ℕ → (ℕ → A) → List C
  programmed_to ops sz fl b pg = tab (sz.N * sz.K) (λ n.
      cond (ltb 0 ops && eqb (n / sz.K) b) (cond (ltb (suc (n % sz.K)) ops) (chip.cell (pg (n % sz.K))) chip.erased) (cell_at fl n))

-- one more erasure of block b (vacant: none)
unfoldable pub worn : List ℕ → ℕ → List ℕ
worn w b = set w b (suc (get_or w b 0))

unfoldable pub worn_by : List ℕ → ℕ → List ℕ
worn_by w b = cond (ltb b vacant) (worn w b) w

-- ---- a frame becomes most recent

unfoldable pub recency_after : Sizes → Directory → ℕ → List ℕ
recency_after sz d f =
    let at = first sz.B (λ i. eqb (recency_at d i) f) in
    tab 8 (λ i. cond (ltb i at) (recency_at d i) (cond (ltb (suc i) sz.B) (recency_at d (suc i)) (cond (ltb i sz.B) f (recency_at d i))))

-- ---- a frame is used (request A5)

-- one more use, held at the greatest 32-bit number
unfoldable pub oneMore : ℕ → ℕ
oneMore c = cond (ltb c 4294967295) (suc c) c

-- Frame f is filled, by way 5, 6 or 7, or it is hit or joined. It becomes most recent, but under FIFO (policy 1) only by being filled.
-- A hit and a join count one use more; the first use, of a filling, is counted by the move that fills the frame.
unfoldable pub touched : Sizes → Bool → Directory → ℕ → Directory
touched sz filling d f = record {
  slots = d.slots;
  frames = d.frames;
  valid = d.valid;
  recency = cond (filling || not (eqb sz.policy 1)) (recency_after sz d f) d.recency;
  uses = cond filling d.uses (set d.uses f (oneMore (uses_at d f)));
}

-- ---- a page is put into a slot, or into a frame

unfoldable pub put_slot : Directory → ℕ → ℕ → Directory
put_slot d i n = record { slots = set d.slots i n; frames = d.frames; valid = d.valid; recency = d.recency; uses = d.uses }

-- page n goes into the first vacant slot
unfoldable pub entered : Sizes → Directory → ℕ → Directory
entered sz d n = put_slot d (slot_of sz d vacant) n

module _ {C A : Type 0} where
  unfoldable pub put_slot_page : Memory C A → ℕ → A → Memory C A
  put_slot_page m i x = record { flash = m.flash; pspace = set m.pspace i x; bspace = m.bspace }

  unfoldable pub put_frame_page : Memory C A → ℕ → A → Memory C A
  put_frame_page m k x = record { flash = m.flash; pspace = m.pspace; bspace = set m.bspace k x }

-- ---- the pages of block b in slots join frame f, which is b's or vacant (ways 4, 5, twice in way 7, and a flush step)

-- a frame that was vacant has its first use then, any other keeps its uses
unfoldable pub joined : Sizes → Directory → ℕ → ℕ → Directory
joined sz d b f = record {
  slots = tab 128 (λ i. cond (in_block sz d b i) vacant (slot_at d i));
  frames = set d.frames f b;
  valid = set d.valid f (mask sz.K (λ o. bit (valid_at d f) o || in_slots sz d (b * sz.K + o)));
  recency = d.recency;
  uses = set d.uses f (cond (ltb 0 (uses_at d f)) (uses_at d f) 1);
}

module _ {C A : Type 0} (filler : A) where
  -- b-space with block b's pages in slots copied to their offsets in frame f
  unfoldable pub filled : Sizes → Directory → Memory C A → ℕ → ℕ → List A
  filled sz d m b f = tab (sz.B * sz.K) (λ k.
      cond (eqb (k / sz.K) f && in_slots sz d (b * sz.K + k % sz.K))
      (get_or m.pspace (slot_of sz d (b * sz.K + k % sz.K)) filler)
      (get_or m.bspace k filler))

  unfoldable pub joined_pages : Sizes → Directory → Memory C A → ℕ → ℕ → Memory C A
  joined_pages sz d m b f = record { flash = m.flash; pspace = m.pspace; bspace = filled sz d m b f }

-- ---- way 6: the pages of block b in slots exchange with the old pages of frame f

-- an old page of the frame that no victim page of equal offset meets
unfoldable pub unmet : Sizes → Directory → ℕ → ℕ → ℕ → Bool
unmet sz d b f o = bit (valid_at d f) o && not (in_slots sz d (b * sz.K + o))

-- a vacated slot whose victim page meets no old page of equal offset
unfoldable pub spare : Sizes → Directory → ℕ → ℕ → ℕ → Bool
spare sz d b f i = in_block sz d b i && not (bit (valid_at d f) (slot_at d i % sz.K))

-- the offset of the old page that vacated slot i takes: its own offset where the two meet; else the old pages left, offsets upward, go to
-- the slots left, numbers upward; K where none is left
unfoldable pub taken : Sizes → Directory → ℕ → ℕ → ℕ → ℕ
taken sz d b f i = cond (spare sz d b f i) (nth sz.K (unmet sz d b f) (count i (spare sz d b f))) (slot_at d i % sz.K)

-- the number that vacated slot i then has
unfoldable pub given_slot : Sizes → Directory → ℕ → ℕ → ℕ → ℕ
given_slot sz d b f i = cond (ltb (taken sz d b f i) sz.K) (frame_at d f * sz.K + taken sz d b f i) vacant

-- the frame is then the victim's, with only the victim pages valid, and has its first use
unfoldable pub exchanged : Sizes → Directory → ℕ → ℕ → Directory
exchanged sz d b f = record {
  slots = tab 128 (λ i. cond (in_block sz d b i) (given_slot sz d b f i) (slot_at d i));
  frames = set d.frames f b;
  valid = set d.valid f (mask sz.K (λ o. in_slots sz d (b * sz.K + o)));
  recency = d.recency;
  uses = set d.uses f 1;
}

module _ {C A : Type 0} (filler : A) where
  unfoldable pub exchanged_pages : Sizes → Directory → Memory C A → ℕ → ℕ → Memory C A
  exchanged_pages sz d m b f = record {
    flash = m.flash;
    pspace = tab sz.P (λ i.
        cond (in_block sz d b i && ltb (taken sz d b f i) sz.K) (get_or m.bspace (f * sz.K + taken sz d b f i) filler)
        (get_or m.pspace i filler));
    bspace = filled filler sz d m b f;
  }

-- ---- a rewrite of frame f, of block b, which is vacated then

unfoldable pub vacated : Directory → ℕ → Directory
vacated d f = record {
  slots = d.slots;
  frames = set d.frames f vacant;
  valid = set d.valid f 0;
  recency = d.recency;
  uses = set d.uses f 0;
}

module _ {C A : Type 0} (chip : Chip C A) (filler : A) where
  -- the page at offset o: the frame's where it is valid, else a merge read
  unfoldable pub merged : Sizes → Directory → Memory C A → ℕ → ℕ → ℕ → A
  merged sz d m b f o = cond (bit (valid_at d f) o) (get_or m.bspace (f * sz.K + o) filler) (flash_page chip filler m (b * sz.K + o))

  -- the merged pages stand in the frame's own stretch of b-space, and all K are programmed
  unfoldable pub rewritten_pages : Sizes → Directory → Memory C A → ℕ → ℕ → Memory C A
  rewritten_pages sz d m b f = record {
    flash = programmed chip filler sz m.flash b (merged sz d m b f);
    pspace = m.pspace;
    bspace = tab (sz.B * sz.K) (λ k. cond (eqb (k / sz.K) f) (merged sz d m b f (k % sz.K)) (get_or m.bspace k filler));
  }

-- ---- the read, the flush step, the write

-- a read by way 2 is a hit of the frame
unfoldable pub read_directory : Sizes → Directory → ℕ → Directory
read_directory sz d n = elim (eqb (read_way sz d n) 2) [ true ↦ touched sz false d (frame_with sz d n) | false ↦ d ]

-- the block's pages in slots join its frame, and the frame is rewritten and vacated; the order of use does not change
unfoldable pub stepped : Sizes → Directory → Due → Directory
stepped sz d clean = d
stepped sz d (due b f) = vacated (joined sz d b f) f

-- request A2: way 7 begins as a flush step of the frame's block does
unfoldable pub written : Sizes → Directory → ℕ → Plan → Directory
written sz d n (slot_hit i) = d
written sz d n (frame_hit f) = touched sz false d f
written sz d n (free_slot i) = put_slot d i n
written sz d n (join v f) = entered sz (touched sz false (joined sz d v f) f) n
written sz d n (fill v f) = entered sz (touched sz true (joined sz d v f) f) n
written sz d n (exchange v f) = entered sz (touched sz true (exchanged sz d v f) f) n
written sz d n (evict v f) = entered sz (touched sz true (joined sz (stepped sz d (due (frame_at d f) f)) v f) f) n

-- the merge reads of a write: way 7 counts them after the block's pages in slots have joined the frame
abbrev pub merged_by : Sizes → Directory → Plan → ℕ
merged_by sz d (slot_hit i) = 0
merged_by sz d (frame_hit f) = 0
merged_by sz d (free_slot i) = 0
merged_by sz d (join v f) = 0
merged_by sz d (fill v f) = 0
merged_by sz d (exchange v f) = 0
merged_by sz d (evict v f) = merge_reads sz (joined sz d (frame_at d f) f) f

module _ {C A : Type 0} (chip : Chip C A) (filler : A) where
  -- the page that a reader is given
  unfoldable pub read_page : Sizes → Directory → Memory C A → ℕ → A
  read_page sz d m n = elim (in_slots sz d n) [
    | true ↦ get_or m.pspace (slot_of sz d n) filler
    | false ↦ elim (ltb (frame_with sz d n) sz.B) [
      | true ↦ get_or m.bspace (frame_with sz d n * sz.K + n % sz.K) filler
      | false ↦ flash_page chip filler m n
    ]
  ]

  unfoldable pub stepped_pages : Sizes → Directory → Memory C A → Due → Memory C A
  stepped_pages sz d m clean = m
  stepped_pages sz d m (due b f) = rewritten_pages chip filler sz (joined sz d b f) (joined_pages filler sz d m b f) b f

  unfoldable pub written_pages : Sizes → Directory → Memory C A → ℕ → A → Plan → Memory C A
  written_pages sz d m n x (slot_hit i) = put_slot_page m i x
  written_pages sz d m n x (frame_hit f) = put_frame_page m (f * sz.K + n % sz.K) x
  written_pages sz d m n x (free_slot i) = put_slot_page m i x
  written_pages sz d m n x (join v f) = put_slot_page (joined_pages filler sz d m v f) (slot_of sz (joined sz d v f) vacant) x
  written_pages sz d m n x (fill v f) = put_slot_page (joined_pages filler sz d m v f) (slot_of sz (joined sz d v f) vacant) x
  written_pages sz d m n x (exchange v f) = put_slot_page (exchanged_pages filler sz d m v f) (slot_of sz (exchanged sz d v f) vacant) x
  written_pages sz d m n x (evict v f) =
      let e = stepped sz d (due (frame_at d f) f) in
      put_slot_page (joined_pages filler sz e (stepped_pages sz d m (due (frame_at d f) f)) v f) (slot_of sz (joined sz e v f) vacant) x
