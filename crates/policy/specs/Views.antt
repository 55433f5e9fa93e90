-- The code's decisions as the model has them, and what a search asks.
use Rattle.std.specs.Prelude.{◌≡◌, true, cond, ◌&&◌, List, ℕ, ◌-◌, ◌*◌, ◌≤◌, ◌<◌, leb, ltb, length, get_or, Option, Some, None}
use Rattle.prelude.specs.Scan.{first}
use Rattle.prelude.specs.Bits.{bit}
use Rattle.model.specs.Sizes.{Sizes, InLimits}
use Rattle.model.specs.Directory.{Directory}
use Rattle.model.specs.Soundness.{Sound, Listed}
use Rattle.model.specs.Policy as model
use Rattle.model.specs.Policy.{frame_of, valid_count, slot_count, policy_choice, victim, slot_hit, frame_hit, free_slot, join}
use Rattle.model.specs.Policy.{fill}
use Rattle.model.specs.Policy.{exchange, evict, clean, due, occupied}
use Rattle.cache.specs.View.{block_no}
use Rattle.policy.specs.declared.choice.Policy.{Policy}
use Rattle.policy.specs.declared.choice.Policy.TheVariants.{Lru, Fifo, Lfu}
use Rattle.policy.specs.declared.decision.Victim.{Victim}
use Rattle.policy.specs.declared.decision.Plan.{Plan}
use Rattle.policy.specs.declared.decision.Plan.TheVariants.{SlotHit, FrameHit, FreeSlot, MakeRoom}
use Rattle.policy.specs.declared.decision.Room.{Room}
use Rattle.policy.specs.declared.decision.Room.TheVariants.{Join, Fill, Exchange, Evict}
use Rattle.policy.specs.declared.decision.Due.{Due}

-- a policy's number in the record
abbrev pub policy_number : Policy → ℕ
policy_number Lru = 0
policy_number Fifo = 1
policy_number Lfu = 2

-- the victim, and how many of its pages stand in slots: none where no slot holds a page
unfoldable pub victim_of : Sizes → Directory → Victim
victim_of sz d = record { block = block_no (victim sz d); pages = slot_count sz d (victim sz d) }

-- a block by its pages and number at once: the more pages the higher, and among equals the lower block
unfoldable pub rank_of : Victim → ℕ
rank_of v = v.pages * 4096 - v.block.0

-- a table to count pages in has a zero for each block
pub record Cleared (sz : Sizes) (l : List ℕ) : Type 0 where
  pub long : sz.N ≤ length l
  pub zeros : (b : ℕ) → b < sz.N → get_or l b 0 ≡ 0

-- the plan of a write, by its ways: 4 to 7
abbrev pub room_of : Room → model.Plan
room_of (Join v f) = join v.0 f
room_of (Fill v f) = fill v.0 f
room_of (Exchange v f) = exchange v.0 f
room_of (Evict v f) = evict v.0 f

-- and all of them
abbrev pub plan_of : Plan → model.Plan
plan_of (SlotHit i) = slot_hit i
plan_of (FrameHit f) = frame_hit f
plan_of (FreeSlot i) = free_slot i
plan_of (MakeRoom r) = room_of r

-- what a flush step is due to do: nothing where nothing is cached
abbrev pub due_view : Option Due → model.Due
due_view None = clean
due_view (Some d) = due d.block.0 d.frame

-- the occupied frame that a step takes by the policy, B where there is none
unfoldable pub step_frame : Sizes → Directory → ℕ
step_frame sz d = cond (ltb (first sz.B (occupied d)) sz.B) (policy_choice sz d (occupied d)) sz.B

-- the lowest worn block with a page in a slot, with a frame; N where there is none
unfoldable pub worn_in_slots : Sizes → Directory → List ℕ → ℕ
worn_in_slots sz d w = first sz.N (λ b. ltb 0 (slot_count sz d b) && leb sz.W (get_or w b 0))

unfoldable pub worn_in_frames : Sizes → Directory → List ℕ → ℕ
worn_in_frames sz d w = first sz.N (λ b. ltb (frame_of sz d b) sz.B && leb sz.W (get_or w b 0))

-- ---- a search asks of the lists that it looks at alone that they are a sound record's: what stands beside them is named, and no more

-- the slots
pub record SlotsOf (sz : Sizes) (s : List ℕ) : Type 0 where
  pub frames : List ℕ
  pub valid : List ℕ
  pub recency : List ℕ
  pub uses : List ℕ
  pub sound : Sound sz (record { slots = s; frames = frames; valid = valid; recency = recency; uses = uses })

-- the frames
pub record FramesOf (sz : Sizes) (f : List ℕ) : Type 0 where
  pub slots : List ℕ
  pub valid : List ℕ
  pub recency : List ℕ
  pub uses : List ℕ
  pub sound : Sound sz (record { slots = slots; frames = f; valid = valid; recency = recency; uses = uses })

-- the valid pages of the frames
pub record ValidOf (sz : Sizes) (v : List ℕ) : Type 0 where
  pub slots : List ℕ
  pub frames : List ℕ
  pub recency : List ℕ
  pub uses : List ℕ
  pub sound : Sound sz (record { slots = slots; frames = frames; valid = v; recency = recency; uses = uses })

-- the slots, the frames, the order of use and the uses
pub record DueOf (sz : Sizes) (s f r u : List ℕ) : Type 0 where
  pub valid : List ℕ
  pub sound : Sound sz (record { slots = s; frames = f; valid = valid; recency = r; uses = u })

-- the valid pages, the order of use and the uses, and some frame has n valid pages
pub record UsesValid (sz : Sizes) (v r u : List ℕ) (n : ℕ) : Type 0 where
  pub slots : List ℕ
  pub frames : List ℕ
  pub sound : Sound sz (record { slots = slots; frames = frames; valid = v; recency = r; uses = u })
  pub frame : ℕ
  pub frame-lt : frame < sz.B
  pub frame_has : valid_count sz (record { slots = slots; frames = frames; valid = v; recency = r; uses = u }) frame ≡ n

-- the frames, the order of use and the uses, no frame is vacant, and there is a wear for each block
pub record UsesOccupied (sz : Sizes) (f r u w : List ℕ) : Type 0 where
  pub slots : List ℕ
  pub valid : List ℕ
  pub sound : Sound sz (record { slots = slots; frames = f; valid = valid; recency = r; uses = u })
  pub wear-length : length w ≡ sz.N
  pub block-lt : (g : ℕ) → g < sz.B → get_or f g 0 < sz.N

-- there is a wear for each block
pub record WithWear (sz : Sizes) (d : Directory) (w : List ℕ) : Type 0 where
  pub sound : Sound sz d
  pub wear-length : length w ≡ sz.N

-- and the slots and the frames are looked at
pub record CachedWorn (sz : Sizes) (s f w : List ℕ) : Type 0 where
  pub valid : List ℕ
  pub recency : List ℕ
  pub uses : List ℕ
  pub with-wear : WithWear sz (record { slots = s; frames = f; valid = valid; recency = recency; uses = uses }) w

-- a set with one of the frames, and an order of them
pub record OpenOf (sz : Sizes) (d : Directory) (set : ℕ) : Type 0 where
  pub limits : InLimits sz
  pub listed : Listed sz d
  pub frame : ℕ
  pub frame-lt : frame < sz.B
  pub frame-open : bit set frame ≡ true
