-- The rules of document 01 said a second time. Part 3: reading, writing, flushing: which rule applies, which slot, block and frame. A law
-- says which plan follows where the paper's condition holds of this slot or frame. `pick` is any choice among the frames that a rule leaves
-- open; `policy_choice` is the store's, by request A5.
use Rattle.std.specs.Prelude.{◌≡◌, Bool, true, List, ℕ, ◌*◌, ◌≤◌, ◌<◌, get_or}
use Rattle.model.specs.Sizes.{Sizes}
use Rattle.model.specs.Directory.{Directory, slot_at, frame_at, recency_at, uses_at}
use Rattle.model.specs.Soundness.{sound}
use Rattle.model.specs.Policy.{Choice, policy_choice, plan, way_of, slot_hit, frame_hit, free_slot, join, fill, exchange, evict, clean}
use Rattle.model.specs.Policy.{due}
use Rattle.model.specs.Policy.{due_of, cached, lowest_worn}
use Rattle.model.specs.Lists.{Picks}
use Rattle.model.specs.RulesWords.{◌⇔◌, InSlot, ValidIn, Uncached, FirstVacant, FirstVacantFrame, OfBlock, pages_in_slots, valid_pages}
use Rattle.model.specs.RulesWords.{Cached, Evicts, Crowded, Unworn}

-- ---- write n: the first rule that applies

-- Way 1: in a slot, overwrite.
abbrev pub Way1Rule : Type 0
Way1Rule = (pick : Choice) (sz : Sizes) (d : Directory) (w : List ℕ) (n : ℕ) → sound sz d ≡ true → n < sz.N * sz.K
    → (i : ℕ) → i < sz.P → slot_at d i ≡ n → plan pick sz d w n ≡ slot_hit i

-- Way 2: valid in a frame, overwrite.
abbrev pub Way2Rule : Type 0
Way2Rule = (pick : Choice) (sz : Sizes) (d : Directory) (w : List ℕ) (n : ℕ) → sound sz d ≡ true → n < sz.N * sz.K
    → (InSlot sz d n → ⊥) → (f : ℕ) → f < sz.B → ValidIn sz d f n → plan pick sz d w n ≡ frame_hit f

-- Way 3: into the first vacant slot.
abbrev pub Way3Rule : Type 0
Way3Rule = (pick : Choice) (sz : Sizes) (d : Directory) (w : List ℕ) (n : ℕ) → sound sz d ≡ true
    → Uncached sz d n → (i : ℕ) → FirstVacant sz d i → plan pick sz d w n ≡ free_slot i

-- Otherwise the victim v is the block with the most pages in slots, among equals the lowest block number. There is one.
abbrev pub VictimRule : Type 0
VictimRule = (sz : Sizes) (d : Directory) (n : ℕ) → sound sz d ≡ true → Uncached sz d n
    → ((i : ℕ) → i < sz.P → slot_at d i ≡ 4294967295 → ⊥) → (v : ℕ) × Evicts sz d n v

-- Way 4: the victim block has a frame; its pages join it.
abbrev pub Way4Rule : Type 0
Way4Rule = (pick : Choice) (sz : Sizes) (d : Directory) (w : List ℕ) (n v : ℕ) → sound sz d ≡ true
    → Evicts sz d n v → (f : ℕ) → f < sz.B → frame_at d f ≡ v → plan pick sz d w n ≡ join v f

-- Way 5: they fill the first vacant frame.
abbrev pub Way5Rule : Type 0
Way5Rule = (pick : Choice) (sz : Sizes) (d : Directory) (w : List ℕ) (n v : ℕ) → sound sz d ≡ true
    → Evicts sz d n v → ((f : ℕ) → f < sz.B → frame_at d f ≡ v → ⊥)
    → (f : ℕ) → FirstVacantFrame sz d f → plan pick sz d w n ≡ fill v f

-- ---- which of several frames (request A5)

-- Of the frames that a rule leaves open the one at place i in the order of use is taken. Under LRU and FIFO none before it is open. Under
-- LFU, policy 2, no open one has fewer uses, and each open one before it has more.
pub record Takes (sz : Sizes) (d : Directory) (Open : ℕ → Type 0) (i : ℕ) : Type 0 where
  pub place_in : i < sz.B
  pub is_open : Open (recency_at d i)
  pub first : (sz.policy ≡ 2 → ⊥) → (j : ℕ) → j < i → Open (recency_at d j) → ⊥
  pub fewest : sz.policy ≡ 2 → (g : ℕ) → g < sz.B → Open g → uses_at d (recency_at d i) ≤ uses_at d g
  pub fewer : sz.policy ≡ 2 → (j : ℕ) → j < i → Open (recency_at d j) → uses_at d (recency_at d i) < uses_at d (recency_at d j)

-- The store's choice is that frame,
abbrev pub ChoiceRule : Type 0
ChoiceRule = (sz : Sizes) (d : Directory) → sound sz d ≡ true → (test : ℕ → Bool) (i : ℕ)
    → Takes sz d (λ f. test f ≡ true) i → policy_choice sz d test ≡ recency_at d i

-- and where a frame is open there is one to take.
abbrev pub ChoiceSomeRule : Type 0
ChoiceSomeRule = (sz : Sizes) (d : Directory) → sound sz d ≡ true → (test : ℕ → Bool) (f : ℕ) → f < sz.B → test f ≡ true
    → (i : ℕ) × Takes sz d (λ g. test g ≡ true) i

-- ---- ways 6 and 7

-- frame f has the fewest pages valid
abbrev pub FewestPages : Sizes → Directory → ℕ → Type 0
FewestPages sz d f = (g : ℕ) → g < sz.B → valid_pages d f ≤ valid_pages d g

-- Way 6: some frame has fewer than v's pages valid. Take the fewest, and among equals by the policy.
abbrev pub Way6Rule : Type 0
Way6Rule = (sz : Sizes) (d : Directory) (w : List ℕ) (n v : ℕ) → sound sz d ≡ true → Crowded sz d n v
    → (i : ℕ) → Takes sz d (FewestPages sz d) i → valid_pages d (recency_at d i) < pages_in_slots sz d v
    → plan policy_choice sz d w n ≡ exchange v (recency_at d i)

-- Way 7: no frame has fewer. By request A4 it takes, by the policy, a frame whose block has wear below W.
abbrev pub Way7Rule : Type 0
Way7Rule = (sz : Sizes) (d : Directory) (w : List ℕ) (n v : ℕ) → sound sz d ≡ true → Crowded sz d n v
    → ((f : ℕ) → f < sz.B → pages_in_slots sz d v ≤ valid_pages d f)
    → (i : ℕ) → Takes sz d (Unworn sz d w) i → plan policy_choice sz d w n ≡ evict v (recency_at d i)

-- Where all frames hold worn blocks it is the one that the policy would take of all, whose block refusal 6 names.
abbrev pub Way7WornRule : Type 0
Way7WornRule = (sz : Sizes) (d : Directory) (w : List ℕ) (n v : ℕ) → sound sz d ≡ true → Crowded sz d n v
    → ((f : ℕ) → f < sz.B → pages_in_slots sz d v ≤ valid_pages d f) → ((f : ℕ) → f < sz.B → Unworn sz d w f → ⊥)
    → (i : ℕ) → Takes sz d (λ f. f < sz.B) i → plan policy_choice sz d w n ≡ evict v (recency_at d i)

-- ---- the same for an arbitrary choice among the frames that a rule leaves open

-- Way 6 takes one of the frames with the fewest valid pages.
abbrev pub Way6AnyRule : Type 0
Way6AnyRule = (pick : Choice) → Picks pick → (sz : Sizes) (d : Directory) (w : List ℕ) (n v : ℕ) → sound sz d ≡ true → Crowded sz d n v
    → (g : ℕ) → g < sz.B → valid_pages d g < pages_in_slots sz d v
    → (f : ℕ) × (f < sz.B) × ((h : ℕ) → h < sz.B → valid_pages d f ≤ valid_pages d h) × (plan pick sz d w n ≡ exchange v f)

-- Way 7 takes one whose block has wear below W, where there is one;
abbrev pub Way7AnyRule : Type 0
Way7AnyRule = (pick : Choice) → Picks pick → (sz : Sizes) (d : Directory) (w : List ℕ) (n v : ℕ) → sound sz d ≡ true → Crowded sz d n v
    → ((f : ℕ) → f < sz.B → pages_in_slots sz d v ≤ valid_pages d f) → (g : ℕ) → g < sz.B → Unworn sz d w g
    → (f : ℕ) × (f < sz.B) × Unworn sz d w f × (plan pick sz d w n ≡ evict v f)

-- where there is none, any frame.
abbrev pub Way7AnyWornRule : Type 0
Way7AnyWornRule = (pick : Choice) → Picks pick → (sz : Sizes) (d : Directory) (w : List ℕ) (n v : ℕ) → sound sz d ≡ true → Crowded sz d n v
    → ((f : ℕ) → f < sz.B → pages_in_slots sz d v ≤ valid_pages d f) → ((f : ℕ) → f < sz.B → Unworn sz d w f → ⊥)
    → (f : ℕ) × (f < sz.B) × (plan pick sz d w n ≡ evict v f)

-- ---- the seven ways leave no case out

-- Which way a write of n takes, by the paper's conditions: the way is k exactly where its condition holds.
pub record WayIs (sz : Sizes) (d : Directory) (n k : ℕ) : Type 0 where
  pub some-way : (1 ≤ k) × (k ≤ 7)
  pub in_slot : (k ≡ 1) ⇔ InSlot sz d n
  pub in_frame : (k ≡ 2) ⇔ ((InSlot sz d n → ⊥) × ((f : ℕ) × (f < sz.B) × ValidIn sz d f n))
  pub vacant-slot : (k ≡ 3) ⇔ (Uncached sz d n × ((i : ℕ) × FirstVacant sz d i))
  pub own-frame : (k ≡ 4) ⇔ ((v : ℕ) × Evicts sz d n v × ((f : ℕ) × (f < sz.B) × (frame_at d f ≡ v)))
  pub vacant-frame : (k ≡ 5)
      ⇔ ((v : ℕ) × Evicts sz d n v × ((f : ℕ) → f < sz.B → frame_at d f ≡ v → ⊥) × ((f : ℕ) × FirstVacantFrame sz d f))
  pub fewer : (k ≡ 6) ⇔ ((v : ℕ) × Crowded sz d n v × ((f : ℕ) × (f < sz.B) × (valid_pages d f < pages_in_slots sz d v)))
  pub no-fewer : (k ≡ 7) ⇔ ((v : ℕ) × Crowded sz d n v × ((f : ℕ) → f < sz.B → pages_in_slots sz d v ≤ valid_pages d f))

-- Every write of a page below N×K on a sound record takes one of the ways 1 to 7, the one whose condition holds, whatever the choice
-- and the wear.
abbrev pub WaysRule : Type 0
WaysRule = (pick : Choice) (sz : Sizes) (d : Directory) (w : List ℕ) (n : ℕ) → sound sz d ≡ true → n < sz.N * sz.K
    → WayIs sz d n (way_of (plan pick sz d w n))

-- ---- a flush step

-- A flush step takes an occupied frame by the policy, whatever the wear,
abbrev pub StepFrameRule : Type 0
StepFrameRule = (sz : Sizes) (d : Directory) → sound sz d ≡ true → (i : ℕ) → Takes sz d (λ f. frame_at d f ≡ 4294967295 → ⊥) i
    → due_of policy_choice sz d ≡ due (frame_at d (recency_at d i)) (recency_at d i)

-- an arbitrary choice one of the occupied ones;
abbrev pub StepAnyRule : Type 0
StepAnyRule = (pick : Choice) → Picks pick → (sz : Sizes) (d : Directory) → sound sz d ≡ true
    → (g : ℕ) → g < sz.B → (frame_at d g ≡ 4294967295 → ⊥)
    → (f : ℕ) × (f < sz.B) × (frame_at d f ≡ 4294967295 → ⊥) × (due_of pick sz d ≡ due (frame_at d f) f)

-- with no occupied frame it takes the lowest block that has pages in slots, through frame 0,
abbrev pub StepSlotsRule : Type 0
StepSlotsRule = (pick : Choice) (sz : Sizes) (d : Directory) → sound sz d ≡ true → ((f : ℕ) → f < sz.B → frame_at d f ≡ 4294967295)
    → (b : ℕ) → b < sz.N → (i : ℕ) → i < sz.P → OfBlock sz d b i
    → ((c j : ℕ) → c < b → j < sz.P → OfBlock sz d c j → ⊥) → due_of pick sz d ≡ due b 0

-- and with nothing cached it answers "clean".
abbrev pub StepCleanRule : Type 0
StepCleanRule = (pick : Choice) (sz : Sizes) (d : Directory) → sound sz d ≡ true → ((f : ℕ) → f < sz.B → frame_at d f ≡ 4294967295)
    → ((i : ℕ) → i < sz.P → slot_at d i ≡ 4294967295) → due_of pick sz d ≡ clean

-- ---- what is cached, and which block a flush names

-- A block is cached where a slot holds a page of it or a frame holds it.
abbrev pub CachedRule : Type 0
CachedRule = (sz : Sizes) (d : Directory) → sound sz d ≡ true → (b : ℕ) → b < sz.N → (cached sz d b ≡ true) ⇔ Cached sz d b

-- A flush names the lowest worn block that is cached,
abbrev pub FlushNamesRule : Type 0
FlushNamesRule = (sz : Sizes) (d : Directory) → sound sz d ≡ true → (w : List ℕ) (b : ℕ) → b < sz.N → Cached sz d b → sz.W ≤ get_or w b 0
    → ((c : ℕ) → c < b → Cached sz d c → get_or w c 0 < sz.W) → lowest_worn sz d w ≡ b

-- and none where no cached block is worn.
abbrev pub FlushFreeRule : Type 0
FlushFreeRule = (sz : Sizes) (d : Directory) → sound sz d ≡ true → (w : List ℕ)
    → ((c : ℕ) → c < sz.N → Cached sz d c → get_or w c 0 < sz.W) → sz.N ≤ lowest_worn sz d w
