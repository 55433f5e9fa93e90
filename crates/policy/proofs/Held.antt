-- An entry that is occupied, and what code reads there.
use mathlib.Core.Path.{◌≡◌, sym, ap, ◌∙◌}
use mathlib.Core.Logic.{◌⊎◌, inl, inr}
use native.Mathlib.Omega.{arith}
use native.Mathlib.Nat.{mul-le-mul}
use Prim.Native.Nat.{ℕ, ◌*◌, ◌/◌, ◌≤◌, ◌<◌}
use lib.ListN.{get_or, take}
use Rattle.std.proofs.lemmas.List.{get_or-take}
use Rattle.prelude.specs.Scan.{count}
use Rattle.prelude.specs.Bits.{bit}
use Rattle.address.specs.declared.PageNo.{PageNo}
use Rattle.address.specs.declared.BlockNo.{BlockNo}
use Rattle.address.specs.Address.{block_of}
use Rattle.model.specs.Sizes.{Sizes, vacant}
use Rattle.model.specs.Directory as model
use Rattle.model.specs.Directory.{slot_at, frame_at, valid_at}
use Rattle.model.specs.Policy.{valid_count}
use Rattle.model.proofs.Plan.{slot-block, slot-vacant, frame-block, valid-ones}
use Rattle.cache.specs.declared.Sizes as code
use Rattle.cache.specs.declared.Directory.{Directory}
use Rattle.cache.specs.View.{page_no, block_no, sizes_of, directory_of}
use Rattle.cache.proofs.View.{slot-of, frame-of}
use Rattle.policy.specs.Views.{SlotsOf, FramesOf, ValidOf}

module _ (sz : Sizes) (d : model.Directory) (i : ℕ) where
  slot_in : SlotsOf sz d.slots → i < sz.P → (slot_at d i ≡ vacant) ⊎ (slot_at d i < sz.N * sz.K)
  slot_in s l = s.sound.entries.slot-in i l

  pub page_lt : SlotsOf sz d.slots → i < sz.P → slot_at d i < vacant → slot_at d i < 262144
  page_lt s l h =
      let most : sz.N * sz.K ≤ 4096 * 64 = mul-le-mul s.sound.limits.N_high s.sound.limits.K_high in
      elim (slot_in s l) [ inl v ↦ absurd (omega arith) | inr v ↦ omega arith ]

  pub held_lt : SlotsOf sz d.slots → i < sz.P → slot_at d i < vacant → slot_at d i / sz.K < sz.N
  held_lt s l h = slot-block sz _ s.sound i l h

  pub held_vacant : SlotsOf sz d.slots → i < sz.P → vacant ≤ slot_at d i → slot_at d i ≡ vacant
  held_vacant s l h = slot-vacant sz _ s.sound i l h

  pub frame_lt : FramesOf sz d.frames → i < sz.B → frame_at d i < vacant → frame_at d i < sz.N
  frame_lt s l h = frame-block sz _ s.sound i l h

  -- a valid set has no bit at K or above
  pub valid_ones : ValidOf sz d.valid → i < sz.B → valid_count sz d i ≡ count 64 (bit (valid_at d i))
  unfolding valid_count
  valid_ones s l = sym (valid-ones sz _ s.sound i l)

-- ---- what a loop over the entries in use reads

module _ (d : Directory) (n i : ℕ) (l : i < n) where
  pub slot_read : (get_or (take n d.slots) i (page_no 0)).0 ≡ slot_at (directory_of d) i
  slot_read = ap (λ (x : PageNo). x.0) (get_or-take n d.slots i (page_no 0) l) ∙ sym (slot-of d i)

  pub frame_read : (get_or (take n d.frames) i (block_no 0)).0 ≡ frame_at (directory_of d) i
  frame_read = ap (λ (x : BlockNo). x.0) (get_or-take n d.frames i (block_no 0) l) ∙ sym (frame-of d i)

  pub valid_read : get_or (take n d.valid) i 0 ≡ valid_at (directory_of d) i
  unfolding directory_of
  valid_read = get_or-take n d.valid i 0 l

-- the slot at hand holds a page of block b
pub held : (z : code.Sizes) (d : Directory) → SlotsOf (sizes_of z) (directory_of d).slots → (i : ℕ) (b : BlockNo) → i < z.slots
    → (get_or (take z.slots d.slots) i (page_no 0)).0 < vacant
    → b ≡ block_of (get_or (take z.slots d.slots) i (page_no 0)) z.pages_per_block
    → (slot_at (directory_of d) i < vacant) × (slot_at (directory_of d) i / z.pages_per_block ≡ b.0) × (b.0 < z.blocks)
held z d s i b l h e =
    let at = slot_read d z.slots i l in
    let page = rw at at h in
    let own = rw at at (sym (ap (λ (x : BlockNo). x.0) e)) in
    (page, own, rw own at (held_lt (sizes_of z) (directory_of d) i s l page))

-- for a loop over the slots in use
pub ruleset pages = (page_lt, held_lt, slot_read)

-- over the frames
pub ruleset frames = (frame_lt, frame_read)

pub ruleset valids = (valid_ones, valid_read)
