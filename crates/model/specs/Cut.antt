-- Request A12: a call that is cut off after so many chip operations. The record is lost; p-space and b-space are left free. What is left
-- is flash and wear, which is counted with the erasure.
use Rattle.std.specs.Prelude.{◌≡◌, ◌⊎◌, true, false, cond, List, ℕ, zero, suc, ◌-◌, ◌*◌, ◌/◌, ◌<◌, leb, ltb, get_or}
use Rattle.model.specs.Sizes.{Sizes}
use Rattle.model.specs.Directory.{Directory, frame_at}
use Rattle.model.specs.Policy.{Choice, Plan, slot_hit, frame_hit, free_slot, join, fill, exchange, evict, plan, Due, clean, due, due_of}
use Rattle.model.specs.Moves.{Chip, Memory, cell_at, programmed_to, worn_by, joined, joined_pages, merged, stepped, stepped_pages}
use Rattle.model.specs.Calls.{Call, read, write, part, step, flush, State, Page, no_bytes}

-- flash and wear
pub record Left (C : Type 0) : Type 0 where
  pub flash : List C
  pub wear : List ℕ

module _ {C A : Type 0} (chip : Chip C A) (filler : A) (sz : Sizes) where
  -- a rewrite of block b through frame f, after ops of its operations
  unfoldable pub cut_rewrite : ℕ → Directory → List ℕ → Memory C A → ℕ → ℕ → Left C
  cut_rewrite ops d w m b f = record {
    flash = programmed_to chip filler ops sz m.flash b (merged chip filler sz (joined sz d b f) (joined_pages filler sz d m b f) b f);
    wear = cond (ltb 0 ops) (worn_by w b) w;
  }

  unfoldable pub cut_step : ℕ → Directory → List ℕ → Memory C A → Due → Left C
  cut_step ops d w m clean = record { flash = m.flash; wear = w }
  cut_step ops d w m (due b f) = cut_rewrite ops d w m b f

  unfoldable pub cut_write : ℕ → Directory → List ℕ → Memory C A → Plan → Left C
  cut_write ops d w m (slot_hit i) = record { flash = m.flash; wear = w }
  cut_write ops d w m (frame_hit f) = record { flash = m.flash; wear = w }
  cut_write ops d w m (free_slot i) = record { flash = m.flash; wear = w }
  cut_write ops d w m (join v f) = record { flash = m.flash; wear = w }
  cut_write ops d w m (fill v f) = record { flash = m.flash; wear = w }
  cut_write ops d w m (exchange v f) = record { flash = m.flash; wear = w }
  cut_write ops d w m (evict v f) = cut_rewrite ops d w m (frame_at d f) f

  -- steps until clean, at most c of them, K+1 operations each
  unfoldable pub cut_steps : Choice → ℕ → ℕ → Directory → List ℕ → Memory C A → Left C
  cut_steps pick zero ops d w m = record { flash = m.flash; wear = w }
  cut_steps pick (suc c) ops d w m = elim (due_of pick sz d) [
    | clean ↦ record { flash = m.flash; wear = w }
    | due b f ↦ elim (leb ops sz.K) [
      | true ↦ cut_rewrite ops d w m b f
      | false ↦ cut_steps pick c (ops - suc sz.K) (stepped sz d (due b f)) (worn_by w b) (stepped_pages chip filler sz d m (due b f))
    ]
  ]

-- an accepted call, after ops of its operations
module _ {C : Type 0} (chip : Chip C Page) (filler : Page) (pick : Choice) (sz : Sizes) where
  unfoldable pub cut_call : ℕ → State → Memory C Page → Call Page → Left C
  cut_call ops k m (read n x) = record { flash = m.flash; wear = k.wear }
  cut_call ops k m (write n x) = cut_write chip filler sz ops k.directory k.wear m (plan pick sz k.directory k.wear n)
  cut_call ops k m (part n first x page) = elim (no_bytes x) [
    | true ↦ record { flash = m.flash; wear = k.wear }
    | false ↦ cut_write chip filler sz ops k.directory k.wear m (plan pick sz k.directory k.wear n)
  ]
  cut_call ops k m step = cut_step chip filler sz ops k.directory k.wear m (due_of pick sz k.directory)
  cut_call ops k m flush = cut_steps chip filler sz pick sz.N ops k.directory k.wear m

-- how many operations are enough for the whole call
abbrev pub operations : Sizes → Call Page → ℕ
operations sz (read n x) = 0
operations sz (write n x) = suc sz.K
operations sz (part n first x page) = suc sz.K
operations sz step = suc sz.K
operations sz flush = sz.N * suc sz.K

-- ---- what is left

-- l before the call, l₁ after the whole call, l' after the cut
module _ {C A : Type 0} (chip : Chip C A) (filler : A) (sz : Sizes) (l l₁ l' : Left C) where
  -- block b is as in l₀, cell by cell, and its wear
  abbrev pub BlockAs : Left C → ℕ → Type 0
  BlockAs l₀ b = ((n : ℕ) → n < sz.N * sz.K → n / sz.K ≡ b → cell_at chip filler l'.flash n ≡ cell_at chip filler l₀.flash n)
      × (get_or l'.wear b 0 ≡ get_or l₀.wear b 0)

  -- each cell of block b is as after the whole call or erased, and the wear is as after the whole call
  abbrev pub UnderWay : ℕ → Type 0
  UnderWay b = ((n : ℕ) → n < sz.N * sz.K → n / sz.K ≡ b → (cell_at chip filler l'.flash n ≡ cell_at chip filler l₁.flash n)
      ⊎ (cell_at chip filler l'.flash n ≡ chip.erased)) × (get_or l'.wear b 0 ≡ get_or l₁.wear b 0)

  pub record CutShort : Type 0 where
    -- the block under way
    pub under : ℕ
    -- every other block is as before the call, or as after its own rewrite in the call, and so is its wear
    pub others : (b : ℕ) → b < sz.N → (b ≡ under → ⊥) → BlockAs l b ⊎ BlockAs l₁ b
    -- before its erasure the block under way is the old block; from then on its wear is counted, and each cell is erased or as after its
    -- rewrite
    pub in_under : BlockAs l under ⊎ UnderWay under
