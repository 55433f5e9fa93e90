-- What a call of the inner crates asks and leaves. A primed value is the one afterwards.
use Rattle.std.specs.Prelude.{◌≡◌, true, cond, List, ℕ}
use Rattle.model.specs.Sizes.{Sizes}
use Rattle.model.specs.Directory.{Directory}
use Rattle.model.specs.Soundness.{Sound}
use Rattle.model.specs.Moves.{Memory}
use Rattle.model.specs.Formats.{store_format}
use Rattle.model.specs.Calls.{Answer, is_refused, Outcome, Page, Cell, Buffers, Fits, flash_cells}
use Rattle.model.specs.Cut.{Left}

abbrev pub buffers : List ℕ → List ℕ → List ℕ → List ℕ → List ℕ → List ℕ → Buffers
buffers flash codes marks wear pspace bspace = record {
  flash = flash;
  codes = codes;
  marks = marks;
  wear = wear;
  pspace = pspace;
  bspace = bspace;
}

-- a sound directory, and buffers in their sizes
pub record Ready (sz : Sizes) (d : Directory) (u : Buffers) : Type 0 where
  pub sound : Sound sz d
  pub fits : Fits store_format sz u

-- the call did what outcome o says, with so many mends: pages m stay where it is refused, and become m₁ where it is accepted
pub record Carried (o : Outcome) (mends : ℕ) (m m₁ : Memory Cell Page) (answer : Answer) (mended : ℕ) (d' : Directory) (w' : List ℕ)
    (m' : Memory Cell Page) : Type 0 where
  pub answer-is : answer ≡ o.answer
  pub mends-are : mended ≡ cond (is_refused o.answer) 0 mends
  pub directory-is : d' ≡ o.state.directory
  pub wear-is : w' ≡ o.state.wear
  pub pages-are : m' ≡ cond (is_refused o.answer) m m₁

-- flash and wear, which a cut leaves
abbrev pub left_of : Sizes → Buffers → Left Cell
left_of sz u = record { flash = flash_cells store_format sz u; wear = u.wear }

-- The same of a call that may do so many operations of the chip and no more: where they are enough, or it is refused, it did all that
-- outcome o says, and else flash and wear are l₁.
pub record CarriedTo (enough : Type 0) (o : Outcome) (mends : ℕ) (l l₁ : Left Cell) (m m₁ : Memory Cell Page) (answer : Answer) (mended : ℕ)
    (d' : Directory) (l' : Left Cell) (m' : Memory Cell Page) : Type 0 where
  pub refused-is : is_refused answer ≡ is_refused o.answer
  pub left_is : l' ≡ cond (is_refused o.answer) l l₁
  pub whole : enough → Carried o mends m m₁ answer mended d' l'.wear m'
  pub down : is_refused o.answer ≡ true → Carried o mends m m₁ answer mended d' l'.wear m'
