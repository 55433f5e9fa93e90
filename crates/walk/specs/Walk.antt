-- A script walked line by line, and what is printed by the way.
use Rattle.std.specs.Prelude.{◌≡◌, List, ◌++◌, ℕ, ◌+◌, ◌≤◌, ◌<◌, length, take}
use Rattle.model.specs.Shelf.{ShelfStore}
use Rattle.store.specs.View.{Lent}
use Rattle.print.specs.Print.{line_room, wear_room}
use Rattle.cache.specs.View.{sizes_of}
use Rattle.store.specs.View.{store_of}
use Rattle.interpret.specs.Lines.{rest, output_of}
use Rattle.interpret.specs.View.{Held, front}
use Rattle.walk.specs.declared.Walk.{Walk}

-- the store in use: the walk's record, with its buffers at the front of the memory
abbrev pub inUse : Walk → Lent → ShelfStore
inUse w m = store_of w.cache (front (sizes_of w.cache.sizes) m.below.flash m.below.wear m.below.pspace m.below.bspace)

-- what is printed, and after it what is left to print
abbrev pub printing : List ℕ → Walk → Lent → List ℕ → List ℕ
printing script w m out = take w.printed out ++ rest script (inUse w m) w.at w.number

-- what holds before and after each line
pub record Ready (script : List ℕ) (w : Walk) (out : List ℕ) : Type 0 where
  pub held : Held (sizes_of w.cache.sizes)
  pub short : w.at < length script → length script ≤ 32768
  pub number-le : w.number ≤ w.at + 1
  pub printed-le : w.printed ≤ length out

-- there is a line, and room for it
pub record More (script : List ℕ) (w : Walk) (out : List ℕ) : Type 0 where
  pub line : w.at < length script
  pub room : w.printed + wear_room 4096 ≤ length out

-- at the start: what is printed and what is left is the program's output, whatever the memory holds
pub record Started (script : List ℕ) (w : Walk) (out : List ℕ) : Type 0 where
  pub output : (m : Lent) → printing script w m out ≡ output_of script
  pub ready : Ready script w out
  pub within : w.printed ≤ line_room

-- from w to r: what was left to print and no longer is, is printed
pub record Onward (script : List ℕ) (w : Walk) (m : Lent) (out : List ℕ) (r : Walk) (m' : Lent) (out' : List ℕ) : Type 0 where
  pub output : printing script r m' out' ≡ printing script w m out
  pub ready : Ready script r out'
  pub from : w.at ≤ r.at

-- the first n bytes of out are those of o: all of them, unless less room is left than a line may need
pub record Output (o out : List ℕ) (n : ℕ) : Type 0 where
  pub within : n ≤ length out
  pub first : take n out ≡ take n o
  pub whole : n + wear_room 4096 ≤ length out → n ≡ length o
