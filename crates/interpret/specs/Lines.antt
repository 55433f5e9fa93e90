-- What the lines of a script do, and what the script program prints.
use Rattle.std.specs.Prelude.{cond, List, [], ◌∷◌, ◌++◌, ℕ, ◌+◌, ltb, length, drop}
use Rattle.model.specs.Sizes.{Sizes, sizes_ok}
use Rattle.model.specs.Directory.{blank_cache}
use Rattle.model.specs.Shelf.{no_entries, ShelfStore}
use Rattle.print.specs.Print.{wear_line, bad_line}
use Rattle.script.specs.Forms.{Form, opens, writes, reads, steps, flushes, wears, bad, lines_of, form_of}
use Rattle.store.specs.View.{plain_lent}
use Rattle.perform.specs.Effects.{Effect, opened, written, was_read, stepped, flushed, only}

-- ---- a line

-- what the line of number i does
abbrev pub carried : ShelfStore → Form → ℕ → Effect
carried s (opens sz) i = opened s sz
carried s (writes n b) i = written s n b
carried s (reads n) i = was_read s n
carried s steps i = stepped s
carried s flushes i = flushed s
carried s wears i = only s (wear_line s.store.lent.wear)
carried s bad i = only s (bad_line i)

-- the sizes of the record after a line: an accepted opening sets them
abbrev pub sizes_after : Sizes → Form → Sizes
sizes_after old (opens sz) = cond (sizes_ok sz) sz old
sizes_after old (writes n b) = old
sizes_after old (reads n) = old
sizes_after old steps = old
sizes_after old flushes = old
sizes_after old wears = old
sizes_after old bad = old

-- ---- the program

-- before an opening: the blank record, and no buffers
abbrev pub blank_store : ShelfStore
blank_store = record {
  store = record { cache = blank_cache; lent = (plain_lent [] [] [] []).below };
  entries = no_entries;
  shelf = [];
}

-- what is printed for the lines ls, of which the first has number i
unfoldable pub printed_by : ShelfStore → ℕ → List (List ℕ) → List ℕ
printed_by s i [] = []
printed_by s i (l ∷ ls) = (carried s (form_of l) i).printed ++ printed_by (carried s (form_of l) i).store (i + 1) ls

-- input over 32,768 bytes prints only (bad 0)
unfoldable pub output_of : List ℕ → List ℕ
output_of script = cond (ltb 32768 (length script)) (bad_line 0) (printed_by blank_store 1 (lines_of script))

-- what is left to print at a place of a script, of line number i
abbrev pub rest : List ℕ → ShelfStore → ℕ → ℕ → List ℕ
rest script s at i = printed_by s i (lines_of (drop at script))
