-- A script walked line by line.
use Rattle.std.specs.Prelude.{cond, Option, None, Some, List, ℕ, ◌+◌, ltb, length, drop}
use Rattle.script.specs.Forms.{Form, form_of}
use Rattle.script.specs.View.{meant}
use Rattle.script.specs.Parts.{up_to, end_of}
use Rattle.script.specs.declared.reader.Item as code

-- a line's form with its line number, and the place of the next line; or the end
pub data Item : Type 0 where
  line : Form → ℕ → ℕ → Item
  end : Item

-- the code's item as such
abbrev pub item_of : Option code.Item → Item
item_of (Some i) = line (meant i.form) i.line i.next
item_of None = end

-- what stands at a place of a script, of line number n
unfoldable pub item_at : List ℕ → ℕ → ℕ → Item
item_at script at n = cond (ltb at (length script)) (line (form_of (up_to 10 (drop at script))) n (end_of 10 script at + 1)) end
