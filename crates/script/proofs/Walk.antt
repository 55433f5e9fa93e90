-- What stands at a place of a script. The lines that are left there are those of `lines_from` and `lines_none` (Words).
use mathlib.Core.Path.{◌≡◌}
use mathlib.Core.List.{List}
use Prim.Native.Nat.{ℕ, ◌+◌, ◌≤◌, ◌<◌}
use lib.ListN.{length, drop}
use borrow.Author.Tests.{lt-ltb, le-ltb}
use Rattle.script.specs.Forms.{form_of}
use Rattle.script.specs.Parts.{up_to, end_of}
use Rattle.script.specs.Walk.{line, end, item_at}

module _ (script : List ℕ) (at n : ℕ) where
  pub item_line : at < length script → item_at script at n ≡ line (form_of (up_to 10 (drop at script))) n (end_of 10 script at + 1)
  unfolding item_at
  item_line h = rw (lt-ltb at (length script) h)

  pub item_end : length script ≤ at → item_at script at n ≡ end
  unfolding item_at
  item_end h = rw (le-ltb at (length script) h)
