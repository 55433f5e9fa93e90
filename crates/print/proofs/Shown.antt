-- The definitions on lines that document 01 shows: script A's, and one of each other kind.
use mathlib.Core.Path.{◌≡◌, refl}
use mathlib.Core.List.{List, [], ◌∷◌, map}
use Prim.Native.Nat.{ℕ}
use Rattle.model.specs.Sizes.{vacant}
use Rattle.model.specs.Calls.{open_done, read_done, write_done, step_done, step_clean, flush_done, refused}
use Rattle.print.specs.Text.{bytes, digits, decimal, items, form}
use Rattle.print.specs.Print.{line, said, open_line, write_line, read_line, step_line, flush_line, wear_line, bad_line}

-- what is printed, and the text
pub record Row : Type 0 where
  pub prints : List ℕ
  pub text : List ℕ

unfoldable pub rows : List Row
rows =
    record { prints = open_line open_done; text = bytes "(open (done))\n" }
    ∷ record { prints = write_line 0 (write_done 3 vacant 0); text = bytes "(write 0 (way 3) (erased none) (merged 0))\n" }
    ∷ record { prints = write_line 4 (write_done 5 vacant 0); text = bytes "(write 4 (way 5) (erased none) (merged 0))\n" }
    ∷ record { prints = write_line 3 (write_done 7 0 1); text = bytes "(write 3 (way 7) (erased 0) (merged 1))\n" }
    ∷ record { prints = read_line 2 (read_done 2) 20; text = bytes "(read 2 (way 2) (byte 20))\n" }
    ∷ record { prints = read_line 1 (read_done 3) 255; text = bytes "(read 1 (way 3) (byte 255))\n" }
    ∷ record { prints = flush_line (flush_done 2 1); text = bytes "(flush (rewrites 2) (merged 1))\n" }
    ∷ record { prints = read_line 6 (refused 5 vacant) 0; text = bytes "(read 6 (refused 5))\n" }
    ∷ record { prints = wear_line (1 ∷ 1 ∷ 1 ∷ []); text = bytes "(wear 1 1 1)\n" }
    ∷ record { prints = wear_line []; text = bytes "(wear)\n" }
    ∷ record { prints = step_line (step_done 2 1); text = bytes "(step (block 2) (merged 1))\n" }
    ∷ record { prints = step_line step_clean; text = bytes "(step clean)\n" }
    ∷ record { prints = step_line (refused 6 2); text = bytes "(step (refused 6))\n" }
    ∷ record { prints = open_line (refused 1 vacant); text = bytes "(open (refused 1))\n" }
    ∷ record { prints = bad_line 4294967295; text = bytes "(bad 4294967295)\n" }
    ∷ []

pub as_shown : map (λ (r : Row). r.prints) rows ≡ map (λ (r : Row). r.text) rows
unfolding rows digits decimal items form line said
as_shown = refl
