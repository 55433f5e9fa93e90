-- The definitions on lines of every kind, good and bad, and on the ways in which a script falls into lines.
use mathlib.Core.Path.{◌≡◌, refl}
use mathlib.Core.List.{List, [], ◌∷◌, map}
use Prim.Native.Nat.{ℕ}
use Rattle.prelude.specs.Tests.{every}
use Rattle.prelude.specs.Scan.{all}
use Rattle.model.specs.Sizes.{sizes_ok, plain_sizes}
use Rattle.print.specs.Text.{bytes}
use Rattle.script.specs.Forms.{Form, opens, writes, reads, steps, flushes, wears, bad, pieces, lines_of, words_of, value_from, is_number}
use Rattle.script.specs.Forms.{buffers_fit, opening, same, form_with, form_of_words, bracketed, form_of}

-- a line, and what it says
pub record Row : Type 0 where
  pub text : List ℕ
  pub says : Form

unfoldable pub rows : List Row
rows =
    record { text = bytes "(open 1 2 3 2 1 9)"; says = opens (plain_sizes 1 2 3 2 1 9) }
    ∷ record { text = bytes " (read 0)"; says = bad }
    ∷ record { text = bytes "(read 0) "; says = bad }
    ∷ record { text = bytes "(read  0)"; says = bad }
    ∷ record { text = bytes "(read 00)"; says = bad }
    ∷ record { text = bytes "(read 01)"; says = bad }
    ∷ record { text = bytes "(read -1)"; says = bad }
    ∷ record { text = bytes "(read 0x1)"; says = bad }
    ∷ record { text = bytes "(read 4294967295)"; says = reads 4294967295 }
    ∷ record { text = bytes "(read 4294967296)"; says = bad }
    ∷ record { text = bytes "(read 99999999999999999999999)"; says = bad }
    ∷ record { text = bytes "(read)"; says = bad }
    ∷ record { text = bytes "(read 1 2)"; says = bad }
    ∷ record { text = bytes "()"; says = bad }
    ∷ record { text = bytes ""; says = bad }
    ∷ record { text = bytes "("; says = bad }
    ∷ record { text = bytes "read 1"; says = bad }
    ∷ record { text = bytes "(Read 1)"; says = bad }
    ∷ record { text = bytes "(step )"; says = bad }
    ∷ record { text = bytes "(step)"; says = steps }
    ∷ record { text = bytes "(flush 1)"; says = bad }
    ∷ record { text = bytes "(wear)"; says = wears }
    ∷ record { text = bytes "(wear 0)"; says = bad }
    ∷ record { text = bytes "(write 1)"; says = bad }
    ∷ record { text = bytes "(write 1 256)"; says = bad }
    ∷ record { text = bytes "(write 1 255)"; says = writes 1 255 }
    ∷ record { text = bytes "(write 1 255 0)"; says = bad }
    ∷ record { text = bytes "(read 1)\r"; says = bad }
    ∷ record { text = bytes "(read 1)\t"; says = bad }
    ∷ record { text = bytes "(open 1 2 3 2 1)"; says = bad }
    ∷ record { text = bytes "(open 1 2 3 2 1 9 0)"; says = bad }
    ∷ record { text = bytes "(open 1 2 3 2 1 9) (read 0)"; says = bad }
    ∷ record { text = bytes "; note"; says = bad }
    ∷ record { text = bytes "(read 1)"; says = reads 1 }
    ∷ record { text = bytes "(flush)"; says = flushes }
    ∷ record { text = bytes "(write 4294967295 0)"; says = writes 4294967295 0 }
    ∷ record { text = bytes "(open 2048 16 1 16 1 5)"; says = opens (plain_sizes 2048 16 1 16 1 5) }
    ∷ record { text = bytes "(open 2048 16 1 17 1 5)"; says = bad }
    ∷ record { text = bytes "(open 2048 17 1 16 1 5)"; says = bad }
    ∷ record { text = bytes "(open 2048 64 4096 128 8 0)"; says = bad }
    ∷ record { text = bytes "(open 2049 64 4096 128 8 1)"; says = opens (plain_sizes 2049 64 4096 128 8 1) }
    ∷ record { text = bytes "(open 1 2 1 1 1 0)"; says = opens (plain_sizes 1 2 1 1 1 0) }
    ∷ record { text = bytes "( read 1)"; says = bad }
    ∷ record { text = bytes "(read 1"; says = bad }
    ∷ []

pub as_said : map (λ (r : Row). form_of r.text) rows ≡ map (λ (r : Row). r.says) rows
unfolding rows every all sizes_ok pieces words_of value_from is_number buffers_fit opening same form_with form_of_words bracketed form_of
as_said = refl

pub no_line : lines_of [] ≡ []
unfolding lines_of pieces
no_line = refl

pub last-ended : lines_of (bytes "(step)\n\n(flush)\n") ≡ bytes "(step)" ∷ [] ∷ bytes "(flush)" ∷ []
unfolding lines_of pieces
last-ended = refl

pub last-open : lines_of (bytes "(step)\n(flush)") ≡ bytes "(step)" ∷ bytes "(flush)" ∷ []
unfolding lines_of pieces
last-open = refl

pub empty-line : lines_of (bytes "\n") ≡ [] ∷ []
unfolding lines_of pieces
empty-line = refl
