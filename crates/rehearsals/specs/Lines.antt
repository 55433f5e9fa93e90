-- What a line asks for, and what is printed for it. Lines and numbers are as a script has them.
use Rattle.std.specs.Prelude.{cond, ◌&&◌, Option, None, Some, List, [], ◌∷◌, ◌++◌, map, ℕ, ◌+◌, ltb, eqb, length, get_or, drop}
use Rattle.prelude.specs.Tests.{every}
use Rattle.print.specs.Text.{bytes, decimal, form}
use Rattle.print.specs.Print.{line, field, refusal, bad_line}
use Rattle.script.specs.Forms.{lines_of, words_of, is_number, value_of, same, bracketed, inside}
use Rattle.tally.specs.declared.Tallies.{Tallies}
use Rattle.rehearsal.specs.declared.Setting.{Setting}
use Rattle.rehearsal.specs.Class.{setting_ok, rehearsal_of}

-- ---- (rehearse S K N P B W benches turns writerate runrate state)

abbrev pub setting_from : List ℕ → Setting
setting_from ns = record {
  page_size = get_or ns 0 0;
  pages_per_block = get_or ns 1 0;
  blocks = get_or ns 2 0;
  slots = get_or ns 3 0;
  frames = get_or ns 4 0;
  wear_limit = get_or ns 5 0;
  benches = get_or ns 6 0;
  turns = get_or ns 7 0;
  write_rate = get_or ns 8 0;
  run_rate = get_or ns 9 0;
  state = get_or ns 10 0;
}

-- what a line asks for, none where it is bad: the word w with the numbers ns after it
unfoldable pub line_with : List ℕ → List ℕ → Option Setting
line_with w ns = cond (same w (bytes "rehearse") && eqb (length ns) 11) (Some (setting_from ns)) None

-- a word, and after it numbers alone
unfoldable pub line_of_words : List (List ℕ) → Option Setting
line_of_words [] = None
line_of_words (w ∷ ws) = cond (every (map is_number ws)) (line_with w (map value_of ws)) None

-- a line without its byte 10
unfoldable pub line_of : List ℕ → Option Setting
line_of l = cond (bracketed l) (line_of_words (words_of (inside l))) None

-- ---- what is printed

-- reads by ways 1 to 3, writes by ways 1 to 7, erasures, merge reads, refused calls
unfoldable pub tally_line : Tallies → List ℕ
tally_line t = line "rehearse" (
    form "reads" (map decimal (drop 1 t.reads)) ∷ form "writes" (map decimal (drop 1 t.writes))
    ∷ field "erased" t.erased ∷ field "merged" t.merged ∷ field "refused" t.refused ∷ [])

-- the tallies of the rehearsal, or refusal 1
unfoldable pub rehearse_line : Setting → List ℕ
rehearse_line z = cond (setting_ok z) (tally_line (rehearsal_of z).tallies) (line "rehearse" (refusal 1 ∷ []))

-- for the line of number i; any other line is bad
abbrev pub printed_for : Option Setting → ℕ → List ℕ
printed_for (Some z) i = rehearse_line z
printed_for None i = bad_line i

-- for the lines ls, of which the first has number i
unfoldable pub printed_by : ℕ → List (List ℕ) → List ℕ
printed_by i [] = []
printed_by i (l ∷ ls) = printed_for (line_of l) i ++ printed_by (i + 1) ls

-- input over 32,768 bytes prints only (bad 0)
unfoldable pub output_of : List ℕ → List ℕ
output_of script = cond (ltb 32768 (length script)) (bad_line 0) (printed_by 1 (lines_of script))

-- room for a line
abbrev pub room : ℕ
room = 200
