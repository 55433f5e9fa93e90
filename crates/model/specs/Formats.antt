-- The options of a store that say what a flash page is: with a code (request A6) or without, with a mark (request A12) or without.
use Rattle.std.specs.Prelude.{◌≡◌, ◌⊎◌, Bool, true, false, not, cond, ◌&&◌, List, [], ◌∷◌, ℕ, ◌*◌, ◌/◌, eqb, length, get_or, replicate}
use Rattle.codes.specs.Code.{codes_of}
use Rattle.codes.specs.Reading.{Bytes, OneFlip, page_legible, page_mended, page_mends}
use Rattle.model.specs.Sizes.{Sizes, is_coded, is_marked}
use Rattle.model.specs.Moves.{Chip}
use Rattle.model.specs.Calls.{Page, Cell, Format}

-- A rule for codes: how long a page's code is, the code of a page; and of a page with a code, raw: the page that is read, whether it is
-- unreadable, and how many chunks are mended.
pub record Code : Type 0 where
  pub long : Sizes → ℕ
  pub code_of : Sizes → Page → List ℕ
  pub page_read : Sizes → Page → List ℕ → Page
  pub unreadable : Sizes → Page → List ℕ → Bool
  pub mends : Sizes → Page → List ℕ → ℕ

abbrev pub no_code : Code
no_code = record { long = λ sz. 0; code_of = λ sz x. []; page_read = λ sz x k. x; unreadable = λ sz x k. false; mends = λ sz x k. 0 }

-- a page is torn if its mark is not 0
unfoldable pub torn : Bool → Cell → Bool
torn marked c = marked && not (eqb (get_or c.mark 0 0) 0)

-- read by the code's rule; unreadable is refused before torn; programmed with its code, and with mark 0
unfoldable pub format_of : Code → Bool → Format
format_of code marked = record {
  code_long = code.long;
  mark_long = λ sz. cond marked 1 0;
  chip = λ sz. record {
    page = λ c. code.page_read sz c.bytes c.code;
    fault = λ c. cond (code.unreadable sz c.bytes c.code) 7 (cond (torn marked c) 14 0);
    mends = λ c. code.mends sz c.bytes c.code;
    erased = record { bytes = replicate sz.S 255; code = replicate (code.long sz) 255; mark = cond marked (255 ∷ []) [] };
    cell = λ x. record { bytes = x; code = code.code_of sz x; mark = cond marked (0 ∷ []) [] };
  };
}

-- a store without codes and without marks
abbrev pub plain : Format
plain = format_of no_code false

-- ---- what demand 3 speaks of

-- the code matches
abbrev pub Matches : Code → Sizes → Cell → Type 0
Matches code sz c = c.code ≡ code.code_of sz c.bytes

-- Flips x k x' k': page x with its code k can have come to be x' with k', by flips that the code bears; marks never flip
abbrev pub NearBy : (Sizes → Page → List ℕ → Page → List ℕ → Type 0) → Sizes → Cell → Cell → Type 0
NearBy Flips sz c c' = Flips sz c.bytes c.code c'.bytes c'.code × (c'.mark ≡ c.mark)

-- without a code nothing flips
abbrev pub NoFlips : Sizes → Page → List ℕ → Page → List ℕ → Type 0
NoFlips sz x k x' k' = (x' ≡ x) × (k' ≡ k)

-- what is asked of a code: a page with its own code is read as it is, also after flips that are borne
pub record Corrects (code : Code) (Flips : Sizes → Page → List ℕ → Page → List ℕ → Type 0) (sz : Sizes) : Type 0 where
  pub code-long : (x : Page) → length x ≡ sz.S → length (code.code_of sz x) ≡ code.long sz
  pub read-long : (x : Page) (k : List ℕ) → length x ≡ sz.S → length k ≡ code.long sz → length (code.page_read sz x k) ≡ sz.S
  pub flips-none : (x : Page) (k : List ℕ) → Flips sz x k x k
  pub read-own : (x : Page) → length x ≡ sz.S → code.page_read sz x (code.code_of sz x) ≡ x
  pub read-flipped : (x x' : Page) (k' : List ℕ) → length x ≡ sz.S → length x' ≡ sz.S → length k' ≡ code.long sz
      → Flips sz x (code.code_of sz x) x' k' → code.page_read sz x' k' ≡ x

-- ---- the store's own format

-- request A6's code of a page: S div 256 chunks, with 3 bytes of code each
unfoldable pub page_code : Code
page_code = record {
  long = λ sz. sz.S / 256 * 3;
  code_of = λ sz x. codes_of (sz.S / 256) x;
  page_read = λ sz x k. page_mended (sz.S / 256) x k;
  unreadable = λ sz x k. not (page_legible (sz.S / 256) x k);
  mends = λ sz x k. page_mends (sz.S / 256) x k;
}

abbrev pub code_for : Bool → Code
code_for coded = cond coded page_code no_code

-- how long a page's code is, and its mark
abbrev pub code_long : Sizes → ℕ
code_long sz = (code_for (is_coded sz)).long sz

abbrev pub mark_long : Sizes → ℕ
mark_long sz = cond (is_marked sz) 1 0

-- how cells are read and programmed
abbrev pub chip_for : Sizes → Chip Cell Page
chip_for sz = (format_of (code_for (is_coded sz)) (is_marked sz)).chip sz

-- cells as the options have them
abbrev pub store_format : Format
store_format = record { code_long = code_long; mark_long = mark_long; chip = chip_for }

-- "at most one bit of any chunk with its code has flipped", of bytes; or nothing has
abbrev pub PageFlips : Sizes → Page → List ℕ → Page → List ℕ → Type 0
PageFlips sz x k x' k' = NoFlips sz x k x' k' ⊎ (Bytes x × Bytes x' × Bytes k' × OneFlip (sz.S / 256) x k x' k')

-- what a store has to bear: a coded one those flips, any other none
abbrev pub flips_for : Bool → Sizes → Page → List ℕ → Page → List ℕ → Type 0
flips_for true = PageFlips
flips_for false = NoFlips

abbrev pub StoreMatches : Sizes → Cell → Type 0
StoreMatches sz c = Matches (code_for (is_coded sz)) sz c

abbrev pub StoreNear : Sizes → Cell → Cell → Type 0
StoreNear sz c c' = NearBy (flips_for (is_coded sz)) sz c c'
