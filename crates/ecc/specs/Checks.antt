-- What a check and a reading of a page answer.
use Rattle.std.specs.Prelude.{◌≡◌, cond, List, ℕ, ◌*◌, Result, Ok, Err}
use Rattle.prelude.specs.Pages.{put_page}
use Rattle.codes.specs.Reading.{page_legible, page_mended, page_mends}
use Rattle.ecc.specs.declared.Unreadable.{Unreadable}

-- what a check says of a page of m chunks with the codes stored for it
unfoldable pub checked : ℕ → List ℕ → List ℕ → Result ℕ Unreadable
checked m page codes = cond (page_legible m page codes) (Ok (page_mends m page codes)) (Err (record {}))

-- page i of dst has become what the page with these codes is read as, or dst is as it was where that is unreadable
pub record Decoded (m : ℕ) (dst : List ℕ) (i : ℕ) (page codes : List ℕ) (r : Result ℕ Unreadable) (dst' : List ℕ) : Type 0 where
  pub answer : r ≡ checked m page codes
  pub data' : dst' ≡ cond (page_legible m page codes) (put_page (m * 256) dst i (page_mended m page codes)) dst
