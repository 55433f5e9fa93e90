-- A turn of a rehearsed class (request A13).
use Rattle.std.specs.Prelude.{ℕ, ◌+◌, ◌/◌, ◌%◌, cond, nat_lt}
use Rattle.address.specs.declared.PageNo.{PageNo}
use Rattle.turns.specs.declared.Call.{Call}
use Rattle.turns.specs.declared.Call.TheVariants as calls
use Rattle.turns.specs.declared.Rates.{Rates}
use Rattle.turns.specs.declared.Turn.{Turn}
use Rattle.turns.specs.Generator.{first, second, third}

-- where the second state div 16,777,216 is below the run rate: the bench's last page plus 1, modulo N×K; else the third state div 65,536,
-- modulo N×K
unfoldable pub page_of : (second third run last pages : ℕ) → ℕ
page_of second third run last pages = cond (nat_lt (second / 16777216) run) ((last + 1) % pages) (third / 65536 % pages)

-- the first state div 16,777,216 below the write rate means a write, whose byte is the third state modulo 256, else a read
unfoldable pub call_of : (first third write page : ℕ) → Call
call_of first third write page = let n : PageNo = record { 0 = page } in
    cond (nat_lt (first / 16777216) write) (calls.Write n (third % 256)) (calls.Read n)

-- the page of a turn that begins in state s
unfoldable pub turn_page : ℕ → ℕ → Rates → ℕ
turn_page s last z = page_of (second s) (third s) z.run last z.pages

-- the turn whole: the call, its page, and the state after the three advances
unfoldable pub turn_of : ℕ → ℕ → Rates → Turn
turn_of s last z = record {
  call = call_of (first s) (third s) z.write (turn_page s last z);
  page = turn_page s last z;
  state = third s;
}
