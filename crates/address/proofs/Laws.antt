-- The laws of the block-and-offset rule.
use mathlib.Core.Path.{◌≡◌, ap}
use Prim.Native.Nat.{ℕ, ◌*◌, ◌<◌}
use native.Mathlib.Nat.{div-add-mod', mod-lt, div-lt_iff_lt-mul}
use lib.Arith.{digits_div, digits_mod, digits_lt}
use Rattle.address.specs.declared.PageNo.{PageNo}
use Rattle.address.specs.declared.BlockNo.{BlockNo}
use Rattle.address.specs.Address.{block_of, offset_of, page_of}

abbrev page : ℕ → PageNo
page n = record { 0 = n }

abbrev block : ℕ → BlockNo
block n = record { 0 = n }

-- a page is the one at its offset in its block
pub page_of-parts : (n : PageNo) (k : ℕ) → page_of (block_of n k) (offset_of n k) k ≡ n
page_of-parts n k = ap page (div-add-mod' n.0 k)

pub block_of-page : (b : BlockNo) (o k : ℕ) → o < k → block_of (page_of b o k) k ≡ b
block_of-page b o k h = ap block (digits_div b.0 h)

pub offset_of-page : (b : BlockNo) (o k : ℕ) → o < k → offset_of (page_of b o k) k ≡ o
offset_of-page b o k h = digits_mod b.0 h

pub offset_lt : (n : PageNo) (k : ℕ) → 0 < k → offset_of n k < k
offset_lt n k h = mod-lt n.0 h

-- pages below m * k lie in blocks below m, and the other way round
pub block-lt : (n : PageNo) (k m : ℕ) → 0 < k → n.0 < m * k → (block_of n k).0 < m
block-lt n k m h l = (div-lt_iff_lt-mul h).1 l

pub page-lt : (b : BlockNo) (o k m : ℕ) → b.0 < m → o < k → (page_of b o k).0 < m * k
page-lt b o k m hb ho = digits_lt hb ho
