-- The block-and-offset rule: page n lies in block n div k at offset n mod k.
use Rattle.std.specs.Prelude.{ℕ, ◌+◌, ◌*◌, ◌/◌, ◌%◌}
use Rattle.address.specs.declared.PageNo.{PageNo}
use Rattle.address.specs.declared.BlockNo.{BlockNo}

-- the block of page n
abbrev pub block_of : PageNo → ℕ → BlockNo
block_of n k = record { 0 = n.0 / k }

-- the offset of page n in its block
abbrev pub offset_of : PageNo → ℕ → ℕ
offset_of n k = n.0 % k

-- the page at offset o of block b
abbrev pub page_of : BlockNo → ℕ → ℕ → PageNo
page_of b o k = record { 0 = b.0 * k + o }
