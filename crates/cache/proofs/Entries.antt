-- Entries of slots and frames as numbers: one that is replaced, one that is read, and how many there are.
use Rattle.std.proofs.Common.{◌≡◌, ◌<◌, ℕ, List, length, get_or}
use Rattle.std.proofs.lemmas.List.{get_or-map, length-map, map-set}
use Rattle.std.proofs.Math.ListN.{set}
use Rattle.address.specs.declared.PageNo.{PageNo}
use Rattle.address.specs.declared.BlockNo.{BlockNo}
use Rattle.cache.specs.View.{page_numbers, block_numbers}

pub pages_set : (l : List PageNo) (i : ℕ) (n : PageNo) → page_numbers (set l i n) ≡ set (page_numbers l) i n.0
pages_set l i n = map-set (λ x. x.0) l i n

pub blocks_set : (l : List BlockNo) (i : ℕ) (b : BlockNo) → block_numbers (set l i b) ≡ set (block_numbers l) i b.0
blocks_set l i b = map-set (λ x. x.0) l i b

pub pages_get : (l : List PageNo) (i : ℕ) (d : PageNo) → i < length l → get_or (page_numbers l) i 0 ≡ (get_or l i d).0
pages_get l i d h = get_or-map (λ x. x.0) l i d 0 h

pub blocks_get : (l : List BlockNo) (i : ℕ) (d : BlockNo) → i < length l → get_or (block_numbers l) i 0 ≡ (get_or l i d).0
blocks_get l i d h = get_or-map (λ x. x.0) l i d 0 h

pub pages_length : (l : List PageNo) → length (page_numbers l) ≡ length l
pages_length l = length-map l (λ x. x.0)

pub blocks_length : (l : List BlockNo) → length (block_numbers l) ≡ length l
blocks_length l = length-map l (λ x. x.0)
