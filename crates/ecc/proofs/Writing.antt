-- Writing the codes of a page: the codes of the chunks below i stand, the others are as they were.
use mathlib.Core.Path.{◌≡◌}
use mathlib.Core.List.{List}
use Prim.Native.Nat.{ℕ, ◌+◌, ◌*◌, ◌/◌, ◌%◌, ◌^◌, ◌≤◌, ◌<◌}
use native.Mathlib.Omega.{arith}
use lib.ListN.{set}
use Rattle.prelude.specs.Pages.{page_at}
use Rattle.prelude.proofs.Tab.{Done, done-put, done_all}
use Rattle.codes.specs.Code.{code_of, codes_of}

-- byte k of a page's codes
abbrev pub code_byte : List ℕ → ℕ → ℕ
code_byte page k = code_of (page_at 256 page (k / 3)) / 256 ^ (k % 3) % 256

-- a turn writes the three bytes of chunk i
pub three-put : (m : ℕ) (page old : List ℕ) (i : ℕ) (l : List ℕ) (c x y z : ℕ) → i < m → c ≡ code_of (page_at 256 page i)
    → x ≡ c % 256 → y ≡ c / 256 % 256 → z ≡ c / 65536 % 256 → Done 0 (m * 3) (code_byte page) old (i * 3) l
    → Done 0 (m * 3) (code_byte page) old ((i + 1) * 3) (set (set (set l (i * 3) x) (i * 3 + 1) y) (i * 3 + 2) z)
three-put m page old i l c x y z il e xe ye ze h =
    let a0 : i * 3 / 3 ≡ i = omega arith in let a1 : (i * 3 + 1) / 3 ≡ i = omega arith in let a2 : (i * 3 + 2) / 3 ≡ i = omega arith in
    let b0 : i * 3 % 3 ≡ 0 = omega arith in let b1 : (i * 3 + 1) % 3 ≡ 1 = omega arith in let b2 : (i * 3 + 2) % 3 ≡ 2 = omega arith in
    let k2 : i * 3 + 1 + 1 ≡ i * 3 + 2 = omega arith in let k3 : i * 3 + 2 + 1 ≡ (i + 1) * 3 = omega arith in
    let d0 = done-put 0 (m * 3) (code_byte page) old (i * 3) l x h (omega arith) (rw (a0, b0, ← e) (omega arith)) in
    let d1 = done-put 0 (m * 3) (code_byte page) old (i * 3 + 1) (set l (i * 3) x) y d0 (omega arith) (rw (a1, b1, ← e) ye) in
    let d2 = done-put 0 (m * 3) (code_byte page) old (i * 3 + 2) (set (set l (i * 3) x) (i * 3 + 1) y) z (rw k2 at d1) (omega arith)
    (rw (a2, b2, ← e) ze) in
    rw k3 at d2

pub codes-done : (m : ℕ) (page old : List ℕ) (i : ℕ) (l : List ℕ) → Done 0 (m * 3) (code_byte page) old (i * 3) l → m ≤ i
    → l ≡ codes_of m page
unfolding codes_of
codes-done m page old i l h e = done_all 0 (m * 3) (code_byte page) old (i * 3) l h (omega arith)
