-- How many operations of the chip a call may have.
use Prim.Native.Nat.{suc, ◌*◌, ◌≤◌}
use native.Mathlib.Nat.{mul-le-mul}
use native.Mathlib.Omega.{arith}
use Rattle.model.specs.Sizes.{Sizes, InLimits}
use Rattle.model.specs.Cut.{operations}
use Rattle.model.specs.Calls.{Call, read, write, part, step, flush, Page}

-- the operations that a flush may have
pub operations-small : (sz : Sizes) → InLimits sz → sz.N * suc sz.K ≤ 266240
operations-small sz h = let l : suc sz.K ≤ 65 = (let k = h.K_high in omega arith) in
    let a : sz.N * suc sz.K ≤ 4096 * 65 = mul-le-mul h.N_high l in omega arith

-- and any call
pub operations-few : (sz : Sizes) → InLimits sz → (c : Call Page) → operations sz c ≤ 4294967295
operations-few sz l (read n x) = omega arith
operations-few sz l (write n x) = let k = l.K_high in omega arith
operations-few sz l (part n first x page) = let k = l.K_high in omega arith
operations-few sz l step = let k = l.K_high in omega arith
operations-few sz l flush = let k = operations-small sz l in omega arith
