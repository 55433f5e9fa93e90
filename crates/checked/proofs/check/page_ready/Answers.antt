use native.Mathlib.Omega.{arith}
use Rattle.model.proofs.Soundness.{sound-facts, pages-small}
use Rattle.checked.proofs.Carrying.{page-buffer, page-past}
use Rattle.checked.proofs.check.page_ready.Goals as goal

pub returns-then-long-z : goal.returns-then-long-z
returns-then-long-z c = λ d on besides. page-buffer _ _ _ d on c.in_ok-ready.ensures.0 c.in_ok-ready.ensures.1 besides c.if-long-z.true

pub overflow_mul-z : goal.overflow_mul-z
overflow_mul-z c =
    let h = pages-small _ (sound-facts _ _ c.in_ok-ready.ensures.0).limits in
    omega arith

pub returns-then-z-n : goal.returns-then-z-n
returns-then-z-n c =
    λ d on besides. page-past _ _ _ d on c.in_ok-ready.ensures.0 c.in_ok-ready.ensures.1 besides c.if-long-z.false c.if-z-n.true
