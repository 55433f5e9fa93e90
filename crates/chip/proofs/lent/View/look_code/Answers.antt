use native.Mathlib.Omega.{arith}
use mathlib.Core.Path.{sym, ◌∙◌}
use Rattle.chip.proofs.Leaves.{has-raw, has_code, looked-unreadable, looked-readable, few-mends}
use Rattle.chip.proofs.lent.View.look_code.Goals as goal

pub check_page-requires : goal.check_page-requires
check_page-requires c = let h = c.args.self.lent.codes-lent in let q = sym c.has_codes.ensures ∙ c.if-not-has_codes.false in
    (has-raw _ _ _ _ h c.requires q, has_code _ _ _ _ h c.requires q)

pub overflow_cast-result : goal.overflow_cast-result
overflow_cast-result c = let q = sym c.has_codes.ensures ∙ c.if-not-has_codes.false in
    let k = few-mends _ _ _ _ c.args.self.lent.codes-lent c.requires q _ c.in-Ok.ensures in omega arith

pub returns-in-Err : goal.returns-in-Err
returns-in-Err c =
    looked-unreadable _ _ _ _ c.args.self.lent.codes-lent c.requires (sym c.has_codes.ensures ∙ c.if-not-has_codes.false) _ c.in-Err.ensures

pub returns-in-Ok : goal.returns-in-Ok
returns-in-Ok c =
    looked-readable _ _ _ _ c.args.self.lent.codes-lent c.requires (sym c.has_codes.ensures ∙ c.if-not-has_codes.false) _ c.in-Ok.ensures
