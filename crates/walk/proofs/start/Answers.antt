use borrow.Author.Rules.{rules}
use native.Mathlib.Omega.{arith}
use Rattle.walk.proofs.Onward.{started-short, started-over}
use Rattle.walk.proofs.start.Goals as goal

pub returns-then-n-gt32768 : goal.returns-then-n-gt32768
returns-then-n-gt32768 c =
    started-over c.args.script.now _ c.blank.ensures _ (let h = c.if-n-gt32768.true in omega arith) _ _ (search rules)
    (search rules) c.put_bad-printed.ensures

pub returns : goal.returns
returns c = started-short _ _ c.blank-2.ensures _ (omega arith)
