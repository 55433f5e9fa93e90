use Rattle.std.proofs.Common.{refl, ◌∙◌, length, arith}
use Rattle.runs.specs.Current.{current}
use Rattle.sheets.specs.View.{sheets_of}
use Rattle.sheets.proofs.Following.{follow-none, follow-stop, follow-go}
use Rattle.sheets.proofs.current.current.Goals as goal

pub loop-step-init : goal.loop-step-init
unfolding current
loop-step-init c = refl

pub returns-then-next-eq0 : goal.returns-then-next-eq0
returns-then-next-eq0 c =
    let t = c.args.t.now in
    let l = c.loop-step in
    follow-stop (length t) (sheets_of t) l._step l.at (omega arith) c.replacer-next.ensures c.if-next-eq0.true ∙ l.invariant

pub loop-step-preserved : goal.loop-step-preserved
loop-step-preserved c =
    let t = c.args.t.now in
    let l = c.loop-step in
    follow-go (length t) (sheets_of t) l._step l.at (omega arith) c.replacer-next.ensures c.if-next-eq0.false ∙ l.invariant

pub returns : goal.returns
returns c =
    let t = c.args.t.now in
    follow-none (length t) (sheets_of t) c.loop-step._step c.loop-step.at (omega arith) ∙ c.loop-step.invariant
