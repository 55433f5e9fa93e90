use Rattle.std.proofs.Common.{arith, ℕ, length, sym, ap, ◌∙◌, subst}
use lib.ListN.{length-replicate}
use Rattle.std.specs.Io.KnownBytes.{Appends}
use Rattle.print.proofs.Put.{printed-front}
use Rattle.streams.specs.Streams.{AppendsFirst}
use Rattle.streams.proofs.Growing.{none_grown, grown, grown-first, grown-all, where_err}
use Rattle.rehearsals.specs.Lines.{output_of}
use Rattle.rehearse.proofs.Running.{at_first_lem, too_long, all_left, ends, next, next_printed, goes_on}
use Rattle.rehearse.proofs.run.Goals as goal

pub put-requires : goal.put-requires
put-requires g c = all_left _ _
    (printed-front {at = 0} (omega arith) c.put_bad-n.ensures ∙ sym (too_long c.args.script.now c.if-script-gt32768.true))

pub returns-in_err-put-clause-err : goal.returns-in_err-put-clause-err
returns-in_err-put-clause-err g c =
    where_err _ (subst (AppendsFirst _ _) (printed-front {at = 0} (omega arith) c.put_bad-n.ensures
    ∙ sym (too_long c.args.script.now c.if-script-gt32768.true)) c.in_err-put.ensures.err)

pub returns-then-script-gt32768-clause-count : goal.returns-then-script-gt32768-clause-count
returns-then-script-gt32768-clause-count g c =
    let p = c.put_bad-n.ensures.place in
    let e = ap length (too_long c.args.script.now c.if-script-gt32768.true) in
    omega arith

pub returns-then-script-gt32768-clause-ok : goal.returns-then-script-gt32768-clause-ok
returns-then-script-gt32768-clause-ok g c =
    subst (Appends _ _) (printed-front {at = 0} (omega arith) c.put_bad-n.ensures
    ∙ sym (too_long c.args.script.now c.if-script-gt32768.true)) c.in_ok-put.ensures.ok

pub loop-at-init : goal.loop-at-init
loop-at-init g c = (
  at_first_lem c.args.script.now _ c.if-script-gt32768.false (length-replicate {A = ℕ} 256 0),
  none_grown _
      (output_of c.args.script.now),
)

pub put-requires-in-loop-at : goal.put-requires-in-loop-at
put-requires-in-loop-at g c =
    let i = c.loop-at.invariant.0 in
    next _ _ _ _ _ i c.loop-at-test.true _ _ c.line_at-r.ensures (c.line_at-r.auto.out ∙ i.out-length)

pub returns-in_err-put-2-clause-err : goal.returns-in_err-put-2-clause-err
returns-in_err-put-2-clause-err g c =
    let (i, h) = c.loop-at.invariant in
    where_err _ (grown-first _ _ _ _ _ _ _ (next_printed _ _ _ _ _ i c.loop-at-test.true _ _ c.line_at-r.ensures
    (c.line_at-r.auto.out ∙ i.out-length)) h c.in_err-put-2.ensures.err)

pub loop-at-preserved : goal.loop-at-preserved
loop-at-preserved g c =
    let (i, h) = c.loop-at.invariant in
    let k = c.line_at-r.auto.out ∙ i.out-length in (
      goes_on _ _ _ _ _ i c.loop-at-test.true _ _ c.line_at-r.ensures k,
      grown _ _ _ _ _ _ _ (next_printed _ _ _ _ _ i c.loop-at-test.true _ _ c.line_at-r.ensures k) h c.in_ok-put-2.ensures.ok,
    )

pub returns-clause-count : goal.returns-clause-count
returns-clause-count g c = ends _ _ _ _ _ c.loop-at.invariant.0 c.loop-at-test.false

pub returns-clause-ok : goal.returns-clause-ok
returns-clause-ok g c =
    let (i, h) = c.loop-at.invariant in
    grown-all _ _ _ _ (ends _ _ _ _ _ i c.loop-at-test.false) h
