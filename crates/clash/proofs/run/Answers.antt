use Rattle.std.proofs.Common.{arith, ℕ, replicate, inl, refl, ◌∙◌}
use lib.ListN.{length-replicate}
use Rattle.store.specs.View.{plain_lent}
use Rattle.interpret.specs.Lines.{output_of}
use Rattle.walk.proofs.Onward.{memory_kept}
use Rattle.streams.proofs.Growing.{none_grown, grown, grown-first, grown-all, where_err}
use Rattle.clash.proofs.Running.{next_printed, ends, goes_on}
use Rattle.clash.proofs.run.Goals as goal

pub loop-done-init : goal.loop-done-init
loop-done-init g c =
    let s = c.start-w.ensures in (
      record {
        memory = record {
          flash-length = length-replicate {A = ℕ} 32768 0;
          wear-length = length-replicate {A = ℕ} 4096 0;
          pspace-length = length-replicate {A = ℕ} 32768 0;
          bspace-length = length-replicate {A = ℕ} 32768 0;
          page-length = length-replicate {A = ℕ} 2048 0;
        };
        out-length = c.start-w.auto.out ∙ length-replicate {A = ℕ} 49152 0;
        ready = s.ready;
        few = s.within;
        left = s.output (plain_lent (replicate 32768 0) (replicate 4096 0) (replicate 32768 0) (replicate 32768 0));
        written = omega arith;
        bound = omega arith;
        first = inl refl;
      },
      none_grown _ (output_of c.args.script.now),
    )

pub returns-in_err-put-clause-err : goal.returns-in_err-put-clause-err
returns-in_err-put-clause-err g c =
    let (i, h) = c.loop-done.invariant in
    where_err _ (grown-first _ _ _ _ _ _ _ (next_printed _ _ _ _ _ _ i _ _ _ c.run-w.ensures.onward) h c.in_err-put.ensures.err)

pub returns-then-w-script-clause-count : goal.returns-then-w-script-clause-count
returns-then-w-script-clause-count g c =
    ends _ _ _ _ _ _ c.loop-done.invariant.0 _ _ _ c.run-w.ensures.onward (let h = c.if-w-script.true in omega arith)

pub returns-then-w-script-clause-ok : goal.returns-then-w-script-clause-ok
returns-then-w-script-clause-ok g c =
    let (i, h) = c.loop-done.invariant in
    grown-all _ _ _ _ (ends _ _ _ _ _ _ i _ _ _ c.run-w.ensures.onward (let h = c.if-w-script.true in omega arith))
    (grown _ _ _ _ _ _ _ (next_printed _ _ _ _ _ _ i _ _ _ c.run-w.ensures.onward) h c.in_ok-put.ensures.ok)

pub loop-done-preserved : goal.loop-done-preserved
loop-done-preserved g c =
    let (i, h) = c.loop-done.invariant in
    let k = c.run-w.auto in (
      goes_on _ _ _ _ _ _ i _ _ _ c.run-w.ensures.onward c.run-w.ensures.advances (k.out ∙ i.out-length) _
          (memory_kept i.memory k.flash k.wear k.pspace k.bspace k.page) c.if-w-script.false,
      grown _ _ _ _ _ _ _ (next_printed _ _ _ _ _ _ i _ _ _ c.run-w.ensures.onward) h c.in_ok-put.ensures.ok,
    )
