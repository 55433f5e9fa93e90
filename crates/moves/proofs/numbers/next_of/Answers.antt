use Rattle.std.proofs.Common.{◌≡◌, eqb, sym, ap, ◌∙◌, add-zero, arith, eqb-true}
use borrow.Author.Tests.{eqb-false}
use Rattle.prelude.proofs.Tests.{by-test}
use Rattle.prelude.proofs.Scan.{from_is}
use Rattle.model.specs.Policy.{in_block}
use Rattle.address.specs.declared.PageNo.{PageNo}
use Rattle.cache.specs.Among.{among}
use Rattle.cache.proofs.View.{slot-of}
use Rattle.cache.specs.View.{sizes_of, directory_of}
use Rattle.moves.proofs.Offset.{own_test}
use Rattle.moves.proofs.numbers.next_of.Goals as goal
use Rattle.moves.proofs.numbers.next_of.Goals.{After-lies_in}

-- the test of one slot
tested : (c : After-lies_in) → c.lies_in.result ≡ in_block (sizes_of c.args.z) (directory_of c.args.directory.now) c.args.b.0 c.loop-i.i
tested c = c.lies_in.ensures ∙ ap (among _ _) (sym (slot-of c.args.directory.now c.loop-i.i))
    ∙ own_test (sizes_of c.args.z) c.requires.0 (directory_of c.args.directory.now) c.args.b.0 c.loop-i.i c.requires.1

pub loop-i-init : goal.loop-i-init
unfolding directory_of
loop-i-init c =
    let own = own_test (sizes_of c.args.z) c.requires.0 (directory_of c.args.directory.now) c.args.b.0 in
    let clear = rw (ap (λ (x : PageNo). x.0) c.page_of-first.ensures ∙ add-zero _) at c.passed-start.ensures.1 in
    λ j a h. sym (own j c.requires.1) ∙ clear j a h

pub returns-then-lies_in-clause-next : goal.returns-then-lies_in-clause-next
returns-then-lies_in-clause-next c =
    let l = c.loop-i in
    let own = sym (tested (goal.at.returns-then-lies_in-clause-next c).After-lies_in) ∙ c.if-lies_in.true in
    from_is _ _ _ l.i (record { low = omega arith; high = omega arith; hit = λ h. own; miss = l.invariant })

pub loop-i-preserved : goal.loop-i-preserved
loop-i-preserved c =
    let l = c.loop-i in
    let out = sym (tested (goal.at.loop-i-preserved c).After-lies_in) ∙ c.if-lies_in.false in
    λ j a h. by-test (eqb j l.i) (λ t. rw (eqb-true j l.i t) out) (λ t. let ne = eqb-false j l.i t in l.invariant j a (omega arith))

pub returns-clause-next : goal.returns-clause-next
returns-clause-next c = let l = c.loop-i in from_is _ _ _ _ (record {
  low = omega arith;
  high = omega arith;
  hit = λ h. absurd (omega arith);
  miss = λ j a h. l.invariant j a (omega arith);
})
