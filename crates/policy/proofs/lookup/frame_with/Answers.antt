use Rattle.std.proofs.Common.{◌≡◌, ◌&&◌, eqb, ℕ, get_or, ◌∙◌, arith, below_more}
use Rattle.address.specs.declared.PageNo.{PageNo}
use Rattle.address.specs.declared.BlockNo.{BlockNo}
use Rattle.address.specs.Address.{block_of, offset_of}
use Rattle.prelude.specs.Bits.{bit}
use Rattle.prelude.proofs.Scan.{first-is}
use Rattle.model.specs.Directory.{inFrame}
use Rattle.model.specs.Policy.{frame_with}
use Rattle.cache.specs.declared.Sizes.{Sizes}
use Rattle.cache.specs.declared.Directory.{Directory}
use Rattle.cache.specs.View.{block_no, sizes_of, directory_of}
use Rattle.cache.proofs.View.{frame-of}
use Rattle.policy.proofs.lookup.frame_with.Goals as goal

-- the test of the loop
tested : (z : Sizes) (d : Directory) (n : PageNo) (f : ℕ) (b : BlockNo) (o : ℕ)
    → b ≡ block_of n z.pages_per_block → o ≡ offset_of n z.pages_per_block
    → inFrame (sizes_of z) (directory_of d) n.0 f ≡ (eqb (get_or d.frames f (block_no 0)).0 b.0 && bit (get_or d.valid f 0) o)
unfolding inFrame directory_of
tested z d n f b o eb eo = rw (frame-of d f, eb, eo)

pub returns-then-eq-has-clause-found : goal.returns-then-eq-has-clause-found
unfolding frame_with
returns-then-eq-has-clause-found c =
    let l = c.loop-f in
    first-is _ _ l.f (omega arith) l.invariant (λ k.
    tested c.args.z c.args.directory.now c.args.n l.f _ _ c.block_of-b.ensures c.offset_of-o.ensures
    ∙ (rw (c.eq.ensures, c.has.ensures) at c.if-eq-has.true))

pub loop-f-preserved : goal.loop-f-preserved
loop-f-preserved c =
    below_more _ _ c.loop-f.invariant (
    tested c.args.z c.args.directory.now c.args.n c.loop-f.f _ _ c.block_of-b.ensures c.offset_of-o.ensures
    ∙ (rw (c.eq.ensures, c.has.ensures) at c.if-eq-has.false))

pub returns-clause-found : goal.returns-clause-found
unfolding frame_with
returns-clause-found c = first-is _ _ _ (omega arith) (λ j b. c.loop-f.invariant j (omega arith)) (λ k. absurd (omega arith))
