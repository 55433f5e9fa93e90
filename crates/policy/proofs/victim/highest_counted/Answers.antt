use Rattle.std.proofs.Common.{◌≡◌, refl, arith}
use Rattle.cache.specs.View.{sizes_of, directory_of}
use Rattle.policy.proofs.Held.{held, held_vacant, slot_read}
use Rattle.policy.proofs.Counts.{few, counted_none, counted-vacant, counted_more, counted-all}
use Rattle.policy.proofs.victim.highest_counted.Goals as goal
use Rattle.policy.proofs.victim.highest_counted.Goals.{then-n-lt-VACANT, else-n-lt-VACANT}

pub loop-n-init : goal.loop-n-init
loop-n-init c = counted_none _ _ c.requires.0.sound.limits _ c.requires.1

pub overflow_add-pages : goal.overflow_add-pages
overflow_add-pages c =
    let l = c.loop-n in
    let s = c.requires.0 in
    let p = s.sound.limits.P_high in
    let h = held c.args.z c.args.directory.now s l.n-index _ (omega arith) c.if-n-lt-VACANT.true c.block_by-b.ensures in
    let f = few _ _ l.n-index l.counts l.lead c.block_by-b.result.0 l.invariant (omega arith) h.2 in
    record { fits = omega arith }

pub loop-n-preserved : goal.loop-n-preserved
loop-n-preserved c =
    let l = c.loop-n in
    let s = c.requires.0 in
    let sz = sizes_of c.args.z in
    let d = directory_of c.args.directory.now in
    elim c.if-n-lt-VACANT.branch [
      | then-n-lt-VACANT w ↦
          let h = held c.args.z c.args.directory.now s l.n-index _ (omega arith) w.if-n-lt-VACANT.true w.block_by-b.ensures in
          rw (w.counts-is, w.lead-is, w.max-lead.ensures) (counted_more sz d l.n-index l.counts l.lead l.invariant _ _ h.0 h.1 h.2 refl)
      | else-n-lt-VACANT w ↦
          let e = slot_read c.args.directory.now c.args.z.slots l.n-index (omega arith) in
          rw (w.counts-is, w.lead-is) (counted-vacant sz d l.n-index l.counts l.lead l.invariant
          (held_vacant sz d l.n-index s (omega arith) (rw e at w.if-n-lt-VACANT.false)))
    ]

pub returns : goal.returns
returns c =
    let l = c.loop-n in
    let e : l.n-index ≡ c.args.z.slots = omega arith in
    counted-all _ _ c.requires.0.sound.limits l.counts l.lead (rw e at l.invariant)
