use Rattle.std.proofs.Common.{ℕ, List, refl, set, ap, ◌∙◌, arith}
use Rattle.cache.specs.declared.Directory as code
use Rattle.model.specs.Sizes.{vacant}
use Rattle.model.specs.Directory.{Directory}
use Rattle.cache.specs.View.{page_no, directory_of}
use Rattle.cache.proofs.Entries.{pages_set}
use Rattle.moves.specs.Numbers.{vacated_slots}
use Rattle.moves.proofs.Offset.{apart_of}
use Rattle.moves.proofs.Regiven.{regiven-put, regiven-next, regiven-all}
use Rattle.moves.proofs.join.vacate.Goals as goal

pub loop-i-preserved : goal.loop-i-preserved
unfolding directory_of
loop-i-preserved c = let l = c.loop-i in let s = apart_of _ _ _ c.requires in let i = c.in-Some.i in
    let g = regiven-next _ _ s _ (λ j. vacant) _ _ _ l.invariant.0 l.invariant.1 c.in-Some.ensures.next in
    let high = c.in-Some.ensures.range.1 in let p = s.limits.P_high in (
      omega arith,
      rw (pages_set l.directory.slots i (page_no vacant))
          (regiven-put _ _ s _ (λ j. vacant) i _ vacant (omega arith) (g.next.own high) refl g.has),
      ap (λ (x : code.Directory). record x { slots = set x.slots i (page_no vacant) }) l.invariant.2,
    )

pub returns : goal.returns
unfolding directory_of vacated_slots
returns c = let l = c.loop-i in let s = apart_of _ _ _ c.requires in
    let g = regiven-next _ _ s _ (λ j. vacant) _ _ _ l.invariant.0 l.invariant.1 c.in_default.ensures.next in
    let d : Directory = directory_of c.args.directory.now in
    ap directory_of l.invariant.2 ∙ ap (λ (x : List ℕ). record d { slots = x }) (regiven-all _ _ s _ (λ j. vacant) _ g.has)
