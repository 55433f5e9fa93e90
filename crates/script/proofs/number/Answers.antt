use mathlib.Core.Bool.{true}
use mathlib.Core.Path.{◌≡◌, sym, ap, ◌∙◌}
use Rattle.std.specs.Prelude.{Some}
use Prim.Native.Nat.{ℕ, ◌+◌, ◌-◌, ◌*◌}
use native.Mathlib.Omega.{arith}
use lib.Dec.{eqb}
use lib.ListN.{length, drop, get_or}
use borrow.Author.Count.{below_more}
use Rattle.script.specs.Forms.{is_digit, value_from, value_of}
use Rattle.script.proofs.Value.{Number, value-more, value-end, value-le, digit-in, digit-out, digit-is, lead-bad, lead-good, none}
use Rattle.script.proofs.Value.{number-facts, number_is}
use Rattle.script.proofs.number.Goals as goal

pub returns-then-n-eq0 : goal.returns-then-n-eq0
returns-then-n-eq0 c =
    sym (none c.args.w.now (λ e. let z = (number-facts c.args.w.now e).some in omega arith))

pub returns-then-w-n : goal.returns-then-w-n
returns-then-w-n c =
    sym (none c.args.w.now (λ e. lead-bad (eqb (get_or c.args.w.now 0 0) 48) (eqb (length c.args.w.now) 1)
    c.if-w-n.true (number-facts _ e).first))

pub returns-then-x : goal.returns-then-x
returns-then-x c =
    let w = c.args.w.now in
    sym (none w (λ e. digit-out (get_or w c.loop-x.x-index 0) c.if-x.true
    ((number-facts w e).digit c.loop-x.x-index c.loop-x-test.true)))

pub returns-then-v-gt4294967295 : goal.returns-then-v-gt4294967295
returns-then-v-gt4294967295 c =
    let w = c.args.w.now in
    let v = c.loop-x.v * 10 + (get_or w c.loop-x.x-index 0 - 48) in
    let e = c.from.ensures in
    let m : value_of w ≡ value_from v (drop (c.loop-x.x-index + 1) w) = c.loop-x.invariant.1
    ∙ value-more c.loop-x.v w c.loop-x.x-index c.loop-x-test.true in
    let l = value-le v (drop (c.loop-x.x-index + 1) w) in
    sym (none w (λ n. let s = (number-facts w n).small in omega arith))

pub loop-x-preserved : goal.loop-x-preserved
loop-x-preserved c =
    let w = c.args.w.now in
    let x = get_or w c.loop-x.x-index 0 in
    let d = digit-in x c.if-x.false in
    let e : c.loop-x.v * 10 + (x - 48) ≡ c.loop-x.v * 10 + c.from.result = ap (λ (k : ℕ). c.loop-x.v * 10 + k) (sym c.from.ensures) in (
      omega arith,
      c.loop-x.invariant.1 ∙ value-more c.loop-x.v w c.loop-x.x-index c.loop-x-test.true
          ∙ ap (λ (k : ℕ). value_from k (drop (c.loop-x.x-index + 1) w)) e,
      below_more (λ (j : ℕ). is_digit (get_or w j 0) ≡ true) c.loop-x.x-index c.loop-x.invariant.2 (digit-is x d.0 d.1),
    )

pub returns : goal.returns
returns c =
    let w = c.args.w.now in
    let m : value_of w ≡ c.loop-x.v = c.loop-x.invariant.1 ∙ value-end c.loop-x.v w c.loop-x.x-index c.loop-x-test.false in
    let n : Number w = record {
      some = omega arith;
      digit = λ j h. c.loop-x.invariant.2 j (omega arith);
      first = lead-good (eqb (get_or w 0 0) 48) (eqb (length w) 1) c.if-w-n.false;
      small = omega arith;
    } in
    sym (number_is w n ∙ ap Some m)
