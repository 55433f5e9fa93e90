use mathlib.Core.Path.{◌≡◌, sym, ap, ◌∙◌}
use mathlib.Core.Bool.{Bool, false, ◌&&◌}
use Prim.Native.Nat.{◌≤◌}
use native.Mathlib.Omega.{arith}
use lib.Dec.{leb, eqb}
use lib.ListN.{length, get_or}
use Rattle.script.specs.Forms.{opening}
use Rattle.script.proofs.With.{is_open_lem, is_write, is_read, is_step, is_flush, is_wear, form-from, from-open, from-write, from-read}
use Rattle.script.proofs.With.{from_step, from-flush, from-wear, from-bad}
use Rattle.script.proofs.form_with.Goals as goal

pub returns-then-is_word-a : goal.returns-then-is_word-a
returns-then-is_word-a c =
    let w = c.args.w.now in
    let n = c.args.a.count in
    let v = c.args.a.values in
    let room : n ≤ length v = omega arith in
    c.opening.ensures ∙ ap opening c.sizes_of.ensures
    ∙ sym (form-from w n v room ∙ from-open w n v
    (ap (λ (b : Bool). b && eqb n 6) (sym c.is_word.ensures) ∙ c.if-is_word-a.true))

pub returns-then-is_word-a-2 : goal.returns-then-is_word-a-2
returns-then-is_word-a-2 c =
    let w = c.args.w.now in
    let n = c.args.a.count in
    let v = c.args.a.values in
    let room : n ≤ length v = omega arith in
    let no1 : is_open_lem w n v ≡ false = ap (λ (b : Bool). b && eqb n 6) (sym c.is_word.ensures) ∙ c.if-is_word-a.false in
    sym (form-from w n v room ∙ from-write w n v no1
    (ap (λ (b : Bool). b && (eqb n 2 && leb (get_or v 1 0) 255)) (sym c.is_word-2.ensures) ∙ c.if-is_word-a-2.true))

pub returns-then-is_word-a-3 : goal.returns-then-is_word-a-3
returns-then-is_word-a-3 c =
    let w = c.args.w.now in
    let n = c.args.a.count in
    let v = c.args.a.values in
    let room : n ≤ length v = omega arith in
    let no1 : is_open_lem w n v ≡ false = ap (λ (b : Bool). b && eqb n 6) (sym c.is_word.ensures) ∙ c.if-is_word-a.false in
    let no2 : is_write w n v ≡ false = ap (λ (b : Bool). b && (eqb n 2 && leb (get_or v 1 0) 255)) (sym c.is_word-2.ensures)
    ∙ c.if-is_word-a-2.false in
    sym (form-from w n v room ∙ from-read w n v no1 no2
    (ap (λ (b : Bool). b && eqb n 1) (sym c.is_word-3.ensures) ∙ c.if-is_word-a-3.true))

pub returns-then-is_word-a-4 : goal.returns-then-is_word-a-4
returns-then-is_word-a-4 c =
    let w = c.args.w.now in
    let n = c.args.a.count in
    let v = c.args.a.values in
    let room : n ≤ length v = omega arith in
    let no1 : is_open_lem w n v ≡ false = ap (λ (b : Bool). b && eqb n 6) (sym c.is_word.ensures) ∙ c.if-is_word-a.false in
    let no2 : is_write w n v ≡ false = ap (λ (b : Bool). b && (eqb n 2 && leb (get_or v 1 0) 255)) (sym c.is_word-2.ensures)
    ∙ c.if-is_word-a-2.false in
    let no3 : is_read w n v ≡ false = ap (λ (b : Bool). b && eqb n 1) (sym c.is_word-3.ensures) ∙ c.if-is_word-a-3.false in
    sym (form-from w n v room ∙ from_step w n v no1 no2 no3
    (ap (λ (b : Bool). b && eqb n 0) (sym c.is_word-4.ensures) ∙ c.if-is_word-a-4.true))

pub returns-then-is_word-a-5 : goal.returns-then-is_word-a-5
returns-then-is_word-a-5 c =
    let w = c.args.w.now in
    let n = c.args.a.count in
    let v = c.args.a.values in
    let room : n ≤ length v = omega arith in
    let no1 : is_open_lem w n v ≡ false = ap (λ (b : Bool). b && eqb n 6) (sym c.is_word.ensures) ∙ c.if-is_word-a.false in
    let no2 : is_write w n v ≡ false = ap (λ (b : Bool). b && (eqb n 2 && leb (get_or v 1 0) 255)) (sym c.is_word-2.ensures)
    ∙ c.if-is_word-a-2.false in
    let no3 : is_read w n v ≡ false = ap (λ (b : Bool). b && eqb n 1) (sym c.is_word-3.ensures) ∙ c.if-is_word-a-3.false in
    let no4 : is_step w n v ≡ false = ap (λ (b : Bool). b && eqb n 0) (sym c.is_word-4.ensures) ∙ c.if-is_word-a-4.false in
    sym (form-from w n v room ∙ from-flush w n v no1 no2 no3 no4
    (ap (λ (b : Bool). b && eqb n 0) (sym c.is_word-5.ensures) ∙ c.if-is_word-a-5.true))

pub returns-then-is_word-a-6 : goal.returns-then-is_word-a-6
returns-then-is_word-a-6 c =
    let w = c.args.w.now in
    let n = c.args.a.count in
    let v = c.args.a.values in
    let room : n ≤ length v = omega arith in
    let no1 : is_open_lem w n v ≡ false = ap (λ (b : Bool). b && eqb n 6) (sym c.is_word.ensures) ∙ c.if-is_word-a.false in
    let no2 : is_write w n v ≡ false = ap (λ (b : Bool). b && (eqb n 2 && leb (get_or v 1 0) 255)) (sym c.is_word-2.ensures)
    ∙ c.if-is_word-a-2.false in
    let no3 : is_read w n v ≡ false = ap (λ (b : Bool). b && eqb n 1) (sym c.is_word-3.ensures) ∙ c.if-is_word-a-3.false in
    let no4 : is_step w n v ≡ false = ap (λ (b : Bool). b && eqb n 0) (sym c.is_word-4.ensures) ∙ c.if-is_word-a-4.false in
    let no5 : is_flush w n v ≡ false = ap (λ (b : Bool). b && eqb n 0) (sym c.is_word-5.ensures) ∙ c.if-is_word-a-5.false in
    sym (form-from w n v room ∙ from-wear w n v no1 no2 no3 no4 no5
    (ap (λ (b : Bool). b && eqb n 0) (sym c.is_word-6.ensures) ∙ c.if-is_word-a-6.true))

pub returns : goal.returns
returns c =
    let w = c.args.w.now in
    let n = c.args.a.count in
    let v = c.args.a.values in
    let room : n ≤ length v = omega arith in
    let no1 : is_open_lem w n v ≡ false = ap (λ (b : Bool). b && eqb n 6) (sym c.is_word.ensures) ∙ c.if-is_word-a.false in
    let no2 : is_write w n v ≡ false = ap (λ (b : Bool). b && (eqb n 2 && leb (get_or v 1 0) 255)) (sym c.is_word-2.ensures)
    ∙ c.if-is_word-a-2.false in
    let no3 : is_read w n v ≡ false = ap (λ (b : Bool). b && eqb n 1) (sym c.is_word-3.ensures) ∙ c.if-is_word-a-3.false in
    let no4 : is_step w n v ≡ false = ap (λ (b : Bool). b && eqb n 0) (sym c.is_word-4.ensures) ∙ c.if-is_word-a-4.false in
    let no5 : is_flush w n v ≡ false = ap (λ (b : Bool). b && eqb n 0) (sym c.is_word-5.ensures) ∙ c.if-is_word-a-5.false in
    let no6 : is_wear w n v ≡ false = ap (λ (b : Bool). b && eqb n 0) (sym c.is_word-6.ensures) ∙ c.if-is_word-a-6.false in
    sym (form-from w n v room ∙ from-bad w n v no1 no2 no3 no4 no5 no6)
