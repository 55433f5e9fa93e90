-- Each operation ends as it is said to.
use mathlib.Core.Path.{◌≡◌, refl}
use mathlib.Core.Logic.{inl, inr}
use mathlib.Core.Bool.{Bool, true, false, not}
use mathlib.Core.List.{List, [], ◌∷◌}
use Prim.Native.Nat.{ℕ, ◌<◌}
use native.Mathlib.Omega.{arith}
use lib.Dec.{ltb}
use borrow.Author.Tests.{ltb-true, ltb-false}
use Rattle.prelude.proofs.Tests.{and_l, and_r, not_f}
use Rattle.runs.specs.Sheet.{Sheet}
use Rattle.runs.specs.Runs.{sheet_at, find, known, first_empty, largest, full, position}
use Rattle.runs.specs.Ranges.{range_ok, index_ok}
use Rattle.runs.specs.Roles.{add, look, list, read, replace, mark, Caller}
use Rattle.runs.specs.Current.{replaced}
use Rattle.runs.specs.Verdict.{Verdict, refuse, unless, new_sheet, placing, adding, looking, listing, reading, replacing}
use Rattle.runs.specs.Verdict.{marking, verdict}
use Rattle.runs.specs.RulesEnds.{Shows, Tells, Fetches, Puts, EndsRule}
use Rattle.runs.proofs.Rules.{index_rule}

-- what holds of a refusal, and of what follows where the test fails, holds of both
either : (P : Verdict → Type 0) (b : Bool) (n : ℕ) (v : Verdict) → P (refuse n) → (b ≡ false → P v) → P (unless b n v)
unfolding unless
either P true n v r h = r
either P false n v r h = h refl

-- a run that may be added is put on one of the c pages, with a number that fits
module _ (c : ℕ) (ss : List Sheet) (w : Caller) (number : w.number < 4294967296) (room : full c ss ≡ false) where
  placing-ends : (pages r s f n : ℕ) → r < 4294967296 → s < 4294967296 → f < 4294967296 → n < 4294967296
      → (ns : List ℕ) → Puts c ns (refuse 11) → Puts c ns (placing c ss pages (new_sheet c ss w r s f n))
  unfolding placing new_sheet full
  placing-ends pages r s f n rl sl fl nl ns e =
      let a = not_f room in
      let l = ltb-true (largest c ss) 4294967294 (and_r (ltb (first_empty c ss) c) _ a) in
      either (Puts c ns) (not (range_ok c ss pages f n)) 11 _ e (λ t. (
        ltb-true (first_empty c ss) c (and_l (ltb (first_empty c ss) c) _ a),
        record {
          run-word = omega arith;
          trainee-word = number;
          sample-word = sl;
          first_word = fl;
          count_word = nl;
          mark-word = omega arith;
          replaces-word = rl;
        },
      ))

pub ends-rule : EndsRule
unfolding verdict adding looking listing reading replacing marking
ends-rule c pages ss words w number (add s f n) h = either (Puts c (9 ∷ 11 ∷ [])) (full c ss) 9 _ (inl refl)
    (λ room. placing-ends c ss w number room pages 0 s f n (omega arith) h.0 h.1 h.2 (9 ∷ 11 ∷ []) (inr (inl refl)))
ends-rule c pages ss words w number (look r) h = either (Shows (10 ∷ [])) (not (known c ss r)) 10 _ (inl refl) (λ t. tt)
ends-rule c pages ss words w number (list p) h = either (Tells (10 ∷ [])) (not (ltb (position c ss p) c)) 10 _ (inl refl) (λ t. tt)
ends-rule c pages ss words w number (read r x) h = let kind = Fetches c pages (10 ∷ 11 ∷ []) in
    either kind (not (known c ss r)) 10 _ (inl refl)
    (λ t. either kind (not (index_ok c pages (sheet_at ss (find c ss r)) x)) 11 _ (inr (inl refl))
    (λ u. let k = (index_rule c pages (sheet_at ss (find c ss r)) x).holds (not_f u) in (k.1, k.2)))
ends-rule c pages ss words w number (replace r s f n) h = let ns : List ℕ = 9 ∷ 10 ∷ 13 ∷ 11 ∷ [] in
    either (Puts c ns) (full c ss) 9 _ (inl refl)
    (λ room. either (Puts c ns) (not (known c ss r)) 10 _ (inr (inl refl))
    (λ t. either (Puts c ns) (replaced c ss r) 13 _ (inr (inr (inl refl)))
    (λ u. placing-ends c ss w number room pages r s f n h.0 h.1 h.2 h.3 ns (inr (inr (inr (inl refl)))))))
ends-rule c pages ss words w number (mark r m) h = let ns : List ℕ = 10 ∷ 13 ∷ 11 ∷ [] in
    either (Puts c ns) (not (known c ss r)) 10 _ (inl refl)
    (λ t. either (Puts c ns) (replaced c ss r) 13 _ (inr (inl refl))
    (λ u. either (Puts c ns) (ltb 100 m) 11 _ (inr (inr (inl refl)))
    (λ v. let l = ltb-true (find c ss r) c (not_f t) in let k = words (find c ss r) l in let low = ltb-false 100 m v in (
      l,
      record {
        run-word = k.run-word;
        trainee-word = k.trainee-word;
        sample-word = k.sample-word;
        first_word = k.first_word;
        count_word = k.count_word;
        mark-word = omega arith;
        replaces-word = k.replaces-word;
      },
    ))))
