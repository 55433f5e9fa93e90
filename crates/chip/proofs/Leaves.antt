-- The functions that ask for an option: with it and without.
use mathlib.Core.Path.{◌≡◌, sym, ap, ap₂, ◌∙◌}
use Rattle.std.specs.Prelude.{None, Some, Result, Ok, Err}
use mathlib.Core.Bool.{Bool, true, false, not, cond, ◌&&◌}
use mathlib.Core.List.{List, [], ◌∷◌}
use Prim.Native.Nat.{ℕ, ◌*◌, ◌/◌, ◌≤◌, ◌<◌}
use native.Mathlib.Nat.{mul-zero, mul-one}
use native.Mathlib.Numerals.{add-one}
use native.Mathlib.Omega.{arith}
use lib.Dec.{eqb}
use lib.ListN.{length, get_or, set, drop, take-append-drop}
use lib.Seq.{set_split, get_or-take, get_or-drop}
use Rattle.prelude.specs.Pages.{page_at, put_page}
use Rattle.prelude.proofs.Tests.{not_f, not_t, and_l, and_r}
use borrow.Author.Tests.{eqb-false}
use Rattle.model.specs.Calls.{torn_blocks}
use Rattle.model.proofs.Soundness.{coded-off, marked-off}
use Rattle.model.proofs.RulesRecord.{torn_blocks-rule}
use Rattle.model.proofs.Shelving.{empty-is}
use Rattle.prelude.proofs.Scan.{count-le, count_none, count-hit, count-miss}
use Rattle.prelude.proofs.Pages.{in_run}
use Rattle.model.specs.Sizes.{Sizes, is_coded, is_marked}
use Rattle.model.specs.Calls.{Page}
use Rattle.ecc.specs.declared.Unreadable.{Unreadable}
use Rattle.codes.specs.Code.{codes_of}
use Rattle.codes.specs.Reading.{page_legible, page_mended, page_mends}
use Rattle.ecc.specs.Checks.{checked, Decoded}
use Rattle.ecc.proofs.Checking.{unreadable-is, readable-is, mends-is}
use Rattle.page.specs.Page.{HasPage}
use Rattle.model.specs.Formats.{page_code, code_for, code_long, mark_long}
use Rattle.answer.specs.declared.fault.Fault.TheVariants as faults
use Rattle.chip.specs.Formats.{read_at, unreadable_at, mends_at}
use Rattle.chip.specs.Chip.{CodesLent, CodeLooked, torn_at}
use Rattle.chip.proofs.Looking.{unread-plain, mends-plain}

-- ---- marks

mark-at : (l : List ℕ) (n : ℕ) → get_or (page_at 1 l n) 0 0 ≡ get_or l n 0
unfolding page_at
mark-at l n = get_or-take 1 (drop (n * 1) l) 0 0 (omega arith) ∙ get_or-drop (n * 1) l 0 0 ∙ ap (λ (i : ℕ). get_or l i 0) (omega arith)

put_one : (l : List ℕ) (n x : ℕ) → n < length l → put_page 1 l n (x ∷ []) ≡ set l n x
unfolding put_page
put_one l n x h = rw (mul-one n, add-one) (sym (set_split l n x h))

-- a page of no bytes
pub put-none : (l : List ℕ) (n : ℕ) → put_page 0 l n [] ≡ l
unfolding put_page
put-none l n = rw (mul-zero n) (take-append-drop 0 l)

-- a store without codes and marks, by the tests of the code
pub no-option : (sz : Sizes) → (not (eqb sz.coded 1) && not (eqb sz.marked 1)) ≡ true → (is_coded sz ≡ false) × (is_marked sz ≡ false)
no-option sz e =
    let a = eqb-false sz.coded 1 (not_t (and_l (not (eqb sz.coded 1)) (not (eqb sz.marked 1)) e)) in
    let b = eqb-false sz.marked 1 (not_t (and_r (not (eqb sz.coded 1)) (not (eqb sz.marked 1)) e)) in
    (coded-off sz a, marked-off sz b)

-- the lengths that the option asks for: a mark for each page, or none, and then no block is torn
module _ (sz : Sizes) (marks : List ℕ) where
  pub marks-all : is_marked sz ≡ true → length marks ≡ sz.N * sz.K * mark_long sz → length marks ≡ sz.N * sz.K
  marks-all e l = let q : length marks ≡ sz.N * sz.K * 1 = l ∙ rw e in omega arith

  pub no-torn : is_marked sz ≡ false → length marks ≡ sz.N * sz.K * mark_long sz → torn_blocks sz marks ≡ 0
  no-torn e l = let q : length marks ≡ sz.N * sz.K * 0 = l ∙ rw e in (torn_blocks-rule sz marks).1 (empty-is marks (omega arith))

module _ (sz : Sizes) (marks : List ℕ) (n : ℕ) where
  pub torn-marked : is_marked sz ≡ true → not (eqb (get_or marks n 0) 0) ≡ torn_at sz marks n
  torn-marked e = rw (e, mark-at marks n)

  pub torn-unmarked : is_marked sz ≡ false → false ≡ torn_at sz marks n
  torn-unmarked e = rw e

  module _ (m : ℕ) (long : length marks ≡ m * mark_long sz) (l : n < m) where
    pub mark-in : is_marked sz ≡ true → n < length marks
    mark-in e = let q : length marks ≡ m * 1 = long ∙ rw e in omega arith

    pub marked-is : is_marked sz ≡ true → set marks n 0 ≡ put_page (mark_long sz) marks n (cond (is_marked sz) (0 ∷ []) [])
    marked-is e = rw e (sym (put_one marks n 0 (mark-in e)))

  pub unmarked-is : is_marked sz ≡ false → marks ≡ put_page (mark_long sz) marks n (cond (is_marked sz) (0 ∷ []) [])
  unmarked-is e = rw e (sym (put-none marks n))

-- ---- codes

module _ (sz : Sizes) (flash codes : List ℕ) (n : ℕ) where
  -- there are none
  pub uncoded-looked : is_coded sz ≡ false → CodeLooked sz flash codes n (record { fault = None; mends = 0 })
  uncoded-looked e = record {
    fault-is = rw (unread-plain (is_coded sz) e sz (page_at sz.S flash n) (page_at (code_long sz) codes n));
    mends-are = sym (mends-plain (is_coded sz) e sz _ _);
  }

  pub uncoded-is : is_coded sz ≡ false
      → codes ≡ put_page (code_long sz) codes n ((code_for (is_coded sz)).code_of sz (page_at sz.S flash n))
  uncoded-is e = rw (code_long, e) (sym (put-none codes n))

  module _ (h : CodesLent sz flash codes) (l : n < sz.N * sz.K) (coded : is_coded sz ≡ true) where
    abbrev m : ℕ
    m = sz.S / 256

    abbrev raw : Page
    raw = page_at (m * 256) flash n

    abbrev code : List ℕ
    code = page_at (m * 3) codes n

    whole : m * 256 ≡ sz.S
    whole = h.whole coded

    long-is : code_long sz ≡ m * 3
    unfolding page_code
    long-is = rw (code_long, coded)

    pub has-raw : HasPage (m * 256) flash n
    has-raw = rw whole (in_run sz.S (sz.N * sz.K) flash h.flash-length l)

    pub has_code : HasPage (m * 3) codes n
    has_code = rw (← long-is) (in_run (code_long sz) (sz.N * sz.K) codes h.codes-length l)

    unread-is : unreadable_at sz flash codes n ≡ not (page_legible m raw code)
    unfolding page_code
    unread-is = rw (unreadable_at, code_long, coded, whole)

    mends-are : mends_at sz flash codes n ≡ page_mends m raw code
    unfolding page_code
    mends-are = rw (mends_at, code_long, coded, whole)

    read_is : read_at sz flash codes n ≡ page_mended m raw code
    unfolding page_code
    read_is = rw (read_at, code_long, coded, whole)

    unread-mends : page_legible m raw code ≡ false → page_mends m raw code ≡ 0
    unfolding page_mends
    unread-mends q = rw q

    few-of : (b : Bool) {n : ℕ} → n ≤ m → cond b n 0 ≤ m
    few-of true l = l
    few-of false l = omega arith

    pub looked-unreadable : (r : Unreadable) → Err r ≡ checked m raw code
        → CodeLooked sz flash codes n (record { fault = Some faults.Unreadable; mends = 0 })
    looked-unreadable r e = let q = unreadable-is m raw code r e in record {
      fault-is = rw (unread-is, q);
      mends-are = rw (mends-are, unread-mends q);
    }

    pub looked-readable : (k : ℕ) → Ok k ≡ checked m raw code → CodeLooked sz flash codes n (record { fault = None; mends = k })
    looked-readable k e = let q = readable-is m raw code k e in record {
      fault-is = rw (unread-is, q);
      mends-are = mends-is m raw code k e
          ∙ sym mends-are;
    }

    pub few-mends : (k : ℕ) → Ok k ≡ checked m raw code → k ≤ 8
    unfolding page_mends
    few-mends k e = let q : k ≡ page_mends m raw code = mends-is m raw code k e in
        let c : page_mends m raw code ≤ m = few-of (page_legible m raw code) (count-le m _) in let b = h.limits.S_high in omega arith

    pub coded-is : (codes' : List ℕ) → codes' ≡ put_page (m * 3) codes n (codes_of m raw)
        → codes' ≡ put_page (code_long sz) codes n ((code_for (is_coded sz)).code_of sz (page_at sz.S flash n))
    unfolding page_code
    coded-is codes' e = rw (code_long, coded) (rw whole at e)

    pub mended-is : unreadable_at sz flash codes n ≡ false → (dst : List ℕ) (di : ℕ) (r : Result ℕ Unreadable) (dst' : List ℕ)
        → Decoded m dst di raw code r dst' → dst' ≡ put_page sz.S dst di (read_at sz flash codes n)
    mended-is u dst di r dst' d = let q : page_legible m raw code ≡ true = not_f (sym unread-is ∙ u) in
        let e : dst' ≡ put_page (m * 256) dst di (page_mended m raw code) = d.data' ∙ rw q in
        e ∙ ap₂ (λ (s : ℕ) (x : Page). put_page s dst di x) whole (sym read_is)

-- what the functions that ask for a mark, or for a code, are proved by
pub ruleset marking = (mark-in, torn-marked, torn-unmarked, marked-is, unmarked-is, no-torn, marks-all)

pub ruleset coding = (uncoded-looked, coded-is, uncoded-is)

pub ruleset counting = (count_none, count-hit, count-miss)
