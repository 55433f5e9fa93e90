-- Refusal 0 in the numbers of an answer is an accepted call: no refusal of the model has the number 0.
use mathlib.Core.Path.{◌≡◌, refl, ap}
use mathlib.Core.Bool.{false, not, ◌&&◌}
use mathlib.Core.List.{List}
use Prim.Native.Nat.{ℕ, suc, ◌+◌, ◌*◌}
use native.Mathlib.Omega.{arith}
use lib.Dec.{leb, ltb, eqb}
use lib.ListN.{length, get_or}
use borrow.Author.Tests.{eqb-false}
use Rattle.prelude.specs.Scan.{all}
use Rattle.prelude.proofs.Tests.{by-test}
use Rattle.model.specs.Sizes.{Sizes, vacant, sizes_ok}
use Rattle.model.specs.Policy.{Choice, Plan, erased_by, Due, clean, due, due_of, is_worn, lowest_worn}
use Rattle.model.specs.Calls.{Answer, open_done, read_done, write_done, step_done, step_clean, flush_done, refused, is_refused, Call, read}
use Rattle.model.specs.Calls.{write, part, step, flush, State, Outcome, checked, read_outcome}
use Rattle.model.specs.Calls.{write_outcome, part_outcome, step_outcome, flush_outcome, decide, Buffers, lent_ok, open_store, heeding}
use Rattle.model.specs.Calls.{told}
use Rattle.model.specs.Formats.{store_format}
use Rattle.model.specs.Lists.{added_cause}
use Rattle.model.specs.Shelf.{shelved, ShelfCall, is_back, meant, ShelfReference, shelf_book_says, open_shelf, store_open}
use Rattle.replies.specs.Numbers.{answer_numbers, numbers_of}

-- the number says whether the call is refused
abbrev pub Numbered : Answer → Type 0
Numbered a = (mended : ℕ) → (numbers_of a mended).refusal ≡ 0 → is_refused a ≡ false

not-0 : {A : Type 0} (n : ℕ) → suc n ≡ 0 → A
not-0 n e = absurd (omega arith)

module _ (sz : Sizes) (k : State) where
  checked-numbered : (n long : ℕ) (o : Outcome) → Numbered o.answer → Numbered (checked sz k n long o).answer
  unfolding checked
  checked-numbered n long o g = by-test (eqb long sz.S)
      (λ e. rw (e, checked) (by-test (ltb n (sz.N * sz.K)) (λ e'. rw e' g) (λ e'. rw e' (λ m. not-0 4))))
      (λ e. rw (e, checked) (λ m. not-0 1))

  write-numbered : (n : ℕ) (p : Plan) → Numbered (write_outcome sz k n p).answer
  unfolding write_outcome
  write-numbered n p = by-test (is_worn sz k.wear (erased_by k.directory p))
      (λ e. rw (e, write_outcome) (λ m. not-0 5)) (λ e. rw (e, write_outcome) (λ m q. refl))

  part-numbered : (first many : ℕ) (w : Outcome) → Numbered w.answer → Numbered (part_outcome sz k first many w).answer
  unfolding part_outcome
  part-numbered first many w g = by-test (leb (first + many) sz.S)
      (λ e. rw (e, part_outcome) (by-test (eqb many 0) (λ e'. rw e' (λ m q. refl)) (λ e'. rw e' g)))
      (λ e. rw (e, part_outcome) (λ m. not-0 1))

  step-numbered : (d : Due) → Numbered (step_outcome sz k d).answer
  unfolding step_outcome
  step-numbered clean = λ m q. refl
  step-numbered (due b f) = by-test (is_worn sz k.wear b)
      (λ e. rw (e, step_outcome) (λ m. not-0 5)) (λ e. rw (e, step_outcome) (λ m q. refl))

  flush-numbered : (pick : Choice) → Numbered (flush_outcome pick sz k).answer
  unfolding flush_outcome
  flush-numbered pick = by-test (ltb (lowest_worn sz k.directory k.wear) sz.N)
      (λ e. rw (e, flush_outcome) (λ m. not-0 5)) (λ e. rw (e, flush_outcome) (λ m q. refl))

  pub decide-numbered : (pick : Choice) (c : Call ℕ) → Numbered (decide pick sz k c).answer
  unfolding decide read_outcome
  decide-numbered pick (read n long) = checked-numbered n long (read_outcome sz k n) (λ m q. refl)
  decide-numbered pick (write n long) = checked-numbered n long _ (write-numbered n _)
  decide-numbered pick (part n first many long) = checked-numbered n long _ (part-numbered first many _ (write-numbered n _))
  decide-numbered pick step = step-numbered (due_of pick sz k.directory)
  decide-numbered pick flush = flush-numbered pick

pub heeding-numbered : (k : State) (late : ℕ) (o : Outcome) → Numbered o.answer → Numbered (heeding k late o).answer
unfolding heeding
heeding-numbered k late o g = by-test (is_refused o.answer) (λ e. rw (e, heeding) g)
    (λ e. rw (e, heeding) (by-test (eqb late 0) (λ t. rw t g) (λ t. rw t (λ m q. absurd (eqb-false late 0 t q)))))

-- what the book says of a call
pub book-numbered : (sz : Sizes) (h : ℕ) (r : ShelfReference) (pick : Choice) (c : ShelfCall) (a : Answer)
    → Numbered (shelf_book_says sz h r (record { choice = pick; call = c }) a).answer
unfolding shelf_book_says
book-numbered sz h r pick c a = by-test (is_back c && eqb (shelved r.entries) 0) (λ e. rw (e, shelf_book_says) (λ m. not-0 7))
    (λ e. rw (e, shelf_book_says) (heeding-numbered r.reference.book (added_cause a) _
    (decide-numbered sz r.reference.book pick (told (meant r.entries r.shelf c)))))

-- the number of a refusal tells the book as much as the answer
told_same : (a : Answer) (mended : ℕ) → added_cause (refused (numbers_of a mended).refusal vacant) ≡ added_cause a
told_same open_done mended = refl
told_same (read_done way) mended = refl
told_same (write_done way b m) mended = refl
told_same (step_done b m) mended = refl
told_same step_clean mended = refl
told_same (flush_done r m) mended = refl
told_same (refused n b) mended = refl

pub said_same : (sz : Sizes) (h : ℕ) (r : ShelfReference) (pick : Choice) (c : ShelfCall) (a : Answer) (mended : ℕ)
    → shelf_book_says sz h r (record { choice = pick; call = c }) (refused (numbers_of a mended).refusal vacant)
    ≡ shelf_book_says sz h r (record { choice = pick; call = c }) a
unfolding shelf_book_says
said_same sz h r pick c a mended = by-test (is_back c && eqb (shelved r.entries) 0) (λ e. rw (e, shelf_book_says))
    (λ e. rw (e, shelf_book_says) (ap (λ (n : ℕ). heeding r.reference.book n (decide pick sz r.reference.book
    (told (meant r.entries r.shelf c)))) (told_same a mended)))

below-numbered : (sz : Sizes) (u : Buffers) (torn : ℕ) → (answer_numbers (open_store store_format sz u).answer 0 torn).refusal ≡ 0
    → (open_store store_format sz u).answer ≡ open_done
unfolding open_store
below-numbered sz u torn = by-test (sizes_ok sz)
    (λ e. rw (e, open_store) (by-test (lent_ok store_format sz u)
    (λ e'. rw e' (by-test (all sz.N (λ b. leb (get_or u.wear b 0) sz.W)) (λ e''. rw e'' (λ q. refl)) (λ e''. rw e'' (not-0 2))))
    (λ e'. rw e' (not-0 1))))
    (λ e. rw (e, open_store) (not-0 0))

pub opening-numbered : (sz : Sizes) (u : Buffers) (shelf : List ℕ) (torn : ℕ)
    → (answer_numbers (store_open sz u shelf).answer 0 torn).refusal ≡ 0
    → (store_open sz u shelf).answer ≡ open_done
unfolding open_shelf
opening-numbered sz u shelf torn = by-test (sizes_ok sz && not (eqb (length shelf) (sz.shelf_pages * sz.S)))
    (λ e. rw (e, open_shelf) (not-0 1)) (λ e. rw (e, open_shelf) (below-numbered sz u torn))
