-- The laws of page array, log and book hold, by the cases of the call.
use mathlib.Core.Path.{◌≡◌, refl, ap, ◌∙◌}
use mathlib.Core.Bool.{true, false, not, ◌&&◌}
use mathlib.Core.List.{List, []}
use Prim.Native.Nat.{ℕ, ◌+◌, ◌*◌, ◌/◌}
use native.Mathlib.Omega.{arith}
use lib.Dec.{eqb}
use lib.ListN.{length, get_or, length-set, length-map, get_or-replicate}
use lib.Seq.{get_or-set_same, get_or-set_other}
use borrow.Author.Tests.{lt-ltb, le-ltb, ne_eqb}
use Rattle.prelude.specs.Scan.{count}
use Rattle.prelude.proofs.Tests.{by-test, clash, and_r, not_t}
use Rattle.prelude.proofs.Scan.{count_same}
use Rattle.prelude.proofs.Tab.{length-tab, get_d_tab}
use Rattle.model.specs.Directory.{slot_at, inFrame}
use Rattle.model.specs.Calls.{Answer, open_done, read_done, write_done, step_done, step_clean, flush_done, refused, is_refused, Call, read}
use Rattle.model.specs.Calls.{write, part, step, flush, Page, flash_cells}
use Rattle.model.specs.Lists.{no_cell, array_after, log_after, before_after, is_flush, added_cause, base_after, fed, flash_pages, opened}
use Rattle.model.specs.Lists.{times_cached, block_pages}
use Rattle.model.specs.RulesLists.{cell_of, FlashReadRule, StartsBaseRule, CauseRule, BookHeedsRule, BaseGrownRule, BaseStaysRule}
use Rattle.model.specs.RulesLists.{StartsArrayRule, StartsBookRule, StartsLogRule, StartsBeforeRule, StartsFlushedRule, BookToldRule}
use Rattle.model.specs.RulesLists.{BookRule, RefusedCallRule, NoWriteRule, NoBytesRule, WritePutsRule, PartPutsRule, BeforeGrownRule}
use Rattle.model.specs.RulesLists.{BeforeStaysRule, FlushedRule, TimesCachedRule, BlockPagesRule}
use Rattle.model.proofs.Soundness.{limits_of}
use Rattle.model.proofs.Lookup.{page-div, page-mod}
use Rattle.model.proofs.Buffers.{map-tab, cells-length}
use Rattle.model.proofs.RulesRecord.{start-rule}

-- ---- at the start

pub flash-read_rule : FlashReadRule
unfolding flash_pages flash_cells
flash-read_rule fmt sz u n l = ap (λ (p : List Page). get_or p n []) (map-tab (fmt.chip sz).page (sz.N * sz.K) (cell_of fmt sz u))
    ∙ get_d_tab (sz.N * sz.K) _ [] n l

pub starts-array_rule : StartsArrayRule
unfolding opened flash_pages
starts-array_rule fmt sz u = (length-map (flash_cells fmt sz u) (fmt.chip sz).page ∙ cells-length fmt sz u, flash-read_rule fmt sz u)

pub starts-base_rule : StartsBaseRule
unfolding opened flash_cells
starts-base_rule fmt sz u n l = get_d_tab (sz.N * sz.K) (cell_of fmt sz u) no_cell n l

pub starts-book_rule : StartsBookRule
unfolding opened
starts-book_rule fmt sz u = (start-rule, refl)

pub starts-log_rule : StartsLogRule
unfolding opened
starts-log_rule fmt sz u n x h = h

pub starts-before_rule : StartsBeforeRule
unfolding opened
starts-before_rule fmt sz u b l = (get_or-replicate sz.N b _ [] l, get_or-replicate sz.N b [] [] l)

pub starts-flushed_rule : StartsFlushedRule
unfolding opened
starts-flushed_rule fmt sz u = refl

-- ---- what a call adds

pub cause_rule : CauseRule
cause_rule = ((λ b. (refl, refl)), (λ n b h k. rw (ne_eqb n 7 h, ne_eqb n 14 k)), by_answer)
  where
    by_answer : (a : Answer) → is_refused a ≡ false → added_cause a ≡ 0
    by_answer open_done h = refl
    by_answer (read_done way) h = refl
    by_answer (write_done way b m) h = refl
    by_answer (step_done b m) h = refl
    by_answer step_clean h = refl
    by_answer (flush_done r m) h = refl
    by_answer (refused n b) h = clash refl h

pub book-heeds_rule : BookHeedsRule
book-heeds_rule sz r t a = refl

pub book-told_rule : BookToldRule
book-told_rule sz r r' t t' a a' b c q h = rw (b, c, q, h)

pub book-rule : BookRule
unfolding fed
book-rule sz r c o cs = refl

pub refused-call_rule : RefusedCallRule
unfolding fed array_after log_after
refused-call_rule sz r c o cs e = by_call c
  where
    by_call : (c : Call Page) → (array_after r.array c (is_refused o.answer) ≡ r.array)
        × (log_after r.array r.log c (is_refused o.answer) ≡ r.log)
    by_call (read n x) = (refl, refl)
    by_call (write n x) = (rw e, rw e)
    by_call (part n first x page) = (rw e, rw e)
    by_call step = (refl, refl)
    by_call flush = (refl, refl)

pub no-write_rule : NoWriteRule
unfolding fed array_after log_after
no-write_rule sz r o cs = ((λ n x. (refl, refl)), (refl, refl), (refl, refl))

pub no_bytes-rule : NoBytesRule
unfolding fed array_after log_after
no_bytes-rule sz r o cs n first page = by-test (is_refused o.answer) (λ h. rw h (refl, refl)) (λ h. rw h (refl, refl))

pub write-puts_rule : WritePutsRule
unfolding fed array_after log_after
write-puts_rule sz r o cs n x l h = rw h (record {
  page-is = get_or-set_same r.array n x [] l;
  others = λ j ne. get_or-set_other r.array n j x [] ne;
  long = length-set r.array n x;
  accepted = λ j y. ((λ a. a), (λ a. a));
})

pub part-puts_rule : PartPutsRule
unfolding fed array_after log_after
part-puts_rule sz r o cs n first x page l p h = let q = ne_eqb (length x) 0 (λ z. absurd (omega arith)) in rw (h, q) (record {
  page-is = get_or-set_same r.array n _ [] l;
  others = λ j ne. get_or-set_other r.array n j _ [] ne;
  long = length-set r.array n _;
  accepted = λ j y. ((λ a. a), (λ a. a));
})

pub before-grown_rule : BeforeGrownRule
unfolding fed before_after
before-grown_rule sz r c o cs b l h = let t = lt-ltb (get_or r.book.wear b 0) (get_or o.state.wear b 0) h in
    (get_d_tab sz.N _ [] b l ∙ rw t, get_d_tab sz.N _ [] b l ∙ rw t)

pub before-stays_rule : BeforeStaysRule
unfolding fed before_after
before-stays_rule sz r c o cs b l h = let t = le-ltb (get_or r.book.wear b 0) (get_or o.state.wear b 0) h in
    (get_d_tab sz.N _ [] b l ∙ rw t, get_d_tab sz.N _ [] b l ∙ rw t)

pub base-grown_rule : BaseGrownRule
unfolding fed base_after
base-grown_rule sz r c o cs n l h = get_d_tab (sz.N * sz.K) _ no_cell n l
    ∙ rw (lt-ltb (get_or r.book.wear (n / sz.K) 0) (get_or o.state.wear (n / sz.K) 0) h)

pub base-stays_rule : BaseStaysRule
unfolding fed base_after
base-stays_rule sz r c o cs n l h = get_d_tab (sz.N * sz.K) _ no_cell n l
    ∙ rw (le-ltb (get_or r.book.wear (n / sz.K) 0) (get_or o.state.wear (n / sz.K) 0) h)

pub flushed-rule : FlushedRule
unfolding fed
flushed-rule sz r c o cs = ((λ h. (by_call c h, not_t (and_r (is_flush c) _ h))), λ h. rw (h.0, h.1))
  where
    by_call : (c : Call Page) → (is_flush c && not (is_refused o.answer)) ≡ true → c ≡ flush
    by_call (read n x) h = clash h refl
    by_call (write n x) h = clash h refl
    by_call (part n first x page) h = clash h refl
    by_call step h = clash h refl
    by_call flush h = refl

-- ---- words of demand 3

pub times_cached-rule : TimesCachedRule
unfolding times_cached inFrame
times_cached-rule sz h d b o l = let limits = limits_of sz h in
    ap (λ (k : ℕ). count sz.P (λ i. eqb (slot_at d i) (b * sz.K + o)) + k)
    (count_same sz.B (inFrame sz d (b * sz.K + o)) _ (λ f fl. rw (page-div sz limits b o l, page-mod sz limits b o l)))

pub block_pages-rule : BlockPagesRule
unfolding block_pages
block_pages-rule sz l b = (length-tab sz.K _, λ o h. get_d_tab sz.K _ [] o h)
