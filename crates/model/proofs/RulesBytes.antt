-- The laws of the bytes hold: no call changes how many pages there are or how long they are, so page n of the bytes is the call's.
use mathlib.Core.Path.{◌≡◌, refl, ◌∙◌}
use mathlib.Core.Bool.{false}
use Prim.Native.Nat.{ℕ, zero, suc, ◌+◌, ◌*◌, ◌≤◌}
use native.Mathlib.Omega.{arith}
use lib.Dec.{leb, ltb, eqb}
use lib.Arith.{digits_lt}
use lib.ListN.{length, length-set}
use borrow.Author.Tests.{eqb-true, leb-true}
use Rattle.prelude.proofs.Tests.{by-test, clash}
use Rattle.prelude.proofs.Tab.{length-tab}
use Rattle.prelude.proofs.Pages.{length-laid, page-flat}
use Rattle.model.specs.Sizes.{Sizes}
use Rattle.model.specs.Directory.{Directory}
use Rattle.model.specs.Policy.{Choice, Plan, slot_hit, frame_hit, free_slot, join, fill, exchange, evict, plan, Due, clean, due, due_of}
use Rattle.model.specs.Moves.{Chip, Memory, cell_at, put_slot_page, put_frame_page, filled, joined_pages, exchanged_pages, programmed}
use Rattle.model.specs.Moves.{rewritten_pages}
use Rattle.model.specs.Moves.{stepped_pages, read_page, written_pages}
use Rattle.model.specs.Calls.{is_refused, Call, read, write, part, step, flush, State, checked, part_outcome, decide, steps_pages, Page}
use Rattle.model.specs.Calls.{Cell, Format, CellFits, combined, no_bytes, call_pages, Store, zero_page, memory_of, state_of, told}
use Rattle.model.proofs.EachPage.{read-each, step-each, written-each, flush-each}
use Rattle.model.proofs.Buffers.{OfS, zero-long, Whole, memory-whole, memory-lengths, part-again, fits-of}
use Rattle.model.specs.RulesCalls.{Good, pages_then, LongCells, FlashBytesRule, BytesRule}
use Rattle.model.proofs.RulesRecord.{lengths-rule}
use Rattle.model.proofs.RulesCalls.{accepts-rule}

due-cases : {X : Type 0} (e : Due) → (e ≡ clean → X) → ((b f : ℕ) → e ≡ due b f → X) → X
due-cases clean p q = p refl
due-cases (due b f) p q = q b f refl

-- no call changes how many pages there are
module _ (sz : Sizes) {C A : Type 0} (chip : Chip C A) (filler : A) where
  abbrev Sized : Memory C A → Type 0
  Sized m = (length m.flash ≡ sz.N * sz.K) × (length m.pspace ≡ sz.P) × (length m.bspace ≡ sz.B * sz.K)

  put-sized : (m : Memory C A) (i : ℕ) (x : A) → Sized m → Sized (put_slot_page m i x)
  unfolding put_slot_page
  put-sized m i x h = (h.0, length-set m.pspace i x ∙ h.1, h.2)

  frame-sized : (m : Memory C A) (k : ℕ) (x : A) → Sized m → Sized (put_frame_page m k x)
  unfolding put_frame_page
  frame-sized m k x h = (h.0, h.1, length-set m.bspace k x ∙ h.2)

  join-sized : (d : Directory) (m : Memory C A) (b f : ℕ) → Sized m → Sized (joined_pages filler sz d m b f)
  unfolding joined_pages filled
  join-sized d m b f h = (h.0, h.1, length-tab _ _)

  exchange-sized : (d : Directory) (m : Memory C A) (b f : ℕ) → Sized m → Sized (exchanged_pages filler sz d m b f)
  unfolding exchanged_pages filled
  exchange-sized d m b f h = (h.0, length-tab _ _, length-tab _ _)

  step-sized : (d : Directory) (m : Memory C A) (e : Due) → Sized m → Sized (stepped_pages chip filler sz d m e)
  unfolding stepped_pages rewritten_pages programmed joined_pages
  step-sized d m clean h = h
  step-sized d m (due b f) h = (length-tab _ _, h.1, length-tab _ _)

  write-sized : (d : Directory) (m : Memory C A) (n : ℕ) (x : A) (p : Plan) → Sized m → Sized (written_pages chip filler sz d m n x p)
  unfolding written_pages
  write-sized d m n x (slot_hit i) h = put-sized m i x h
  write-sized d m n x (frame_hit f) h = frame-sized m _ x h
  write-sized d m n x (free_slot i) h = put-sized m i x h
  write-sized d m n x (join v f) h = put-sized _ _ x (join-sized d m v f h)
  write-sized d m n x (fill v f) h = put-sized _ _ x (join-sized d m v f h)
  write-sized d m n x (exchange v f) h = put-sized _ _ x (exchange-sized d m v f h)
  write-sized d m n x (evict v f) h = put-sized _ _ x (join-sized _ _ v f (step-sized d m _ h))

  flush-sized : (pick : Choice) (c : ℕ) (d : Directory) (m : Memory C A) → Sized m → Sized (steps_pages pick sz chip filler c d m)
  unfolding steps_pages
  flush-sized pick zero d m h = h
  flush-sized pick (suc c) d m h = due-cases (due_of pick sz d)
      (λ e. rw (e, steps_pages) h)
      (λ b f e. rw (e, steps_pages) (flush-sized pick c _ _ (step-sized d m (due b f) h)))

-- an accepted write has a page of S bytes, and an accepted part write does not reach past S
module _ (pick : Choice) (sz : Sizes) (k : State) where
  page-long : (n long : ℕ) → is_refused (decide pick sz k (write n long)).answer ≡ false → long ≡ sz.S
  unfolding decide checked
  page-long n long = by-test (eqb long sz.S) (λ e h. eqb-true long sz.S e) (λ e. rw (e, checked) (λ h. clash refl h))

  part-reach : (n first many long : ℕ) → is_refused (decide pick sz k (part n first many long)).answer ≡ false → first + many ≤ sz.S
  unfolding decide checked part_outcome
  part-reach n first many long = by-test (leb (first + many) sz.S) (λ q h. leb-true (first + many) sz.S q)
      (λ q. by-test (eqb long sz.S)
      (λ e. rw (e, checked) (by-test (ltb n (sz.N * sz.K)) (λ e'. rw e' (rw (q, part_outcome) (λ h. clash refl h)))
      (λ e'. rw e' (λ h. clash refl h))))
      (λ e. rw (e, checked) (λ h. clash refl h)))

module _ (fmt : Format) (pick : Choice) (s : Store) (g : Good fmt s) (cells : LongCells fmt s.cache.sizes) where
  abbrev sz : Sizes
  sz = s.cache.sizes

  abbrev chip : Chip Cell Page
  chip = fmt.chip sz

  abbrev m : Memory Cell Page
  m = memory_of fmt sz s.lent

  before : Sized sz chip (zero_page sz) m × Whole fmt sz m
  before = let f = fits-of fmt sz s.lent ((lengths-rule fmt sz s.lent).1 g.1) in
      (memory-lengths fmt sz s.lent, memory-whole fmt sz s.lent f (cells.0 (zero_page sz) (zero-long fmt sz)))

  -- a written page of S bytes leaves pages of S bytes
  write-whole : (n : ℕ) (x : Page) (p : Plan) → length x ≡ sz.S
      → Whole fmt sz (written_pages chip (zero_page sz) sz s.cache.directory m n x p)
  write-whole n x p l = written-each chip (zero_page sz) (CellFits fmt sz) (OfS fmt sz) (zero-long fmt sz) cells.0 cells.1 sz
      s.cache.directory m n x p before.1 l

  pages-good : (c : Call Page) → is_refused (decide pick sz (state_of s) (told c)).answer ≡ false
      → Sized sz chip (zero_page sz) (pages_then fmt pick s c) × Whole fmt sz (pages_then fmt pick s c)
  unfolding call_pages combined
  pages-good (read n x) h = before
  pages-good (write n x) h = let d = s.cache.directory in let p = plan pick sz d s.lent.wear n in
      (write-sized sz chip (zero_page sz) d m n x p before.0, write-whole n x p (page-long pick sz (state_of s) n (length x) h))
  pages-good (part n first x page) h = by-test (no_bytes x)
      (λ e. rw (e, call_pages) before)
      (λ e. let d = s.cache.directory in let p = plan pick sz d s.lent.wear n in let pg = read_page chip (zero_page sz) sz d m n in
      let r = part-reach pick sz (state_of s) n first (length x) (length page) h in
      let pl : length pg ≡ sz.S = read-each chip (zero_page sz) (CellFits fmt sz) (OfS fmt sz) (zero-long fmt sz) cells.0 cells.1 sz
      d m n before.1 in
      rw (e, call_pages)
      (write-sized sz chip (zero_page sz) d m n _ p before.0, write-whole n _ p (length-laid first x pg (omega arith) ∙ pl)))
  pages-good step h = (
    step-sized sz chip (zero_page sz) _ m _ before.0,
    step-each chip (zero_page sz) (CellFits fmt sz) (OfS fmt sz) (zero-long fmt sz) cells.0 cells.1 sz _ m _ before.1,
  )
  pages-good flush h = (
    flush-sized sz chip (zero_page sz) pick sz.N _ m before.0,
    flush-each chip (zero_page sz) (CellFits fmt sz) (OfS fmt sz) (zero-long fmt sz) cells.0 cells.1 sz pick sz.N _ m before.1,
  )

pub flash-bytes_rule : FlashBytesRule
unfolding cell_at
flash-bytes_rule fmt pick besides s c cells a n nl = let t = accepts-rule fmt pick besides s c a in let z = s.cache.sizes in
    let q = pages_then fmt pick s c in let p = pages-good fmt pick s a.good cells c a.not-refused in
    let w = p.1.flash in let fl = p.0.0 in (
      rw t.flash-is (part-again fmt z q.flash w fl z.S (λ (x : Cell). x.bytes) (λ k. (w k).0) n nl),
      rw t.codes-are (part-again fmt z q.flash w fl (fmt.code_long z) (λ (x : Cell). x.code) (λ k. (w k).1) n nl),
      rw t.marks-are (part-again fmt z q.flash w fl (fmt.mark_long z) (λ (x : Cell). x.mark) (λ k. (w k).2) n nl),
    )

pub bytes-rule : BytesRule
bytes-rule fmt pick besides s c cells a = let t = accepts-rule fmt pick besides s c a in let z = s.cache.sizes in
    let q = pages_then fmt pick s c in let p = pages-good fmt pick s a.good cells c a.not-refused in
    let pl = p.0.1 in let bl = p.0.2 in (
      (λ i il. rw t.pspace-is (page-flat z.S q.pspace (zero_page z) (λ j k. p.1.pspace j) i (omega arith))),
      (λ f o gl ol. let dl = digits_lt gl ol in
          rw t.bspace-is (page-flat z.S q.bspace (zero_page z) (λ j k. p.1.bspace j) (f * z.K + o) (rw bl dl))),
    )
