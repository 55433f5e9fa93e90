-- Request A12: a block is whole after an accepted flush, if something was accepted for one of its pages since opening.
use mathlib.Core.Path.{◌≡◌, refl, sym, ap, ◌∙◌}
use mathlib.Core.Logic.{◌⊎◌, inl, inr}
use mathlib.Core.Bool.{Bool, true, false, cond, ◌&&◌, ◌||◌}
use mathlib.Core.List.{List, [], ◌∷◌}
use Prim.Native.Nat.{ℕ, ◌+◌, ◌-◌, ◌*◌, ◌/◌, ◌≤◌, ◌<◌}
use native.Mathlib.Omega.{arith}
use lib.Arith.{digits_lt}
use lib.Dec.{leb, ltb, eqb}
use lib.ListN.{length, get_or, set, drop, replicate, length-replicate, get_or-replicate}
use lib.Seq.{get_or-set_same, get_or-set_other, get_or-take, get_or-drop}
use borrow.Author.Tests.{ltb-true, ltb-false, eqb-true, eqb-false, lt-ltb}
use Rattle.prelude.specs.Scan.{tab, first}
use Rattle.prelude.specs.Bits.{bit}
use Rattle.prelude.specs.Pages.{page_at}
use Rattle.prelude.proofs.Tests.{by-test, clash, or_l, or_r}
use Rattle.prelude.proofs.Scan.{first-hit, first-at, count-le}
use Rattle.prelude.proofs.Bits.{bit-zero}
use Rattle.prelude.proofs.Tab.{length-tab, get_d_tab}
use Rattle.model.specs.Sizes.{Sizes, vacant, is_marked, InLimits}
use Rattle.model.specs.Directory.{Directory, slot_at, frame_at, valid_at, inFrame}
use Rattle.model.specs.Soundness.{Sound}
use Rattle.model.specs.Policy.{Choice, in_slots, frame_with, plan, erased_by, is_worn, lowest_worn, due}
use Rattle.model.specs.Moves.{Chip, Memory, cell_at, flash_page, worn_by, written, stepped, read_directory, written_pages, stepped_pages}
use Rattle.model.specs.Calls.{Answer, is_refused, Call, read, write, part, step, flush, State, Outcome, turned_down, checked}
use Rattle.model.specs.Calls.{read_outcome}
use Rattle.model.specs.Calls.{write_outcome, part_outcome, step_outcome, Tally, steps, flush_outcome, decide, heeding, steps_pages, Page}
use Rattle.model.specs.Calls.{no_bytes, Cell, Format, Buffers, Store, flash_cells, open_store, open_done, call_reading, told}
use Rattle.model.specs.Lists.{Bears, Borne, flipped, book_says, opened, Chosen, AllPick, no_cell, Picks, Put, Accepted, Reference}
use Rattle.model.specs.Lists.{log_after, is_flush, fed}
use Rattle.model.specs.Formats.{Code, format_of, torn, Matches, NearBy}
use Rattle.model.specs.Formats.{store_format, chip_for, StoreMatches, StoreNear}
use Rattle.model.specs.Shelf.{ShelfStore, ShelfReference, ShelfChosen, is_back, shelved, meant, no_entries, shelf_book_says, shelf_fed}
use Rattle.model.specs.Shelf.{shelf_opened}
use Rattle.model.specs.CutCalls.{WholeBlocks, ShelfEnds}
use Rattle.model.proofs.Soundness.{pages-small, limits_of}
use Rattle.model.proofs.Opening.{open_accepted, opened-sound}
use Rattle.model.proofs.Buffers.{fits-of}
use Rattle.model.proofs.Lookup.{NoSlot, NoFrame, block-lt, block-vacant, page-div, page-mod, in_slots_lem}
use Rattle.model.proofs.Lookup.{not-in_slots, frame_has, has-frame, no-frame_with, found-slot, some-pages, in_block_lem}
use Rattle.model.proofs.Consistent.{Consistent, write-good, step-good}
use Rattle.model.proofs.Steps.{Ready, Empty, due-elim, steps-clean}
use Rattle.model.proofs.Calls.{Kept, decide-kept, heeding-kept}
use Rattle.model.proofs.Demand3.{log-kept, not-flushed, decide-keeps, heeding-keeps, Holds, holds-step, holds_opened, holds-borne}
use Rattle.model.proofs.Formats.{store-bears}
use Rattle.model.proofs.Shelf.{AllShelfPick, Shelves, shelf-step, shelves-opened}
use Rattle.model.proofs.Flush.{Moved, moved_none, read-good, step-moved, write_moves, flush-all}

-- page p is cached
abbrev pub Held : Sizes → Directory → ℕ → Type 0
Held sz d p = NoSlot sz d p → NoFrame sz d p → ⊥

-- from state k to k', in which page n (vacant: none) was written: a cached page stays cached, or its block was rewritten
pub record Fate (sz : Sizes) (k k' : State) (n : ℕ) : Type 0 where
  pub stays : (p : ℕ) → p < sz.N * sz.K → (Held sz k.directory p) ⊎ (p ≡ n)
      → (Held sz k'.directory p) ⊎ (get_or k.wear (p / sz.K) 0 < get_or k'.wear (p / sz.K) 0)
  pub grows : (p : ℕ) → p < sz.N * sz.K → get_or k.wear (p / sz.K) 0 ≤ get_or k'.wear (p / sz.K) 0

-- the page that an accepted call writes (vacant: none)
abbrev writes : Call Page → ℕ
writes (read n x) = vacant
writes (write n x) = n
writes (part n first x page) = cond (no_bytes x) vacant n
writes step = vacant
writes flush = vacant

-- The same store over pages that only say whether they are cached: false in flash, true in p-space and b-space.
abbrev tell : Chip Bool Bool
tell = record { page = λ c. c; fault = λ c. 0; mends = λ c. 0; erased = false; cell = λ x. x }

module _ (sz : Sizes) (k : State) (s : Sound sz k.directory) (wl : length k.wear ≡ sz.N) where
  abbrev d : Directory
  d = k.directory

  cached_page : ℕ → Bool
  cached_page p = in_slots sz d p || ltb (frame_with sz d p) sz.B

  abbrev shows : Memory Bool Bool
  shows = record { flash = replicate (sz.N * sz.K) false; pspace = replicate sz.P true; bspace = replicate (sz.B * sz.K) true }

  abbrev array : List Bool
  array = tab (sz.N * sz.K) cached_page

  array_at : (p : ℕ) → p < sz.N * sz.K → get_or array p false ≡ cached_page p
  array_at p l = get_d_tab (sz.N * sz.K) cached_page false p l

  slot-cached : (i : ℕ) → i < sz.P → slot_at d i < vacant → get_or array (slot_at d i) false ≡ true
  unfolding cached_page
  slot-cached i il v = elim (s.entries.slot-in i il) [
    | inl e ↦ absurd (omega arith)
    | inr l ↦ array_at (slot_at d i) l ∙ or_l _ (in_slots_lem sz d (slot_at d i) i il refl)
  ]

  frame-cached : (f o : ℕ) → f < sz.B → o < sz.K → bit (valid_at d f) o ≡ true → frame_at d f < sz.N
      → get_or array (frame_at d f * sz.K + o) false ≡ true
  unfolding cached_page frame_with
  frame-cached f o fl ol h bl = let n : ℕ = frame_at d f * sz.K + o in
      array_at n (digits_lt bl ol) ∙ or_r (in_slots sz d n) (lt-ltb _ sz.B
      (let q = first-at sz.B (inFrame sz d n) f fl (has-frame sz d n f (sym (page-div sz s.limits (frame_at d f) o ol))
      (ap (bit (valid_at d f)) (page-mod sz s.limits (frame_at d f) o ol) ∙ h)) in omega arith))

  none-cached : (p : ℕ) → p < sz.N * sz.K → NoSlot sz d p → NoFrame sz d p → get_or array p false ≡ false
  unfolding cached_page frame_with
  none-cached p l np nf = array_at p l ∙ by-test (in_slots sz d p)
      (λ e. let q = found-slot sz d p e in absurd (np _ q.0 q.1))
      (λ e. rw e (by-test (ltb (frame_with sz d p) sz.B) (λ e'. let q = ltb-true _ sz.B e' in
      absurd (nf _ q (first-hit sz.B (inFrame sz d p) q))) (λ e'. e')))

  held-cached : (p : ℕ) → p < sz.N * sz.K → Held sz d p → get_or array p false ≡ true
  unfolding cached_page
  held-cached p l h = by-test (in_slots sz d p) (λ e. array_at p l ∙ or_l _ e) (λ e. by-test (ltb (frame_with sz d p) sz.B)
      (λ e'. array_at p l ∙ or_r (in_slots sz d p) e')
      (λ e'. absurd (h (not-in_slots sz d p e) (no-frame_with sz d p (ltb-false _ sz.B e')))))

  bits_in : (f o : ℕ) → f < sz.B → bit (valid_at d f) o ≡ true → frame_at d f < sz.N
  bits_in f o fl h = elim (s.entries.frame-in f fl) [ inl e ↦ clash h (ap (λ (x : ℕ). bit x o) e.1 ∙ bit-zero o) | inr e ↦ e.0 ]

  good : Consistent tell false sz d shows array
  unfolding flash_page cell_at
  good = record {
    numbers = s;
    reflects = record {
      in_slot = λ i l h. get_or-replicate sz.P i true false l ∙ sym (slot-cached i l h);
      in_frame = λ f o fl ol h. get_or-replicate (sz.B * sz.K) (f * sz.K + o) true false (digits_lt fl ol)
          ∙ sym (frame-cached f o fl ol h (bits_in f o fl h));
      in_flash = λ p l np nf. get_or-replicate (sz.N * sz.K) p false false l ∙ sym (none-cached p l np nf);
    };
    flash-length = length-replicate (sz.N * sz.K) false;
    pspace-length = length-replicate sz.P true;
    bspace-length = length-replicate (sz.B * sz.K) true;
    array-length = length-tab (sz.N * sz.K) _;
  }

  -- a page that the array shows after the call is cached then, or its block was rewritten
  fate : (k' : State) (m' : Memory Bool Bool) (v' : List Bool) (n : ℕ) → Consistent tell false sz k'.directory m' v'
      → Moved tell false sz array shows k.wear m' k'.wear
      → ((p : ℕ) → p < sz.N * sz.K → (get_or array p false ≡ true) ⊎ (p ≡ n) → get_or v' p false ≡ true) → Fate sz k k' n
  unfolding flash_page cell_at
  fate k' m' v' n g mv on = record {
    stays = λ p l h. elim (mv.page p l) [
      | inl q ↦ inl (λ np nf. clash (on p l (elim h [ inl a ↦ inl (held-cached p l a) | inr a ↦ inr a ]))
          (sym (g.reflects.in_flash p l np nf) ∙ q.1 ∙ get_or-replicate (sz.N * sz.K) p false false l))
      | inr q ↦ inr q.0
    ];
    grows = λ p l. elim (mv.page p l) [ inl q ↦ (let e = q.0 in omega arith) | inr q ↦ (let e = q.0 in omega arith) ];
  }

  -- where nothing is written
  none : (p : ℕ) → p < sz.N * sz.K → (get_or array p false ≡ true) ⊎ (p ≡ vacant) → get_or array p false ≡ true
  none p l h = elim h [ inl a ↦ a | inr a ↦ absurd (let q = pages-small sz s.limits in omega arith) ]

  read-fate : (n : ℕ) → Fate sz k (record { directory = read_directory sz d n; wear = k.wear }) vacant
  read-fate n = fate _ shows array vacant (read-good tell false sz d shows array good n)
      (moved_none tell false sz array shows shows k.wear refl) none

  module _ (pick : Choice) (picks : Picks pick) where
    write-fate : (n : ℕ) → n < sz.N * sz.K → Fate sz k (record {
      directory = written sz d n (plan pick sz d k.wear n);
      wear = worn_by k.wear (erased_by d (plan pick sz d k.wear n));
    }) n
    write-fate n nl = fate _ (written_pages tell false sz d shows n true (plan pick sz d k.wear n)) (set array n true) n
        (write-good tell false pick picks sz d k.wear shows (λ b f o. refl) array good n nl true)
        (write_moves tell false sz d shows (λ b f o. refl) array good k.wear wl pick picks n true)
        (λ p l h. by-test (eqb p n)
        (λ e. rw (eqb-true p n e) (get_or-set_same array n true false (let q = length-tab (sz.N * sz.K) cached_page in omega arith)))
        (λ e. let ne = eqb-false p n e in rw (get_or-set_other array n p true false ne) (elim h [ inl a ↦ a | inr a ↦ absurd (ne a) ])))

    step-fate : (b f : ℕ) → Ready sz d b f → Fate sz k (record { directory = stepped sz d (due b f); wear = worn_by k.wear b }) vacant
    step-fate b f y = fate _ (stepped_pages tell false sz d shows (due b f)) array vacant
        (step-good tell false sz d shows (λ b f o. refl) array good b f y)
        (step-moved tell false sz d shows (λ b f o. refl) array good k.wear wl b f y) none

    abbrev start : Tally
    start = record { state = k; rewrites = 0; merges = 0 }

    flush-fate : Fate sz k (steps pick sz sz.N start).state vacant
    flush-fate = let h = flush-all tell false pick picks sz array (λ m. Unit {0}) (λ d m h b f o. refl) (λ d m b f h. tt) sz.N start
        shows tt good wl in
        fate _ (steps_pages pick sz tell false sz.N d shows) array vacant h.good h.moved none

    same-fate : Fate sz k k vacant
    same-fate = record {
      stays = λ p l h. elim h [ inl a ↦ inl a | inr a ↦ absurd (let q = pages-small sz s.limits in omega arith) ];
      grows = λ p l. omega arith;
    }

    abbrev Ok : Call Page → Outcome → Type 0
    Ok c u = is_refused u.answer ≡ false → Fate sz k u.state (writes c) × ((n : ℕ) → writes c ≡ n → n < vacant → n < sz.N * sz.K)

    down : (c : Call Page) (n b : ℕ) → Ok c (turned_down k n b)
    down c n b = λ h. clash refl h

    checked-ok : (c : Call Page) (n long : ℕ) (u : Outcome) → (n < sz.N * sz.K → Ok c u) → Ok c (checked sz k n long u)
    unfolding checked
    checked-ok c n long u h = by-test (eqb long sz.S)
        (λ e. rw (e, checked) (by-test (ltb n (sz.N * sz.K)) (λ e'. rw e' (h (ltb-true _ _ e'))) (λ e'. rw e' (down c 5 vacant))))
        (λ e. rw (e, checked) (down c 2 vacant))

    write-ok : (c : Call Page) (n : ℕ) → writes c ≡ n → n < sz.N * sz.K → Ok c (write_outcome sz k n (plan pick sz d k.wear n))
    unfolding write_outcome
    write-ok c n e l = by-test (is_worn sz k.wear (erased_by d (plan pick sz d k.wear n)))
        (λ t. rw (t, write_outcome) (down c 6 vacant))
        (λ t. rw (t, write_outcome) (λ h. (rw e (write-fate n l), λ m q v. let g : n ≡ m = sym e ∙ q in omega arith)))

    decide-ok : (c : Call Page) → Ok c (decide pick sz k (told c))
    unfolding decide read_outcome part_outcome step_outcome flush_outcome
    decide-ok (read n x) = checked-ok (read n x) n (length x) _ (λ l h. (read-fate n, λ m q v. absurd (omega arith)))
    decide-ok (write n x) = checked-ok (write n x) n (length x) _ (λ l. write-ok (write n x) n refl l)
    decide-ok (part n first x page) = let c : Call Page = part n first x page in
        checked-ok c n (length page) _ (λ l. by-test (leb (first + length x) sz.S)
        (λ e. rw (e, part_outcome) (by-test (eqb (length x) 0)
        (λ e'. rw e' (λ h. (same-fate, λ m q v. absurd (omega arith))))
        (λ e'. rw e' (write-ok (write n x) n refl l))))
        (λ e. rw (e, part_outcome) (down c 2 vacant)))
    decide-ok step = due-elim sz d s pick picks (λ q. Ok step (step_outcome sz k q))
        (λ b f y. by-test (is_worn sz k.wear b) (λ t. rw (t, step_outcome) (down step 6 b))
        (λ t. rw (t, step_outcome) (λ h. (step-fate b f y, λ m q v. absurd (omega arith)))))
        (λ e h. (same-fate, λ m q v. absurd (omega arith)))
    decide-ok flush = by-test (ltb (lowest_worn sz d k.wear) sz.N)
        (λ t. rw (t, flush_outcome) (down flush 6 vacant))
        (λ t. rw (t, flush_outcome) (λ h. (flush-fate, λ m q v. absurd (omega arith))))

    -- an accepted flush leaves nothing cached
    flush-empty : is_refused (decide pick sz k flush).answer ≡ false → Empty sz (decide pick sz k flush).state.directory
    unfolding decide flush_outcome
    flush-empty = by-test (ltb (lowest_worn sz d k.wear) sz.N)
        (λ t. rw (t, flush_outcome) (λ h. clash refl h))
        (λ t. rw (t, flush_outcome) (λ h. (steps-clean pick picks sz sz.N start s wl (count-le sz.N _)).void))

-- ---- a list

-- what a call's log says anew
new_put : (a : List Page) (l : List Put) (c : Call Page) (p : ℕ) (x : Page) → Accepted p x (log_after a l c false)
    → (writes c ≡ p) ⊎ Accepted p x l
unfolding log_after
new_put a l (read n y) p x = λ h. inr h
new_put a l (write n y) p x = λ h. elim h [ inl e ↦ inl e.0 | inr e ↦ inr e ]
new_put a l (part n f y page) p x = by-test (no_bytes y) (λ t. rw t (λ h. inr h))
    (λ t. rw t (λ h. elim h [ inl e ↦ inl e.0 | inr e ↦ inr e ]))
new_put a l step p x = λ h. inr h
new_put a l flush p x = λ h. inr h

pub heeding-same : (k : State) (late : ℕ) (o : Outcome) → is_refused (heeding k late o).answer ≡ false → heeding k late o ≡ o
unfolding heeding
heeding-same k late o = by-test (is_refused o.answer)
    (λ e. rw (e, heeding) (λ h. refl))
    (λ e. rw (e, heeding) (by-test (eqb late 0) (λ q. rw q (λ h. refl)) (λ q. rw q (λ h. clash refl h))))

-- w₀ is the wear at opening
module _ (sz : Sizes) (w₀ : List ℕ) where
  pub record Logged (r : Reference) : Type 0 where
    pub numbers : Sound sz r.book.directory
    pub wear-length : length r.book.wear ≡ sz.N
    pub least : (p : ℕ) → p < sz.N * sz.K → get_or w₀ (p / sz.K) 0 ≤ get_or r.book.wear (p / sz.K) 0
    -- what was accepted is cached still, or its block has been rewritten since opening
    pub put : (p : ℕ) (x : Page) → Accepted p x r.log → p < sz.N * sz.K
        → Held sz r.book.directory p ⊎ (get_or w₀ (p / sz.K) 0 < get_or r.book.wear (p / sz.K) 0)
    pub gone : r.flushed ≡ true → Empty sz r.book.directory

  module _ (r : Reference) (i : Logged r) (pick : Choice) (picks : Picks pick) (c : Call Page) (late : ℕ) (cs : List Cell) where
    abbrev u : Outcome
    u = heeding r.book late (decide pick sz r.book (told c))

    sure : Kept sz r.book u.state
    sure = heeding-kept pick picks sz r.book i.numbers i.wear-length late _
        (decide-kept pick picks sz r.book i.numbers i.wear-length (told c))

    flush-gone : (c : Call Page) → (is_flush c && true) ≡ true → is_refused (decide pick sz r.book (told c)).answer ≡ false
        → Empty sz (decide pick sz r.book (told c)).state.directory
    flush-gone (read n x) h q = clash h refl
    flush-gone (write n x) h q = clash h refl
    flush-gone (part n f x page) h q = clash h refl
    flush-gone step h q = clash h refl
    flush-gone flush h q = flush-empty sz r.book i.numbers i.wear-length pick picks q

    refused-logged : is_refused u.answer ≡ true → Logged (fed sz r c u cs)
    unfolding fed
    refused-logged e = let same : u.state ≡ r.book = heeding-keeps sz r.book late _ (decide-keeps sz r.book pick (told c)) e in
        record {
          numbers = sure.numbers;
          wear-length = sure.wear-length;
          least = rw same i.least;
          put = rw (e, same, log-kept r.array r.log c) i.put;
          gone = rw (e, not-flushed c) (λ h. clash h refl);
        }

    accepted-logged : is_refused u.answer ≡ false → Logged (fed sz r c u cs)
    unfolding fed
    accepted-logged e =
        let same : u ≡ decide pick sz r.book (told c) = heeding-same r.book late _ e in
        let f : Fate sz r.book u.state (writes c) = (rw same (decide-ok sz r.book i.numbers i.wear-length pick picks c
        (rw same at e)).0) in
        record {
          numbers = sure.numbers;
          wear-length = sure.wear-length;
          least = λ p l. let a = i.least p l in let b = f.grows p l in omega arith;
          put = rw e (λ p x h l. elim (new_put r.array r.log c p x h) [
            | inl q ↦ elim (f.stays p l (inr (sym q))) [ inl z ↦ inl z | inr z ↦ inr (let a = i.least p l in omega arith) ]
            | inr q ↦ elim (i.put p x q l) [
              | inl z ↦ elim (f.stays p l (inl z)) [ inl y ↦ inl y | inr y ↦ inr (let a = i.least p l in omega arith) ]
              | inr z ↦ inr (let b = f.grows p l in omega arith)
            ]
          ]);
          gone = rw (e, same) (λ h. flush-gone c h (rw same at e));
        }

    pub logged_fed : Logged (fed sz r c u cs)
    logged_fed = by-test (is_refused u.answer) refused-logged accepted-logged

-- An accepted flush makes whole each block for a page of which something was accepted since opening: all its cells are programmed anew.
module _ (fmt : Format) (Matched : Sizes → Cell → Type 0) (Near : Sizes → Cell → Cell → Type 0) (sz : Sizes)
    (laws : Bears fmt Matched Near sz) (u : Buffers) where
  pub made-whole : (s : Store) (r : Reference) → Holds fmt Matched Near sz laws u s r → Logged sz u.wear r → r.flushed ≡ true
      → (p : ℕ) (x : Page) → Accepted p x r.log → p < sz.N * sz.K → (n : ℕ) → n < sz.N * sz.K → n / sz.K ≡ p / sz.K
      → (y : Page) × (get_or r.base n no_cell ≡ (fmt.chip sz).cell y)
  made-whole s r h i q p x a pl n nl e = let v = i.gone q in let limits = i.numbers.limits in elim (i.put p x a pl) [
    | inl k ↦ absurd (k
        (λ j jl z. let b : ℕ = p / sz.K in let g = pages-small sz limits in
        v.no-slots b (block-lt sz limits p pl) (some-pages sz r.book.directory b j jl
        (in_block_lem sz r.book.directory b j (omega arith) (ap (λ (x : ℕ). x / sz.K) z))))
        (λ f fl z. v.no_frames f fl (rw (frame_has sz r.book.directory p f z).0
        (block-vacant sz limits _ (block-lt sz limits p pl)))))
    | inr k ↦ h.inv.fresh n nl (rw e k)
  ]

-- in a marked store such a cell is not torn, nor is what it has come to be by flips
pub not-torn : (code : Code) (Flips : Sizes → Page → List ℕ → Page → List ℕ → Type 0) (sz : Sizes) (y : Page) (c : Cell)
    → NearBy Flips sz (((format_of code true).chip sz).cell y) c → torn true c ≡ false
unfolding torn format_of
not-torn code Flips sz y c h = rw h.1

-- ---- a whole list on a marked store

module _ (code : Code) (Flips : Sizes → Page → List ℕ → Page → List ℕ → Type 0) (sz : Sizes)
    (laws : Bears (format_of code true) (Matches code) (NearBy Flips) sz) (u : Buffers) where
  abbrev fmt : Format
  fmt = format_of code true

  -- if the last call was an accepted flush, no page is torn of a block for which something was accepted
  abbrev pub Whole : Store → Reference → Type 0
  Whole s r = r.flushed ≡ true → (p : ℕ) (x : Page) → Accepted p x r.log → p < sz.N * sz.K
      → (n : ℕ) → n < sz.N * sz.K → n / sz.K ≡ p / sz.K → torn true (get_or (flash_cells fmt sz s.lent) n no_cell) ≡ false

  -- after the list
  abbrev pub Ends : List Chosen → Store → Reference → Type 0
  Ends [] s r = (fl cd : List ℕ) → Borne fmt (NearBy Flips) sz r (flipped s fl cd).lent → Whole (flipped s fl cd) r
  Ends (t ∷ cs) s r = (fl cd : List ℕ) → Borne fmt (NearBy Flips) sz r (flipped s fl cd).lent
      → Ends cs (call_reading fmt t.choice t.besides (flipped s fl cd) t.call).store
      (fed sz r t.call (book_says sz r t (call_reading fmt t.choice t.besides (flipped s fl cd) t.call).answer)
      (flash_cells fmt sz (call_reading fmt t.choice t.besides (flipped s fl cd) t.call).store.lent))

  ends : (cs : List Chosen) → AllPick cs → (s : Store) (r : Reference) → Holds fmt (Matches code) (NearBy Flips) sz laws u s r
      → Logged sz u.wear r → Ends cs s r
  ends [] a s r h i = λ fl cd b q p x acc pl n nl e. let w = made-whole fmt (Matches code) (NearBy Flips) sz laws u s r h i q p x acc pl n
      nl e in
      not-torn code Flips sz w.0 _ (rw w.1 at (b.near n nl))
  ends (t ∷ cs) a s r h i = λ fl cd b. let st = holds-step fmt (Matches code) (NearBy Flips) sz laws u s r h t a.0 fl cd b in
      ends cs a.1 _ _ st.then (logged_fed sz u.wear r i t.choice a.0 t.call _ _)

  pub torn-made_whole : (open_store fmt sz u).answer ≡ open_done → ((n : ℕ) → n < sz.N * sz.K
      → Matches code sz (get_or (flash_cells fmt sz u) n no_cell))
      → (cs : List Chosen) → AllPick cs → Ends cs (record { cache = (open_store fmt sz u).cache; lent = u }) (opened fmt sz u)
  unfolding opened
  torn-made_whole acc ok cs a = let o = open_accepted fmt sz u acc in
      ends cs a _ (opened fmt sz u) (holds_opened fmt (Matches code) (NearBy Flips) sz laws u o ok) (record {
        numbers = opened-sound sz (limits_of sz o.sizes-ok);
        wear-length = (fits-of fmt sz u o.lent_ok_lem).wear-length;
        least = λ p l. omega arith;
        put = λ p x h l. absurd h;
        gone = λ h. clash h refl;
      })

-- ---- a whole list with a shelf, on the store's own cells

-- fed a call that is turned down
logged_down : (sz : Sizes) (w₀ : List ℕ) (r : Reference) → Logged sz w₀ r → (c : Call Page) (n b : ℕ) (cs : List Cell)
    → Logged sz w₀ (fed sz r c (turned_down r.book n b) cs)
unfolding fed
logged_down sz w₀ r i c n b cs = record {
  numbers = i.numbers;
  wear-length = i.wear-length;
  least = i.least;
  put = rw (log-kept r.array r.log c) i.put;
  gone = rw (not-flushed c) (λ h. clash h refl);
}

-- the mark of a cell is a byte of the marks
mark_of : (l : List ℕ) (n : ℕ) → get_or (page_at 1 l n) 0 0 ≡ get_or l n 0
unfolding page_at
mark_of l n = get_or-take 1 (drop (n * 1) l) 0 0 (omega arith) ∙ get_or-drop (n * 1) l 0 0 ∙ ap (λ (i : ℕ). get_or l i 0) (omega arith)

module _ (sz : Sizes) (limits : InLimits sz) (marked : is_marked sz ≡ true) (u : Buffers) (h : ℕ) (h_le : h ≤ 8) where
  abbrev At : ShelfStore → ShelfReference → Type 0
  At s r = Shelves store_format StoreMatches StoreNear sz (store-bears sz limits.whole) u limits h h_le s r

  -- what is near a cell that was programmed is marked 0
  near-zero : (y : Page) (c : Cell) → StoreNear sz ((chip_for sz).cell y) c → get_or c.mark 0 0 ≡ 0
  unfolding format_of
  near-zero y c k = rw (k.1, marked)

  cell-mark : (v : Buffers) (n : ℕ) → n < sz.N * sz.K
      → get_or (get_or (flash_cells store_format sz v) n no_cell).mark 0 0 ≡ get_or v.marks n 0
  unfolding flash_cells
  cell-mark v n l = ap (λ (c : Cell). get_or c.mark 0 0) (get_d_tab (sz.N * sz.K) _ no_cell n l) ∙ rw marked (mark_of v.marks n)

  whole-now : (s : ShelfStore) (r : ShelfReference) → At s r → Logged sz u.wear r.reference
      → WholeBlocks sz s.store.lent.marks r.reference
  whole-now s r x i q p y acc pl n nl e =
      let bears = store-bears sz limits.whole in
      let w = made-whole store_format StoreMatches StoreNear sz bears u s.store r.reference x.holds i q p y acc pl n nl e in
      let b = holds-borne store_format StoreMatches StoreNear sz bears u s.store r.reference x.holds in
      sym (cell-mark s.store.lent n nl) ∙ near-zero w.0 _ (rw w.1 at (b.near n nl))

  shelf-logged : (r : ShelfReference) (t : ShelfChosen) → Picks t.choice → Logged sz u.wear r.reference → (a : Answer)
      (cs : List Cell)
      → Logged sz u.wear (shelf_fed sz h r t (shelf_book_says sz h r t a) cs).reference
  unfolding shelf_fed shelf_book_says
  shelf-logged r t p i a cs = by-test (is_back t.call && eqb (shelved r.entries) 0)
      (λ e. rw (e, shelf_book_says) (logged_down sz u.wear r.reference i _ 8 vacant cs))
      (λ e. rw (e, shelf_book_says) (logged_fed sz u.wear r.reference i t.choice p (meant r.entries r.shelf t.call) _ cs))

  shelf-ends : (cs : List ShelfChosen) → AllShelfPick cs → (s : ShelfStore) (r : ShelfReference) → At s r
      → Logged sz u.wear r.reference → ShelfEnds store_format StoreNear sz h cs s r
  shelf-ends [] p s r x i = whole-now s r x i
  shelf-ends (t ∷ cs) p s r x i = λ fl cd b.
      let st = shelf-step store_format StoreMatches StoreNear sz (store-bears sz limits.whole) u limits h h_le s r x t p.0 fl cd b in
      shelf-ends cs p.1 _ _ st.then (shelf-logged r t p.0 i _ _)

-- from an accepted opening of a marked store whose codes match
pub store-made_whole : (sz : Sizes) (u : Buffers) → (open_store store_format sz u).answer ≡ open_done → is_marked sz ≡ true
    → ((n : ℕ) → n < sz.N * sz.K → StoreMatches sz (get_or (flash_cells store_format sz u) n no_cell))
    → (h : ℕ) → h ≤ 8 → (shelf : List ℕ) → length shelf ≡ h * sz.S → (cs : List ShelfChosen) → AllShelfPick cs
    → ShelfEnds store_format StoreNear sz h cs (record {
      store = record { cache = (open_store store_format sz u).cache; lent = u };
      entries = no_entries;
      shelf = shelf;
    })
    (shelf_opened store_format sz h u shelf)
unfolding opened
store-made_whole sz u acc marked ok h hl shelf sl cs p = let a = open_accepted store_format sz u acc in
    let limits = limits_of sz a.sizes-ok in
    let bears = store-bears sz limits.whole in
    shelf-ends sz limits marked u h hl cs p _ _ (shelves-opened store_format StoreMatches StoreNear sz bears u limits h hl a ok shelf sl)
    (record {
      numbers = opened-sound sz limits;
      wear-length = (fits-of store_format sz u a.lent_ok_lem).wear-length;
      least = λ p l. omega arith;
      put = λ p x h l. absurd h;
      gone = λ h. clash h refl;
    })
