-- Demand 3 for lists that mix the store's calls with calls of catalogues, and request A9's own sentence.
use mathlib.Core.Path.{◌≡◌, refl, sym, ◌∙◌, subst}
use mathlib.Core.List.{List, [], ◌∷◌}
use Prim.Native.Nat.{ℕ, ◌*◌, ◌≤◌, ◌<◌}
use lib.ListN.{length, get_or}
use Rattle.model.specs.Sizes.{Sizes, InLimits}
use Rattle.model.specs.Policy.{Choice}
use Rattle.model.specs.Calls.{Answer, read, write, Page, Buffers, open_store, open_done, flash_cells}
use Rattle.model.specs.Formats.{store_format, StoreMatches, StoreNear}
use Rattle.model.specs.Lists.{no_cell, opened, flash_pages}
use Rattle.model.specs.Shelf.{no_entries, plainly, ShelfStore, ShelfReference, shelf_opened, shelf_flipped, pages_of_shelf}
use Rattle.model.proofs.Soundness.{limits_of}
use Rattle.model.proofs.Opening.{open_accepted}
use Rattle.model.proofs.Formats.{store-bears}
use Rattle.model.proofs.Demand3.{holds_after}
use Rattle.model.proofs.Shelf.{shelves-opened, sizes-stay}
use Rattle.runs.specs.Sheet.{Sheet, page_of}
use Rattle.runs.specs.Verdict.{Verdict, refuse, show, tell, fetch, put, Judged, outside, decided, judged}
use Rattle.over.specs.Catalogue.{Asked, sizes_in, stored, outside_of, last_step, catalogue_call}
use Rattle.over.specs.Mixed.{sheets_in, Turn, plain, catalogue, AllPick, AllBytes, InWords, list_says, reference_after}
use Rattle.over.specs.Mixed.{Mixed, Own}
use Rattle.over.proofs.Bytes.{fed-array, fed-shelf}
use Rattle.over.proofs.Agreeing.{sheets-same, Stands, stands-step, agrees}

module _ (sz : Sizes) (limits : InLimits sz) (u : Buffers) (h_le : sz.shelf_pages ≤ 8) where
  -- what follows flips does not depend on those before
  mixed-flipped : (ts : List Turn) (s : ShelfStore) (r : ShelfReference) (fl cd : List ℕ) → Mixed sz u ts s r
      → Mixed sz u ts (shelf_flipped s fl cd) r
  mixed-flipped [] s r fl cd m = m
  mixed-flipped (plain t ∷ ts) s r fl cd m = m
  mixed-flipped (catalogue pick c q ∷ ts) s r fl cd m = m

  own-flipped : (c : ℕ) (ts : List Turn) (s : ShelfStore) (r : ShelfReference) (ss : List Sheet) (fl cd : List ℕ) → Own sz c ts s r ss
      → Own sz c ts (shelf_flipped s fl cd) r ss
  own-flipped c [] s r ss fl cd m = m
  own-flipped c (plain t ∷ ts) s r ss fl cd m = m
  own-flipped c (catalogue pick n q ∷ ts) s r ss fl cd m = m

  abbrev Held : ShelfStore → ShelfReference → Type 0
  Held s r = Stands sz limits u h_le s r

  mixed : (ts : List Turn) → AllPick ts → InWords ts → (s : ShelfStore) (r : ShelfReference) → Held s r → Mixed sz u ts s r
  mixed [] p w s r g = λ fl cd b. holds_after store_format StoreMatches StoreNear sz (store-bears sz limits.whole) u s.store
      r.reference g.here.holds fl cd b
  mixed (plain t ∷ ts) p w s r g = λ fl cd b. let st = stands-step sz limits u h_le s r g t p.0 fl cd b in record {
    answers = st.answers;
    shows = st.shows;
    reads = st.reads;
    borne = st.borne;
    then = mixed ts p.1 w.1 _ _ (record {
      here = st.then;
      array = fed-array sz sz.shelf_pages r g.array g.shelf t w.0 _ _;
      shelf = fed-shelf sz sz.shelf_pages r g.array g.shelf t w.0 _ _;
    });
  }
  mixed (catalogue pick c q ∷ ts) p w s r g = λ fl cd b.
      let a = agrees sz limits u h_le s r g pick p.0 c q w.0.0 w.0.1 (λ s' r' ss. Mixed sz u ts s' r')
      (λ s' r' ss g' e. mixed ts p.1 w.1 s' r' g') fl cd b (mixed-flipped ts s r fl cd (mixed ts p.1 w.1 s r g)) in
      record {
        answers = a.answers;
        buffer = a.buffer;
        readable = a.readable;
        mendless = a.mendless;
        borne = a.borne;
        then = a.then;
      }

  own : (c : ℕ) (ts : List Turn) → AllPick ts → InWords ts → (s : ShelfStore) (r : ShelfReference) (ss : List Sheet) → Held s r
      → ss ≡ sheets_in c r.reference.array → Own sz c ts s r ss
  own c [] p w s r ss g e = tt
  own c (plain t ∷ ts) p w s r ss g e = λ fl cd b same. let st = stands-step sz limits u h_le s r g t p.0 fl cd b in
      own c ts p.1 w.1 _ _ ss (record {
        here = st.then;
        array = fed-array sz sz.shelf_pages r g.array g.shelf t w.0 _ _;
        shelf = fed-shelf sz sz.shelf_pages r g.array g.shelf t w.0 _ _;
      }) (e ∙ sheets-same c r.reference.array (reference_after sz (shelf_flipped s fl cd) r t).reference.array same)
  own c (catalogue pick n q ∷ ts) p w s r ss g e = λ fl cd b m. subst (λ (j : ℕ).
      let out = catalogue_call pick j (shelf_flipped s fl cd) q in let l = list_says sz pick c ss r q out in
      record { answers : out.says ≡ l.says; buffer : out.page ≡ l.page; then : Own sz c ts out.store l.reference l.sheets })
      (sym m) (subst (λ (l : List Sheet). Own sz c ts s r l
      → let out = catalogue_call pick c (shelf_flipped s fl cd) q in let k = list_says sz pick c l r q out in
      record { answers : out.says ≡ k.says; buffer : out.page ≡ k.page; then : Own sz c ts out.store k.reference k.sheets })
      (sym e) (λ stay. let a = agrees sz limits u h_le s r g pick p.0 c q w.0.0 w.0.1 (Own sz c ts)
      (λ s' r' l g' e'. own c ts p.1 w.1 s' r' l g' e') fl cd b (own-flipped c ts s r _ fl cd stay) in
      record { answers = a.answers; buffer = a.buffer; then = a.then }) (own c ts p.1 w.1 s r ss g e))

-- ---- from an accepted opening of a store whose codes match, and whose pages are bytes

module _ (sz : Sizes) (u : Buffers) (done : (open_store store_format sz u).answer ≡ open_done)
    (match : (n : ℕ) → n < sz.N * sz.K → StoreMatches sz (get_or (flash_cells store_format sz u) n no_cell)) (h_le : sz.shelf_pages ≤ 8)
    (shelf : List ℕ) (long : length shelf ≡ sz.shelf_pages * sz.S) (bytes : AllBytes (flash_pages store_format sz u))
    (shelved : AllBytes (pages_of_shelf sz sz.shelf_pages shelf)) where
  abbrev pub beginning : ShelfStore
  beginning = record { store = record { cache = (open_store store_format sz u).cache; lent = u }; entries = no_entries; shelf = shelf }

  limits : InLimits sz
  limits = limits_of sz (open_accepted store_format sz u done).sizes-ok

  begins : Stands sz limits u h_le beginning (shelf_opened store_format sz sz.shelf_pages u shelf)
  unfolding opened
  begins = record {
    here = shelves-opened store_format StoreMatches StoreNear sz (store-bears sz limits.whole) u limits sz.shelf_pages h_le
        (open_accepted store_format sz u done) match shelf long;
    array = bytes;
    shelf = shelved;
  }

  -- demand 3 with catalogues
  pub mixed-opened : (ts : List Turn) → AllPick ts → InWords ts
      → Mixed sz u ts beginning (shelf_opened store_format sz sz.shelf_pages u shelf)
  mixed-opened ts p w = mixed sz limits u h_le ts p w beginning _ begins

  -- request A9's sentence: at first the sheets are those stored
  pub own-opened : (c : ℕ) (ts : List Turn) → AllPick ts → InWords ts
      → Own sz c ts beginning (shelf_opened store_format sz sz.shelf_pages u shelf) (sheets_in c (flash_pages store_format sz u))
  unfolding opened
  own-opened c ts p w = own sz limits u h_le c ts p w beginning _ _ begins refl

-- ---- the sizes that an opening set stay

sizes-by : (pick : Choice) (c : ℕ) (s : ShelfStore) (x : Page) (v : Verdict) → sizes_in (last_step pick c s x v).store ≡ sizes_in s
unfolding last_step
sizes-by pick c s x (refuse n) = refl
sizes-by pick c s x (show sh q) = refl
sizes-by pick c s x (tell r) = refl
sizes-by pick c s x (fetch n) = sizes-stay store_format pick (sizes_in s).shelf_pages s (plainly (read n x))
sizes-by pick c s x (put i sh) = sizes-stay store_format pick (sizes_in s).shelf_pages s (plainly (write i (page_of (sizes_in s).S sh)))

module _ (pick : Choice) (c : ℕ) (s : ShelfStore) (q : Asked) where
  abbrev judged_as : Judged Answer
  judged_as = judged c ((sizes_in s).N * (sizes_in s).K) (stored s c) q.caller q.operation (outside_of s c q.page)

  sizes-outside : (a : Answer) → judged_as ≡ outside a → sizes_in (catalogue_call pick c s q).store ≡ sizes_in s
  unfolding catalogue_call
  sizes-outside a e = rw (e, catalogue_call)

  sizes-decided : (v : Verdict) → judged_as ≡ decided v → sizes_in (catalogue_call pick c s q).store ≡ sizes_in s
  unfolding catalogue_call
  sizes-decided v e = rw (e, catalogue_call) (sizes-by pick c s q.page v)

pub sizes-kept : (pick : Choice) (c : ℕ) (s : ShelfStore) (q : Asked) → sizes_in (catalogue_call pick c s q).store ≡ sizes_in s
sizes-kept pick c s q = by-judged _ refl
  where
    by-judged : (j : Judged Answer) → judged c ((sizes_in s).N * (sizes_in s).K) (stored s c) q.caller q.operation (outside_of s c
        q.page) ≡ j
        → sizes_in (catalogue_call pick c s q).store ≡ sizes_in s
    by-judged (outside a) e = sizes-outside pick c s q a e
    by-judged (decided v) e = sizes-decided pick c s q v e
