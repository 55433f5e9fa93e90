-- Demand 3 for the code with catalogues, and request A9's sentence, from the model's.
use mathlib.Core.Path.{◌≡◌, refl, sym, ap, ◌∙◌, subst}
use mathlib.Core.List.{List, [], ◌∷◌}
use Prim.Native.Nat.{ℕ, ◌*◌, ◌≤◌}
use lib.ListN.{length, get_or}
use Rattle.model.specs.Sizes as model
use Rattle.model.specs.Policy.{policy_choice}
use Rattle.model.specs.Calls.{Page, open_store, open_done, flash_cells}
use Rattle.model.specs.Formats.{store_format, StoreNear}
use Rattle.model.specs.Lists.{Borne, flash_pages}
use Rattle.model.specs.Shelf.{ShelfOpened, ShelfStore, ShelfResult, ShelfReference, ShelfGives, shelf_call, store_open, shelf_book_says}
use Rattle.model.specs.Shelf.{shelf_fed, pages_of_shelf}
use Rattle.model.proofs.Plan.{policy_choice-picks}
use Rattle.model.proofs.Soundness.{limits_of}
use Rattle.model.proofs.Opening.{open_accepted}
use Rattle.model.proofs.Buffers.{fits-of}
use Rattle.model.proofs.Shelf.{sizes-stay}
use Rattle.model.proofs.Shelving.{opened_below, opened-shelf}
use Rattle.cache.specs.View.{sizes_of}
use Rattle.store.specs.declared.Cache.{Cache}
use Rattle.store.specs.View.{Lent, store_of, opened_of}
use Rattle.store.specs.Histories as store
use Rattle.store.specs.Histories.{StillNear, CodesMatch, begun}
use Rattle.store.proofs.Demand3 as stored
use Rattle.runs.specs.Sheet.{Sheet}
use Rattle.over.specs.Catalogue.{Out, sizes_in}
use Rattle.over.specs.Mixed as mixed
use Rattle.over.specs.Mixed.{sheets_in, Bytes, NotUnreadable, Mixed}
use Rattle.over.proofs.Bytes.{shelf-bytes, flash-bytes}
use Rattle.over.proofs.Mixed.{sizes-kept, mixed-opened, own-opened}
use Rattle.sheets.specs.declared.roles.Caller.{Caller}
use Rattle.catalogue.specs.View.{asked_by}
use Rattle.catalogue.specs.Histories.{Entry, Made, plain, catalogue, operation_of, cache_after, out_of}
use Rattle.catalogue.specs.Histories.{Contract, Turn, lent_to, cache_then, lent_then, Keeps, AsContracted, Words, InWords, fed_then}
use Rattle.catalogue.specs.Histories.{Claimed}
use Rattle.catalogue.specs.Histories.{Claim, Demand3, OwnStep, Own, AnswersAsList}

-- ---- the list as the model has it

abbrev turn_of : Made → mixed.Turn
turn_of (plain m) = mixed.plain (store.by_policy m)
turn_of (catalogue n w page e) = mixed.catalogue policy_choice n (asked_by w (operation_of e) page)

abbrev turns : List Turn → List mixed.Turn
turns [] = []
turns (t ∷ ts) = turn_of t.made ∷ turns ts

pick-turn : (m : Made) (ts : List mixed.Turn) → mixed.AllPick ts → mixed.AllPick (turn_of m ∷ ts)
pick-turn (plain m) ts p = (policy_choice-picks, p)
pick-turn (catalogue n w page e) ts p = (policy_choice-picks, p)

turns-pick : (ts : List Turn) → mixed.AllPick (turns ts)
turns-pick [] = tt
turns-pick (t ∷ ts) = pick-turn t.made (turns ts) (turns-pick ts)

word_turn : (m : Made) (ts : List mixed.Turn) → Words m → mixed.InWords ts → mixed.InWords (turn_of m ∷ ts)
word_turn (plain m) ts w p = (w, p)
word_turn (catalogue n c page e) ts w p = (w, p)

turns-words : (ts : List Turn) → InWords ts → mixed.InWords (turns ts)
turns-words [] w = tt
turns-words (t ∷ ts) w = word_turn t.made (turns ts) w.0 (turns-words ts w.1)

-- ---- one call of the store, by its contract

store-after : (u : Lent) (m : store.Made) → (store.result_of u m).store ≡ store_of (store.cache_after m) (store.lent_after u m)
store-after u (store.read n page out page') = refl
store-after u (store.write n page out u') = refl
store-after u (store.part n first x page out u' page') = refl
store-after u (store.step out flash' codes' marks' wear' bspace') = refl
store-after u (store.flush out flash' codes' marks' wear' bspace') = refl
store-after u (store.back out below') = refl

module _ (sz : model.Sizes) (c : Cache) (v : Lent) (m : store.Made) (e : sizes_of c.sizes ≡ sz) (h : store.Contract c v m) where
  ran : store.result_of v m ≡ shelf_call store_format sz.shelf_pages policy_choice (store_of c v) (store.by_policy m).call
  ran = h ∙ ap (λ (w : model.Sizes). shelf_call store_format w.shelf_pages policy_choice (store_of c v) (store.by_policy m).call) e

  same-sizes : sizes_of (store.cache_after m).sizes ≡ sz
  same-sizes = ap (λ (s : ShelfStore). sizes_in s) (sym (store-after v m)) ∙ ap (λ (x : ShelfResult). sizes_in x.store) ran
      ∙ sizes-stay store_format policy_choice sz.shelf_pages (store_of c v) (store.by_policy m).call ∙ e

-- and of a catalogue
kept-sizes : (sz : model.Sizes) (c : Cache) (v : Lent) (n : ℕ) (w : Caller) (page : Page) (x : Entry) → sizes_of c.sizes ≡ sz
    → Contract c v n w page x → sizes_of (cache_after c x).sizes ≡ sz
kept-sizes sz c v n w page x e h = ap (λ (o : Out). sizes_in o.store) h
    ∙ sizes-kept policy_choice n (store_of c v) (asked_by w (operation_of x) page) ∙ e

-- ---- the claim

module _ (sz : model.Sizes) (u₀ : Lent) where
  abbrev Left : List Turn → ShelfStore → ShelfReference → Type 0
  Left ts s r = Mixed sz u₀.below (turns ts) s r

  -- what the reference is fed, with a result x of the store's call m
  abbrev fed_with : ShelfReference → store.Made → ShelfResult → ShelfReference
  fed_with r m x = shelf_fed sz sz.shelf_pages r (store.by_policy m) (shelf_book_says sz sz.shelf_pages r (store.by_policy m) x.answer)
      (flash_cells store_format sz x.store.store.lent)

  -- what one call leaves to be shown, where the rest of the list is L
  abbrev Step : Cache → Lent → ShelfReference → Made → (ShelfStore → ShelfReference → Type 0) → Type 0
  Step c v r m L = record {
    here : Claimed sz r c v m;
    near : StillNear sz (fed_then sz r c v m) (lent_then v m);
    sizes : sizes_of (cache_then c m).sizes ≡ sz;
    left : L (store_of (cache_then c m) (lent_then v m)) (fed_then sz r c v m);
  }

  step : (c : Cache) (u : Lent) (r : ShelfReference) (t : Turn) (ts : List mixed.Turn) → sizes_of c.sizes ≡ sz
      → Keeps c (lent_to u t) t.made
      → StillNear sz r (lent_to u t) → Mixed sz u₀.below (turn_of t.made ∷ ts) (store_of c u) r
      → Step c (lent_to u t) r t.made (Mixed sz u₀.below ts)
  step c u r t ts e h near = by-made t.made h
    where
      by-made : (m : Made) → Keeps c (lent_to u t) m → Mixed sz u₀.below (turn_of m ∷ ts) (store_of c u) r
          → Step c (lent_to u t) r m (Mixed sz u₀.below ts)
      by-made (plain m) h a =
          let v : Lent = lent_to u t in
          let k = ran sz c v m e h in
          let b = a t.flash t.codes near in
          record {
            here = record {
              answers = subst (λ (x : ShelfResult). x.answer
                  ≡ (shelf_book_says sz sz.shelf_pages r (store.by_policy m) x.answer).answer) (sym k) b.answers;
              reads = subst (ShelfGives r.reference.array (store.by_policy m).call) (sym k) b.reads;
            };
            near = subst (λ (s : ShelfStore). Borne store_format StoreNear sz
                (shelf_fed sz sz.shelf_pages r (store.by_policy m) (store.said_by sz r v m) (flash_cells store_format sz
                s.store.lent)).reference
                s.store.lent) (store-after v m)
                (subst (λ (x : ShelfResult). Borne store_format StoreNear sz (fed_with r m x).reference x.store.store.lent) (sym k)
                b.borne);
            sizes = same-sizes sz c v m e h;
            left = subst (λ (s : ShelfStore). Mixed sz u₀.below ts s (shelf_fed sz sz.shelf_pages r (store.by_policy m)
                (store.said_by sz r v m) (flash_cells store_format sz s.store.lent))) (store-after v m)
                (subst (λ (x : ShelfResult). Mixed sz u₀.below ts x.store (fed_with r m x)) (sym k) b.then);
          }
      by-made (catalogue n w page x) h a =
          let v : Lent = lent_to u t in
          let b = a t.flash t.codes near in
          let says = mixed.list_says sz policy_choice n (sheets_in n r.reference.array) r (asked_by w (operation_of x) page) in
          record {
            here = record {
              answers = subst (λ (o : Out). o.says ≡ (says o).says) (sym h) b.answers;
              buffer = subst (λ (o : Out). o.page ≡ (says o).page) (sym h) b.buffer;
              readable = subst (λ (o : Out). NotUnreadable o.says) (sym h) b.readable;
              mendless = λ q. ap (λ (o : Out). o.mends) h ∙ b.mendless q;
            };
            near = subst (λ (o : Out). Borne store_format StoreNear sz (says o).reference.reference o.store.store.lent) (sym h)
                b.borne;
            sizes = kept-sizes sz c v n w page x e h;
            left = subst (λ (o : Out). Mixed sz u₀.below ts o.store (says o).reference) (sym h) b.then;
          }

  from-model : (ts : List Turn) (c : Cache) (u : Lent) (r : ShelfReference) → sizes_of c.sizes ≡ sz → AsContracted c u ts
      → Left ts (store_of c u) r → Claim sz u₀ c u r ts
  from-model [] c u r e h a = a
  from-model (t ∷ ts) c u r e h a = λ near. let k = step c u r t (turns ts) e h.0 near a in record {
    here = k.here;
    near = k.near;
    then = from-model ts (cache_then c t.made) (lent_then (lent_to u t) t.made) (fed_then sz r c (lent_to u t) t.made) k.sizes h.1
        k.left;
  }

  -- ---- the list with a state of its own

  -- what the reference is fed is what the model feeds it
  fed-same : (c : Cache) (v : Lent) (r : ShelfReference) (m : store.Made) → sizes_of c.sizes ≡ sz → store.Contract c v m
      → store.fed_by sz r v m ≡ mixed.reference_after sz (store_of c v) r (store.by_policy m)
  fed-same c v r m e h = ap (λ (s : ShelfStore). shelf_fed sz sz.shelf_pages r (store.by_policy m) (store.said_by sz r v m)
      (flash_cells store_format sz s.store.lent)) (sym (store-after v m)) ∙ ap (fed_with r m) (ran sz c v m e h)

  module _ (q : ℕ) (c : Cache) (u : Lent) (r : ShelfReference) (ss : List Sheet) (t : Turn) (ts : List mixed.Turn) (e : sizes_of
      c.sizes ≡ sz)
      (near : StillNear sz r (lent_to u t)) (T : Cache → Lent → ShelfReference → List Sheet → Type 0) where
    abbrev v : Lent
    v = lent_to u t

    own-step : (m : Made) → Keeps c v m → mixed.Own sz q (turn_of m ∷ ts) (store_of c u) r ss
        → (sizes_of (cache_then c m).sizes ≡ sz → (r' : ShelfReference) (ss' : List Sheet)
        → mixed.Own sz q ts (store_of (cache_then c m) (lent_then v m)) r' ss' → T (cache_then c m) (lent_then v m) r' ss')
        → OwnStep sz q c v r ss m T
    own-step (plain m) h a next = λ same.
        let k = fed-same c v r m e h in
        let b = a t.flash t.codes near (λ i l. ap (λ (R : ShelfReference). get_or R.reference.array i []) (sym k) ∙ same i l) in
        next (same-sizes sz c v m e h) (store.fed_by sz r v m) ss
        (subst (λ (s : ShelfStore). mixed.Own sz q ts s (store.fed_by sz r v m) ss)
        (ap (λ (x : ShelfResult). x.store) (sym (ran sz c v m e h)) ∙ store-after v m)
        (subst (λ (R : ShelfReference). mixed.Own sz q ts (mixed.store_after sz (store_of c v) (store.by_policy m)) R ss) (sym k) b))
    own-step (catalogue n w page x) h a next = λ many.
        let says = mixed.list_says sz policy_choice q ss r (asked_by w (operation_of x) page) in
        let b = a t.flash t.codes near many in record {
          answers = subst (λ (o : Out). o.says ≡ (says o).says) (sym h) b.answers;
          buffer = subst (λ (o : Out). o.page ≡ (says o).page) (sym h) b.buffer;
          then = next (kept-sizes sz c v n w page x e h) (says (out_of c v x)).reference (says (out_of c v x)).sheets
              (subst (λ (o : Out). mixed.Own sz q ts o.store (says o).reference (says o).sheets) (sym h) b.then);
        }

  own-model : (q : ℕ) (ts : List Turn) (c : Cache) (u : Lent) (r : ShelfReference) (ss : List Sheet) → sizes_of c.sizes ≡ sz
      → AsContracted c u ts → mixed.Own sz q (turns ts) (store_of c u) r ss → Own sz q c u r ss ts
  own-model q [] c u r ss e h a = tt
  own-model q (t ∷ ts) c u r ss e h a = λ near.
      own-step q c u r ss t (turns ts) e near (λ c' u' r' ss'. Own sz q c' u' r' ss' ts) t.made h.0 a
      (λ e' r' ss' b. own-model q ts (cache_then c t.made) (lent_then (lent_to u t) t.made) r' ss' e' h.1 b)

-- ---- from an accepted opening

module _ (sz : model.Sizes) (u : Lent) (done : (store_open sz u.below u.shelf).answer ≡ open_done) (match : CodesMatch sz u)
    (flash : Bytes u.below.flash) (shelf : Bytes u.shelf) where
  opened-as : (store_open sz u.below u.shelf ≡ opened_below sz u.below) × (length u.shelf ≡ sz.shelf_pages * sz.S)
  opened-as = opened-shelf sz u.below u.shelf done

  accepted : (open_store store_format sz u.below).answer ≡ open_done
  accepted = ap (λ (x : ShelfOpened). x.answer) (sym opened-as.0) ∙ done

  within : model.InLimits sz
  within = limits_of sz (open_accepted store_format sz u.below accepted).sizes-ok

  few-pages : sz.shelf_pages ≤ 8
  few-pages = within.shelf-high

  pages : mixed.AllBytes (flash_pages store_format sz u.below)
  pages = flash-bytes sz within u.below (fits-of store_format sz u.below (open_accepted store_format sz
      u.below accepted).lent_ok_lem) match
      flash

  shelved : mixed.AllBytes (pages_of_shelf sz sz.shelf_pages u.shelf)
  shelved = shelf-bytes sz sz.shelf_pages u.shelf shelf

  mixed-all : (ts : List Turn) → InWords ts → Mixed sz u.below (turns ts) (stored.beginning sz u done) (begun sz u)
  mixed-all ts w = mixed-opened sz u.below accepted match few-pages u.shelf opened-as.1 pages shelved (turns ts) (turns-pick ts)
      (turns-words ts w)

  own-all : (k : ℕ) (ts : List Turn) → InWords ts → mixed.Own sz k (turns ts) (stored.beginning sz u done) (begun sz u)
      (sheets_in k (flash_pages store_format sz u.below))
  own-all k ts w = own-opened sz u.below accepted match few-pages u.shelf opened-as.1 pages shelved k (turns ts) (turns-pick ts)
      (turns-words ts w)

pub demand_3 : Demand3
demand_3 z u o is done match flash shelf ts w h =
    let sz : model.Sizes = sizes_of z in
    let open_done_lem = ap (λ (x : ShelfOpened). x.answer) (sym is) ∙ done in
    let start : store_of o.cache u ≡ stored.beginning sz u open_done_lem = stored.begins sz u open_done_lem (opened_of o) is in
    from-model sz u ts o.cache u (begun sz u)
    (ap (λ (s : ShelfStore). sizes_in s) start ∙ stored.begins-sizes sz u open_done_lem) h
    (subst (λ (s : ShelfStore). Left sz u ts s (begun sz u)) (sym start) (mixed-all sz u open_done_lem match flash shelf ts w))

pub answers-as_list : AnswersAsList
answers-as_list z u o is done match flash shelf k ts w h =
    let sz : model.Sizes = sizes_of z in
    let open_done_lem = ap (λ (x : ShelfOpened). x.answer) (sym is) ∙ done in
    let start : store_of o.cache u ≡ stored.beginning sz u open_done_lem = stored.begins sz u open_done_lem (opened_of o) is in
    own-model sz u k ts o.cache u (begun sz u) _
    (ap (λ (s : ShelfStore). sizes_in s) start ∙ stored.begins-sizes sz u open_done_lem) h
    (subst (λ (s : ShelfStore). mixed.Own sz k (turns ts) s (begun sz u) (sheets_in k (flash_pages store_format sz u.below))) (sym start)
    (own-all sz u open_done_lem match flash shelf k ts w))
