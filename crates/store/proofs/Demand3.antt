-- Demand 3 for the code, from the model's.
use mathlib.Core.Path.{◌≡◌, refl, sym, ap, ◌∙◌, subst}
use mathlib.Core.Bool.{Bool}
use mathlib.Core.List.{List, [], ◌∷◌}
use Prim.Native.Nat.{ℕ, ◌*◌, ◌≤◌, ◌<◌}
use lib.ListN.{length}
use Rattle.model.specs.Sizes as model
use Rattle.model.specs.Directory as cached
use Rattle.model.specs.Policy.{policy_choice}
use Rattle.model.specs.Formats.{code_for, store_format, StoreMatches, StoreNear}
use Rattle.model.specs.Calls.{is_refused, flash_cells, open_store, open_done, page_seen}
use Rattle.model.specs.Lists.{opened, flipped, Borne}
use Rattle.model.specs.Shelf.{ShelfOpened, ShelfStore, ShelfResult, ShelfReference, ShelfChosen, store_open, no_entries}
use Rattle.model.specs.Shelf.{shelf_call, shelf_book_says, shelf_fed, ShelfGives, ShelfClaim}
use Rattle.model.proofs.Plan.{policy_choice-picks}
use Rattle.model.proofs.Demand3.{cells_fit}
use Rattle.model.proofs.Soundness.{limits_of}
use Rattle.model.proofs.Opening.{open_accepted}
use Rattle.model.proofs.Formats.{store-bears}
use Rattle.model.proofs.Plain.{uncoded}
use Rattle.model.proofs.Buffers.{fits-of}
use Rattle.model.proofs.Shelf.{AllShelfPick, sizes-stay, demand_3_shelf}
use Rattle.model.proofs.Shelving.{empty-is, opened_below, opened-shelf}
use Rattle.model.specs.Legible.{ShelfLegible}
use Rattle.model.proofs.Legible.{store-legible}
use Rattle.model.specs.Undo as undo
use Rattle.model.proofs.Undo.{shelf-undoes}
use Rattle.cache.specs.View.{sizes_of}
use Rattle.store.specs.declared.Cache.{Cache}
use Rattle.store.specs.View.{Lent, store_of, opened_of}
use Rattle.store.specs.Histories.{Made, read, write, part, step, flush, back, call_of, cache_after, lent_after, result_of, Turn, lent_to}
use Rattle.store.specs.Histories.{AsContracted, by_policy, said_by, fed_by, StillNear, Claim, CodesMatch, begun, Demand3}
use Rattle.store.specs.Histories.{Contract, Legible, NeverUnreadable, UndoneBy, Undoes, TakenBack}

-- the calls of a list, each by the policy of the record
abbrev pub chosen : List Turn → List ShelfChosen
chosen [] = []
chosen (t ∷ ts) = by_policy t.made ∷ chosen ts

pub chosen-pick : (ts : List Turn) → AllShelfPick (chosen ts)
chosen-pick [] = tt
chosen-pick (t ∷ ts) = (policy_choice-picks, chosen-pick ts)

-- the store after a call is the one in what came out of it
pub store-after : (u : Lent) (m : Made) → (result_of u m).store ≡ store_of (cache_after m) (lent_after u m)
store-after u (read n page out page') = refl
store-after u (write n page out u') = refl
store-after u (part n first x page out u' page') = refl
store-after u (step out flash' codes' marks' wear' bspace') = refl
store-after u (flush out flash' codes' marks' wear' bspace') = refl
store-after u (back out below') = refl

-- one call of a store with sizes sz, by its contract
module _ (sz : model.Sizes) (c : Cache) (v : Lent) (m : Made) (e : sizes_of c.sizes ≡ sz) (h : Contract c v m) where
  pub called : result_of v m ≡ shelf_call store_format sz.shelf_pages policy_choice (store_of c v) (call_of m)
  called = h ∙ ap (λ (w : model.Sizes). shelf_call store_format w.shelf_pages policy_choice (store_of c v) (call_of m)) e

  pub same-sizes : sizes_of (cache_after m).sizes ≡ sz
  same-sizes = ap (λ (s : ShelfStore). s.store.cache.sizes) (sym (store-after v m))
      ∙ ap (λ (x : ShelfResult). x.store.store.cache.sizes) called
      ∙ sizes-stay store_format policy_choice sz.shelf_pages (store_of c v) (call_of m) ∙ e

module _ (sz : model.Sizes) (u₀ : Lent) where
  abbrev Left : List Turn → ShelfStore → ShelfReference → Type 0
  Left ts s r = ShelfClaim store_format StoreNear sz sz.shelf_pages u₀.below (chosen ts) s r

  -- what the reference is fed, with a result x of the call m
  abbrev pub fed_with : ShelfReference → Made → ShelfResult → ShelfReference
  fed_with r m x = shelf_fed sz sz.shelf_pages r (by_policy m) (shelf_book_says sz sz.shelf_pages r (by_policy m) x.answer)
      (flash_cells store_format sz x.store.store.lent)

  from-model : (ts : List Turn) (c : Cache) (u : Lent) (r : ShelfReference) → sizes_of c.sizes ≡ sz → AsContracted c u ts
      → Left ts (store_of c u) r → Claim sz u₀ c u r ts
  from-model [] c u r e h a = a
  from-model (t ∷ ts) c u r e h a = λ near.
      let m : Made = t.made in
      let v : Lent = lent_to u t in
      let k = called sz c v m e h.0 in
      let b = a t.flash t.codes near in
      let same = same-sizes sz c v m e h.0 in
      record {
        answers = subst (λ (x : ShelfResult). x.answer ≡ (shelf_book_says sz sz.shelf_pages r (by_policy m) x.answer).answer) (sym k)
            b.answers;
        reads = subst (ShelfGives r.reference.array (call_of m)) (sym k) b.reads;
        near = subst (λ (s : ShelfStore). Borne store_format StoreNear sz
            (shelf_fed sz sz.shelf_pages r (by_policy m) (said_by sz r v m) (flash_cells store_format sz s.store.lent)).reference
            s.store.lent) (store-after v m)
            (subst (λ (x : ShelfResult). Borne store_format StoreNear sz (fed_with r m x).reference x.store.store.lent) (sym k)
            b.borne);
        then = from-model ts (cache_after m) (lent_after v m) (fed_by sz r v m) same h.1
            (subst (λ (s : ShelfStore). Left ts s (shelf_fed sz sz.shelf_pages r (by_policy m) (said_by sz r v m)
            (flash_cells store_format sz s.store.lent))) (store-after v m)
            (subst (λ (x : ShelfResult). Left ts x.store (fed_with r m x)) (sym k) b.then));
      }

-- what an accepted opening begins with
module _ (sz : model.Sizes) (u : Lent) (done : (store_open sz u.below u.shelf).answer ≡ open_done) where
  pub opened-as : (store_open sz u.below u.shelf ≡ opened_below sz u.below) × (length u.shelf ≡ sz.shelf_pages * sz.S)
  opened-as = opened-shelf sz u.below u.shelf done

  pub accepted : (open_store store_format sz u.below).answer ≡ open_done
  accepted = ap (λ (x : ShelfOpened). x.answer) (sym opened-as.0) ∙ done

  within : model.InLimits sz
  within = limits_of sz (open_accepted store_format sz u.below accepted).sizes-ok

  pub few-pages : sz.shelf_pages ≤ 8
  few-pages = within.shelf-high

  -- the store, with the record that the opening made
  abbrev pub beginning : ShelfStore
  beginning = record {
    store = record { cache = (open_store store_format sz u.below).cache; lent = u.below };
    entries = no_entries;
    shelf = u.shelf;
  }

  pub begins : (x : ShelfOpened) → x ≡ store_open sz u.below u.shelf → record {
    store = record { cache = x.cache; lent = u.below };
    entries = x.entries;
    shelf = u.shelf;
  } ≡ beginning
  begins x is = ap (λ (y : ShelfOpened). record {
    store = record { cache = y.cache; lent = u.below };
    entries = y.entries;
    shelf = u.shelf;
  }) (is ∙ opened-as.0)

  pub begins-sizes : beginning.store.cache.sizes ≡ sz
  begins-sizes = ap (λ (x : cached.Cache). x.sizes) (open_accepted store_format sz u.below accepted).cache-is

  -- the model's demand 3, and what holds with page codes, of this store
  pub claimed : CodesMatch sz u → (cs : List ShelfChosen) → AllShelfPick cs
      → ShelfClaim store_format StoreNear sz sz.shelf_pages u.below cs beginning (begun sz u)
  claimed match = demand_3_shelf store_format StoreMatches StoreNear sz (store-bears sz within.whole) u.below accepted match
      sz.shelf_pages few-pages u.shelf opened-as.1

  pub legible : CodesMatch sz u → (cs : List ShelfChosen) → AllShelfPick cs
      → ShelfLegible store_format StoreNear sz sz.shelf_pages cs beginning (begun sz u)
  legible match = store-legible sz u.below accepted match sz.shelf_pages few-pages u.shelf opened-as.1

  pub undoing : CodesMatch sz u → (cs : List ShelfChosen) → AllShelfPick cs
      → undo.ShelfUndoes store_format StoreNear sz sz.shelf_pages cs beginning (begun sz u)
  undoing match = shelf-undoes store_format StoreMatches StoreNear sz (store-bears sz within.whole) u.below accepted match
      sz.shelf_pages few-pages u.shelf opened-as.1

-- at opening every cell is near itself
pub near-opened : (sz : model.Sizes) (u : Lent) → (store_open sz u.below u.shelf).answer ≡ open_done → StillNear sz (begun sz u) u
unfolding opened
near-opened sz u h = record {
  fits = fits-of store_format sz u.below (open_accepted store_format sz u.below (accepted sz u h)).lent_ok_lem;
  near = λ n q. (store-bears sz (within sz u h).whole).near-self _;
}

-- a store without codes lends none, so that they match
pub codes-match : (sz : model.Sizes) (u : Lent) → sz.coded ≡ 0 → (store_open sz u.below u.shelf).answer ≡ open_done → CodesMatch sz u
codes-match sz u z h n q =
    let c = uncoded sz z in
    let fits = cells_fit store_format StoreMatches StoreNear sz (store-bears sz (within sz u h).whole) u.below
    (fits-of store_format sz u.below (open_accepted store_format sz u.below (accepted sz u h)).lent_ok_lem) n q in
    rw c (empty-is _ (fits.1 ∙ ap (λ (b : Bool). (code_for b).long sz) c))

pub demand_3 : Demand3
demand_3 z u o is done match ts h =
    let sz : model.Sizes = sizes_of z in
    let open_done_lem = ap (λ (x : ShelfOpened). x.answer) (sym is) ∙ done in
    let start : store_of o.cache u ≡ beginning sz u open_done_lem = begins sz u open_done_lem (opened_of o) is in
    from-model sz u ts o.cache u (begun sz u)
    (ap (λ (s : ShelfStore). s.store.cache.sizes) start ∙ begins-sizes sz u open_done_lem) h
    (subst (λ (s : ShelfStore). Left sz u ts s (begun sz u)) (sym start) (claimed sz u open_done_lem match (chosen ts) (chosen-pick ts)))

-- ---- no call is refused 7, and an undisturbed store mends nothing

module _ (sz : model.Sizes) where
  abbrev Readable : List Turn → ShelfStore → ShelfReference → Type 0
  Readable ts s r = ShelfLegible store_format StoreNear sz sz.shelf_pages (chosen ts) s r

  legible-from : (ts : List Turn) (c : Cache) (u : Lent) (r : ShelfReference) → sizes_of c.sizes ≡ sz → AsContracted c u ts
      → Readable ts (store_of c u) r → Legible sz u r ts
  legible-from [] c u r e h a = tt
  legible-from (t ∷ ts) c u r e h a = λ near.
      let m : Made = t.made in
      let v : Lent = lent_to u t in
      let k = called sz c v m e h.0 in
      let b = a t.flash t.codes near in
      let same = same-sizes sz c v m e h.0 in
      record {
        readable = λ x q. b.readable x (ap (λ (y : ShelfResult). y.answer) (sym k) ∙ q);
        mendless = λ q. ap (λ (y : ShelfResult). y.mends) k ∙ b.mendless q;
        then = legible-from ts (cache_after m) (lent_after v m) (fed_by sz r v m) same h.1
            (subst (λ (s : ShelfStore). Readable ts s (shelf_fed sz sz.shelf_pages r (by_policy m) (said_by sz r v m)
            (flash_cells store_format sz s.store.lent))) (store-after v m)
            (subst (λ (x : ShelfResult). Readable ts x.store (fed_with sz u r m x)) (sym k) b.then));
      }

pub never_unreadable : NeverUnreadable
never_unreadable z u o is done match ts h =
    let sz : model.Sizes = sizes_of z in
    let open_done_lem = ap (λ (x : ShelfOpened). x.answer) (sym is) ∙ done in
    let start : store_of o.cache u ≡ beginning sz u open_done_lem = begins sz u open_done_lem (opened_of o) is in
    legible-from sz ts o.cache u (begun sz u)
    (ap (λ (s : ShelfStore). s.store.cache.sizes) start ∙ begins-sizes sz u open_done_lem) h
    (subst (λ (s : ShelfStore). Readable sz ts s (begun sz u)) (sym start) (legible sz u open_done_lem match (chosen ts) (chosen-pick ts)))

-- ---- request A8: taking back undoes a write

module _ (sz : model.Sizes) where
  abbrev Undoing : List Turn → ShelfStore → ShelfReference → Type 0
  Undoing ts s r = undo.ShelfUndoes store_format StoreNear sz sz.shelf_pages (chosen ts) s r

  abbrev Undone : ShelfStore → ShelfReference → ShelfStore → ShelfReference → List Turn → Type 0
  Undone s r s₁ r₁ ts = undo.UndoneBy store_format StoreNear sz sz.shelf_pages s r s₁ r₁ (chosen ts)

  -- what came out of the code's call stands for what the model's call gives
  undone-from : (c : Cache) (u : Lent) (r : ShelfReference) (c₁ : Cache) (u₁ : Lent) (r₁ : ShelfReference) (ts : List Turn)
      → sizes_of c₁.sizes ≡ sz → AsContracted c₁ u₁ ts → Undone (store_of c u) r (store_of c₁ u₁) r₁ ts → UndoneBy sz c u r c₁ u₁ r₁ ts
  undone-from c u r c₁ u₁ r₁ [] e h a = tt
  undone-from c u r c₁ u₁ r₁ (t ∷ ts) e h a = λ near is ok.
      let m : Made = t.made in
      let v : Lent = lent_to u₁ t in
      let k = called sz c₁ v m e h.0 in
      let b = a t.flash t.codes near is (ap (λ (x : ShelfResult). is_refused x.answer) (sym k) ∙ ok) in
      let there : fed_with sz u r₁ m (result_of v m) ≡ fed_by sz r₁ v m =
      ap (λ (s : ShelfStore). shelf_fed sz sz.shelf_pages r₁ (by_policy m)
      (said_by sz r₁ v m) (flash_cells store_format sz s.store.lent)) (store-after v m) in
      record {
        array-is = ap (λ (x : ShelfReference). x.reference.array) (sym there)
            ∙ ap (λ (x : ShelfResult). (fed_with sz u r₁ m x).reference.array) k ∙ b.array-is;
        shows = subst (λ (s : ShelfStore). (fl cd : List ℕ) → Borne store_format StoreNear sz (shelf_fed sz sz.shelf_pages r₁ (by_policy m)
            (said_by sz r₁ v m) (flash_cells store_format sz s.store.lent)).reference (flipped s.store fl cd).lent
            → (n : ℕ) → n < sz.N * sz.K
            → page_seen store_format (flipped s.store fl cd) n ≡ page_seen store_format (store_of c u).store n) (store-after v m)
            (subst (λ (x : ShelfResult). (fl cd : List ℕ) → Borne store_format StoreNear sz (fed_with sz u r₁ m x).reference
            (flipped x.store.store fl cd).lent → (n : ℕ) → n < sz.N * sz.K
            → page_seen store_format (flipped x.store.store fl cd) n ≡ page_seen store_format (store_of c u).store n) (sym k) b.shows);
      }

  undoes-from : (ts : List Turn) (c : Cache) (u : Lent) (r : ShelfReference) → sizes_of c.sizes ≡ sz → AsContracted c u ts
      → Undoing ts (store_of c u) r → Undoes sz c u r ts
  undoes-from [] c u r e h a = tt
  undoes-from (t ∷ ts) c u r e h a = λ near.
      let m : Made = t.made in
      let v : Lent = lent_to u t in
      let k = called sz c v m e h.0 in
      let b = a t.flash t.codes near in
      let same = same-sizes sz c v m e h.0 in
      record {
        undone = λ w ok. undone-from c v r (cache_after m) (lent_after v m) (fed_by sz r v m) ts same h.1
            (subst (λ (s : ShelfStore). Undone (store_of c v) r s (shelf_fed sz sz.shelf_pages r (by_policy m) (said_by sz r v m)
            (flash_cells store_format sz s.store.lent)) ts) (store-after v m)
            (subst (λ (x : ShelfResult). Undone (store_of c v) r x.store (fed_with sz u r m x) ts) (sym k)
            (b.undone w (ap (λ (x : ShelfResult). is_refused x.answer) (sym k) ∙ ok))));
        then = undoes-from ts (cache_after m) (lent_after v m) (fed_by sz r v m) same h.1
            (subst (λ (s : ShelfStore). Undoing ts s (shelf_fed sz sz.shelf_pages r (by_policy m) (said_by sz r v m)
            (flash_cells store_format sz s.store.lent))) (store-after v m)
            (subst (λ (x : ShelfResult). Undoing ts x.store (fed_with sz u r m x)) (sym k) b.then));
      }

pub taken_back : TakenBack
taken_back z u o is done match ts h =
    let sz : model.Sizes = sizes_of z in
    let open_done_lem = ap (λ (x : ShelfOpened). x.answer) (sym is) ∙ done in
    let start : store_of o.cache u ≡ beginning sz u open_done_lem = begins sz u open_done_lem (opened_of o) is in
    undoes-from sz ts o.cache u (begun sz u)
    (ap (λ (s : ShelfStore). s.store.cache.sizes) start ∙ begins-sizes sz u open_done_lem) h
    (subst (λ (s : ShelfStore). Undoing sz ts s (begun sz u)) (sym start) (undoing sz u open_done_lem match (chosen ts) (chosen-pick ts)))
