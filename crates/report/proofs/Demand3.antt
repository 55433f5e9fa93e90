-- Demand 3 with reports in the list. A report leaves record and buffers alone, so that the list without its reports is one of demand 3;
-- and at each report the store is one whose report is accepted, with the book's wear.
use mathlib.Core.Path.{◌≡◌, sym, ap, subst, ◌∙◌}
use mathlib.Core.Bool.{true, ◌&&◌}
use mathlib.Core.List.{List, [], ◌∷◌}
use Prim.Native.Nat.{ℕ, ◌*◌}
use lib.Dec.{leb, eqb}
use lib.ListN.{length}
use borrow.Author.Tests.{eqb-true, eq-eqb}
use Rattle.prelude.specs.Scan.{all}
use Rattle.prelude.proofs.Tests.{and_r, and_i}
use Rattle.model.specs.Sizes as model
use Rattle.model.specs.Policy.{policy_choice}
use Rattle.model.specs.Calls.{open_done, lent_ok}
use Rattle.model.specs.Formats.{store_format, StoreMatches, StoreNear}
use Rattle.model.specs.Shelf.{ShelfOpened, ShelfStore, ShelfReference, store_open}
use Rattle.model.proofs.Soundness.{limits_of}
use Rattle.model.proofs.Plan.{policy_choice-picks}
use Rattle.model.proofs.Opening.{Accept, open_accepted}
use Rattle.model.proofs.Formats.{store-bears}
use Rattle.model.proofs.Buffers.{fits-of}
use Rattle.model.proofs.Demand3.{holds-sound}
use Rattle.model.proofs.Shelf.{run_ok, lent_of, sizes-stay, shelves-opened}
use Rattle.model.proofs.Shelving.{opened-shelf}
use Rattle.cache.specs.View.{sizes_of}
use Rattle.wear.specs.Figures.{wear_at, total, largest, spread, in_limit}
use Rattle.wear.specs.Report.{figures, record_ok, buffers_ok}
use Rattle.wear.proofs.Staying.{Fine, stays-fine}
use Rattle.wear.proofs.Wearing.{fine_report}
use Rattle.store.specs.declared.Cache.{Cache}
use Rattle.store.specs.View.{Lent, store_of, opened_of}
use Rattle.store.specs.Histories.{Made, call_of, cache_after, lent_after, Contract, Turn, flipped_to, lent_to, AsContracted, fed_by}
use Rattle.store.specs.Histories.{StillNear}
use Rattle.store.specs.Histories.{Claim, CodesMatch, begun}
use Rattle.store.proofs.Demand3.{beginning, begins, begins-sizes, demand_3}
use Rattle.report.specs.Histories.{Item, called, asked, AllContracted, calls_of, ReportsBook, Demand3WithReports}
use Rattle.report.proofs.Changes.{then}

-- a call says what flash and codes it finds, so that flips before it are its own
same-calls : (c : Cache) (u : Lent) (flash codes : List ℕ) (ts : List Turn) → AsContracted c (flipped_to u flash codes) ts
    → AsContracted c u ts
same-calls c u flash codes [] h = h
same-calls c u flash codes (t ∷ ts) h = h

-- the list without its reports
calls-contracted : (is : List Item) (c : Cache) (u : Lent) → AllContracted c u is → AsContracted c u (calls_of is)
calls-contracted [] c u h = tt
calls-contracted (called t ∷ is) c u h = (h.0, calls-contracted is _ _ h.1)
calls-contracted (asked flash codes x ∷ is) c u h = same-calls c u flash codes (calls_of is)
    (calls-contracted is c (flipped_to u flash codes) (subst (λ (k : Cache). AllContracted k (flipped_to u flash codes) is) h.0.1 h.1))

module _ (sz : model.Sizes) (u₀ : Lent) where
  -- demand 3 of every list from here on
  abbrev Onward : Cache → Lent → ShelfReference → Type 0
  Onward c u r = (ts : List Turn) → AsContracted c u ts → Claim sz u₀ c u r ts

  same-claim : (c : Cache) (u : Lent) (r : ShelfReference) (flash codes : List ℕ) (ts : List Turn) → Claim sz u₀ c u r ts
      → Claim sz u₀ c (flipped_to u flash codes) r ts
  same-claim c u r flash codes [] a = a
  same-claim c u r flash codes (t ∷ ts) a = a

  -- what the checks of a report ask of record and wear
  record Reportable (c : Cache) (u : Lent) : Type 0 where
    sizes-are : sizes_of c.sizes ≡ sz
    record_ok_lem : record_ok (store_of c u) ≡ true
    shelf-long : length u.shelf ≡ sz.shelf_pages * sz.S
    in_limit_lem : in_limit u.below.wear sz.W ≡ true

  -- with buffers that fit
  fine_now : (c : Cache) (u : Lent) (r : ShelfReference) (flash codes : List ℕ) → Reportable c u
      → StillNear sz r (flipped_to u flash codes) → Fine (store_of c (flipped_to u flash codes))
  unfolding record_ok buffers_ok
  fine_now c u r flash codes a near = record {
    record_ok_lem = a.record_ok_lem;
    buffers-ok = subst (λ (w : model.Sizes). (lent_ok store_format w (flipped_to u flash codes).below
        && eqb (length u.shelf) (w.shelf_pages * w.S)) ≡ true) (sym a.sizes-are)
        (and_i (lent_of store_format sz _ near.fits) (eq-eqb _ _ a.shelf-long));
    in_limit_lem = subst (λ (w : model.Sizes). in_limit u.below.wear w.W ≡ true) (sym a.sizes-are) a.in_limit_lem;
  }

  next : (c : Cache) (u : Lent) (m : Made) → Contract c u m → sizes_of c.sizes ≡ sz → Fine (store_of c u)
      → Reportable (cache_after m) (lent_after u m)
  unfolding buffers_ok
  next c u m k e fine =
      let f = subst Fine (sym (then c u m k)) (stays-fine (store_of c u) fine policy_choice policy_choice-picks (call_of m)) in
      let z : sizes_of (cache_after m).sizes ≡ sz = ap (λ (s : ShelfStore). s.store.cache.sizes) (then c u m k)
      ∙ sizes-stay store_format policy_choice _ (store_of c u) (call_of m) ∙ e in record {
        sizes-are = z;
        record_ok_lem = f.record_ok_lem;
        shelf-long = eqb-true _ _ (subst (λ (w : model.Sizes). eqb (length (lent_after u m).shelf) (w.shelf_pages * w.S) ≡ true) z
            (and_r (lent_ok store_format (sizes_of (cache_after m).sizes) (lent_after u m).below) _ f.buffers-ok));
        in_limit_lem = subst (λ (w : model.Sizes). in_limit (lent_after u m).below.wear w.W ≡ true) z f.in_limit_lem;
      }

  -- what is to come of the list
  reports : (is : List Item) (c : Cache) (u : Lent) (r : ShelfReference) → Onward c u r → Reportable c u → AllContracted c u is
      → ReportsBook sz u r is
  reports [] c u r on a h = tt
  reports (called t ∷ is) c u r on a h = λ near.
      let v : Lent = lent_to u t in
      reports is (cache_after t.made) (lent_after v t.made) (fed_by sz r v t.made) (λ ts q. (on (t ∷ ts) (h.0, q) near).then)
      (next c v t.made h.0 a.sizes-are (fine_now c u r t.flash t.codes a near)) h.1
  reports (asked flash codes x ∷ is) c u r on a h = λ near.
      let v : Lent = flipped_to u flash codes in
      let fine = fine_now c u r flash codes a near in (
        h.0.0 ∙ fine_report (store_of c v) fine
            ∙ ap (λ (w : List ℕ). figures (total w) (largest w) (spread w)) (on [] tt flash codes near).wear-is,
        reports is c v r (λ ts q. same-claim c u r flash codes ts (on ts (same-calls c u flash codes ts q)))
            (record {
              sizes-are = a.sizes-are;
              record_ok_lem = fine.record_ok_lem;
              shelf-long = a.shelf-long;
              in_limit_lem =
                  a.in_limit_lem;
            })
            (subst (λ (k : Cache). AllContracted k v is) h.0.1 h.1),
      )

-- an accepted opening leaves such a store
module _ (sz : model.Sizes) (u : Lent) (done : (store_open sz u.below u.shelf).answer ≡ open_done) (match : CodesMatch sz u) where
  opening : Accept store_format sz u.below
  opening = open_accepted store_format sz u.below
      (ap (λ (x : ShelfOpened). x.answer) (sym (opened-shelf sz u.below u.shelf done).0) ∙ done)

  within : model.InLimits sz
  within = limits_of sz opening.sizes-ok

  opened-ok : record_ok (beginning sz u done) ≡ true
  unfolding record_ok
  opened-ok =
      let laws = store-bears sz within.whole in
      let x = shelves-opened store_format StoreMatches StoreNear sz laws u.below within sz.shelf_pages within.shelf-high opening
      match u.shelf (opened-shelf sz u.below u.shelf done).1 in
      let h = holds-sound store_format StoreMatches StoreNear sz laws u.below _ _ x.holds in
      rw (begins-sizes sz u done) (and_i h.1 (run_ok sz within sz.shelf_pages within.shelf-high x.count _ x.run))

  wear-within : in_limit u.below.wear sz.W ≡ true
  unfolding in_limit
  wear-within = ap (λ (n : ℕ). all n (λ b. leb (wear_at u.below.wear b) sz.W))
      (fits-of store_format sz u.below opening.lent_ok_lem).wear-length ∙ opening.wear-ok

pub demand_3_with_reports : Demand3WithReports
demand_3_with_reports z u o is done match items h =
    let sz : model.Sizes = sizes_of z in
    let open_done_lem = ap (λ (x : ShelfOpened). x.answer) (sym is) ∙ done in
    let start : store_of o.cache u ≡ beginning sz u open_done_lem = begins sz u open_done_lem (opened_of o) is in (
      demand_3 z u o is done match (calls_of items) (calls-contracted items o.cache u h),
      reports sz u items o.cache u (begun sz u) (demand_3 z u o is done match) (record {
        sizes-are = ap (λ (s : ShelfStore). s.store.cache.sizes) start ∙ begins-sizes sz u open_done_lem;
        record_ok_lem = ap record_ok start ∙ opened-ok sz u open_done_lem match;
        shelf-long = (opened-shelf sz u.below u.shelf open_done_lem).1;
        in_limit_lem = wear-within sz u open_done_lem match;
      }) h,
    )
