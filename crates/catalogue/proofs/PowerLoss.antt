-- Request A12 for the catalogue: from a judged call that is cut off to what it leaves.
use mathlib.Core.Path.{◌≡◌, refl, sym, ap, ◌∙◌, subst}
use mathlib.Core.Logic.{inl, inr}
use Prim.Native.Nat.{ℕ, suc, ◌≤◌}
use Rattle.model.specs.Calls.{Buffers, Cell, Page, write, zero_page}
use Rattle.model.specs.Formats.{chip_for}
use Rattle.model.specs.Shelf.{plainly, ShelfStore}
use Rattle.model.specs.Cut.{Left}
use Rattle.model.specs.CutCalls.{left_in}
use Rattle.model.proofs.Cut.{cut-nothing}
use Rattle.cache.specs.View.{sizes_of}
use Rattle.store.specs.declared.Cache.{Cache}
use Rattle.store.specs.View.{Lent, store_of}
use Rattle.store.specs.PowerLoss.{PowerLost}
use Rattle.store.proofs.PowerLoss.{power_lost}
use Rattle.runs.specs.Sheet.{Sheet, page_of}
use Rattle.runs.specs.Roles.{Operation}
use Rattle.runs.specs.Verdict.{put}
use Rattle.over.specs.Catalogue.{Out, last_step}
use Rattle.sheets.specs.declared.roles.Caller.{Caller}
use Rattle.catalogue.specs.View.{called, stepped}
use Rattle.catalogue.specs.Histories.{Entry, look, list, read, add, replace, mark, lent_after, out_of}
use Rattle.catalogue.specs.PowerLoss.{CutPut, CutEntry, CutOff}

-- a call that is turned down, and one that comes to the write of a sheet
module _ (cache : Cache) (u : Lent) (c : ℕ) (w : Caller) (op : Operation) (page : Page) (ops : ℕ) (r : Cache) where
  pub put_cut : (i : ℕ) (sh : Sheet) → stepped cache u c page (put i sh) ≡ called cache u c w op page → (u' : Buffers)
      → CutPut cache u ops i sh r u' → CutEntry cache u c w op page ops r u'
  unfolding last_step
  put_cut i sh e u' h = inr (record { at = i; sheet = sh; writes = ap (λ (o : Out). o.store) (sym e); cut = h })

-- the store after a call is the one in what came out of it
store-after : (c : Cache) (u : Lent) (e : Entry) → (out_of c u e).store.store.lent ≡ (lent_after u e).below
store-after c u (look n out page') = refl
store-after c u (list n out page') = refl
store-after c u (read n x out page') = refl
store-after c u (add s f n out u' page') = refl
store-after c u (replace n s f x out u' page') = refl
store-after c u (mark n x out u' page') = refl

pub cut_off : CutOff
cut_off cache u c w page e h ops r u' k =
    let sz = sizes_of cache.sizes in
    let left : (s : ShelfStore) → (called cache u c w _ page).store ≡ s → left_in sz (lent_after u e).below ≡ left_in sz s.store.lent =
    λ s q. ap (left_in sz) (sym (store-after cache u e) ∙ ap (λ (o : Out). o.store.store.lent) h ∙ ap (λ
    (x : ShelfStore). x.store.lent) q) in
    elim k [
      | inl x ↦ subst (λ (l' : Left Cell). PowerLost sz (left_in sz u.below) (left_in sz (lent_after u e).below) l' (suc sz.K ≤ ops))
          (ap (left_in sz) (sym x.nothing.lent-stays)) (record {
            short = cut-nothing (chip_for sz) (zero_page sz) sz _ _;
            marked-0 = λ q. inl ((λ n nl b. refl), refl);
            whole = λ q. sym (left (store_of cache u) x.same);
          })
      | inr x ↦ subst (λ (l₁ : Left Cell). PowerLost sz (left_in sz u.below) l₁ (left_in sz u') (suc sz.K ≤ ops))
          (sym (left _ x.writes))
          (power_lost ops (store_of cache u) (plainly (write x.at (page_of cache.sizes.page_size x.sheet))) u' x.cut.cut)
    ]
