-- Request A12 for the code, from the model's.
use mathlib.Core.Path.{◌≡◌, sym, ap, ◌∙◌, subst}
use mathlib.Core.List.{List, [], ◌∷◌}
use Prim.Native.Nat.{ℕ, ◌≤◌}
use Rattle.model.specs.Sizes as model
use Rattle.model.specs.Policy.{policy_choice}
use Rattle.model.specs.Calls.{Buffers, Cell, flash_cells}
use Rattle.model.specs.Formats.{store_format, StoreNear}
use Rattle.model.specs.Shelf.{ShelfOpened, ShelfCall, ShelfStore, ShelfResult, ShelfReference, store_call, shelf_fed}
use Rattle.model.specs.Cut.{Left, operations}
use Rattle.model.specs.CutCalls.{left_in, meant_by, CutTo, left_whole, ShelfEnds}
use Rattle.model.proofs.Plan.{policy_choice-picks}
use Rattle.model.proofs.CutCalls.{cut-rule, whole-rule, marked-zero_rule}
use Rattle.model.proofs.Torn.{store-made_whole}
use Rattle.cache.specs.View.{sizes_of}
use Rattle.store.specs.declared.Cache.{Cache}
use Rattle.store.specs.View.{Lent, store_of, opened_of}
use Rattle.store.specs.Histories.{Made, call_of, cache_after, lent_after, Turn, lent_to, AsContracted, by_policy, said_by, fed_by}
use Rattle.store.specs.Histories.{begun}
use Rattle.store.specs.PowerLoss.{CutOff, PowerLost, Ends, MadeWhole}
use Rattle.store.proofs.Demand3.{chosen, chosen-pick, store-after, called, same-sizes, fed_with, accepted, few-pages, opened-as}
use Rattle.store.proofs.Demand3.{begins}
use Rattle.store.proofs.Demand3.{beginning, begins-sizes}

-- of a store of the model
pub power_lost : (ops : ℕ) (s : ShelfStore) (c : ShelfCall) (u' : Buffers) → CutTo policy_choice ops s c u'
    → let sz = s.store.cache.sizes in
    PowerLost sz (left_in sz s.store.lent) (left_whole policy_choice s c) (left_in sz u') (operations sz (meant_by s c) ≤ ops)
power_lost ops s c u' k = let short = cut-rule policy_choice policy_choice-picks ops s c u' k in record {
  short = short;
  marked-0 = λ q. marked-zero_rule s.store.cache.sizes _ _ _ q short;
  whole = whole-rule policy_choice policy_choice-picks ops s c u' k;
}

pub cut_off : CutOff
cut_off c u m h ops r u' k =
    let sz = sizes_of c.sizes in
    let s : ShelfStore = store_of c u in
    -- the whole call leaves what the code's call left
    let is : left_in sz (lent_after u m).below ≡ left_in sz (store_call policy_choice s (call_of m)).store.store.lent =
    ap (λ (x : ShelfStore). left_in sz x.store.lent) (sym (store-after u m)) ∙ ap (λ (x : ShelfResult). left_in sz
    x.store.store.lent) h in
    subst (λ (l₁ : Left Cell). PowerLost sz (left_in sz u.below) l₁ (left_in sz u') (operations sz (meant_by s (call_of m)) ≤ ops)) (sym is)
    (power_lost ops s (call_of m) u' k.cut)

module _ (sz : model.Sizes) where
  abbrev Ending : List Turn → ShelfStore → ShelfReference → Type 0
  Ending ts s r = ShelfEnds store_format StoreNear sz sz.shelf_pages (chosen ts) s r

  ends-from : (ts : List Turn) (c : Cache) (u : Lent) (r : ShelfReference) → sizes_of c.sizes ≡ sz → AsContracted c u ts
      → Ending ts (store_of c u) r → Ends sz u r ts
  ends-from [] c u r e h a = a
  ends-from (t ∷ ts) c u r e h a = λ near.
      let m : Made = t.made in
      let v : Lent = lent_to u t in
      let k = called sz c v m e h.0 in
      ends-from ts (cache_after m) (lent_after v m) (fed_by sz r v m) (same-sizes sz c v m e h.0) h.1
      (subst (λ (s : ShelfStore). Ending ts s (shelf_fed sz sz.shelf_pages r (by_policy m) (said_by sz r v m)
      (flash_cells store_format sz s.store.lent))) (store-after v m)
      (subst (λ (x : ShelfResult). Ending ts x.store (fed_with sz u r m x)) (sym k) (a t.flash t.codes near)))

pub made-whole : MadeWhole
made-whole z u o is done marked match ts h =
    let sz : model.Sizes = sizes_of z in
    let open_done_lem = ap (λ (x : ShelfOpened). x.answer) (sym is) ∙ done in
    let start : store_of o.cache u ≡ beginning sz u open_done_lem = begins sz u open_done_lem (opened_of o) is in
    ends-from sz ts o.cache u (begun sz u)
    (ap (λ (s : ShelfStore). s.store.cache.sizes) start ∙ begins-sizes sz u open_done_lem) h
    (subst (λ (s : ShelfStore). Ending sz ts s (begun sz u)) (sym start)
    (store-made_whole sz u.below (accepted sz u open_done_lem) marked match sz.shelf_pages (few-pages sz u open_done_lem) u.shelf
    (opened-as sz u open_done_lem).1 (chosen ts) (chosen-pick ts)))
