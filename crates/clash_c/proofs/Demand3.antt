-- Demand 3 for what a program links, and what holds of it with page codes, from the model's.
use mathlib.Core.Path.{◌≡◌, refl, sym, ap, ◌∙◌, subst}
use mathlib.Core.Bool.{false}
use mathlib.Core.List.{List, [], ◌∷◌}
use Prim.Native.Nat.{ℕ, ◌*◌, ◌<◌}
use native.Mathlib.Omega.{arith}
use Rattle.model.specs.Sizes as model
use Rattle.model.specs.Sizes.{vacant}
use Rattle.model.specs.Policy.{policy_choice}
use Rattle.model.specs.Calls.{Answer, read_done, write_done, step_done, step_clean, flush_done, is_refused, refused, Page, Outcome}
use Rattle.model.specs.Calls.{flash_cells}
use Rattle.model.specs.Calls.{open_done, page_seen}
use Rattle.model.specs.Formats.{store_format, StoreNear}
use Rattle.model.specs.Lists.{flipped, Borne}
use Rattle.model.specs.Shelf.{ShelfStore, ShelfResult, ShelfReference, ShelfChosen, store_open}
use Rattle.model.specs.Shelf.{shelf_call, shelf_book_says, shelf_fed, ShelfGives, ShelfClaim}
use Rattle.model.specs.Legible.{ShelfLegible}
use Rattle.model.specs.Undo as undo
use Rattle.model.proofs.Plan.{policy_choice-picks}
use Rattle.model.proofs.Shelf.{AllShelfPick, sizes-stay}
use Rattle.cache.specs.declared.Sizes.{Sizes}
use Rattle.cache.specs.View.{sizes_of}
use Rattle.replies.specs.declared.Answer as replies
use Rattle.replies.specs.Numbers.{numbers_of}
use Rattle.store.specs.declared.Cache.{Cache}
use Rattle.store.specs.View.{Lent, store_of}
use Rattle.store.specs.Histories.{begun}
use Rattle.store.proofs.Demand3.{beginning, begins, begins-sizes, claimed, legible, undoing}
use Rattle.clash_c.specs.declared.Reply.{Reply}
use Rattle.clash_c.specs.Replies.{OpeningReply, CallReply, replied, in_numbers}
use Rattle.clash_c.specs.Histories.{Made, read, write, part, step, flush, back, call_of, reply_of, lent_after, page_after, Turn, lent_to}
use Rattle.clash_c.specs.Histories.{AsContracted, by_policy, said_by, fed_by, ReadGives, Claim, Demand3}
use Rattle.clash_c.specs.Histories.{Contract, OpeningContract, Legible, NeverUnreadable, UndoneBy, Undoes, TakenBack}
use Rattle.clash_c.proofs.Numbered.{Numbered, book-numbered, said_same, opening-numbered}

-- the calls of a list, each by the policy of the record
abbrev chosen : List Turn → List ShelfChosen
chosen [] = []
chosen (t ∷ ts) = by_policy t.made ∷ chosen ts

chosen-pick : (ts : List Turn) → AllShelfPick (chosen ts)
chosen-pick [] = tt
chosen-pick (t ∷ ts) = (policy_choice-picks, chosen-pick ts)

-- from what the model's result x gives to what the page buffer has
gives : (a : List Page) (m : Made) (x : ShelfResult) → ShelfGives a (call_of m) x → page_after m ≡ x.page
    → ((reply_of m).answer.refusal ≡ 0 → is_refused x.answer ≡ false) → ReadGives a m
gives a (read n page r page') x g p t = λ h. p ∙ g (t h)
gives a (write n page r u') x g p t = tt
gives a (part n first y page r u' page') x g p t = λ h. p ∙ g (t h)
gives a (step r flash' codes' marks' wear' bspace') x g p t = tt
gives a (flush r flash' codes' marks' wear' bspace') x g p t = tt
gives a (back r below') x g p t = tt

-- an answer in numbers has the mends that it was given, where it has any
own-mends : (a : Answer) (mended : ℕ) → numbers_of a mended ≡ numbers_of a (numbers_of a mended).mended
own-mends open_done mended = refl
own-mends (read_done way) mended = refl
own-mends (write_done way b m) mended = refl
own-mends (step_done b m) mended = refl
own-mends step_clean mended = refl
own-mends (flush_done r m) mended = refl
own-mends (refused n b) mended = refl

alike : (a : Answer) (mended : ℕ) (y : replies.Answer) → y ≡ numbers_of a mended → numbers_of a mended ≡ numbers_of a y.mended
alike a mended y e = own-mends a mended ∙ ap (λ (z : replies.Answer). numbers_of a z.mended) (sym e)

-- one call of a store with sizes sz, by its contract
module _ (sz : model.Sizes) (c : Cache) (v : Lent) (m : Made) (e : sizes_of c.sizes ≡ sz) (h : Contract c v m) where
  -- what the model gives
  abbrev given : ShelfResult
  given = shelf_call store_format sz.shelf_pages policy_choice (store_of c v) (call_of m)

  called : replied (reply_of m) (lent_after v m) (page_after m) ≡ in_numbers given
  called = h ∙ ap (λ (w : model.Sizes). in_numbers (shelf_call store_format w.shelf_pages policy_choice (store_of c v) (call_of m))) e

  given-answer : (reply_of m).answer ≡ numbers_of given.answer given.mends
  given-answer = ap (λ (y : CallReply). y.answer) called

  given-store : given.store ≡ store_of (reply_of m).cache (lent_after v m)
  given-store = sym (ap (λ (y : CallReply). y.store) called)

  same-sizes : sizes_of (reply_of m).cache.sizes ≡ sz
  same-sizes = ap (λ (s : ShelfStore). s.store.cache.sizes) (sym given-store)
      ∙ sizes-stay store_format policy_choice sz.shelf_pages (store_of c v) (call_of m) ∙ e

  -- the book says the same by the number of the answer
  said : (r : ShelfReference) → shelf_book_says sz sz.shelf_pages r (by_policy m) given.answer ≡ said_by sz r m
  said r = sym
      (ap (λ (y : replies.Answer). shelf_book_says sz sz.shelf_pages r (by_policy m) (refused y.refusal vacant)) given-answer
      ∙ said_same sz sz.shelf_pages r policy_choice (call_of m) given.answer given.mends)

-- what the reference is fed, when the book says o and the call m leaves the store s
abbrev fed_with : model.Sizes → ShelfReference → Made → Outcome → ShelfStore → ShelfReference
fed_with sz r m o s = shelf_fed sz sz.shelf_pages r (by_policy m) o (flash_cells store_format sz s.store.lent)

module _ (sz : model.Sizes) (u₀ : Lent) where
  abbrev Left : List Turn → ShelfStore → ShelfReference → Type 0
  Left ts s r = ShelfClaim store_format StoreNear sz sz.shelf_pages u₀.below (chosen ts) s r

  abbrev Near : ShelfReference → Made → Outcome → ShelfStore → Type 0
  Near r m o s = Borne store_format StoreNear sz (fed_with sz r m o s).reference s.store.lent

  from-model : (ts : List Turn) (c : Cache) (u : Lent) (r : ShelfReference) → sizes_of c.sizes ≡ sz → AsContracted c u ts
      → Left ts (store_of c u) r → Claim sz u₀ c u r ts
  from-model [] c u r e h a = a
  from-model (t ∷ ts) c u r e h a = λ near.
      let m : Made = t.made in
      let v : Lent = lent_to u t in
      let x : ShelfResult = given sz c v m e h.0 in
      let b = a t.flash t.codes near in
      let answer = given-answer sz c v m e h.0 in
      let store = given-store sz c v m e h.0 in
      let says = said sz c v m e h.0 r in
      let numbered : Numbered x.answer = subst Numbered (sym b.answers)
      (book-numbered sz sz.shelf_pages r policy_choice (call_of m) x.answer) in
      record {
        answers = answer ∙ alike x.answer x.mends (reply_of m).answer answer
            ∙ ap (λ (a : Answer). numbers_of a (reply_of m).answer.mended) b.answers
            ∙ ap (λ (o : Outcome). numbers_of o.answer (reply_of m).answer.mended) says;
        reads = gives r.reference.array m x b.reads (ap (λ (y : CallReply). y.page) (called sz c v m e h.0))
            (λ q. numbered x.mends (sym (ap (λ (y : replies.Answer). y.refusal) answer) ∙ q));
        near = subst (Near r m (said_by sz r m)) store (subst (λ (o : Outcome). Near r m o x.store) says b.borne);
        then = from-model ts (reply_of m).cache (lent_after v m) (fed_by sz r v m) (same-sizes sz c v m e h.0) h.1
            (subst (λ (s : ShelfStore). Left ts s (fed_with sz r m (said_by sz r m) s)) store
            (subst (λ (o : Outcome). Left ts x.store (fed_with sz r m o x.store)) says b.then));
      }

-- an accepted opening, and the store that it begins with
module _ (z : Sizes) (u : Lent) (o : Reply) (is : OpeningContract z u o) (done : o.answer.refusal ≡ 0) where
  open_done_lem : (store_open (sizes_of z) u.below u.shelf).answer ≡ open_done
  open_done_lem = opening-numbered (sizes_of z) u.below u.shelf _ (ap (λ (x : OpeningReply). x.answer.refusal) (sym is) ∙ done)

  start : store_of o.cache u ≡ beginning (sizes_of z) u open_done_lem
  start = ap (λ (x : OpeningReply). record {
    store = record { cache = x.cache; lent = u.below };
    entries = x.entries;
    shelf = u.shelf;
  }) is ∙ begins (sizes_of z) u open_done_lem (store_open (sizes_of z) u.below u.shelf) refl

  start-sizes : sizes_of o.cache.sizes ≡ sizes_of z
  start-sizes = ap (λ (s : ShelfStore). s.store.cache.sizes) start ∙ begins-sizes (sizes_of z) u open_done_lem

pub demand_3 : Demand3
demand_3 z u o is done match ts h = let sz : model.Sizes = sizes_of z in
    from-model sz u ts o.cache u (begun sz u) (start-sizes z u o is done) h
    (subst (λ (s : ShelfStore). Left sz u ts s (begun sz u)) (sym (start z u o is done))
    (claimed sz u (open_done_lem z u o is done) match (chosen ts) (chosen-pick ts)))

-- ---- no call is refused 7, and an undisturbed store mends nothing

-- an answer has the number 7 where it is refusal 7 alone
seven : (a : Answer) (mended : ℕ) → ((b : ℕ) → a ≡ refused 7 b → ⊥) → (numbers_of a mended).refusal ≡ 7 → ⊥
seven open_done mended h e = absurd (omega arith)
seven (read_done way) mended h e = absurd (omega arith)
seven (write_done way b m) mended h e = absurd (omega arith)
seven (step_done b m) mended h e = absurd (omega arith)
seven step_clean mended h e = absurd (omega arith)
seven (flush_done r m) mended h e = absurd (omega arith)
seven (refused n b) mended h e = h b (ap (λ (i : ℕ). refused i b) e)

-- no mends are none in the numbers
mendless : (a : Answer) → (numbers_of a 0).mended ≡ 0
mendless open_done = refl
mendless (read_done way) = refl
mendless (write_done way b m) = refl
mendless (step_done b m) = refl
mendless step_clean = refl
mendless (flush_done r m) = refl
mendless (refused n b) = refl

module _ (sz : model.Sizes) where
  abbrev Readable : List Turn → ShelfStore → ShelfReference → Type 0
  Readable ts s r = ShelfLegible store_format StoreNear sz sz.shelf_pages (chosen ts) s r

  legible-from : (ts : List Turn) (c : Cache) (u : Lent) (r : ShelfReference) → sizes_of c.sizes ≡ sz → AsContracted c u ts
      → Readable ts (store_of c u) r → Legible sz u r ts
  legible-from [] c u r e h a = tt
  legible-from (t ∷ ts) c u r e h a = λ near.
      let m : Made = t.made in
      let v : Lent = lent_to u t in
      let x : ShelfResult = given sz c v m e h.0 in
      let b = a t.flash t.codes near in
      let answer = given-answer sz c v m e h.0 in
      let store = given-store sz c v m e h.0 in
      record {
        readable = λ q. seven x.answer x.mends b.readable (sym (ap (λ (y : replies.Answer). y.refusal) answer) ∙ q);
        mendless = λ q. ap (λ (y : replies.Answer). y.mended) answer
            ∙ ap (λ (i : ℕ). (numbers_of x.answer i).mended) (b.mendless q) ∙ mendless x.answer;
        then = legible-from ts (reply_of m).cache (lent_after v m) (fed_by sz r v m) (same-sizes sz c v m e h.0) h.1
            (subst (λ (s : ShelfStore). Readable ts s (fed_with sz r m (said_by sz r m) s)) store
            (subst (λ (o : Outcome). Readable ts x.store (fed_with sz r m o x.store)) (said sz c v m e h.0 r) b.then));
      }

pub never_unreadable : NeverUnreadable
never_unreadable z u o is done match ts h = let sz : model.Sizes = sizes_of z in
    legible-from sz ts o.cache u (begun sz u) (start-sizes z u o is done) h
    (subst (λ (s : ShelfStore). Readable sz ts s (begun sz u)) (sym (start z u o is done))
    (legible sz u (open_done_lem z u o is done) match (chosen ts) (chosen-pick ts)))

-- ---- request A8: taking back undoes a write

module _ (sz : model.Sizes) where
  abbrev Undoing : List Turn → ShelfStore → ShelfReference → Type 0
  Undoing ts s r = undo.ShelfUndoes store_format StoreNear sz sz.shelf_pages (chosen ts) s r

  abbrev Undone : ShelfStore → ShelfReference → ShelfStore → ShelfReference → List Turn → Type 0
  Undone s r s₁ r₁ ts = undo.UndoneBy store_format StoreNear sz sz.shelf_pages s r s₁ r₁ (chosen ts)

  -- refusal 0 is an accepted call
  accepts : (c : Cache) (v : Lent) (m : Made) (e : sizes_of c.sizes ≡ sz) (h : Contract c v m) → Numbered (given sz c v m e h).answer
      → (reply_of m).answer.refusal ≡ 0 → is_refused (given sz c v m e h).answer ≡ false
  accepts c v m e h numbered ok = numbered (given sz c v m e h).mends
      (sym (ap (λ (y : replies.Answer). y.refusal) (given-answer sz c v m e h)) ∙ ok)

  undone-from : (u₀ : Lent) (c : Cache) (u : Lent) (r : ShelfReference) (c₁ : Cache) (u₁ : Lent) (r₁ : ShelfReference) (ts : List Turn)
      → sizes_of c₁.sizes ≡ sz → AsContracted c₁ u₁ ts → Left sz u₀ ts (store_of c₁ u₁) r₁
      → Undone (store_of c u) r (store_of c₁ u₁) r₁ ts → UndoneBy sz c u r c₁ u₁ r₁ ts
  undone-from u₀ c u r c₁ u₁ r₁ [] e h l a = tt
  undone-from u₀ c u r c₁ u₁ r₁ (t ∷ ts) e h l a = λ near is ok.
      let m : Made = t.made in
      let v : Lent = lent_to u₁ t in
      let x : ShelfResult = given sz c₁ v m e h.0 in
      let store = given-store sz c₁ v m e h.0 in
      let says = said sz c₁ v m e h.0 r₁ in
      let numbered : Numbered x.answer = subst Numbered (sym (l t.flash t.codes near).answers)
      (book-numbered sz sz.shelf_pages r₁ policy_choice (call_of m) x.answer) in
      let b = a t.flash t.codes near is (accepts c₁ v m e h.0 numbered ok) in
      record {
        array-is = ap (λ (s : ShelfStore). (fed_with sz r₁ m (said_by sz r₁ m) s).reference.array) (sym store)
            ∙ ap (λ (o : Outcome). (fed_with sz r₁ m o x.store).reference.array) (sym says) ∙ b.array-is;
        shows = subst (λ (s : ShelfStore). (fl cd : List ℕ)
            → Borne store_format StoreNear sz (fed_with sz r₁ m (said_by sz r₁ m) s).reference
            (flipped s.store fl cd).lent → (n : ℕ) → n < sz.N * sz.K
            → page_seen store_format (flipped s.store fl cd) n ≡ page_seen store_format (store_of c u).store n) store
            (subst (λ (o : Outcome). (fl cd : List ℕ) → Borne store_format StoreNear sz (fed_with sz r₁ m o x.store).reference
            (flipped x.store.store fl cd).lent → (n : ℕ) → n < sz.N * sz.K
            → page_seen store_format (flipped x.store.store fl cd) n ≡ page_seen store_format (store_of c u).store n) says b.shows);
      }

  undoes-from : (u₀ : Lent) (ts : List Turn) (c : Cache) (u : Lent) (r : ShelfReference) → sizes_of c.sizes ≡ sz → AsContracted c u ts
      → Left sz u₀ ts (store_of c u) r → Undoing ts (store_of c u) r → Undoes sz c u r ts
  undoes-from u₀ [] c u r e h l a = tt
  undoes-from u₀ (t ∷ ts) c u r e h l a = λ near.
      let m : Made = t.made in
      let v : Lent = lent_to u t in
      let x : ShelfResult = given sz c v m e h.0 in
      let b = a t.flash t.codes near in
      let k = l t.flash t.codes near in
      let same = same-sizes sz c v m e h.0 in
      let store = given-store sz c v m e h.0 in
      let says = said sz c v m e h.0 r in
      let numbered : Numbered x.answer = subst Numbered (sym k.answers)
      (book-numbered sz sz.shelf_pages r policy_choice (call_of m) x.answer) in
      let left : Left sz u₀ ts (store_of (reply_of m).cache (lent_after v m)) (fed_by sz r v m) = subst (λ (s : ShelfStore). Left sz u₀ ts s
      (fed_with sz r m (said_by sz r m) s)) store (subst (λ (o : Outcome). Left sz u₀ ts x.store (fed_with sz r m o x.store)) says
      k.then) in
      record {
        undone = λ w ok. undone-from u₀ c v r (reply_of m).cache (lent_after v m) (fed_by sz r v m) ts same h.1 left
            (subst (λ (s : ShelfStore). Undone (store_of c v) r s (fed_with sz r m (said_by sz r m) s) ts) store
            (subst (λ (o : Outcome). Undone (store_of c v) r x.store (fed_with sz r m o x.store) ts) says
            (b.undone w (accepts c v m e h.0 numbered ok))));
        then = undoes-from u₀ ts (reply_of m).cache (lent_after v m) (fed_by sz r v m) same h.1 left
            (subst (λ (s : ShelfStore). Undoing ts s (fed_with sz r m (said_by sz r m) s)) store
            (subst (λ (o : Outcome). Undoing ts x.store (fed_with sz r m o x.store)) says b.then));
      }

pub taken_back : TakenBack
taken_back z u o is done match ts h = let sz : model.Sizes = sizes_of z in
    undoes-from sz u ts o.cache u (begun sz u) (start-sizes z u o is done) h
    (subst (λ (s : ShelfStore). Left sz u ts s (begun sz u)) (sym (start z u o is done))
    (claimed sz u (open_done_lem z u o is done) match (chosen ts) (chosen-pick ts)))
    (subst (λ (s : ShelfStore). Undoing sz ts s (begun sz u)) (sym (start z u o is done))
    (undoing sz u (open_done_lem z u o is done) match (chosen ts) (chosen-pick ts)))
