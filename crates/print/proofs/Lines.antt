-- The printed lines as the pieces that are put one after the other.
use mathlib.Core.Path.{◌≡◌, refl, sym, ap, ◌∙◌}
use mathlib.Core.List.{List, [], ◌∷◌, ◌++◌, append_assoc, append-nil, map}
use Prim.Native.String.{String}
use Prim.Native.Nat.{ℕ, zero, suc, ◌+◌, ◌<◌}
use native.Mathlib.Nat.{le_of_suc-le-suc, not-suc-le-zero}
use native.Mathlib.Numerals.{add-one}
use lib.ListN.{length, take, get_or}
use Rattle.model.specs.Calls.{read_done, write_done, step_done, flush_done}
use Rattle.print.specs.Text.{bytes, decimal, form, items}
use Rattle.print.specs.Print.{line, said, field, refusal, erased, write_line, read_line, step_line, flush_line, wear_line, bad_line, spaced}

-- the end of a line
abbrev pub end : List ℕ
end = 41 ∷ (10 ∷ [])

-- what follows the word of a line
unfoldable pub tails : List (List ℕ) → List ℕ
tails [] = end
tails (i ∷ l) = 32 ∷ (i ++ tails l)

tails-is : (l : List (List ℕ)) → items l ++ (10 ∷ []) ≡ tails l
unfolding items tails
tails-is [] = refl
tails-is (i ∷ l) = ap (λ (x : List ℕ). 32 ∷ x) (append_assoc i (items l) (10 ∷ []) ∙ ap (λ (x : List ℕ). i ++ x) (tails-is l))

-- a line from its word and what follows
pub whole : (w : String) (l : List (List ℕ)) → (40 ∷ bytes w) ++ tails l ≡ line w l
unfolding line form
whole w l = ap (λ (x : List ℕ). 40 ∷ x) (ap (λ (x : List ℕ). bytes w ++ x) (sym (tails-is l))
    ∙ sym (append_assoc (bytes w) (items l) (10 ∷ [])))

-- a line whose first item is put with the word
numbered : (w : String) (x : List ℕ) (l : List (List ℕ)) → ((40 ∷ (bytes w ++ (32 ∷ []))) ++ x) ++ tails l ≡ line w (x ∷ l)
unfolding tails
numbered w x l = ap (λ (y : List ℕ). 40 ∷ y) (append_assoc (bytes w ++ (32 ∷ [])) x (tails l)
    ∙ append_assoc (bytes w) (32 ∷ []) (x ++ tails l)) ∙ whole w (x ∷ l)

-- pieces put one after the other
four : (a b c d : List ℕ) → ((a ++ b) ++ c) ++ d ≡ a ++ (b ++ (c ++ d))
four a b c d = simp append_assoc

five : (a b c d e : List ℕ) → (((a ++ b) ++ c) ++ d) ++ e ≡ a ++ (b ++ (c ++ (d ++ e)))
five a b c d e = simp append_assoc

-- the word of a line and the space after it
abbrev pub lead : String → List ℕ
lead w = 40 ∷ (bytes w ++ (32 ∷ []))

pub bad-line : (n : ℕ) → (lead "bad" ++ (decimal n ++ (41 ∷ []))) ++ (10 ∷ []) ≡ bad_line n
unfolding line form items
bad-line n = refl

pub write-line : (n way b m : ℕ)
    → ((((lead "write" ++ decimal n) ++ (32 ∷ field "way" way)) ++ (32 ∷ erased b)) ++ (32 ∷ field "merged" m)) ++ end
    ≡ write_line n (write_done way b m)
unfolding said tails
write-line n way b m = five (lead "write" ++ decimal n) (32 ∷ field "way" way) (32 ∷ erased b) (32 ∷ field "merged" m) end
    ∙ numbered "write" (decimal n) _

pub read-line : (n way byte : ℕ)
    → (((lead "read" ++ decimal n) ++ (32 ∷ field "way" way)) ++ (32 ∷ field "byte" byte)) ++ end ≡ read_line n (read_done way) byte
unfolding said tails
read-line n way byte = four (lead "read" ++ decimal n) (32 ∷ field "way" way) (32 ∷ field "byte" byte) end ∙ numbered "read" (decimal n) _

pub step_line_lem : (b m : ℕ) → (((40 ∷ bytes "step") ++ (32 ∷ field "block" b)) ++ (32 ∷ field "merged" m))
    ++ end ≡ step_line (step_done b m)
unfolding said tails
step_line_lem b m = four (40 ∷ bytes "step") (32 ∷ field "block" b) (32 ∷ field "merged" m) end ∙ whole "step" _

pub flush-line : (r m : ℕ) → (((40 ∷ bytes "flush") ++ (32 ∷ field "rewrites" r)) ++ (32 ∷ field "merged" m)) ++ end
    ≡ flush_line (flush_done r m)
unfolding said tails
flush-line r m = four (40 ∷ bytes "flush") (32 ∷ field "rewrites" r) (32 ∷ field "merged" m) end ∙ whole "flush" _

-- a refusal after a call's words
pub refused-line : (w : String) (r : ℕ) → (40 ∷ bytes w) ++ (32 ∷ (refusal r ++ end)) ≡ line w (refusal r ∷ [])
unfolding tails
refused-line w r = whole w (refusal r ∷ [])

pub refused-number : (w : String) (n r : ℕ) → (lead w ++ decimal n) ++ (32 ∷ (refusal r ++ end)) ≡ line w (decimal n ∷ refusal r ∷ [])
unfolding tails
refused-number w n r = numbered w (decimal n) (refusal r ∷ [])

-- ---- numbers after spaces, one by one

spaced-append : (l m : List (List ℕ)) → spaced (l ++ m) ≡ spaced l ++ spaced m
unfolding spaced
spaced-append [] m = refl
spaced-append (i ∷ l) m = ap (λ (x : List ℕ). 32 ∷ x) (ap (λ (x : List ℕ). i ++ x) (spaced-append l m)
    ∙ sym (append_assoc i (spaced l) (spaced m)))

spaced-items : (l : List (List ℕ)) → spaced l ++ end ≡ tails l
unfolding spaced tails
spaced-items [] = refl
spaced-items (i ∷ l) = ap (λ (x : List ℕ). 32 ∷ x) (append_assoc i (spaced l) end ∙ ap (λ (x : List ℕ). i ++ x) (spaced-items l))

pub wear-line : (ws : List ℕ) → ((40 ∷ bytes "wear") ++ spaced (map decimal ws)) ++ end ≡ wear_line ws
wear-line ws = append_assoc (40 ∷ bytes "wear") (spaced (map decimal ws)) end
    ∙ ap (λ (x : List ℕ). (40 ∷ bytes "wear") ++ x) (spaced-items (map decimal ws)) ∙ whole "wear" (map decimal ws)

map-take : (ns : List ℕ) (i : ℕ) → i < length ns → map decimal (take (suc i) ns) ≡ map decimal (take i ns) ++ (decimal (get_or ns i 0) ∷ [])
map-take [] i h = absurd (not-suc-le-zero h)
map-take (x ∷ ns) zero h = refl
map-take (x ∷ ns) (suc i) h = ap (λ (l : List (List ℕ)). decimal x ∷ l) (map-take ns i (le_of_suc-le-suc h))

-- one number more
pub spaced-more : (ns : List ℕ) (i : ℕ) → i < length ns → spaced (map decimal (take i ns)) ++ ((32 ∷ []) ++ decimal (get_or ns i 0))
    ≡ spaced (map decimal (take (i + 1) ns))
unfolding spaced
spaced-more ns i h =
    ap (λ (x : List ℕ). spaced (map decimal (take i ns)) ++ (32 ∷ x)) (sym (append-nil (decimal (get_or ns i 0))))
    ∙ sym (spaced-append (map decimal (take i ns)) (decimal (get_or ns i 0) ∷ []))
    ∙ ap spaced (sym (map-take ns i h) ∙ ap (λ (k : ℕ). map decimal (take k ns)) (sym (add-one i)))
