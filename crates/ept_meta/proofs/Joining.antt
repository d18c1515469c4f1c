-- Texts joined by commas, one item after another.
use Rattle.std.proofs.Common.{◌≡◌, ◌∙◌, ℕ, zero, suc, ◌+◌, ◌<◌, Bool, true, List, [], ◌∷◌, ◌++◌, sym, ap, arith, length, take, get_or, append_assoc, rules, tests}
use Rattle.std.specs.Prelude.{if◌then◌else◌, nat_lt}
use Rattle.std.specs.List.{flat_map, join_by}
use Rattle.std.proofs.lemmas.List.{take_more, append-nil}
use Rattle.std.proofs.lemmas.List.Concat.{flat_map-append}

-- one more text after others
behind : {X : Type 0} (f : X → List ℕ) (sep : List ℕ) (x : X) (xs : List X) (y : X) → join_by f sep ((x ∷ xs) ++ y ∷ []) ≡ join_by f sep (x ∷ xs) ++ (sep ++ f y)
behind f sep x xs y =
    ap (λ w. f x ++ w) (flat_map-append (λ z. sep ++ f z) xs (y ∷ []) ∙ ap (λ w. flat_map (λ z. sep ++ f z) xs ++ w) (append-nil (sep ++ f y)))
    ∙ sym (append_assoc (f x) (flat_map (λ z. sep ++ f z) xs) (sep ++ f y))

later : (k : ℕ) → nat_lt 0 (suc k) ≡ true
later k = search (rules, tests)

-- the text of the items up to one more, which has the separator before it if it is not the first
one_more : {X : Type 0} (f : X → List ℕ) (sep : List ℕ) (xs : List X) (k : ℕ) (x : X) → k < length xs → x ≡ get_or xs k x → join_by f sep (take (k + 1) xs) ≡ join_by f sep (take k xs) ++ (if nat_lt 0 k then sep else []) ++ f x
one_more f sep [] k x inside is = absurd (omega (arith, inside))
one_more f sep (y ∷ ys) zero x inside is = append-nil (f y) ∙ ap f (sym is)
one_more {X} f sep (y ∷ ys) (suc k) x inside is =
    ap (join_by f sep) (take_more (y ∷ ys) (suc k) x inside ∙ ap (λ z. take (suc k) (y ∷ ys) ++ z ∷ []) (sym is))
    ∙ behind f sep y (take k ys) x
    ∙ sym (append_assoc (join_by f sep (y ∷ take k ys)) sep (f x))
    ∙ ap (λ (b : Bool). join_by f sep (take (suc k) (y ∷ ys)) ++ (if b then sep else []) ++ f x) (sym (later k))

-- one more item is written after those before it
pub item_written : {X : Type 0} (f : X → List ℕ) (sep : List ℕ) (xs : List X) (k : ℕ) (x : X) (start before middle after : List ℕ) → k < length xs → x ≡ get_or xs k x
    → before ≡ start ++ join_by f sep (take k xs) → middle ≡ before ++ (if nat_lt 0 k then sep else []) → after ≡ middle ++ f x → after ≡ start ++ join_by f sep (take (k + 1) xs)
item_written f sep xs k x start before middle after inside is at_first then_sep then_item =
    then_item
    ∙ ap (λ w. w ++ f x) (then_sep ∙ ap (λ w. w ++ (if nat_lt 0 k then sep else [])) at_first)
    ∙ ap (λ w. w ++ f x) (append_assoc start (join_by f sep (take k xs)) (if nat_lt 0 k then sep else []))
    ∙ append_assoc start (join_by f sep (take k xs) ++ (if nat_lt 0 k then sep else [])) (f x)
    ∙ ap (λ w. start ++ w) (sym (one_more f sep xs k x inside is))
