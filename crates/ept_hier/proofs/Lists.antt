-- Filters, texts joined, and maps as lists.
use Rattle.std.proofs.Common.{◌≡◌, ◌∙◌, ℕ, zero, suc, ◌<◌, Bool, true, false, cond, List, [], ◌∷◌, ◌++◌, map, refl, sym, ap, subst, arith, filter, length, Option, Some, None, Ordering}
use Rattle.std.specs.declared.cmp.Ordering.TheVariants.{Less, Equal, Greater}
use Rattle.std.specs.Ordering.{match_ordering, is_eq}
use Rattle.std.specs.BTreeMap.{insert_entry, is_at}
use Rattle.std.specs.Option.{unwrap_or}
use Rattle.std.specs.Map.{lookup, set_value, keys_of}
use Rattle.std.specs.List.{All, Contains, flat_map, join_by}
use Rattle.std.specs.List.Sorted.{IsStrictlySortedBy}
use Rattle.std.proofs.lemmas.List.{append-nil, append_assoc}
use Rattle.std.proofs.lemmas.List.Concat.{flat_map-append}
use Rattle.std.proofs.lemmas.List.Elements.{All-head, All-tail, All-weaker}
use Rattle.std.proofs.lemmas.Map.Views.{All-after_first}
use Rattle.std.proofs.lemmas.Map.Keys.{sorted_tail}
use Rattle.ept_space.specs.VoxelKey.{VoxelKey, key_cmp}
use Rattle.ept_space.proofs.KeyOrder.{key_cmp-equal, key_cmp-same}
use Rattle.ept_hier.specs.OpenFiles.{OpenFile}

-- ---- filters

agree_step : {X Y : Type 0} (f g : X → Y) (p : X → Bool) (x : X) (xs : List X) (b : Bool) → p x ≡ b → (p x ≡ true → f x ≡ g x) → map f (filter p xs) ≡ map g (filter p xs) → map f (cond b (x ∷ filter p xs) (filter p xs)) ≡ map g (cond b (x ∷ filter p xs) (filter p xs))
agree_step f g p x xs true e same rest = λ i. same e i ∷ rest i
agree_step f g p x xs false e same rest = rest

-- two functions that agree at each item that passes
pub map-agree : {X Y : Type 0} (f g : X → Y) (p : X → Bool) (xs : List X) → All (λ x. p x ≡ true → f x ≡ g x) xs → map f (filter p xs) ≡ map g (filter p xs)
map-agree f g p [] all = refl
map-agree f g p (x ∷ xs) all =
    agree_step f g p x xs (p x) refl (All-head (λ y. p y ≡ true → f y ≡ g y) x xs all) (map-agree f g p xs (All-tail (λ y. p y ≡ true → f y ≡ g y) x xs all))

first : {X : Type 0} (p : X → Bool) (y : X) (ys : List X) → p y ≡ true → 0 < length (filter p (y ∷ ys))
first p y ys e = subst (λ b. 0 < length (cond b (y ∷ filter p ys) (filter p ys))) (sym e) (omega arith)

later : {X : Type 0} (p : X → Bool) (y : X) (ys : List X) (b : Bool) → 0 < length (filter p ys) → 0 < length (cond b (y ∷ filter p ys) (filter p ys))
later p y ys true some = omega arith
later p y ys false some = some

-- an item passes
pub filter-some : {X : Type 0} (p : X → Bool) (x : X) (xs : List X) → Contains xs x → p x ≡ true → 0 < length (filter p xs)
filter-some p x [] c passes = absurd (let below : c.0 < 0 = c.1 in omega arith)
filter-some p x (y ∷ ys) (zero, below, is) passes = first p y ys (ap p is ∙ passes)
filter-some p x (y ∷ ys) (suc k, below, is) passes =
    later p y ys (p y) (filter-some p x ys (k, omega (arith, below), is) passes)

none_step : {X : Type 0} (p : X → Bool) (y : X) (ys : List X) → p y ≡ false → filter p ys ≡ [] → filter p (y ∷ ys) ≡ []
none_step p y ys e rest = ap (λ b. cond b (y ∷ filter p ys) (filter p ys)) e ∙ rest

-- no item passes
pub filter-none : {X : Type 0} (p : X → Bool) (xs : List X) → All (λ x. p x ≡ false) xs → filter p xs ≡ []
filter-none p [] none = refl
filter-none p (y ∷ ys) none =
    none_step p y ys (All-head (λ x. p x ≡ false) y ys none) (filter-none p ys (All-tail (λ x. p x ≡ false) y ys none))

-- ---- texts joined

-- one more text after others
pub join_by-more : {X A : Type 0} (f : X → List A) (sep : List A) (xs : List X) (y : X) → 0 < length xs → join_by f sep (xs ++ y ∷ []) ≡ join_by f sep xs ++ (sep ++ f y)
join_by-more f sep [] y some = absurd (omega (arith, some))
join_by-more f sep (x ∷ xs) y some =
    ap (λ w. f x ++ w) (flat_map-append (λ z. sep ++ f z) xs (y ∷ []) ∙ ap (λ w. flat_map (λ z. sep ++ f z) xs ++ w) (append-nil (sep ++ f y)))
    ∙ sym (append_assoc (f x) (flat_map (λ z. sep ++ f z) xs) (sep ++ f y))

-- ---- maps

-- an entry put after all others
pub insert_entry-last : (es : List OpenFile) (k : VoxelKey) (v : List ℕ) → All (λ (e : OpenFile). key_cmp k e.0 ≡ Greater) es → insert_entry key_cmp es k v ≡ es ++ (k, v) ∷ []
insert_entry-last [] k v above = refl
insert_entry-last (e ∷ es) k v above =
    ap (λ o. match_ordering o ((k, v) ∷ e ∷ es) ((e.0, v) ∷ es) (e ∷ insert_entry key_cmp es k v)) (All-head (λ (x : OpenFile). key_cmp k x.0 ≡ Greater) e es above)
    ∙ ap (λ (w : List OpenFile). e ∷ w) (insert_entry-last es k v (All-tail (λ (x : OpenFile). key_cmp k x.0 ≡ Greater) e es above))

-- a function that changes only the file of one key
pub record Changes (f : OpenFile → OpenFile) (k : VoxelKey) (old new : List ℕ) : Type 0 where
  pub there : f (k, old) ≡ (k, new)
  pub elsewhere : (e : OpenFile) → ¬ (e.0 ≡ k) → f e ≡ e

untouched : (f : OpenFile → OpenFile) (k : VoxelKey) (old new : List ℕ) (es : List OpenFile) → Changes f k old new → All (λ j. ¬ (j ≡ k)) (keys_of es) → map f es ≡ es
untouched f k old new [] h apart = refl
untouched f k old new (e ∷ es) h apart =
    let one : f e ≡ e = h.elsewhere e (All-head (λ j. ¬ (j ≡ k)) e.0 (keys_of es) apart) in
    let more : map f es ≡ es = untouched f k old new es h (All-tail (λ j. ¬ (j ≡ k)) e.0 (keys_of es) apart) in
    λ i. one i ∷ more i

less_equal : Less ≡ Equal → ⊥
less_equal e = cc

greater_equal : Greater ≡ Equal → ⊥
greater_equal e = cc

-- the keys after a key differ from it
others : (k j : VoxelKey) (ks : List VoxelKey) → k ≡ j → All (λ q. key_cmp j q ≡ Less) ks → All (λ q. ¬ (q ≡ k)) ks
others k j ks same after =
    All-weaker (λ q. key_cmp j q ≡ Less) (λ q. ¬ (q ≡ k)) (λ q h is. less_equal (sym h ∙ key_cmp-same j q (sym (is ∙ same)))) ks after

apart : (k j : VoxelKey) (o : Ordering) → key_cmp k j ≡ o → (o ≡ Equal → ⊥) → ¬ (j ≡ k)
apart k j o is differ same = differ (sym is ∙ key_cmp-same k j (sym same))

write_step : (f : OpenFile → OpenFile) (k : VoxelKey) (old new : List ℕ) (e : OpenFile) (es : List OpenFile) (o : Ordering) → key_cmp k e.0 ≡ o → Changes f k old new → All (λ q. key_cmp e.0 q ≡ Less) (keys_of es) → cond (is_eq o) (Some e.1) (lookup (is_at (key_cmp k)) es) ≡ Some old → (lookup (is_at (key_cmp k)) es ≡ Some old → set_value (is_at (key_cmp k)) es new ≡ map f es) → cond (is_eq o) ((e.0, new) ∷ es) (e ∷ set_value (is_at (key_cmp k)) es new) ≡ f e ∷ map f es
write_step f k old new e es Equal is h after found more =
    let same : k ≡ e.0 = key_cmp-equal k e.0 is in
    let value : e.1 ≡ old = ap (λ (v : Option (List ℕ)). unwrap_or v old) found in
    let here : f e ≡ (e.0, new) = subst (λ j. f (j, e.1) ≡ (j, new)) same (subst (λ v. f (k, v) ≡ (k, new)) (sym value) h.there) in
    let rest : map f es ≡ es = untouched f k old new es h (others k e.0 (keys_of es) same after) in
    λ i. sym here i ∷ sym rest i
write_step f k old new e es Less is h after found more =
    let here : f e ≡ e = h.elsewhere e (apart k e.0 Less is less_equal) in
    let rest = more found in
    λ i. sym here i ∷ rest i
write_step f k old new e es Greater is h after found more =
    let here : f e ≡ e = h.elsewhere e (apart k e.0 Greater is greater_equal) in
    let rest = more found in
    λ i. sym here i ∷ rest i

-- a file written at a key that is there
pub set_value-changes : (f : OpenFile → OpenFile) (k : VoxelKey) (old new : List ℕ) (es : List OpenFile) → Changes f k old new → IsStrictlySortedBy key_cmp (keys_of es) → lookup (is_at (key_cmp k)) es ≡ Some old → set_value (is_at (key_cmp k)) es new ≡ map f es
set_value-changes f k old new [] h up found = refl
set_value-changes f k old new (e ∷ es) h up found =
    write_step f k old new e es (key_cmp k e.0) refl h (All-after_first key_cmp e.0 (keys_of es) up) found (set_value-changes f k old new es h (sorted_tail key_cmp e.0 (keys_of es) up))

absent_step : (f : OpenFile → OpenFile) (k : VoxelKey) (e : OpenFile) (es : List OpenFile) (o : Ordering) → key_cmp k e.0 ≡ o → ((x : OpenFile) → ¬ (x.0 ≡ k) → f x ≡ x) → cond (is_eq o) (Some e.1) (lookup (is_at (key_cmp k)) es) ≡ None → (lookup (is_at (key_cmp k)) es ≡ None → map f es ≡ es) → f e ∷ map f es ≡ e ∷ es
absent_step f k e es Equal is h none more = absurd (cc)
absent_step f k e es Less is h none more =
    let here : f e ≡ e = h e (apart k e.0 Less is less_equal) in
    let rest = more none in
    λ i. here i ∷ rest i
absent_step f k e es Greater is h none more =
    let here : f e ≡ e = h e (apart k e.0 Greater is greater_equal) in
    let rest = more none in
    λ i. here i ∷ rest i

-- a key that is not there
pub absent-same : (f : OpenFile → OpenFile) (k : VoxelKey) (es : List OpenFile) → ((x : OpenFile) → ¬ (x.0 ≡ k) → f x ≡ x) → lookup (is_at (key_cmp k)) es ≡ None → map f es ≡ es
absent-same f k [] h none = refl
absent-same f k (e ∷ es) h none = absent_step f k e es (key_cmp k e.0) refl h none (absent-same f k es h)
