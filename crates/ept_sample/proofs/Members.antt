-- The items of a list, in any order.
use Rattle.std.proofs.Common.{◌≡◌, suc, zero, ◌<◌, Bool, true, false, cond, ◌&&◌, ◌||◌, ◌⊎◌, inl, inr, List, [], ◌∷◌, ◌++◌, map, refl, ap, sym, ◌∙◌, subst, arith, filter}
use Rattle.std.specs.List.{All, Contains, list_any, flat_map}
use Rattle.std.proofs.lemmas.List.Elements.{All-head, All-tail, All-cons, All-nil}
use Rattle.std.proofs.lemmas.Bool.{false≢true}
use Rattle.ept_sample.specs.Members.{IsMember}
use Rattle.ept_sample.proofs.Choices.{or_right}

-- ---- joined lists

pub IsMember-left : {X : Type 0} (x : X) (xs ys : List X) → IsMember x xs → IsMember x (xs ++ ys)
IsMember-left x [] ys m = absurd m
IsMember-left x (y ∷ xs) ys (inl e) = inl e
IsMember-left x (y ∷ xs) ys (inr m) = inr (IsMember-left x xs ys m)

pub IsMember-right : {X : Type 0} (x : X) (xs ys : List X) → IsMember x ys → IsMember x (xs ++ ys)
IsMember-right x [] ys m = m
IsMember-right x (y ∷ xs) ys m = inr (IsMember-right x xs ys m)

pub IsMember-append : {X : Type 0} (x : X) (xs ys : List X) → IsMember x (xs ++ ys) → IsMember x xs ⊎ IsMember x ys
IsMember-append x [] ys m = inr m
IsMember-append x (y ∷ xs) ys (inl e) = inl (inl e)
IsMember-append x (y ∷ xs) ys (inr m) = elim (IsMember-append x xs ys m) [ inl l ↦ inl (inr l) | inr r ↦ inr r ]

-- ---- the items that pass a test

filter_step : {X : Type 0} (test : X → Bool) (x y : X) (ys : List X) (b : Bool) → test y ≡ b → (IsMember x (filter test ys) → IsMember x ys × (test x ≡ true)) → IsMember x (cond b (y ∷ filter test ys) (filter test ys)) → IsMember x (y ∷ ys) × (test x ≡ true)
filter_step test x y ys true e more (inl is) = (inl is, subst (λ z. test z ≡ true) is e)
filter_step test x y ys true e more (inr m) = let r = more m in (inr r.0, r.1)
filter_step test x y ys false e more m = let r = more m in (inr r.0, r.1)

-- an item of a filter is an item, and passes
pub IsMember-filter : {X : Type 0} (test : X → Bool) (x : X) (xs : List X) → IsMember x (filter test xs) → IsMember x xs × (test x ≡ true)
IsMember-filter test x [] m = absurd m
IsMember-filter test x (y ∷ ys) m = filter_step test x y ys (test y) refl (IsMember-filter test x ys) m

keep_step : {X : Type 0} (test : X → Bool) (x y : X) (ys : List X) (b : Bool) → test y ≡ b → test x ≡ true → (IsMember x ys → IsMember x (filter test ys)) → IsMember x (y ∷ ys) → IsMember x (cond b (y ∷ filter test ys) (filter test ys))
keep_step test x y ys true e passes more (inl is) = inl is
keep_step test x y ys true e passes more (inr m) = inr (more m)
keep_step test x y ys false e passes more (inl is) = absurd (false≢true (sym e ∙ (ap test is ∙ passes)))
keep_step test x y ys false e passes more (inr m) = more m

-- an item that passes is an item of the filter
pub IsMember-kept : {X : Type 0} (test : X → Bool) (x : X) (xs : List X) → test x ≡ true → IsMember x xs → IsMember x (filter test xs)
IsMember-kept test x [] passes m = absurd m
IsMember-kept test x (y ∷ ys) passes m = keep_step test x y ys (test y) refl passes (IsMember-kept test x ys passes) m

filter_twice_step : {X : Type 0} (p q : X → Bool) (x : X) (xs : List X) (b : Bool) → filter q (filter p xs) ≡ filter (λ y. p y && q y) xs → filter q (cond b (x ∷ filter p xs) (filter p xs)) ≡ cond (b && q x) (x ∷ filter (λ y. p y && q y) xs) (filter (λ y. p y && q y) xs)
filter_twice_step {X} p q x xs true rest = ap (λ (w : List X). cond (q x) (x ∷ w) w) rest
filter_twice_step {X} p q x xs false rest = rest

-- two tests, one after the other
pub filter-filter : {X : Type 0} (p q : X → Bool) (xs : List X) → filter q (filter p xs) ≡ filter (λ x. p x && q x) xs
filter-filter p q [] = refl
filter-filter p q (x ∷ xs) = filter_twice_step p q x xs (p x) (filter-filter p q xs)

-- ---- some item passes a test

any_step : {X : Type 0} (test : X → Bool) (y : X) (ys : List X) (b : Bool) → test y ≡ b → (list_any test ys ≡ true → (x : X) × IsMember x ys × (test x ≡ true)) → (b || list_any test ys) ≡ true → (x : X) × IsMember x (y ∷ ys) × (test x ≡ true)
any_step test y ys true e more some = (y, inl refl, e)
any_step test y ys false e more some = let r = more some in (r.0, inr r.1, r.2)

-- the item that passes
pub member-any : {X : Type 0} (test : X → Bool) (xs : List X) → list_any test xs ≡ true → (x : X) × IsMember x xs × (test x ≡ true)
member-any test [] some = absurd (false≢true some)
member-any test (y ∷ ys) some = any_step test y ys (test y) refl (member-any test ys) some

pub any-member : {X : Type 0} (test : X → Bool) (x : X) (xs : List X) → IsMember x xs → test x ≡ true → list_any test xs ≡ true
any-member test x [] m passes = absurd m
any-member test x (y ∷ ys) (inl is) passes =
    let e : test y ≡ true = ap test is ∙ passes in ap (λ b. b || list_any test ys) e
any-member test x (y ∷ ys) (inr m) passes = or_right (test y) (list_any test ys) (any-member test x ys m passes)

-- ---- a list of each item

pub IsMember-flat_map : {X Y : Type 0} (f : X → List Y) (x : X) (y : Y) (xs : List X) → IsMember x xs → IsMember y (f x) → IsMember y (flat_map f xs)
IsMember-flat_map f x y [] m n = absurd m
IsMember-flat_map f x y (z ∷ zs) (inl is) n = IsMember-left y (f z) (flat_map f zs) (subst (λ w. IsMember y (f w)) (sym is) n)
IsMember-flat_map f x y (z ∷ zs) (inr m) n = IsMember-right y (f z) (flat_map f zs) (IsMember-flat_map f x y zs m n)

pub member-flat_map : {X Y : Type 0} (f : X → List Y) (y : Y) (xs : List X) → IsMember y (flat_map f xs) → (x : X) × IsMember x xs × IsMember y (f x)
member-flat_map f y [] m = absurd m
member-flat_map f y (z ∷ zs) m =
    elim (IsMember-append y (f z) (flat_map f zs) m) [ inl l ↦ (z, inl refl, l) | inr r ↦ let more = member-flat_map f y zs r in (more.0, inr more.1, more.2) ]

pub IsMember-map : {X Y : Type 0} (f : X → Y) (x : X) (xs : List X) → IsMember x xs → IsMember (f x) (map f xs)
IsMember-map f x [] m = absurd m
IsMember-map f x (z ∷ zs) (inl is) = inl (ap f is)
IsMember-map f x (z ∷ zs) (inr m) = inr (IsMember-map f x zs m)

pub member-map : {X Y : Type 0} (f : X → Y) (y : Y) (xs : List X) → IsMember y (map f xs) → (x : X) × IsMember x xs × (f x ≡ y)
member-map f y [] m = absurd m
member-map f y (z ∷ zs) (inl is) = (z, inl refl, is)
member-map f y (z ∷ zs) (inr m) = let more = member-map f y zs m in (more.0, inr more.1, more.2)

-- ---- what holds of each item

pub all-member : {X : Type 0} (P : X → Type 0) (x : X) (xs : List X) → All P xs → IsMember x xs → P x
all-member P x [] all m = absurd m
all-member P x (y ∷ ys) all (inl is) = subst P is (All-head P y ys all)
all-member P x (y ∷ ys) all (inr m) = all-member P x ys (All-tail P y ys all) m

pub All-members : {X : Type 0} (P : X → Type 0) (xs : List X) → ((x : X) → IsMember x xs → P x) → All P xs
All-members P [] each = All-nil P
All-members P (y ∷ ys) each = All-cons P y ys (each y (inl refl)) (All-members P ys (λ x m. each x (inr m)))

-- ---- the same by places, as `Contains` says it

pub IsMember-contains : {X : Type 0} (x : X) (xs : List X) → Contains xs x → IsMember x xs
IsMember-contains x [] c = absurd (let below : c.0 < 0 = c.1 in omega arith)
IsMember-contains x (y ∷ ys) (zero, below, is) = inl is
IsMember-contains x (y ∷ ys) (suc k, below, is) = inr (IsMember-contains x ys (k, omega (arith, below), is))

pub contains-IsMember : {X : Type 0} (x : X) (xs : List X) → IsMember x xs → Contains xs x
contains-IsMember x [] m = absurd m
contains-IsMember x (y ∷ ys) (inl is) = (0, omega arith, is)
contains-IsMember x (y ∷ ys) (inr m) = let c = contains-IsMember x ys m in (suc c.0, omega (arith, c.1), c.2)
