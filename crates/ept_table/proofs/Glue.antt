-- The rule of a table over the items as they are.
use Rattle.std.proofs.Common.{◌≡◌, ℕ, zero, suc, List, [], ◌∷◌, ◌++◌, map, set, refl, sym, ap, subst}
use Rattle.std.proofs.Common.{reverse}
use Rattle.std.proofs.lemmas.List.{reverse-append}
use mathlib.Core.Option.{some, some-injective, some-ne-none}
use lib.ListN.{get_elem?}
use Rattle.ept_table.specs.declared.taken.Cell.{Cell}
use Rattle.ept_table.specs.declared.taken.Taken.{Taken}
use Rattle.ept_table.specs.declared.taken.Taken.TheVariants.{Blank, Standing, Reading}
use Rattle.ept_table.specs.At.{At}
use Rattle.ept_table.proofs.Lists.{at-next, at-rest, at-head, at-zero, nothing-at}

-- ---- places

pub at-from : {X : Type 0} (xs : List X) (i : ℕ) (x : X) → get_elem? xs i ≡ some x → At xs i x
at-from [] i x e = absurd (some-ne-none x (sym e))
at-from {X} (y ∷ ys) zero x e = subst (λ (z : X). At (y ∷ ys) 0 z) (some-injective y x e) (at-zero y ys)
at-from (y ∷ ys) (suc i) x e = at-next y ys i x (at-from ys i x e)

pub at-to : {X : Type 0} (xs : List X) (i : ℕ) (x : X) → At xs i x → get_elem? xs i ≡ some x
at-to [] i x a = absurd (nothing-at a)
at-to {X} (y ∷ ys) zero x a = ap some (at-head a)
at-to (y ∷ ys) (suc i) x a = at-to ys i x (at-rest y ys i x a)

-- ---- lists as plain data

pub at-map : {X Y : Type 0} (f : X → Y) (xs : List X) (i : ℕ) (x : X) → At xs i x → At (map f xs) i (f x)
at-map f [] i x a = absurd (nothing-at a)
at-map {X} {Y} f (y ∷ ys) zero x a =
    subst (λ (z : X). At (map f (y ∷ ys)) 0 (f z)) (at-head a) (at-zero (f y) (map f ys))
at-map f (y ∷ ys) (suc i) x a = at-next (f y) (map f ys) i (f x) (at-map f ys i x (at-rest y ys i x a))

pub map-at : {X Y : Type 0} (f : X → Y) (xs : List X) (i : ℕ) (y : Y) → At (map f xs) i y → (x : X) × At xs i x × (f x ≡ y)
map-at f [] i y a = absurd (nothing-at a)
map-at f (x ∷ xs) zero y a = (x, at-zero x xs, at-head a)
map-at f (x ∷ xs) (suc i) y a =
    let r = map-at f xs i y (at-rest (f x) (map f xs) i y a) in (r.0, at-next x xs i r.0 r.1, r.2)

pub map-set : {X Y : Type 0} (f : X → Y) (xs : List X) (i : ℕ) (x : X) → map f (set xs i x) ≡ set (map f xs) i (f x)
map-set f [] i x = refl
map-set f (y ∷ ys) zero x = refl
map-set {X} {Y} f (y ∷ ys) (suc i) x = ap (λ (w : List Y). f y ∷ w) (map-set f ys i x)

-- ---- the last item of a list that is reversed

pub turned-last : {X : Type 0} (xs : List X) (x : X) → reverse (xs ++ x ∷ []) ≡ x ∷ reverse xs
turned-last xs x = reverse-append xs (x ∷ [])

-- ---- a node in a slot

pub standing-same : {a b : Cell} → Standing a ≡ Standing b → a ≡ b
standing-same {a} {b} e = ap from e
  where
    from : Taken → Cell
    from (Standing c) = c
    from Blank = a
    from (Reading r) = a
