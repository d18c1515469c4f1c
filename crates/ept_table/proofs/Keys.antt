-- The keys of the drawn slots.
use Rattle.std.proofs.Common.{◌≡◌, ◌∙◌, ℕ, zero, suc, ◌+◌, ◌<◌, ◌≤◌, ◌⊎◌, inl, inr, List, [], ◌∷◌, ◌++◌, length, sym, ap, subst, arith}
use Rattle.ept_space.specs.VoxelKey.{VoxelKey, root, child, parent, octant_of}
use Rattle.ept_space.proofs.Family.{parent-child, octant_of-child, depth-child}
use Rattle.ept_table.specs.At.{At}
use Rattle.ept_table.specs.Shown.{KeyOf}
use Rattle.ept_table.proofs.Lists.{at-same, at-below, at-left, at-end, end-at}

pub no_key : (keys : List VoxelKey) (key : VoxelKey) → KeyOf keys 0 key → ⊥
unfolding KeyOf
no_key keys key k = k

pub key-same : (keys : List VoxelKey) (k : ℕ) (a b : VoxelKey) → KeyOf keys k a → KeyOf keys k b → a ≡ b
unfolding KeyOf
key-same keys zero a b m n = absurd m
key-same keys (suc i) a b m n = at-same m n

pub key-low : (keys : List VoxelKey) (k : ℕ) (a : VoxelKey) → KeyOf keys k a → (0 < k) × (k ≤ length keys)
unfolding KeyOf
key-low keys zero a m = absurd m
key-low keys (suc i) a m = (omega arith, omega (arith, at-below m))

pub key-grown : (keys : List VoxelKey) (b : VoxelKey) (k : ℕ) (a : VoxelKey) → KeyOf keys k a → KeyOf (keys ++ b ∷ []) k a
unfolding KeyOf
key-grown keys b zero a m = m
key-grown keys b (suc i) a m = at-left (b ∷ []) m

pub key-last : (keys : List VoxelKey) (b : VoxelKey) (k : ℕ) → k ≡ length keys + 1 → KeyOf (keys ++ b ∷ []) k b
unfolding KeyOf
key-last keys b zero e = absurd (omega (arith, e))
key-last keys b (suc i) e =
    subst (λ (n : ℕ). At (keys ++ b ∷ []) n b) (let f : length keys ≡ i = omega (arith, e) in f) (at-end keys b)

pub key-cases : (keys : List VoxelKey) (b : VoxelKey) (k : ℕ) (a : VoxelKey) → KeyOf (keys ++ b ∷ []) k a → KeyOf keys k a ⊎ ((k ≡ length keys + 1) × (b ≡ a))
unfolding KeyOf
key-cases keys b zero a m = inl m
key-cases keys b (suc i) a m =
    elim (end-at keys b m) [ inl n ↦ inl n | inr e ↦ inr (omega (arith, e.0), e.1) ]

-- ---- children

pub child-key : (a b : VoxelKey) (o p : ℕ) → child a o ≡ child b p → a ≡ b
child-key a b o p e = sym (parent-child a o) ∙ (ap parent e ∙ parent-child b p)

pub child-octant : (a b : VoxelKey) (o p : ℕ) → o < 8 → p < 8 → child a o ≡ child b p → o ≡ p
child-octant a b o p low high e =
    sym (octant_of-child a o low) ∙ (ap octant_of e ∙ octant_of-child b p high)

pub child-root : (a : VoxelKey) (o : ℕ) → child a o ≡ root → ⊥
child-root a o e =
    let deep : a.depth + 1 ≡ 0 = sym (depth-child a o) ∙ ap (λ (k : VoxelKey). k.depth) e in omega (arith, deep)

pub child-apart : (a : VoxelKey) (o : ℕ) → child a o ≡ a → ⊥
child-apart a o e =
    let deep : a.depth + 1 ≡ a.depth = sym (depth-child a o) ∙ ap (λ (k : VoxelKey). k.depth) e in omega (arith, deep)
