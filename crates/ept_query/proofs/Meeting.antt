-- Whether a node is asked for is decided.
use Rattle.std.proofs.Common.{◌≡◌, ◌*◌, ◌<◌, ◌≤◌, ◌⊎◌, inl, inr, ℕ, ℤ, pos, ◌+ℤ◌, ◌≤ℤ◌, Bool, true, false, [], ◌∷◌, refl, arith}
use Rattle.std.proofs.lemmas.Bool.{cases_lt, false≢true}
use Rattle.std.proofs.lemmas.Int.{ints, by_lt_z}
use Rattle.ept_space.specs.Place.{coordinate}
use Rattle.ept_space.specs.VoxelKey.{VoxelKey}
use Rattle.ept_space.specs.OctreeCube.{IsFrom, InBox, box_side}
use Rattle.ept_space.specs.ClosedBox.{IsBetween}
use Rattle.ept_query.specs.declared.search.Search.{Search}
use Rattle.ept_query.specs.Search.{MeetsArea, HasDepth}

-- ---- decisions

pub is_so : {P : Type 0} → P ⊎ (¬ P) → Bool
is_so (inl p) = true
is_so (inr none) = false

pub holds : {P : Type 0} (d : P ⊎ (¬ P)) → is_so d ≡ true → P
unfolding is_so
holds (inl p) is = p
holds (inr none) is = absurd (false≢true is)

pub passes : {P : Type 0} (d : P ⊎ (¬ P)) → P → is_so d ≡ true
unfolding is_so
passes (inl p) q = refl
passes (inr none) q = absurd (none q)

decided-as : {P Q : Type 0} → P ⊎ (¬ P) → (P → Q) → (Q → P) → Q ⊎ (¬ Q)
decided-as (inl p) there back = inl (there p)
decided-as (inr none) there back = inr (λ q. none (back q))

both : {P Q : Type 0} → P ⊎ (¬ P) → Q ⊎ (¬ Q) → (P × Q) ⊎ (¬ (P × Q))
both (inl p) (inl q) = inl (p, q)
both (inl p) (inr none) = inr (λ t. none t.1)
both (inr none) q = inr (λ t. none t.0)

-- ---- one axis

-- a coordinate lies in a half-open interval of a length and in a closed one
abbrev Shares : ℤ → ℕ → ℤ → ℤ → Type 0
Shares least length low high = (at : ℤ) × (IsFrom least length at × IsBetween low high at)

-- the first coordinate that is above both beginnings
shares-first : (least : ℤ) (length : ℕ) (low high at : ℤ) → least ≤ℤ at → low ≤ℤ at → ((other : ℤ) → least ≤ℤ other → low ≤ℤ other → at ≤ℤ other) → Shares least length low high ⊎ (¬ Shares least length low high)
shares-first least length low high at above inside first =
    by_lt_z at (least +ℤ pos length)
    (λ below. by_lt_z high at
    (λ over. inr (λ s. (let far = first s.0 s.1.0.0 s.1.1.0 in let near = s.1.1.1 in omega (arith, ints, over, far, near))))
    (λ within. inl (at, ((above, below), (inside, within)))))
    (λ past. inr (λ s. (let far = first s.0 s.1.0.0 s.1.1.0 in let near = s.1.0.1 in omega (arith, ints, past, far, near))))

shares-decided : (least : ℤ) (length : ℕ) (low high : ℤ) → Shares least length low high ⊎ (¬ Shares least length low high)
shares-decided least length low high =
    by_lt_z least low
    (λ under. shares-first least length low high low (omega (arith, ints, under)) (omega (arith, ints)) (λ other a b. b))
    (λ over. shares-first least length low high least (omega (arith, ints)) over (λ other a b. a))

-- ---- nodes

meets-decided : (search : Search) (key : VoxelKey) → MeetsArea search key ⊎ (¬ MeetsArea search key)
unfolding InBox
meets-decided search key =
    let side : ℕ = box_side search.cube key.depth in
    let on-x = shares-decided (coordinate search.cube.corner 0 +ℤ pos (key.x * side)) side (coordinate search.area.min 0) (coordinate search.area.max 0) in
    let on-y = shares-decided (coordinate search.cube.corner 1 +ℤ pos (key.y * side)) side (coordinate search.area.min 1) (coordinate search.area.max 1) in
    let on-z = shares-decided (coordinate search.cube.corner 2 +ℤ pos (key.z * side)) side (coordinate search.area.min 2) (coordinate search.area.max 2) in
    decided-as (both on-x (both on-y on-z))
    (λ t. (t.0.0 ∷ t.1.0.0 ∷ t.1.1.0 ∷ [], record { x = t.0.1.0; y = t.1.0.1.0; z = t.1.1.1.0 }, record { x = t.0.1.1; y = t.1.0.1.1; z = t.1.1.1.1 }))
    (λ m. ((coordinate m.0 0, (m.1.x, m.2.x)), ((coordinate m.0 1, (m.1.y, m.2.y)), (coordinate m.0 2, (m.1.z, m.2.z)))))

depth-decided : (search : Search) (key : VoxelKey) → HasDepth search key ⊎ (¬ HasDepth search key)
depth-decided search key =
    both (at_most (cases_lt key.depth search.first)) (at_most (cases_lt search.last key.depth))
  where
    at_most : {m n : ℕ} → (m < n) ⊎ (n ≤ m) → (n ≤ m) ⊎ (¬ (n ≤ m))
    at_most (inl less) = inr (λ more. omega (arith, less, more))
    at_most (inr more) = inl more

-- the depth of a node is asked for, and its box meets the area
pub asked-decided : (search : Search) (key : VoxelKey) → (HasDepth search key × MeetsArea search key) ⊎ (¬ (HasDepth search key × MeetsArea search key))
asked-decided search key = both (depth-decided search key) (meets-decided search key)
