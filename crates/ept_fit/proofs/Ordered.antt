-- The nodes of a walk in the order of some keys.
use Rattle.std.proofs.Common.{◌≡◌, ◌∙◌, ℕ, ◌<◌, List, [], ◌∷◌, refl, sym, ap, arith, length, get_or, set}
use Rattle.std.specs.List.{swap}
use Rattle.std.specs.List.Sorted.{IsPermutation}
use Rattle.std.proofs.Math.ListN.{get_or-map}
use Rattle.std.proofs.lemmas.List.{map-set, length-map}
use Rattle.std.proofs.lemmas.List.Sorted.{IsPermutation-refl, IsPermutation-sym, IsPermutation-trans, IsPermutation-swap, IsPermutation-keeps}
use Rattle.ept_space.specs.VoxelKey.{VoxelKey}
use Rattle.ept_sample.specs.declared.tiles.Tile.{Tile}
use Rattle.ept_fit.specs.Fit.{keys_in}
use Rattle.ept_fit.specs.Walk.{InPreorder, IsWalk}

keys-swap : (nodes : List Tile) (i j : ℕ) → keys_in (swap nodes i j) ≡ swap (keys_in nodes) i j
keys-swap [] i j = refl
keys-swap (t ∷ ts) i j =
    let nodes : List Tile = t ∷ ts in
    let key : Tile → VoxelKey = λ n. n.key in
    map-set key (set nodes i (get_or nodes j t)) j (get_or nodes i t)
    ∙ (ap (λ (w : List VoxelKey). set w j (key (get_or nodes i t))) (map-set key nodes i (get_or nodes j t) ∙ ap (λ (k : VoxelKey). set (keys_in nodes) i k) (sym (get_or-map key nodes j t)))
    ∙ ap (λ (k : VoxelKey). set (set (keys_in nodes) i (get_or (keys_in nodes) j t.key)) j k) (sym (get_or-map key nodes i t)))

-- nodes with these keys; they are the nodes of the walk
abbrev Ordered : List Tile → List VoxelKey → Type 0
Ordered walk keys = (nodes : List Tile) × (keys_in nodes ≡ keys) × IsPermutation nodes walk

swapped : (walk : List Tile) (keys : List VoxelKey) (i j : ℕ) → i < length keys → j < length keys → Ordered walk keys → Ordered walk (swap keys i j)
swapped walk keys i j low high (nodes, same, each) =
    let long : length keys ≡ length nodes = ap (λ (w : List VoxelKey). length w) (sym same) ∙ length-map nodes (λ (t : Tile). t.key) in (
      swap nodes i j,
      keys-swap nodes i j ∙ ap (λ (w : List VoxelKey). swap w i j) same,
      IsPermutation-trans (swap nodes i j) nodes walk (IsPermutation-sym nodes (swap nodes i j) (IsPermutation-swap nodes (swap nodes i j) i j (omega (arith, low, long)) (omega (arith, high, long)) refl)) each,
    )

pub walk-nodes : (keys : List VoxelKey) (walk : List Tile) → IsPermutation keys (keys_in walk) → InPreorder walk → (nodes : List Tile) × (keys_in nodes ≡ keys) × IsWalk nodes walk
walk-nodes keys walk each order =
    let r = IsPermutation-keeps (keys_in walk) (Ordered walk) (walk, refl, IsPermutation-refl walk) (swapped walk) keys (IsPermutation-sym keys (keys_in walk) each) in
    (r.0, r.1, record { each = r.2; order = order })
