-- Whether a key is in a list.
use Rattle.std.proofs.Common.{◌≡◌, ◌∙◌, ℕ, suc, ◌<◌, Bool, true, false, not, ◌&&◌, ◌==◌, inl, inr, List, [], ◌∷◌, map, length, refl, sym, ap, subst, arith}
use Rattle.std.specs.Bool.{Decides}
use Rattle.std.specs.List.{HoldsAt, IsAnyAnswer}
use Rattle.std.proofs.lemmas.Bool.{false≢true}
use Rattle.std.proofs.lemmas.List.Elements.{contains_decides}
use Rattle.ept_space.specs.VoxelKey.{VoxelKey, same_key}
use Rattle.ept_space.proofs.Within.{same_key-true, same_key-same}
use Rattle.ept_sample.specs.Members.{IsMember}
use Rattle.ept_sample.proofs.Members.{IsMember-map}
use Rattle.ept_table.specs.Octree.{Branch, key_of}
use Rattle.ept_octree.specs.Adding.{IsFree}
use Rattle.ept_octree.specs.Walking.{HasKey}
use Rattle.ept_octree.proofs.Walked.{node-at}

abbrev same : VoxelKey → VoxelKey → Bool
same a b = (a.depth == b.depth) && ((a.x == b.x) && ((a.y == b.y) && (a.z == b.z)))

grouped : (p q r s : Bool) → ((p && q) && r) && s ≡ p && (q && (r && s))
grouped true true r s = refl
grouped true false r s = refl
grouped false q r s = refl

same_is : (a b : VoxelKey) → same_key a b ≡ same a b
same_is a b = grouped (a.depth == b.depth) (a.x == b.x) (a.y == b.y) (a.z == b.z)

decides_same : (a b : VoxelKey) → Decides (same a b) (a ≡ b)
decides_same a b =
    (λ e. same_key-true a b (same_is a b ∙ e), λ e. sym (same_is a b) ∙ same_key-same a b e)

place_of : (keys : List VoxelKey) (key : VoxelKey) → IsMember key keys → (k : ℕ) × (k < length keys) × HoldsAt (λ y. y ≡ key) keys k
place_of [] key m = absurd m
place_of (x ∷ xs) key (inl is) = (0, omega arith, λ d. is)
place_of (x ∷ xs) key (inr m) = let r = place_of xs key m in (suc r.0, omega (arith, r.1), λ d. r.2 d)

module _ (nodes : List Branch) (keys : List VoxelKey) (are : keys ≡ map key_of nodes) (key : VoxelKey) (found : Bool) (answer : IsAnyAnswer (λ y t. same y key ≡ t) keys found) where
  decides : Decides found ((k : ℕ) × (k < length keys) × HoldsAt (λ y. y ≡ key) keys k)
  decides = contains_decides same decides_same keys key found answer

  pub key-there : found ≡ true → HasKey nodes key
  key-there is =
      let k = decides.0 is in
      let b = node-at nodes keys k.0 key are k.1 (sym (k.2 key)) in
      (b.0, b.3, b.4)

  pub key-new : not found ≡ true → IsFree key nodes
  key-new is = inl (λ b m its. (
      let there : IsMember b.0 keys = subst (λ (ks : List VoxelKey). IsMember b.0 ks) (sym are) (IsMember-map key_of b nodes m) in
      let yes : found ≡ true = decides.1 (place_of keys key (subst (λ (k : VoxelKey). IsMember k keys) its there)) in
      false≢true (sym (ap not yes) ∙ is)))
