-- The names of an output's files differ.
use Rattle.std.proofs.Common.{sym, ◌∙◌, inl, inr, ◌≡◌, ◌≢◌, ℕ, List, ◌∷◌, ◌++◌, ap, arith, get_or, append_assoc}
use Rattle.std.specs.Prelude.{codes, decimal}
use Rattle.std.proofs.lemmas.List.{append_cancel_left, append_cancel_right}
use Rattle.ept_space.specs.VoxelKey.{VoxelKey, IsKey}
use Rattle.ept_space.specs.KeyText.{key_text}
use Rattle.ept_space.proofs.KeyTexts.{key_text-injective}
use Rattle.ept_meta.specs.Output.{tile_name, hierarchy_name, metadata_name, manifest_name, build_file_name, IsOutputName, IsOutsideWork}

-- the names, piece by piece
pub tile-name-of : (key : VoxelKey) → codes "ept-data/" ++ (decimal key.depth ++ 45 ∷ (decimal key.x ++ 45 ∷ (decimal key.y ++ 45 ∷ (decimal key.z ++ codes ".bin")))) ≡ tile_name key
unfolding tile_name key_text
tile-name-of key = simp append_assoc

pub hierarchy-name-of : (key : VoxelKey) → codes "ept-hierarchy/" ++ (decimal key.depth ++ 45 ∷ (decimal key.x ++ 45 ∷ (decimal key.y ++ 45 ∷ (decimal key.z ++ codes ".json")))) ≡ hierarchy_name key
unfolding hierarchy_name key_text
hierarchy-name-of key = simp append_assoc

-- two keys have different names
pub one-tile : (a b : VoxelKey) → IsKey a → IsKey b → tile_name a ≡ tile_name b → a ≡ b
unfolding tile_name
one-tile a b is_a is_b same =
    key_text-injective a b is_a is_b (append_cancel_right (key_text a) (key_text b) (codes ".bin") (append_cancel_left (codes "ept-data/") (key_text a ++ codes ".bin") (key_text b ++ codes ".bin") same))

pub one-hierarchy : (a b : VoxelKey) → IsKey a → IsKey b → hierarchy_name a ≡ hierarchy_name b → a ≡ b
unfolding hierarchy_name
one-hierarchy a b is_a is_b same =
    key_text-injective a b is_a is_b (append_cancel_right (key_text a) (key_text b) (codes ".json") (append_cancel_left (codes "ept-hierarchy/") (key_text a ++ codes ".json") (key_text b ++ codes ".json") same))

-- names of different kinds differ
pub tile-hierarchy : (a b : VoxelKey) → tile_name a ≢ hierarchy_name b
unfolding tile_name hierarchy_name
tile-hierarchy a b same = let differ : 100 ≡ 104 = ap (λ (w : List ℕ). get_or w 4 0) same in absurd (omega (arith, differ))

pub tile-metadata : (a : VoxelKey) → tile_name a ≢ metadata_name
unfolding tile_name
tile-metadata a same = let differ : 45 ≡ 46 = ap (λ (w : List ℕ). get_or w 3 0) same in absurd (omega (arith, differ))

pub tile-manifest : (a : VoxelKey) → tile_name a ≢ manifest_name
unfolding tile_name
tile-manifest a same = let differ : 100 ≡ 115 = ap (λ (w : List ℕ). get_or w 4 0) same in absurd (omega (arith, differ))

pub tile-build : (a : VoxelKey) → tile_name a ≢ build_file_name
unfolding tile_name
tile-build a same = let differ : 100 ≡ 98 = ap (λ (w : List ℕ). get_or w 4 0) same in absurd (omega (arith, differ))

pub hierarchy-metadata : (a : VoxelKey) → hierarchy_name a ≢ metadata_name
unfolding hierarchy_name
hierarchy-metadata a same = let differ : 45 ≡ 46 = ap (λ (w : List ℕ). get_or w 3 0) same in absurd (omega (arith, differ))

pub hierarchy-manifest : (a : VoxelKey) → hierarchy_name a ≢ manifest_name
unfolding hierarchy_name
hierarchy-manifest a same = let differ : 104 ≡ 115 = ap (λ (w : List ℕ). get_or w 4 0) same in absurd (omega (arith, differ))

pub hierarchy-build : (a : VoxelKey) → hierarchy_name a ≢ build_file_name
unfolding hierarchy_name
hierarchy-build a same = let differ : 104 ≡ 98 = ap (λ (w : List ℕ). get_or w 4 0) same in absurd (omega (arith, differ))

pub metadata-manifest : metadata_name ≢ manifest_name
metadata-manifest same = let differ : 46 ≡ 45 = ap (λ (w : List ℕ). get_or w 3 0) same in absurd (omega (arith, differ))

pub metadata-build : metadata_name ≢ build_file_name
metadata-build same = let differ : 46 ≡ 45 = ap (λ (w : List ℕ). get_or w 3 0) same in absurd (omega (arith, differ))

pub manifest-build : manifest_name ≢ build_file_name
manifest-build same = let differ : 115 ≡ 98 = ap (λ (w : List ℕ). get_or w 4 0) same in absurd (omega (arith, differ))

-- no name of an output's file is in a folder that only a build uses
pub name-outside : (name : List ℕ) → IsOutputName name → IsOutsideWork name
unfolding tile_name hierarchy_name
name-outside name (inl (key, is)) = (
  λ inside. let differ : 100 ≡ 119 = ap (λ (w : List ℕ). get_or w 4 0) (sym is ∙ inside.1) in absurd (omega (arith, differ)),
  λ inside. let differ : 100 ≡ 115 = ap (λ (w : List ℕ). get_or w 4 0) (sym is ∙ inside.1) in absurd (omega (arith, differ)),
)
name-outside name (inr (inl (key, is))) = (
  λ inside. let differ : 104 ≡ 119 = ap (λ (w : List ℕ). get_or w 4 0) (sym is ∙ inside.1) in absurd (omega (arith, differ)),
  λ inside. let differ : 104 ≡ 115 = ap (λ (w : List ℕ). get_or w 4 0) (sym is ∙ inside.1) in absurd (omega (arith, differ)),
)
name-outside name (inr (inr (inl is))) = (
  λ inside. let differ : 46 ≡ 45 = ap (λ (w : List ℕ). get_or w 3 0) (sym is ∙ inside.1) in absurd (omega (arith, differ)),
  λ inside. let differ : 46 ≡ 45 = ap (λ (w : List ℕ). get_or w 3 0) (sym is ∙ inside.1) in absurd (omega (arith, differ)),
)
name-outside name (inr (inr (inr (inl is)))) = (
  λ inside. let differ : 115 ≡ 119 = ap (λ (w : List ℕ). get_or w 4 0) (sym is ∙ inside.1) in absurd (omega (arith, differ)),
  λ inside. let differ : 111 ≡ 112 = ap (λ (w : List ℕ). get_or w 5 0) (sym is ∙ inside.1) in absurd (omega (arith, differ)),
)
name-outside name (inr (inr (inr (inr is)))) = (
  λ inside. let differ : 98 ≡ 119 = ap (λ (w : List ℕ). get_or w 4 0) (sym is ∙ inside.1) in absurd (omega (arith, differ)),
  λ inside. let differ : 98 ≡ 115 = ap (λ (w : List ℕ). get_or w 4 0) (sym is ∙ inside.1) in absurd (omega (arith, differ)),
)
