-- The tile of a node of a part, loaded and judged.
use Rattle.std.proofs.Common.{◌≡◌, ◌∙◌, ◌⊎◌, ℕ, ◌-◌, ◌<◌, ◌≤◌, ◌^◌, inl, inr, true, List, [], ◌∷◌, ◌++◌, take, drop, length, length-drop, refl, ap, subst, arith, Option, Some}
use Rattle.std.proofs.Math.Seq.{drop-append_seam}
use Rattle.std.proofs.lemmas.List.{take_all}
use Rattle.std.proofs.lemmas.List.Elements.{All-weaker}
use Rattle.std.specs.Prelude.{All}
use Rattle.ept_base.specs.Files.{Files, Tells}
use Rattle.ept_point.specs.declared.point.Point.{Point}
use Rattle.ept_point.specs.declared.layout.Layout.TheVariants.{New}
use Rattle.ept_space.specs.declared.cube.Rules.{Rules}
use Rattle.ept_space.specs.VoxelKey.{VoxelKey, IsKey}
use Rattle.ept_space.specs.OctreeCube.{IsCube, InBox, InCube}
use Rattle.ept_space.proofs.PlaceKeys.{InCube-box}
use Rattle.ept_sample.specs.Place.{place, AllInCube}
use Rattle.ept_sample.specs.Arrivals.{octant}
use Rattle.ept_grid.specs.Mask.{opened}
use Rattle.ept_save.specs.declared.error.SaveError.TheVariants as save
use Rattle.ept_save.specs.Errors as stores
use Rattle.ept_ckpt.specs.declared.node_line.NodeLine.{NodeLine}
use Rattle.ept_save.specs.Loading.{AreOfLine, IsDamagedUnder}
use Rattle.ept_save.proofs.TileFiles.{one-file}
use Rattle.ept_part.specs.Names.{part_tile}
use Rattle.ept_merge.specs.declared.error.MergeError.{MergeError}
use Rattle.ept_merge.specs.declared.error.MergeError.TheVariants.{PartDamaged}
use Rattle.ept_merge.specs.declared.joining.PartNode.{PartNode}
use Rattle.ept_merge.specs.Merging.{IsTileDamaged}
use Rattle.ept_merge.specs.Putting.{HasPartTile, Loads, IsNodesFault}
use Rattle.ept_merge.proofs.Reading.{tells-more, tells-both}

-- a damaged tile is reported with the line's key
pub damaged-key : (k key : VoxelKey) → (save.TileDamaged k ≡ save.TileDamaged key) ⊎ stores.IsStores (save.TileDamaged k) → save.TileDamaged k ≡ save.TileDamaged key
damaged-key k key (inl is) = is
damaged-key k key (inr (inl is)) = absurd (cc)
damaged-key k key (inr (inr is)) = absurd (cc)

abbrev pub AreMine : Rules → PartNode → List Point → Type 0
AreMine rules node points = All (λ (p : Point). opened node.octants (octant rules 0 p) ≡ true) points

-- a tile of points that lie in the part is not damaged
mine-intact : (rules : Rules) (node : PartNode) (points : List Point) → AreMine rules node points → (files : Files) → ¬ IsDamagedUnder New rules (part_tile node.octants node.line.key) node.line files → HasPartTile files node points → ¬ IsTileDamaged rules files node.octants node.line
mine-intact rules node points mine files intact has (inl damaged) = intact damaged
mine-intact rules node points mine files intact has (inr (others, is, outside)) =
    outside (subst (λ (w : List Point). AreMine rules node w) (one-file New (part_tile node.octants node.line.key) files points others has is) mine)

pub loaded-intact : (rules : Rules) (node : PartNode) (files : Option Files) (old new : List Point) (loads : Loads rules node files old new) → AreMine rules node loads.points → Tells (λ all. ¬ IsDamagedUnder New rules (part_tile node.octants node.line.key) node.line all) files → Tells (λ all. ¬ IsTileDamaged rules all node.octants node.line) files
loaded-intact rules node files old new loads mine intact =
    tells-both _ _ _ (λ all whole has. mine-intact rules node loads.points mine all whole has) files intact loads.tile

-- a node whose tile is damaged is refused for that
pub node-damaged : (rules : Rules) (node : PartNode) (e : MergeError) (files : Option Files) → e ≡ PartDamaged node.octants (Some node.line.key) → node.line.mask < 2 ^ 8 → Tells (IsDamagedUnder New rules (part_tile node.octants node.line.key) node.line) files → Tells (λ all. IsNodesFault rules all (node ∷ []) e) files
node-damaged rules node e files is byte damaged = tells-more _ _ (λ all bad. inr (record { node = node; among = inl refl; is_error = is; byte = byte; damaged = inl bad })) files damaged

-- and one with a point outside
pub node-outside : (rules : Rules) (node : PartNode) (e : MergeError) (files : Option Files) (old new : List Point) (loads : Loads rules node files old new) → e ≡ PartDamaged node.octants (Some node.line.key) → node.line.mask < 2 ^ 8 → ¬ AreMine rules node loads.points → Tells (λ all. IsNodesFault rules all (node ∷ []) e) files
node-outside rules node e files old new loads is byte outside =
    tells-more _ _ (λ all has. inr (record { node = node; among = inl refl; is_error = is; byte = byte; damaged = inr (loads.points, has, outside) })) files loads.tile

-- ---- the points that were appended

pub tail-is : (old points new xs : List Point) (n : ℕ) → new ≡ old ++ points → xs ≡ new → n ≡ length old → take (length xs - n) (drop n xs) ≡ points
tail-is old points new xs n made same number =
    let all : xs ≡ old ++ points = same ∙ made in
    let rest : drop n xs ≡ points = ap (λ (k : ℕ). drop k xs) number ∙ (ap (λ (w : List Point). drop (length old) w) all ∙ drop-append_seam old points) in
    take_all (length xs - n) (drop n xs) (omega (arith, length-drop n xs)) ∙ rest

-- they lie in the cube
pub line-inside : (rules : Rules) (line : NodeLine) (points : List Point) → IsCube rules.cube → IsKey line.key → line.key.depth ≤ rules.cube.depth → AreOfLine rules line points → AllInCube rules.cube points
line-inside rules line points cube key low are =
    All-weaker (λ (p : Point). InBox rules.cube line.key (place p)) (λ (p : Point). InCube rules.cube (place p)) (λ p inside. InCube-box rules.cube line.key (place p) key (omega (arith, low, cube.cells_whole)) inside) points are.fits.inside
