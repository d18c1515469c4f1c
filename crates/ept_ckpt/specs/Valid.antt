-- What each checkpoint satisfies.
use Rattle.std.specs.Prelude.{◌≡◌, ◌≢◌, ℕ, ◌+◌, ◌<◌, ◌≤◌, ◌^◌, Bool, false, List, length, All}
use Rattle.std.specs.Option.{ForSome}
use Rattle.ept_class.specs.declared.class_set.ClassSet.{ClassSet}
use Rattle.ept_class.specs.ClassSet.{has_member}
use Rattle.ept_space.specs.declared.bounds.Bounds.{Bounds}
use Rattle.ept_space.specs.CubeOfBounds.{cube_of}
use Rattle.ept_space.specs.VoxelKey.{IsKey}
use Rattle.ept_config.specs.Counts.{total, IsCount}
use Rattle.ept_config.specs.Ranges.{BoundsInRange}
use Rattle.ept_config.specs.declared.kept.Kept.{Kept}
use Rattle.ept_config.specs.declared.source_count.SourceCount.{SourceCount}
use Rattle.ept_ckpt.specs.declared.version.BodyVersion.{BodyVersion}
use Rattle.ept_ckpt.specs.declared.version.BodyVersion.TheVariants.{V3}
use Rattle.ept_ckpt.specs.declared.node_line.NodeLine.{NodeLine}
use Rattle.ept_ckpt.specs.Versions.{most_points_of, spare_of}
use Rattle.ept_ckpt.specs.Octree.{AreNodesOf}

-- if there is an extent, its numbers have 32 bits, three at each end
abbrev pub ExtentInRange : SourceCount → Type 0
ExtentInRange count = ForSome count.extent BoundsInRange

-- a node of at most this depth
pub record IsNode (most : ℕ) (line : NodeLine) : Type 0 where
  pub is_key : IsKey line.key
  pub depth_most : line.key.depth ≤ most

-- the greatest depth of a node
abbrev pub deepest : Bounds → ℕ → ℕ → ℕ
deepest bounds s max_depth = (cube_of bounds s max_depth).depth

-- no class comes first, and withheld points do not come last
abbrev pub IsPlain : ClassSet → Bool → Type 0
IsPlain first withheld_last = (has_member first ≡ false) × (withheld_last ≡ false)

-- Each checkpoint has a count for each input. The number of inserted points is at most that of all points. The nodes
-- are a whole octree of the inserted points.
pub record IsCheckpoint (version : BodyVersion) (generation : ℕ) (kept : Kept) (counts : List SourceCount) (inserted : ℕ) (nodes : List NodeLine) : Type 0 where
  pub each : length counts ≡ length kept.inputs
  pub few : All (λ count. count.points ≤ most_points_of version) counts
  pub plain : version ≢ V3 → IsPlain kept.first kept.withheld_last
  pub counted : All (IsCount kept.bounds) counts
  pub extents : All ExtentInRange counts
  pub inserted_most : inserted ≤ total counts
  pub generation_least : 1 ≤ generation
  pub generation_most : generation ≤ inserted + length kept.inputs + spare_of version
  pub nodes_few : length nodes < 2 ^ 32
  pub lines : All (IsNode (deepest kept.bounds kept.s kept.max_depth)) nodes
  pub nodes_are : AreNodesOf inserted nodes
