-- All nodes of a folder, as its build file and its hierarchy files state them. The folder may hold anything.
use Rattle.std.specs.Prelude.{◌≡◌, ◌≤◌, ◌+◌, ℕ, List, length, Contains}
use Rattle.std.specs.List.{All, AllZip}
use Rattle.ept_base.specs.Files.{Files}
use Rattle.ept_point.specs.declared.point.Point.{Point}
use Rattle.ept_space.specs.declared.cube.Rules.{Rules}
use Rattle.ept_space.specs.VoxelKey.{VoxelKey, IsKey, root}
use Rattle.ept_space.specs.OctreeCube.{IsCube}
use Rattle.ept_sample.specs.declared.tiles.Tile.{Tile}
use Rattle.ept_sample.specs.Nodes.{sampled}
use Rattle.ept_config.specs.declared.kept.Kept.{Kept}
use Rattle.ept_hier.specs.Hierarchy.{Node, keys_of}
use Rattle.ept_meta.specs.Output.{rules_of}
use Rattle.ept_save.specs.Complete.{IsComplete}
use Rattle.ept_query.specs.declared.search.Search.{Search}
use Rattle.ept_query.specs.declared.listing.TheConstants.{EVERYWHERE}
use Rattle.ept_query.specs.Search.{search_of, MeetsArea}
use Rattle.ept_query.specs.declared.query_error.QueryError.{QueryError}
use Rattle.ept_query.specs.Plan.{IsBuiltWith}
use Rattle.ept_query.specs.Planning.{IsPlanFor, GetsFiles, GetsAll}
use Rattle.ept_query.specs.Refusals.{CallsOfPlan}
use Rattle.ept_query.specs.Damage.{HasTile}

-- the nodes of all depths are looked for, wherever they lie
abbrev pub search_all : Kept → Search
search_all kept = search_of kept EVERYWHERE 0 32

-- The done gate is open, and each file of the hierarchy is well-formed. These are the nodes with their counts as the
-- files state them, and the rules are those of the build file.
pub record HasNodes (rules : Rules) (nodes : List Node) (files : Files) : Type 0 where
  pub plan : IsPlanFor EVERYWHERE 0 32 (record { area = EVERYWHERE; tiles = nodes }) files
  pub rules_are : (kept : Kept) → IsBuiltWith files kept → rules ≡ rules_of kept

-- the tile of each node is there, with these points, and their number is the node's count
abbrev pub HasTilesOf : Files → List Node → List Tile → Type 0
HasTilesOf files nodes tiles = AllZip (λ (n : Node) (t : Tile). (t.key ≡ n.0) × HasTile files n.0 n.1 t.points) nodes tiles

-- ---- what holds of all folders. Each statement is in the contract of a function of `laws`

-- no node lies outside what is looked for
abbrev pub EverywhereIsMet : Type 0
EverywhereIsMet =
    (kept : Kept) (key : VoxelKey) → IsKey key → key.depth ≤ (search_all kept).cube.depth → MeetsArea (search_all kept) key

-- a folder has one list of nodes
abbrev pub NodesAreOfOne : Type 0
NodesAreOfOne =
    (files : Files) (rules rules' : Rules) (nodes nodes' : List Node) → HasNodes rules nodes files → HasNodes rules' nodes' files → (rules ≡ rules') × (nodes ≡ nodes')

-- the root is one of them
abbrev pub RootIsThere : Type 0
RootIsThere = (files : Files) (rules : Rules) (nodes : List Node) → HasNodes rules nodes files → Contains (keys_of nodes) root

-- their keys are those of an octree
abbrev pub NodesAreInOctree : Type 0
NodesAreInOctree =
    (files : Files) (rules : Rules) (nodes : List Node) → HasNodes rules nodes files → IsCube rules.cube × All (λ (key : VoxelKey). IsKey key × (key.depth ≤ rules.cube.depth)) (keys_of nodes)

-- if the nodes are listed, the files call for no refusal of the listing
abbrev pub PlanIsUncalled : Type 0
PlanIsUncalled =
    (files : Files) (nodes : List Node) → IsPlanFor EVERYWHERE 0 32 (record { area = EVERYWHERE; tiles = nodes }) files → (error : QueryError) → ¬ CallsOfPlan EVERYWHERE 0 32 error files

-- files call for at most one refusal of a listing
abbrev pub PlanIsCalledOnce : Type 0
PlanIsCalledOnce =
    (files : Files) (one other : QueryError) → CallsOfPlan EVERYWHERE 0 32 one files → CallsOfPlan EVERYWHERE 0 32 other files → one ≡ other

-- a listing and one call of `get` for each node take no more calls than a query for everything may
abbrev pub NodesAreGot : Type 0
NodesAreGot =
    (files : Files) (rules : Rules) (nodes : List Node) (old mid new : ℕ) → HasNodes rules nodes files → GetsFiles EVERYWHERE 0 32 old mid files → new ≤ mid + length nodes → GetsAll EVERYWHERE 0 32 old new files

-- the nodes of a folder that is complete for some points are the nodes of the sampling, and their tiles are there
abbrev pub CompleteHasNodes : Type 0
CompleteHasNodes =
    (kept : Kept) (points : List Point) (files : Files) → IsComplete kept points files → (rules : Rules) (nodes : List Node) → HasNodes rules nodes files → (rules ≡ rules_of kept) × HasTilesOf files nodes (sampled (rules_of kept) points)
