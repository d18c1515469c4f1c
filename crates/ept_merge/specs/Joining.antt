-- The nodes of all parts: the roots, and the others in key order.
use Rattle.std.specs.Prelude.{◌≡◌, ℕ, ◌<◌, ◌≤◌, List, ◌∷◌, map, drop, count_by, slice_index_or}
use Rattle.std.specs.List.{flat_map, list_any}
use Rattle.std.specs.List.Sorted.{IsPermutation}
use Rattle.ept_point.specs.declared.layout.Layout.TheVariants.{New}
use Rattle.ept_space.specs.VoxelKey.{VoxelKey, same_key, root, AreAscending}
use Rattle.ept_grid.specs.Mask.{opened}
use Rattle.ept_config.specs.declared.kept.Kept.{Kept}
use Rattle.ept_config.specs.declared.source_count.SourceCount.{SourceCount}
use Rattle.ept_ckpt.specs.declared.letter.Letter.TheVariants.{A}
use Rattle.ept_ckpt.specs.declared.node_line.NodeLine.{NodeLine}
use Rattle.ept_ckpt.specs.declared.checkpoint.Checkpoint.{Checkpoint}
use Rattle.ept_ckpt.specs.Versions.{layout_of}
use Rattle.ept_merge.specs.declared.bodies.PartBody.{PartBody}
use Rattle.ept_merge.specs.declared.joining.PartNode.{PartNode}

-- the body keeps this, and has these counts; its tiles are of the newest layout
pub record IsLike (kept : Kept) (counts : List SourceCount) (c : Checkpoint) : Type 0 where
  pub kept_is : c.kept ≡ kept
  pub counts_are : c.counts ≡ counts
  pub newest : layout_of c.version ≡ New

-- the octants of the parts, and their bodies
abbrev pub octants_of : List PartBody → List ℕ
octants_of parts = map (λ (part : PartBody). part.octants) parts

abbrev pub bodies_in : List PartBody → List Checkpoint
bodies_in parts = map (λ (part : PartBody). part.body) parts

-- the nodes of a part below its root, which has the first line
abbrev pub below_root : PartBody → List PartNode
below_root part = map (λ (line : NodeLine). let node : PartNode = record { octants = part.octants; line = line } in node) (drop 1 part.body.nodes)

-- the nodes of all parts below the root, part after part
abbrev pub all_below : List PartBody → List PartNode
all_below parts = flat_map below_root parts

abbrev pub keys_of : List PartNode → List VoxelKey
keys_of nodes = map (λ (node : PartNode). node.line.key) nodes

-- no key is there twice
abbrev pub AreDistinctKeys : List VoxelKey → Type 0
AreDistinctKeys keys = (key : VoxelKey) → count_by (same_key key) keys ≤ 1

-- these are the nodes below the root, in key order, each key once
pub record AreInOrder (parts : List PartBody) (nodes : List PartNode) : Type 0 where
  pub same : IsPermutation (all_below parts) nodes
  pub ascend : AreAscending (keys_of nodes)

-- the root of a part: its first line
abbrev pub root_node : PartBody → PartNode
root_node part = record { octants = part.octants; line = slice_index_or part.body.nodes 0 (record { key = root; count = 0; mask = 0; letter = A }) }

abbrev pub roots_of : List PartBody → List PartNode
roots_of parts = map root_node parts

-- this is the root of the part, and its key is the root's
pub record IsRootOf (part : PartBody) (node : PartNode) : Type 0 where
  pub is : node ≡ root_node part
  pub key : node.line.key ≡ root
  pub first : part.body.nodes ≡ node.line ∷ drop 1 part.body.nodes

-- an octant is open in the mask if it is open in the root of a part
abbrev pub IsUnion : List PartBody → ℕ → Type 0
IsUnion parts mask = (o : ℕ) → o < 8 → opened mask o ≡ list_any (λ (part : PartBody). let node : PartNode = root_node part in opened node.line.mask o) parts
