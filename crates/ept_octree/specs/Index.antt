-- Nodes in slots, and the slot of each key.
use Rattle.std.specs.Prelude.{◌≡◌, ℕ, suc, ◌<◌, ◌≤◌, true, false, List, [], ◌∷◌, map, length, take, get_or, sum_by, Option, Some, None, is_some}
use Rattle.std.specs.BTreeMap.{is_at}
use Rattle.std.specs.Map.{lookup}
use Rattle.ept_space.specs.declared.cube.Rules.{Rules}
use Rattle.ept_space.specs.VoxelKey.{VoxelKey, root, key_cmp, AreAscending}
use Rattle.ept_grid.specs.Node as grid
use Rattle.ept_node.specs.declared.node.Node.{Node}
use Rattle.ept_node.specs.declared.state.NodeState.{NodeState}
use Rattle.ept_node.specs.declared.state.NodeState.TheVariants.{Blank, Resident, Spilled, Broken}
use Rattle.ept_node.specs.Shown.{no_node, state_of, node_of}
use Rattle.ept_table.specs.declared.taken.Taken.{Taken}
use Rattle.ept_table.specs.declared.taken.Taken.TheVariants as taken
use Rattle.ept_table.specs.Item.{seen_node}
use Rattle.ept_table.specs.Nothing.{nothing_told}
use Rattle.ept_table.specs.Shown.{IsSound}
use Rattle.ept_table.specs.Octree.{Branch, points_in}

-- a key and its slot
abbrev pub Site : Type 0
Site = VoxelKey × ℕ

-- ---- what lies in the slots

-- the node, if it is a node of a key
abbrev pub named : NodeState → grid.Node → Option grid.Node
named Blank g = None
named Resident g = Some g
named Spilled g = Some g
named Broken g = Some g

-- files whose contents are not visible
abbrev pub untold : {F : Type 0} → F → Option (List ℕ)
untold file = None

module _ {F : Type 0} (held : F → Option (List ℕ)) where
  abbrev pub in_slot : Node F → Option grid.Node
  in_slot node = named (state_of node) (node_of held node)

  -- the nodes of the slots, with none in slot 0
  abbrev pub in_slots : List (Node F) → List (Option grid.Node)
  in_slots nodes = None ∷ map in_slot nodes

  -- the same with the slots of the children, as what lies in the slots of a table
  abbrev pub taken_in : List (Node F) → List Taken
  taken_in nodes = taken.Blank ∷ map (seen_node held) nodes

-- ---- nodes by their keys

abbrev pub node_or : Option grid.Node → grid.Node
node_or None = no_node
node_or (Some g) = g

abbrev pub branch_at : List (Option grid.Node) → Site → Branch
branch_at slots s = (s.0, node_or (get_or slots s.1 None))

abbrev pub branches : List (Option grid.Node) → List Site → List Branch
branches slots sites = map (branch_at slots) sites

-- how many points there are in a slot
abbrev pub count_in : Option grid.Node → ℕ
count_in x = length (node_or x).points

-- ---- the index

-- the slot of a key
abbrev pub slot_of : List Site → VoxelKey → Option ℕ
slot_of sites key = lookup (is_at (key_cmp key)) sites

-- the node of a slot
abbrev pub node_in : List (Option grid.Node) → ℕ → Option grid.Node
node_in slots k = get_or slots k None

-- its key
abbrev pub key_seen : Option grid.Node → Option VoxelKey
key_seen None = None
key_seen (Some g) = Some g.key

-- the node has these rules, its points lie in its box, and it is no deeper than the greatest depth. At that depth no
-- octant is open.
abbrev pub IsSoundBy : Rules → grid.Node → Type 0
IsSoundBy rules g = IsSound (record nothing_told { rules = rules }) (record { node = g; children = [] })

-- In the slots from 1 to this one, the sites have the slot of each key: the slot of its node.
pub record AreSites (last : ℕ) (slots : List (Option grid.Node)) (sites : List Site) : Type 0 where
  pub many : length sites ≡ last
  pub ascend : AreAscending (map (λ (s : Site). s.0) sites)
  pub stands : (key : VoxelKey) (k : ℕ) → slot_of sites key ≡ Some k → (key_seen (node_in slots k) ≡ Some key) × (0 < k) × (k ≤ last)
  pub listed : (key : VoxelKey) (k : ℕ) → 0 < k → k ≤ last → key_seen (node_in slots k) ≡ Some key → slot_of sites key ≡ Some k
  pub together : length (points_in (branches slots sites)) ≡ sum_by count_in (take (suc last) slots)

-- The slots from 1 to the last that is used have nodes, the root in slot 1, and no other slot has one. The sites have
-- the slot of each key.
pub record IsIndex (rules : Rules) (used : ℕ) (slots : List (Option grid.Node)) (sites : List Site) : Type 0 where
  pub are : AreSites used slots sites
  pub low : used < length slots
  pub rooted : slot_of sites root ≡ Some 1
  pub filled : (k : ℕ) → 0 < k → k ≤ used → is_some (node_in slots k) ≡ true
  pub blank : (k : ℕ) → used < k → is_some (node_in slots k) ≡ false
  pub sound : (k : ℕ) (g : grid.Node) → node_in slots k ≡ Some g → IsSoundBy rules g
