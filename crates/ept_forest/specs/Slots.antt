-- The nodes of a forest, slot by slot.
use Rattle.std.specs.Prelude.{◌≡◌, ℕ, ◌^◌, ◌-◌, min, Option, List, ◌∷◌, length}
use Rattle.std.specs.List.{All, sum_by, count_by}
use Rattle.ept_space.specs.declared.cube.Rules.{Rules}
use Rattle.ept_space.specs.VoxelKey.{root}
use Rattle.ept_node.specs.declared.node.Node.{Node}
use Rattle.ept_node.specs.declared.state.NodeState.TheVariants.{Blank, Resident}
use Rattle.ept_node.specs.Shown.{empty_node, no_children, file_of, state_of, node_of, is_here, children_of}
use Rattle.ept_forest.specs.declared.forest.Forest.{Forest}

-- the nodes of the slots, from slot 1 on
abbrev pub nodes_of : {F : Type 0} → Forest F → List (Node F)
nodes_of forest = forest.nodes.items

-- how many slots are drawn
abbrev pub used_of : {F : Type 0} → Forest F → ℕ
used_of forest = forest.used

-- how many of the nodes have their points in memory
abbrev pub residents_of : {F : Type 0} → List (Node F) → ℕ
residents_of nodes = count_by is_here nodes

-- the node of the root that no point has reached
pub record IsBegun {F : Type 0} (held : F → Option (List ℕ)) (rules : Rules) (node : Node F) : Type 0 where
  pub state : state_of node ≡ Resident
  pub empty : node_of held node ≡ empty_node root rules
  pub children : children_of node ≡ no_children

-- a node of no key
abbrev pub IsBlank : {F : Type 0} → Node F → Type 0
IsBlank node = state_of node ≡ Blank

-- A new forest has this number of nodes. The root's node is begun, and the others are blank. Each has a file that has
-- not failed and was asked to keep nothing.
pub record IsPlanted {F : Type 0} (held : F → Option (List ℕ)) (faults keeps : F → ℕ) (count : ℕ) (rules : Rules) (forest : Forest F) : Type 0 where
  pub slots : length (nodes_of forest) ≡ count
  pub used : used_of forest ≡ 1
  pub first : Node F
  pub others : List (Node F)
  pub are : nodes_of forest ≡ first ∷ others
  pub begun : IsBegun held rules first
  pub blank : All IsBlank others
  pub fresh : All (λ node. faults (file_of node) ≡ 0) (nodes_of forest)
  pub unused : All (λ node. keeps (file_of node) ≡ 0) (nodes_of forest)

-- how often the files of the nodes have failed, all together
abbrev pub faults_of : {F : Type 0} → (F → ℕ) → List (Node F) → ℕ
faults_of faults nodes = sum_by (λ node. faults (file_of node)) nodes

-- a count in 64 bits, which stays at the last value
abbrev pub told : ℕ → ℕ
told n = min n (2 ^ 64 - 1)

-- how many calls of `keep` the files of the nodes had
abbrev pub kept_by : {F : Type 0} → (F → ℕ) → List (Node F) → ℕ
kept_by keeps nodes = sum_by (λ node. keeps (file_of node)) nodes
