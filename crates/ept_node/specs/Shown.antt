-- What a node shows as it lies in a slot: its file, the slots of its children, and its points.
use Rattle.std.specs.Prelude.{◌≡◌, ⊤, ℕ, Bool, true, false, List, [], ◌∷◌, ◌<◌, length, Option, Some, None, unwrap_or}
use Rattle.ept_base.specs.Files.{Tells}
use Rattle.ept_point.specs.Packed.{tile}
use Rattle.ept_space.specs.declared.cube.Rules.{Rules}
use Rattle.ept_space.specs.VoxelKey.{VoxelKey, root}
use Rattle.ept_space.specs.Group.{plain_rules}
use Rattle.ept_sample.specs.Ids.{HasDistinctIds}
use Rattle.ept_grid.specs.Node as grid
use Rattle.ept_grid.specs.Tile.{IsTile}
use Rattle.ept_node.specs.declared.state.NodeState.{NodeState}
use Rattle.ept_node.specs.declared.state.NodeState.TheVariants as states
use Rattle.ept_node.specs.declared.error.NodeError.{NodeError}
use Rattle.ept_node.specs.declared.error.NodeError.TheVariants.{SpillFault}
use Rattle.ept_node.specs.declared.site.Filed.{Filed}
use Rattle.ept_node.specs.declared.body.Body.{Body}
use Rattle.ept_node.specs.declared.body.Body.TheVariants.{Blank, Begun, Resident, Spilled, Unkept, Lost}
use Rattle.ept_node.specs.declared.node.Node.{Node}
use Rattle.ept_node.specs.Told.{points_told}

-- a node of the octree, without its room for more points
abbrev pub bare : grid.Node → grid.Node
bare g = record { key = g.key; rules = g.rules; points = g.points; mask = g.mask; room = grid.no_room }

-- the node of a key without points and with no octant open
abbrev pub empty_node : VoxelKey → Rules → grid.Node
empty_node key rules = record { key = key; rules = rules; points = []; mask = 0; room = grid.no_room }

-- a node to represent that there is none
abbrev pub no_node : grid.Node
no_node = empty_node root (plain_rules (record { corner = []; e = 0; s = 0; depth = 0 }) 0)

-- a node whose points are in its file, with the points that its visible contents decode to, or with others if they are
-- not visible
abbrev pub filed_node : Option (List ℕ) → Filed → grid.Node
filed_node told filed = record {
  key = filed.site.key;
  rules = filed.site.rules;
  points = points_told filed.site.rules.cube filed.site.key filed.count (unwrap_or told []);
  mask = filed.mask;
  room = grid.no_room;
}

-- no child has a slot
abbrev pub no_children : List ℕ
no_children = 0 ∷ 0 ∷ 0 ∷ 0 ∷ 0 ∷ 0 ∷ 0 ∷ 0 ∷ []

abbrev pub state_in : Body → NodeState
state_in Blank = states.Blank
state_in (Begun site) = states.Resident
state_in (Resident kept) = states.Resident
state_in (Spilled filed) = states.Spilled
state_in (Unkept kept) = states.Broken
state_in (Lost filed why) = states.Broken

-- whether the points are in memory
abbrev pub is_here_in : Body → Bool
is_here_in Blank = false
is_here_in (Begun site) = true
is_here_in (Resident kept) = true
is_here_in (Spilled filed) = false
is_here_in (Unkept kept) = true
is_here_in (Lost filed why) = false

abbrev pub fault_in : Body → Option NodeError
fault_in Blank = None
fault_in (Begun site) = None
fault_in (Resident kept) = None
fault_in (Spilled filed) = None
fault_in (Unkept kept) = Some SpillFault
fault_in (Lost filed why) = Some why

-- the node, given the contents of its file if they are visible
abbrev pub node_in : Option (List ℕ) → Body → grid.Node
node_in told Blank = no_node
node_in told (Begun site) = empty_node site.key site.rules
node_in told (Resident kept) = bare kept.value
node_in told (Spilled filed) = filed_node told filed.value
node_in told (Unkept kept) = bare kept.value
node_in told (Lost filed why) = filed_node told filed.value

-- ---- what a node shows

-- its spill file
abbrev pub file_of : {F : Type 0} → Node F → F
file_of node = node.file

-- whether it is the node of a key, and where its points are
abbrev pub state_of : {F : Type 0} → Node F → NodeState
state_of node = state_in node.body

-- Its key, the rules of its sampling, its points in id order and its open octants; `no_node` if it is blank. If its
-- points are in the file and the contents are visible, it has the points that they decode to. If they are not visible,
-- it has other points in their place: the same number of them, in the node's box. A broken node shows what it showed
-- before it broke.
abbrev pub node_of : {F : Type 0} → (F → Option (List ℕ)) → Node F → grid.Node
node_of held node = node_in (held node.file) node.body

-- whether its points are in memory
abbrev pub is_here : {F : Type 0} → Node F → Bool
is_here node = is_here_in node.body

-- why it is broken
abbrev pub fault_of : {F : Type 0} → Node F → Option NodeError
fault_of node = fault_in node.body

-- the slots of its children, octant by octant; 0 if there is none
abbrev pub children_of : {F : Type 0} → Node F → List ℕ
children_of node = node.children

-- the node shows what it showed
pub record ShowsTheSame {F : Type 0} (held : F → Option (List ℕ)) (old new : Node F) : Type 0 where
  pub file : file_of new ≡ file_of old
  pub state : state_of new ≡ state_of old
  pub node : node_of held new ≡ node_of held old
  pub children : children_of new ≡ children_of old

-- the points of a resident node have their place in memory
abbrev pub HasPlace : Body → Type 0
HasPlace Blank = ⊥
HasPlace (Begun site) = ⊥
HasPlace (Resident kept) = ⊤
HasPlace (Spilled filed) = ⊥
HasPlace (Unkept kept) = ⊥
HasPlace (Lost filed why) = ⊥

-- a resident node has a place for its points now
abbrev pub HasRoom : {F : Type 0} → Node F → Node F → Type 0
HasRoom old new = state_of old ≡ states.Resident → HasPlace new.body

-- ---- a node and its file

-- the same node, except for which points it has; their number is the same
pub record IsAlike (old new : grid.Node) : Type 0 where
  pub key : new.key ≡ old.key
  pub rules : new.rules ≡ old.rules
  pub count : length new.points ≡ length old.points
  pub mask : new.mask ≡ old.mask

-- bytes are the tile of a node, which fits the node's key if its ids are all different
pub record IsTileOf (node : grid.Node) (bytes : List ℕ) : Type 0 where
  pub bytes_are : bytes ≡ tile node.points
  pub fits : HasDistinctIds node.points → IsTile node.key node.rules node.mask node.points

-- if its contents are visible, the file of a spilled node holds the tile of the points that the node shows
abbrev pub IsFiled : {F : Type 0} → (F → Option (List ℕ)) → Node F → Type 0
IsFiled held node = state_of node ≡ states.Spilled → Tells (IsTileOf (node_of held node)) (held (file_of node))

-- the file of a spilled node was asked to keep something
abbrev pub HasKept : {F : Type 0} → (F → ℕ) → Node F → Type 0
HasKept keeps node = state_of node ≡ states.Spilled → 0 < keeps (file_of node)

-- What is known of a node and its file. A spilled node's file was asked to keep something, and holds its tile if its
-- contents are visible. If the file of a broken node failed, its count of faults is not 0.
pub record AgreesWithFile {F : Type 0} (held : F → Option (List ℕ)) (faults keeps : F → ℕ) (node : Node F) : Type 0 where
  pub filed : IsFiled held node
  pub kept : HasKept keeps node
  pub failed : fault_of node ≡ Some SpillFault → 0 < faults (file_of node)

-- the contents of a file are visible
abbrev pub DoesTell : {F : Type 0} → (F → Option (List ℕ)) → F → Type 0
DoesTell held file = (bytes : List ℕ) × (held file ≡ Some bytes)

-- the contents of each file are visible
abbrev pub IsTelling : {F : Type 0} → (F → Option (List ℕ)) → Type 0
IsTelling {F} held = (file : F) → DoesTell held file
