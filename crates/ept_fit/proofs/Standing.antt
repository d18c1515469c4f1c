-- Nodes as a state of the core: nothing is left or flies, and an octant is open if its child is a node.
use Rattle.std.proofs.Common.{◌≡◌, ◌∙◌, ℕ, ◌<◌, true, false, inl, inr, List, [], ◌∷◌, ◌++◌, map, refl, sym, ap, subst}
use Rattle.std.specs.List.{flat_map}
use Rattle.ept_point.specs.declared.point.Point.{Point}
use Rattle.ept_space.specs.VoxelKey.{VoxelKey}
use Rattle.ept_sample.specs.declared.tiles.Tile.{Tile}
use Rattle.ept_sample.specs.Arrivals.{all_octants}
use Rattle.ept_sample.specs.Members.{IsMember}
use Rattle.ept_sample.proofs.Members.{IsMember-map, member-map}
use Rattle.ept_sample.proofs.Ascending.{IsRising}
use Rattle.ept_sample.proofs.KeyOrder.{key_before}
use Rattle.ept_sample.proofs.Choices.{either, not_both}
use Rattle.ept_core.specs.declared.node.Node.{Node}
use Rattle.ept_core.specs.State.{State, Entry, blank, node_at, has_open, keys_of, tile_of}
use Rattle.ept_core.proofs.NodeMap.{same_key-apart, node_at-member, node_at-absent}
use Rattle.ept_core.proofs.Leaving.{open-at}
use Rattle.ept_fit.specs.Fit.{keys_in, points_in, is_among, has_child}
use Rattle.ept_fit.proofs.Keys.{among-node, node-among}

-- a node of the state
abbrev pub standing : List VoxelKey → Tile → Node
standing keys node = record {
  points = node.points;
  opened = map (has_child keys node.key) all_octants;
  is_resident = true;
}

abbrev pub entry_of : List VoxelKey → Tile → Entry
entry_of keys node = (node.key, standing keys node)

abbrev pub state_of : List Tile → State
state_of nodes = record { left = []; flights = []; nodes = map (entry_of (keys_in nodes)) nodes }

pub standing-open : (keys : List VoxelKey) (node : Tile) (o : ℕ) → o < 8 → has_open (standing keys node) o ≡ has_child keys node.key o
unfolding has_open
standing-open keys node o low = open-at (has_child keys node.key) o low

pub blank-open : (o : ℕ) → has_open blank o ≡ false
unfolding has_open
blank-open o = refl

pub entries-keys : (keys : List VoxelKey) (nodes : List Tile) → keys_of (map (entry_of keys) nodes) ≡ keys_in nodes
entries-keys keys [] = refl
entries-keys keys (node ∷ nodes) = ap (λ (w : List VoxelKey). node.key ∷ w) (entries-keys keys nodes)

pub entries-points : (keys : List VoxelKey) (nodes : List Tile) → flat_map (λ (e : Entry). e.1.points) (map (entry_of keys) nodes) ≡ points_in nodes
entries-points keys [] = refl
entries-points keys (node ∷ nodes) = ap (λ (w : List Point). node.points ++ w) (entries-points keys nodes)

pub entries-tiles : (keys : List VoxelKey) (nodes : List Tile) → map tile_of (map (entry_of keys) nodes) ≡ nodes
entries-tiles keys [] = refl
entries-tiles keys (node ∷ nodes) = ap (λ (w : List Tile). node ∷ w) (entries-tiles keys nodes)

module _ (nodes : List Tile) (rising : IsRising key_before (keys_in nodes)) where
  abbrev keys : List VoxelKey
  keys = keys_in nodes

  abbrev s : State
  s = state_of nodes

  up : IsRising key_before (keys_of s.nodes)
  up = subst (λ (w : List VoxelKey). IsRising key_before w) (sym (entries-keys keys nodes)) rising

  -- the state has the node at its key, and nothing at another key
  pub stands : (node : Tile) → IsMember node nodes → node_at s.nodes node.key ≡ standing keys node
  stands node m = node_at-member s.nodes (entry_of keys node) up (IsMember-map (entry_of keys) node nodes m)

  nowhere : (key : VoxelKey) → is_among keys key ≡ false → node_at s.nodes key ≡ blank
  nowhere key none =
      node_at-absent s.nodes key (λ e m. (
      let r = member-map (entry_of keys) e nodes m in
      same_key-apart e.0 key (λ at. not_both (is_among keys key) (subst (λ (w : VoxelKey). is_among keys w ≡ true) (ap (λ (w : Entry). w.0) r.2 ∙ at) (node-among nodes r.0 r.1)) none)))

  -- so what holds of each node, and wherever there is none, holds at each key
  pub at-each : (P : VoxelKey → Node → Type 0) → ((node : Tile) → IsMember node nodes → P node.key (standing keys node)) → ((key : VoxelKey) → P key blank) → (key : VoxelKey) → P key (node_at s.nodes key)
  at-each P each none key =
      elim (either (is_among keys key)) [
        | inl some ↦
            let t = among-node nodes key some in
            subst (λ (w : VoxelKey). P w (node_at s.nodes w)) t.2 (subst (λ (n : Node). P t.0.key n) (sym (stands t.0 t.1)) (each t.0 t.1))
        | inr absent ↦ subst (λ (n : Node). P key n) (sym (nowhere key absent)) (none key)
      ]

  -- a point that the state has at a key is in the node of that key
  pub standing-node : (key : VoxelKey) (p : Point) → IsMember p (node_at s.nodes key).points → (node : Tile) × IsMember node nodes × (node.key ≡ key) × IsMember p node.points
  standing-node key p =
      at-each (λ k n. IsMember p n.points → (node : Tile) × IsMember node nodes × (node.key ≡ k) × IsMember p node.points) (λ node m q. (node, m, refl, q)) (λ k q. absurd q) key

  -- the octants of a node are open to its children
  pub opens : (key : VoxelKey) (o : ℕ) → is_among keys key ≡ true → o < 8 → has_open (node_at s.nodes key) o ≡ has_child keys key o
  opens key o some low =
      let t = among-node nodes key some in
      subst (λ (w : VoxelKey). has_open (node_at s.nodes w) o ≡ has_child keys w o) t.2 (ap (λ (n : Node). has_open n o) (stands t.0 t.1) ∙ standing-open keys t.0 o low)
