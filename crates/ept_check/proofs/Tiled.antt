-- The nodes of a folder and their tiles.
use Rattle.std.proofs.Common.{◌≡◌, ◌∙◌, ◌+◌, ℕ, zero, suc, Bool, true, false, cond, inl, inr, List, [], ◌∷◌, ◌++◌, length, length-append, filter, refl, sym, ap, subst, arith}
use Rattle.std.specs.List.{sum_by}
use Rattle.std.proofs.lemmas.Bool.{false≢true}
use Rattle.std.proofs.lemmas.List.Sums.{sum_by-cons}
use Rattle.ept_base.specs.Files.{Files}
use Rattle.ept_point.specs.declared.point.Point.{Point}
use Rattle.ept_space.specs.VoxelKey.{VoxelKey, is_within, AreAscending}
use Rattle.ept_sample.specs.declared.tiles.Tile.{Tile}
use Rattle.ept_sample.specs.Members.{IsMember}
use Rattle.ept_sample.proofs.Ascending.{IsRising}
use Rattle.ept_sample.proofs.KeyOrder.{key_before, key_order, IsRising-AllPairs}
use Rattle.ept_sample.proofs.Members.{IsMember-map}
use Rattle.ept_hier.specs.Hierarchy.{Node, keys_of}
use Rattle.ept_query.specs.Damage.{HasTile}
use Rattle.ept_query.specs.CompleteLaws.{TileIsOfOne}
use Rattle.ept_query.specs.Listed.{HasTilesOf}
use Rattle.ept_fit.specs.Fit.{keys_in, points_in, points_within}
use Rattle.ept_check.specs.Nodes.{count_of, counted_within, HasNode}

-- ---- the tile of a node

pub tiled-keys : (files : Files) (nodes : List Node) (tiles : List Tile) → HasTilesOf files nodes tiles → keys_in tiles ≡ keys_of nodes
tiled-keys files [] [] has = refl
tiled-keys files [] (t ∷ tiles) has = absurd has
tiled-keys files (n ∷ nodes) [] has = absurd has
tiled-keys files (n ∷ nodes) (t ∷ tiles) has =
    ap (λ (k : VoxelKey). k ∷ keys_in tiles) has.0.0 ∙ ap (λ (ks : List VoxelKey). n.0 ∷ ks) (tiled-keys files nodes tiles has.1)

pub tile-node : (files : Files) (nodes : List Node) (tiles : List Tile) → HasTilesOf files nodes tiles → (t : Tile) → IsMember t tiles → HasNode files nodes t.key t.points
tile-node files [] [] has t m = absurd m
tile-node files [] (u ∷ tiles) has t m = absurd has
tile-node files (n ∷ nodes) [] has t m = absurd m
tile-node files (n ∷ nodes) (u ∷ tiles) has t (inl here) =
    subst (λ (w : Tile). HasNode files (n ∷ nodes) w.key w.points) here (record {
      count = n.1;
      listed = inl (ap (λ (k : VoxelKey). let x : Node = (k, n.1) in x) (sym has.0.0));
      tile = subst (λ (k : VoxelKey). HasTile files k n.1 u.points) (sym has.0.0) has.0.1;
    })
tile-node files (n ∷ nodes) (u ∷ tiles) has t (inr later) =
    let r = tile-node files nodes tiles has.1 t later in record { count = r.count; listed = inr r.listed; tile = r.tile }

tile-at : (files : Files) (nodes : List Node) (tiles : List Tile) → HasTilesOf files nodes tiles → (n : Node) → IsMember n nodes → (t : Tile) × IsMember t tiles × (t.key ≡ n.0) × HasTile files n.0 n.1 t.points
tile-at files [] tiles has n m = absurd m
tile-at files (o ∷ nodes) [] has n m = absurd has
tile-at files (o ∷ nodes) (t ∷ tiles) has n (inl here) =
    (t, inl refl, has.0.0 ∙ ap (λ (x : Node). x.0) here, subst (λ (x : Node). HasTile files x.0 x.1 t.points) here has.0.1)
tile-at files (o ∷ nodes) (t ∷ tiles) has n (inr later) = let r = tile-at files nodes tiles has.1 n later in (r.0, inr r.1, r.2, r.3)

pub node-tile : TileIsOfOne → (files : Files) (nodes : List Node) (tiles : List Tile) → HasTilesOf files nodes tiles → (key : VoxelKey) (points : List Point) → HasNode files nodes key points → (t : Tile) × IsMember t tiles × (t.key ≡ key) × (t.points ≡ points)
node-tile once files nodes tiles has key points node =
    let r = tile-at files nodes tiles has (key, node.count) node.listed in
    (r.0, r.1, r.2, once files key node.count r.0.points points r.3 node.tile)

-- if each node has a tile
pub tiles-for : (files : Files) (nodes : List Node) → ((n : Node) → IsMember n nodes → (points : List Point) × HasTile files n.0 n.1 points) → (tiles : List Tile) × HasTilesOf files nodes tiles
tiles-for files [] each = ([], tt)
tiles-for files (n ∷ nodes) each =
    let p = each n (inl refl) in
    let r = tiles-for files nodes (λ m there. each m (inr there)) in
    (record { key = n.0; points = p.0 } ∷ r.0, ((refl, p.1), r.1))

-- ---- a key has one count, and one list of points

not-again : (n : Node) (nodes : List Node) (key : VoxelKey) (count : ℕ) → IsRising key_before (keys_of (n ∷ nodes)) → n.0 ≡ key → IsMember (key, count) nodes → ⊥
not-again n nodes key count up same m =
    let after : key_before n.0 key ≡ true = up.0 key (IsMember-map (λ (x : Node). x.0) (key, count) nodes m) in
    false≢true (sym (key_order.none_itself key) ∙ subst (λ (k : VoxelKey). key_before k key ≡ true) same after)

count_once : (nodes : List Node) → IsRising key_before (keys_of nodes) → (key : VoxelKey) (c d : ℕ) → IsMember (key, c) nodes → IsMember (key, d) nodes → c ≡ d
count_once [] up key c d m w = absurd m
count_once (n ∷ nodes) up key c d (inl a) (inl b) = sym (ap (λ (x : Node). x.1) a) ∙ ap (λ (x : Node). x.1) b
count_once (n ∷ nodes) up key c d (inl a) (inr b) = absurd (not-again n nodes key d up (ap (λ (x : Node). x.0) a) b)
count_once (n ∷ nodes) up key c d (inr a) (inl b) = absurd (not-again n nodes key c up (ap (λ (x : Node). x.0) b) a)
count_once (n ∷ nodes) up key c d (inr a) (inr b) = count_once nodes up.1 key c d a b

pub count-once : (nodes : List Node) → AreAscending (keys_of nodes) → (key : VoxelKey) (c d : ℕ) → IsMember (key, c) nodes → IsMember (key, d) nodes → c ≡ d
count-once nodes ascend = count_once nodes (IsRising-AllPairs (keys_of nodes) ascend)

pub node-once : TileIsOfOne → (files : Files) (nodes : List Node) → AreAscending (keys_of nodes) → (key : VoxelKey) (ps qs : List Point) → HasNode files nodes key ps → HasNode files nodes key qs → ps ≡ qs
node-once once files nodes ascend key ps qs one other =
    let same = count-once nodes ascend key one.count other.count one.listed other.listed in
    once files key other.count ps qs (subst (λ (c : ℕ). HasTile files key c ps) same one.tile) other.tile

-- ---- what is counted

pub counted-within : (files : Files) (nodes : List Node) (tiles : List Tile) (top : VoxelKey) → HasTilesOf files nodes tiles → counted_within nodes top ≡ length (points_within tiles top)
counted-within files [] [] top has = refl
counted-within files [] (t ∷ tiles) top has = absurd has
counted-within files (n ∷ nodes) [] top has = absurd has
counted-within files (n ∷ nodes) (t ∷ tiles) top has =
    by_test (is_within top n.0) (is_within top t.key) (ap (λ (k : VoxelKey). is_within top k) (sym has.0.0)) (counted-within files nodes tiles top has.1)
  where
    inside : List Node
    inside = filter (λ (m : Node). is_within top m.0) nodes

    parts : List Tile
    parts = filter (λ (u : Tile). is_within top u.key) tiles

    by_test : (a b : Bool) → a ≡ b → count_of inside ≡ length (points_in parts) → count_of (cond a (n ∷ inside) inside) ≡ length (points_in (cond b (t ∷ parts) parts))
    by_test true true same rest = (
        let first = sum_by-cons (λ (m : Node). m.1) n inside in
        let size = length-append t.points (points_in parts) in
        let counted = has.0.1.form.counted in
        omega (arith, first, size, counted, rest))
    by_test false false same rest = rest
    by_test true false same rest = absurd (cc)
    by_test false true same rest = absurd (cc)

pub counted-all : (files : Files) (nodes : List Node) (tiles : List Tile) → HasTilesOf files nodes tiles → count_of nodes ≡ length (points_in tiles)
counted-all files [] [] has = refl
counted-all files [] (t ∷ tiles) has = absurd has
counted-all files (n ∷ nodes) [] has = absurd has
counted-all files (n ∷ nodes) (t ∷ tiles) has =
    let first = sum_by-cons (λ (m : Node). m.1) n nodes in
    let size = length-append t.points (points_in tiles) in
    let counted = has.0.1.form.counted in
    let rest = counted-all files nodes tiles has.1 in
    omega (arith, first, size, counted, rest)
