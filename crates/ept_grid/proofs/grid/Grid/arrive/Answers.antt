use Rattle.std.proofs.Common.{◌≡◌, ◌≤◌, ◌<◌, ◌+◌, [], ◌∷◌, ℕ, false, List, map, sym, ap, subst, refl, arith, length, count_by, vec_len, vec_capacity}
use Rattle.ept_point.specs.declared.point.Point.{Point}
use Rattle.ept_space.specs.declared.cube.Rules.{Rules}
use Rattle.ept_space.specs.VoxelKey.{VoxelKey}
use Rattle.ept_space.proofs.PlaceKeys.{octant_at-below}
use Rattle.ept_grid.specs.declared.pool.Cell.{Cell}
use Rattle.ept_sample.specs.Place.{place}
use Rattle.ept_sample.specs.Arrivals.{octant}
use Rattle.ept_sample.specs.Ids.{HasDistinctIds, in_id_order}
use Rattle.ept_grid.specs.Mask.{opened}
use Rattle.ept_grid.specs.Node.{Node, SendsOn, TakesIn, HasRoomFor}
use Rattle.ept_grid.specs.Outgoing.{Leaving, leaving_at, points_at, all_points}
use Rattle.ept_grid.specs.Settling.{winners}
use Rattle.ept_grid.specs.Contents.{contents, cell_room, lane_of, AreFew}
use Rattle.ept_grid.proofs.Taken.{taken-together, taken-sends_on, taken-takes_in}
use Rattle.ept_grid.proofs.Keeping.{room-cell}
use Rattle.ept_grid.proofs.Room.{one-place, room-after}
use Rattle.ept_grid.proofs.grid.Grid.arrive.Goals as goal

-- a node as it is seen
abbrev node_of : VoxelKey → Rules → List Cell → ℕ → ℕ → List Leaving → ℕ → Node
node_of key rules cells capacity len losers mask = record {
  key = key;
  rules = rules;
  points = in_id_order (contents (winners cells) losers);
  mask = mask;
  room = record { cells = cell_room capacity len; lanes = map lane_of losers };
}

-- room that is seen from outside
cells_room : (seen now : Node) → seen ≡ now → 1 ≤ now.room.cells → 0 < seen.room.cells
cells_room seen now e h = omega (arith, ap (λ (w : Node). w.room.cells) e, h)

pub take_in-self-inside-requires-clause-room : goal.take_in-self-inside-requires-clause-room
take_in-self-inside-requires-clause-room c =
    (room-cell (vec_capacity c.self.inside.cells) (vec_len c.self.inside.cells) (cells_room _ c.args.self.now c.self.view_is c.requires.room.cells)).0

pub take_in-self-inside-requires-clause-few : goal.take_in-self-inside-requires-clause-few
take_in-self-inside-requires-clause-few c =
    omega (arith, c.self.inside.cells.ok.0, (room-cell (vec_capacity c.self.inside.cells) (vec_len c.self.inside.cells) (cells_room _ c.args.self.now c.self.view_is c.requires.room.cells)).1)

-- the octant of the point has a place
place_in : (seen now : Node) (p : Point) (losers out : List Leaving) → seen ≡ now → seen.room.lanes ≡ map lane_of losers → AreFew seen.rules seen.key.depth seen.mask losers → HasRoomFor now out (p ∷ [])
    → (opened seen.mask (octant seen.rules seen.key.depth p) ≡ false → 0 < (leaving_at losers (octant seen.rules seen.key.depth p)).room) × (length (points_at losers (octant seen.rules seen.key.depth p)) + 1 ≤ (leaving_at out (octant seen.rules seen.key.depth p)).room)
place_in seen now p losers out e lanes few room =
    one-place seen.rules seen.key.depth seen.mask p seen.room.lanes losers out lanes few
    ((subst (λ (n : Node). HasRoomFor n out (p ∷ [])) (sym e) room).places (octant seen.rules seen.key.depth p) (octant_at-below seen.rules.cube seen.key.depth (place p)))

pub take_in-self-inside-requires-clause-place : goal.take_in-self-inside-requires-clause-place
take_in-self-inside-requires-clause-place c =
    (place_in (node_of c.self.inside.key c.self.inside.rules c.self.inside.cells.items (vec_capacity c.self.inside.cells) (vec_len c.self.inside.cells) c.self.inside.losers c.self.inside.mask) c.args.self.now c.args.point c.self.inside.losers c.args.out.now c.self.view_is refl c.self.invariant.few c.requires.room).0

pub take_in-self-inside-requires-clause-list : goal.take_in-self-inside-requires-clause-list
take_in-self-inside-requires-clause-list c =
    (place_in (node_of c.self.inside.key c.self.inside.rules c.self.inside.cells.items (vec_capacity c.self.inside.cells) (vec_len c.self.inside.cells) c.self.inside.losers c.self.inside.mask) c.args.self.now c.args.point c.self.inside.losers c.args.out.now c.self.view_is refl c.self.invariant.few c.requires.room).1

pub returns-clause-together : goal.returns-clause-together
returns-clause-together c =
    λ test. subst (λ (n : Node). count_by test (in_id_order (contents (winners c.take_in-self-inside.new.cells.items) c.take_in-self-inside.new.losers)) + count_by test (all_points c.take_in-self-inside.new.out) ≡ count_by test (c.args.point ∷ n.points) + count_by test (all_points c.args.out.now)) c.self.view_is (taken-together test _ _ _ _ c.args.point _ _ _ _ _ _ c.take_in-self-inside.ensures.taken)

pub returns-clause-sends_on : goal.returns-clause-sends_on
returns-clause-sends_on c =
    let old : Node = node_of c.self.inside.key c.self.inside.rules c.self.inside.cells.items (vec_capacity c.self.inside.cells) (vec_len c.self.inside.cells) c.self.inside.losers c.self.inside.mask in
    let new : Node = node_of c.self.inside.key c.self.inside.rules c.take_in-self-inside.new.cells.items (vec_capacity c.take_in-self-inside.new.cells) (vec_len c.take_in-self-inside.new.cells) c.take_in-self-inside.new.losers c.take_in-self-inside.result in
    λ o h. subst (λ (n : Node). SendsOn n new o (points_at c.args.out.now o) (points_at c.take_in-self-inside.new.out o)) c.self.view_is (taken-sends_on old new c.args.point _ _ _ _ _ _ c.self.invariant.low c.self.invariant.deepest c.take_in-self-inside.ensures.taken o h)

pub returns-clause-room : goal.returns-clause-room
returns-clause-room c =
    let old : Node = node_of c.self.inside.key c.self.inside.rules c.self.inside.cells.items (vec_capacity c.self.inside.cells) (vec_len c.self.inside.cells) c.self.inside.losers c.self.inside.mask in
    let new : Node = node_of c.self.inside.key c.self.inside.rules c.take_in-self-inside.new.cells.items (vec_capacity c.take_in-self-inside.new.cells) (vec_len c.take_in-self-inside.new.cells) c.take_in-self-inside.new.losers c.take_in-self-inside.result in
    λ later. subst (λ (n : Node). HasRoomFor n c.args.out.now (c.args.point ∷ later) → HasRoomFor new c.take_in-self-inside.new.out later) c.self.view_is
    (room-after old new c.args.point _ _ _ _ _ _ refl refl refl refl (omega (arith, c.take_in-self-inside.ensures.room, c.take_in-self-inside.ensures.grows)) c.self.invariant.few c.take_in-self-inside.ensures.taken later)

pub returns-clause-takes_in : goal.returns-clause-takes_in
returns-clause-takes_in c =
    let old : Node = node_of c.self.inside.key c.self.inside.rules c.self.inside.cells.items (vec_capacity c.self.inside.cells) (vec_len c.self.inside.cells) c.self.inside.losers c.self.inside.mask in
    let new : Node = node_of c.self.inside.key c.self.inside.rules c.take_in-self-inside.new.cells.items (vec_capacity c.take_in-self-inside.new.cells) (vec_len c.take_in-self-inside.new.cells) c.take_in-self-inside.new.losers c.take_in-self-inside.result in
    subst (λ (n : Node). HasDistinctIds (c.args.point ∷ n.points) → TakesIn n new c.args.point c.args.out.now c.take_in-self-inside.new.out) c.self.view_is (λ once. taken-takes_in old new c.args.point _ _ _ _ _ _ refl refl c.take_in-self-inside.ensures.taken once)
