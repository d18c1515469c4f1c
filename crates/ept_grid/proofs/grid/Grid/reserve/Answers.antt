use Rattle.std.proofs.Common.{map, refl, sym, subst, vec_len, vec_capacity}
use Rattle.ept_sample.specs.Place.{AllInBox}
use Rattle.ept_sample.specs.Ids.{in_id_order}
use Rattle.ept_grid.specs.Node.{Node}
use Rattle.ept_grid.specs.Settling.{winners}
use Rattle.ept_grid.specs.Contents.{contents, cell_room, lane_of}
use Rattle.ept_grid.proofs.Room.{room-made}
use Rattle.ept_grid.proofs.grid.Grid.reserve.Goals as goal

pub make_room-requires-clause-inside : goal.make_room-requires-clause-inside
make_room-requires-clause-inside c =
    subst (λ (n : Node). AllInBox n.rules.cube n.key c.args.arrivals.now) (sym c.self.view_is) c.requires.inside

pub returns-clause-room : goal.returns-clause-room
returns-clause-room c =
    let new : Node = record {
      key = c.self.inside.key;
      rules = c.self.inside.rules;
      points = in_id_order (contents (winners c.make_room.new.cells.items) c.make_room.new.losers);
      mask = c.self.inside.mask;
      room = record { cells = cell_room (vec_capacity c.make_room.new.cells) (vec_len c.make_room.new.cells); lanes = map lane_of c.make_room.new.losers };
    } in
    room-made c.make_room.result new c.make_room.new.losers c.make_room.new.out c.args.arrivals.now refl c.make_room.ensures.cells_room c.make_room.ensures.lanes
