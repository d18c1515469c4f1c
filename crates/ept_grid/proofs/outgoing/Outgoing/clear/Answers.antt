use Rattle.std.proofs.Common.{subst, arith, List}
use Rattle.ept_grid.specs.Outgoing.{Leaving}
use Rattle.ept_grid.specs.Node.{HasRoomFor}
use Rattle.ept_grid.proofs.Leavings.{all-none}
use Rattle.ept_grid.proofs.Room.{room-more}
use Rattle.ept_grid.proofs.outgoing.Outgoing.clear.Goals as goal

pub returns-clause-all : goal.returns-clause-all
returns-clause-all c = all-none c.loop-lane.lane-items (λ o h. c.loop-lane.invariant.cleared o (omega arith))

pub returns-clause-room : goal.returns-clause-room
returns-clause-room c =
    λ node points. subst (λ (w : List Leaving). HasRoomFor node w points → HasRoomFor node c.loop-lane.lane-items points) c.self.view_is (room-more node c.self.inside.lanes c.loop-lane.lane-items points (λ o. c.loop-lane.invariant.room o))
