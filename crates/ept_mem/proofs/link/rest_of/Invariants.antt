use Rattle.std.proofs.Common.{◌≡◌, drop}
use Rattle.ept_mem.specs.Cut.{rest_of_piece}
use Rattle.ept_mem.proofs.link.rest_of.Given as goal

abbrev pub invariant-loop-piece : goal.invariant-loop-piece
invariant-loop-piece l = rest_of_piece (drop l.piece-index l.pieces) l.behind ≡ rest_of_piece l.pieces l.place
