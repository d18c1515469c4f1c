use Rattle.ept_point.proofs.PackedLaws.{pieces_of_packed, reads_of_packed}
use Rattle.ept_point.proofs.laws.layout_law.Goals as goal

pub returns-clause-pieces : goal.returns-clause-pieces
returns-clause-pieces c = pieces_of_packed

pub returns-clause-read : goal.returns-clause-read
returns-clause-read c = reads_of_packed
