use Rattle.std.proofs.Common.{arith}
use Rattle.ept_space.proofs.Cells.{InCell-cell_at, cell_at-unique, cell_at-same, same_cell-cell_at, same_cell-coarser, key_at-same_cell, octant_at-same_cell, distance_at-small}
use Rattle.ept_space.proofs.laws.cell_law.Goals as goal

pub returns-clause-has_cell : goal.returns-clause-has_cell
returns-clause-has_cell c = InCell-cell_at

pub returns-clause-has_one_cell : goal.returns-clause-has_one_cell
returns-clause-has_one_cell c = cell_at-unique

pub returns-clause-same_cell : goal.returns-clause-same_cell
returns-clause-same_cell c = λ cube depth p q. (cell_at-same cube depth p q, same_cell-cell_at cube depth p q)

pub returns-clause-nest : goal.returns-clause-nest
returns-clause-nest c = same_cell-coarser

pub returns-clause-in_one_box : goal.returns-clause-in_one_box
returns-clause-in_one_box c = λ cube upper lower p q order. key_at-same_cell cube upper lower p q (omega arith)

pub returns-clause-in_one_octant : goal.returns-clause-in_one_octant
returns-clause-in_one_octant c = λ cube upper lower p q h order.
    octant_at-same_cell cube upper lower p q h.span_low order

pub returns-clause-small : goal.returns-clause-small
returns-clause-small c = distance_at-small
