use Rattle.ept_filter.proofs.Sifted.{selects_points, sifts_points}
use Rattle.ept_filter.proofs.laws.sift_law.Goals as goal

pub returns-clause-selects : goal.returns-clause-selects
returns-clause-selects c = selects_points c.layout_law.ensures.pieces c.packed_length_law.ensures.length

pub returns-clause-sifts : goal.returns-clause-sifts
returns-clause-sifts c = sifts_points c.layout_law.ensures.pieces c.packed_length_law.ensures.length
