use Rattle.std.proofs.Common.{length}
use Rattle.ept_filter.proofs.Commas.{words_of}
use Rattle.ept_filter.proofs.DimLists.{HasRead}
use Rattle.ept_filter.proofs.reading.read_dim_list.Given as goal

abbrev pub invariant-loop-rest : goal.invariant-loop-rest
invariant-loop-rest l = HasRead l.text (words_of l.rest) l.rows l.len

abbrev pub decreases-loop-rest : goal.decreases-loop-rest
decreases-loop-rest l = length (words_of l.rest)
