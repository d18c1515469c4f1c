use Rattle.std.proofs.Common.{length}
use Rattle.ept_filter.proofs.Commas.{words_of}
use Rattle.ept_filter.proofs.ClassLists.{HasReadClasses}
use Rattle.ept_filter.proofs.classes.read_class_list.Given as goal

abbrev pub invariant-loop-rest : goal.invariant-loop-rest
invariant-loop-rest l = HasReadClasses l.text (words_of l.rest) l.set l.least

abbrev pub decreases-loop-rest : goal.decreases-loop-rest
decreases-loop-rest l = length (words_of l.rest)
