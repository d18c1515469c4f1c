use Rattle.ept_work.proofs.inserting.+fn-work_all-join+arg2+fn-work_all-join+arg3+work_all.Given as goal

abbrev pub decreases-join+arg2 : goal.decreases-join+arg2
decreases-join+arg2 g l = l.lower

abbrev pub decreases-join+arg3 : goal.decreases-join+arg3
decreases-join+arg3 g l = l.higher

abbrev pub decreases-work_all : goal.decreases-work_all
decreases-work_all g l = l.workers
