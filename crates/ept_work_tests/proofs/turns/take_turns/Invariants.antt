use Rattle.ept_work_tests.specs.Hands.{IsPair}
use Rattle.ept_work_tests.proofs.turns.take_turns.Given as goal

abbrev pub invariant-loop-is_first : goal.invariant-loop-is_first
invariant-loop-is_first g l = IsPair g.F.SpillFile.held g.S.Source.whole g.J.Scan.told l.table l.pair
