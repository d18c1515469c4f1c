use Rattle.std.proofs.Common.{◌≡◌}
use Rattle.ept_work_tests.specs.Hands.{IsHand, parts_of}
use Rattle.ept_work_tests.proofs.visits.take_steps.Given as goal

abbrev pub invariant-loop : goal.invariant-loop
invariant-loop g l = record {
  hand : IsHand g.F.SpillFile.held g.S.Source.whole g.J.Scan.told l.table l.hand;
  share : parts_of g.F.SpillFile.held g.S.Source.whole g.J.Scan.told l.hand.worker ≡ parts_of g.F.SpillFile.held g.S.Source.whole g.J.Scan.told l.initial.hand.worker;
}
