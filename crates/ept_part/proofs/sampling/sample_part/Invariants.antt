use Rattle.std.proofs.Common.{◌+◌, ◌≤◌, List}
use Rattle.ept_point.specs.declared.point.Point.{Point}
use Rattle.ept_grid.specs.Mask.{opened}
use Rattle.ept_part.specs.Sampling.{IsAhead, IsGrown, IsToGive, IsBetween}
use Rattle.ept_part.proofs.sampling.sample_part.Given as goal

abbrev pub invariant-loop-to_come : goal.invariant-loop-to_come
invariant-loop-to_come g l =
    let whole = g.S.Source.whole in
    record {
      ahead : IsAhead whole g.S.Source.left g.S.Source.given g.S.Source.faults l.rules l.to_come l.reader;
      grown : IsGrown l.rules l.most l.inserted l.tree;
      fits : l.inserted + l.to_come ≤ l.points;
      between : (all : List Point) → IsToGive whole l.rules l.points l.initial.reader all → IsBetween whole l.rules (opened l.octants) all l.to_come l.reader l.tree;
    }

abbrev pub decreases-loop-to_come : goal.decreases-loop-to_come
decreases-loop-to_come g l = l.to_come
