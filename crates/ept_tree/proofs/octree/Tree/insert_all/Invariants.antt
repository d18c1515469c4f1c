use Rattle.std.proofs.Common.{◌≡◌, ◌≤◌, List, ◌++◌, drop, length, Bool, count_by, ◌+◌}
use Rattle.ept_point.specs.declared.point.Point.{Point}
use Rattle.ept_tree.specs.Grown.{IsAtRest, GrowsWhole, HasTaken}
use Rattle.ept_table.specs.Octree.{points_in}
use Rattle.ept_tree.proofs.octree.Tree.insert_all.Given as goal

abbrev pub invariant-loop-point : goal.invariant-loop-point
invariant-loop-point l = record {
  rules : l.self.rules ≡ l.initial.self.rules;
  rest : IsAtRest l.self;
  few : length l.self.nodes.entries ≤ l.most;
  together : (test : Point → Bool) → count_by test (points_in l.self.nodes.entries) + count_by test (drop l.point-index l.given) ≡ count_by test l.given + count_by test (points_in l.initial.self.nodes.entries);
  whole : GrowsWhole l.initial.self l.self;
  taken : (points left : List Point) → HasTaken points (l.given ++ left) l.initial.self → HasTaken points (drop l.point-index l.given ++ left) l.self;
}
