use Rattle.std.proofs.Common.{◌≡◌, List, [], ◌∷◌, Bool, count_by, ◌+◌}
use Rattle.ept_point.specs.declared.point.Point.{Point}
use Rattle.ept_table.specs.Octree.{points_in}
use Rattle.ept_tree.specs.Tree.{IsTree, ArePlaced, AreAtDepth, on_the_way}
use Rattle.ept_tree.specs.Whole.{StaysWhole}
use Rattle.ept_tree.specs.Grown.{IsAtRest}
use Rattle.ept_tree.proofs.octree.Tree.insert.Given as goal

abbrev pub invariant-loop-depth : goal.invariant-loop-depth
invariant-loop-depth l = record {
  rules : l.self.rules ≡ l.initial.self.rules;
  rest : IsAtRest l.self;
  placed : ArePlaced l.initial.self.rules l.arrivals.items;
  at : AreAtDepth l._depth l.arrivals.items;
  together : (test : Point → Bool) → count_by test (points_in l.self.nodes.entries) + count_by test (on_the_way l.arrivals.items) ≡ count_by test (l.fn.point ∷ points_in l.initial.self.nodes.entries);
  whole : StaysWhole [] l.initial.self.nodes.entries l.arrivals.items l.self.nodes.entries;
  becomes : (points left : List Point) → IsTree l.initial.self.rules points (l.fn.point ∷ left) [] l.initial.self.nodes.entries → IsTree l.initial.self.rules points left l.arrivals.items l.self.nodes.entries;
}
