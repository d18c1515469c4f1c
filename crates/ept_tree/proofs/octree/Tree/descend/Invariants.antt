use Rattle.std.proofs.Common.{◌≡◌, ℕ, ◌+◌, ◌++◌, drop, Bool, count_by}
use Rattle.ept_table.specs.Octree.{points_in}
use Rattle.ept_tree.specs.Tree.{ArePlaced, Becomes, AreAtDepth, on_the_way}
use Rattle.ept_tree.specs.Whole.{StaysWhole}
use Rattle.ept_tree.specs.Grown.{IsAtRest}
use Rattle.ept_point.specs.declared.point.Point.{Point}
use Rattle.ept_tree.proofs.octree.Tree.descend.Given as goal

abbrev pub invariant-loop-arrival : goal.invariant-loop-arrival
invariant-loop-arrival l = record {
  rules : l.self.rules ≡ l.initial.self.rules;
  rest : IsAtRest l.self;
  placed : ArePlaced l.initial.self.rules l.next.items;
  deeper : (depth : ℕ) → AreAtDepth depth l.arrivals → AreAtDepth (depth + 1) l.next.items;
  together : (test : Point → Bool) → count_by test (points_in l.self.nodes.entries) + count_by test (on_the_way l.next.items) + count_by test (on_the_way (drop l.arrival-index l.arrivals)) ≡ count_by test (on_the_way l.arrivals) + count_by test (points_in l.initial.self.nodes.entries);
  whole : StaysWhole l.arrivals l.initial.self.nodes.entries (drop l.arrival-index l.arrivals ++ l.next.items) l.self.nodes.entries;
  becomes : Becomes l.initial.self.rules l.arrivals l.initial.self.nodes.entries (drop l.arrival-index l.arrivals ++ l.next.items) l.self.nodes.entries;
}
