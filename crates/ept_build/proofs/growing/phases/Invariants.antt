use Rattle.std.proofs.Common.{◌≡◌, ◌⊎◌, ◌≤◌, ◌+◌, ◌-◌, ℕ, List, length}
use Rattle.ept_base.specs.Files.{Files}
use Rattle.ept_base.specs.Moves.{IsSettled, Moves}
use Rattle.ept_point.specs.declared.point.Point.{Point}
use Rattle.ept_sample.specs.SamplingLaws.{CanBeSampled}
use Rattle.ept_node.specs.Shown.{IsTelling}
use Rattle.ept_octree.specs.Octree.{most_of, cache_of}
use Rattle.ept_meta.specs.Output.{File, rules_of}
use Rattle.ept_plan.specs.Plans.{IsOf, inputs_by, inserted_by}
use Rattle.ept_build.specs.Phases.{IsTreeOf, ReadsRest, HasInserted, IsSoundUndone, AreOfShelf, IsOnWay}
use Rattle.ept_save.specs.View.{StandsFor}
use Rattle.ept_build.specs.Reached.{IsAfter, HasGone}
use Rattle.ept_build.proofs.Counting.{NoFewer}
use Rattle.ept_build.proofs.growing.phases.Given as goal

abbrev pub invariant-loop-alloc : goal.invariant-loop-alloc
invariant-loop-alloc g l = record {
  tree : IsTreeOf g.F.SpillFile.held g.F.SpillFile.faults g.F.SpillFile.keeps l.plan l.at.inserted l.at.octree l.at.saved;
  most : most_of l.at.octree ≡ most_of l.initial.at.octree;
  cache : cache_of l.at.octree ≡ cache_of l.initial.at.octree;
  reads : ReadsRest g.S.Source.whole g.S.Source.left g.S.Source.given g.S.Source.faults l.plan l.at.inserted l.reader;
  same : inputs_by l.at.saved.current ≡ length l.plan.kept.inputs → IsOf l.plan l.at.saved.current;
  later : g.T.Store.faults l.initial.store ≤ g.T.Store.faults l.store;
  has : (points : List Point) → CanBeSampled (rules_of l.plan.kept) points → HasInserted g.F.SpillFile.held g.S.Source.whole l.plan points l.initial.at.inserted l.initial.reader l.initial.at.octree → HasInserted g.F.SpillFile.held g.S.Source.whole l.plan points l.at.inserted l.reader l.at.octree;
  way : (shelf : Files) (points : List Point) (output : List File) → AreOfShelf shelf l.plan points output → HasInserted g.F.SpillFile.held g.S.Source.whole l.plan points l.initial.at.inserted l.initial.reader l.initial.at.octree
      → IsOnWay shelf points output l.initial.at.saved (g.T.Store.files l.initial.store) (g.T.Store.may_leave l.initial.store) → IsOnWay shelf points output l.at.saved (g.T.Store.files l.store) (g.T.Store.may_leave l.store);
  moves : (shelf : Files) (points : List Point) (output : List File) → AreOfShelf shelf l.plan points output → HasInserted g.F.SpillFile.held g.S.Source.whole l.plan points l.initial.at.inserted l.initial.reader l.initial.at.octree
      → IsOnWay shelf points output l.initial.at.saved (g.T.Store.files l.initial.store) (g.T.Store.may_leave l.initial.store) → Moves g.T.Store.files g.T.Store.may_leave g.T.Store.moment g.T.Store.image_since (λ (a b : Files). IsSoundUndone shelf b) l.initial.store l.store;
  phases : ℕ;
  after : IsAfter l.initial.at.saved.current l.plan.kept l.step l.plan.points phases l.at.saved.current;
  begun : (phases ≡ 0) ⊎ IsOf l.plan l.at.saved.current;
  fewest : NoFewer (l.plan.points - inserted_by l.initial.at.saved.current) (length l.plan.kept.inputs - inputs_by l.initial.at.saved.current) l.step phases;
  stands : StandsFor l.initial.at.saved (g.T.Store.files l.initial.store) (g.T.Store.may_leave l.initial.store) → StandsFor l.at.saved (g.T.Store.files l.store) (g.T.Store.may_leave l.store);
  settled : IsSettled (g.T.Store.files l.initial.store) (g.T.Store.may_leave l.initial.store) → IsSettled (g.T.Store.files l.store) (g.T.Store.may_leave l.store);
  reached : IsTelling g.F.SpillFile.held → StandsFor l.initial.at.saved (g.T.Store.files l.initial.store) (g.T.Store.may_leave l.initial.store)
      → Moves g.T.Store.files g.T.Store.may_leave g.T.Store.moment g.T.Store.image_since (λ (a b : Files). HasGone l.initial.at.saved.current l.plan.kept l.step l.plan.points b) l.initial.store l.store;
}

abbrev pub decreases-loop-alloc : goal.decreases-loop-alloc
decreases-loop-alloc g l = (l.plan.points + length l.plan.kept.inputs) - (inserted_by l.at.saved.current + inputs_by l.at.saved.current)
