use Rattle.std.proofs.Common.{◌≡◌, ◌≤◌, take, drop, Some}
use Rattle.ept_base.specs.Files.{Files, Tells}
use Rattle.ept_base.specs.Moves.{Moves}
use Rattle.ept_node.specs.Shown.{IsTelling}
use Rattle.ept_octree.specs.Octree.{rules_of, most_of, cache_of, nodes_of, IsLinked, IsUnbroken, AgreesWithFiles}
use Rattle.ept_save.specs.Current.{Keeps}
use Rattle.ept_save.specs.View.{StandsFor}
use Rattle.ept_octree_ckpt.specs.Saving.{StillAreSame, PutsChanged}
use Rattle.ept_octree_ckpt.proofs.SavedTo.{IsSavedTo}
use Rattle.ept_octree_ckpt.proofs.saving.save_nodes.Given as goal

abbrev pub invariant-loop-key : goal.invariant-loop-key
invariant-loop-key g l =
    let files = g.T.Store.files in
    let may_leave = g.T.Store.may_leave in
    let held = g.F.SpillFile.held in
    let all = nodes_of held l.fn.octree in
    record {
      far : IsSavedTo (IsTelling held × Tells (StillAreSame l.initial.saved.current all) (files l.initial.store)) l.initial.saved l.saved (take l.key-index all) (drop l.key-index all) (files l.store);
      keeps : Moves files may_leave g.T.Store.moment g.T.Store.image_since (Keeps l.initial.saved.current) l.initial.store l.store;
      only : IsTelling held → (start : Files) → files l.initial.store ≡ Some start → Moves files may_leave g.T.Store.moment g.T.Store.image_since (PutsChanged l.initial.saved.current all start) l.initial.store l.store;
      stands : StandsFor l.initial.saved (files l.initial.store) (may_leave l.initial.store) → StandsFor l.saved (files l.store) (may_leave l.store);
      later : g.T.Store.faults l.initial.store ≤ g.T.Store.faults l.store;
      same : nodes_of held l.octree ≡ all;
      linked : IsLinked held l.fn.octree → IsLinked held l.octree;
      agrees : AgreesWithFiles held g.F.SpillFile.faults g.F.SpillFile.keeps l.octree;
      unbroken : IsUnbroken l.fn.octree → IsUnbroken l.octree;
      rules : rules_of l.octree ≡ rules_of l.fn.octree;
      most : most_of l.octree ≡ most_of l.fn.octree;
      cache : cache_of l.octree ≡ cache_of l.fn.octree;
    }
