use Rattle.std.proofs.Common.{◌≡◌, ◌≤◌, take}
use Rattle.ept_base.specs.Files.{SameFiles, Tells}
use Rattle.ept_base.specs.Moves.{Moves, SameImages}
use Rattle.ept_ckpt.specs.Versions.{layout_of}
use Rattle.ept_node.specs.Shown.{IsTelling}
use Rattle.ept_octree.specs.Octree.{rules_of, most_of, cache_of, nodes_of, IsUnbroken, AgreesWithFiles}
use Rattle.ept_octree_ckpt.proofs.LoadedNodes.{AreLoaded, HasPlace}
use Rattle.ept_octree_ckpt.specs.Loaded.{AreIntact}
use Rattle.ept_octree_ckpt.proofs.loading.add_nodes.Given as goal

abbrev pub invariant-loop-line : goal.invariant-loop-line
invariant-loop-line g l =
    let held = g.F.SpillFile.held in
    record {
      moves : Moves g.T.Store.files g.T.Store.may_leave g.T.Store.moment g.T.Store.image_since SameFiles l.initial.store l.store;
      images : SameImages (g.T.Store.may_leave l.initial.store) (g.T.Store.may_leave l.store);
      later : g.T.Store.faults l.initial.store ≤ g.T.Store.faults l.store;
      rules : rules_of l.octree ≡ rules_of l.initial.octree;
      most : most_of l.octree ≡ most_of l.initial.octree;
      cache : cache_of l.octree ≡ cache_of l.initial.octree;
      agrees : AgreesWithFiles held g.F.SpillFile.faults g.F.SpillFile.keeps l.octree;
      unbroken : IsUnbroken l.octree;
      few : l.line-index ≤ most_of l.initial.octree;
      place : HasPlace l.line-index l.octree;
      far : AreLoaded (IsTelling held) (layout_of l.checkpoint.version) (rules_of l.initial.octree) (take l.line-index l.line-items) (nodes_of held l.octree) (g.T.Store.files l.initial.store);
      intact : Tells (AreIntact l.saved.current (take l.line-index l.line-items)) (g.T.Store.files l.initial.store);
    }
