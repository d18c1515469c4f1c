-- What holds of the lines that describe an octree's nodes. Each statement follows from the contract of a function of `laws`.
use Rattle.std.specs.Prelude.{List, length, map, All}
use Rattle.ept_space.specs.VoxelKey.{IsKey}
use Rattle.ept_ckpt.specs.declared.node_line.NodeLine.{NodeLine}
use Rattle.ept_ckpt.specs.declared.checkpoint.Checkpoint.{Checkpoint}
use Rattle.ept_ckpt.specs.Octree.{AreWholeOctree, AreNodesOf}
use Rattle.ept_save.specs.Current.{Current}
use Rattle.ept_table.specs.Octree.{Branch, entry_of, points_in, AreWhole, KeepsNodes}
use Rattle.ept_octree_ckpt.specs.Lines.{TellNodes}
use Rattle.ept_octree_ckpt.specs.Loaded.{OfCurrent}
use Rattle.ept_octree_ckpt.specs.Saving.{HasEachNodeOf}

-- the keys of lines are keys
abbrev pub HaveKeys : List NodeLine → Type 0
HaveKeys lines = All (λ (line : NodeLine). IsKey line.key) lines

-- lines that describe the nodes of a whole octree are those of a checkpoint of its points
abbrev pub WholeIsTold : Type 0
WholeIsTold =
    (nodes : List Branch) (lines : List NodeLine) → TellNodes nodes lines → AreWhole (map entry_of nodes) → AreNodesOf (length (points_in nodes)) lines

-- and nodes that a checkpoint's lines describe are a whole octree
abbrev pub ToldIsWhole : Type 0
ToldIsWhole =
    (nodes : List Branch) (lines : List NodeLine) → TellNodes nodes lines → HaveKeys lines → AreWholeOctree lines → AreWhole (map entry_of nodes)

-- of nodes that the current checkpoint's lines describe, each is among those that keep them
abbrev pub KeptIsEach : Type 0
KeptIsEach =
    (current : Current) (old new : List Branch) → OfCurrent current (λ (c : Checkpoint). TellNodes old c.nodes) → KeepsNodes (map entry_of old) (map entry_of new) → HasEachNodeOf current new
