-- What holds of nodes and of the lines that name their tiles. Each statement follows from the contract of a function of `laws`.
use Rattle.std.specs.Prelude.{List}
use Rattle.std.specs.List.{AllZip}
use Rattle.ept_base.specs.Files.{Files}
use Rattle.ept_point.specs.declared.layout.Layout.{Layout}
use Rattle.ept_point.specs.declared.point.Point.{Point}
use Rattle.ept_space.specs.declared.cube.Rules.{Rules}
use Rattle.ept_sample.specs.Nodes.{sampled}
use Rattle.ept_sample.specs.SamplingLaws.{CanBeSampled}
use Rattle.ept_ckpt.specs.declared.node_line.NodeLine.{NodeLine}
use Rattle.ept_ckpt.specs.Octree.{AreWholeOctree}
use Rattle.ept_save.specs.Sound.{IsSavedAs}
use Rattle.ept_table.specs.Octree.{Branch, AreSampled}
use Rattle.ept_octree_ckpt.specs.Lines.{TellNodes, NameTiles}

-- nodes that the lines of some points' sampling describe, with the tiles that they name, are those of the sampling
abbrev pub LoadedIsSampled : Type 0
LoadedIsSampled =
    (layout : Layout) (rules : Rules) (files : Files) (points : List Point) (nodes : List Branch) (lines : List NodeLine) → CanBeSampled rules points → TellNodes nodes lines → NameTiles layout files nodes lines → AreWholeOctree lines → AllZip (IsSavedAs layout files) (sampled rules points) lines → AreSampled rules points nodes

-- and lines that describe the nodes of some points' sampling, and name their tiles, are those of the sampling
abbrev pub SampledIsSaved : Type 0
SampledIsSaved =
    (layout : Layout) (rules : Rules) (files : Files) (points : List Point) (nodes : List Branch) (lines : List NodeLine) → AreSampled rules points nodes → TellNodes nodes lines → NameTiles layout files nodes lines → AllZip (IsSavedAs layout files) (sampled rules points) lines
