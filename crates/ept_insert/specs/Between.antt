-- An octree and a reader in the middle of a scan.
use Rattle.std.specs.Prelude.{ℕ, List, ◌++◌, Option}
use Rattle.std.specs.List.{All}
use Rattle.ept_point.specs.declared.point.Point.{Point}
use Rattle.ept_sample.specs.SamplingLaws.{CanBeSampled}
use Rattle.ept_scan.specs.declared.second_reading.Reader.{Reader}
use Rattle.ept_scan.specs.Reader.{IsRest}
use Rattle.ept_node.specs.Shown.{file_of, DoesTell}
use Rattle.ept_forest.specs.Slots as forest
use Rattle.ept_table.specs.Octree.{AreSampled}
use Rattle.ept_octree.specs.declared.octree.Octree.{Octree}
use Rattle.ept_octree.specs.Octree.{forest_of, rules_of, nodes_of}

-- the contents of each node's spill file are visible
abbrev pub FilesTell : {F : Type 0} → (F → Option (List ℕ)) → Octree F → Type 0
FilesTell held octree = All (λ node. DoesTell held (file_of node)) (forest.nodes_of (forest_of octree))

-- What holds if the sources hold the bytes that were scanned and the contents of the spill files are visible. The
-- octree is the sampling of the first points. The points that are left are the reader's, and all together can be
-- sampled.
pub record StandsBetween {F S : Type 0} (held : F → Option (List ℕ)) (whole : S → Option (List ℕ)) (octree : Octree F) (reader : Reader S) (first left : List Point) : Type 0 where
  pub telling : FilesTell held octree
  pub rest : IsRest whole reader left
  pub can : CanBeSampled (rules_of octree) (first ++ left)
  pub sampled : AreSampled (rules_of octree) first (nodes_of held octree)
