-- What a query looks for in an octree.
use Rattle.std.specs.Prelude.{ℕ, ◌≤◌}
use Rattle.ept_space.specs.declared.box3.Box3.{Box3}
use Rattle.ept_space.specs.declared.cube.Rules.{Rules}
use Rattle.ept_space.specs.Place.{Place}
use Rattle.ept_space.specs.VoxelKey.{VoxelKey}
use Rattle.ept_space.specs.OctreeCube.{InBox}
use Rattle.ept_space.specs.CubeOfBounds.{cube_of}
use Rattle.ept_space.specs.ClosedBox.{IsIn}
use Rattle.ept_config.specs.declared.kept.Kept.{Kept}
use Rattle.ept_query.specs.declared.search.Search.{Search}

-- the points of an area, in the nodes from one depth to another of the octree of a dataset
abbrev pub search_of : Kept → Box3 → ℕ → ℕ → Search
search_of kept area first last = record {
  cube = cube_of kept.bounds kept.s kept.max_depth;
  threshold = kept.threshold;
  first_classes = kept.first;
  withheld_last = kept.withheld_last;
  step = kept.step;
  area = area;
  first = first;
  last = last;
}

-- the rules of that octree
abbrev pub rules_in : Search → Rules
rules_in search = record {
  cube = search.cube;
  threshold = search.threshold;
  first = search.first_classes;
  withheld_last = search.withheld_last;
}

-- the box of a key has a place in the area
abbrev pub MeetsArea : Search → VoxelKey → Type 0
MeetsArea search key = (at : Place) × InBox search.cube key at × IsIn search.area at

-- the depth of a key is one of those that are asked for
abbrev pub HasDepth : Search → VoxelKey → Type 0
HasDepth search key = (search.first ≤ key.depth) × (key.depth ≤ search.last)
