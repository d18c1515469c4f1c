-- What it means for nodes to be fit. Each statement is a clause of a function of `laws`.
use Rattle.std.specs.Prelude.{◌≡◌, List}
use Rattle.ept_point.specs.declared.point.Point.{Point}
use Rattle.ept_space.specs.declared.cube.Rules.{Rules}
use Rattle.ept_sample.specs.declared.tiles.Tile.{Tile}
use Rattle.ept_sample.specs.Nodes.{sampled}
use Rattle.ept_sample.specs.SamplingLaws.{CanBeSampled}
use Rattle.ept_fit.specs.Fit.{points_in, AreFit}

-- nodes that are fit are the sampling of their points, and these can be sampled
abbrev pub FitIsSampled : Type 0
FitIsSampled =
    (rules : Rules) (nodes : List Tile) → AreFit rules nodes → CanBeSampled rules (points_in nodes) × (nodes ≡ sampled rules (points_in nodes))

-- the nodes of each sampling are fit
abbrev pub SampledIsFit : Type 0
SampledIsFit =
    (rules : Rules) (points : List Point) → CanBeSampled rules points → AreFit rules (sampled rules points)
