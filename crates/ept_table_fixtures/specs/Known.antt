-- A reader of which all points are known.
use Rattle.std.specs.Prelude.{◌≡◌, ℕ, List, Option, None, length, All}
use Rattle.ept_space.specs.CubeOfBounds.{IsCubeOf}
use Rattle.ept_sample.specs.SamplingLaws.{CanBeSampled}
use Rattle.ept_config.specs.Counts.{IsCount}
use Rattle.ept_scan.specs.Opening.{IsFileOf}
use Rattle.ept_scan.specs.Reader.{drawn_of, left_of, refusal_of, files_of, IsRest, IsReader}
use Rattle.ept_table_fixtures.specs.declared.known.Known.{Known}

-- The reader has drawn nothing, and its sources hold the points, which can be sampled. Its inputs were counted within
-- the bounds of the rules' cube.
pub record IsKnown {S : Type 0} (whole left : S → Option (List ℕ)) (given faults : S → ℕ) (known : Known S) : Type 0 where
  pub can : CanBeSampled known.rules known.points.items
  pub total : length known.points.items ≡ left_of known.reader
  pub rest : IsRest whole known.reader known.points.items
  pub undrawn : drawn_of known.reader ≡ 0
  pub sound : refusal_of known.reader ≡ None
  pub reader : IsReader whole left given faults known.reader
  pub cube : IsCubeOf known.kept.bounds known.kept.s known.kept.max_depth known.rules.cube
  pub counts : All (IsCount known.kept.bounds) known.counts
  pub files : All (IsFileOf known.kept known.counts) (files_of whole known.reader)
