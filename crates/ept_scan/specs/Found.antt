-- What a scan of several inputs finds, whatever the sources make visible.
use Rattle.std.specs.Prelude.{◌≡◌, ℕ, ◌+◌, ◌≤◌, List, Option, Some, None, length, All}
use Rattle.std.specs.List.{AllZip}
use Rattle.ept_base.specs.Files.{Files, Tells}
use Rattle.ept_point.specs.declared.point.Point.{Point}
use Rattle.ept_space.specs.declared.bounds.Bounds.{Bounds}
use Rattle.ept_config.specs.declared.input.Input.{Input}
use Rattle.ept_config.specs.declared.source_count.SourceCount.{SourceCount}
use Rattle.ept_scan.specs.Extents.{IsAllowed}
use Rattle.ept_config.specs.Counts.{IsCountOf, most_points}
use Rattle.ept_scan.specs.Scans.{ArePointsFrom}

-- where points may lie: within the bounds that were kept, or if there are none within the given ones
abbrev pub limits_of : Option Bounds → Option Bounds → Option Bounds
limits_of None given = given
limits_of (Some kept) given = Some kept

-- The points that were found in the inputs from one up to another, a list for each, with their counts.
pub record FindsLists (files : Option Files) (scale : ℕ) (limits : Option Bounds)
    (inputs : List Input) (from end : ℕ) (counts : List SourceCount) : Type 0 where
  pub lists : List (List Point)
  pub size : from + length lists ≡ end
  pub counts_are : AllZip IsCountOf lists counts
  pub few : All (λ points. length points ≤ most_points) lists
  pub allowed : All (All (IsAllowed limits)) lists
  pub are : Tells (λ all. ArePointsFrom all scale limits inputs from end lists) files
