-- What the first reading of a file finds.
use Rattle.std.specs.Prelude.{◌≡◌, ℕ, ◌≤◌, List, Option, length, All}
use Rattle.ept_base.specs.Files.{Tells}
use Rattle.ept_point.specs.declared.point.Point.{Point}
use Rattle.ept_space.specs.declared.bounds.Bounds.{Bounds}
use Rattle.ept_las.specs.declared.header.Header.{Header}
use Rattle.ept_config.specs.declared.source_count.SourceCount.{SourceCount}
use Rattle.ept_scan.specs.declared.reading.Reading.{Reading}
use Rattle.ept_config.specs.Extents.{HasExtent}
use Rattle.ept_config.specs.Counts.{IsCountOf, most_points}
use Rattle.ept_scan.specs.Extents.{IsAllowed}
use Rattle.ept_scan.specs.LasFile.{AreFirstPoints}

-- The extent of the records that the header states was found. It is the extent of their points, which lie where points
-- may lie.
pub record FindsExtent (reading : Reading) (header : Header) (records : Option (List ℕ))
    (extent : Option Bounds) : Type 0 where
  pub points : List Point
  pub count : length points ≡ header.points
  pub allowed : All (IsAllowed reading.limits) points
  pub has_extent : HasExtent points extent
  pub are : Tells (λ bytes. AreFirstPoints reading header bytes header.points points) records

-- The number and the extent of points that were found. They lie where points may lie, and `Are` is known of them.
pub record FindsCount (limits : Option Bounds) (Are : List Point → Type 0)
    (count : SourceCount) : Type 0 where
  pub points : List Point
  pub is_count : IsCountOf points count
  pub few : length points ≤ most_points
  pub allowed : All (IsAllowed limits) points
  pub are : Are points
