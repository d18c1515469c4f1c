use Rattle.std.proofs.Common.{List, take}
use Rattle.std.specs.List.{AllZip}
use Rattle.ept_point.specs.declared.point.Point.{Point}
use Rattle.ept_config.specs.Extents.{HasExtent}
use Rattle.ept_config.specs.Counts.{IsCountOf}
use Rattle.ept_scan.specs.Scans.{in_order}
use Rattle.ept_scan.proofs.first_reading.whole_extent.Given as goal

abbrev pub invariant-loop-count : goal.invariant-loop-count
invariant-loop-count l = (lists : List (List Point)) → AllZip IsCountOf lists l.counts → HasExtent (in_order (take l.count-index lists)) l.extent
