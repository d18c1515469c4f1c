-- What the inputs of a configuration are, as a scan finds them.
use Rattle.std.specs.Prelude.{List}
use Rattle.ept_base.specs.Files.{Files}
use Rattle.ept_point.specs.declared.point.Point.{Point}
use Rattle.ept_space.specs.declared.cube.Rules.{Rules}
use Rattle.ept_space.specs.CubeOfBounds.{cube_of}
use Rattle.ept_config.specs.declared.config.Config.{Config}
use Rattle.ept_scan.specs.declared.scan_done.ScanDone.{ScanDone}
use Rattle.ept_scan.specs.declared.scan_error.ScanError.{ScanError}
use Rattle.ept_scan.specs.Scans.{IsScan, ScanIsRefused}
use Rattle.ept_ckpt.specs.declared.checkpoint.Checkpoint.{Checkpoint}

-- the inputs have these points, with what was found of them
abbrev pub IsScanOf : Files → Config → List Point → ScanDone → Type 0
IsScanOf shelf config points done = IsScan shelf config.scale config.bounds config.inputs 0 points done

-- they are refused for this cause
abbrev pub AreRefused : Files → Config → ScanError → Type 0
AreRefused shelf config e = ScanIsRefused shelf config.scale config.bounds config.inputs 0 e

-- the rules of the sampling within the bounds that were found
abbrev pub rules_by : Config → ScanDone → Rules
rules_by config done = record { cube = cube_of done.bounds config.s config.max_depth; threshold = config.threshold; first = config.first; withheld_last = config.withheld_last }

-- what a body states of the inputs
abbrev pub found_by : Checkpoint → ScanDone
found_by c = record { counts = c.counts; bounds = c.kept.bounds }

-- the inputs have points and bounds, of which this holds
abbrev pub OfScan : Files → Config → (List Point → ScanDone → Type 0) → Type 0
OfScan shelf config fact = (points : List Point) × (done : ScanDone) × IsScanOf shelf config points done × fact points done
