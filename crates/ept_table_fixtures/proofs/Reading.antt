-- What is scanned can be read again, as the same number of points.
use Rattle.std.proofs.Common.{◌≡◌, ◌∙◌, ℕ, List, [], ◌∷◌, length, refl, sym, ap, subst, arith, length-append, Option, Some}
use Rattle.std.specs.List.{AllZip}
use Rattle.std.proofs.lemmas.List.Sums.{sum_by-cons}
use Rattle.ept_base.specs.Files.{Files}
use Rattle.ept_point.specs.declared.point.Point.{Point}
use Rattle.ept_space.specs.declared.bounds.Bounds.{Bounds}
use Rattle.ept_config.specs.declared.config.Config.{Config}
use Rattle.ept_config.specs.declared.input.Input.{Input}
use Rattle.ept_config.specs.declared.kept.Kept.{Kept}
use Rattle.ept_config.specs.declared.source_count.SourceCount.{SourceCount}
use Rattle.ept_config.specs.Counts.{total, IsCountOf}
use Rattle.ept_config.specs.KeptOf.{IsKeptOf}
use Rattle.ept_scan.specs.declared.scan_done.ScanDone.{ScanDone}
use Rattle.ept_scan.specs.Laws.{ScanIsKept}
use Rattle.ept_scan.specs.Opening.{IsKeptScan}
use Rattle.ept_scan.specs.Scans.{in_order, IsScan}

total_of_lists : (lists : List (List Point)) (counts : List SourceCount) → AllZip IsCountOf lists counts → length (in_order lists) ≡ total counts
total_of_lists [] [] zip = refl
total_of_lists [] (c ∷ counts) zip = absurd zip
total_of_lists (l ∷ lists) [] zip = absurd zip
total_of_lists (l ∷ lists) (c ∷ counts) zip =
    omega (arith, length-append l (in_order lists), sum_by-cons (λ (count : SourceCount). count.points) c counts, total_of_lists lists counts zip.1, zip.0.number)

pub kept-number : (all : Files) (kept : Kept) (counts : List SourceCount) (points : List Point) → IsKeptScan all kept counts points → length points ≡ total counts
kept-number all kept counts points scan = ap length scan.points_are ∙ total_of_lists scan.lists counts scan.counts_are

pub kept-scan : ScanIsKept → (all : Files) (config : Config) (limits : Option Bounds) (kept : Kept) (done : ScanDone) (points : List Point) → IsKeptOf config done.bounds kept → IsScan all config.scale limits config.inputs 0 points done → IsKeptScan all kept done.counts points
kept-scan law all config limits kept done points is scan =
    let again : IsScan all config.scale (Some done.bounds) config.inputs 0 points done = law all config.scale limits config.inputs 0 points done scan in
    let scaled = subst (λ (s : ℕ). IsScan all s (Some done.bounds) config.inputs 0 points done) (sym is.scale_is) again in
    let of_inputs = subst (λ (w : List Input). IsScan all kept.scale (Some done.bounds) w 0 points done) (sym is.inputs_is) scaled in
    subst (λ (w : Bounds). IsScan all kept.scale (Some w) kept.inputs 0 points (record { counts = done.counts; bounds = w })) (sym is.bounds_is) of_inputs
