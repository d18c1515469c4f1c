-- What is found of the inputs is found in one way.
use Rattle.std.proofs.Common.{◌≡◌, ◌∙◌, ℕ, ◌<◌, List, [], length, get_or, sym, ap, subst, arith, refl, Option, Some, None}
use Rattle.std.specs.Prelude.{All}
use Rattle.std.proofs.lemmas.List.{same_lists}
use Rattle.ept_base.specs.Files.{Files}
use Rattle.ept_point.specs.declared.point.Point.{Point}
use Rattle.ept_space.specs.declared.bounds.Bounds.{Bounds}
use Rattle.ept_config.specs.declared.config.Config.{Config}
use Rattle.ept_config.specs.declared.input.Input.{Input}
use Rattle.ept_config.specs.declared.source_count.SourceCount.{SourceCount}
use Rattle.ept_config.specs.Counts.{IsCountOf}
use Rattle.ept_config.specs.Extents.{IsExtentOf, HasExtent}
use Rattle.ept_config.specs.Ranges.{BoundsInRange}
use Rattle.ept_scan.specs.declared.scan_done.ScanDone.{ScanDone}
use Rattle.ept_scan.specs.Scans.{IsScan}
use Rattle.ept_scan.proofs.OneScan.{scan_once}
use Rattle.ept_scan.proofs.OneExtent.{extent_once, bounds_once}
use Rattle.ept_ckpt.specs.Valid.{ExtentInRange}
use Rattle.ept_save.proofs.ScanCounts.{scan_each, scan_counted}
use Rattle.ept_part.specs.Scanned.{IsScanOf}
use Rattle.ept_merge.specs.Merging.{IsInRange}

none-extent : (points : List Point) (e : Bounds) → points ≡ [] → IsExtentOf points e → ⊥
none-extent points e none of_e = absurd (let some : of_e.x.least_is.0 < length points = of_e.x.least_is.2 in omega (arith, some, ap (λ (w : List Point). length w) none))

extents-same : (points : List Point) (a b : Option Bounds) → ((e : Bounds) → a ≡ Some e → BoundsInRange e) → ((e : Bounds) → b ≡ Some e → BoundsInRange e) → HasExtent points a → HasExtent points b → a ≡ b
extents-same points None None in_a in_b of_a of_b = refl
extents-same points None (Some e) in_a in_b of_a of_b = absurd (none-extent points e of_a of_b)
extents-same points (Some e) None in_a in_b of_a of_b = absurd (none-extent points e of_b of_a)
extents-same points (Some a) (Some b) in_a in_b of_a of_b = ap (λ (e : Bounds). Some e) (extent_once points a b (in_a a refl) (in_b b refl) of_a of_b)

-- points have one count
count-once : (points : List Point) (a b : SourceCount) → ExtentInRange a → ExtentInRange b → IsCountOf points a → IsCountOf points b → a ≡ b
count-once points a b in_a in_b of_a of_b =
    let number : a.points ≡ b.points = of_a.number ∙ sym of_b.number in
    let extent : a.extent ≡ b.extent = extents-same points a.extent b.extent in_a in_b of_a.has_extent of_b.has_extent in
    λ i. record { points = number i; extent = extent i }

-- and inputs have one list of counts
pub counts-once : (all : Files) (scale : ℕ) (limits : Option Bounds) (inputs : List Input) (points : List Point) (a b : ScanDone) → All ExtentInRange a.counts → All ExtentInRange b.counts → IsScan all scale limits inputs 0 points a → IsScan all scale limits inputs 0 points b → a.counts ≡ b.counts
counts-once all scale limits inputs points a b in_a in_b of_a of_b =
    let long : length a.counts ≡ length inputs = scan_each all scale limits inputs points a of_a in
    let also : length b.counts ≡ length inputs = scan_each all scale limits inputs points b of_b in
    same_lists a.counts b.counts (long ∙ sym also) (λ k d low.
    count-once _ (get_or a.counts k d) (get_or b.counts k d) (in_a k d low) (in_b k d (omega (arith, low, long, also)))
    (scan_counted all scale limits inputs points a of_a k d low) (scan_counted all scale limits inputs points b of_b k d (omega (arith, low, long, also))))

-- ---- what a scan finds

-- the inputs have these points, and this is found of them, in range
pub record IsFound (all : Files) (config : Config) (points : List Point) (done : ScanDone) : Type 0 where
  pub scanned : IsScanOf all config points done
  pub in_range : IsInRange done

module _ (all : Files) (config : Config) (points others : List Point) (a b : ScanDone) (first : IsFound all config points a) (second : IsFound all config others b) where
  pub points-once : points ≡ others
  points-once = scan_once all config.scale config.bounds config.inputs 0 points others a b first.scanned second.scanned

  pub found-once : a ≡ b
  found-once =
      let here : IsScanOf all config points b = subst (λ (w : List Point). IsScanOf all config w b) (sym points-once) second.scanned in
      let bounds : a.bounds ≡ b.bounds = bounds_once config.bounds points a.bounds b.bounds first.in_range.bounds second.in_range.bounds first.scanned.bounds_are here.bounds_are in
      let counts : a.counts ≡ b.counts = counts-once all config.scale config.bounds config.inputs points a b first.in_range.extents second.in_range.extents first.scanned here in
      λ i. record { counts = counts i; bounds = bounds i }
