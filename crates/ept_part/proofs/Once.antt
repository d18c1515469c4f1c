-- What the inputs of a configuration have is found in one way.
use Rattle.std.proofs.Common.{◌≡◌, ◌∙◌, ℕ, List, sym, ap, subst}
use Rattle.ept_base.specs.Files.{Files}
use Rattle.ept_point.specs.declared.point.Point.{Point}
use Rattle.ept_space.specs.declared.bounds.Bounds.{Bounds}
use Rattle.ept_config.specs.declared.config.Config.{Config}
use Rattle.ept_config.specs.declared.kept.Kept.{Kept}
use Rattle.ept_config.specs.KeptOf.{IsKeptOf}
use Rattle.ept_scan.specs.Scans.{AreBounds}
use Rattle.ept_scan.proofs.OneScan.{scan_once}
use Rattle.ept_scan.proofs.OneExtent.{bounds_once}
use Rattle.ept_plan.proofs.Fields.{kept-once}
use Rattle.ept_part.specs.Making.{HasInputs, depth_of, node_count}

module _ (all : Files) (config : Config) (kept kept' : Kept) (points points' : List Point) (has : HasInputs all config kept points) (has' : HasInputs all config kept' points') where
  points-once : points ≡ points'
  points-once = scan_once all config.scale config.bounds config.inputs 0 points points' has.done has'.done has.scan has'.scan

  same-kept-once : kept ≡ kept'
  same-kept-once =
      let is = has.kept_is in
      let is' = has'.kept_is in
      let of_a : AreBounds config.bounds points kept.bounds = subst (λ (b : Bounds). AreBounds config.bounds points b) (sym is.bounds_is) has.scan.bounds_are in
      let of_b : AreBounds config.bounds points kept'.bounds = subst (λ (w : List Point). AreBounds config.bounds w kept'.bounds) (sym points-once) (subst (λ (b : Bounds). AreBounds config.bounds points' b) (sym is'.bounds_is) has'.scan.bounds_are) in
      let bounds : kept.bounds ≡ kept'.bounds = bounds_once config.bounds points kept.bounds kept'.bounds kept.has_bounds kept'.has_bounds of_a of_b in
      let with_them : IsKeptOf config kept'.bounds kept = subst (λ (b : Bounds). IsKeptOf config b kept) (sym is.bounds_is ∙ bounds) is in
      kept-once config kept'.bounds kept kept' with_them (subst (λ (b : Bounds). IsKeptOf config b kept') (sym is'.bounds_is) is')

  pub depth-once : depth_of kept ≡ depth_of kept'
  depth-once = ap (λ (k : Kept). depth_of k) same-kept-once

  pub count-once : (octants : ℕ) → node_count octants kept points ≡ node_count octants kept' points'
  count-once octants = ap (λ (w : List Point). node_count octants kept w) points-once ∙ ap (λ (k : Kept). node_count octants k points') same-kept-once
