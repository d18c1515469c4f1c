-- What the inputs of a configuration have is found in one way.
use Rattle.std.proofs.Common.{◌≡◌, ◌∙◌, List, sym, ap, subst}
use Rattle.ept_base.specs.Files.{Files}
use Rattle.ept_point.specs.declared.point.Point.{Point}
use Rattle.ept_space.specs.declared.bounds.Bounds.{Bounds}
use Rattle.ept_config.specs.declared.config.Config.{Config}
use Rattle.ept_config.specs.declared.kept.Kept.{Kept}
use Rattle.ept_config.specs.KeptOf.{IsKeptOf}
use Rattle.ept_scan.specs.Scans.{AreBounds}
use Rattle.ept_scan.proofs.OneScan.{scan_once}
use Rattle.ept_scan.proofs.OneExtent.{bounds_once}
use Rattle.ept_save.specs.Current.{Current}
use Rattle.ept_plan.specs.Plans.{limits_by}
use Rattle.ept_plan.proofs.Fields.{kept-once}
use Rattle.ept_build.specs.Building.{HasPoints, node_count}

module _ (all : Files) (config : Config) (current : Current) (kept kept' : Kept) (points points' : List Point) (has : HasPoints all config current kept points) (has' : HasPoints all config current kept' points') where
  pub points-once : points ≡ points'
  points-once = scan_once all config.scale (limits_by config.bounds current) config.inputs 0 points points' has.done has'.done has.scan has'.scan

  pub same-kept-once : kept ≡ kept'
  same-kept-once =
      let is = has.kept_is in
      let is' = has'.kept_is in
      let of_a : AreBounds (limits_by config.bounds current) points kept.bounds = subst (λ (b : Bounds). AreBounds (limits_by config.bounds current) points b) (sym is.bounds_is) has.scan.bounds_are in
      let of_b : AreBounds (limits_by config.bounds current) points kept'.bounds = subst (λ (w : List Point). AreBounds (limits_by config.bounds current) w kept'.bounds) (sym points-once) (subst (λ (b : Bounds). AreBounds (limits_by config.bounds current) points' b) (sym is'.bounds_is) has'.scan.bounds_are) in
      let bounds : kept.bounds ≡ kept'.bounds = bounds_once (limits_by config.bounds current) points kept.bounds kept'.bounds kept.has_bounds kept'.has_bounds of_a of_b in
      let with_them : IsKeptOf config kept'.bounds kept = subst (λ (b : Bounds). IsKeptOf config b kept) (sym is.bounds_is ∙ bounds) is in
      kept-once config kept'.bounds kept kept' with_them (subst (λ (b : Bounds). IsKeptOf config b kept') (sym is'.bounds_is) is')

  pub count-once : node_count kept points ≡ node_count kept' points'
  count-once = ap (λ (w : List Point). node_count kept w) points-once ∙ ap (λ (k : Kept). node_count k points') same-kept-once
