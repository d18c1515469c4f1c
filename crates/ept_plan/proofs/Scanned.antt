-- The new inputs and those of the checkpoint are all inputs.
use Rattle.std.proofs.Common.{◌≡◌, ℕ, List, ◌++◌, length, take, drop, refl, sym, subst, Some, None}
use Rattle.std.proofs.Math.Seq.{take-append_seam}
use Rattle.ept_base.specs.Files.{Files}
use Rattle.ept_point.specs.declared.point.Point.{Point}
use Rattle.ept_space.specs.declared.bounds.Bounds.{Bounds}
use Rattle.ept_config.specs.declared.config.Config.{Config}
use Rattle.ept_config.specs.declared.input.Input.{Input}
use Rattle.ept_config.specs.declared.kept.Kept.{Kept}
use Rattle.ept_config.specs.declared.source_count.SourceCount.{SourceCount}
use Rattle.ept_config.specs.Counts.{total}
use Rattle.ept_scan.specs.declared.scan_done.ScanDone.{ScanDone}
use Rattle.ept_scan.specs.Scans.{IsScan}
use Rattle.ept_scan.proofs.Joined.{scans_join, scan_back}
use Rattle.ept_ckpt.specs.declared.checkpoint.Checkpoint.{Checkpoint}
use Rattle.ept_save.specs.Current.{Current}
use Rattle.ept_save.specs.Sound.{HasPointsOf}
use Rattle.ept_plan.specs.declared.plan.Plan.{Plan}
use Rattle.ept_plan.specs.Plans.{inputs_by, limits_by, GoesOn, IsPlan, ScansAll}
use Rattle.ept_plan.specs.Steps.{ScansNew, counts_by}
use Rattle.ept_plan.proofs.Fields.{scale-kept, inputs-kept}

module _ (all : Files) (config : Config) where
  moved : (bounds : Bounds) (a b : List Input) → a ≡ b → (from : ℕ) (points : List Point) (done : ScanDone) → IsScan all config.scale (Some bounds) a from points done → IsScan all config.scale (Some bounds) b from points done
  moved bounds a b same from points done scan = subst (λ (l : List Input). IsScan all config.scale (Some bounds) l from points done) same scan

  -- a scan of all inputs has a scan of the new ones
  pub new-scanned : (current : Current) (points : List Point) (done : ScanDone) → GoesOn config current
      → IsScan all config.scale (limits_by config.bounds current) config.inputs 0 points done
      → (others : List Point) × (found : ScanDone) × IsScan all config.scale (limits_by config.bounds current) config.inputs (inputs_by current) others found
  new-scanned None points done on scan = (points, done, scan)
  new-scanned (Some (letter, c)) points done on scan =
      let first = inputs-kept config c.kept on.0 on.1 on.2 in
      let others : List Point = drop (total (take (length c.kept.inputs) done.counts)) points in
      let found : ScanDone = record { counts = drop (length c.kept.inputs) done.counts; bounds = c.kept.bounds } in
      (others, found, moved c.kept.bounds _ _ (sym first.1) (length c.kept.inputs) others found (scan_back all config.scale c.kept.bounds c.kept.inputs first.0 points done (moved c.kept.bounds _ _ first.1 0 points done scan)))

  joined : (c : Checkpoint) (given : Kept) (more : List SourceCount) (first others : List Point) → c.kept.scale ≡ config.scale → (added : List Input) → config.inputs ≡ c.kept.inputs ++ added
      → HasPointsOf all c first
      → IsScan all config.scale (Some c.kept.bounds) config.inputs (length c.kept.inputs) others (record { counts = more; bounds = c.kept.bounds })
      → IsScan all config.scale (Some c.kept.bounds) config.inputs 0 (first ++ others) (record { counts = c.counts ++ more; bounds = c.kept.bounds })
  joined c given more first others scale added inputs front back =
      let of_front = subst (λ (k : ℕ). IsScan all k (Some c.kept.bounds) c.kept.inputs 0 first (record { counts = c.counts; bounds = c.kept.bounds })) scale front in
      let of_back = moved c.kept.bounds _ _ inputs (length c.kept.inputs) others (record { counts = more; bounds = c.kept.bounds }) back in
      moved c.kept.bounds _ _ (sym inputs) 0 (first ++ others) (record { counts = c.counts ++ more; bounds = c.kept.bounds }) (scans_join all config.scale c.kept.bounds c.kept.inputs added first others _ _ of_front of_back)

  -- all inputs are scanned
  pub all-scanned : (current : Current) (plan : Plan) (more : List SourceCount) → IsPlan config current plan → plan.counts ≡ counts_by current ++ more → ScansNew all config current more plan.kept.bounds → ScansAll all config current plan
  all-scanned None plan more is_plan counts scan first is_first = (
    scan.0,
    subst (λ (l : List SourceCount). IsScan all config.scale config.bounds config.inputs 0 scan.0 (record { counts = l; bounds = plan.kept.bounds })) (sym counts) scan.1,
    subst (λ (l : List Point). take (length l) scan.0 ≡ l) (sym is_first) refl,
  )
  all-scanned (Some (letter, c)) plan more is_plan counts scan first is_first =
      let on = is_plan.goes_on in
      let bounds : c.kept.bounds ≡ plan.kept.bounds = cc in
      let added = inputs-kept config c.kept on.0 on.1 on.2 in
      let back : IsScan all config.scale (Some c.kept.bounds) config.inputs (length c.kept.inputs) scan.0 (record { counts = more; bounds = c.kept.bounds }) =
      subst (λ (b : Bounds). IsScan all config.scale (Some c.kept.bounds) config.inputs (length c.kept.inputs) scan.0 (record { counts = more; bounds = b })) (sym bounds) scan.1 in
      let whole = joined c on.0 more first scan.0 (scale-kept config c.kept on.0 on.1 on.2) added.0 added.1 is_first back in (
        first ++ scan.0,
        subst (λ (l : List SourceCount). IsScan all config.scale (Some c.kept.bounds) config.inputs 0 (first ++ scan.0) (record { counts = l; bounds = plan.kept.bounds })) (sym counts)
            (subst (λ (b : Bounds). IsScan all config.scale (Some c.kept.bounds) config.inputs 0 (first ++ scan.0) (record { counts = c.counts ++ more; bounds = b })) bounds whole),
        take-append_seam first scan.0,
      )
