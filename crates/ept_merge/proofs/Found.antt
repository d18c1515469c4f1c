-- Bodies of sound parts: their nodes are those of the inputs' points.
use Rattle.std.proofs.Common.{◌≡◌, ◌≢◌, ◌∙◌, ℕ, List, [], sym, ap, subst, arith, Some, None}
use Rattle.std.specs.List.{AllZip}
use Rattle.ept_base.specs.Files.{Files}
use Rattle.ept_point.specs.declared.layout.Layout.TheVariants.{New}
use Rattle.ept_point.specs.declared.point.Point.{Point}
use Rattle.ept_space.specs.declared.cube.Rules.{Rules}
use Rattle.ept_sample.specs.Members.{IsMember}
use Rattle.ept_sample.specs.SamplingLaws.{CanBeSampled}
use Rattle.ept_sample.proofs.Members.{IsMember-map, all-member, All-members}
use Rattle.ept_sample.proofs.IdLaws.{HasDistinctIds-IsAscending}
use Rattle.ept_config.specs.declared.config.Config.{Config}
use Rattle.ept_config.specs.declared.input.Input.{Input}
use Rattle.ept_config.specs.declared.kept.Kept.{Kept}
use Rattle.ept_config.specs.declared.source_count.SourceCount.{SourceCount}
use Rattle.ept_scan.specs.declared.scan_done.ScanDone.{ScanDone}
use Rattle.ept_scan.specs.Scans.{IsScan}
use Rattle.ept_scan.specs.Opening.{IsKeptScan}
use Rattle.ept_scan.proofs.OneScan.{scan_once}
use Rattle.ept_scan.proofs.Scanned.{scan_kept, scan_placed}
use Rattle.ept_scan.proofs.Ascending.{scan_ascends}
use Rattle.ept_grid.specs.Mask.{opened}
use Rattle.ept_ckpt.specs.declared.checkpoint.Checkpoint.{Checkpoint}
use Rattle.ept_ckpt.specs.Body.{body}
use Rattle.ept_ckpt.specs.Facts.{facts}
use Rattle.ept_ckpt.specs.Laws.{BodyOnce}
use Rattle.ept_meta.specs.Output.{rules_of}
use Rattle.ept_meta.specs.OutputLaws.{PointsCanBeSampled}
use Rattle.ept_save.specs.Sound.{IsSavedUnder}
use Rattle.ept_plan.specs.declared.plan.Plan.{Plan}
use Rattle.ept_plan.specs.Plans.{IsPlan, HasPoints}
use Rattle.ept_parts.specs.MergeLaws.{part_nodes}
use Rattle.ept_part.specs.Names.{part_tile_of}
use Rattle.ept_part.specs.Files.{HasPart, IsPartSound}
use Rattle.ept_merge.specs.declared.bodies.PartBody.{PartBody}
use Rattle.ept_merge.specs.Merging.{AreAllParts, HasBody, AreSoundParts}
use Rattle.ept_merge.specs.Joining.{IsLike, octants_of, bodies_in}
use Rattle.ept_merge.specs.Putting.{HasBodies, HaveParts, AreOfParts}
use Rattle.ept_merge.proofs.Public.{zip-part}

-- parts with each octant are some
pub all-some : (octants : List ℕ) → AreAllParts octants → octants ≢ []
all-some octants all none =
    let here = subst (λ (w : List ℕ). AreAllParts w) none all in
    let wrong : ◌≡◌ {A = ℕ} 0 1 = here 0 (omega arith) in
    absurd (omega (arith, wrong))

pub parts-some : (octants : List ℕ) (parts : List PartBody) → octants_of parts ≡ octants → AreAllParts octants → parts ≢ []
parts-some octants parts same all none = all-some octants all (sym same ∙ ap octants_of none)

-- what was scanned for a plan is scanned the same by what it keeps
pub scan-kept : (all : Files) (config : Config) (plan : Plan) → IsPlan config None plan → (points : List Point) → HasPoints all config None plan points → IsKeptScan all plan.kept plan.counts points
scan-kept all config plan is points has =
    let done : ScanDone = record { counts = plan.counts; bounds = plan.kept.bounds } in
    let scan : IsScan all config.scale (Some plan.kept.bounds) config.inputs 0 points done = scan_kept all config.scale config.inputs config.bounds 0 points done has in
    let to_scale = subst (λ (k : ℕ). IsScan all k (Some plan.kept.bounds) config.inputs 0 points done) (sym is.kept_is.scale_is) scan in
    subst (λ (w : List Input). IsScan all plan.kept.scale (Some plan.kept.bounds) w 0 points done) (sym is.kept_is.inputs_is) to_scale

-- and can be sampled
pub scan-can : PointsCanBeSampled → (all : Files) (kept : Kept) (counts : List SourceCount) (points : List Point) → IsKeptScan all kept counts points → CanBeSampled (rules_of kept) points
scan-can can_be all kept counts points scan =
    can_be kept points (scan_placed all kept.scale kept.inputs (Some kept.bounds) 0 points _ scan) (HasDistinctIds-IsAscending points (scan_ascends all kept.scale (Some kept.bounds) kept.inputs 0 points _ scan))

module _ (once : BodyOnce) (all start : Files) (config : Config) (plan : Plan) (is : IsPlan config None plan) (points : List Point) (has : HasPoints all config None plan points) (octants : List ℕ) (divided : AreAllParts octants) (sound : AreSoundParts all start octants) (parts : List PartBody) (there : HaveParts start plan octants parts) where
  scan : IsKeptScan all plan.kept plan.counts points
  scan = scan-kept all config plan is points has

  some-same : (a b : List ℕ) → Some a ≡ Some b → a ≡ b
  some-same a b same = cc

  abbrev IsSavedPart : PartBody → Kept → List Point → Type 0
  IsSavedPart part kept others = AllZip (IsSavedUnder New (part_tile_of part.octants) start) (part_nodes (rules_of kept) (opened part.octants) others) part.body.nodes

  saved-part : (part : PartBody) → IsMember part parts → IsSavedPart part plan.kept points
  saved-part part m =
      let b = zip-part (λ (o : ℕ) (c : Checkpoint). HasBody start o c × IsLike plan.kept plan.counts c) parts (subst (λ (w : List ℕ). HasBodies start plan w (bodies_in parts)) (sym there.octants_are) there.bodies) part m in
      let among : IsMember part.octants octants = subst (λ (w : List ℕ). IsMember part.octants w) there.octants_are (IsMember-map (λ (p : PartBody). p.octants) part parts m) in
      let s = all-member (IsPartSound all start) part.octants octants sound among b.0.opened in
      let same : s.0 ≡ part.body = once s.0 part.body (some-same (body (facts s.0)) (body (facts part.body)) (sym s.2.body ∙ b.0.body)) in
      let mine : HasPart all start part.octants part.body s.1 = subst (λ (c : Checkpoint). HasPart all start part.octants c s.1) same s.2 in
      by_points s.1 b.1 mine
    where
      by_points : (others : List Point) → IsLike plan.kept plan.counts part.body → HasPart all start part.octants part.body others → IsSavedPart part plan.kept points
      by_points others like mine =
          let kept : IsKeptScan all plan.kept part.body.counts others = subst (λ (k : Kept). IsScan all k.scale (Some k.bounds) k.inputs 0 others (record { counts = part.body.counts; bounds = k.bounds })) like.kept_is mine.scan in
          let one : others ≡ points = scan_once all plan.kept.scale (Some plan.kept.bounds) plan.kept.inputs 0 others points _ _ kept scan in
          subst (λ (w : List Point). IsSavedPart part plan.kept w) one
          (subst (λ (k : Kept). IsSavedPart part k others) like.kept_is mine.nodes)

  pub of-parts : (rules : Rules) → rules ≡ rules_of plan.kept → AreOfParts all start plan rules parts points
  of-parts rules same = record {
    scan = scan;
    divided = subst (λ (w : List ℕ). AreAllParts w) (sym there.octants_are) divided;
    nodes = All-members (λ (part : PartBody). AllZip (IsSavedUnder New (part_tile_of part.octants) start) (part_nodes rules (opened part.octants) points) part.body.nodes) parts (λ part m.
        subst (λ (r : Rules). AllZip (IsSavedUnder New (part_tile_of part.octants) start) (part_nodes r (opened part.octants) points) part.body.nodes) (sym same) (saved-part part m));
  }
