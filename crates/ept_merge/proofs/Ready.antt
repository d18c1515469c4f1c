-- A merge of parts that are ready is not refused.
use Rattle.std.proofs.Common.{◌≡◌, ◌∙◌, ◌⊎◌, inl, inr, ℕ, ◌≤◌, List, refl, sym, ap, subst, arith, length, None}
use Rattle.std.specs.Prelude.{Err}
use Rattle.ept_base.specs.Files.{Files}
use Rattle.ept_point.specs.declared.point.Point.{Point}
use Rattle.ept_point.specs.Laws.{ReadInOneWay}
use Rattle.ept_space.specs.declared.cube.Rules.{Rules}
use Rattle.ept_sample.specs.Nodes.{sampled}
use Rattle.ept_config.specs.declared.config.Config.{Config}
use Rattle.ept_scan.specs.declared.scan_done.ScanDone.{ScanDone}
use Rattle.ept_scan.specs.declared.scan_error.ScanError.TheVariants as scan
use Rattle.ept_scan.proofs.OneScan.{scan_or_refusal}
use Rattle.ept_ckpt.specs.Laws.{BodyOnce}
use Rattle.ept_meta.specs.Output.{rules_of}
use Rattle.ept_meta.specs.OutputLaws.{PointsCanBeSampled}
use Rattle.ept_save.specs.SoundLaws.{CurrentIsNotBad}
use Rattle.ept_plan.specs.declared.plan.Plan.{Plan}
use Rattle.ept_plan.specs.Plans.{IsPlan, HasPoints}
use Rattle.ept_part.specs.Scanned.{rules_by}
use Rattle.ept_merge.specs.declared.error.MergeError.{MergeError}
use Rattle.ept_merge.specs.declared.error.MergeError.TheVariants.{StoreFault, BadCheckpoint, HasCheckpoint, SourceFault, BadLas, OutOfBounds, TooManyPoints, NoBounds, Shallow, NoPart, PartDiffers, PartDamaged, TooManyNodes, Memory}
use Rattle.ept_merge.specs.Errors.{IsStores}
use Rattle.ept_merge.specs.Steps.{IsOpenFault, IsPlanFault}
use Rattle.ept_merge.specs.Merging.{AreAllParts, Fails, AreReady}
use Rattle.ept_merge.specs.Putting.{IsPartsFault}
use Rattle.ept_merge.proofs.Opening.{rules-same}
use Rattle.ept_merge.proofs.Once.{IsFound, points-once, found-once}
use Rattle.ept_merge.proofs.Public.{points-number, in-range}
use Rattle.ept_merge.proofs.Found.{scan-kept, scan-can}
use Rattle.ept_merge.proofs.Own.{parts-stores}
use Rattle.ept_merge.proofs.Judging.{Outcome}

-- a fault of a device, or out of memory
abbrev pub IsFault : MergeError → Type 0
IsFault e = (e ≡ StoreFault) ⊎ (e ≡ SourceFault) ⊎ (e ≡ Memory)

pub fails : (r : Outcome) (e : MergeError) → r ≡ Err e → IsFault e → Fails r
fails r e is (inl same) = inl (is ∙ ap (λ (x : MergeError). Err x) same)
fails r e is (inr (inl same)) = inr (inl (is ∙ ap (λ (x : MergeError). Err x) same))
fails r e is (inr (inr same)) = inr (inr (is ∙ ap (λ (x : MergeError). Err x) same))

stores-fault : (e : MergeError) → IsStores e → IsFault e
stores-fault e (inl is) = inl is
stores-fault e (inr is) = inr (inr is)

module _ (all start : Files) (config : Config) (parts : List ℕ) (ready : AreReady all start config parts) where
  pub open-fault : CurrentIsNotBad → (e : MergeError) → IsOpenFault start e → IsFault e
  open-fault not_bad StoreFault f = inl refl
  open-fault not_bad (BadCheckpoint letter) f = absurd (not_bad None start letter ready.fresh f)
  open-fault not_bad (HasCheckpoint generation) f = absurd (ready.fresh f.0 f.2.counts)
  open-fault not_bad SourceFault f = absurd f
  open-fault not_bad (BadLas source fault) f = absurd f
  open-fault not_bad (OutOfBounds source number) f = absurd f
  open-fault not_bad (TooManyPoints source) f = absurd f
  open-fault not_bad NoBounds f = absurd f
  open-fault not_bad Shallow f = absurd f
  open-fault not_bad (NoPart octants) f = absurd f
  open-fault not_bad (PartDiffers octants) f = absurd f
  open-fault not_bad (PartDamaged octants key) f = absurd f
  open-fault not_bad TooManyNodes f = absurd f
  open-fault not_bad Memory f = inr (inr refl)

  -- what the inputs have
  abbrev points : List Point
  points = ready.accepted.0

  abbrev done : ScanDone
  done = ready.accepted.1

  here : IsFound all config points done
  here = record { scanned = ready.accepted.2; in_range = ready.accepted.3.2 }

  pub plan-fault : (e : MergeError) → IsPlanFault all config e → IsFault e
  plan-fault StoreFault f = absurd f
  plan-fault (BadCheckpoint letter) f = absurd f
  plan-fault (HasCheckpoint generation) f = absurd f
  plan-fault SourceFault f = inr (inl refl)
  plan-fault (BadLas source fault) f = absurd (scan_or_refusal all config.scale config.bounds config.inputs 0 points done (scan.BadLas source fault) here.scanned f)
  plan-fault (OutOfBounds source number) f = absurd (scan_or_refusal all config.scale config.bounds config.inputs 0 points done (scan.OutOfBounds source number) here.scanned f)
  plan-fault (TooManyPoints source) f = absurd (scan_or_refusal all config.scale config.bounds config.inputs 0 points done (scan.TooManyPoints source) here.scanned f)
  plan-fault NoBounds f = absurd (scan_or_refusal all config.scale config.bounds config.inputs 0 points done scan.NoBounds here.scanned f)
  plan-fault Shallow f =
      let same : done ≡ f.1 = found-once all config points f.0 done f.1 here (record { scanned = f.2; in_range = f.3.1 }) in
      absurd (omega (arith, f.3.0, ready.accepted.3.0, ap (λ (d : ScanDone). (rules_by config d).cube.depth) same))
  plan-fault (NoPart octants) f = absurd f
  plan-fault (PartDiffers octants) f = absurd f
  plan-fault (PartDamaged octants key) f = absurd f
  plan-fault TooManyNodes f = absurd f
  plan-fault Memory f = inr (inr refl)

  module _ (plan : Plan) (is : IsPlan config None plan) (points' : List Point) (has : HasPoints all config None plan points') where
    -- the sampling of the inputs has few enough nodes
    few : length (sampled (rules_of plan.kept) points') ≤ config.max_nodes
    few =
        let kept : ScanDone = record { counts = plan.counts; bounds = plan.kept.bounds } in
        let there : IsFound all config points' kept = record { scanned = has; in_range = in-range all config plan is points' has } in
        let same : points ≡ points' = points-once all config points points' done kept here there in
        let found : done ≡ kept = found-once all config points points' done kept here there in
        let rules : rules_by config done ≡ rules_of plan.kept = ap (λ (d : ScanDone). rules_by config d) found ∙ sym (rules-same config plan is kept refl) in
        subst (λ (r : Rules). length (sampled r points') ≤ config.max_nodes) rules
        (subst (λ (w : List Point). length (sampled (rules_by config done) w) ≤ config.max_nodes) same ready.accepted.3.1)

    pub parts-fault : BodyOnce → ReadInOneWay → PointsCanBeSampled → AreAllParts parts → (e : MergeError) → IsPartsFault plan config.max_nodes parts e start → IsFault e
    parts-fault once read can divided e f =
        stores-fault e
        (parts-stores once all start config plan is points' has read (scan-can can all plan.kept plan.counts points' (scan-kept all config plan is points' has)) (points-number all config plan is points' has) parts divided ready.own ready.there config.max_nodes few e f)
