-- What the steps of a merge say of the inputs and of the folder.
use Rattle.std.proofs.Common.{◌≡◌, ◌∙◌, ◌⊎◌, inl, inr, ℕ, ◌<◌, ◌≤◌, List, [], ◌∷◌, ◌++◌, refl, sym, ap, subst, arith, length, length-append, Some, None}
use Rattle.std.specs.List.{AllZip}
use Rattle.std.proofs.lemmas.List.{map-append}
use Rattle.std.proofs.lemmas.List.Sums.{sum_by-cons}
use Rattle.ept_base.specs.Files.{Files}
use Rattle.ept_point.specs.declared.layout.Layout.TheVariants.{New}
use Rattle.ept_point.specs.declared.point.Point.{Point}
use Rattle.ept_space.specs.declared.cube.Rules.{Rules}
use Rattle.ept_sample.specs.Members.{IsMember}
use Rattle.ept_sample.proofs.Members.{IsMember-map}
use Rattle.ept_config.specs.declared.config.Config.{Config}
use Rattle.ept_config.specs.declared.kept.Kept.{Kept}
use Rattle.ept_config.specs.declared.source_count.SourceCount.{SourceCount}
use Rattle.ept_config.specs.Counts.{IsCountOf, total}
use Rattle.ept_config.specs.KeptOf.{IsKeptOf}
use Rattle.ept_scan.specs.declared.scan_done.ScanDone.{ScanDone}
use Rattle.ept_scan.specs.Scans.{in_order}
use Rattle.ept_ckpt.specs.declared.checkpoint.Checkpoint.{Checkpoint}
use Rattle.ept_ckpt.specs.Versions.{layout_of}
use Rattle.ept_meta.specs.Output.{rules_of}
use Rattle.ept_save.specs.Current.{HasCurrent}
use Rattle.ept_plan.specs.declared.plan.Plan.{Plan}
use Rattle.ept_plan.specs.Plans.{IsPlan, HasPoints}
use Rattle.ept_plan.proofs.Fields.{kept-once}
use Rattle.ept_save.specs.Gates.{IsOpen}
use Rattle.ept_part.specs.Names.{part_gate}
use Rattle.ept_part.specs.Scanned.{IsScanOf, rules_by, found_by}
use Rattle.ept_merge.specs.declared.error.MergeError.{MergeError}
use Rattle.ept_merge.specs.declared.error.MergeError.TheVariants.{StoreFault, BadCheckpoint, HasCheckpoint, SourceFault, BadLas, OutOfBounds, TooManyPoints, NoBounds, Shallow, NoPart, PartDiffers, PartDamaged, TooManyNodes, Memory}
use Rattle.ept_merge.specs.declared.bodies.PartBody.{PartBody}
use Rattle.ept_merge.specs.declared.joining.PartNode.{PartNode}
use Rattle.ept_merge.specs.Errors.{IsStores}
use Rattle.ept_merge.specs.Steps.{IsOpenFault, IsPlanFault}
use Rattle.ept_merge.specs.Merging.{IsInRange, IsOfScan, IsBroken, IsPartOfScan, DiffersFromScan, HaveBodies, IsFirst, IsLast, AreTogether, IsIntact, IsBegun, HasMerged, WereMerged, IsTileDamaged, IsRefused}
use Rattle.ept_merge.specs.Joining.{IsLike, octants_of, bodies_in, roots_of}
use Rattle.ept_merge.specs.Putting.{HasBodies, IsFirstFault, IsBodiesFault, HaveParts, AreIntact, IsNodeDamaged, IsLastPart, IsMisfit, IsFault, IsMergeFault, FitTogether, AreMergeable, WereMergeable, IsPartsFault, IsCommitted}
use Rattle.ept_merge.proofs.Opening.{rules-same}
use Rattle.ept_merge.proofs.Fits.{fits-together, misfit-together, nodes-number, all-intact, damaged-part}

-- ---- what refuses the folder, or the inputs

pub open-says : (all start : Files) (config : Config) (parts : List ℕ) (e : MergeError) → IsOpenFault start e → IsRefused all start config parts e
open-says all start config parts StoreFault f = tt
open-says all start config parts (BadCheckpoint letter) f = f
open-says all start config parts (HasCheckpoint generation) f = f
open-says all start config parts SourceFault f = tt
open-says all start config parts (BadLas source fault) f = absurd f
open-says all start config parts (OutOfBounds source number) f = absurd f
open-says all start config parts (TooManyPoints source) f = absurd f
open-says all start config parts NoBounds f = absurd f
open-says all start config parts Shallow f = absurd f
open-says all start config parts (NoPart octants) f = absurd f
open-says all start config parts (PartDiffers octants) f = absurd f
open-says all start config parts (PartDamaged octants key) f = absurd f
open-says all start config parts TooManyNodes f = absurd f
open-says all start config parts Memory f = tt

pub plan-says : (all start : Files) (config : Config) (parts : List ℕ) (e : MergeError) → HasCurrent None start → IsPlanFault all config e → IsRefused all start config parts e
plan-says all start config parts StoreFault fresh f = tt
plan-says all start config parts (BadCheckpoint letter) fresh f = absurd f
plan-says all start config parts (HasCheckpoint generation) fresh f = absurd f
plan-says all start config parts SourceFault fresh f = tt
plan-says all start config parts (BadLas source fault) fresh f = (fresh, f)
plan-says all start config parts (OutOfBounds source number) fresh f = (fresh, f)
plan-says all start config parts (TooManyPoints source) fresh f = (fresh, f)
plan-says all start config parts NoBounds fresh f = (fresh, f)
plan-says all start config parts Shallow fresh f = (fresh, f)
plan-says all start config parts (NoPart octants) fresh f = absurd f
plan-says all start config parts (PartDiffers octants) fresh f = absurd f
plan-says all start config parts (PartDamaged octants key) fresh f = absurd f
plan-says all start config parts TooManyNodes fresh f = absurd f
plan-says all start config parts Memory fresh f = tt

pub stores-say : (all start : Files) (config : Config) (parts : List ℕ) (e : MergeError) → IsStores e → IsRefused all start config parts e
stores-say all start config parts e (inl is) = subst (λ (w : MergeError). IsRefused all start config parts w) (sym is) tt
stores-say all start config parts e (inr is) = subst (λ (w : MergeError). IsRefused all start config parts w) (sym is) tt

-- ---- lists

pub total-lists : (lists : List (List Point)) (counts : List SourceCount) → AllZip IsCountOf lists counts → length (in_order lists) ≡ total counts
total-lists [] [] zip = refl
total-lists [] (c ∷ counts) zip = absurd zip
total-lists (l ∷ lists) [] zip = absurd zip
total-lists (l ∷ lists) (c ∷ counts) zip =
    omega (arith, length-append l (in_order lists), sum_by-cons (λ (count : SourceCount). count.points) c counts, total-lists lists counts zip.1, zip.0.number)

pub zip-part : (P : ℕ → Checkpoint → Type 0) (parts : List PartBody) → AllZip P (octants_of parts) (bodies_in parts) → (part : PartBody) → IsMember part parts → P part.octants part.body
zip-part P [] all part m = absurd m
zip-part P (p ∷ parts) all part (inl is) = subst (λ (w : PartBody). P w.octants w.body) is all.0
zip-part P (p ∷ parts) all part (inr m) = zip-part P parts all.1 part m

last-is : (parts : List PartBody) (octants : ℕ) → IsLastPart parts octants → IsLast (octants_of parts) octants
last-is parts octants (before, last, is, its) = (
  octants_of before,
  ap octants_of is ∙ (map-append (λ (p : PartBody). p.octants) before (last ∷ []) ∙ ap (λ (o : ℕ). octants_of before ++ o ∷ []) its),
)

-- ---- by the plan

module _ (all : Files) (config : Config) (plan : Plan) (is : IsPlan config None plan) (points : List Point) (has : HasPoints all config None plan points) where
  abbrev done : ScanDone
  done = record { counts = plan.counts; bounds = plan.kept.bounds }

  rules-are : rules_of plan.kept ≡ rules_by config done
  rules-are = rules-same config plan is done refl

  pub in-range : IsInRange done
  in-range = record { bounds = plan.kept.has_bounds; extents = is.extents }

  pub points-number : length points ≡ plan.points
  points-number = ap length has.points_are ∙ (total-lists has.lists plan.counts has.counts_are ∙ sym is.points_are)

  of-scan : (c : Checkpoint) → IsLike plan.kept plan.counts c → IsOfScan config done c
  of-scan c like = record {
    kept_is = subst (λ (k : Kept). IsKeptOf config plan.kept.bounds k) (sym like.kept_is) is.kept_is;
    counts_are = like.counts_are;
  }

  like-scan : (c : Checkpoint) → layout_of c.version ≡ New → IsOfScan config done c → IsLike plan.kept plan.counts c
  like-scan c newest its = record {
    kept_is = kept-once config plan.kept.bounds c.kept plan.kept its.kept_is is.kept_is;
    counts_are = its.counts_are;
    newest = newest;
  }

  -- ---- what was committed

  pub has-merged : (files : Files) → IsCommitted plan files → HasMerged all config files
  has-merged files committed = record {
    letter = committed.letter;
    c = committed.c;
    points = points;
    is_current = committed.is_current;
    kept_is = subst (λ (k : Kept). IsKeptOf config k.bounds k) (sym committed.kept_is) is.kept_is;
    scanned =
        let found : found_by committed.c ≡ done = λ i. record { counts = committed.counts_are i; bounds = (committed.kept_is i).bounds } in
        subst (λ (d : ScanDone). IsScanOf all config points d) (sym found) has;
    inserted = committed.inserted_is ∙ sym points-number;
  }

  -- ---- in a folder without a checkpoint

  module _ (start : Files) (fresh : HasCurrent None start) (deep : 0 < (rules_of plan.kept).cube.depth) where
    begun : IsBegun all start config points done
    begun = record { fresh = fresh; scanned = has; in_range = in-range; deep = subst (λ (r : Rules). 0 < r.cube.depth) rules-are deep }

    have : (octants : List ℕ) (bodies : List Checkpoint) → HasBodies start plan octants bodies → HaveBodies start config done octants bodies
    have [] [] all = tt
    have [] (b ∷ bodies) all = absurd all
    have (o ∷ octants) [] all = absurd all
    have (o ∷ octants) (b ∷ bodies) all = ((all.0.0, of-scan b all.0.1), have octants bodies all.1)

    -- ---- a part has no such body

    first-is : (parts : List ℕ) (e : MergeError) (f : IsFirstFault start plan parts e) (octants : ℕ) (fault : Type 0) → octants ≡ f.octants → fault → IsFirst start config done parts octants fault
    first-is parts e f octants fault same its = record {
      before = f.before;
      later = f.later;
      among = f.among ∙ ap (λ (o : ℕ). f.before ++ o ∷ f.later) (sym same);
      bodies = f.bodies;
      have = have f.before f.bodies f.have;
      has_fault = its;
    }

    first-says : (parts : List ℕ) (e : MergeError) → IsFirstFault start plan parts e → IsRefused all start config parts e
    first-says parts StoreFault f = tt
    first-says parts (BadCheckpoint letter) f = absurd f.fault
    first-says parts (HasCheckpoint generation) f = absurd f.fault
    first-says parts SourceFault f = tt
    first-says parts (BadLas source fault) f = absurd f.fault
    first-says parts (OutOfBounds source number) f = absurd f.fault
    first-says parts (TooManyPoints source) f = absurd f.fault
    first-says parts NoBounds f = absurd f.fault
    first-says parts Shallow f = absurd f.fault
    first-says parts (NoPart octants) f =
        (points, done, begun, first-is parts (NoPart octants) f octants _ f.fault.0 (subst (λ (o : ℕ). ¬ IsOpen start (part_gate o)) (sym f.fault.0) f.fault.1))
    first-says parts (PartDiffers octants) f =
        let d : DiffersFromScan start config done octants = subst (λ (o : ℕ). DiffersFromScan start config done o) (sym f.fault.0) (f.fault.1.0, f.fault.1.1, λ its. f.fault.1.2 (like-scan f.fault.1.0 f.fault.1.1.newest its)) in
        (points, done, begun, first-is parts (PartDiffers octants) f octants _ f.fault.0 d)
    first-says parts (PartDamaged octants None) f =
        inl (points, done, begun, first-is parts (PartDamaged octants None) f octants _ f.fault.0 (subst (λ (o : ℕ). IsBroken start o) (sym f.fault.0) f.fault.1))
    first-says parts (PartDamaged octants (Some key)) f = absurd f.fault
    first-says parts TooManyNodes f = absurd f.fault
    first-says parts Memory f = tt

    pub bodies-say : (parts : List ℕ) (e : MergeError) → IsBodiesFault start plan parts e → IsRefused all start config parts e
    bodies-say parts e (inl stores) = stores-say all start config parts e stores
    bodies-say parts e (inr f) = first-says parts e f

    -- ---- the bodies are there

    module _ (octants : List ℕ) (parts : List PartBody) (there : HaveParts start plan octants parts) where
      bodies : HaveBodies start config done octants (bodies_in parts)
      bodies = have octants (bodies_in parts) there.bodies

      part-there : (part : PartBody) → IsMember part parts → IsPartOfScan start config done part.octants part.body
      part-there part m =
          zip-part (IsPartOfScan start config done) parts (subst (λ (w : List ℕ). HaveBodies start config done w (bodies_in parts)) (sym there.octants_are) bodies) part m

      octants-member : (part : PartBody) → IsMember part parts → IsMember part.octants octants
      octants-member part m = subst (λ (w : List ℕ). IsMember part.octants w) there.octants_are (IsMember-map (λ (p : PartBody). p.octants) part parts m)

      misfit-says : (e : MergeError) → IsMisfit parts plan.points e → IsRefused all start config octants e
      misfit-says e (o, is_e, last, misfit) =
          let apart : ¬ AreTogether (bodies_in parts) (length points) = λ together. misfit-together parts plan.points misfit (subst (λ (n : ℕ). AreTogether (bodies_in parts) n) points-number together) in
          let lasts : IsLast octants o = subst (λ (w : List ℕ). IsLast w o) there.octants_are (last-is parts o last) in
          subst (λ (w : MergeError). IsRefused all start config octants w) (sym is_e) (inr (points, done, begun, (bodies_in parts, bodies, (lasts, apart))))

      together : (nodes : List PartNode) → FitTogether parts nodes plan.points → AreTogether (bodies_in parts) (length points)
      together nodes fit = subst (λ (n : ℕ). AreTogether (bodies_in parts) n) (sym points-number) (fits-together parts nodes plan.points fit)

      intact-says : (nodes : List PartNode) → FitTogether parts nodes plan.points → AreIntact (rules_of plan.kept) start (roots_of parts ++ nodes) → AllZip (IsIntact (rules_by config done) start) octants (bodies_in parts)
      intact-says nodes fit intact =
          let each = all-intact (rules_of plan.kept) start parts nodes fit.order intact in
          subst (λ (r : Rules). AllZip (IsIntact r start) octants (bodies_in parts)) rules-are
          (subst (λ (w : List ℕ). AllZip (IsIntact (rules_of plan.kept) start) w (bodies_in parts)) there.octants_are each)

      fault-says : (e : MergeError) → IsFault (rules_of plan.kept) start config.max_nodes parts plan.points e → IsRefused all start config octants e
      fault-says e f = by_fault f.fault
        where
          by_fault : IsNodeDamaged (rules_of plan.kept) start (roots_of parts ++ f.nodes) e ⊎ ((e ≡ TooManyNodes) × AreIntact (rules_of plan.kept) start (roots_of parts ++ f.nodes) × (config.max_nodes ≤ length f.nodes)) → IsRefused all start config octants e
          by_fault (inl damaged) =
              let d = damaged-part (rules_of plan.kept) start parts f.nodes f.fit.order e damaged in
              let bad : IsTileDamaged (rules_by config done) start d.part.octants d.line = subst (λ (r : Rules). IsTileDamaged r start d.part.octants d.line) rules-are d.damaged in
              subst (λ (w : MergeError). IsRefused all start config octants w) (sym d.is_error)
              (points, done, begun, (bodies_in parts, bodies, (together f.nodes f.fit, (d.part.body, d.line, part-there d.part d.among, octants-member d.part d.among, d.in_body, refl, bad))))
          by_fault (inr many) =
              subst (λ (w : MergeError). IsRefused all start config octants w) (sym many.0)
              (points, done, begun, (bodies_in parts, bodies, (together f.nodes f.fit, (intact-says f.nodes f.fit many.1, omega (arith, many.2, nodes-number parts f.nodes f.fit.order)))))

      merge-says : (e : MergeError) → IsMergeFault (rules_of plan.kept) start config.max_nodes parts plan.points e → IsRefused all start config octants e
      merge-says e (inl stores) = stores-say all start config octants e stores
      merge-says e (inr (inl misfit)) = misfit-says e misfit
      merge-says e (inr (inr fault)) = fault-says e fault

      mergeable-says : AreMergeable (rules_of plan.kept) start config.max_nodes parts plan.points → WereMerged all start config octants
      mergeable-says m =
          (points, done, begun, (bodies_in parts, bodies, (together m.nodes m.fit, (intact-says m.nodes m.fit m.intact, omega (arith, m.few, nodes-number parts m.nodes m.fit.order)))))

    pub parts-say : (octants : List ℕ) (e : MergeError) → IsPartsFault plan config.max_nodes octants e start → IsRefused all start config octants e
    parts-say octants e (inl f) = bodies-say octants e f
    parts-say octants e (inr (parts, there, f)) = merge-says octants parts there e f

    pub were-merged : (octants : List ℕ) → WereMergeable plan config.max_nodes octants start → WereMerged all start config octants
    were-merged octants (parts, there, m) = mergeable-says octants parts there m
