-- What a merge's result says, for whatever is visible of the shelf and of the store.
use Rattle.std.proofs.Common.{◌≡◌, ◌∙◌, ◌⊎◌, inl, inr, ℕ, ◌<◌, ◌≤◌, List, ◌++◌, length, refl, subst, Option, Some, None}
use Rattle.std.specs.Prelude.{Result, Ok, Err, IsOk, OnOk, IfErr}
use Rattle.ept_base.specs.Files.{Files, Tells}
use Rattle.ept_point.specs.declared.point.Point.{Point}
use Rattle.ept_point.specs.Laws.{ReadInOneWay}
use Rattle.ept_space.specs.declared.cube.Rules.{Rules}
use Rattle.ept_config.specs.declared.config.Config.{Config}
use Rattle.ept_ckpt.specs.Laws.{BodyOnce}
use Rattle.ept_meta.specs.Output.{rules_of}
use Rattle.ept_meta.specs.OutputLaws.{PointsCanBeSampled}
use Rattle.ept_save.specs.Current.{HasCurrent}
use Rattle.ept_save.specs.SoundLaws.{CurrentIsOne, CurrentIsNotBad}
use Rattle.ept_save.proofs.Standing.{told_some}
use Rattle.ept_plan.specs.declared.plan.Plan.{Plan}
use Rattle.ept_plan.specs.Plans.{IsPlan, HasPoints}
use Rattle.ept_merge.specs.declared.error.MergeError.{MergeError}
use Rattle.ept_merge.specs.declared.error.MergeError.TheVariants.{TooManyNodes, Memory}
use Rattle.ept_merge.specs.declared.bodies.PartBody.{PartBody}
use Rattle.ept_merge.specs.declared.joining.PartNode.{PartNode}
use Rattle.ept_merge.specs.Steps.{IsOpenFault, IsPlanFault}
use Rattle.ept_merge.specs.Merging.{AreAllParts, HasMerged, WereMerged, IsRefused, IsDefinite, Fails, Reports, AreReady, AreOwnParts, IsPartFault}
use Rattle.ept_merge.specs.Joining.{octants_of, bodies_in, roots_of}
use Rattle.ept_merge.specs.Putting.{AreLike, HasBodies, HaveParts, IsBodiesFault, AreIntact, IsNodesFault, FitTogether, IsMisfit, AreMergeable, WereMergeable, IsMergeFault, IsPartsFault, IsCommitted}
use Rattle.ept_merge.proofs.Reading.{tells-more, tells-always, tells-both}
use Rattle.ept_merge.proofs.Public.{open-says, plan-says, points-number, has-merged, parts-say, were-merged}
use Rattle.ept_merge.proofs.Found.{scan-kept, scan-can}
use Rattle.ept_merge.proofs.Own.{parts-not}
use Rattle.ept_merge.proofs.Ready.{fails, open-fault, plan-fault, parts-fault}
use Rattle.ept_merge.proofs.Judging.{Says, says-refused, says-merged, completes, comes}

abbrev Outcome : Type 0
Outcome = Result (Unit {0}) MergeError

-- a success, a fault of a device, or out of memory
abbrev Ends : Outcome → Type 0
Ends r = IsOk r ⊎ Fails r

-- ---- by the nodes

module _ (rules : Rules) (most points : ℕ) (parts : List PartBody) (nodes : List PartNode) (fit : FitTogether parts nodes points) (files : Option Files) where
  pub nodes-fault : (e : MergeError) → Tells (λ all. IsNodesFault rules all (roots_of parts ++ nodes) e) files → Tells (λ all. IsMergeFault rules all most parts points e) files
  nodes-fault e fault = tells-more (λ all. IsNodesFault rules all (roots_of parts ++ nodes) e) (λ all. IsMergeFault rules all most parts points e) says files fault
    where
      says : (all : Files) → IsNodesFault rules all (roots_of parts ++ nodes) e → IsMergeFault rules all most parts points e
      says all (inl stores) = inl stores
      says all (inr damaged) = inr (inr (record { nodes = nodes; fit = fit; fault = inl damaged }))

  pub too-many : most ≤ length nodes → Tells (λ all. AreIntact rules all (roots_of parts ++ nodes)) files → Tells (λ all. IsMergeFault rules all most parts points TooManyNodes) files
  too-many many intact = tells-more (λ all. AreIntact rules all (roots_of parts ++ nodes)) (λ all. IsMergeFault rules all most parts points TooManyNodes) (λ all i. inr (inr (record { nodes = nodes; fit = fit; fault = inr (refl, i, many) }))) files intact

  pub placed-accepted : (result : Outcome) → length nodes < most → OnOk result (Tells (λ all. AreIntact rules all (roots_of parts ++ nodes)) files) → OnOk result (Tells (λ all. AreMergeable rules all most parts points) files)
  placed-accepted (Err e) few intact = tt
  placed-accepted (Ok u) few intact = tells-more (λ all. AreIntact rules all (roots_of parts ++ nodes)) (λ all. AreMergeable rules all most parts points) (λ all i. record { nodes = nodes; fit = fit; intact = i; few = few }) files intact

  pub placed-refused : (result : Outcome) → IfErr result (λ e. Tells (λ all. IsNodesFault rules all (roots_of parts ++ nodes) e) files) → IfErr result (λ e. Tells (λ all. IsMergeFault rules all most parts points e) files)
  placed-refused (Ok u) fault = tt
  placed-refused (Err e) fault = nodes-fault e fault

pub misfit-fault : (rules : Rules) (most points : ℕ) (parts : List PartBody) (e : MergeError) (files : Option Files) → (e ≡ Memory) ⊎ IsMisfit parts points e → Tells (λ all. IsMergeFault rules all most parts points e) files
misfit-fault rules most points parts e files (inl memory) = tells-always (λ all. IsMergeFault rules all most parts points e) (λ all. inl (inr memory)) files
misfit-fault rules most points parts e files (inr misfit) = tells-always (λ all. IsMergeFault rules all most parts points e) (λ all. inr (inl misfit)) files

-- ---- by the bodies

have-parts : (octants : List ℕ) (plan : Plan) (parts : List PartBody) (files : Option Files) → octants_of parts ≡ octants → AreLike plan parts → Tells (λ all. HasBodies all plan octants (bodies_in parts)) files → Tells (λ all. HaveParts all plan octants parts) files
have-parts octants plan parts files same like bodies = tells-more _ _ (λ all b. record { octants_are = same; like = like; bodies = b }) files bodies

module _ (octants : List ℕ) (plan : Plan) (most : ℕ) (parts : List PartBody) (before between : Option Files) (reads : between ≡ before) (same : octants_of parts ≡ octants) (like : AreLike plan parts) (bodies : Tells (λ all. HasBodies all plan octants (bodies_in parts)) before) where
  pub parts-accepted : (result : Outcome) → OnOk result (Tells (λ all. AreMergeable (rules_of plan.kept) all most parts plan.points) between) → OnOk result (Tells (WereMergeable plan most octants) before)
  parts-accepted (Err e) accepted = tt
  parts-accepted (Ok u) accepted =
      tells-both (λ all. HaveParts all plan octants parts) (λ all. AreMergeable (rules_of plan.kept) all most parts plan.points) (WereMergeable plan most octants) (λ all there m. (parts, there, m)) before (have-parts octants plan parts before same like bodies)
      (subst (λ (o : Option Files). Tells (λ all. AreMergeable (rules_of plan.kept) all most parts plan.points) o) reads accepted)

  pub parts-refused : (result : Outcome) → IfErr result (λ e. Tells (λ all. IsMergeFault (rules_of plan.kept) all most parts plan.points e) between) → IfErr result (λ e. Tells (IsPartsFault plan most octants e) before)
  parts-refused (Ok u) refused = tt
  parts-refused (Err e) refused =
      tells-both (λ all. HaveParts all plan octants parts) (λ all. IsMergeFault (rules_of plan.kept) all most parts plan.points e) (IsPartsFault plan most octants e) (λ all there f. inr (parts, there, f)) before (have-parts octants plan parts before same like bodies)
      (subst (λ (o : Option Files). Tells (λ all. IsMergeFault (rules_of plan.kept) all most parts plan.points e) o) reads refused)

pub bodies-refused : (octants : List ℕ) (plan : Plan) (most : ℕ) (e : MergeError) (files : Option Files) → Tells (λ all. IsBodiesFault all plan octants e) files → Tells (IsPartsFault plan most octants e) files
bodies-refused octants plan most e files fault = tells-more (λ all. IsBodiesFault all plan octants e) (IsPartsFault plan most octants e) (λ all f. inl f) files fault

-- ---- by the plan

module _ (shelf : Option Files) (config : Config) (plan : Plan) (is : IsPlan config None plan) (deep : 0 < (rules_of plan.kept).cube.depth) (scan : Tells (λ all. (points : List Point) × HasPoints all config None plan points) shelf) where
  pub merged-told : (result : Outcome) (files : Option Files) → OnOk result (Tells (IsCommitted plan) files) → OnOk result (Tells (λ all. Tells (HasMerged all config) files) shelf)
  merged-told (Err e) files committed = tt
  merged-told (Ok u) files committed =
      tells-more (λ all. (points : List Point) × HasPoints all config None plan points) (λ all. Tells (HasMerged all config) files) (λ all h. tells-more (IsCommitted plan) (HasMerged all config) (λ f c. has-merged all config plan is h.0 h.1 f c) files committed) shelf scan

  module _ (octants : List ℕ) (before between : Option Files) (fresh : Tells (HasCurrent None) before) (reads : between ≡ before) where
    pub accepted-told : (result : Outcome) → OnOk result (Tells (WereMergeable plan config.max_nodes octants) between) → OnOk result (Tells (λ all. Tells (λ start. WereMerged all start config octants) before) shelf)
    accepted-told (Err e) accepted = tt
    accepted-told (Ok u) accepted =
        tells-more (λ all. (points : List Point) × HasPoints all config None plan points) (λ all. Tells (λ start. WereMerged all start config octants) before) (λ all h.
        tells-both (HasCurrent None) (WereMergeable plan config.max_nodes octants) (λ start. WereMerged all start config octants) (λ start none m. were-merged all config plan is h.0 h.1 start none deep octants m) before fresh
        (subst (λ (o : Option Files). Tells (WereMergeable plan config.max_nodes octants) o) reads accepted)) shelf scan

    pub refused-told : (result : Outcome) → IfErr result (λ e. Tells (IsPartsFault plan config.max_nodes octants e) between) → IfErr result (λ e. Tells (λ all. Tells (λ start. IsRefused all start config octants e) before) shelf)
    refused-told (Ok u) refused = tt
    refused-told (Err e) refused =
        tells-more (λ all. (points : List Point) × HasPoints all config None plan points) (λ all. Tells (λ start. IsRefused all start config octants e) before) (λ all h.
        tells-both (HasCurrent None) (IsPartsFault plan config.max_nodes octants e) (λ start. IsRefused all start config octants e) (λ start none f. parts-say all config plan is h.0 h.1 start none deep octants e f) before fresh
        (subst (λ (o : Option Files). Tells (IsPartsFault plan config.max_nodes octants e) o) reads refused)) shelf scan

    pub own-told : BodyOnce → ReadInOneWay → PointsCanBeSampled → AreAllParts octants → (result : Outcome) → IfErr result (λ e. Tells (IsPartsFault plan config.max_nodes octants e) between) → (all start : Files) → shelf ≡ Some all → before ≡ Some start → AreOwnParts all config start octants → IfErr result (λ e. ¬ IsPartFault e)
    own-told once read can divided (Ok u) refused all start told_shelf told own = tt
    own-told once read can divided (Err e) refused all start told_shelf told own =
        let h = told_some (λ all. (points : List Point) × HasPoints all config None plan points) shelf all told_shelf scan in
        let f : IsPartsFault plan config.max_nodes octants e start = told_some (IsPartsFault plan config.max_nodes octants e) between start (reads ∙ told) refused in
        parts-not once all start config plan is h.0 h.1 read (scan-can can all plan.kept plan.counts h.0 (scan-kept all config plan is h.0 h.1)) (points-number all config plan is h.0 h.1) octants divided own config.max_nodes e f

    pub ready-told : BodyOnce → ReadInOneWay → PointsCanBeSampled → AreAllParts octants → (result : Outcome) → IfErr result (λ e. Tells (IsPartsFault plan config.max_nodes octants e) between) → Tells (λ all. Tells (λ start. AreReady all start config octants → Ends result) before) shelf
    ready-told once read can divided (Ok u) refused = tells-always _ (λ all. tells-always _ (λ start ready. inl refl) before) shelf
    ready-told once read can divided (Err e) refused =
        tells-more (λ all. (points : List Point) × HasPoints all config None plan points) (λ all. Tells (λ start. AreReady all start config octants → Ends (Err e)) before) (λ all h.
        tells-more (IsPartsFault plan config.max_nodes octants e) (λ start. AreReady all start config octants → Ends (Err e)) (λ start f ready.
        inr (fails (Err e) e refl (parts-fault all start config octants ready plan is h.0 h.1 once read can divided e f))) before
        (subst (λ (o : Option Files). Tells (IsPartsFault plan config.max_nodes octants e) o) reads refused)) shelf scan

-- ---- before that no part is at fault

pub open-not : (start : Files) (e : MergeError) → IsOpenFault start e → ¬ IsPartFault e
open-not start e f (inl d) = subst (λ (w : MergeError). IsOpenFault start w) d.1 f
open-not start e f (inr d) = subst (λ (w : MergeError). IsOpenFault start w) d.2 f

pub plan-not : (all : Files) (config : Config) (e : MergeError) → IsPlanFault all config e → ¬ IsPartFault e
plan-not all config e f (inl d) = subst (λ (w : MergeError). IsPlanFault all config w) d.1 f
plan-not all config e f (inr d) = subst (λ (w : MergeError). IsPlanFault all config w) d.2 f

-- ---- what each refusal says

module _ (config : Config) (octants : List ℕ) (shelf before : Option Files) where
  -- this holds of the inputs and of the folder, if both are visible
  abbrev Tell : (Files → Files → Type 0) → Type 0
  Tell fact = Tells (λ all. Tells (λ start. fact all start) before) shelf

  tell-more : (P Q : Files → Files → Type 0) → ((all start : Files) → P all start → Q all start) → Tell P → Tell Q
  tell-more P Q more told =
      tells-more (λ all. Tells (λ start. P all start) before) (λ all. Tells (λ start. Q all start) before) (λ all. tells-more (λ start. P all start) (λ start. Q all start) (more all) before) shelf told

  pub open-told : (e : MergeError) → Tells (λ start. IsOpenFault start e) before → Tell (λ all start. IsRefused all start config octants e)
  open-told e fault =
      tells-always (λ all. Tells (λ start. IsRefused all start config octants e) before) (λ all. tells-more (λ start. IsOpenFault start e) (λ start. IsRefused all start config octants e) (λ start f. open-says all start config octants e f) before fault) shelf

  pub plan-told : (e : MergeError) → Tells (HasCurrent None) before → Tells (λ all. IsPlanFault all config e) shelf → Tell (λ all start. IsRefused all start config octants e)
  plan-told e fresh fault =
      tells-more (λ all. IsPlanFault all config e) (λ all. Tells (λ start. IsRefused all start config octants e) before) (λ all f. tells-more (HasCurrent None) (λ start. IsRefused all start config octants e) (λ start none. plan-says all start config octants e none f) before fresh) shelf fault

  -- ---- parts that are ready

  abbrev IsDone : Outcome → Type 0
  IsDone r = Tell (λ all start. AreReady all start config octants → Ends r)

  pub open-ready : CurrentIsNotBad → (r : Outcome) (e : MergeError) → r ≡ Err e → Tells (λ start. IsOpenFault start e) before → IsDone r
  open-ready not_bad r e is fault =
      tells-always (λ all. Tells (λ start. AreReady all start config octants → Ends r) before) (λ all. tells-more (λ start. IsOpenFault start e) (λ start. AreReady all start config octants → Ends r) (λ start f ready.
      inr (fails r e is (open-fault all start config octants ready not_bad e f))) before fault) shelf

  pub plan-ready : (r : Outcome) (e : MergeError) → r ≡ Err e → Tells (λ all. IsPlanFault all config e) shelf → IsDone r
  plan-ready r e is fault =
      tells-more (λ all. IsPlanFault all config e) (λ all. Tells (λ start. AreReady all start config octants → Ends r) before) (λ all f.
      tells-always (λ start. AreReady all start config octants → Ends r) (λ start ready. inr (fails r e is (plan-fault all start config octants ready e f))) before) shelf fault

  -- ---- so each verdict is reported

  module _ (once : BodyOnce) (one_current : CurrentIsOne) (not_bad : CurrentIsNotBad) where
    abbrev pub TellsVerdict : Outcome → Type 0
    TellsVerdict r = Tell (λ all start. Says once one_current not_bad all start config octants r)

    pub err-verdict : (r : Outcome) (e : MergeError) → r ≡ Err e → Tell (λ all start. IsRefused all start config octants e) → TellsVerdict r
    err-verdict r e is refused =
        tell-more (λ all start. IsRefused all start config octants e) (λ all start. Says once one_current not_bad all start config octants r) (λ all start f. says-refused once one_current not_bad all start config octants r e is f) refused

    pub either-verdict : (r : Outcome) → OnOk r (Tell (λ all start. WereMerged all start config octants)) → IfErr r (λ e. Tell (λ all start. IsRefused all start config octants e)) → TellsVerdict r
    either-verdict (Err e) merged refused = err-verdict (Err e) e refl refused
    either-verdict (Ok u) merged refused =
        tell-more (λ all start. WereMerged all start config octants) (λ all start. Says once one_current not_bad all start config octants (Ok u)) (λ all start m. says-merged once one_current not_bad all start config octants (Ok u) refl m) merged

    pub complete-told : (r : Outcome) → TellsVerdict r → Tell (λ all start. WereMerged all start config octants → Ends r)
    complete-told r says =
        tell-more (λ all start. Says once one_current not_bad all start config octants r) (λ all start. WereMerged all start config octants → Ends r) (λ all start s. completes once one_current not_bad all start config octants r s) says

    pub comes-told : (r : Outcome) → TellsVerdict r → Tell (λ all start. (e : MergeError) → IsDefinite e → IsRefused all start config octants e → Reports e r ⊎ Fails r)
    comes-told r says =
        tell-more (λ all start. Says once one_current not_bad all start config octants r) (λ all start. (e : MergeError) → IsDefinite e → IsRefused all start config octants e → Reports e r ⊎ Fails r) (λ all start s. comes once one_current not_bad all start config octants r s) says
