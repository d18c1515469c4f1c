-- What a result says of each cause.
use Rattle.std.proofs.Common.{◌≡◌, ◌≢◌, ◌∙◌, ◌⊎◌, inl, inr, ℕ, ◌<◌, ◌≤◌, List, refl, sym, ap, subst, arith, Option, Some}
use Rattle.std.specs.Prelude.{Vec, Result, Ok, Err, IsOk, IfOk, IfErr}
use Rattle.std.specs.declared.alloc.Global.{Global}
use Rattle.ept_base.specs.Files.{Files, Tells}
use Rattle.ept_base.specs.declared.errors.PutError.{PutError}
use Rattle.ept_base.specs.declared.errors.PutError.TheVariants as put
use Rattle.ept_point.specs.declared.point.Point.{Point}
use Rattle.ept_space.specs.VoxelKey.{VoxelKey}
use Rattle.ept_config.specs.declared.config.Config.{Config}
use Rattle.ept_config.specs.declared.kept.Kept.{Kept}
use Rattle.ept_scan.specs.declared.scan_error.ScanError.{ScanError}
use Rattle.ept_scan.specs.declared.scan_error.ScanError.TheVariants as scan
use Rattle.ept_meta.specs.declared.fields.Field.{Field}
use Rattle.ept_ckpt.specs.declared.letter.Letter.{Letter}
use Rattle.ept_save.specs.Current.{Current, HasCurrent}
use Rattle.ept_save.specs.declared.error.SaveError.{SaveError}
use Rattle.ept_save.specs.declared.error.SaveError.TheVariants as save
use Rattle.ept_plan.specs.declared.error.PlanError.{PlanError}
use Rattle.ept_plan.specs.declared.error.PlanError.TheVariants as plan
use Rattle.ept_plan.specs.declared.plan.Plan.{Plan}
use Rattle.ept_plan.specs.Plans as plans
use Rattle.ept_plan.specs.Plans.{limits_by}
use Rattle.ept_build.specs.declared.summary.Summary.{Summary}
use Rattle.ept_build.specs.declared.error.BuildError.{BuildError}
use Rattle.ept_build.specs.declared.error.BuildError.TheVariants.{StoreFault, BadCheckpoint, TileDamaged, Differs, SourceFault, BadLas, OutOfBounds, TooManyPoints, NoBounds, SourceChanged, SpillFault, SpillDamaged, TooManyNodes, Memory}
use Rattle.ept_build.specs.Errors.{of_plan, of_scan, of_save, of_put}
use Rattle.ept_build.specs.Building.{HasPoints, IsBuilt, IsRefusedAt, IsEarly, TellsDifference, Fails, node_count}
use Rattle.ept_build.specs.Phases.{IsPhaseFault, IsRoomFault, IsStoreFault, IsEndFault}
use Rattle.ept_build.proofs.Found.{count-once}

-- ---- what the layers below say

pub scan-refused : (shelf : Files) (config : Config) (current : Current) (e : ScanError) → plans.AreRefused shelf config current e → (e ≢ scan.Memory → plans.GoesOn config current) → IsRefusedAt shelf config current (of_scan e)
scan-refused shelf config current scan.SourceFault refused on = tt
scan-refused shelf config current scan.Memory refused on = tt
scan-refused shelf config current scan.NoBounds refused on = (on (λ is. cc), refused)
scan-refused shelf config current (scan.BadLas source fault) refused on = (on (λ is. cc), refused)
scan-refused shelf config current (scan.OutOfBounds source number) refused on = (on (λ is. cc), refused)
scan-refused shelf config current (scan.TooManyPoints source) refused on = (on (λ is. cc), refused)

pub plan-refused : (shelf : Files) (config : Config) (current : Current) (e : PlanError) → plans.IsRefused shelf config current e → IsRefusedAt shelf config current (of_plan e)
plan-refused shelf config current (plan.Differs d) refused = refused
plan-refused shelf config current (plan.Scan e) refused = scan-refused shelf config current e refused.0 refused.1

module _ (r : Result Summary BuildError) where
  pub plan-fails : (e : PlanError) → r ≡ Err (of_plan e) → plans.Stops {T = Plan} (Err e) → Fails r
  plan-fails e is (inl fault) = let same : e ≡ plan.Scan scan.SourceFault = cc in inr (inl (is ∙ ap (λ (w : PlanError). Err (of_plan w)) same))
  plan-fails e is (inr memory) = let same : e ≡ plan.Scan scan.Memory = cc in inr (inr (inr (is ∙ ap (λ (w : PlanError). Err (of_plan w)) same)))

  pub plan-accepted : (e : PlanError) → r ≡ Err (of_plan e) → IsOk {T = Plan} {E = PlanError} (Err e) ⊎ plans.Stops {T = Plan} (Err e) → IsOk r ⊎ Fails r
  plan-accepted e is (inl fine) = absurd (cc)
  plan-accepted e is (inr stops) = inr (plan-fails e is stops)

  pub stores-fails : (e : BuildError) → r ≡ Err e → IsStoreFault e → Fails r
  stores-fails e is (inl fault) = inl (is ∙ ap (λ (w : BuildError). Err w) fault)
  stores-fails e is (inr memory) = inr (inr (inr (is ∙ ap (λ (w : BuildError). Err w) memory)))

  pub room-fails : (e : BuildError) → r ≡ Err e → IsRoomFault e → Fails r
  room-fails e is (inl fault) = inr (inr (inl (is ∙ ap (λ (w : BuildError). Err w) fault)))
  room-fails e is (inr memory) = inr (inr (inr (is ∙ ap (λ (w : BuildError). Err w) memory)))

  -- what is left of the build is refused for a fault, or for too many nodes
  pub phase-accepted : (all : Files) (config : Config) (current : Current) (e : BuildError) → r ≡ Err e → IsPhaseFault e → IsRefusedAt all config current e → (kept : Kept) (points : List Point) → HasPoints all config current kept points → node_count kept points ≤ config.max_nodes → Fails r
  phase-accepted all config current StoreFault is only refused kept points has few = inl is
  phase-accepted all config current SourceFault is only refused kept points has few = inr (inl is)
  phase-accepted all config current Memory is only refused kept points has few = inr (inr (inr is))
  phase-accepted all config current SpillFault is only refused kept points has few = inr (inr (inl is))
  phase-accepted all config current (SpillDamaged was found number) is only refused kept points has few = absurd refused
  phase-accepted all config current TooManyNodes is only refused kept points has few = absurd (omega (arith, refused.many, few, count-once all config current refused.kept kept refused.points points refused.has_points has))
  phase-accepted all config current (TileDamaged key) is only refused kept points has few = absurd refused
  phase-accepted all config current (SourceChanged source number) is only refused kept points has few = absurd refused
  phase-accepted all config current (BadCheckpoint letter) is only refused kept points has few = absurd only
  phase-accepted all config current (Differs field one other) is only refused kept points has few = absurd only
  phase-accepted all config current (BadLas source fault) is only refused kept points has few = absurd only
  phase-accepted all config current (OutOfBounds source number) is only refused kept points has few = absurd only
  phase-accepted all config current (TooManyPoints source) is only refused kept points has few = absurd only
  phase-accepted all config current NoBounds is only refused kept points has few = absurd only

-- a fault of the store says nothing of the files, and is no early cause
pub store-refused : (all : Files) (config : Config) (current : Current) (e : BuildError) → IsStoreFault e → IsRefusedAt all config current e
store-refused all config current e (inl fault) = subst (IsRefusedAt all config current) (sym fault) tt
store-refused all config current e (inr memory) = subst (IsRefusedAt all config current) (sym memory) tt

-- nor does one of the end, if no tile is reported
pub end-refused : (all : Files) (config : Config) (current : Current) (e : BuildError) → IsEndFault e → ((key : VoxelKey) → e ≢ TileDamaged key) → IsRefusedAt all config current e
end-refused all config current e (inl store) none = store-refused all config current e store
end-refused all config current e (inr tile) none = absurd (none tile.0 tile.1)

-- nor does a fault of the room
pub room-refused : (all : Files) (config : Config) (current : Current) (e : BuildError) → IsRoomFault e → IsRefusedAt all config current e
room-refused all config current e (inl fault) = subst (IsRefusedAt all config current) (sym fault) tt
room-refused all config current e (inr memory) = subst (IsRefusedAt all config current) (sym memory) tt

pub put-store : (e : PutError) → IsStoreFault (of_put e)
put-store put.Failed = inl refl
put-store put.Memory = inr refl

pub put-no-source : (e : PutError) → of_put e ≡ SourceFault → ⊥
put-no-source put.Failed is = cc
put-no-source put.Memory is = cc

pub put-no-spill : (e : PutError) → of_put e ≡ SpillFault → ⊥
put-no-spill put.Failed is = cc
put-no-spill put.Memory is = cc

pub put-failed : (e : PutError) → of_put e ≡ StoreFault → e ≡ put.Failed
put-failed put.Failed is = refl
put-failed put.Memory is = absurd (cc)

-- nor is a cause that the phases may have
pub phase-not-early : (e : BuildError) → IsPhaseFault e → IsEarly e → ⊥
phase-not-early StoreFault only early = early
phase-not-early (TileDamaged key) only early = early
phase-not-early SourceFault only early = early
phase-not-early (SourceChanged source number) only early = early
phase-not-early SpillFault only early = early
phase-not-early (SpillDamaged kept found number) only early = early
phase-not-early TooManyNodes only early = early
phase-not-early Memory only early = early
phase-not-early (BadCheckpoint letter) only early = only
phase-not-early (Differs field one_text other) only early = only
phase-not-early (BadLas source fault) only early = only
phase-not-early (OutOfBounds source number) only early = only
phase-not-early (TooManyPoints source) only early = only
phase-not-early NoBounds only early = only

-- what is left of the build is accepted, or fails
pub built-accepted : (r : Result Summary BuildError) (all : Files) (config : Config) (current : Current) → IfErr r IsPhaseFault → IfErr r (IsRefusedAt all config current) → (kept : Kept) (points : List Point) → HasPoints all config current kept points → node_count kept points ≤ config.max_nodes → IsOk r ⊎ Fails r
built-accepted (Ok summary) all config current only refused kept points has few = inl refl
built-accepted (Err e) all config current only refused kept points has few = inr (phase-accepted (Err e) all config current e refl only refused kept points has few)

-- ---- when a refusal comes

module _ (r : Result Summary BuildError) where
  pub plan-only : (e : PlanError) → r ≡ Err (of_plan e) → IsOk {T = Plan} {E = PlanError} (Err e) ⊎ plans.Stops {T = Plan} (Err e) → Fails r
  plan-only e is (inl fine) = absurd (cc)
  plan-only e is (inr stops) = plan-fails r e is stops

  pub plan-differs : (e : PlanError) → r ≡ Err (of_plan e) → plans.TellsDifference {T = Plan} (Err e) → TellsDifference r ⊎ Fails r
  plan-differs e is (inl (d, same)) = let told : e ≡ plan.Differs d = cc in inl (d.field, d.kept, d.given, is ∙ ap (λ (w : PlanError). Err (of_plan w)) told)
  plan-differs e is (inr memory) = let told : e ≡ plan.Scan scan.Memory = cc in inr (inr (inr (inr (is ∙ ap (λ (w : PlanError). Err (of_plan w)) told))))

-- an opened store has no bad checkpoint
pub opened-not-bad : {X : Type 0} (x : X) (e : SaveError) → (◌≡◌ {A = Result X SaveError} (Ok x) (Err e)) ⊎ (◌≡◌ {A = Result X SaveError} (Ok x) (Err save.StoreFault)) ⊎ (◌≡◌ {A = Result X SaveError} (Ok x) (Err save.Memory)) → ⊥
opened-not-bad x e (inl is) = cc
opened-not-bad x e (inr (inl is)) = cc
opened-not-bad x e (inr (inr is)) = cc

-- a plan is no refusal
pub plan-is-ok : (p : Plan) (e : PlanError) → (◌≡◌ {A = Result Plan PlanError} (Ok p) (Err e)) ⊎ plans.Stops {T = Plan} (Ok p) → ⊥
plan-is-ok p e (inl is) = cc
plan-is-ok p e (inr (inl is)) = cc
plan-is-ok p e (inr (inr is)) = cc

pub put-not-bad : (e : PutError) (letter : Letter) → of_put e ≡ BadCheckpoint letter → ⊥
put-not-bad put.Failed letter is = cc
put-not-bad put.Memory letter is = cc

pub put-no-difference : (e : PutError) (field : Field) (kept given : Vec ℕ Global) → of_put e ≡ Differs field kept given → ⊥
put-no-difference put.Failed field kept given is = cc
put-no-difference put.Memory field kept given is = cc

-- what is left of the build has too many nodes, or fails
pub built-many : (r : Result Summary BuildError) (all : Files) (config : Config) (current : Current) (start : Files) (files : Option Files) (now : Files) → files ≡ Some now → IfErr r IsPhaseFault → IfErr r (IsRefusedAt all config current) → IfOk r (λ s. s.nodes ≤ config.max_nodes) → IfOk r (λ s. Tells (IsBuilt all config start s) files) → ((other : Current) → HasCurrent other start → other ≡ current) → (kept : Kept) (points : List Point) → HasPoints all config current kept points → config.max_nodes < node_count kept points → (r ≡ Err TooManyNodes) ⊎ Fails r
built-many (Ok s) all config current start files now told only refused few built one kept points has many =
    let is = subst (λ (w : Option Files). Tells (IsBuilt all config start s) w) told built in
    let its : HasPoints all config current is.kept is.points = subst (λ (w : Current). HasPoints all config w is.kept is.points) (one is.current is.has_current) is.has_points in
    absurd (omega (arith, few, many, is.nodes_are, count-once all config current is.kept kept is.points points its has))
built-many (Err e) all config current start files now told only refused few built one kept points has many = by e only refused
  where
    by : (e : BuildError) → IsPhaseFault e → IsRefusedAt all config current e → (◌≡◌ {A = Result Summary BuildError} (Err e) (Err TooManyNodes)) ⊎ Fails (Err e)
    by TooManyNodes only refused = inl refl
    by StoreFault only refused = inr (inl refl)
    by SourceFault only refused = inr (inr (inl refl))
    by Memory only refused = inr (inr (inr (inr refl)))
    by SpillFault only refused = inr (inr (inr (inl refl)))
    by (SpillDamaged was found number) only refused = absurd refused
    by (TileDamaged key) only refused = absurd refused
    by (SourceChanged source number) only refused = absurd refused
    by (BadCheckpoint letter) only refused = absurd only
    by (Differs field one_text other) only refused = absurd only
    by (BadLas source fault) only refused = absurd only
    by (OutOfBounds source number) only refused = absurd only
    by (TooManyPoints source) only refused = absurd only
    by NoBounds only refused = absurd only

-- equal refusals are of one cause
pub err-one : {T : Type 0} {e f : BuildError} → (◌≡◌ {A = Result T BuildError} (Err e) (Err f)) → e ≡ f
err-one same = cc

-- ---- a cause that is no want of nodes

pub save-not-many : (e : SaveError) → of_save e ≡ TooManyNodes → ⊥
save-not-many save.StoreFault is = cc
save-not-many (save.BadCheckpoint letter) is = cc
save-not-many (save.TileDamaged key) is = cc
save-not-many save.Memory is = cc

scan-not-many : (e : ScanError) → of_scan e ≡ TooManyNodes → ⊥
scan-not-many scan.SourceFault is = cc
scan-not-many (scan.BadLas source fault) is = cc
scan-not-many (scan.OutOfBounds source number) is = cc
scan-not-many (scan.TooManyPoints source) is = cc
scan-not-many scan.NoBounds is = cc
scan-not-many scan.Memory is = cc

pub plan-not-many : (e : PlanError) → of_plan e ≡ TooManyNodes → ⊥
plan-not-many (plan.Differs d) is = cc
plan-not-many (plan.Scan e) is = scan-not-many e is

pub put-not-many : (e : PutError) → of_put e ≡ TooManyNodes → ⊥
put-not-many put.Failed is = cc
put-not-many put.Memory is = cc

pub store-not-many : (e : BuildError) → IsStoreFault e → e ≡ TooManyNodes → ⊥
store-not-many e (inl fault) is = let same : StoreFault ≡ TooManyNodes = sym fault ∙ is in cc
store-not-many e (inr memory) is = let same : Memory ≡ TooManyNodes = sym memory ∙ is in cc

pub end-not-many : (e : BuildError) → IsEndFault e → e ≡ TooManyNodes → ⊥
end-not-many e (inl store) is = store-not-many e store is
end-not-many e (inr tile) is = let same : TileDamaged tile.0 ≡ TooManyNodes = sym tile.1 ∙ is in cc

pub room-not-many : (e : BuildError) → IsRoomFault e → e ≡ TooManyNodes → ⊥
room-not-many e (inl fault) is = let same : SpillFault ≡ TooManyNodes = sym fault ∙ is in cc
room-not-many e (inr memory) is = let same : Memory ≡ TooManyNodes = sym memory ∙ is in cc

pub store-no-source : (e : BuildError) → IsStoreFault e → e ≡ SourceFault → ⊥
store-no-source e (inl fault) is = let same : StoreFault ≡ SourceFault = sym fault ∙ is in cc
store-no-source e (inr memory) is = let same : Memory ≡ SourceFault = sym memory ∙ is in cc

pub end-no-source : (e : BuildError) → IsEndFault e → e ≡ SourceFault → ⊥
end-no-source e (inl store) is = store-no-source e store is
end-no-source e (inr tile) is = let same : TileDamaged tile.0 ≡ SourceFault = sym tile.1 ∙ is in cc
