-- What a checkpoint that is taken up has in common with the one before it.
use Rattle.std.proofs.Common.{◌≡◌, ◌∙◌, inl, inr, ℕ, ◌≤◌, true, List, length, take, refl, sym, ap, subst, arith, Some}
use Rattle.std.specs.Prelude.{All}
use Rattle.ept_base.specs.Files.{Files}
use Rattle.ept_point.specs.declared.layout.Layout.TheVariants.{Old}
use Rattle.ept_point.specs.declared.point.Point.{Point}
use Rattle.ept_config.specs.declared.config.Config.{Config}
use Rattle.ept_config.specs.declared.kept.Kept.{Kept}
use Rattle.ept_config.specs.declared.source_count.SourceCount.{SourceCount}
use Rattle.ept_scan.specs.Scans.{IsScan}
use Rattle.ept_ckpt.specs.declared.node_line.NodeLine.{NodeLine}
use Rattle.ept_ckpt.specs.declared.checkpoint.Checkpoint.{Checkpoint}
use Rattle.ept_ckpt.specs.Octree.{is_among}
use Rattle.ept_meta.specs.Output.{IsOutput, rules_of}
use Rattle.ept_save.specs.Current.{Current}
use Rattle.ept_save.specs.Migrating.{IsTurnOf, HasMigrated}
use Rattle.ept_save.specs.Opening.{lines_of}
use Rattle.ept_save.specs.Sound.{HasPointsOf}
use Rattle.ept_save.specs.SoundLaws.{HasNamesOf}
use Rattle.ept_save.specs.Tiles.{IsOfLayout}
use Rattle.ept_save.specs.View.{View}
use Rattle.ept_save.proofs.TurnedLines.{turned-all}
use Rattle.ept_table.specs.Octree.{Branch}
use Rattle.ept_octree_ckpt.specs.Saving.{keys_in, HasEachNodeOf}
use Rattle.ept_plan.specs.declared.plan.Plan.{Plan}
use Rattle.ept_plan.specs.Plans.{inputs_by, inserted_by, RulesStay, IsOf, IsPlan}
use Rattle.ept_build.specs.Phases.{HasInsertedFirst, TakesUp}
use Rattle.ept_build.specs.Reached.{HasTurned, IsTakenUp}

-- ---- numbers

turned-inserted : (from base : Current) → HasTurned from base → inserted_by base ≡ inserted_by from
turned-inserted from base t = ap inserted_by t.is ∙ (t.turns.inserted_is ∙ sym (ap inserted_by t.was))

pub taken-inserted : (from base : Current) → IsTakenUp from base → inserted_by base ≡ inserted_by from
taken-inserted from base (inl same) = ap inserted_by same.1
taken-inserted from base (inr t) = turned-inserted from base t

pub taken-inputs : (from base : Current) → IsTakenUp from base → inputs_by base ≡ inputs_by from
taken-inputs from base (inl same) = ap inputs_by same.1
taken-inputs from base (inr t) = ap inputs_by t.is ∙ (ap (λ (k : Kept). length k.inputs) t.turns.kept_is ∙ sym (ap inputs_by t.was))

-- and no more than the plan has
pub inserted-few : (config : Config) (current : Current) (plan : Plan) → IsPlan config current plan → inserted_by current ≤ plan.points
inserted-few config current plan is = omega (arith, is.inserted_is, is.inserted_most)

-- ---- what is kept

pub taken-of : (plan : Plan) (from base : Current) → IsTakenUp from base → IsOf plan from → IsOf plan base
taken-of plan from base (inl same) is = subst (IsOf plan) (sym same.1) is
taken-of plan from base (inr t) is =
    let of : IsOf plan (Some (t.letter, t.c)) = subst (IsOf plan) t.was is in
    subst (IsOf plan) (sym t.is) (t.turns.kept_is ∙ of.0, t.turns.counts_are ∙ of.1)

points_back : (shelf : Files) (c next : Checkpoint) (points : List Point) → IsTurnOf c next → HasPointsOf shelf next points → HasPointsOf shelf c points
points_back shelf c next points turn scan =
    subst (λ (w : List SourceCount). IsScan shelf c.kept.scale (Some c.kept.bounds) c.kept.inputs 0 points (record { counts = w; bounds = c.kept.bounds })) turn.counts_are
    (subst (λ (k : Kept). IsScan shelf k.scale (Some k.bounds) k.inputs 0 points (record { counts = next.counts; bounds = k.bounds })) turn.kept_is scan)

pub points-on : (shelf : Files) (c next : Checkpoint) (points : List Point) → IsTurnOf c next → HasPointsOf shelf c points → HasPointsOf shelf next points
points-on shelf c next points turn scan =
    subst (λ (k : Kept). IsScan shelf k.scale (Some k.bounds) k.inputs 0 points (record { counts = next.counts; bounds = k.bounds })) (sym turn.kept_is)
    (subst (λ (w : List SourceCount). IsScan shelf c.kept.scale (Some c.kept.bounds) c.kept.inputs 0 points (record { counts = w; bounds = c.kept.bounds })) (sym turn.counts_are) scan)

-- its rules stay
pub taken-rules : (kept : Kept) (from base : Current) → IsTakenUp from base → RulesStay from kept → RulesStay base kept
taken-rules kept from base (inl same) stay = subst (λ (w : Current). RulesStay w kept) (sym same.1) stay
taken-rules kept from base (inr t) stay =
    let its : RulesStay (Some (t.letter, t.c)) kept = subst (λ (w : Current). RulesStay w kept) t.was stay in
    subst (λ (w : Current). RulesStay w kept) (sym t.is) (its.0 ∙ ap rules_of (sym t.turns.kept_is), its.1 ∙ ap (λ (k : Kept). k.step) (sym t.turns.kept_is))

-- the points that it has inserted are the same first ones
pub taken-first : (shelf : Files) (points : List Point) (from base : Current) → IsTakenUp from base → HasInsertedFirst shelf from points → HasInsertedFirst shelf base points
taken-first shelf points from base (inl same) first = subst (λ (w : Current). HasInsertedFirst shelf w points) (sym same.1) first
taken-first shelf points from base (inr t) first =
    let its : HasInsertedFirst shelf (Some (t.letter, t.c)) points = subst (λ (w : Current). HasInsertedFirst shelf w points) t.was first in
    subst (λ (w : Current). HasInsertedFirst shelf w points) (sym t.is)
    (λ own scan. subst (λ (n : ℕ). take n own ≡ take n points) (sym t.turns.inserted_is) (its own (points_back shelf t.c t.next own t.turns scan)))

-- its output has no other names
pub taken-names : (shelf : Files) (names : List (List ℕ)) (from base : Current) → IsTakenUp from base → HasNamesOf shelf from names → HasNamesOf shelf base names
taken-names shelf names from base (inl same) has = subst (λ (w : Current). HasNamesOf shelf w names) (sym same.1) has
taken-names shelf names from base (inr t) has =
    let its : HasNamesOf shelf (Some (t.letter, t.c)) names = subst (λ (w : Current). HasNamesOf shelf w names) t.was has in
    subst (λ (w : Current). HasNamesOf shelf w names) (sym t.is)
    (λ points output scan is name among. its points output (points_back shelf t.c t.next points t.turns scan) (subst (λ (k : Kept). IsOutput k points output) t.turns.kept_is is) name among)

-- its nodes have the same keys
pub taken-each : (nodes : List Branch) (from base : Current) → IsTakenUp from base → HasEachNodeOf from nodes → HasEachNodeOf base nodes
taken-each nodes from base (inl same) each = subst (λ (w : Current). HasEachNodeOf w nodes) (sym same.1) each
taken-each nodes from base (inr t) each =
    let its : HasEachNodeOf (Some (t.letter, t.c)) nodes = subst (λ (w : Current). HasEachNodeOf w nodes) t.was each in
    subst (λ (w : Current). HasEachNodeOf w nodes) (sym t.is)
    (subst (λ (lines : List NodeLine). All (λ (line : NodeLine). is_among (keys_in nodes) line.key ≡ true) lines) (sym t.turns.turned_are)
    (turned-all (λ (line : NodeLine). is_among (keys_in nodes) line.key ≡ true) (λ l is. is) t.c.nodes its))

-- ---- what is known of the checkpoints

pub takes-same : (view : View) → ¬ IsOfLayout Old view.current → TakesUp view view
takes-same view new = record { taken = inl (new, refl); fresh = λ fresh. fresh }

pub takes-migrated : (old new : View) → IsOfLayout Old old.current → HasMigrated old new → TakesUp old new
takes-migrated old new is_old m = record {
  taken = inr (record { letter = m.letter; c = m.c; was = m.was; old = subst (IsOfLayout Old) m.was is_old; next = m.next; turns = m.turns; is = ap (λ (v : View). v.current) m.view_is });
  fresh = λ fresh. ap (λ (v : View). v.lines) m.view_is ∙ sym (ap (λ (v : View). lines_of v.current) m.view_is);
}
