-- What a build leaves on its way: sound files, some phases after the start.
use Rattle.std.proofs.Common.{◌≡◌, ◌∙◌, ◌⊎◌, inl, inr, ℕ, ◌<◌, ◌≤◌, length, take, sym, subst, arith, Option, Some, None}
use Rattle.ept_base.specs.Files.{Files, SameFiles, StepsBy, Tells}
use Rattle.ept_base.specs.Moves.{IsSettled, Moves, SameImages}
use Rattle.ept_space.specs.declared.bounds.Bounds.{Bounds}
use Rattle.ept_sample.specs.Nodes.{sampled}
use Rattle.ept_config.specs.declared.config.Config.{Config}
use Rattle.ept_meta.specs.Output.{rules_of}
use Rattle.ept_save.specs.Complete.{IsComplete}
use Rattle.ept_save.specs.Current.{Current, HasCurrent}
use Rattle.ept_save.specs.Sound.{IsSound}
use Rattle.ept_save.specs.SoundLaws.{SameIsSound, DoneIsPublished, GuardingKeepsSound}
use Rattle.ept_save.specs.View.{View, StandsFor}
use Rattle.ept_save.proofs.Standing.{tells_some, settled_some}
use Rattle.ept_plan.specs.declared.plan.Plan.{Plan}
use Rattle.ept_plan.specs.Plans.{inserted_by}
use Rattle.ept_build.specs.Building.{IsUnderWay, IsBuilt, IsStopped, HasTooManyAlready, node_count}
use Rattle.ept_build.specs.Phases.{IsSoundUndone, IsSoundAt, IsSoundTaken, AreMany}
use Rattle.ept_build.specs.Reached.{IsAfter, HasGone, HasTurned, IsTakenUp, IsThrough}
use Rattle.ept_build.proofs.Counting.{after-none}
use Rattle.ept_build.proofs.Ground.{IsGround}
use Rattle.ept_build.proofs.Moved.{moves-two, moves-wider}
use Rattle.ept_build.proofs.Running.{sound-settled, same-moves}
use Rattle.ept_build.proofs.TakenUp.{taken-inserted}

-- the checkpoint of the start
pub under-way-at : (all : Files) (config : Config) (start : Files) (current : Current) → HasCurrent current start → (files : Files) → IsSoundAt all current files → IsUnderWay all config start files
under-way-at all config start current has files at = record { sound = at.sound; current = current; has_current = has; either = inl at.has }

-- a call that changes nothing in a settled store with sound files
pub early-moves : SameIsSound → DoneIsPublished → GuardingKeepsSound → (all : Files) (config : Config) (start : Files) {D : Type 0} (files : D → Option Files) (may_leave : D → Files → Type 0) (moment : D → ℕ) (image_since : D → ℕ → Files → Type 0) (old new : D) → files old ≡ Some start → IsSettled (files old) (may_leave old) → IsSound all start → Moves files may_leave moment image_since SameFiles old new → Moves files may_leave moment image_since (λ (a b : Files). IsUnderWay all config start b) old new
early-moves same_sound published guarding all config start files may_leave moment image_since old new told settled sound moved =
    let current = sound.current in
    moves-wider files may_leave moment image_since (IsSoundAt all current) (IsUnderWay all config start) (under-way-at all config start current sound.has_current) old new
    (same-moves same_sound published guarding all current files may_leave moment image_since old new (sound-settled same_sound published guarding all current files may_leave moment image_since old start told settled sound sound.has_current) moved)

module _ (all start : Files) (config : Config) (current : Current) (plan : Plan) (extent : Option Bounds) (ground : IsGround all start config current plan extent) (has : HasCurrent current start) where
  -- one that was reached
  pub under-way-reached : (base : Current) → IsTakenUp current base → (files : Files) → IsSound all files → HasGone base plan.kept config.checkpoint plan.points files → IsUnderWay all config start files
  under-way-reached base taken files sound gone = record {
    sound = sound;
    current = current;
    has_current = has;
    either = inr (record {
      goes_on = ground.goes_on;
      kept = plan.kept;
      points = ground.points;
      has_points = ground.has_points;
      reached = record { base = base; taken_up = taken; gone = subst (λ (n : ℕ). HasGone base plan.kept config.checkpoint n files) (sym ground.number) gone };
    });
  }

  -- the next one of the same points, if that is taken up
  pub under-way-taken : inserted_by current ≤ plan.points → (files : Files) → IsSoundTaken all current files → IsUnderWay all config start files
  under-way-taken most files at = by at.taken
    where
      by : (at.now ≡ current) ⊎ HasTurned current at.now → IsUnderWay all config start files
      by (inl same) = under-way-at all config start current has files (record { sound = at.sound; has = subst (λ (w : Current). HasCurrent w files) same at.has_now })
      by (inr turned) =
          let inserted : inserted_by at.now ≡ inserted_by current = taken-inserted current at.now (inr turned) in
          under-way-reached at.now (inr turned) files at.sound (record {
            now = at.now;
            has_now = at.has_now;
            phases = 0;
            after = after-none at.now plan.kept config.checkpoint plan.points (omega (arith, inserted, most));
          })

  module _ {D : Type 0} (files : D → Option Files) (may_leave : D → Files → Type 0) (moment : D → ℕ) (image_since : D → ℕ → Files → Type 0) (old new : D) where
    abbrev pub MovesTo : (Files → Type 0) → Type 0
    MovesTo Has = Moves files may_leave moment image_since (λ (a b : Files). Has b) old new

    pub first-moves : inserted_by current ≤ plan.points → MovesTo (IsSoundTaken all current) → MovesTo (IsUnderWay all config start)
    first-moves most = moves-wider files may_leave moment image_since (IsSoundTaken all current) (IsUnderWay all config start) (under-way-taken most) old new

    pub grow-moves : (base : Current) → IsTakenUp current base → MovesTo (IsSoundUndone all) → MovesTo (HasGone base plan.kept config.checkpoint plan.points) → MovesTo (IsUnderWay all config start)
    grow-moves base taken sound gone =
        moves-wider files may_leave moment image_since (λ (b : Files). IsSoundUndone all b × HasGone base plan.kept config.checkpoint plan.points b) (IsUnderWay all config start) (λ b both. under-way-reached base taken b both.0.sound both.1) old new
        (moves-two files may_leave moment image_since (IsSoundUndone all) (HasGone base plan.kept config.checkpoint plan.points) old new sound gone)

    pub end-moves : (base : Current) → IsTakenUp current base → (inputs : ℕ) (now : Current) → IsThrough base plan.kept config.checkpoint plan.points inputs now → MovesTo (IsSoundAt all now) → MovesTo (IsUnderWay all config start)
    end-moves base taken inputs now through =
        moves-wider files may_leave moment image_since (IsSoundAt all now) (IsUnderWay all config start) (λ b at. under-way-reached base taken b at.sound (record { now = now; has_now = at.has; phases = through.phases; after = through.after })) old new

  -- ---- the end

  -- complete files, later by the number of phases that were needed
  pub complete-end : (base : Current) → IsTakenUp current base → (now : Current) → IsThrough base plan.kept config.checkpoint plan.points (length config.inputs) now → (nodes : ℕ) → nodes ≡ node_count plan.kept ground.points → (old new : Option Files) → StepsBy (λ (a b : Files). IsSoundAt all now b) old new → Tells (IsComplete plan.kept ground.points) new → Tells (IsBuilt all config start (record { points = plan.points; nodes = nodes })) new
  complete-end base taken now through nodes counted None None moved complete = tt
  complete-end base taken now through nodes counted None (Some b) moved complete = absurd moved
  complete-end base taken now through nodes counted (Some a) None moved complete = absurd moved
  complete-end base taken now through nodes counted (Some a) (Some b) at complete = record {
    current = current;
    has_current = has;
    goes_on = ground.goes_on;
    kept = plan.kept;
    points = ground.points;
    has_points = ground.has_points;
    complete = complete;
    through = record { base = base; taken_up = taken; now = now; has_now = at.has; through = subst (λ (n : ℕ). IsThrough base plan.kept config.checkpoint n (length config.inputs) now) (sym ground.number) through };
    points_are = sym ground.number;
    nodes_are = counted;
  }

  -- ---- too many nodes

  pub stopped-at : (base : Current) → IsTakenUp current base → (view : View) (files : Option Files) (may_leave : Files → Type 0) → StandsFor view files may_leave → AreMany plan base config.checkpoint config.max_nodes ground.points view.current → Tells (IsStopped all config start) files
  stopped-at base taken view files may_leave stands many =
      tells_some (IsStopped all config start) files stands.all stands.told (record {
        current = current;
        has_current = has;
        goes_on = ground.goes_on;
        kept = plan.kept;
        points = ground.points;
        has_points = ground.has_points;
        reached = record {
          base = base;
          taken_up = taken;
          gone = record {
            now = view.current;
            has_now = stands.has_current;
            phases = many.phases;
            after = subst (λ (n : ℕ). IsAfter base plan.kept config.checkpoint n many.phases view.current) (sym ground.number) many.after;
          };
        };
        few = many.few;
        many = many.many;
      })

  pub too-many-already : plan.inserted ≡ inserted_by current → config.max_nodes < length (sampled (rules_of plan.kept) (take plan.inserted ground.points)) → HasTooManyAlready all config start
  too-many-already same many = record {
    current = current;
    has_current = has;
    kept = plan.kept;
    points = ground.points;
    has_points = ground.has_points;
    many = subst (λ (n : ℕ). config.max_nodes < length (sampled (rules_of plan.kept) (take n ground.points))) same many;
  }

-- a store that stays as it is stays settled
pub settled-stays : (start : Files) (one two : Option Files) (was is : Files → Type 0) → one ≡ Some start → IsSettled one was → (now : Files) → two ≡ Some now → SameFiles start now → SameImages was is → IsSettled two is
settled-stays start one two was is told settled now also same images =
    subst (λ (w : Option Files). IsSettled w is) (sym also) (λ image may name. settled_some one was start told settled image (images.0 image may) name ∙ sym (same name))
