-- When nothing is to be done, and where the rest of a build begins.
use Rattle.std.proofs.Common.{◌≡◌, ◌∙◌, ◌⊎◌, inl, inr, ℕ, List, length, take, refl, sym, ap, subst, Option, Some, None}
use Rattle.ept_base.specs.Files.{Files, SameFiles, Tells}
use Rattle.ept_base.specs.Moves.{IsSettled, Moves}
use Rattle.ept_point.specs.declared.layout.Layout.TheVariants.{Old}
use Rattle.ept_point.specs.declared.point.Point.{Point}
use Rattle.ept_sample.specs.Nodes.{sampled}
use Rattle.ept_config.specs.declared.config.Config.{Config}
use Rattle.ept_config.specs.declared.input.Input.{Input}
use Rattle.ept_config.specs.declared.kept.Kept.{Kept}
use Rattle.ept_config.specs.KeptOf.{IsKeptOf}
use Rattle.ept_config.specs.Counts.{total}
use Rattle.ept_scan.specs.declared.scan_done.ScanDone.{ScanDone}
use Rattle.ept_scan.specs.Scans.{IsScan}
use Rattle.ept_scan.proofs.OneScan.{scan_once}
use Rattle.ept_ckpt.specs.declared.letter.Letter.{Letter}
use Rattle.ept_ckpt.specs.declared.checkpoint.Checkpoint.{Checkpoint}
use Rattle.ept_meta.specs.Output.{rules_of}
use Rattle.ept_node.specs.Shown.{IsTelling}
use Rattle.ept_ckpt.specs.Versions.{layout_of}
use Rattle.ept_save.specs.Names.{gate_name, body_name}
use Rattle.ept_save.specs.Current.{Current, HasCurrent}
use Rattle.ept_save.specs.Done.{IsDone}
use Rattle.ept_save.specs.Opening.{lines_of}
use Rattle.ept_save.specs.Sound.{HasPointsOf, IsSavedAs, IsSound}
use Rattle.ept_save.specs.SoundLaws.{CurrentIsOne, SameIsSound, DoneIsComplete, DoneIsPublished, IsPublished}
use Rattle.ept_save.specs.Tiles.{IsOfLayout}
use Rattle.ept_save.specs.View.{View, StandsFor}
use Rattle.ept_save.proofs.Keeping.{has_current-same}
use Rattle.ept_save.proofs.SoundFiles.{sound-at}
use Rattle.ept_save.proofs.Standing.{settled_some, same_twice}
use Rattle.ept_save.proofs.TileFiles.{not-old}
use Rattle.ept_plan.specs.declared.plan.Plan.{Plan}
use Rattle.ept_plan.specs.Plans.{IsPlan, IsOf, ScansAll, GoesOn, bounds_or, limits_by, inputs_by, inserted_by}
use Rattle.ept_plan.proofs.Fields.{same-kept}
use Rattle.ept_build.specs.declared.summary.Summary.{Summary}
use Rattle.ept_build.specs.Building.{Starts, IsBuilt, IsUnderWay, HasTooManyAlready, IsStopped, IsDoneAlready}
use Rattle.ept_build.specs.Phases.{HasAll}
use Rattle.ept_build.proofs.Counting.{nothing-needed}
use Rattle.ept_build.proofs.Fronts.{all-front}
use Rattle.ept_build.proofs.Ground.{kept-number}
use Rattle.ept_build.proofs.Numbers.{lines-number}

has_same : (current : Current) (a b : Files) → SameFiles a b → HasCurrent current a → HasCurrent current b
has_same current a b same = has_current-same current a b (λ l. same (gate_name l)) (λ l. same (body_name l))

-- a finished folder is built, as it stands
module _ (same_sound : SameIsSound) (complete : DoneIsComplete) (all start now : Files) (config : Config) where
  of_checkpoint : (letter : Letter) (c : Checkpoint) (plan : Plan) → IsPlan config (Some (letter, c)) plan → IsOf plan (Some (letter, c)) → HasCurrent (Some (letter, c)) start → HasCurrent (Some (letter, c)) now → IsSound all now → c.inserted ≡ plan.points → IsDone now → (nodes : ℕ) → nodes ≡ length c.nodes → IsBuilt all config start (record { points = plan.points; nodes = nodes }) now
  of_checkpoint letter c plan is of has has_now sound inserted done nodes counted =
      let it = complete all now letter c has_now sound done in
      let points : List Point = it.0 in
      let scan : HasPointsOf all c points = it.1 in
      let kept_is : IsKeptOf config c.kept.bounds c.kept = subst (λ (k : Kept). IsKeptOf config k.bounds k) (sym of.0) is.kept_is in
      let found : ScanDone = record { counts = c.counts; bounds = c.kept.bounds } in
      let at_scale : IsScan all config.scale (Some c.kept.bounds) c.kept.inputs 0 points found = subst (λ (k : ℕ). IsScan all k (Some c.kept.bounds) c.kept.inputs 0 points found) kept_is.scale_is scan in
      let at_inputs : IsScan all config.scale (Some c.kept.bounds) config.inputs 0 points found = subst (λ (w : List Input). IsScan all config.scale (Some c.kept.bounds) w 0 points found) kept_is.inputs_is at_scale in
      let its = sound-at all now (Some (letter, c)) has_now sound in
      let same : its.0 ≡ points = scan_once all c.kept.scale (Some c.kept.bounds) c.kept.inputs 0 its.0 points _ _ its.1.scan scan in
      let whole : take c.inserted its.0 ≡ points = ap (take c.inserted) same ∙ all-front points c.inserted (sym it.2) in
      let lines : length c.nodes ≡ length (sampled (rules_of c.kept) (take c.inserted its.0)) = lines-number (IsSavedAs (layout_of c.version) now) (sampled (rules_of c.kept) (take c.inserted its.0)) c.nodes its.1.nodes in
      let newest : ¬ IsOfLayout Old (Some (letter, c)) = not-old (layout_of c.version) (its.2.whole done).newest in
      record {
        current = Some (letter, c);
        has_current = has;
        goes_on = is.goes_on;
        kept = c.kept;
        points = points;
        has_points = record { done = found; scan = at_inputs; kept_is = kept_is };
        complete = it.3;
        through = record { base = Some (letter, c); taken_up = inl (newest, refl); now = Some (letter, c); has_now = has_now; through = nothing-needed (Some (letter, c)) c.kept config.checkpoint (length points) (length config.inputs) it.2 (ap (λ (w : List Input). length w) kept_is.inputs_is) };
        points_are = sym inserted ∙ it.2;
        nodes_are = counted ∙ (lines ∙ ap (λ (w : List Point). length (sampled (rules_of c.kept) w)) whole);
      }

  pub finished-built : (current : Current) (plan : Plan) → IsPlan config current plan → HasCurrent current start → IsSound all start → SameFiles start now → HasAll plan current → IsDone now → (nodes : ℕ) → nodes ≡ length (lines_of current) → IsBuilt all config start (record { points = plan.points; nodes = nodes }) now
  finished-built None plan is has sound same has_all done nodes counted = absurd (is.same has_all.inputs)
  finished-built (Some (letter, c)) plan is has sound same has_all done nodes counted =
      of_checkpoint letter c plan is (is.same has_all.inputs) has (has_same (Some (letter, c)) start now same has) (same_sound all start now same sound) has_all.inserted done nodes counted

-- what is built of the same files is built of these
pub built-from : (all : Files) (config : Config) (start now : Files) → SameFiles start now → (summary : Summary) (files : Option Files) → Tells (IsBuilt all config now summary) files → Tells (IsBuilt all config start summary) files
built-from all config start now same summary None is = tt
built-from all config start now same summary (Some end) is = record {
  current = is.current;
  has_current = has_same is.current now start (λ name. sym (same name)) is.has_current;
  goes_on = is.goes_on;
  kept = is.kept;
  points = is.points;
  has_points = is.has_points;
  complete = is.complete;
  through = is.through;
  points_are = is.points_are;
  nodes_are = is.nodes_are;
}

pub under-way-from : (all : Files) (config : Config) (start now : Files) → SameFiles start now → (files : Files) → IsUnderWay all config now files → IsUnderWay all config start files
under-way-from all config start now same files is = record {
  sound = is.sound;
  current = is.current;
  has_current = has_same is.current now start (λ name. sym (same name)) is.has_current;
  either = is.either;
}

pub many-already-from : (all : Files) (config : Config) (start now : Files) → SameFiles start now → HasTooManyAlready all config now → HasTooManyAlready all config start
many-already-from all config start now same is = record {
  current = is.current;
  has_current = has_same is.current now start (λ name. sym (same name)) is.has_current;
  kept = is.kept;
  points = is.points;
  has_points = is.has_points;
  many = is.many;
}

pub stopped-from : (all : Files) (config : Config) (start now : Files) → SameFiles start now → (files : Option Files) → Tells (IsStopped all config now) files → Tells (IsStopped all config start) files
stopped-from all config start now same None is = tt
stopped-from all config start now same (Some end) is = record {
  current = is.current;
  has_current = has_same is.current now start (λ name. sym (same name)) is.has_current;
  goes_on = is.goes_on;
  kept = is.kept;
  points = is.points;
  has_points = is.has_points;
  reached = is.reached;
  few = is.few;
  many = is.many;
}

pub stops-from : (all : Files) (config : Config) (start now : Files) → SameFiles start now → {D : Type 0} (files : D → Option Files) (may_leave : D → Files → Type 0) (moment : D → ℕ) (image_since : D → ℕ → Files → Type 0) (old mid new : D) → Moves files may_leave moment image_since SameFiles old mid → (HasTooManyAlready all config now × Moves files may_leave moment image_since SameFiles mid new) ⊎ Tells (IsStopped all config now) (files new) → (HasTooManyAlready all config start × Moves files may_leave moment image_since SameFiles old new) ⊎ Tells (IsStopped all config start) (files new)
stops-from all config start now same files may_leave moment image_since old mid new moved (inl already) = inl (many-already-from all config start now same already.0, same_twice files may_leave moment image_since old mid new moved already.1)
stops-from all config start now same files may_leave moment image_since old mid new moved (inr stopped) = inr (stopped-from all config start now same (files new) stopped)

-- the rest of a build begins as the build did
module _ (same_sound : SameIsSound) (all start now : Files) (config : Config) (view : View) (plan : Plan) (has : HasCurrent view.current start) (sound : IsSound all start) (same : SameFiles start now) {D : Type 0} (files : D → Option Files) (may_leave : D → Files → Type 0) (moment : D → ℕ) (image_since : D → ℕ → Files → Type 0) (old new : D) (was : files old ≡ Some start) (settled : IsSettled (files old) (may_leave old)) (told : files new ≡ Some now) (moved : Moves files may_leave moment image_since SameFiles old new) where
  still : (image : Files) → may_leave new image → SameFiles now image
  still image may =
      let earlier = moved.leaves image may in
      λ name. earlier.2 name ∙ (settled_some (files old) (may_leave old) start was settled earlier.0 earlier.1 name ∙ sym (same name))

  pub starts-again : {F : Type 0} (held : F → Option (List ℕ)) → IsTelling held → StandsFor view (files new) (may_leave new) → ScansAll all config view.current plan → Starts held all config view plan now (files new) (may_leave new)
  starts-again held telling stands scans = record {
    spills = telling;
    ready = record {
      told = told;
      settled = subst (λ (w : Option Files). IsSettled w (may_leave new)) (sym told) still;
      sound = same_sound all start now same sound;
      has_current = has_same view.current start now same has;
      stands = stands;
    };
    scans = scans;
  }

-- the checkpoint of a finished folder has all points of all inputs, and no tiles of the old layout
pub done-all : CurrentIsOne → DoneIsPublished → (all start : Files) (config : Config) (current : Current) (plan : Plan) → IsPlan config current plan → HasCurrent current start → IsSound all start → IsDoneAlready config start → HasAll plan current × ¬ IsOfLayout Old current
done-all one published all start config current plan is has sound done = (
  record {
    inserted = at current is has (published all start current has sound done.done) no_more;
    inputs = no_more;
  },
  subst (λ (w : Current). ¬ IsOfLayout Old w) (one start done.current current done.has_current has) done.newest,
)
  where
    no_more : inputs_by current ≡ length plan.kept.inputs
    no_more = ap inputs_by (one start current done.current has done.has_current) ∙ (done.no_more ∙ ap (λ (w : List Input). length w) (sym is.kept_is.inputs_is))

    at : (it : Current) → IsPlan config it plan → HasCurrent it start → IsPublished all it start → inputs_by it ≡ length plan.kept.inputs → inserted_by it ≡ plan.points
    at None is_it has_it pub_it all_in = absurd pub_it
    at (Some (letter, c)) is_it has_it pub_it all_in =
        let of : IsOf plan (Some (letter, c)) = is_it.same all_in in
        let number : length pub_it.0 ≡ total c.counts = kept-number all c.kept c.counts pub_it.0 pub_it.2 in
        pub_it.4.inserted ∙ (number ∙ (ap total of.1 ∙ sym is_it.points_are))

-- the inputs of a finished folder have points, within the bounds that it keeps
pub done-scan : CurrentIsOne → DoneIsPublished → (all start : Files) (config : Config) (current : Current) → HasCurrent current start → IsSound all start → IsDoneAlready config start → GoesOn config current × ((points : List Point) × (done : ScanDone) × IsScan all config.scale (limits_by config.bounds current) config.inputs 0 points done)
done-scan one published all start config current has sound done =
    (goes, at current goes no_more (published all start current has sound done.done))
  where
    same : done.current ≡ current
    same = one start done.current current done.has_current has

    goes : GoesOn config current
    goes = subst (λ (w : Current). GoesOn config w) same done.goes_on

    no_more : inputs_by current ≡ length config.inputs
    no_more = ap inputs_by (sym same) ∙ done.no_more

    at : (it : Current) → GoesOn config it → inputs_by it ≡ length config.inputs → IsPublished all it start → (points : List Point) × (found : ScanDone) × IsScan all config.scale (limits_by config.bounds it) config.inputs 0 points found
    at None on number of = absurd of
    at (Some (letter, c)) (given, is, on) number of =
        let kept_is : IsKeptOf config (bounds_or config.bounds c.kept.bounds) c.kept = subst (λ (k : Kept). IsKeptOf config (bounds_or config.bounds c.kept.bounds) k) (same-kept config c.kept given is on (number ∙ ap (λ (w : List Input). length w) (sym is.inputs_is))) is in
        let found : ScanDone = record { counts = c.counts; bounds = c.kept.bounds } in
        let scan : IsScan all config.scale (Some c.kept.bounds) c.kept.inputs 0 of.0 found = subst (λ (k : ℕ). IsScan all k (Some c.kept.bounds) c.kept.inputs 0 of.0 found) kept_is.scale_is of.2 in
        (of.0, found, subst (λ (w : List Input). IsScan all config.scale (Some c.kept.bounds) w 0 of.0 found) kept_is.inputs_is scan)

-- The checkpoint has all points of all inputs and no tiles of the old layout. If the done gate is open too, nothing is
-- to be done.
pub already-done : (config : Config) (start : Files) (current : Current) (plan : Plan) → IsPlan config current plan → HasCurrent current start → HasAll plan current → IsDone start → ¬ IsOfLayout Old current → IsDoneAlready config start
already-done config start current plan is has all done newest = record {
  done = done;
  current = current;
  has_current = has;
  goes_on = is.goes_on;
  no_more = all.inputs ∙ ap (λ (w : List Input). length w) is.kept_is.inputs_is;
  newest = newest;
}
