-- A phase keeps the files sound.
use Rattle.std.proofs.Common.{◌≡◌, ◌∙◌, ◌⊎◌, inl, inr, ℕ, List, take, refl, sym, ap, subst, Option, Some, None}
use Rattle.std.specs.Prelude.{Contains}
use Rattle.std.specs.List.{AllZip}
use Rattle.ept_base.specs.Files.{Files, Tells}
use Rattle.ept_base.specs.Moves.{Moves}
use Rattle.ept_point.specs.declared.point.Point.{Point}
use Rattle.ept_sample.specs.Nodes.{sampled}
use Rattle.ept_config.specs.declared.kept.Kept.{Kept}
use Rattle.ept_config.specs.declared.source_count.SourceCount.{SourceCount}
use Rattle.ept_scan.specs.Scans.{IsScan}
use Rattle.ept_scan.specs.Opening.{IsKeptScan}
use Rattle.ept_scan.proofs.OneScan.{scan_once}
use Rattle.ept_ckpt.specs.declared.checkpoint.Checkpoint.{Checkpoint}
use Rattle.ept_table.specs.Octree.{Branch, AreSampled}
use Rattle.ept_meta.specs.Output.{File, IsOutput, rules_of, names_of}
use Rattle.ept_meta.specs.OutputLaws.{OutputIsOne}
use Rattle.ept_point.specs.declared.layout.Layout.{Layout}
use Rattle.ept_point.specs.declared.layout.Layout.TheVariants.{New}
use Rattle.ept_ckpt.specs.Versions.{layout_of}
use Rattle.ept_save.specs.Names.{done_name}
use Rattle.ept_save.specs.Current.{Current, HasCurrent, Keeps}
use Rattle.ept_save.specs.Sound.{HasPointsOf, IsSavedAs, IsSaved, IsSound}
use Rattle.ept_save.specs.SoundLaws.{HasNamesOf, KeepingKeepsSound, CommittingKeepsSound}
use Rattle.ept_save.specs.View.{View, StandsFor, next_letter}
use Rattle.ept_save.proofs.NamesDiffer.{done-apart}
use Rattle.ept_octree_ckpt.specs.Phase.{IsNext, HasNext, GoesOn}
use Rattle.ept_octree_ckpt.specs.Saving.{StillAreSame}
use Rattle.ept_octree_ckpt.specs.SavedLaws.{SampledIsSaved}
use Rattle.ept_plan.specs.declared.plan.Plan.{Plan}
use Rattle.ept_plan.specs.Plans.{IsOf}
use Rattle.ept_save.proofs.Standing.{told_some, in-images}
use Rattle.ept_build.specs.Phases.{IsSoundUndone, AreOfShelf, HasInsertedFirst, IsOnWay}
use Rattle.ept_build.specs.Reached.{HasThisOrNext}
use Rattle.ept_build.proofs.Moved.{AllAre, all-images, all-after, moves-after, moves-none, moves-wider}
use Rattle.ept_build.proofs.Counting.{goes-either}

-- what the shelf has of the plan, it has of a checkpoint with the plan's inputs and counts
pub scan-of : (shelf : Files) (plan : Plan) (points : List Point) (c : Checkpoint) → c.kept ≡ plan.kept → c.counts ≡ plan.counts → IsKeptScan shelf plan.kept plan.counts points → HasPointsOf shelf c points
scan-of shelf plan points c kept counts scan =
    subst (λ (k : Kept). IsScan shelf k.scale (Some k.bounds) k.inputs 0 points (record { counts = c.counts; bounds = k.bounds })) (sym kept)
    (subst (λ (w : List SourceCount). IsScan shelf plan.kept.scale (Some plan.kept.bounds) plan.kept.inputs 0 points (record { counts = w; bounds = plan.kept.bounds })) (sym counts) scan)

module _ (saved : SampledIsSaved) (keeping : KeepingKeepsSound) (committing : CommittingKeepsSound) (shelf : Files) (plan : Plan) (points : List Point) (output : List File) (are : AreOfShelf shelf plan points output) (view : View) (names : HasNamesOf shelf view.current (names_of output)) (inserted : ℕ) (nodes : List Branch) (sampled_nodes : AreSampled (rules_of plan.kept) (take inserted points) nodes) (still : (files : Files) → HasCurrent view.current files → IsSound shelf files → StillAreSame view.current nodes files) where
  next_saved : (old files : Files) (next : HasNext view plan.kept plan.counts inserted nodes old files) → StillAreSame view.current nodes old → IsSaved shelf files next.next points
  next_saved old files next same =
      let c : Checkpoint = next.next in
      let is : IsNext view plan.kept plan.counts inserted nodes c = next.is_next in
      let lines : AllZip (IsSavedAs New files) (sampled (rules_of plan.kept) (take inserted points)) c.nodes = saved New (rules_of plan.kept) files (take inserted points) nodes c.nodes sampled_nodes is.told (next.tiles same) in
      record {
        scan = scan-of shelf plan points c is.kept_is is.counts_are are.scan;
        nodes =
            subst (λ (k : Kept). AllZip (IsSavedAs (layout_of c.version) files) (sampled (rules_of k) (take c.inserted points)) c.nodes) (sym is.kept_is)
            (subst (λ (n : ℕ). AllZip (IsSavedAs (layout_of c.version) files) (sampled (rules_of plan.kept) (take n points)) c.nodes) (sym is.inserted_is)
            (subst (λ (layout : Layout). AllZip (IsSavedAs layout files) (sampled (rules_of plan.kept) (take inserted points)) c.nodes) (sym is.newest) lines));
      }

  pub goes-sound : (old new : Files) → HasCurrent view.current old → IsSoundUndone shelf old → GoesOn view plan.kept plan.counts inserted nodes old new → IsSoundUndone shelf new
  goes-sound old new has was goes = record {
    sound = by goes.either;
    undone = λ done. was.undone (sym (goes.apart done_name done-apart) ∙ done);
  }
    where
      by : Keeps view.current old new ⊎ HasNext view plan.kept plan.counts inserted nodes old new → IsSound shelf new
      by (inl keeps) = keeping shelf old new view.current has keeps was.sound
      by (inr next) =
          committing shelf new old new view.current (next_letter view.current) next.next points output has was.undone (next_saved old new next (still old has was.sound))
          (subst (λ (k : Kept). IsOutput k points output) (sym next.is_next.kept_is) are.is_output) names
          (record { either = inr (record { is_current = next.is_current; tiles = λ name named. refl }); apart = goes.apart }) was.sound

-- the checkpoint of all inputs has the output of the plan alone
pub names-of : OutputIsOne → (shelf : Files) (plan : Plan) (points : List Point) (output : List File) → AreOfShelf shelf plan points output → (current : Current) → IsOf plan current → HasNamesOf shelf current (names_of output)
names-of one shelf plan points output are None is = absurd is
names-of one shelf plan points output are (Some (letter, c)) is = λ others files scan is_output name among.
    let mine : HasPointsOf shelf c points = scan-of shelf plan points c is.0 is.1 are.scan in
    let same : others ≡ points = scan_once shelf c.kept.scale (Some c.kept.bounds) c.kept.inputs 0 others points _ _ scan mine in
    let own : IsOutput plan.kept points files = subst (λ (k : Kept). IsOutput k points files) is.0 (subst (λ (w : List Point). IsOutput c.kept w files) same is_output) in
    subst (λ (w : List File). Contains (names_of w) name) (one plan.kept points files output own are.is_output) among

-- all points that it has inserted are the first of the plan's
pub first-of : (shelf : Files) (plan : Plan) (points : List Point) (output : List File) → AreOfShelf shelf plan points output → (current : Current) → IsOf plan current → HasInsertedFirst shelf current points
first-of shelf plan points output are None is = absurd is
first-of shelf plan points output are (Some (letter, c)) is = λ own scan.
    let mine : HasPointsOf shelf c points = scan-of shelf plan points c is.0 is.1 are.scan in
    ap (take c.inserted) (scan_once shelf c.kept.scale (Some c.kept.bounds) c.kept.inputs 0 own points _ _ scan mine)

-- ---- what is read and each image

-- sound files with this current checkpoint, and a closed done gate
pub record StandsAt (shelf : Files) (view : View) (files : Files) : Type 0 where
  pub has : HasCurrent view.current files
  pub undone : IsSoundUndone shelf files

pub stands-at : {D : Type 0} (files : D → Option Files) (may_leave : D → Files → Type 0) (moment : D → ℕ) (image_since : D → ℕ → Files → Type 0) (shelf : Files) (points : List Point) (output : List File) (view : View) (d : D) → Tells (may_leave d) (files d) → IsOnWay shelf points output view (files d) (may_leave d) → AllAre files may_leave moment image_since (StandsAt shelf view) d
stands-at files may_leave moment image_since shelf points output view d reads way =
    all-images files may_leave moment image_since (StandsAt shelf view) d reads (λ image may. record {
      has = (in-images view (files d) (may_leave d) way.stands).current image may;
      undone = way.sound image may;
    })

module _ (saved : SampledIsSaved) (keeping : KeepingKeepsSound) (committing : CommittingKeepsSound) (shelf : Files) (plan : Plan) (points : List Point) (output : List File) (are : AreOfShelf shelf plan points output) (view : View) (inserted : ℕ) (nodes : List Branch) (sampled_nodes : AreSampled (rules_of plan.kept) (take inserted points) nodes) (still : (files : Files) → HasCurrent view.current files → IsSound shelf files → StillAreSame view.current nodes files) (counts : List SourceCount) (same : counts ≡ plan.counts) {D : Type 0} (files : D → Option Files) (may_leave : D → Files → Type 0) (moment : D → ℕ) (image_since : D → ℕ → Files → Type 0) (old new : D) (reads : Tells (may_leave old) (files old)) (way : IsOnWay shelf points output view (files old) (may_leave old)) (goes : Moves files may_leave moment image_since (GoesOn view plan.kept counts inserted nodes) old new) where
  abbrev its_goes : Moves files may_leave moment image_since (GoesOn view plan.kept plan.counts inserted nodes) old new
  its_goes = subst (λ (w : List SourceCount). Moves files may_leave moment image_since (GoesOn view plan.kept w inserted nodes) old new) same goes

  step : (a b : Files) → StandsAt shelf view a → GoesOn view plan.kept plan.counts inserted nodes a b → IsSoundUndone shelf b
  step a b at goes_on = goes-sound saved keeping committing shelf plan points output are view way.names inserted nodes sampled_nodes still a b at.has at.undone goes_on

  pub phase-moves : Moves files may_leave moment image_since (λ (a b : Files). IsSoundUndone shelf b) old new
  phase-moves = moves-after files may_leave moment image_since (StandsAt shelf view) (GoesOn view plan.kept plan.counts inserted nodes) old new (IsSoundUndone shelf) step (stands-at files may_leave moment image_since shelf points output view old reads way) its_goes

  pub phase-images : (image : Files) → may_leave new image → IsSoundUndone shelf image
  phase-images = (all-after files may_leave moment image_since (StandsAt shelf view) (GoesOn view plan.kept plan.counts inserted nodes) old new (IsSoundUndone shelf) step (stands-at files may_leave moment image_since shelf points output view old reads way) its_goes).images

-- ---- which checkpoint is the current one

module _ {D : Type 0} (files : D → Option Files) (may_leave : D → Files → Type 0) (moment : D → ℕ) (image_since : D → ℕ → Files → Type 0) (view : View) (old : D) (reads : Tells (may_leave old) (files old)) (stands : StandsFor view (files old) (may_leave old)) where
  pub all-current : AllAre files may_leave moment image_since (HasCurrent view.current) old
  all-current = all-images files may_leave moment image_since (HasCurrent view.current) old reads (λ image may. (in-images view (files old) (may_leave old) stands).current image may)

  pub either-moves : (kept : Kept) (counts : List SourceCount) (inserted : ℕ) (nodes : List Branch) (new : D) → Moves files may_leave moment image_since (GoesOn view kept counts inserted nodes) old new → Moves files may_leave moment image_since (λ (a b : Files). HasThisOrNext view.current kept inserted b) old new
  either-moves kept counts inserted nodes new goes =
      moves-after files may_leave moment image_since (HasCurrent view.current) (GoesOn view kept counts inserted nodes) old new (HasThisOrNext view.current kept inserted) (goes-either view kept counts inserted nodes) all-current goes

  -- nothing has moved
  pub none-moves : (More : Files → Type 0) → ((files : Files) → HasCurrent view.current files → More files) → Moves files may_leave moment image_since (λ (a b : Files). More b) old old
  none-moves More goes = moves-wider files may_leave moment image_since (HasCurrent view.current) More goes old old (moves-none files may_leave moment image_since (HasCurrent view.current) old all-current)

-- what is read is sound
pub way-sound : (shelf : Files) (points : List Point) (output : List File) (view : View) (files : Option Files) (may_leave : Files → Type 0) → Tells may_leave files → (way : IsOnWay shelf points output view files may_leave) → IsSoundUndone shelf way.stands.all
way-sound shelf points output view files may_leave reads way = way.sound way.stands.all (told_some may_leave files way.stands.all way.stands.told reads)
