-- The end of a build: the output is put while the done gate is closed, and the gate is then opened.
use Rattle.std.proofs.Common.{◌≡◌, ◌∙◌, inl, inr, ℕ, List, length, take, refl, sym, ap, subst, Option, Some, None}
use Rattle.std.specs.Prelude.{All, Contains}
use Rattle.std.specs.List.{AllZip}
use Rattle.ept_base.specs.Files.{Files, StepsBy, Tells}
use Rattle.ept_base.specs.Moves.{Moves}
use Rattle.ept_point.specs.declared.point.Point.{Point}
use Rattle.ept_space.specs.declared.bounds.Bounds.{Bounds}
use Rattle.ept_space.specs.VoxelKey.{VoxelKey}
use Rattle.ept_sample.specs.declared.tiles.Tile.{Tile}
use Rattle.ept_sample.specs.Nodes.{sampled}
use Rattle.ept_config.specs.declared.kept.Kept.{Kept}
use Rattle.ept_config.specs.declared.source_count.SourceCount.{SourceCount}
use Rattle.ept_config.specs.Extents.{HasExtent}
use Rattle.ept_config.specs.Counts.{IsCountOf}
use Rattle.ept_scan.specs.Scans.{in_order}
use Rattle.ept_scan.specs.Opening.{IsKeptScan}
use Rattle.ept_scan.proofs.OneScan.{scan_once}
use Rattle.ept_ckpt.specs.declared.letter.Letter.{Letter}
use Rattle.ept_ckpt.specs.declared.node_line.NodeLine.{NodeLine}
use Rattle.ept_ckpt.specs.declared.checkpoint.Checkpoint.{Checkpoint}
use Rattle.ept_meta.specs.Output.{File, IsOutput, IsOutputName, EachIsOutsideWork, AreCountsOf, rules_of, names_of, files_of, output}
use Rattle.ept_meta.specs.OutputLaws.{OutputIsOne, FilesHaveOutputNames}
use Rattle.ept_point.specs.declared.layout.Layout.{Layout}
use Rattle.ept_point.specs.declared.layout.Layout.TheVariants.{New}
use Rattle.ept_ckpt.specs.Versions.{layout_of}
use Rattle.ept_save.specs.Names.{gate_name, body_name, done_name, IsSavedName}
use Rattle.ept_save.specs.Current.{Current, HasCurrent, tile_of_line}
use Rattle.ept_save.specs.Complete.{HasAllOf, IsComplete}
use Rattle.ept_save.specs.Done.{IsDone, IsGuarded, Guards}
use Rattle.ept_save.specs.Loading.{HasLine, IsDamaged}
use Rattle.ept_save.specs.Opening.{lines_of}
use Rattle.ept_save.specs.Sound.{HasPointsOf, IsSavedAs}
use Rattle.ept_save.specs.SoundLaws.{IsPublished, DoneIsComplete, GuardingKeepsSound, PuttingKeepsSound}
use Rattle.ept_save.specs.View.{View, StandsFor}
use Rattle.ept_save.proofs.DamagedTiles.{damaged-before}
use Rattle.ept_save.proofs.Keeping.{has_current-same}
use Rattle.ept_save.proofs.NamesDiffer.{done-gate, done-body}
use Rattle.ept_save.proofs.ScanCounts.{scan_each, scan_counted}
use Rattle.ept_save.proofs.SoundFiles.{sound-at}
use Rattle.ept_save.proofs.Standing.{stepped, in-images, told_some}
use Rattle.ept_save.proofs.WorkNames.{outside-saved, outside-done}
use Rattle.ept_publish.specs.Lines.{output_names, NamesTiles}
use Rattle.ept_publish.specs.Publishing.{PutsAll, SameButThese}
use Rattle.ept_publish.specs.PublishingLaws.{OutputIsThere}
use Rattle.ept_publish.proofs.Copying.{counted-same, names-same, saved-stays}
use Rattle.ept_plan.specs.declared.plan.Plan.{Plan}
use Rattle.ept_plan.specs.Plans.{IsOf}
use Rattle.ept_build.specs.Phases.{IsSoundUndone, IsSoundAt, AreOfShelf, IsOnWay, HasDamage}
use Rattle.ept_build.proofs.Fronts.{all-front}
use Rattle.ept_build.proofs.Moved.{AllAre, all-images, all-after, moves-after, moves-then}
use Rattle.ept_build.proofs.PhaseSound.{scan-of}

-- the counts of a plan are those of the points
pub counts-of : (shelf : Files) (plan : Plan) (points : List Point) → IsKeptScan shelf plan.kept plan.counts points → AreCountsOf plan.kept points plan.counts
counts-of shelf plan points scan = record {
  each = scan_each shelf plan.kept.scale (Some plan.kept.bounds) plan.kept.inputs points _ scan;
  counted = scan_counted shelf plan.kept.scale (Some plan.kept.bounds) plan.kept.inputs points _ scan;
}

pub extent-of : (shelf : Files) (plan : Plan) (points : List Point) (extent : Option Bounds) → IsKeptScan shelf plan.kept plan.counts points → ((lists : List (List Point)) → AllZip IsCountOf lists plan.counts → HasExtent (in_order lists) extent) → HasExtent points extent
extent-of shelf plan points extent scan found = subst (λ (w : List Point). HasExtent w extent) (sym scan.points_are) (found scan.lists scan.counts_are)

all_at : {X : Type 0} (P : X → Type 0) (xs : List X) (x : X) → All P xs → Contains xs x → P x
all_at P xs x every among = subst P among.2 (every among.0 x among.1)

module _ (one_output : OutputIsOne) (have_names : FilesHaveOutputNames) (outside : EachIsOutsideWork) (there : OutputIsThere) (putting : PuttingKeepsSound) (guarding : GuardingKeepsSound) (shelf : Files) (plan : Plan) (points : List Point) (out : List File) (are : AreOfShelf shelf plan points out) (number : length points ≡ plan.points) (extent : Option Bounds) (has_extent : HasExtent points extent) (letter : Letter) (c : Checkpoint) (is_of : IsOf plan (Some (letter, c))) (all_in : c.inserted ≡ plan.points) (newest : layout_of c.version ≡ New) where
  abbrev current : Current
  current = Some (letter, c)

  abbrev pub tiles : List Tile
  tiles = sampled (rules_of plan.kept) points

  abbrev pub put_files : List File
  put_files = files_of plan.kept plan.counts extent plan.points tiles

  abbrev its_output : List File
  its_output = output plan.kept plan.counts extent points

  is_its : put_files ≡ its_output
  is_its = ap (λ (n : ℕ). files_of plan.kept plan.counts extent n tiles) (sym number)

  its_is_output : IsOutput plan.kept points its_output
  its_is_output = record { counts = plan.counts; are_counts = counts-of shelf plan points are.scan; extent = extent; has_extent = has_extent; files_are = refl }

  out_is : its_output ≡ out
  out_is = one_output plan.kept points its_output out its_is_output are.is_output

  scan : HasPointsOf shelf c points
  scan = scan-of shelf plan points c is_of.0 is_of.1 are.scan

  is_output : IsOutput c.kept points out
  is_output = subst (λ (k : Kept). IsOutput k points out) (sym is_of.0) are.is_output

  -- the names that change are those of the output
  its_change : (old new : Files) → SameButThese (names_of put_files) old new → SameButThese (names_of out) old new
  its_change old new = subst (λ (w : List File). SameButThese (names_of w) old new) (is_its ∙ out_is)

  name_outside : (name : List ℕ) → Contains (names_of out) name → IsOutputName name
  name_outside name among = all_at IsOutputName (names_of out) name (have_names plan.kept points out are.is_output) among

  saved_stays : (old new : Files) → SameButThese (names_of out) old new → (name : List ℕ) → IsSavedName name → new name ≡ old name
  saved_stays old new change name saved = change name (λ among. outside-saved name (outside name (name_outside name among)) saved)

  done_stays : (old new : Files) → SameButThese (names_of out) old new → new done_name ≡ old done_name
  done_stays old new change = change done_name (λ among. outside-done done_name (outside done_name (name_outside done_name among)) refl)

  -- sound files with this current checkpoint, and a closed gate
  pub record Is (files : Files) : Type 0 where
    pub undone : IsSoundUndone shelf files
    pub has : HasCurrent current files

  -- the checkpoint's lines name the tiles of the sampling
  pub names-tiles : (files : Files) → Is files → NamesTiles files current tiles
  names-tiles files is =
      let its = sound-at shelf files current is.has is.undone.sound in
      let same : its.0 ≡ points = scan_once shelf c.kept.scale (Some c.kept.bounds) c.kept.inputs 0 its.0 points _ _ its.1.scan scan in
      let whole : take c.inserted its.0 ≡ points = ap (take c.inserted) same ∙ all-front points c.inserted (number ∙ sym all_in) in
      subst (λ (k : Kept). AllZip (IsSavedAs New files) (sampled (rules_of k) points) c.nodes) is_of.0
      (subst (λ (w : List Point). AllZip (IsSavedAs New files) (sampled (rules_of c.kept) w) c.nodes) whole
      (subst (λ (w : Layout). AllZip (IsSavedAs w files) (sampled (rules_of c.kept) (take c.inserted its.0)) c.nodes) newest its.1.nodes))

  pub put-keeps : (old new : Files) → Is old → SameButThese (names_of put_files) old new → Is new
  put-keeps old new is named = record {
    undone = record {
      sound = putting shelf old new letter c points out is.has scan is_output is.undone.undone change is.undone.sound;
      undone = λ done. is.undone.undone (sym (done_stays old new change) ∙ done);
    };
    has = has_current-same current old new (λ l. saved_stays old new change (gate_name l) (inl (l, refl))) (λ l. saved_stays old new change (body_name l) (inr (inl (l, refl)))) is.has;
  }
    where
      change : SameButThese (names_of out) old new
      change = its_change old new named

  pub published : (old now : Files) → PutsAll put_files old now → IsPublished shelf current now
  published old now puts = (points, out, scan, is_output, record { inserted = all_in ∙ sym number; newest = newest; there = all_there })
    where
      all_there : HasAllOf out now
      all_there = subst (λ (w : List File). HasAllOf w now) out_is (there plan.kept plan.counts extent points old now are.can (subst (λ (w : List File). PutsAll w old now) is_its puts))

  pub open-keeps : (now old new : Files) → IsPublished shelf current now → Is old → Guards now old new → IsSoundAt shelf current new
  open-keeps now old new its is guards = record {
    sound = guarding shelf now old new current is.has its guards is.undone.sound;
    has = has_current-same current old new (λ l. guards.others (gate_name l) (λ same. done-gate l (sym same))) (λ l. guards.others (body_name l) (λ same. done-body l (sym same))) is.has;
  }

  pub end-complete : DoneIsComplete → (files : Files) → IsSoundAt shelf current files → IsDone files → IsComplete plan.kept points files
  end-complete complete files is done =
      let it = complete shelf files letter c is.has is.sound done in
      let same : it.0 ≡ points = scan_once shelf c.kept.scale (Some c.kept.bounds) c.kept.inputs 0 it.0 points _ _ it.1 scan in
      subst (λ (k : Kept). IsComplete k points files) is_of.0 (subst (λ (w : List Point). IsComplete c.kept w files) same it.3)

  -- ---- the calls of the store

  module _ {D : Type 0} (files : D → Option Files) (may_leave : D → Files → Type 0) (moment : D → ℕ) (image_since : D → ℕ → Files → Type 0) (zero : D) (reads : Tells (may_leave zero) (files zero)) (view : View) (is_current : view.current ≡ current) (way : IsOnWay shelf points out view (files zero) (may_leave zero)) where
    pub all_zero : AllAre files may_leave moment image_since Is zero
    all_zero = all-images files may_leave moment image_since Is zero reads (λ image may. record {
      undone = way.sound image may;
      has = subst (λ (w : Current). HasCurrent w image) is_current ((in-images view (files zero) (may_leave zero) way.stands).current image may);
    })

    -- so what is put is the output
    pub named : NamesTiles way.stands.all view.current tiles
    named = subst (λ (w : Current). NamesTiles way.stands.all w tiles) (sym is_current) (names-tiles way.stands.all (told_some Is (files zero) way.stands.all way.stands.told all_zero.read))

    module _ (one : D) (changes : Moves files may_leave moment image_since (SameButThese (output_names plan.kept (lines_of view.current))) zero one) where
      abbrev moved : Moves files may_leave moment image_since (SameButThese (names_of put_files)) zero one
      moved =
          subst (λ (w : List (List ℕ)). Moves files may_leave moment image_since (SameButThese w) zero one)
          (sym (names-same plan.kept plan.counts extent plan.points tiles (lines_of view.current) (counted-same way.stands.all tiles (lines_of view.current) named))) changes

      abbrev pub all_one : AllAre files may_leave moment image_since Is one
      all_one = all-after files may_leave moment image_since Is (SameButThese (names_of put_files)) zero one Is put-keeps all_zero moved

      at_view : (a : Files) → IsSoundAt shelf current a → IsSoundAt shelf view.current a
      at_view a is = subst (λ (w : Current). IsSoundAt shelf w a) (sym is_current) is

      pub put-moves : Moves files may_leave moment image_since (λ (a b : Files). IsSoundAt shelf view.current b) zero one
      put-moves = moves-after files may_leave moment image_since Is (SameButThese (names_of put_files)) zero one (IsSoundAt shelf view.current) (λ a b is change. let its = put-keeps a b is change in at_view b (record { sound = its.undone.sound; has = its.has })) all_zero moved

      abbrev pub then : (now : Files) × (files one ≡ Some now) × SameButThese (names_of put_files) way.stands.all now
      then = stepped (SameButThese (names_of put_files)) (files zero) (files one) way.stands.all way.stands.told moved.reads

      abbrev pub put-guarded : IsGuarded (files one) (may_leave one)
      put-guarded = record {
        all = then.0;
        told = then.1;
        stable = λ some may done image im. absurd ((all_one.images some may).undone.undone done);
      }

      module _ (puts : StepsBy (PutsAll put_files) (files zero) (files one)) (two : D) (opens : Moves files may_leave moment image_since (Guards then.0) one two) where
        pub has_put : PutsAll put_files way.stands.all then.0
        has_put = of (files zero) (files one) way.stands.told then.1 puts
          where
            of : (a b : Option Files) → a ≡ Some way.stands.all → b ≡ Some then.0 → StepsBy (PutsAll put_files) a b → PutsAll put_files way.stands.all then.0
            of a b is also step = subst (λ (w : Option Files). StepsBy (PutsAll put_files) (Some way.stands.all) w) also (subst (λ (w : Option Files). StepsBy (PutsAll put_files) w b) is step)

        abbrev pub its_published : IsPublished shelf current then.0
        its_published = published way.stands.all then.0 has_put

        open-moves : Moves files may_leave moment image_since (λ (a b : Files). IsSoundAt shelf view.current b) one two
        open-moves = moves-after files may_leave moment image_since Is (Guards then.0) one two (IsSoundAt shelf view.current) (λ a b is guards. at_view b (open-keeps then.0 a b its_published is guards)) all_one opens

        pub end-moves : Moves files may_leave moment image_since (λ (a b : Files). IsSoundAt shelf view.current b) zero two
        end-moves = moves-then files may_leave moment image_since (IsSoundAt shelf view.current) zero one two put-moves open-moves

        pub ends-complete : DoneIsComplete → Tells IsDone (files two) → Tells (IsComplete plan.kept points) (files two)
        ends-complete complete done = of (files two) (all-after files may_leave moment image_since Is (Guards then.0) one two (IsSoundAt shelf current) (λ a b is guards. open-keeps then.0 a b its_published is guards) all_one opens).read done
          where
            of : (now : Option Files) → Tells (IsSoundAt shelf current) now → Tells IsDone now → Tells (IsComplete plan.kept points) now
            of None is opened = tt
            of (Some now) is opened = end-complete complete now is opened

-- ---- as the end is called

-- a checkpoint of all inputs is there
pub the-checkpoint : (plan : Plan) (current : Current) → IsOf plan current → (letter : Letter) × (c : Checkpoint) × (current ≡ Some (letter, c)) × IsOf plan (Some (letter, c))
the-checkpoint plan None is = absurd is
the-checkpoint plan (Some (letter, c)) is = (letter, c, refl, is)

-- the files that are put, by what they are made of
pub files-same : (plan : Plan) (extent : Option Bounds) (counts : List SourceCount) (tiles : List Tile) → counts ≡ plan.counts → files_of plan.kept counts extent plan.points tiles ≡ files_of plan.kept plan.counts extent plan.points tiles
files-same plan extent counts tiles same = ap (λ (w : List SourceCount). files_of plan.kept w extent plan.points tiles) same

-- ---- a tile that is reported

-- what is put leaves the current checkpoint and its tiles, so a tile that was damaged is so
pub put-damage : EachIsOutsideWork → (kept : Kept) (lines : List NodeLine) (view : View) (key : VoxelKey) (old new : Option Files) {may : Files → Type 0} → StandsFor view old may → StepsBy (SameButThese (output_names kept lines)) old new → HasLine view.current key → Tells (IsDamaged view.current key) old → HasDamage view.current key new
put-damage outside kept lines view key old None stands moved line damaged = (line, tt)
put-damage outside kept lines view key None (Some b) stands moved line damaged = absurd moved
put-damage outside kept lines view key (Some a) (Some b) stands moved line damaged =
    let stays : (name : List ℕ) → IsSavedName name → b name ≡ a name = saved-stays outside kept lines a b moved in (
      line,
      (
        has_current-same view.current a b (λ l. stays (gate_name l) (inl (l, refl))) (λ l. stays (body_name l) (inr (inl (l, refl)))) (subst (HasCurrent view.current) (some-one (sym stands.told)) stands.has_current),
        damaged-before view.current key b a (λ found is. sym (stays (tile_of_line found) (inr (inr (found.letter, found.key, refl))))) damaged,
      ),
    )
  where
    some-one : {x y : Files} → Some x ≡ Some y → x ≡ y
    some-one is = cc
