-- Sound files stay sound while parts are merged.
use Rattle.std.proofs.Common.{◌≡◌, ◌∙◌, ℕ, List, refl, sym, ap, subst, take, length, arith, Option, Some, None}
use Rattle.std.specs.List.{AllZip}
use Rattle.std.proofs.lemmas.List.{take_all}
use Rattle.ept_base.specs.Files.{Files, SameFiles, Tells, StepsBy}
use Rattle.ept_base.specs.Moves.{Moves, IsSettled}
use Rattle.ept_base.proofs.Moving.{moves_both}
use Rattle.ept_point.specs.declared.layout.Layout.{Layout}
use Rattle.ept_point.specs.declared.layout.Layout.TheVariants.{New}
use Rattle.ept_point.specs.declared.point.Point.{Point}
use Rattle.ept_space.specs.declared.bounds.Bounds.{Bounds}
use Rattle.ept_sample.specs.Nodes.{sampled}
use Rattle.ept_config.specs.declared.kept.Kept.{Kept}
use Rattle.ept_config.specs.declared.source_count.SourceCount.{SourceCount}
use Rattle.ept_config.specs.Counts.{IsCountOf}
use Rattle.ept_config.specs.Extents.{HasExtent}
use Rattle.ept_scan.specs.Scans.{in_order}
use Rattle.ept_scan.specs.Opening.{IsKeptScan}
use Rattle.ept_save.proofs.ScanCounts.{scan_each, scan_counted}
use Rattle.ept_ckpt.specs.declared.letter.Letter.TheVariants.{A}
use Rattle.ept_ckpt.specs.declared.version.BodyVersion.TheVariants.{V3}
use Rattle.ept_ckpt.specs.Versions.{layout_of}
use Rattle.ept_ckpt.specs.declared.checkpoint.Checkpoint.{Checkpoint}
use Rattle.ept_meta.specs.Output.{File, IsOutput, output, rules_of}
use Rattle.ept_save.specs.Current.{Current, HasCurrent, Keeps, Commits}
use Rattle.ept_save.specs.Done.{IsDone}
use Rattle.ept_save.specs.Sound.{IsSavedAs, IsSaved, IsSoundFor, IsSound}
use Rattle.ept_save.specs.SoundLaws.{CurrentIsOne, SameIsSound, KeepingKeepsSound, CommittingKeepsSound}
use Rattle.ept_save.proofs.Moving.{moves_where}
use Rattle.ept_save.proofs.Standing.{settled_some}
use Rattle.ept_merge.proofs.Reading.{files-are, reads-files}

-- ---- what is committed

-- the points of a scan have an output
pub output-of : (shelf : Files) (kept : Kept) (counts : List SourceCount) (points : List Point) (extent : Option Bounds) → IsKeptScan shelf kept counts points → ((lists : List (List Point)) → AllZip IsCountOf lists counts → HasExtent (in_order lists) extent) → (out : List File) × IsOutput kept points out
output-of shelf kept counts points extent scan found = (
  output kept counts extent points,
  record {
    counts = counts;
    are_counts = record {
      each = scan_each shelf kept.scale (Some kept.bounds) kept.inputs points _ scan;
      counted = scan_counted shelf kept.scale (Some kept.bounds) kept.inputs points _ scan;
    };
    extent = extent;
    has_extent = subst (λ (w : List Point). HasExtent w extent) (sym scan.points_are) (found scan.lists scan.counts_are);
    files_are = refl;
  },
)

-- a checkpoint of all points, whose lines are saved, is saved
pub saved-all : (shelf files : Files) (kept : Kept) (counts : List SourceCount) (points : List Point) (c : Checkpoint) → c.version ≡ V3 → c.kept ≡ kept → c.counts ≡ counts → c.inserted ≡ length points → IsKeptScan shelf kept counts points → AllZip (IsSavedAs New files) (sampled (rules_of kept) points) c.nodes → IsSaved shelf files c points
saved-all shelf files kept counts points c version kept_is counts_are inserted scan nodes = record {
  scan =
      subst (λ (w : List SourceCount). IsKeptScan shelf c.kept w points) (sym counts_are)
      (subst (λ (k : Kept). IsKeptScan shelf k counts points) (sym kept_is) scan);
  nodes =
      let all : take c.inserted points ≡ points = take_all c.inserted points (omega (arith, inserted)) in
      let layout : layout_of c.version ≡ New = ap layout_of version in
      subst (λ (l : Layout). AllZip (IsSavedAs l files) (sampled (rules_of c.kept) (take c.inserted points)) c.nodes) (sym layout)
      (subst (λ (w : List Point). AllZip (IsSavedAs New files) (sampled (rules_of c.kept) w) c.nodes) (sym all)
      (subst (λ (k : Kept). AllZip (IsSavedAs New files) (sampled (rules_of k) points) c.nodes) (sym kept_is) nodes));
}

-- ---- the steps

module _ (one : CurrentIsOne) (keeping : KeepingKeepsSound) (committing : CommittingKeepsSound) (shelf : Files) where
  -- the files are sound, and no checkpoint is current
  abbrev pub IsBare : Files → Type 0
  IsBare f = IsSound shelf f × HasCurrent None f

  bare-keeps : (a b : Files) → IsBare a → Keeps None a b → IsBare b
  bare-keeps a b bare keeps = (keeping shelf a b None bare.1 keeps bare.0, keeps.same bare.1)

  not-done : (f : Files) → IsBare f → IsDone f → ⊥
  not-done f bare done =
      let same : bare.0.current ≡ None = one f bare.0.current None bare.0.has_current bare.1 in
      (subst (λ (c : Current). IsSoundFor shelf f c) same bare.0.sound).0 done

  told-on : (old new : Option Files) → Tells IsBare old → StepsBy (Keeps None) old new → Tells IsBare new
  told-on None None bare step = tt
  told-on None (Some new) bare step = absurd step
  told-on (Some old) None bare step = absurd step
  told-on (Some old) (Some new) bare step = bare-keeps old new bare step

  module _ {D : Type 0} (files : D → Option Files) (may_leave : D → Files → Type 0) (moment : D → ℕ) (image_since : D → ℕ → Files → Type 0) where
    abbrev Stays : D → D → Type 0
    Stays old new = Moves files may_leave moment image_since (λ (a : Files) (b : Files). IsSound shelf b) old new

    -- so it is with what is read, and in each image
    pub record HoldsBare (d : D) : Type 0 where
      pub told : Tells IsBare (files d)
      pub images : (image : Files) → may_leave d image → IsBare image

    pub settled-bare : (d : D) (start : Files) → files d ≡ Some start → IsSettled (files d) (may_leave d) → IsBare start → HoldsBare d
    settled-bare d start told settled bare = record {
      told = subst (λ (o : Option Files). Tells IsBare o) (sym told) bare;
      images = λ image may. (
          let same = settled_some (files d) (may_leave d) start told settled image may in
          subst (λ (f : Files). IsBare f) (sym (files-are start image same)) bare);
    }

    pub keeps-bare : (old new : D) → HoldsBare old → Moves files may_leave moment image_since (Keeps None) old new → HoldsBare new
    keeps-bare old new bare moved = record {
      told = told-on (files old) (files new) bare.told moved.reads;
      images = λ image may. let was = moved.leaves image may in bare-keeps was.0 image (bare.images was.0 was.1) was.2;
    }

    pub keeps-sound : (old new : D) → HoldsBare old → Moves files may_leave moment image_since (Keeps None) old new → Stays old new
    keeps-sound old new bare moved =
        moves_where files may_leave moment image_since IsBare (Keeps None) (λ (a : Files) (b : Files). IsSound shelf b) (λ a b its keeps. (bare-keeps a b its keeps).0) old new bare.told bare.images moved

    pub commit-sound : (old new : D) (start : Files) (next : Checkpoint) (points : List Point) (out : List File) → HoldsBare old → IsSaved shelf start next points → IsOutput next.kept points out → Moves files may_leave moment image_since (Commits None A next start) old new → Stays old new
    commit-sound old new start next points out bare saved is_output moved =
        moves_where files may_leave moment image_since IsBare (Commits None A next start) (λ (a : Files) (b : Files). IsSound shelf b)
        (λ a b its commits. committing shelf start a b None A next points out its.1 (not-done a its) saved is_output tt commits its.0) old new bare.told bare.images moved

    pub sound-both : (old mid new : D) → Stays old mid → Stays mid new → Stays old new
    sound-both old mid new =
        moves_both files may_leave moment image_since (λ (a : Files) (b : Files). IsSound shelf b) (λ (a : Files) (b : Files). IsSound shelf b) (λ (a : Files) (b : Files). IsSound shelf b) (λ a b c first second. second) (λ a b first. first) old mid new

module _ {D : Type 0} (files : D → Option Files) (may_leave : D → Files → Type 0) (moment : D → ℕ) (image_since : D → ℕ → Files → Type 0) where
  -- it stays settled
  pub settled-reads : (old new : D) (start : Files) → files old ≡ Some start → IsSettled (files old) (may_leave old) → Moves files may_leave moment image_since SameFiles old new → IsSettled (files new) (may_leave new)
  settled-reads old new start told settled moved =
      subst (λ (o : Option Files). IsSettled o (may_leave new)) (sym (reads-files files may_leave moment image_since old new moved ∙ told)) (λ image may name.
      let was = moved.leaves image may in
      was.2 name ∙ settled_some (files old) (may_leave old) start told settled was.0 was.1 name)

  -- and sound
  pub same-sound : SameIsSound → (shelf : Files) (old new : D) (start : Files) → files old ≡ Some start → IsSettled (files old) (may_leave old) → IsSound shelf start → Moves files may_leave moment image_since SameFiles old new → Moves files may_leave moment image_since (λ (a : Files) (b : Files). IsSound shelf b) old new
  same-sound law shelf old new start told settled sound moved =
      moves_where files may_leave moment image_since (IsSound shelf) SameFiles (λ (a : Files) (b : Files). IsSound shelf b) (λ a b its same. law shelf a b same its) old new
      (subst (λ (o : Option Files). Tells (IsSound shelf) o) (sym told) sound)
      (λ image may. law shelf start image (settled_some (files old) (may_leave old) start told settled image may) sound) moved

  pub stays-both : (shelf : Files) (old mid new : D) → Moves files may_leave moment image_since (λ (a : Files) (b : Files). IsSound shelf b) old mid → Moves files may_leave moment image_since (λ (a : Files) (b : Files). IsSound shelf b) mid new → Moves files may_leave moment image_since (λ (a : Files) (b : Files). IsSound shelf b) old new
  stays-both shelf old mid new =
      moves_both files may_leave moment image_since (λ (a : Files) (b : Files). IsSound shelf b) (λ (a : Files) (b : Files). IsSound shelf b) (λ (a : Files) (b : Files). IsSound shelf b) (λ a b c first second. second) (λ a b first. first) old mid new
