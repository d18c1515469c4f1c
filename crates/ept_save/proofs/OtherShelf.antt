-- Files are sound for each shelf that has the inputs of the current checkpoint.
use Rattle.std.proofs.Common.{◌≡◌, ◌∙◌, ◌+◌, ℕ, List, Some, None, subst}
use Rattle.std.specs.Prelude.{Option, slice_get}
use Rattle.ept_base.specs.Files.{Files}
use Rattle.ept_point.specs.declared.point.Point.{Point}
use Rattle.ept_space.specs.declared.bounds.Bounds.{Bounds}
use Rattle.ept_config.specs.declared.input.Input.{Input}
use Rattle.ept_scan.specs.declared.scan_done.ScanDone.{ScanDone}
use Rattle.ept_scan.specs.Scans.{HasPointsAt, IsScan}
use Rattle.ept_save.specs.Current.{Current}
use Rattle.ept_save.specs.Sound.{IsSoundFor}
use Rattle.ept_save.specs.SoundLaws.{HaveSameInputs, InputsAreEnough}
use Rattle.ept_save.proofs.Newer.{current-one}

module _ (one two : Files) (scale : ℕ) (limits : Option Bounds) (inputs : List Input) (same : (i : ℕ) (input : Input) → slice_get inputs i ≡ Some input → two input.path ≡ one input.path) where
  points-there : (i : ℕ) (points : List Point) → HasPointsAt one scale limits inputs i points → HasPointsAt two scale limits inputs i points
  points-there i points has = record {
    input = has.input;
    reading = has.reading;
    is_input = record { is = has.is_input.is; reading_is = has.is_input.reading_is };
    has = record {
      file = has.has.file;
      content = same i has.input has.is_input.is ∙ has.has.content;
      are = has.has.are;
    };
  }

  scan-there : (from : ℕ) (points : List Point) (done : ScanDone) → IsScan one scale limits inputs from points done → IsScan two scale limits inputs from points done
  scan-there from points done scan = record {
    lists = scan.lists;
    are = record { count = scan.are.count; each = λ k d h. points-there (from + k) _ (scan.are.each k d h) };
    points_are = scan.points_are;
    counts_are = scan.counts_are;
    bounds_are = scan.bounds_are;
  }

sound-there : (one two files : Files) (current : Current) → HaveSameInputs one two current → IsSoundFor one files current → IsSoundFor two files current
sound-there one two files None same sound = sound
sound-there one two files (Some (letter, c)) same sound = (
  sound.0,
  record {
    scan = scan-there one two c.kept.scale (Some c.kept.bounds) c.kept.inputs same 0 sound.0 _ sound.1.scan;
    nodes = sound.1.nodes;
  },
  sound.2,
)

pub inputs-enough : InputsAreEnough
inputs-enough one two files current has same sound = record {
  current = current;
  has_current = has;
  sound = sound-there one two files current same (subst (λ (c : Current). IsSoundFor one files c) (current-one files sound.current current sound.has_current has) sound.sound);
}
