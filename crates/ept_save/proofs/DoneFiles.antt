-- Sound files whose done gate is open are complete.
use Rattle.std.proofs.Common.{◌≡◌, List, length, Some}
use Rattle.ept_base.specs.Files.{Files}
use Rattle.ept_point.specs.declared.point.Point.{Point}
use Rattle.ept_scan.proofs.Ascending.{scan_ascends, scan_origins}
use Rattle.ept_scan.proofs.Scanned.{scan_placed}
use Rattle.ept_ckpt.specs.declared.letter.Letter.{Letter}
use Rattle.ept_ckpt.specs.declared.checkpoint.Checkpoint.{Checkpoint}
use Rattle.ept_save.specs.Current.{HasCurrent}
use Rattle.ept_save.specs.Done.{IsDone}
use Rattle.ept_save.specs.Complete.{IsComplete}
use Rattle.ept_save.specs.Sound.{HasPointsOf, IsWhole, HasAtMost, IsSound}
use Rattle.ept_save.proofs.ScanCounts.{scan_few}
use Rattle.ept_save.proofs.SoundFiles.{sound-at}

pub done-complete : (shelf files : Files) (letter : Letter) (c : Checkpoint) → HasCurrent (Some (letter, c)) files → IsSound shelf files → IsDone files → (points : List Point) × HasPointsOf shelf c points × (c.inserted ≡ length points) × IsComplete c.kept points files
done-complete shelf files letter c has sound done =
    let here = sound-at shelf files (Some (letter, c)) has sound in
    let points : List Point = here.0 in
    let scan : HasPointsOf shelf c points = here.1.scan in
    let most : HasAtMost c points files = here.2 in
    let whole : IsWhole c points most.output files = most.whole done in
    let origins = scan_origins shelf c.kept.scale (Some c.kept.bounds) c.kept.inputs 0 points _ scan in (
      points,
      scan,
      whole.inserted,
      record {
        points_are = record {
          ascend = scan_ascends shelf c.kept.scale (Some c.kept.bounds) c.kept.inputs 0 points _ scan;
          inside = scan_placed shelf c.kept.scale c.kept.inputs (Some c.kept.bounds) 0 points _ scan;
          origins = origins;
          few = scan_few shelf c.kept.scale (Some c.kept.bounds) c.kept.inputs points _ scan c.kept.bounds c.is_checkpoint.counted origins;
        };
        done = done;
        output = most.output;
        is_output = most.is_output;
        there = whole.there;
        no_other = most.no_other;
      },
    )
