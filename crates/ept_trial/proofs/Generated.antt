-- The point that the record of a generated point holds.
use Rattle.std.proofs.Common.{◌≡◌, ◌∙◌, ℕ, pos, ◌+◌, ◌*◌, ◌/◌, ◌%◌, ◌<◌, sym, ap, arith}
use Rattle.ept_num.specs.Generator.{after}
use Rattle.ept_las.specs.declared.shift.Shift.{Shift}
use Rattle.ept_las.specs.Words.{u16_at}
use Rattle.ept_las.specs.Words.{i8_at, bits}
use Rattle.ept_las.specs.Format.{gps_place, colour_place}
use Rattle.ept_las.specs.Pulses.{return_number_of, number_of_returns_of, scan_direction_of, edge_of, class_of, class_flags_of, channel_of, angle_rank_of, angle_of, source_id_of}
use Rattle.ept_las.specs.PointRecord.{IsPointOf}
use Rattle.ept_point.specs.declared.point.Point.{Point}
use Rattle.ept_trial.specs.Trials.{state, draw, IsTrialPoint}
use Rattle.ept_trial.specs.Scans.{drawn, record_bytes}
use Rattle.ept_trial.proofs.States.{state-next}
use Rattle.ept_trial.proofs.Fields.{KeepsPlaces, x-stored, y-stored, z-stored, intensity-at}

module _ (count n input : ℕ) (few : input < 4) (shift : Shift) (keeps : KeepsPlaces shift) where
  here : ℕ
  here = 4 * n + input

  at-of : ℕ
  at-of = state count (3 * (4 * n + input))

  drawn-next : (k below : ℕ) (s : ℕ) → s ≡ state count (3 * (4 * n + input) + k) → drawn s below ≡ draw count (3 * (4 * n + input) + k) below
  drawn-next k below s is = ap (λ (m : ℕ). drawn m below) is

  one-more : after (state count (3 * (4 * n + input))) ≡ state count (3 * (4 * n + input) + 1)
  one-more = sym (state-next count (3 * (4 * n + input)) (3 * (4 * n + input) + 1) (omega arith))

  two-more : after (after (state count (3 * (4 * n + input)))) ≡ state count (3 * (4 * n + input) + 2)
  two-more = ap after one-more ∙ sym (state-next count (3 * (4 * n + input) + 1) (3 * (4 * n + input) + 2) (omega arith))

  three-more : after (after (after (state count (3 * (4 * n + input))))) ≡ state count (3 * (4 * n + input) + 3)
  three-more = ap after two-more ∙ sym (state-next count (3 * (4 * n + input) + 2) (3 * (4 * n + input) + 3) (omega arith))

  pub point-is : (p : Point) → IsPointOf 0 shift input n (record_bytes (state count (3 * (4 * n + input))) (4 * n + input)) p → IsTrialPoint count (4 * n + input) p
  unfolding record_bytes u16_at i8_at bits return_number_of number_of_returns_of scan_direction_of edge_of class_of class_flags_of channel_of angle_rank_of angle_of source_id_of gps_place colour_place
  point-is p is = record {
    x_is = is.x_is ∙ x-stored shift keeps (state count (3 * (4 * n + input))) (4 * n + input) ∙ ap pos (drawn-next 1 100000 _ one-more);
    y_is = is.y_is ∙ y-stored shift keeps (state count (3 * (4 * n + input))) (4 * n + input) ∙ ap pos (drawn-next 2 100000 _ two-more);
    z_is = is.z_is ∙ z-stored shift keeps (state count (3 * (4 * n + input))) (4 * n + input) ∙ ap pos (drawn-next 3 1000 _ three-more);
    intensity_is = is.intensity_is ∙ intensity-at (state count (3 * (4 * n + input))) (4 * n + input);
    return_number_is = is.return_number_is;
    number_of_returns_is = is.number_of_returns_is;
    scan_direction_is = is.scan_direction_is;
    edge_is = is.edge_is;
    class_is = is.class_is;
    class_flags_is = is.class_flags_is;
    channel_is = is.channel_is;
    angle_rank_is = is.angle_rank_is;
    angle_is = is.angle_is;
    user_is = is.user_is;
    source_id_is = is.source_id_is;
    gps_is = is.gps_is;
    red_is = is.red_is;
    green_is = is.green_is;
    blue_is = is.blue_is;
    origin_is = is.origin_is ∙ (let e : input ≡ (4 * n + input) % 4 = omega (arith, few) in e);
    number_is = is.number_is ∙ (let e : n ≡ (4 * n + input) / 4 = omega (arith, few) in e);
  }
