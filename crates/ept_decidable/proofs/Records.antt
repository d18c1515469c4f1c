-- The point of a record, if its bytes hold one.
use Rattle.std.proofs.Common.{◌≡◌, ℕ, zero, suc, ◌<◌, ◌≤◌, ◌^◌, ℤ, List, [], ◌∷◌, length, refl, subst, inl, inr, arith, FitsSigned}
use Rattle.std.specs.Prelude.{slice_index}
use Rattle.std.proofs.lemmas.Bool.{cases_lt}
use Rattle.std.specs.Int.{Width}
use lib.Signed.{mag}
use mir.Val.{hbits}
use Rattle.ept_point.specs.declared.point.Point.{Point}
use Rattle.ept_point.specs.Dimensions.{Fits, FitsInSigned, X, Y, Z, Intensity, Classification, ScanAngleRank, ScanAngle, UserData, PointSourceId, Red, Green, Blue, OriginId, PointId, IsWithin, ReturnNumber, NumberOfReturns, ScanDirectionFlag, EdgeOfFlightLine, ClassFlags, ScanChannel}
use Rattle.ept_point.specs.Widths.{FitWidths}
use Rattle.ept_las.specs.declared.shift.Shift.{Shift}
use Rattle.ept_las.specs.Format.{is_extended, gps_place, colour_place}
use Rattle.ept_las.specs.Pulses.{return_number_of, number_of_returns_of, scan_direction_of, edge_of, class_of, class_flags_of, channel_of, angle_rank_of, angle_of, source_id_of}
use Rattle.ept_las.specs.PointRecord.{coordinate, gps_of, colour_of, intensity_of, user_of, IsPointOf}
use Rattle.ept_decidable.proofs.Deciding.{Known, known_and, known_like, known_lt, known_le, known_eq, known_below}

-- ---- the widths of fields

pub known_signed : (w : Width) (z : ℤ) → Known (FitsSigned w z)
known_signed w z = known_like (λ h. record { sfits = h }) (λ (fits : FitsSigned w z). fits.sfits) (known_lt (mag z) (2 ^ hbits w))

past : (gps : List ℕ) (i : ℕ) → length gps ≤ i → slice_index gps i < 2 ^ 8
past [] i h = omega arith
past (g ∷ gps) zero h = absurd (omega (arith, h))
past (g ∷ gps) (suc i) h = past gps i (omega (arith, h))

each_small : (gps : List ℕ) → length gps ≡ 8 → ((i : ℕ) → i < 8 → slice_index gps i < 2 ^ 8) → (i : ℕ) → slice_index gps i < 2 ^ 8
each_small gps size small i = elim (cases_lt i 8) [ inl less ↦ small i less | inr more ↦ past gps i (omega (arith, size, more)) ]

known_eight : (gps : List ℕ) → Known ((length gps ≡ 8) × ((i : ℕ) → slice_index gps i < 2 ^ 8))
known_eight gps =
    known_like (λ h. (h.0, each_small gps h.0 h.1)) (λ h. (h.0, λ i less. h.1 i)) (known_and (known_eq (length gps) 8) (known_below (λ i. known_lt (slice_index gps i) (2 ^ 8)) 8))

module _ (x y z : ℤ) (intensity class : ℕ) (angle_rank angle : ℤ) (user source_id : ℕ) (gps : List ℕ) (red green blue origin number : ℕ) where
  known_first : Known (FitsInSigned X x × (FitsInSigned Y y × (FitsInSigned Z z × (Fits Intensity intensity × Fits Classification class))))
  known_first =
      known_and (known_signed _ x) (known_and (known_signed _ y) (known_and (known_signed _ z) (known_and (known_lt intensity _) (known_lt class _))))

  known_second : Known (FitsInSigned ScanAngleRank angle_rank × (FitsInSigned ScanAngle angle × (Fits UserData user × (Fits PointSourceId source_id × ((length gps ≡ 8) × ((i : ℕ) → slice_index gps i < 2 ^ 8))))))
  known_second =
      known_and (known_signed _ angle_rank) (known_and (known_signed _ angle) (known_and (known_lt user _) (known_and (known_lt source_id _) (known_eight gps))))

  known_third : Known (Fits Red red × (Fits Green green × (Fits Blue blue × (Fits OriginId origin × Fits PointId number))))
  known_third = known_and (known_lt red _) (known_and (known_lt green _) (known_and (known_lt blue _) (known_and (known_lt origin _) (known_lt number _))))

  known_widths : Known (FitWidths x y z intensity class angle_rank angle user source_id gps red green blue origin number)
  known_widths =
      known_like (λ h. record {
        x_fits = h.0.0;
        y_fits = h.0.1.0;
        z_fits = h.0.1.1.0;
        intensity_fits = h.0.1.1.1.0;
        class_fits = h.0.1.1.1.1;
        angle_rank_fits = h.1.0.0;
        angle_fits = h.1.0.1.0;
        user_fits = h.1.0.1.1.0;
        source_id_fits = h.1.0.1.1.1.0;
        gps_length = h.1.0.1.1.1.1.0;
        gps_bytes = h.1.0.1.1.1.1.1;
        red_fits = h.1.1.0;
        green_fits = h.1.1.1.0;
        blue_fits = h.1.1.1.1.0;
        origin_fits = h.1.1.1.1.1.0;
        number_fits = h.1.1.1.1.1.1;
      })
      (λ (w : FitWidths x y z intensity class angle_rank angle user source_id gps red green blue origin number). (
        (w.x_fits, (w.y_fits, (w.z_fits, (w.intensity_fits, w.class_fits)))),
        (
          (w.angle_rank_fits, (w.angle_fits, (w.user_fits, (w.source_id_fits, (w.gps_length, w.gps_bytes))))),
          (w.red_fits, (w.green_fits, (w.blue_fits, (w.origin_fits, w.number_fits)))),
        ),
      ))
      (known_and known_first (known_and known_second known_third))

-- ---- the point

-- what the bytes of a record mean is what a point may have
record MayBePoint (format : ℕ) (shift : Shift) (source number : ℕ) (bytes : List ℕ) : Type 0 where
  pub return_number : IsWithin ReturnNumber (return_number_of (is_extended format) bytes)
  pub number_of_returns : IsWithin NumberOfReturns (number_of_returns_of (is_extended format) bytes)
  pub scan_direction : IsWithin ScanDirectionFlag (scan_direction_of (is_extended format) bytes)
  pub edge : IsWithin EdgeOfFlightLine (edge_of (is_extended format) bytes)
  pub class_flags : IsWithin ClassFlags (class_flags_of (is_extended format) bytes)
  pub channel : IsWithin ScanChannel (channel_of (is_extended format) bytes)
  pub widths : FitWidths (coordinate shift bytes 0) (coordinate shift bytes 1) (coordinate shift bytes 2) (intensity_of bytes) (class_of (is_extended format) bytes) (angle_rank_of (is_extended format) bytes) (angle_of (is_extended format) bytes) (user_of bytes) (source_id_of (is_extended format) bytes) (gps_of (gps_place format) bytes) (colour_of (colour_place format) 0 bytes) (colour_of (colour_place format) 1 bytes) (colour_of (colour_place format) 2 bytes) source number

module _ (format : ℕ) (shift : Shift) (source number : ℕ) (bytes : List ℕ) where
  known_bounds : Known (MayBePoint format shift source number bytes)
  known_bounds =
      known_like (λ h. record { return_number = h.0; number_of_returns = h.1.0; scan_direction = h.1.1.0; edge = h.1.1.1.0; class_flags = h.1.1.1.1.0; channel = h.1.1.1.1.1.0; widths = h.1.1.1.1.1.1 })
      (λ (b : MayBePoint format shift source number bytes). (b.return_number, (b.number_of_returns, (b.scan_direction, (b.edge, (b.class_flags, (b.channel, b.widths)))))))
      (known_and (known_le (return_number_of (is_extended format) bytes) _) (known_and (known_le (number_of_returns_of (is_extended format) bytes) _) (known_and (known_le (scan_direction_of (is_extended format) bytes) _) (known_and (known_le (edge_of (is_extended format) bytes) _) (known_and (known_le (class_flags_of (is_extended format) bytes) _) (known_and (known_le (channel_of (is_extended format) bytes) _) (known_widths (coordinate shift bytes 0) (coordinate shift bytes 1) (coordinate shift bytes 2) (intensity_of bytes) (class_of (is_extended format) bytes) (angle_rank_of (is_extended format) bytes) (angle_of (is_extended format) bytes) (user_of bytes) (source_id_of (is_extended format) bytes) (gps_of (gps_place format) bytes) (colour_of (colour_place format) 0 bytes) (colour_of (colour_place format) 1 bytes) (colour_of (colour_place format) 2 bytes) source number)))))))

  point : MayBePoint format shift source number bytes → Point
  point b = record {
    x = coordinate shift bytes 0;
    y = coordinate shift bytes 1;
    z = coordinate shift bytes 2;
    intensity = intensity_of bytes;
    return_number = return_number_of (is_extended format) bytes;
    number_of_returns = number_of_returns_of (is_extended format) bytes;
    scan_direction = scan_direction_of (is_extended format) bytes;
    edge = edge_of (is_extended format) bytes;
    class = class_of (is_extended format) bytes;
    class_flags = class_flags_of (is_extended format) bytes;
    channel = channel_of (is_extended format) bytes;
    angle_rank = angle_rank_of (is_extended format) bytes;
    angle = angle_of (is_extended format) bytes;
    user = user_of bytes;
    source_id = source_id_of (is_extended format) bytes;
    gps = gps_of (gps_place format) bytes;
    red = colour_of (colour_place format) 0 bytes;
    green = colour_of (colour_place format) 1 bytes;
    blue = colour_of (colour_place format) 2 bytes;
    origin = source;
    number = number;
    return_number_bound = b.return_number;
    number_of_returns_bound = b.number_of_returns;
    scan_direction_bound = b.scan_direction;
    edge_bound = b.edge;
    class_flags_bound = b.class_flags;
    channel_bound = b.channel;
    widths = b.widths;
  }

  is_point : (b : MayBePoint format shift source number bytes) → IsPointOf format shift source number bytes (point b)
  unfolding point
  is_point b = record {
    x_is = refl;
    y_is = refl;
    z_is = refl;
    intensity_is = refl;
    return_number_is = refl;
    number_of_returns_is = refl;
    scan_direction_is = refl;
    edge_is = refl;
    class_is = refl;
    class_flags_is = refl;
    channel_is = refl;
    angle_rank_is = refl;
    angle_is = refl;
    user_is = refl;
    source_id_is = refl;
    gps_is = refl;
    red_is = refl;
    green_is = refl;
    blue_is = refl;
    origin_is = refl;
    number_is = refl;
  }

  may_be : (p : Point) → IsPointOf format shift source number bytes p → MayBePoint format shift source number bytes
  may_be p is = record {
    return_number = subst (IsWithin ReturnNumber) is.return_number_is p.return_number_bound;
    number_of_returns = subst (IsWithin NumberOfReturns) is.number_of_returns_is p.number_of_returns_bound;
    scan_direction = subst (IsWithin ScanDirectionFlag) is.scan_direction_is p.scan_direction_bound;
    edge = subst (IsWithin EdgeOfFlightLine) is.edge_is p.edge_bound;
    class_flags = subst (IsWithin ClassFlags) is.class_flags_is p.class_flags_bound;
    channel = subst (IsWithin ScanChannel) is.channel_is p.channel_bound;
    widths = record {
      x_fits = subst (FitsInSigned X) is.x_is p.widths.x_fits;
      y_fits = subst (FitsInSigned Y) is.y_is p.widths.y_fits;
      z_fits = subst (FitsInSigned Z) is.z_is p.widths.z_fits;
      intensity_fits = subst (Fits Intensity) is.intensity_is p.widths.intensity_fits;
      class_fits = subst (Fits Classification) is.class_is p.widths.class_fits;
      angle_rank_fits = subst (FitsInSigned ScanAngleRank) is.angle_rank_is p.widths.angle_rank_fits;
      angle_fits = subst (FitsInSigned ScanAngle) is.angle_is p.widths.angle_fits;
      user_fits = subst (Fits UserData) is.user_is p.widths.user_fits;
      source_id_fits = subst (Fits PointSourceId) is.source_id_is p.widths.source_id_fits;
      gps_length = subst (λ (gps : List ℕ). length gps ≡ 8) is.gps_is p.widths.gps_length;
      gps_bytes = subst (λ (gps : List ℕ). (i : ℕ) → slice_index gps i < 2 ^ 8) is.gps_is p.widths.gps_bytes;
      red_fits = subst (Fits Red) is.red_is p.widths.red_fits;
      green_fits = subst (Fits Green) is.green_is p.widths.green_fits;
      blue_fits = subst (Fits Blue) is.blue_is p.widths.blue_fits;
      origin_fits = subst (Fits OriginId) is.origin_is p.widths.origin_fits;
      number_fits = subst (Fits PointId) is.number_is p.widths.number_fits;
    };
  }

  pub known_point : Known ((p : Point) × IsPointOf format shift source number bytes p)
  known_point = known_like (λ b. (point b, is_point b)) (λ h. may_be h.0 h.1) known_bounds
