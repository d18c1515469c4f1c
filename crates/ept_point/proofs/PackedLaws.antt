-- What holds of a packed point: its length, its bounds, and that it is the packed form of one point only.
use Rattle.std.proofs.Common.{◌+◌, append_assoc, ◌%◌, take, drop, subst, zero, suc, ◌≡◌, ℕ, ℤ, ◌<◌, ◌^◌, List, [], ◌∷◌, ◌++◌, length, get_or, map, refl, sym, ap, ◌∙◌, arith, length-append, FitsSigned}
use Rattle.std.specs.Int.{Width, w8, w16, w32, w64, cast_unsigned, cast_signed, from_le_bytes}
use Rattle.std.specs.List.{concat, AllByRecursion, Any}
use Rattle.std.proofs.lemmas.Int.{to_z-of_z, ints}
use Rattle.std.proofs.lemmas.Nat.{from_le_bytes-to_le_bytes_2, from_le_bytes-to_le_bytes_4, from_le_bytes-to_le_bytes_8}
use Rattle.std.proofs.Math.Seq.{take-append_seam, drop-append_seam}
use denote.Struct.Record.{values_one}
use Rattle.ept_point.specs.contracts.point.Point.{struct, the_propositions}
use Rattle.ept_point.specs.declared.point.Point.{Point}
use Rattle.ept_point.specs.Dimensions.{Dimension, dimensions, packed_width, pieces, X, Y, Z, Intensity, ReturnNumber, NumberOfReturns, ScanDirectionFlag, EdgeOfFlightLine, Classification, ClassFlags, ScanChannel, ScanAngleRank, ScanAngle, UserData, PointSourceId, Red, Green, Blue, OriginId, PointId}
use Rattle.ept_point.specs.Packed.{little_endian, Value, Whole, Natural, bytes_of, read, number_in, fields, field_bytes, packed, IsAboveBound, HasFieldAboveBound}

-- the piece of a field
abbrev pub piece_of : Dimension × Value → Dimension × List ℕ
piece_of field = (field.0, bytes_of field.0 field.1)

-- pieces of the widths of their dimensions are cut out of their bytes again
pieces_of_fields : (front : List ℕ) (fs : List (Dimension × List ℕ)) → AllByRecursion (λ f. length f.1 ≡ f.0.width) fs → pieces (length front) (map (λ f. f.0) fs) (front ++ concat (map (λ f. f.1) fs)) ≡ fs
pieces_of_fields front [] h = refl
pieces_of_fields front ((d, bytes) ∷ fs) h =
    let behind : List ℕ = concat (map (λ (f : Dimension × List ℕ). f.1) fs) in
    let piece : take d.width (drop (length front) (front ++ (bytes ++ behind))) ≡ bytes = rw (drop-append_seam front (bytes ++ behind), ← h.0) (take-append_seam bytes behind) in
    let place : length front + d.width ≡ length (front ++ bytes) = rw (← h.0) (sym (length-append front bytes)) in
    let later = pieces_of_fields (front ++ bytes) fs h.1 in
    rw (piece, place, ← append_assoc front bytes behind, later) refl

each_has_its_width : (p : Point) → AllByRecursion (λ f. length f.1 ≡ f.0.width) (map piece_of (fields p))
unfolding little_endian
each_has_its_width p = (refl, (refl, (refl, (refl, (refl, (refl, (refl, (refl, (refl, (refl, (refl, (refl, (refl, (refl, (refl, (p.widths.gps_length, (refl, (refl, (refl, (refl, (refl, tt)))))))))))))))))))))

-- the pieces of a packed point are those of its fields
pub pieces_of_packed : (p : Point) → pieces 0 dimensions (packed p) ≡ map piece_of (fields p)
unfolding packed field_bytes
pieces_of_packed p = pieces_of_fields [] (map piece_of (fields p)) (each_has_its_width p)

-- a number is read back from its bytes
read_1 : (n : ℕ) → n < 2 ^ 8 → number_in (little_endian 1 n) ≡ n
unfolding little_endian
read_1 n h = omega arith

read_2 : (n : ℕ) → n < 2 ^ 16 → number_in (little_endian 2 n) ≡ n
unfolding little_endian
read_2 n h = omega arith

read_4 : (n : ℕ) → n < 2 ^ 32 → number_in (little_endian 4 n) ≡ n
unfolding little_endian
read_4 n h = omega arith

read_8 : (n : ℕ) → n < 2 ^ 64 → number_in (little_endian 8 n) ≡ n
unfolding little_endian
read_8 n h = omega arith

read_signed_1 : (z : ℤ) → FitsSigned w8 z → cast_signed w8 (number_in (little_endian 1 (cast_unsigned w8 z))) ≡ z
read_signed_1 z h = rw (read_1 (cast_unsigned w8 z) (omega (arith, ints))) (to_z-of_z w8 z h)

read_signed_2 : (z : ℤ) → FitsSigned w16 z → cast_signed w16 (number_in (little_endian 2 (cast_unsigned w16 z))) ≡ z
read_signed_2 z h = rw (read_2 (cast_unsigned w16 z) (omega (arith, ints))) (to_z-of_z w16 z h)

read_signed_4 : (z : ℤ) → FitsSigned w32 z → cast_signed w32 (number_in (little_endian 4 (cast_unsigned w32 z))) ≡ z
read_signed_4 z h = rw (read_4 (cast_unsigned w32 z) (omega (arith, ints))) (to_z-of_z w32 z h)

each_reads : (p : Point) → AllByRecursion (λ f. read (piece_of f) ≡ f) (fields p)
each_reads p = (
  ap (λ (z : ℤ). (X, Whole z)) (read_signed_4 p.x p.widths.x_fits),
  (
    ap (λ (z : ℤ). (Y, Whole z)) (read_signed_4 p.y p.widths.y_fits),
    (
      ap (λ (z : ℤ). (Z, Whole z)) (read_signed_4 p.z p.widths.z_fits),
      (
        ap (λ (n : ℕ). (Intensity, Natural n)) (read_2 p.intensity p.widths.intensity_fits),
        (
          ap (λ (n : ℕ). (ReturnNumber, Natural n)) (read_1 p.return_number (omega (arith, p.return_number_bound))),
          (
            ap (λ (n : ℕ). (NumberOfReturns, Natural n)) (read_1 p.number_of_returns (omega (arith, p.number_of_returns_bound))),
            (
              ap (λ (n : ℕ). (ScanDirectionFlag, Natural n)) (read_1 p.scan_direction (omega (arith, p.scan_direction_bound))),
              (
                ap (λ (n : ℕ). (EdgeOfFlightLine, Natural n)) (read_1 p.edge (omega (arith, p.edge_bound))),
                (
                  ap (λ (n : ℕ). (Classification, Natural n)) (read_1 p.class p.widths.class_fits),
                  (
                    ap (λ (n : ℕ). (ClassFlags, Natural n)) (read_1 p.class_flags (omega (arith, p.class_flags_bound))),
                    (
                      ap (λ (n : ℕ). (ScanChannel, Natural n)) (read_1 p.channel (omega (arith, p.channel_bound))),
                      (
                        ap (λ (z : ℤ). (ScanAngleRank, Whole z)) (read_signed_1 p.angle_rank p.widths.angle_rank_fits),
                        (
                          ap (λ (z : ℤ). (ScanAngle, Whole z)) (read_signed_2 p.angle p.widths.angle_fits),
                          (
                            ap (λ (n : ℕ). (UserData, Natural n)) (read_1 p.user p.widths.user_fits),
                            (
                              ap (λ (n : ℕ). (PointSourceId, Natural n)) (read_2 p.source_id p.widths.source_id_fits),
                              (
                                refl,
                                (
                                  ap (λ (n : ℕ). (Red, Natural n)) (read_2 p.red p.widths.red_fits),
                                  (
                                    ap (λ (n : ℕ). (Green, Natural n)) (read_2 p.green p.widths.green_fits),
                                    (
                                      ap (λ (n : ℕ). (Blue, Natural n)) (read_2 p.blue p.widths.blue_fits),
                                      (
                                        ap (λ (n : ℕ). (OriginId, Natural n)) (read_4 p.origin p.widths.origin_fits),
                                        (
                                          ap (λ (n : ℕ). (PointId, Natural n)) (read_8 p.number p.widths.number_fits),
                                          tt,
                                        ),
                                      ),
                                    ),
                                  ),
                                ),
                              ),
                            ),
                          ),
                        ),
                      ),
                    ),
                  ),
                ),
              ),
            ),
          ),
        ),
      ),
    ),
  ),
)

reads_each : (fs : List (Dimension × Value)) → AllByRecursion (λ f. read (piece_of f) ≡ f) fs → map read (map piece_of fs) ≡ fs
reads_each [] h = refl
reads_each (f ∷ fs) h = cc (h.0, reads_each fs h.1)

pub reads_of_packed : (p : Point) → map read (pieces 0 dimensions (packed p)) ≡ fields p
reads_of_packed p = ap (map read) (pieces_of_packed p) ∙ reads_each (fields p) (each_reads p)

-- a packed point has this length
pub length-packed : (p : Point) → length (packed p) ≡ packed_width
unfolding packed field_bytes little_endian
length-packed p = simp (length-append, p.widths.gps_length)

-- if no element has a property, then none in the list has it
pub none_by_recursion : {X : Type 0} (P : X → Type 0) (xs : List X) → AllByRecursion (λ x. ¬ P x) xs → ¬ Any P xs
none_by_recursion P [] h (k, x, small, is, holds) = absurd (omega arith)
none_by_recursion P (y ∷ xs) h (zero, x, small, is, holds) = h.0 (subst P (sym is) holds)
none_by_recursion P (y ∷ xs) h (suc k, x, small, is, holds) = none_by_recursion P xs h.1 (k, x, omega arith, is, holds)

none_above : (p : Point) → AllByRecursion (λ f. ¬ IsAboveBound f) (map piece_of (fields p))
unfolding little_endian
none_above p = (
  λ h. h,
  (
    λ h. h,
    (
      λ h. h,
      (
        λ h. h,
        (
          λ h. omega (arith, p.return_number_bound),
          (
            λ h. omega (arith, p.number_of_returns_bound),
            (
              λ h. omega (arith, p.scan_direction_bound),
              (
                λ h. omega (arith, p.edge_bound),
                (
                  λ h. h,
                  (
                    λ h. omega (arith, p.class_flags_bound),
                    (
                      λ h. omega (arith, p.channel_bound),
                      (
                        λ h. h,
                        (
                          λ h. h,
                          (
                            λ h. h,
                            (
                              λ h. h,
                              (
                                λ h. h,
                                (
                                  λ h. h,
                                  (
                                    λ h. h,
                                    (
                                      λ h. h,
                                      (
                                        λ h. h,
                                        (
                                          λ h. h,
                                          tt,
                                        ),
                                      ),
                                    ),
                                  ),
                                ),
                              ),
                            ),
                          ),
                        ),
                      ),
                    ),
                  ),
                ),
              ),
            ),
          ),
        ),
      ),
    ),
  ),
)

-- no field of a packed point is above its bound
pub packed_within_bounds : (p : Point) → HasFieldAboveBound (packed p) → ⊥
unfolding HasFieldAboveBound
packed_within_bounds p h =
    none_by_recursion IsAboveBound (map piece_of (fields p)) (none_above p) (subst (Any IsAboveBound) (pieces_of_packed p) h)

-- pieces of the same lengths, whose bytes are the same one after another, are the same
pub append_same : (a b x y : List ℕ) → length a ≡ length b → a ++ x ≡ b ++ y → (a ≡ b) × (x ≡ y)
append_same [] [] x y len e = (refl, e)
append_same [] (d ∷ b) x y len e = absurd (omega arith)
append_same (c ∷ a) [] x y len e = absurd (omega arith)
append_same (c ∷ a) (d ∷ b) x y len e =
    let head : c ≡ d = cc in
    let later : a ++ x ≡ b ++ y = cc in
    let rest = append_same a b x y (omega arith) later in
    (cc (head, rest.0), rest.1)

concat_same : (xs ys : List (List ℕ)) → map length xs ≡ map length ys → concat xs ≡ concat ys → xs ≡ ys
concat_same [] [] len e = refl
concat_same [] (y ∷ ys) len e = cc
concat_same (x ∷ xs) [] len e = cc
concat_same (x ∷ xs) (y ∷ ys) len e =
    let first : length x ≡ length y = cc in
    let later : map length xs ≡ map length ys = cc in
    let parts = append_same x y (concat xs) (concat ys) first e in
    cc (parts.0, concat_same xs ys later parts.1)

-- a number that fits its bytes is read from them
same_1 : (m n : ℕ) → m < 2 ^ 8 → n < 2 ^ 8 → little_endian 1 m ≡ little_endian 1 n → m ≡ n
unfolding little_endian
same_1 m n hm hn e = let bytes : m % 256 ≡ n % 256 = cc in omega arith

same_2 : (m n : ℕ) → m < 2 ^ 16 → n < 2 ^ 16 → little_endian 2 m ≡ little_endian 2 n → m ≡ n
unfolding little_endian
same_2 m n hm hn e = sym (from_le_bytes-to_le_bytes_2 m hm) ∙ ap (from_le_bytes w16) e ∙ from_le_bytes-to_le_bytes_2 n hn

same_4 : (m n : ℕ) → m < 2 ^ 32 → n < 2 ^ 32 → little_endian 4 m ≡ little_endian 4 n → m ≡ n
unfolding little_endian
same_4 m n hm hn e = sym (from_le_bytes-to_le_bytes_4 m hm) ∙ ap (from_le_bytes w32) e ∙ from_le_bytes-to_le_bytes_4 n hn

same_8 : (m n : ℕ) → m < 2 ^ 64 → n < 2 ^ 64 → little_endian 8 m ≡ little_endian 8 n → m ≡ n
unfolding little_endian
same_8 m n hm hn e = sym (from_le_bytes-to_le_bytes_8 m hm) ∙ ap (from_le_bytes w64) e ∙ from_le_bytes-to_le_bytes_8 n hn

-- a signed number is the only one with its bits
same_bits : (w : Width) (y z : ℤ) → FitsSigned w y → FitsSigned w z → cast_unsigned w y ≡ cast_unsigned w z → y ≡ z
same_bits w y z hy hz e = sym (to_z-of_z w y hy) ∙ ap (cast_signed w) e ∙ to_z-of_z w z hz

same_signed_1 : (y z : ℤ) → FitsSigned w8 y → FitsSigned w8 z → little_endian 1 (cast_unsigned w8 y) ≡ little_endian 1 (cast_unsigned w8 z) → y ≡ z
same_signed_1 y z hy hz e = same_bits w8 y z hy hz (same_1 _ _ (omega (arith, ints)) (omega (arith, ints)) e)

same_signed_2 : (y z : ℤ) → FitsSigned w16 y → FitsSigned w16 z → little_endian 2 (cast_unsigned w16 y) ≡ little_endian 2 (cast_unsigned w16 z) → y ≡ z
same_signed_2 y z hy hz e = same_bits w16 y z hy hz (same_2 _ _ (omega (arith, ints)) (omega (arith, ints)) e)

same_signed_4 : (y z : ℤ) → FitsSigned w32 y → FitsSigned w32 z → little_endian 4 (cast_unsigned w32 y) ≡ little_endian 4 (cast_unsigned w32 z) → y ≡ z
same_signed_4 y z hy hz e = same_bits w32 y z hy hz (same_4 _ _ (omega (arith, ints)) (omega (arith, ints)) e)

-- the fields of a point have the same lengths in every point
lengths_same : (p q : Point) → map length (field_bytes p) ≡ map length (field_bytes q)
unfolding field_bytes little_endian
lengths_same p q = rw (p.widths.gps_length, q.widths.gps_length) refl

-- points with the same bytes in each field are the same
same_fields : (p q : Point) → field_bytes p ≡ field_bytes q → p ≡ q
unfolding field_bytes
same_fields p q e =
    let same_x : p.x ≡ q.x = same_signed_4 p.x q.x p.widths.x_fits q.widths.x_fits (ap (λ (xs : List (List ℕ)). get_or xs 0 []) e) in
    let same_y : p.y ≡ q.y = same_signed_4 p.y q.y p.widths.y_fits q.widths.y_fits (ap (λ (xs : List (List ℕ)). get_or xs 1 []) e) in
    let same_z : p.z ≡ q.z = same_signed_4 p.z q.z p.widths.z_fits q.widths.z_fits (ap (λ (xs : List (List ℕ)). get_or xs 2 []) e) in
    let same_intensity : p.intensity ≡ q.intensity = same_2 p.intensity q.intensity p.widths.intensity_fits q.widths.intensity_fits (ap (λ (xs : List (List ℕ)). get_or xs 3 []) e) in
    let same_return_number : p.return_number ≡ q.return_number = same_1 p.return_number q.return_number (omega (arith, p.return_number_bound)) (omega (arith, q.return_number_bound)) (ap (λ (xs : List (List ℕ)). get_or xs 4 []) e) in
    let same_number_of_returns : p.number_of_returns ≡ q.number_of_returns = same_1 p.number_of_returns q.number_of_returns (omega (arith, p.number_of_returns_bound)) (omega (arith, q.number_of_returns_bound)) (ap (λ (xs : List (List ℕ)). get_or xs 5 []) e) in
    let same_scan_direction : p.scan_direction ≡ q.scan_direction = same_1 p.scan_direction q.scan_direction (omega (arith, p.scan_direction_bound)) (omega (arith, q.scan_direction_bound)) (ap (λ (xs : List (List ℕ)). get_or xs 6 []) e) in
    let same_edge : p.edge ≡ q.edge = same_1 p.edge q.edge (omega (arith, p.edge_bound)) (omega (arith, q.edge_bound)) (ap (λ (xs : List (List ℕ)). get_or xs 7 []) e) in
    let same_class : p.class ≡ q.class = same_1 p.class q.class p.widths.class_fits q.widths.class_fits (ap (λ (xs : List (List ℕ)). get_or xs 8 []) e) in
    let same_class_flags : p.class_flags ≡ q.class_flags = same_1 p.class_flags q.class_flags (omega (arith, p.class_flags_bound)) (omega (arith, q.class_flags_bound)) (ap (λ (xs : List (List ℕ)). get_or xs 9 []) e) in
    let same_channel : p.channel ≡ q.channel = same_1 p.channel q.channel (omega (arith, p.channel_bound)) (omega (arith, q.channel_bound)) (ap (λ (xs : List (List ℕ)). get_or xs 10 []) e) in
    let same_angle_rank : p.angle_rank ≡ q.angle_rank = same_signed_1 p.angle_rank q.angle_rank p.widths.angle_rank_fits q.widths.angle_rank_fits (ap (λ (xs : List (List ℕ)). get_or xs 11 []) e) in
    let same_angle : p.angle ≡ q.angle = same_signed_2 p.angle q.angle p.widths.angle_fits q.widths.angle_fits (ap (λ (xs : List (List ℕ)). get_or xs 12 []) e) in
    let same_user : p.user ≡ q.user = same_1 p.user q.user p.widths.user_fits q.widths.user_fits (ap (λ (xs : List (List ℕ)). get_or xs 13 []) e) in
    let same_source_id : p.source_id ≡ q.source_id = same_2 p.source_id q.source_id p.widths.source_id_fits q.widths.source_id_fits (ap (λ (xs : List (List ℕ)). get_or xs 14 []) e) in
    let same_gps : p.gps ≡ q.gps = (ap (λ (xs : List (List ℕ)). get_or xs 15 []) e) in
    let same_red : p.red ≡ q.red = same_2 p.red q.red p.widths.red_fits q.widths.red_fits (ap (λ (xs : List (List ℕ)). get_or xs 16 []) e) in
    let same_green : p.green ≡ q.green = same_2 p.green q.green p.widths.green_fits q.widths.green_fits (ap (λ (xs : List (List ℕ)). get_or xs 17 []) e) in
    let same_blue : p.blue ≡ q.blue = same_2 p.blue q.blue p.widths.blue_fits q.widths.blue_fits (ap (λ (xs : List (List ℕ)). get_or xs 18 []) e) in
    let same_origin : p.origin ≡ q.origin = same_4 p.origin q.origin p.widths.origin_fits q.widths.origin_fits (ap (λ (xs : List (List ℕ)). get_or xs 19 []) e) in
    let same_number : p.number ≡ q.number = same_8 p.number q.number p.widths.number_fits q.widths.number_fits (ap (λ (xs : List (List ℕ)). get_or xs 20 []) e) in
    values_one struct the_propositions p q (λ i. (same_x i, (same_y i, (same_z i, (same_intensity i, (same_return_number i, (same_number_of_returns i, (same_scan_direction i, (same_edge i, (same_class i, (same_class_flags i, (same_channel i, (same_angle_rank i, (same_angle i, (same_user i, (same_source_id i, (same_gps i, (same_red i, (same_green i, (same_blue i, (same_origin i, (same_number i, tt))))))))))))))))))))))

-- two points with the same packed form are the same
pub packed_one : (p q : Point) → packed p ≡ packed q → p ≡ q
unfolding packed
packed_one p q e = same_fields p q (concat_same (field_bytes p) (field_bytes q) (lengths_same p q) e)
