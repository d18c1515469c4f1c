-- What points the bytes of a node's file decode to.
use Rattle.std.proofs.Common.{◌≡◌, ◌∙◌, ℕ, zero, suc, ◌^◌, ◌<◌, ◌≤◌, min, ◌⊎◌, inl, inr, Bool, true, false, cond, ℤ, pos, negsuc, ◌+ℤ◌, FitsSigned, List, [], ◌∷◌, ◌++◌, length, map, take, drop, get_or, refl, ap, subst, arith}
use Rattle.std.specs.Prelude.{All, ◌≤ℤ◌, ◌<ℤ◌}
use Rattle.std.specs.Int.{Width, w8, w16, w32, saturate_signed}
use Rattle.std.specs.List.{concat}
use Rattle.std.specs.List.Sorted.{IsPermutation}
use Rattle.std.proofs.Math.Seq.{take-append_seam, drop-append_seam}
use Rattle.std.proofs.lemmas.Nat.{pow_pos}
use Rattle.std.proofs.lemmas.Int.{ints, clamps}
use Rattle.std.proofs.lemmas.Bool.Decides.{nat_tests}
use Rattle.std.proofs.lemmas.List.Sorted.{IsPermutation-refl, IsPermutation-sym, IsPermutation-trans, IsPermutation-cons, IsPermutation-middle, length_permutation}
use Rattle.ept_point.specs.declared.point.Point.{Point}
use Rattle.ept_point.specs.Dimensions.{Dimension, dimensions, packed_width, pieces, X, Y, Z, Intensity, ReturnNumber, NumberOfReturns, ScanDirectionFlag, EdgeOfFlightLine, Classification, ClassFlags, ScanChannel, ScanAngleRank, ScanAngle, UserData, PointSourceId, GpsTime, Red, Green, Blue, OriginId, PointId}
use Rattle.ept_point.specs.Order.{FollowedBy, IsAscending}
use Rattle.ept_point.specs.Packed.{Value, Whole, Natural, Bytes, bytes_of, read, fields, field_bytes, packed, tile}
use Rattle.ept_point.proofs.PackedLaws.{reads_of_packed, length-packed, packed_one}
use Rattle.ept_space.specs.OctreeCube.{OctreeCube, IsCube, IsFrom, InBox}
use Rattle.ept_space.specs.VoxelKey.{VoxelKey}
use Rattle.ept_sample.specs.Members.{IsMember}
use Rattle.ept_sample.specs.Place.{place, AllInBox}
use Rattle.ept_sample.specs.Ids.{same_id, is_first, comes_before, HasDistinctIds}
use Rattle.ept_sample.proofs.Choices.{either, not_both, is_false}
use Rattle.ept_sample.proofs.Members.{all-member, All-members}
use Rattle.ept_sample.proofs.IdLaws.{id_order, comes_before-total, IsBefore-comes_before, same_id-sym, HasDistinctIds-head, HasDistinctIds-tail, IsMember-IsPermutation}
use Rattle.ept_grid.specs.Node.{IsInIdOrder}
use Rattle.ept_node.specs.Told.{piece, eight_told, brought, point_told, points_read, put_in_order, ordered, points_told, HasPlaces}

-- ---- the numbers of a packed point

natural : Value → ℕ
natural (Natural n) = n
natural (Whole z) = 0
natural (Bytes bytes) = 0

whole : Value → ℤ
whole (Whole z) = z
whole (Natural n) = pos 0
whole (Bytes bytes) = pos 0

raw : Value → List ℕ
raw (Bytes bytes) = bytes
raw (Whole z) = []
raw (Natural n) = []

value_at : ℕ → List (Dimension × Value) → Value
value_at k [] = Natural 0
value_at zero (f ∷ fs) = f.1
value_at (suc k) (f ∷ fs) = value_at k fs

capped : (n m limit : ℕ) → n ≡ m → m ≤ limit → min n limit ≡ m
capped n m limit e h = omega (arith, e, h)

stays : (w : Width) (z : ℤ) → FitsSigned w z → saturate_signed w z ≡ z
stays w (pos n) fits = ap pos (let h = fits.sfits in omega (arith, h))
stays w (negsuc n) fits = ap negsuc (let h = fits.sfits in omega (arith, h))

signed_is : (w : Width) (z y : ℤ) → y ≡ z → FitsSigned w z → saturate_signed w y ≡ z
signed_is w z y e fits = ap (saturate_signed w) e ∙ stays w z fits

-- a coordinate inside an interval stays where it is
within : (least : ℤ) (length : ℕ) (at : ℤ) → IsFrom least length at → brought least length at ≡ at
within least length at h = let low = h.0 in let high = h.1 in omega (arith, ints, clamps, low, high)

coordinate_is : (least : ℤ) (side : ℕ) (z y : ℤ) → y ≡ z → FitsSigned w32 z → IsFrom least side z → saturate_signed w32 (brought least side (saturate_signed w32 y)) ≡ z
coordinate_is least side z y e fits h =
    ap (λ (x : ℤ). saturate_signed w32 (brought least side x)) (signed_is w32 z y e fits) ∙ (ap (saturate_signed w32) (within least side z h) ∙ stays w32 z fits)

eight_is : (x : List ℕ) → length x ≡ 8 → ((i : ℕ) → get_or x i 0 < 2 ^ 8) → eight_told x ≡ x
eight_is (a ∷ b ∷ c ∷ d ∷ e ∷ f ∷ g ∷ h ∷ []) len low =
    λ i. capped a a 255 refl (omega (arith, low 0)) i ∷ capped b b 255 refl (omega (arith, low 1)) i ∷ capped c c 255 refl (omega (arith, low 2)) i ∷ capped d d 255 refl (omega (arith, low 3)) i ∷ capped e e 255 refl (omega (arith, low 4)) i ∷ capped f f 255 refl (omega (arith, low 5)) i ∷ capped g g 255 refl (omega (arith, low 6)) i ∷ capped h h 255 refl (omega (arith, low 7)) i ∷ []
eight_is [] len low = absurd (omega arith)
eight_is (a ∷ []) len low = absurd (omega arith)
eight_is (a ∷ b ∷ []) len low = absurd (omega arith)
eight_is (a ∷ b ∷ c ∷ []) len low = absurd (omega arith)
eight_is (a ∷ b ∷ c ∷ d ∷ []) len low = absurd (omega arith)
eight_is (a ∷ b ∷ c ∷ d ∷ e ∷ []) len low = absurd (omega arith)
eight_is (a ∷ b ∷ c ∷ d ∷ e ∷ f ∷ []) len low = absurd (omega arith)
eight_is (a ∷ b ∷ c ∷ d ∷ e ∷ f ∷ g ∷ []) len low = absurd (omega arith)
eight_is (a ∷ b ∷ c ∷ d ∷ e ∷ f ∷ g ∷ h ∷ i ∷ s) len low = absurd (omega arith)

-- ---- a packed point of the box decodes to itself

module _ (cube : OctreeCube) (key : VoxelKey) (p : Point) (inside : InBox cube key (place p)) where
  abbrev b : List ℕ
  b = packed p

  abbrev q : Point
  q = point_told cube key b

  n_at : (k : ℕ) → natural (value_at k (map read (pieces 0 dimensions b))) ≡ natural (value_at k (fields p))
  n_at k = ap (λ (fs : List (Dimension × Value)). natural (value_at k fs)) (reads_of_packed p)

  z_at : (k : ℕ) → whole (value_at k (map read (pieces 0 dimensions b))) ≡ whole (value_at k (fields p))
  z_at k = ap (λ (fs : List (Dimension × Value)). whole (value_at k fs)) (reads_of_packed p)

  x_is : q.x ≡ p.x
  unfolding point_told whole value_at InBox
  x_is = coordinate_is _ _ p.x _ (z_at 0) p.widths.x_fits inside.x

  y_is : q.y ≡ p.y
  unfolding point_told whole value_at InBox
  y_is = coordinate_is _ _ p.y _ (z_at 1) p.widths.y_fits inside.y

  z_is : q.z ≡ p.z
  unfolding point_told whole value_at InBox
  z_is = coordinate_is _ _ p.z _ (z_at 2) p.widths.z_fits inside.z

  intensity_is : q.intensity ≡ p.intensity
  unfolding point_told natural value_at
  intensity_is = capped _ p.intensity _ (n_at 3) (omega (arith, p.widths.intensity_fits))

  return_number_is : q.return_number ≡ p.return_number
  unfolding point_told natural value_at
  return_number_is = capped _ p.return_number _ (n_at 4) p.return_number_bound

  number_of_returns_is : q.number_of_returns ≡ p.number_of_returns
  unfolding point_told natural value_at
  number_of_returns_is = capped _ p.number_of_returns _ (n_at 5) p.number_of_returns_bound

  scan_direction_is : q.scan_direction ≡ p.scan_direction
  unfolding point_told natural value_at
  scan_direction_is = capped _ p.scan_direction _ (n_at 6) p.scan_direction_bound

  edge_is : q.edge ≡ p.edge
  unfolding point_told natural value_at
  edge_is = capped _ p.edge _ (n_at 7) p.edge_bound

  class_is : q.class ≡ p.class
  unfolding point_told natural value_at
  class_is = capped _ p.class _ (n_at 8) (omega (arith, p.widths.class_fits))

  class_flags_is : q.class_flags ≡ p.class_flags
  unfolding point_told natural value_at
  class_flags_is = capped _ p.class_flags _ (n_at 9) p.class_flags_bound

  channel_is : q.channel ≡ p.channel
  unfolding point_told natural value_at
  channel_is = capped _ p.channel _ (n_at 10) p.channel_bound

  angle_rank_is : q.angle_rank ≡ p.angle_rank
  unfolding point_told whole value_at
  angle_rank_is = signed_is w8 p.angle_rank _ (z_at 11) p.widths.angle_rank_fits

  angle_is : q.angle ≡ p.angle
  unfolding point_told whole value_at
  angle_is = signed_is w16 p.angle _ (z_at 12) p.widths.angle_fits

  user_is : q.user ≡ p.user
  unfolding point_told natural value_at
  user_is = capped _ p.user _ (n_at 13) (omega (arith, p.widths.user_fits))

  source_id_is : q.source_id ≡ p.source_id
  unfolding point_told natural value_at
  source_id_is = capped _ p.source_id _ (n_at 14) (omega (arith, p.widths.source_id_fits))

  gps_is : q.gps ≡ p.gps
  unfolding point_told raw value_at
  gps_is =
      ap eight_told (let e : piece GpsTime 27 b ≡ p.gps = ap (λ (fs : List (Dimension × Value)). raw (value_at 15 fs)) (reads_of_packed p) in e) ∙ eight_is p.gps p.widths.gps_length p.widths.gps_bytes

  red_is : q.red ≡ p.red
  unfolding point_told natural value_at
  red_is = capped _ p.red _ (n_at 16) (omega (arith, p.widths.red_fits))

  green_is : q.green ≡ p.green
  unfolding point_told natural value_at
  green_is = capped _ p.green _ (n_at 17) (omega (arith, p.widths.green_fits))

  blue_is : q.blue ≡ p.blue
  unfolding point_told natural value_at
  blue_is = capped _ p.blue _ (n_at 18) (omega (arith, p.widths.blue_fits))

  origin_is : q.origin ≡ p.origin
  unfolding point_told natural value_at
  origin_is = capped _ p.origin _ (n_at 19) (omega (arith, p.widths.origin_fits))

  number_is : q.number ≡ p.number
  unfolding point_told natural value_at
  number_is = capped _ p.number _ (n_at 20) (omega (arith, p.widths.number_fits))

  fields_are : fields q ≡ fields p
  fields_are = λ i.
      (X, Whole (x_is i)) ∷ (Y, Whole (y_is i)) ∷ (Z, Whole (z_is i)) ∷ (Intensity, Natural (intensity_is i))
      ∷ (ReturnNumber, Natural (return_number_is i)) ∷ (NumberOfReturns, Natural (number_of_returns_is i))
      ∷ (ScanDirectionFlag, Natural (scan_direction_is i)) ∷ (EdgeOfFlightLine, Natural (edge_is i)) ∷ (Classification, Natural (class_is i))
      ∷ (ClassFlags, Natural (class_flags_is i)) ∷ (ScanChannel, Natural (channel_is i)) ∷ (ScanAngleRank, Whole (angle_rank_is i))
      ∷ (ScanAngle, Whole (angle_is i)) ∷ (UserData, Natural (user_is i)) ∷ (PointSourceId, Natural (source_id_is i)) ∷ (GpsTime, Bytes (gps_is i))
      ∷ (Red, Natural (red_is i)) ∷ (Green, Natural (green_is i)) ∷ (Blue, Natural (blue_is i)) ∷ (OriginId, Natural (origin_is i))
      ∷ (PointId, Natural (number_is i)) ∷ []

  pub told-itself : point_told cube key (packed p) ≡ p
  unfolding packed field_bytes
  told-itself =
      packed_one q p (ap (λ (fs : List (Dimension × Value)). concat (map (λ (f : Dimension × Value). bytes_of f.0 f.1) fs)) fields_are)

-- ---- the points of a tile

pub read-tile : (cube : OctreeCube) (key : VoxelKey) (ps : List Point) → AllInBox cube key ps → points_read cube key (length ps) (tile ps) ≡ ps
unfolding points_read
read-tile cube key [] all = refl
read-tile cube key (p ∷ ps) all =
    let first : take packed_width (packed p ++ tile ps) ≡ packed p = subst (λ (n : ℕ). take n (packed p ++ tile ps) ≡ packed p) (length-packed p) (take-append_seam (packed p) (tile ps)) in
    let later : drop packed_width (packed p ++ tile ps) ≡ tile ps = subst (λ (n : ℕ). drop n (packed p ++ tile ps) ≡ tile ps) (length-packed p) (drop-append_seam (packed p) (tile ps)) in
    λ i. (ap (point_told cube key) first ∙ told-itself cube key p (all-member (λ q. InBox cube key (place q)) p (p ∷ ps) all (inl refl))) i
    ∷ (ap (points_read cube key (length ps)) later ∙ read-tile cube key ps (All-members (λ q. InBox cube key (place q)) ps (λ q m. all-member (λ q. InBox cube key (place q)) q (p ∷ ps) all (inr m)))) i

pub length-read : (cube : OctreeCube) (key : VoxelKey) (count : ℕ) (bytes : List ℕ) → length (points_read cube key count bytes) ≡ count
unfolding points_read
length-read cube key zero bytes = refl
length-read cube key (suc count) bytes = ap suc (length-read cube key count (drop packed_width bytes))

-- ---- each in the box

lies : (least : ℤ) (side : ℕ) (z : ℤ) → FitsSigned w32 least → 0 < side → IsFrom least side (saturate_signed w32 (brought least side z))
lies least side z fits some =
    let y : ℤ = brought least side z in
    let low : least ≤ℤ y = omega (arith, ints, clamps) in
    let high : y <ℤ (least +ℤ pos side) = omega (arith, ints, clamps) in
    cut least side y fits low high
  where
    cut : (least : ℤ) (side : ℕ) (y : ℤ) → FitsSigned w32 least → least ≤ℤ y → y <ℤ (least +ℤ pos side) → IsFrom least side (saturate_signed w32 y)
    cut least side (pos n) fits low high = (grind (arith, ints), grind (arith, ints))
    cut least side (negsuc n) fits low high = (grind (arith, ints), grind (arith, ints))

pub told-inside : (cube : OctreeCube) (key : VoxelKey) (bytes : List ℕ) → HasPlaces cube key → InBox cube key (place (point_told cube key bytes))
unfolding point_told InBox
told-inside cube key bytes places = record {
  x = lies _ _ _ places.x (pow_pos _);
  y = lies _ _ _ places.y (pow_pos _);
  z = lies _ _ _ places.z (pow_pos _);
}

pub read-inside : (cube : OctreeCube) (key : VoxelKey) (count : ℕ) (bytes : List ℕ) → (0 < count → HasPlaces cube key) → AllInBox cube key (points_read cube key count bytes)
unfolding points_read
read-inside cube key zero bytes places = All-members (λ q. InBox cube key (place q)) [] (λ q m. absurd m)
read-inside cube key (suc count) bytes places =
    All-both (point_told cube key (take packed_width bytes)) (points_read cube key count (drop packed_width bytes)) (told-inside cube key (take packed_width bytes) (places (omega arith))) (read-inside cube key count (drop packed_width bytes) (λ h. places (omega arith)))
  where
    All-both : (p : Point) (ps : List Point) → InBox cube key (place p) → AllInBox cube key ps → AllInBox cube key (p ∷ ps)
    All-both p ps first rest = All-members (λ q. InBox cube key (place q)) (p ∷ ps) (λ q m. (elim m [ inl is ↦ subst (λ (r : Point). InBox cube key (place r)) is first | inr n ↦ all-member (λ q. InBox cube key (place q)) q ps rest n ]))

-- a box with a point has places
pub places-of : (cube : OctreeCube) (key : VoxelKey) (ps : List Point) → IsCube cube → AllInBox cube key ps → 0 < length ps → HasPlaces cube key
unfolding InBox
places-of cube key [] is all some = absurd (omega arith)
places-of cube key (p ∷ ps) is all some =
    let inside = all-member (λ q. InBox cube key (place q)) p (p ∷ ps) all (inl refl) in record {
      x = least _ _ _ _ is.corner_x p.widths.x_fits inside.x;
      y = least _ _ _ _ is.corner_y p.widths.y_fits inside.y;
      z = least _ _ _ _ is.corner_z p.widths.z_fits inside.z;
    }
  where
    least : (corner : ℤ) (n side : ℕ) (z : ℤ) → FitsSigned w32 corner → FitsSigned w32 z → IsFrom (corner +ℤ pos n) side z → FitsSigned w32 (corner +ℤ pos n)
    least corner n side z low fits from = let first = from.0 in omega (arith, ints, low, fits, first)

-- ---- in id order

pub not_back : (p q : Point) → comes_before p q ≡ true → comes_before q p ≡ false
not_back p q e =
    elim (either (comes_before q p)) [
      | inl back ↦ absurd (not_both (comes_before p p) (id_order.goes_on p q p e back) (id_order.none_itself p))
      | inr fine ↦ fine
    ]

same_again : (p q : Point) → same_id p q ≡ false → same_id q p ≡ false
same_again p q e = is_false (same_id q p) (λ is. not_both (same_id p q) (same_id-sym q p is) e)

no_number_between : (a b k l x y : ℕ) → is_first k l a b ≡ false → is_first x y k l ≡ false → is_first x y a b ≡ false
no_number_between a b k l x y e later = grind (arith, nat_tests)

-- if r does not come before q, and q does not come before p, r does not come before p
none_between : (p q r : Point) → comes_before q p ≡ false → comes_before r q ≡ false → comes_before r p ≡ false
none_between p q r e later = no_number_between p.origin p.number q.origin q.number r.origin r.number e later

swapped : (p q : Point) (ps : List Point) → IsPermutation (p ∷ q ∷ ps) (q ∷ p ∷ ps)
swapped p q ps = IsPermutation-middle (p ∷ []) q ps

put_step : (p q : Point) (ps : List Point) (before : Bool) → IsPermutation (p ∷ ps) (put_in_order p ps) → IsPermutation (p ∷ q ∷ ps) (cond before (q ∷ put_in_order p ps) (p ∷ q ∷ ps))
put_step p q ps true rest = IsPermutation-trans (p ∷ q ∷ ps) (q ∷ p ∷ ps) (q ∷ put_in_order p ps) (swapped p q ps) (IsPermutation-cons q (p ∷ ps) (put_in_order p ps) rest)
put_step p q ps false rest = IsPermutation-refl (p ∷ q ∷ ps)

pub IsPermutation-put : (p : Point) (ps : List Point) → IsPermutation (p ∷ ps) (put_in_order p ps)
IsPermutation-put p [] = IsPermutation-refl (p ∷ [])
IsPermutation-put p (q ∷ ps) = put_step p q ps (comes_before q p) (IsPermutation-put p ps)

pub IsPermutation-ordered : (ps : List Point) → IsPermutation ps (ordered ps)
unfolding ordered
IsPermutation-ordered [] = IsPermutation-refl []
IsPermutation-ordered (p ∷ ps) =
    IsPermutation-trans (p ∷ ps) (p ∷ ordered ps) (put_in_order p (ordered ps)) (IsPermutation-cons p ps (ordered ps) (IsPermutation-ordered ps)) (IsPermutation-put p (ordered ps))

put_order : (p r : Point) (ps : List Point) (before : Bool) → comes_before r p ≡ before → All (λ q. comes_before q r ≡ false) ps → IsInIdOrder ps → IsInIdOrder (put_in_order p ps) → IsInIdOrder (cond before (r ∷ put_in_order p ps) (p ∷ r ∷ ps))
unfolding IsInIdOrder
put_order p r ps false e first rest more =
    (All-members (λ q. comes_before q p ≡ false) (r ∷ ps) each, (first, rest))
  where
    each : (q : Point) → IsMember q (r ∷ ps) → comes_before q p ≡ false
    each q (inl is) = subst (λ (w : Point). comes_before w p ≡ false) is e
    each q (inr m) = none_between p r q e (all-member (λ s. comes_before s r ≡ false) q ps first m)
put_order p r ps true e first rest more =
    (All-members (λ q. comes_before q r ≡ false) (put_in_order p ps) (λ q m. each q (IsMember-IsPermutation q (put_in_order p ps) (p ∷ ps) (IsPermutation-sym (p ∷ ps) (put_in_order p ps) (IsPermutation-put p ps)) m)), more)
  where
    each : (q : Point) → (p ≡ q) ⊎ IsMember q ps → comes_before q r ≡ false
    each q (inl is) = subst (λ (w : Point). comes_before w r ≡ false) is (not_back r p e)
    each q (inr m) = all-member (λ s. comes_before s r ≡ false) q ps first m

order-put : (p : Point) (ps : List Point) → IsInIdOrder ps → IsInIdOrder (put_in_order p ps)
unfolding IsInIdOrder
order-put p [] up = (All-members (λ q. comes_before q p ≡ false) [] (λ q m. absurd m), tt)
order-put p (r ∷ ps) up = put_order p r ps (comes_before r p) refl up.0 up.1 (order-put p ps up.1)

pub order-ordered : (ps : List Point) → IsInIdOrder (ordered ps)
unfolding IsInIdOrder ordered
order-ordered [] = tt
order-ordered (p ∷ ps) = order-put p (ordered ps) (order-ordered ps)

-- points in id order stay as they are
pub ordered-order : (ps : List Point) → IsInIdOrder ps → ordered ps ≡ ps
unfolding IsInIdOrder ordered
ordered-order [] up = refl
ordered-order (p ∷ ps) up = ap (put_in_order p) (ordered-order ps up.1) ∙ put_first ps up.0
  where
    put_first : (qs : List Point) → All (λ q. comes_before q p ≡ false) qs → put_in_order p qs ≡ p ∷ qs
    put_first [] all = refl
    put_first (q ∷ qs) all =
        ap (λ (before : Bool). cond before (q ∷ put_in_order p qs) (p ∷ q ∷ qs)) (all-member (λ q. comes_before q p ≡ false) q (q ∷ qs) all (inl refl))

pub order-ascends : (ps : List Point) → IsInIdOrder ps → HasDistinctIds ps → IsAscending ps
unfolding IsInIdOrder
order-ascends [] up once = tt
order-ascends (p ∷ ps) up once = (followed ps up.0 (HasDistinctIds-head p ps once), order-ascends ps up.1 (HasDistinctIds-tail p ps once))
  where
    followed : (qs : List Point) → All (λ q. comes_before q p ≡ false) qs → ((q : Point) → IsMember q qs → same_id p q ≡ false) → FollowedBy p qs
    followed [] all apart = tt
    followed (q ∷ qs) all apart =
        IsBefore-comes_before p q (comes_before-total q p (all-member (λ q. comes_before q p ≡ false) q (q ∷ qs) all (inl refl)) (same_again p q (apart q (inl refl))))

-- ---- the points that bytes decode to

module _ (cube : OctreeCube) (key : VoxelKey) (count : ℕ) (bytes : List ℕ) where
  pub length-told : length (points_told cube key count bytes) ≡ count
  unfolding points_told
  length-told =
      length_permutation (points_read cube key count bytes) (ordered (points_read cube key count bytes)) (IsPermutation-ordered (points_read cube key count bytes)) ∙ length-read cube key count bytes

  pub inside-told : (0 < count → HasPlaces cube key) → AllInBox cube key (points_told cube key count bytes)
  unfolding points_told
  inside-told places =
      All-members (λ q. InBox cube key (place q)) (ordered (points_read cube key count bytes)) (λ q m. all-member (λ q. InBox cube key (place q)) q (points_read cube key count bytes) (read-inside cube key count bytes places)
      (IsMember-IsPermutation q (ordered (points_read cube key count bytes)) (points_read cube key count bytes) (IsPermutation-sym (points_read cube key count bytes) (ordered (points_read cube key count bytes)) (IsPermutation-ordered (points_read cube key count bytes))) m))

  pub order-told : IsInIdOrder (points_told cube key count bytes)
  unfolding points_told
  order-told = order-ordered (points_read cube key count bytes)

  pub ascend-told : HasDistinctIds (points_told cube key count bytes) → IsAscending (points_told cube key count bytes)
  ascend-told once = order-ascends (points_told cube key count bytes) order-told once

-- bytes that are the tile of points of the box, in id order, decode to those points
pub tile-told : (cube : OctreeCube) (key : VoxelKey) (count : ℕ) (bytes : List ℕ) (ps : List Point) → bytes ≡ tile ps → count ≡ length ps → AllInBox cube key ps → IsInIdOrder ps → points_told cube key count bytes ≡ ps
unfolding points_told
tile-told cube key count bytes ps is counted inside up =
    ap (λ (n : ℕ). ordered (points_read cube key n bytes)) counted ∙ (ap (λ (w : List ℕ). ordered (points_read cube key (length ps) w)) is ∙ (ap ordered (read-tile cube key ps inside) ∙ ordered-order ps up))
