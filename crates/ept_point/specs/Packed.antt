use Rattle.std.specs.Prelude.{ℕ, ℤ, ◌+◌, ◌*◌, ◌<◌, List, [], ◌∷◌, ◌++◌, map, IsSomeAnd}
use Rattle.std.specs.Int.{Width, cast_unsigned, cast_signed, bytes_low_first}
use Rattle.std.specs.List.{concat, flat_map, Any}
use Rattle.ept_point.specs.declared.point.Point.{Point}
use Rattle.ept_point.specs.Dimensions.{Kind, Signed, Unsigned, Float, Dimension, dimensions, pieces, word, X, Y, Z, Intensity, ReturnNumber, NumberOfReturns, ScanDirectionFlag, EdgeOfFlightLine, Classification, ClassFlags, ScanChannel, ScanAngleRank, ScanAngle, UserData, PointSourceId, GpsTime, Red, Green, Blue, OriginId, PointId, OldPointId}

-- a number in `width` bytes, the lowest byte first
unfoldable pub little_endian : ℕ → ℕ → List ℕ
little_endian width n = bytes_low_first 0 width n

-- what a point has of a dimension: a number, a number from 0 on, or bytes that nothing here reads as a number
pub data Value : Type 0 where
  Whole : ℤ → Value
  Natural : ℕ → Value
  Bytes : List ℕ → Value

-- the bytes of a value in a dimension: as wide as the dimension, a number in two's complement
abbrev pub bytes_of : Dimension → Value → List ℕ
bytes_of dimension (Whole z) = little_endian dimension.width (cast_unsigned (word dimension) z)
bytes_of dimension (Natural n) = little_endian dimension.width n
bytes_of dimension (Bytes bytes) = bytes

-- what a point has of each dimension except the last
abbrev pub front_fields : Point → List (Dimension × Value)
front_fields p =
    (X, Whole p.x)
    ∷ (Y, Whole p.y)
    ∷ (Z, Whole p.z)
    ∷ (Intensity, Natural p.intensity)
    ∷ (ReturnNumber, Natural p.return_number)
    ∷ (NumberOfReturns, Natural p.number_of_returns)
    ∷ (ScanDirectionFlag, Natural p.scan_direction)
    ∷ (EdgeOfFlightLine, Natural p.edge)
    ∷ (Classification, Natural p.class)
    ∷ (ClassFlags, Natural p.class_flags)
    ∷ (ScanChannel, Natural p.channel)
    ∷ (ScanAngleRank, Whole p.angle_rank)
    ∷ (ScanAngle, Whole p.angle)
    ∷ (UserData, Natural p.user)
    ∷ (PointSourceId, Natural p.source_id)
    ∷ (GpsTime, Bytes p.gps)
    ∷ (Red, Natural p.red)
    ∷ (Green, Natural p.green)
    ∷ (Blue, Natural p.blue)
    ∷ (OriginId, Natural p.origin)
    ∷ []

-- what a point has of each dimension
abbrev pub fields : Point → List (Dimension × Value)
fields p = front_fields p ++ (PointId, Natural p.number) ∷ []

-- the bytes of each
unfoldable pub field_bytes : Point → List (List ℕ)
field_bytes p = map (λ field. bytes_of field.0 field.1) (fields p)

-- the packed point: the bytes of its fields, one after another
unfoldable pub packed : Point → List ℕ
packed p = concat (field_bytes p)

-- the bytes of a tile: its packed points, one after another
abbrev pub tile : List Point → List ℕ
tile points = flat_map packed points

-- the point as the old layout has it: the number of its record in four bytes
unfoldable pub old_packed : Point → List ℕ
old_packed p = concat (map (λ field. bytes_of field.0 field.1) (front_fields p ++ (OldPointId, Natural p.number) ∷ []))

-- the bytes of a tile of the old layout
abbrev pub old_tile : List Point → List ℕ
old_tile points = flat_map old_packed points

-- the number in some bytes, the lowest byte first
abbrev pub number_in : List ℕ → ℕ
number_in [] = 0
number_in (byte ∷ bytes) = byte + 256 * number_in bytes

-- what the piece of a dimension is read as, by the kind of the dimension
abbrev pub value_in : Kind → Width → List ℕ → Value
value_in Signed width bytes = Whole (cast_signed width (number_in bytes))
value_in Unsigned width bytes = Natural (number_in bytes)
value_in Float width bytes = Bytes bytes

abbrev pub read : Dimension × List ℕ → Dimension × Value
read piece = (piece.0, value_in piece.0.kind (word piece.0) piece.1)

-- the dimension has a greatest value, and the number in its piece is above that
abbrev pub IsAboveBound : Dimension × List ℕ → Type 0
IsAboveBound piece = IsSomeAnd piece.0.greatest (λ greatest. greatest < number_in piece.1)

-- some field of a packed point is above its greatest value
unfoldable pub HasFieldAboveBound : List ℕ → Type 0
HasFieldAboveBound bytes = Any IsAboveBound (pieces 0 dimensions bytes)
