use Rattle.std.specs.Prelude.{ℕ, ◌≡◌, ◌*◌, ◌++◌, ◌⊎◌, List, length, map, Result}
use Rattle.ept_point.specs.declared.point.Point.{Point}
use Rattle.ept_point.specs.declared.id.PointId.{PointId}
use Rattle.ept_point.specs.declared.layout.Layout.{Layout}
use Rattle.ept_point.specs.declared.layout.Layout.TheVariants.{Old}
use Rattle.ept_point.specs.declared.tile.TileError.{TileError}
use Rattle.ept_point.specs.Dimensions.{dimensions, packed_width, pieces}
use Rattle.ept_point.specs.Packed.{fields, bytes_of, read, packed, old_packed, HasFieldAboveBound}
use Rattle.ept_point.specs.Layout.{width_of, packed_in, tile_in, FitsIn, no_high_bytes}
use Rattle.ept_point.specs.Order.{IsBefore}
use Rattle.ept_point.specs.Tile.{ReadsIn}

-- the pieces of a packed point, cut by the widths of the dimensions alone, are the bytes of its fields
abbrev pub EachPieceIsItsField : Type 0
EachPieceIsItsField = (p : Point) → pieces 0 dimensions (packed p) ≡ map (λ field. (field.0, bytes_of field.0 field.1)) (fields p)

-- and each piece, read by the kind of its dimension alone, is what the point has of it
abbrev pub EachPieceReadsAsItsField : Type 0
EachPieceReadsAsItsField = (p : Point) → map read (pieces 0 dimensions (packed p)) ≡ fields p

-- a packed point takes the number of bytes that its dimensions take together
abbrev pub EachHasPackedLength : Type 0
EachHasPackedLength = (p : Point) → length (packed p) ≡ packed_width

-- a packed point has no field above its bound
abbrev pub EachIsWithinBounds : Type 0
EachIsWithinBounds = (p : Point) → ¬ HasFieldAboveBound (packed p)

-- two points with the same packed form are the same
abbrev pub IsPackedFormOfOne : Type 0
IsPackedFormOfOne = (p q : Point) → packed p ≡ packed q → p ≡ q

-- a tile has the width of its layout for each point
abbrev pub EachTileHasLength : Type 0
EachTileHasLength =
    (layout : Layout) (points : List Point) → length (tile_in layout points) ≡ width_of layout * length points

-- bytes read in one way only
abbrev pub ReadInOneWay : Type 0
ReadInOneWay =
    (layout : Layout) (bytes : List ℕ) (r s : Result (List Point) TileError) → ReadsIn layout bytes r → ReadsIn layout bytes s → r ≡ s

-- the old form of a point that fits it is the packed form without its last four bytes, which are 0
abbrev pub OldFormLacksZeros : Type 0
OldFormLacksZeros = (p : Point) → FitsIn Old p → packed p ≡ old_packed p ++ no_high_bytes

-- two points that fit a layout, with the same bytes in it, are the same
abbrev pub EachLayoutIsOfOne : Type 0
EachLayoutIsOfOne =
    (layout : Layout) (p q : Point) → FitsIn layout p → FitsIn layout q → packed_in layout p ≡ packed_in layout q → p ≡ q

-- no id is before itself
abbrev pub NoneIsBeforeItself : Type 0
NoneIsBeforeItself = (a : PointId) → ¬ IsBefore a a

-- what is before an id is before those after it
abbrev pub BeforeIsTransitive : Type 0
BeforeIsTransitive = (a b c : PointId) → IsBefore a b → IsBefore b c → IsBefore a c

-- if two ids are different, one is before the other
abbrev pub EitherIsBefore : Type 0
EitherIsBefore = (a b : PointId) → (a ≡ b) ⊎ (IsBefore a b ⊎ IsBefore b a)
