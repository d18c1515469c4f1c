-- The two layouts of a point in bytes: the number of its record has eight bytes, or in the old one four.
use Rattle.std.specs.Prelude.{ℕ, ◌≡◌, ⊤, List, [], ◌∷◌, ◌++◌}
use Rattle.std.specs.List.{AllByRecursion, flat_map}
use Rattle.ept_point.specs.declared.point.Point.{Point}
use Rattle.ept_point.specs.declared.layout.Layout.{Layout}
use Rattle.ept_point.specs.declared.layout.Layout.TheVariants.{Old, New}
use Rattle.ept_point.specs.Dimensions.{Fits, OldPointId, packed_width, old_width}
use Rattle.ept_point.specs.Packed.{packed, tile, old_packed, old_tile, HasFieldAboveBound}

-- how many bytes a point takes
abbrev pub width_of : Layout → ℕ
width_of Old = old_width
width_of New = packed_width

-- the bytes of a point
abbrev pub packed_in : Layout → Point → List ℕ
packed_in Old = old_packed
packed_in New = packed

-- the bytes of a tile: its points packed, one after another
abbrev pub tile_in : Layout → List Point → List ℕ
tile_in layout points = flat_map (packed_in layout) points

-- the number of a point fits its bytes; in the new layout each number does
abbrev pub FitsIn : Layout → Point → Type 0
FitsIn Old p = Fits OldPointId p.number
FitsIn New p = ⊤

-- the four bytes of each number that the old layout lacks, if the number fits it
abbrev pub no_high_bytes : List ℕ
no_high_bytes = 0 ∷ 0 ∷ 0 ∷ 0 ∷ []

-- some field of a packed point is above its greatest value
abbrev pub HasFieldAboveIn : Layout → List ℕ → Type 0
HasFieldAboveIn Old bytes = HasFieldAboveBound (bytes ++ no_high_bytes)
HasFieldAboveIn New bytes = HasFieldAboveBound bytes

-- the bytes are the packed form of a point
abbrev pub IsPackedIn : Layout → List ℕ → Point → Type 0
IsPackedIn Old bytes p = (bytes ≡ old_packed p) × FitsIn Old p
IsPackedIn New bytes p = bytes ≡ packed p

-- the bytes are the tile of these points
abbrev pub IsTileIn : Layout → List ℕ → List Point → Type 0
IsTileIn Old bytes points = (bytes ≡ old_tile points) × AllByRecursion (FitsIn Old) points
IsTileIn New bytes points = bytes ≡ tile points
