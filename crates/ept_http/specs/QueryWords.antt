-- The words of a query: a box of places and a range of depths, as whole numbers with commas between them.
use Rattle.std.specs.Prelude.{◌≡◌, ℕ, ◌≤◌, List, [], ◌∷◌, ◌++◌, length, map, decimal, ◌≤ℤ◌, FitsSigned}
use Rattle.std.specs.Int.{w64}
use Rattle.std.specs.List.{AllByRecursion, join_with_byte}
use Rattle.std.specs.Fmt.{signed_decimal}
use Rattle.ept_space.specs.declared.box3.Box3.{Box3}
use Rattle.ept_space.specs.Place.{coordinate}

-- on no axis is the least coordinate of a box above its greatest
pub record IsOrdered (area : Box3) : Type 0 where
  pub x : coordinate area.min 0 ≤ℤ coordinate area.max 0
  pub y : coordinate area.min 1 ≤ℤ coordinate area.max 1
  pub z : coordinate area.min 2 ≤ℤ coordinate area.max 2

-- the text of an ordered box: the coordinates of its least place and then those of its greatest, each a
-- number of 64 bits
pub record IsBoxText (text : List ℕ) (area : Box3) : Type 0 where
  pub spelled : text ≡ join_with_byte 44 (map signed_decimal (area.min ++ area.max))
  pub least : length area.min ≡ 3
  pub greatest : length area.max ≡ 3
  pub fits : AllByRecursion (FitsSigned w64) (area.min ++ area.max)
  pub ordered : IsOrdered area

-- the text of a range of depths: the first and the last, each from 0 to 32, the first not above the last
pub record IsDepthsText (text : List ℕ) (first last : ℕ) : Type 0 where
  pub spelled : text ≡ join_with_byte 44 (map decimal (first ∷ last ∷ []))
  pub ordered : first ≤ last
  pub bounded : last ≤ 32
