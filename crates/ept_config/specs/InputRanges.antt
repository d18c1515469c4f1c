-- The ranges of an input.
use Rattle.std.specs.Prelude.{ℕ, ℤ, pos, ◌≡◌, ◌<◌, ◌≤◌, ◌^◌, List, length, slice_index, slice_index_or, unsigned_abs, true, Option}
use Rattle.std.specs.Option.{ForSome}
use Rattle.ept_config.specs.Texts.{is_path}

-- three numbers, each with an absolute value of at most `greatest`
pub record AreThreeWithin (greatest : ℕ) (xs : List ℤ) : Type 0 where
  pub three : length xs ≡ 3
  pub x : unsigned_abs (slice_index_or xs 0 (pos 0)) ≤ greatest
  pub y : unsigned_abs (slice_index_or xs 1 (pos 0)) ≤ greatest
  pub z : unsigned_abs (slice_index_or xs 2 (pos 0)) ≤ greatest

-- `width` bytes
pub record AreBytes (width : ℕ) (bytes : List ℕ) : Type 0 where
  pub width_is : length bytes ≡ width
  pub fit : (i : ℕ) → slice_index bytes i < 2 ^ 8

pub record InputInRange (path : List ℕ) (scale : ℕ) (shift : List ℤ) (expect : Option (List ℕ)) : Type 0 where
  pub path_is : is_path path ≡ true
  pub scale_most : scale ≤ 9
  pub shift_within : AreThreeWithin (10 ^ 15) shift
  pub expect_is : ForSome expect (AreBytes 48)
