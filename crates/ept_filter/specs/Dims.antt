-- The dimensions of a packed point, each by its row in their table.
use Rattle.std.specs.Prelude.{◌≡◌, ◌≢◌, ℕ, ◌<◌, ◌≤◌, List, [], length, map, slice_index, slice_index_or}
use Rattle.std.specs.List.{range_with_len}
use Rattle.ept_point.specs.Dimensions.{Dimension, dimensions}

-- the number of dimensions
abbrev pub count_of_dims : ℕ
count_of_dims = length dimensions

-- all dimensions, in order
abbrev pub all_dims : List ℕ
all_dims = range_with_len 0 count_of_dims

-- the name of a dimension
abbrev pub name_of : ℕ → List ℕ
name_of dim = slice_index_or (map (λ (d : Dimension). d.name) dimensions) dim []

-- the number of bytes of a dimension
abbrev pub width_of : ℕ → ℕ
width_of dim = slice_index (map (λ (d : Dimension). d.width) dimensions) dim

-- the first `len` entries are dimensions, at least one and none twice; the other entries are 0
pub record AreDims (rows : List ℕ) (len : ℕ) : Type 0 where
  pub array : length rows ≡ count_of_dims
  pub some : 1 ≤ len
  pub most : len ≤ count_of_dims
  pub inside : (i : ℕ) → i < len → slice_index rows i < count_of_dims
  pub differ : (i k : ℕ) → i < k → k < len → slice_index rows i ≢ slice_index rows k
  pub others : (i : ℕ) → len ≤ i → slice_index rows i ≡ 0
