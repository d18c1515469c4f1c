-- Where the bytes of a dimension are in a packed point. This follows from the widths of the dimensions before it alone.
use Rattle.std.specs.Prelude.{◌≡◌, ℕ, ◌+◌, ◌≤◌, List, [], length, map, take, slice_index, slice_index_or}
use Rattle.std.specs.List.{sum_by}
use Rattle.ept_point.specs.Dimensions.{Dimension, dimensions, pieces}
use Rattle.ept_filter.specs.Dims.{count_of_dims}

-- the bytes of a dimension in those of a packed point
unfoldable pub part : List ℕ → ℕ → List ℕ
part bytes dim = slice_index_or (map (λ (piece : Dimension × List ℕ). piece.1) (pieces 0 dimensions bytes)) dim []

-- the number of bytes of the dimensions before one
unfoldable pub start_of : ℕ → ℕ
start_of dim = sum_by (λ dimension. dimension.width) (take dim dimensions)

-- the start of each dimension, and the end of the last
pub record AreStarts (starts : List ℕ) : Type 0 where
  pub array : length starts ≡ count_of_dims + 1
  pub each : (dim : ℕ) → dim ≤ count_of_dims → slice_index starts dim ≡ start_of dim
