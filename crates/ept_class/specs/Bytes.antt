use Rattle.std.specs.Prelude.{◌≡◌, ℕ, ◌<◌, ◌^◌, List, length, slice_index}

-- a bit for each of the 256 classes
pub record AreSetBytes (bytes : List ℕ) : Type 0 where
  pub len : length bytes ≡ 32
  pub widths : (i : ℕ) → slice_index bytes i < 2 ^ 8
