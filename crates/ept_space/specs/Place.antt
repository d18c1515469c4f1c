-- Places: whole numbers of stored units on the axes x, y and z.
use Rattle.std.specs.Prelude.{ℕ, List, ℤ, pos, slice_index_or}

-- a place has a coordinate on each of the axes 0, 1 and 2
abbrev pub Place : Type 0
Place = List ℤ

-- the coordinate on an axis
abbrev pub coordinate : Place → ℕ → ℤ
coordinate place axis = slice_index_or place axis (pos 0)
