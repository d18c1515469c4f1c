use Rattle.std.specs.Prelude.{ℕ, List, take}
use Rattle.ept_filter.specs.declared.dims.Dims.{Dims}

-- the dimensions that are asked for, in order
abbrev pub asked_rows : Dims → List ℕ
asked_rows dims = take dims.len dims.rows
