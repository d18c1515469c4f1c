-- The refusal of a query for each refusal of the layers below.
use Rattle.std.specs.Prelude.{◌≡◌, ◌⊎◌}
use Rattle.ept_base.specs.declared.errors.GetError.{GetError}
use Rattle.ept_base.specs.declared.errors.GetError.TheVariants as get
use Rattle.ept_hier.specs.declared.hier_error.HierError.{HierError}
use Rattle.ept_hier.specs.declared.hier_error.HierError.TheVariants as hier
use Rattle.ept_meta.specs.declared.meta_error.MetaError.{MetaError}
use Rattle.ept_meta.specs.declared.meta_error.MetaError.TheVariants as meta
use Rattle.ept_point.specs.declared.tile.TileError.{TileError}
use Rattle.ept_point.specs.declared.tile.TileError.TheVariants as tile
use Rattle.ept_query.specs.declared.query_error.QueryFile.{QueryFile}
use Rattle.ept_query.specs.declared.query_error.QueryFile.TheVariants.{BuildJson}
use Rattle.ept_query.specs.declared.query_error.QueryError.{QueryError}
use Rattle.ept_query.specs.declared.query_error.QueryError.TheVariants.{StoreFault, Damaged, Memory}

abbrev pub of_get : GetError → QueryError
of_get get.Failed = StoreFault
of_get get.Memory = Memory

-- a refusal of a store: it failed, or memory ran out
abbrev pub IsStores : QueryError → Type 0
IsStores e = (e ≡ StoreFault) ⊎ (e ≡ Memory)

-- a refusal of the bytes of a hierarchy file
abbrev pub of_hierarchy : QueryFile → HierError → QueryError
of_hierarchy file hier.Json = Damaged file
of_hierarchy file hier.Key = Damaged file
of_hierarchy file hier.Count = Damaged file
of_hierarchy file hier.Memory = Memory

-- a refusal of the bytes of a tile
abbrev pub of_tile : QueryFile → TileError → QueryError
of_tile file tile.Length = Damaged file
of_tile file (tile.Field at) = Damaged file
of_tile file (tile.Order at) = Damaged file
of_tile file tile.Memory = Memory

-- a refusal of the bytes of the build file
abbrev pub of_build : MetaError → QueryError
of_build meta.Form = Damaged BuildJson
of_build meta.Memory = Memory
