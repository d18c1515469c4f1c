-- What a query returns from a folder that is complete for some points.
use Rattle.std.specs.Prelude.{◌≡◌, ℕ, ◌↔◌, ⊤, List, length, Contains, Option, Result, Ok, Err, IsTrue}
use Rattle.std.specs.Io.KnownBytes.{Appends}
use Rattle.ept_base.specs.Devices.{AppendsPrefix}
use Rattle.ept_point.specs.declared.point.Point.{Point}
use Rattle.ept_space.specs.declared.box3.Box3.{Box3}
use Rattle.ept_space.specs.VoxelKey.{VoxelKey, AreAscending}
use Rattle.ept_sample.specs.Sampling.{sampling, is_node}
use Rattle.ept_config.specs.declared.kept.Kept.{Kept}
use Rattle.ept_hier.specs.Hierarchy.{Node, keys_of}
use Rattle.ept_meta.specs.Output.{rules_of}
use Rattle.ept_filter.specs.declared.sift.Sift.{Sift}
use Rattle.ept_query.specs.declared.query_error.QueryError.{QueryError}
use Rattle.ept_query.specs.declared.query_error.QueryError.TheVariants.{NotComplete, StoreFault, Damaged, SinkFault, Memory}
use Rattle.ept_query.specs.Search.{search_of, MeetsArea, HasDepth}
use Rattle.ept_query.specs.Rows.{asked_rows, answer, passing_points, selection}

-- The tiles of a plan are the nodes of the sampling whose depths are asked for and whose boxes meet the area. The count
-- of each is the number of its points.
pub record IsWholePlan (kept : Kept) (points : List Point) (area : Box3) (first last : ℕ) (tiles : List Node) : Type 0 where
  pub ascend : AreAscending (keys_of tiles)
  pub each : (key : VoxelKey) (count : ℕ) → Contains tiles (key, count) ↔ (IsTrue (is_node (rules_of kept) points key) × (count ≡ length (sampling (rules_of kept) points key)) × HasDepth (search_of kept area first last) key × MeetsArea (search_of kept area first last) key)

-- a device failed, or memory ran out
abbrev pub IsDevices : QueryError → Type 0
IsDevices NotComplete = ⊥
IsDevices StoreFault = ⊤
IsDevices (Damaged file) = ⊥
IsDevices SinkFault = ⊤
IsDevices Memory = ⊤

-- On success the result was appended, and `count` is how many points it has. Otherwise a device failed or memory ran
-- out, and a prefix of the result was appended.
abbrev pub AnswersWhole : Kept → List Point → Box3 → ℕ → ℕ → Option (List ℕ) → Option (List ℕ) → Result ℕ QueryError → Type 0
AnswersWhole kept points area first last old new (Ok count) =
    Appends old new (answer kept points area first last) × (count ≡ length (asked_rows kept points area first last))
AnswersWhole kept points area first last old new (Err error) =
    AppendsPrefix old new (answer kept points area first last) × IsDevices error

-- the same for a selection
abbrev pub SelectsWhole : Sift → Kept → List Point → Box3 → ℕ → ℕ → Option (List ℕ) → Option (List ℕ) → Result ℕ QueryError → Type 0
SelectsWhole sift kept points area first last old new (Ok count) =
    Appends old new (selection sift kept points area first last) × (count ≡ length (passing_points sift kept points area first last))
SelectsWhole sift kept points area first last old new (Err error) =
    AppendsPrefix old new (selection sift kept points area first last) × IsDevices error
