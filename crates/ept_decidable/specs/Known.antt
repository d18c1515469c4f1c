-- What can be computed of files and of nodes. Each statement is proved by the contract of a function of `laws`.
use Rattle.std.specs.Prelude.{◌≡◌, ◌↔◌, ℕ, Bool, List, Option, Some}
use Rattle.std.specs.Bool.{Decides}
use Rattle.ept_point.specs.declared.point.Point.{Point}
use Rattle.ept_space.specs.declared.cube.Rules.{Rules}
use Rattle.ept_scan.specs.declared.second_reading.Reader.{Reader}
use Rattle.ept_scan.specs.Reader.{IsRest}
use Rattle.ept_sample.specs.Ids.{HasDistinctIds}
use Rattle.ept_sample.specs.SamplingLaws.{CanBeSampled}
use Rattle.ept_table.specs.Octree.{Branch, AreSampled}

-- whether the fact holds is computed
abbrev pub IsDecided : Type 0 → Type 0
IsDecided fact = (answer : Bool) × Decides answer fact

-- For each reader there is the list of the points that are left, or none. If the sources hold the bytes that were
-- scanned, it is the one list of these points.
abbrev pub RestIsKnown : {S : Type 0} → (S → Option (List ℕ)) → Type 0
RestIsKnown {S} whole = (reader : Reader S) → (rest : Option (List Point)) × ((points : List Point) → (rest ≡ Some points) ↔ IsRest whole reader points)

abbrev pub DistinctIdsAreDecided : Type 0
DistinctIdsAreDecided = (points : List Point) → IsDecided (HasDistinctIds points)

abbrev pub CanBeSampledIsDecided : Type 0
CanBeSampledIsDecided = (rules : Rules) (points : List Point) → IsDecided (CanBeSampled rules points)

abbrev pub SampledIsDecided : Type 0
SampledIsDecided = (rules : Rules) (points : List Point) (nodes : List Branch) → IsDecided (AreSampled rules points nodes)
