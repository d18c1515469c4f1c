-- Points are added to a sampling. The statement is in the contract of a function of `laws`.
use Rattle.std.specs.Prelude.{◌≡◌, true, List, length, Contains}
use Rattle.ept_point.specs.declared.point.Point.{Point}
use Rattle.ept_space.specs.declared.cube.Rules.{Rules}
use Rattle.ept_space.specs.VoxelKey.{VoxelKey, is_within}
use Rattle.ept_sample.specs.Ids.{HasDistinctIds}
use Rattle.ept_sample.specs.Sampling.{sampling}

-- at each key within the top key, equal numbers of the first points and of the second stay
abbrev pub StayAsMany : Rules → List Point → List Point → VoxelKey → Type 0
StayAsMany rules ps qs top =
    (key : VoxelKey) → is_within top key ≡ true → length (sampling rules ps key) ≡ length (sampling rules qs key)

-- points are only added: if equal numbers stay before and after at each key within a key, the same points stay at the
-- key
abbrev pub SameOnesStay : Type 0
SameOnesStay =
    (rules : Rules) (ps qs : List Point) (key : VoxelKey) → HasDistinctIds ps → HasDistinctIds qs → ((p : Point) → Contains ps p → Contains qs p) → StayAsMany rules ps qs key → sampling rules ps key ≡ sampling rules qs key
