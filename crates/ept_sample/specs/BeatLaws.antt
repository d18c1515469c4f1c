-- The laws of beating. Each statement is a clause of a function of `laws`.
use Rattle.std.specs.Prelude.{ℕ, ◌<◌, IsTrue, ◌⊎◌}
use Rattle.ept_point.specs.declared.point.Point.{Point}
use Rattle.ept_space.specs.declared.cube.Rules.{Rules}
use Rattle.ept_space.specs.OctreeCube.{same_cell, distance_at}
use Rattle.ept_space.specs.Group.{group_of, HaveNoGroups}
use Rattle.ept_sample.specs.Place.{place}
use Rattle.ept_sample.specs.Ids.{same_id}
use Rattle.ept_sample.specs.Rank.{beats}

-- no point beats itself
abbrev pub NoneBeatsItself : Type 0
NoneBeatsItself = (rules : Rules) (depth : ℕ) (p : Point) → ¬ IsTrue (beats rules depth p p)

-- what beats a point beats what that point beats
abbrev pub BeatingGoesOn : Type 0
BeatingGoesOn =
    (rules : Rules) (depth : ℕ) (p q r : Point) → IsTrue (beats rules depth p q) → IsTrue (beats rules depth q r) → IsTrue (beats rules depth p r)

-- if two points of one cell have different ids, one beats the other
abbrev pub OneOfTwoBeats : Type 0
OneOfTwoBeats =
    (rules : Rules) (depth : ℕ) (p q : Point) → IsTrue (same_cell rules.cube depth (place p) (place q)) → ¬ IsTrue (same_id p q) → IsTrue (beats rules depth p q) ⊎ IsTrue (beats rules depth q p)

-- points of different cells don't beat each other
abbrev pub BeatingIsInOneCell : Type 0
BeatingIsInOneCell =
    (rules : Rules) (depth : ℕ) (p q : Point) → IsTrue (beats rules depth p q) → IsTrue (same_cell rules.cube depth (place p) (place q))

-- the nearest to the centre wins, if no class comes first and withheld points are like others
abbrev pub TheNearestBeats : Type 0
TheNearestBeats =
    (rules : Rules) (depth : ℕ) (p q : Point) → HaveNoGroups rules → IsTrue (same_cell rules.cube depth (place p) (place q)) → distance_at rules.cube depth (place p) < distance_at rules.cube depth (place q) → IsTrue (beats rules depth p q)

-- a point of a lower group beats one of a higher group, however far it is
abbrev pub ALowerGroupBeats : Type 0
ALowerGroupBeats =
    (rules : Rules) (depth : ℕ) (p q : Point) → IsTrue (same_cell rules.cube depth (place p) (place q)) → group_of rules p.class p.class_flags < group_of rules q.class q.class_flags → IsTrue (beats rules depth p q)
