use Rattle.std.specs.Prelude.{◌≡◌, ◌<◌, List, [], ◌∷◌, ◌⊎◌, ⊤}
use Rattle.ept_point.specs.declared.point.Point.{Point}
use Rattle.ept_point.specs.declared.id.PointId.{PointId}

-- what identifies a point: the place of its scan, and the number of its record there
abbrev pub id : Point → PointId
id p = record { origin = p.origin; number = p.number }

-- the first id is the less one: by the scan, then by the record
abbrev pub IsBefore : PointId → PointId → Type 0
IsBefore a b = (a.origin < b.origin) ⊎ ((a.origin ≡ b.origin) × (a.number < b.number))

-- the first of these points, if there is one, comes after p
abbrev pub FollowedBy : Point → List Point → Type 0
FollowedBy p [] = ⊤
FollowedBy p (q ∷ points) = IsBefore (id p) (id q)

-- the ids strictly ascend
abbrev pub IsAscending : List Point → Type 0
IsAscending [] = ⊤
IsAscending (p ∷ points) = FollowedBy p points × IsAscending points
