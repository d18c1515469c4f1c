-- Where a point lies.
use Rattle.std.specs.Prelude.{List, [], ◌∷◌}
use Rattle.std.specs.List.{All}
use Rattle.ept_point.specs.declared.point.Point.{Point}
use Rattle.ept_space.specs.Place.{Place}
use Rattle.ept_space.specs.OctreeCube.{OctreeCube, InCube, InBox}
use Rattle.ept_space.specs.VoxelKey.{VoxelKey}

-- the place of a point
abbrev pub place : Point → Place
place p = p.x ∷ p.y ∷ p.z ∷ []

-- each point lies in the cube
abbrev pub AllInCube : OctreeCube → List Point → Type 0
AllInCube cube points = All (λ p. InCube cube (place p)) points

-- each point lies in the box of the key
abbrev pub AllInBox : OctreeCube → VoxelKey → List Point → Type 0
AllInBox cube key points = All (λ p. InBox cube key (place p)) points
