use Rattle.ept_space.proofs.Extents.{inside-by_places, InCube-bounds, IsCubeOf-unique, IsCubeOf-cube_of}
use Rattle.ept_space.proofs.laws.bounds_law.Goals as goal

pub returns-clause-inside : goal.returns-clause-inside
returns-clause-inside c = inside-by_places

pub returns-clause-in_cube : goal.returns-clause-in_cube
returns-clause-in_cube c = InCube-bounds

pub returns-clause-one_cube : goal.returns-clause-one_cube
returns-clause-one_cube c = IsCubeOf-unique

pub returns-clause-cube_of : goal.returns-clause-cube_of
returns-clause-cube_of c = IsCubeOf-cube_of
