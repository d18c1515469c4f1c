-- The nodes of an octree that is the sampling of points.
use Rattle.std.proofs.Common.{◌≡◌, refl, sym, subst, List}
use Rattle.ept_point.specs.declared.point.Point.{Point}
use Rattle.ept_space.specs.declared.cube.Rules.{Rules}
use Rattle.ept_sample.specs.declared.tiles.Tile.{Tile}
use Rattle.ept_sample.specs.Ids.{HasDistinctIds}
use Rattle.ept_sample.specs.Members.{IsMember}
use Rattle.ept_sample.specs.Nodes.{node_keys, tile_at, sampled}
use Rattle.ept_sample.specs.Sampling.{sampling}
use Rattle.ept_sample.specs.SamplingLaws.{CanBeSampled}
use Rattle.ept_sample.proofs.IdLaws.{HasDistinctIds-IsRising}
use Rattle.ept_sample.proofs.Members.{IsMember-map, member-map}
use Rattle.ept_sample.proofs.SamplingLaws.{IsRising-sampling}
use Rattle.ept_table.specs.Octree.{Branch, tile_of, AreSampled}

member_points : (rules : Rules) (points : List Point) (t : Tile) → IsMember t (sampled rules points) → t.points ≡ sampling rules points t.key
unfolding sampled
member_points rules points t m =
    let at = member-map (tile_at rules points) t (node_keys rules points) m in
    subst (λ (w : Tile). w.points ≡ sampling rules points w.key) at.2 refl

-- each has the points of its key
pub node-points : (rules : Rules) (points : List Point) (nodes : List Branch) (b : Branch) → AreSampled rules points nodes → IsMember b nodes → b.1.points ≡ sampling rules points b.0
node-points rules points nodes b are m =
    member_points rules points (tile_of b) (subst (λ (w : List Tile). IsMember (tile_of b) w) are.tiles (IsMember-map tile_of b nodes m))

-- and these points have different ids
pub node-distinct : (rules : Rules) (points : List Point) → CanBeSampled rules points → (nodes : List Branch) → AreSampled rules points nodes → (b : Branch) → IsMember b nodes → HasDistinctIds b.1.points
node-distinct rules points can nodes are b m =
    subst (λ (w : List Point). HasDistinctIds w) (sym (node-points rules points nodes b are m)) (HasDistinctIds-IsRising (sampling rules points b.0) (IsRising-sampling rules points b.0 can.distinct))
