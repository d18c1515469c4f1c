-- How many points and nodes a sampling has.
use Rattle.std.proofs.Common.{◌≡◌, ◌∙◌, ℕ, suc, ◌≤◌, List, [], ◌∷◌, ◌++◌, length, take, drop, refl, sym, ap, subst, arith, length-append}
use Rattle.std.specs.Prelude.{Contains}
use Rattle.std.specs.List.{AllZip}
use Rattle.std.proofs.lemmas.List.{take-append-drop, length-map}
use Rattle.std.proofs.lemmas.List.Elements.{Contains-append_left}
use Rattle.std.proofs.lemmas.List.Sums.{sum_by-cons}
use Rattle.ept_point.specs.declared.point.Point.{Point}
use Rattle.ept_space.specs.declared.cube.Rules.{Rules}
use Rattle.ept_sample.specs.declared.tiles.Tile.{Tile}
use Rattle.ept_sample.specs.Nodes.{node_keys, tile_at, sampled}
use Rattle.ept_sample.specs.SamplingLaws.{CanBeSampled, MorePointsHaveMoreNodes}
use Rattle.ept_ckpt.specs.declared.node_line.NodeLine.{NodeLine}
use Rattle.ept_ckpt.specs.Octree as ckpt
use Rattle.ept_table.specs.Octree.{Branch, tile_of, points_in, AreSampled}
use Rattle.ept_octree_ckpt.specs.Lines.{TellNodes}
use Rattle.ept_build.proofs.Fronts.{can-front}

-- ---- points of nodes

-- the nodes have the number of points that their lines state
pub told-number : (nodes : List Branch) (lines : List NodeLine) → TellNodes nodes lines → length (points_in nodes) ≡ ckpt.points_in lines
told-number [] [] told = refl
told-number [] (l ∷ lines) told = absurd told
told-number (b ∷ nodes) [] told = absurd told
told-number (b ∷ nodes) (l ∷ lines) told =
    omega (arith, length-append b.1.points (points_in nodes), sum_by-cons (λ (line : NodeLine). line.count) l lines, told-number nodes lines told.1, told.0.count)

-- ---- numbers of nodes

sampled_length : (rules : Rules) (points : List Point) → length (sampled rules points) ≡ length (node_keys rules points)
unfolding sampled
sampled_length rules points = length-map (node_keys rules points) (tile_at rules points)

-- the first points have no more nodes than all
pub front-nodes : MorePointsHaveMoreNodes → (rules : Rules) (n : ℕ) (points : List Point) → CanBeSampled rules points → length (sampled rules (take n points)) ≤ length (sampled rules points)
front-nodes more rules n points can =
    let joined : take n points ++ drop n points ≡ points = take-append-drop n points in
    let fewer = more rules (take n points) points (can-front rules n points can).distinct can (λ p among. subst (λ (w : List Point). Contains w p) joined (Contains-append_left (take n points) (drop n points) p among)) in
    omega (arith, fewer, sampled_length rules (take n points), sampled_length rules points)

pub nodes-number : (rules : Rules) (points : List Point) (nodes : List Branch) → AreSampled rules points nodes → length nodes ≡ length (sampled rules points)
nodes-number rules points nodes are = sym (length-map nodes tile_of) ∙ ap (λ (w : List Tile). length w) are.tiles

pub lines-number : {X : Type 0} (R : X → NodeLine → Type 0) (xs : List X) (lines : List NodeLine) → AllZip R xs lines → length lines ≡ length xs
lines-number R [] [] zip = refl
lines-number R [] (l ∷ lines) zip = absurd zip
lines-number R (x ∷ xs) [] zip = absurd zip
lines-number R (x ∷ xs) (l ∷ lines) zip = ap suc (lines-number R xs lines zip.1)
