use Rattle.std.proofs.Common.{◌-◌, subst, map, arith}
use Rattle.ept_space.specs.OctreeCube.{IsCube}
use Rattle.ept_space.specs.declared.cube.Rules.{Rules}
use Rattle.ept_sample.specs.Nodes.{sampled}
use Rattle.ept_sample.specs.Walk.{tile_of}
use Rattle.ept_sample.proofs.WalkNodes.{walk-entries, tiles-same, root-InBox, given-InCube}
use Rattle.ept_sample.proofs.top_down.sample.Goals as goal

pub add_nodes-requires-clause-inside : goal.add_nodes-requires-clause-inside
add_nodes-requires-clause-inside c =
    root-InBox c.args.rules.now.cube c.args.points.now c.in_ok-given.given.items c.as_slice.result.now c.as_slice.ensures.value c.in_ok-given.ensures.ordered c.requires.inside

pub add_nodes-requires-clause-in_cube : goal.add_nodes-requires-clause-in_cube
add_nodes-requires-clause-in_cube c =
    given-InCube c.args.rules.now.cube c.args.points.now c.in_ok-given.given.items c.as_slice.result.now c.as_slice.ensures.value c.in_ok-given.ensures.ordered c.requires.inside

pub returns : goal.returns
returns c =
    record { sampled = tiles-same c.tiles_of.result (map tile_of c.add_nodes.new.nodes.entries) (sampled c.args.rules.now c.args.points.now) (walk-entries c.args.rules.now c.args.points.now c.in_ok-given.given.items c.as_slice.result.now c.new-nodes.result.entries c.add_nodes.new.nodes.entries (c.args.rules.now.cube.depth - 0) (subst (λ (r : Rules). IsCube r.cube) c.rules.view_is c.rules.invariant) c.requires.inside c.new-nodes.ensures.empty (omega arith) c.as_slice.ensures.value c.in_ok-given.ensures.ordered c.in_ok-add_nodes.ensures.nodes) c.tiles_of.ensures }
