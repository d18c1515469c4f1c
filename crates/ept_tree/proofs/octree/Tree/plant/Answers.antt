use Rattle.std.proofs.Common.{◌∙◌, List, ◌∷◌, ◌++◌, sym, subst}
use Rattle.ept_space.specs.declared.cube.Rules.{Rules}
use Rattle.ept_space.specs.VoxelKey.{VoxelKey}
use Rattle.ept_space.specs.OctreeCube.{InBox}
use Rattle.ept_sample.specs.Place.{place}
use Rattle.ept_tree.specs.Sending.{sending}
use Rattle.ept_table.specs.Octree.{Branch, AreNodes}
use Rattle.ept_tree.specs.Tree.{IsTree}
use Rattle.ept_tree.specs.Whole.{StaysWhole}
use Rattle.ept_tree.proofs.Branches.{own-insert}
use Rattle.ept_tree.proofs.Growing.{new-distinct, new-node-tree}
use Rattle.ept_tree.proofs.Inside.{found-down}
use Rattle.ept_tree.proofs.Together.{new-together}
use Rattle.ept_tree.proofs.Wholeness.{new-whole}
use Rattle.ept_tree.proofs.octree.Tree.plant.Goals as goal

pub take_in-requires-clause-inside : goal.take_in-requires-clause-inside
take_in-requires-clause-inside c =
    let a = c.args.arrival.now in
    subst (λ (r : Rules). InBox r.cube c.new-node.result.key (place a.point)) (sym c.new-node.ensures.rules) (subst (λ (k : VoxelKey). InBox c.args.self.now.rules.cube k (place a.point)) (sym c.new-node.ensures.key) c.requires.placed.inside)

pub returns-clause-own : goal.returns-clause-own
returns-clause-own c =
    let rules = c.args.self.now.rules in
    let a = c.args.arrival.now in
    let nodes = c.args.self.now.nodes.entries in
    let new = c.take_in.new.node in
    subst (λ (w : List Branch). AreNodes rules w) (sym (c.in_ok-insert.ensures.entries)) (own-insert rules nodes a.key new c.requires.rest.own (c.in_ok-take_in.ensures.key ∙ c.new-node.ensures.key) (c.in_ok-take_in.ensures.rules ∙ c.new-node.ensures.rules))

pub returns-clause-landed : goal.returns-clause-landed
returns-clause-landed c =
    let rules = c.args.self.now.rules in
    let a = c.args.arrival.now in
    let nodes = c.args.self.now.nodes.entries in
    let old = c.new-node.result in
    let new = c.take_in.new.node in
    let leaving = c.take_in.new.leaving in
    record {
      becomes = λ others points left tree. subst (λ (w : List Branch). IsTree rules points left (others ++ sending a.key leaving) w) (sym (c.in_ok-insert.ensures.entries)) (new-node-tree rules points left a others nodes tree c.requires.absent old new c.args.self.now.leaving leaving c.new-node.ensures.key c.new-node.ensures.rules c.new-node.ensures.points c.new-node.ensures.mask c.in_ok-take_in.ensures.key c.in_ok-take_in.ensures.rules (c.in_ok-take_in.ensures.taken (new-distinct rules points left a others nodes tree c.requires.absent old c.new-node.ensures.points)) c.requires.rest.none);
      together = λ test. new-together test nodes c.insert.new.self.entries a.key a.point old new leaving c.requires.absent c.in_ok-insert.ensures.entries c.new-node.ensures.points (c.in_ok-take_in.ensures.together test);
      down = found-down rules old.rules a.key old.key leaving c.new-node.ensures.rules c.new-node.ensures.key c.in_ok-take_in.ensures.down;
      whole = λ others. subst (λ (w : List Branch). StaysWhole (a ∷ others) nodes (others ++ sending a.key leaving) w) (sym (c.in_ok-insert.ensures.entries)) (new-whole nodes a others old new leaving c.in_ok-take_in.ensures.opened c.requires.absent c.new-node.ensures.mask);
    }
