use Rattle.std.proofs.Common.{◌≡◌, ◌+◌, ◌∙◌, List, ◌∷◌, ◌++◌, sym, subst, Bool, count_by}
use Rattle.ept_sample.specs.Ids.{HasDistinctIds}
use Rattle.ept_grid.specs.Node.{TakesIn}
use Rattle.ept_tree.specs.Sending.{sending}
use Rattle.ept_table.specs.Octree.{Branch, AreNodes}
use Rattle.ept_tree.specs.Tree.{IsTree, GoDown}
use Rattle.ept_tree.specs.Whole.{StaysWhole, HasOpened}
use Rattle.ept_tree.proofs.Branches.{branch, lookup-member, own-set}
use Rattle.ept_tree.proofs.Growing.{found-distinct, found-tree, four-ok}
use Rattle.ept_tree.proofs.Inside.{found-placed, found-down, any-ok}
use Rattle.ept_point.specs.declared.point.Point.{Point}
use Rattle.ept_grid.specs.Outgoing.{all_points}
use Rattle.ept_tree.proofs.Together.{found-together}
use Rattle.ept_tree.proofs.Wholeness.{found-whole}
use Rattle.ept_tree.proofs.octree.Tree.land.Goals as goal

pub take_in-requires-clause-inside : goal.take_in-requires-clause-inside
take_in-requires-clause-inside c =
    found-placed c.args.self.now.rules c.args.self.now.nodes.entries c.args.arrival.now c.in-Some.node.now c.requires.rest.own c.in-Some.ensures.value c.requires.placed

pub returns-in-Some-clause-own : goal.returns-in-Some-clause-own
returns-in-Some-clause-own c =
    let rules = c.args.self.now.rules in
    let a = c.args.arrival.now in
    let nodes = c.args.self.now.nodes.entries in
    let new = c.take_in.new.node in
    let its = c.requires.rest.own (branch a.key c.in-Some.node.now) (lookup-member nodes a.key c.in-Some.node.now c.in-Some.ensures.value) in
    any-ok c.take_in.result _ (subst (λ (w : List Branch). AreNodes rules w) (sym (c.get_mut.follows.holds new).0) (own-set rules nodes a.key new c.requires.rest.own (c.take_in.ensures.key ∙ its.0) (c.take_in.ensures.rules ∙ its.1)))

pub returns-in-Some-clause-landed : goal.returns-in-Some-clause-landed
returns-in-Some-clause-landed c =
    let rules = c.args.self.now.rules in
    let a = c.args.arrival.now in
    let nodes = c.args.self.now.nodes.entries in
    let old = c.in-Some.node.now in
    let new = c.take_in.new.node in
    let leaving = c.take_in.new.leaving in
    let its = c.requires.rest.own (branch a.key old) (lookup-member nodes a.key old c.in-Some.ensures.value) in
    four-ok c.take_in.result (HasDistinctIds (a.point ∷ old.points) → TakesIn old new a.point c.args.self.now.leaving leaving) ((test : Point → Bool) → count_by test new.points + count_by test (all_points leaving) ≡ count_by test (a.point ∷ old.points)) (GoDown old.rules old.key leaving) (HasOpened old.mask new.mask leaving) _ c.take_in.ensures.taken c.take_in.ensures.together c.take_in.ensures.down c.take_in.ensures.opened (λ taken counted down opening. record {
      becomes = λ others points left tree. subst (λ (w : List Branch). IsTree rules points left (others ++ sending a.key leaving) w) (sym (c.get_mut.follows.holds new).0) (found-tree rules points left a others nodes tree old c.in-Some.ensures.value new c.args.self.now.leaving leaving c.take_in.ensures.key c.take_in.ensures.rules (taken (found-distinct rules points left a others nodes tree old c.in-Some.ensures.value)) c.requires.rest.none);
      together = λ test. found-together test nodes _ a.key a.point old new leaving c.in-Some.ensures.value (c.get_mut.follows.holds new).0 (counted test);
      down = found-down rules old.rules a.key old.key leaving its.1 its.0 down;
      whole = λ others. subst (λ (w : List Branch). StaysWhole (a ∷ others) nodes (others ++ sending a.key leaving) w) (sym (c.get_mut.follows.holds new).0) (found-whole nodes a others old new leaving opening c.in-Some.ensures.value);
    })
