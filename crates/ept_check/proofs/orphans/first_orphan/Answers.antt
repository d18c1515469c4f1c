use Rattle.std.proofs.Common.{◌≡◌, List, take, subst, arith, refl}
use Rattle.std.specs.List.{All}
use Rattle.std.specs.BTreeSet.{contains}
use Rattle.std.proofs.lemmas.Bool.{false≢true}
use Rattle.ept_space.specs.VoxelKey.{VoxelKey, key_cmp, parent}
use Rattle.ept_hier.specs.Hierarchy.{Node, keys_of}
use Rattle.ept_fit.specs.Fit.{HasParent}
use Rattle.ept_check.proofs.Sets.{whole, all-more, none-in, parent-there, no-parent, first-of}
use Rattle.ept_check.proofs.orphans.first_orphan.Goals as goal

pub loop-node-init : goal.loop-node-init
loop-node-init c = none-in (HasParent (keys_of c.args.nodes.now))

pub returns-then-not-has_parent-clause-found : goal.returns-then-not-has_parent-clause-found
returns-then-not-has_parent-clause-found c =
    let key = c.node-item.result.0 in
    first-of c.args.nodes.now c.loop-node.node-index c.node-item.result c.requires.ascend c.loop-node-test.true c.node-item.is c.loop-node.invariant
    (λ has. false≢true (c.if-not-has_parent.ensures.1 (no-parent c.args.nodes.now key (contains key_cmp c.args.keys.now (parent key)) (c.requires.keys (parent key)) has)))

pub loop-node-preserved : goal.loop-node-preserved
loop-node-preserved c =
    let key = c.node-item.result.0 in
    all-more (HasParent (keys_of c.args.nodes.now)) c.args.nodes.now c.loop-node.node-index c.node-item.result c.loop-node-test.true c.node-item.is c.loop-node.invariant
    (parent-there c.args.nodes.now key (contains key_cmp c.args.keys.now (parent key)) (c.requires.keys (parent key)) (c.if-not-has_parent.ensures.0 refl))

pub returns-clause-none : goal.returns-clause-none
returns-clause-none c =
    let all = whole c.args.nodes.now c.loop-node.node-index c.loop-node.auto.node-index-end c.loop-node-test.false in
    subst (λ (w : List Node). All (HasParent (keys_of c.args.nodes.now)) (keys_of w)) all c.loop-node.invariant
