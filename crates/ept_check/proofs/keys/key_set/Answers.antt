use Rattle.std.proofs.Common.{◌≡◌, List, length, take, subst, arith}
use Rattle.std.specs.List.{All}
use Rattle.std.specs.BTreeSet.{contains}
use Rattle.std.proofs.Math.Seq.{take-length}
use Rattle.ept_space.specs.VoxelKey.{VoxelKey, IsKey, key_cmp}
use Rattle.ept_hier.specs.Hierarchy.{Node, keys_of}
use Rattle.ept_fit.specs.Fit.{is_among}
use Rattle.ept_check.proofs.Sets.{whole, set-more, all-more, none-in}
use Rattle.ept_check.proofs.keys.key_set.Goals as goal

pub loop-node-init : goal.loop-node-init
loop-node-init c = record { keys = λ q. grind (arith, c.new-keys.ensures); are_keys = none-in IsKey }

pub loop-node-preserved : goal.loop-node-preserved
loop-node-preserved c = record {
  keys = λ q. set-more c.args.nodes.now c.loop-node.node-index c.node-item.result q (contains key_cmp c.loop-node.keys q) (contains key_cmp c.insert.new.self q) (omega arith) c.node-item.is (c.loop-node.invariant.keys q) (c.in_ok-insert.ensures.updates.0 q);
  are_keys = all-more IsKey c.args.nodes.now c.loop-node.node-index c.node-item.result (omega arith) c.node-item.is c.loop-node.invariant.are_keys c.known.ensures;
}

pub returns-clause-keys : goal.returns-clause-keys
returns-clause-keys c =
    let all : take c.loop-node.node-index c.args.nodes.now ≡ c.args.nodes.now = whole c.args.nodes.now c.loop-node.node-index c.loop-node.auto.node-index-end c.loop-node-test.false in
    subst (λ (w : List Node). (key : VoxelKey) → contains key_cmp c.loop-node.keys key ≡ is_among (keys_of w) key) all c.loop-node.invariant.keys

pub returns-clause-are_keys : goal.returns-clause-are_keys
returns-clause-are_keys c =
    let all : take c.loop-node.node-index c.args.nodes.now ≡ c.args.nodes.now = whole c.args.nodes.now c.loop-node.node-index c.loop-node.auto.node-index-end c.loop-node-test.false in
    subst (λ (w : List Node). All IsKey (keys_of w)) all c.loop-node.invariant.are_keys
