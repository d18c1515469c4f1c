use Rattle.std.proofs.Common.{◌≤◌, ◌++◌, ◌∷◌, [], List, length, sym, subst, arith, take, Option}
use Rattle.std.proofs.lemmas.List.{take_all}
use Rattle.std.proofs.lemmas.Result.{err_from_is_err_and}
use Rattle.ept_base.specs.Files.{Files, Tells}
use Rattle.ept_merge.specs.declared.joining.PartNode.{PartNode}
use Rattle.ept_merge.specs.Merging.{IsTileDamaged}
use Rattle.ept_merge.specs.Putting.{AreIntact, IsNodesFault}
use Rattle.ept_merge.proofs.Reading.{tells-more, tells-always, tells-both, reads-none, reads-both, reads-files}
use Rattle.ept_merge.proofs.Loads.{take-more, item-member, intact-none, intact-more, fault-more, one-among}
use Rattle.ept_merge.proofs.putting.judge_below.Goals as goal

pub loop-node-init : goal.loop-node-init
loop-node-init g c =
    let s = g.T.Store in
    record {
      intact = tells-always _ (λ all. intact-none c.args.rules.now all) (s.files c.args.store.now);
      moves = reads-none s.files s.may_leave s.moment s.image_since c.args.store.now;
      later = omega arith;
    }

pub load_node-requires-clause-low : goal.load_node-requires-clause-low
load_node-requires-clause-low g c = (c.requires.low c.node-item.result (item-member c.args.nodes.now c.loop-node.node-index c.node-item.result c.loop-node-test.true c.node-item.is)).1

pub returns-in_err-load_node-clause-refused : goal.returns-in_err-load_node-clause-refused
returns-in_err-load_node-clause-refused g c =
    let s = g.T.Store in
    let i = c.loop-node in
    let node = c.node-item.result in
    let nodes = c.args.nodes.now in
    let e = c.in_err-load_node.field-0.0 in
    let p = err_from_is_err_and c.from_residual.result c.from_residual.ensures.1 in
    rw (p.1, p.2)
    (tells-more (λ all. IsNodesFault c.args.rules.now all (node ∷ []) e) (λ all. IsNodesFault c.args.rules.now all nodes e)
    (λ all fault. fault-more c.args.rules.now all (node ∷ []) nodes e (one-among node nodes (item-member nodes i.node-index node c.loop-node-test.true c.node-item.is)) fault) (s.files c.args.store.now)
    (subst (λ (o : Option Files). Tells (λ all. IsNodesFault c.args.rules.now all (node ∷ []) e) o) (reads-files s.files s.may_leave s.moment s.image_since c.args.store.now i.store i.invariant.moves) c.in_err-load_node.ensures.refused))

pub returns-in_err-load_node-clause-any_moment : goal.returns-in_err-load_node-clause-any_moment
returns-in_err-load_node-clause-any_moment g c =
    let s = g.T.Store in
    reads-both s.files s.may_leave s.moment s.image_since c.args.store.now c.loop-node.store c.load_node.new.store c.loop-node.invariant.moves c.load_node.ensures.any_moment

pub loop-node-preserved : goal.loop-node-preserved
loop-node-preserved g c =
    let s = g.T.Store in
    let i = c.loop-node in
    let rules = c.args.rules.now in
    let node = c.node-item.result in
    let nodes = c.args.nodes.now in
    let files = s.files c.args.store.now in
    let same = reads-files s.files s.may_leave s.moment s.image_since c.args.store.now i.store i.invariant.moves in
    record {
      intact = subst (λ (w : List PartNode). Tells (λ all. AreIntact rules all w) files) (sym (take-more nodes i.node-index node c.loop-node-test.true c.node-item.is))
          (tells-both (λ all. AreIntact rules all (take i.node-index nodes)) (λ all. ¬ IsTileDamaged rules all node.octants node.line) (λ all. AreIntact rules all (take i.node-index nodes ++ node ∷ []))
          (λ all before one. intact-more rules all (take i.node-index nodes) node before one) files i.invariant.intact
          (subst (λ (o : Option Files). Tells (λ all. ¬ IsTileDamaged rules all node.octants node.line) o) same c.in_ok-load_node.ensures.intact));
      moves = reads-both s.files s.may_leave s.moment s.image_since c.args.store.now i.store c.load_node.new.store i.invariant.moves c.load_node.ensures.any_moment;
      later = omega (arith, i.invariant.later, c.load_node.ensures.cause.later);
    }

pub returns-clause-intact : goal.returns-clause-intact
returns-clause-intact g c =
    let i = c.loop-node in
    let end : length c.args.nodes.now ≤ i.node-index = omega arith in
    subst (λ (w : List PartNode). Tells (λ all. AreIntact c.args.rules.now all w) (g.T.Store.files c.args.store.now)) (take_all i.node-index c.args.nodes.now end) i.invariant.intact

pub returns-clause-any_moment : goal.returns-clause-any_moment
returns-clause-any_moment g c = c.loop-node.invariant.moves
