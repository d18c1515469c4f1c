use Rattle.std.proofs.Common.{◌≡◌, ◌≤◌, ◌∙◌, ◌++◌, ◌∷◌, [], ◌+◌, List, length, sym, ap, subst, arith, take, Option}
use Rattle.std.proofs.lemmas.List.{take_all}
use Rattle.std.proofs.lemmas.Result.{err_from_is_err_and}
use Rattle.ept_base.specs.Files.{Files, Tells}
use Rattle.ept_space.specs.VoxelKey.{VoxelKey}
use Rattle.ept_sample.specs.Members.{IsMember}
use Rattle.ept_sample.proofs.Members.{IsMember-map}
use Rattle.ept_merge.specs.declared.bodies.PartBody.{PartBody}
use Rattle.ept_merge.specs.declared.joining.PartNode.{PartNode}
use Rattle.ept_merge.specs.Joining.{root_node, roots_of}
use Rattle.ept_merge.specs.Merging.{IsTileDamaged}
use Rattle.ept_merge.specs.Putting.{Loads, LoadsAll, AreIntact, IsNodesFault}
use Rattle.ept_merge.proofs.Reading.{tells-more, tells-always, tells-both, reads-none, reads-both, reads-files}
use Rattle.ept_merge.proofs.Loads.{taken-more, item-member, loads-none, loads-more, intact-none, intact-more, fault-more, one-among}
use Rattle.ept_merge.proofs.putting.load_roots.Goals as goal

pub loop-part-init : goal.loop-part-init
loop-part-init g c =
    let s = g.T.Store in
    record {
      loads = loads-none c.args.rules.now (s.files c.args.store.now) c.args.out.now.items;
      intact = tells-always _ (λ all. intact-none c.args.rules.now all) (s.files c.args.store.now);
      moves = reads-none s.files s.may_leave s.moment s.image_since c.args.store.now;
      later = omega arith;
    }

pub load_node-requires-clause-low : goal.load_node-requires-clause-low
load_node-requires-clause-low g c = omega (arith, ap (λ (k : VoxelKey). k.depth) c.root_of-root.ensures.key)

pub returns-in_err-load_node-clause-refused : goal.returns-in_err-load_node-clause-refused
returns-in_err-load_node-clause-refused g c =
    let s = g.T.Store in
    let i = c.loop-part in
    let part = c.part-item.result in
    let root : PartNode = c.root_of-root.result in
    let p = err_from_is_err_and c.from_residual.result c.from_residual.ensures.1 in
    let among = subst (λ (n : PartNode). IsMember n (roots_of c.args.parts.now)) (sym c.root_of-root.ensures.is) (IsMember-map root_node part c.args.parts.now (item-member c.args.parts.now i.part-index part c.loop-part-test.true c.part-item.is)) in
    rw (p.1, p.2)
    (tells-more (λ all. IsNodesFault c.args.rules.now all (root ∷ []) c.in_err-load_node.field-0.0) (λ all. IsNodesFault c.args.rules.now all (roots_of c.args.parts.now) c.in_err-load_node.field-0.0)
    (λ all fault. fault-more c.args.rules.now all (root ∷ []) (roots_of c.args.parts.now) c.in_err-load_node.field-0.0 (one-among root (roots_of c.args.parts.now) among) fault) (s.files c.args.store.now)
    (subst (λ (o : Option Files). Tells (λ all. IsNodesFault c.args.rules.now all (root ∷ []) c.in_err-load_node.field-0.0) o) (reads-files s.files s.may_leave s.moment s.image_since c.args.store.now i.store i.invariant.moves) c.in_err-load_node.ensures.refused))

pub returns-in_err-load_node-clause-any_moment : goal.returns-in_err-load_node-clause-any_moment
returns-in_err-load_node-clause-any_moment g c =
    let s = g.T.Store in
    reads-both s.files s.may_leave s.moment s.image_since c.args.store.now c.loop-part.store c.load_node.new.store c.loop-part.invariant.moves c.load_node.ensures.any_moment

pub loop-part-preserved : goal.loop-part-preserved
loop-part-preserved g c =
    let s = g.T.Store in
    let i = c.loop-part in
    let rules = c.args.rules.now in
    let part = c.part-item.result in
    let root : PartNode = c.root_of-root.result in
    let files = s.files c.args.store.now in
    let same = reads-files s.files s.may_leave s.moment s.image_since c.args.store.now i.store i.invariant.moves in
    let more : roots_of (take (i.part-index + 1) c.args.parts.now) ≡ roots_of (take i.part-index c.args.parts.now) ++ root ∷ [] =
    taken-more root_node c.args.parts.now i.part-index part c.loop-part-test.true c.part-item.is ∙ ap (λ (n : PartNode). roots_of (take i.part-index c.args.parts.now) ++ n ∷ []) (sym c.root_of-root.ensures.is) in
    record {
      loads = subst (λ (w : List PartNode). LoadsAll rules w files c.args.out.now.items c.load_node.new.out.items) (sym more)
          (loads-more rules (roots_of (take i.part-index c.args.parts.now)) root files c.args.out.now.items i.out.items c.load_node.new.out.items i.invariant.loads
          (subst (λ (o : Option Files). Loads rules root o i.out.items c.load_node.new.out.items) same c.in_ok-load_node.ensures.loads));
      intact = subst (λ (w : List PartNode). Tells (λ all. AreIntact rules all w) files) (sym more)
          (tells-both (λ all. AreIntact rules all (roots_of (take i.part-index c.args.parts.now))) (λ all. ¬ IsTileDamaged rules all root.octants root.line) (λ all. AreIntact rules all (roots_of (take i.part-index c.args.parts.now) ++ root ∷ []))
          (λ all before one. intact-more rules all (roots_of (take i.part-index c.args.parts.now)) root before one) files i.invariant.intact
          (subst (λ (o : Option Files). Tells (λ all. ¬ IsTileDamaged rules all root.octants root.line) o) same c.in_ok-load_node.ensures.intact));
      moves = reads-both s.files s.may_leave s.moment s.image_since c.args.store.now i.store c.load_node.new.store i.invariant.moves c.load_node.ensures.any_moment;
      later = omega (arith, i.invariant.later, c.load_node.ensures.cause.later);
    }

pub returns-clause-loads : goal.returns-clause-loads
returns-clause-loads g c =
    let i = c.loop-part in
    let end : length c.args.parts.now ≤ i.part-index = omega arith in
    subst (λ (w : List PartBody). LoadsAll c.args.rules.now (roots_of w) (g.T.Store.files c.args.store.now) c.args.out.now.items i.out.items) (take_all i.part-index c.args.parts.now end) i.invariant.loads

pub returns-clause-intact : goal.returns-clause-intact
returns-clause-intact g c =
    let i = c.loop-part in
    let end : length c.args.parts.now ≤ i.part-index = omega arith in
    subst (λ (w : List PartBody). Tells (λ all. AreIntact c.args.rules.now all (roots_of w)) (g.T.Store.files c.args.store.now)) (take_all i.part-index c.args.parts.now end) i.invariant.intact

pub returns-clause-any_moment : goal.returns-clause-any_moment
returns-clause-any_moment g c = c.loop-part.invariant.moves
