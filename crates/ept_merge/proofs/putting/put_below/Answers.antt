use Rattle.std.proofs.Common.{◌≤◌, ◌∙◌, ◌++◌, ◌∷◌, inl, [], List, length, map, refl, sym, ap, subst, arith, take, Option, None}
use Rattle.std.proofs.lemmas.List.{append-nil, take_all}
use Rattle.std.proofs.lemmas.Result.{err_from_is_err_and}
use Rattle.ept_base.specs.Files.{Files, Tells, StepsBy}
use Rattle.ept_ckpt.specs.declared.node_line.NodeLine.{NodeLine}
use Rattle.ept_save.specs.View.{View}
use Rattle.ept_merge.specs.declared.joining.PartNode.{PartNode}
use Rattle.ept_merge.specs.Joining.{keys_of}
use Rattle.ept_merge.specs.Putting.{merged_line, AreTaken, AreIntact, IsNodesFault, ChangesTiles}
use Rattle.ept_merge.proofs.Reading.{tells-more, tells-always, tells-both, reads-none}
use Rattle.ept_merge.proofs.Steps.{reads-change, change-both, change-more, reads-keep, keep-both}
use Rattle.ept_merge.proofs.Loads.{take-more, item-member, intact-none, intact-more, fault-more, one-among}
use Rattle.ept_merge.proofs.Below.{lines-more, taken-step, intact-back, fault-back, front-member, one-key}
use Rattle.ept_merge.proofs.putting.put_below.Goals as goal

pub loop-node-init : goal.loop-node-init
loop-node-init g c =
    let s = g.T.Store in
    let store = c.args.store.now in
    record {
      lines = ap (λ (w : List NodeLine). record c.args.saved.now { lines = w }) (sym (append-nil c.args.saved.now.lines));
      taken = λ start told. tells-always _ (λ f node m. absurd m) (s.files store);
      intact = tells-always _ (λ all. intact-none c.args.rules.now all) (s.files store);
      tiles = reads-change s.files s.may_leave s.moment s.image_since (keys_of c.args.nodes.now) store store (reads-none s.files s.may_leave s.moment s.image_since store);
      keeps = reads-keep s.files s.may_leave s.moment s.image_since None store store (reads-none s.files s.may_leave s.moment s.image_since store);
      stands = λ stands. stands;
      later = omega arith;
    }

pub put_node-requires-clause-low : goal.put_node-requires-clause-low
put_node-requires-clause-low g c = c.requires.low c.node-item.result (item-member c.args.nodes.now c.loop-node.node-index c.node-item.result c.loop-node-test.true c.node-item.is)

pub put_node-requires-clause-none : goal.put_node-requires-clause-none
put_node-requires-clause-none g c = ap (λ (v : View). v.current) c.loop-node.invariant.lines ∙ c.requires.none

-- ---- a node is not put

pub returns-in_err-put_node-clause-refused : goal.returns-in_err-put_node-clause-refused
returns-in_err-put_node-clause-refused g c =
    let s = g.T.Store in
    let i = c.loop-node in
    let node = c.node-item.result in
    let nodes = c.args.nodes.now in
    let e = c.in_err-put_node.field-0.0 in
    let p = err_from_is_err_and c.from_residual.result c.from_residual.ensures.1 in
    rw (p.1, p.2)
    (tells-more (λ all. IsNodesFault c.args.rules.now all (node ∷ []) e) (λ all. IsNodesFault c.args.rules.now all nodes e)
    (λ all fault. fault-more c.args.rules.now all (node ∷ []) nodes e (one-among node nodes (item-member nodes i.node-index node c.loop-node-test.true c.node-item.is)) fault) (s.files c.args.store.now)
    (fault-back c.args.rules.now (keys_of nodes) (node ∷ []) e (s.files c.args.store.now) (s.files i.store) i.invariant.tiles.reads c.in_err-put_node.ensures.refused))

pub returns-in_err-put_node-clause-tiles : goal.returns-in_err-put_node-clause-tiles
returns-in_err-put_node-clause-tiles g c =
    let s = g.T.Store in
    let node = c.node-item.result in
    let nodes = c.args.nodes.now in
    change-both s.files s.may_leave s.moment s.image_since (keys_of nodes) c.args.store.now c.loop-node.store c.put_node.new.store c.loop-node.invariant.tiles
    (change-more s.files s.may_leave s.moment s.image_since (node.line.key ∷ []) (keys_of nodes) (one-key nodes node (item-member nodes c.loop-node.node-index node c.loop-node-test.true c.node-item.is)) c.loop-node.store c.put_node.new.store c.put_node.ensures.tiles)

pub returns-in_err-put_node-clause-keeps : goal.returns-in_err-put_node-clause-keeps
returns-in_err-put_node-clause-keeps g c =
    let s = g.T.Store in
    keep-both s.files s.may_leave s.moment s.image_since None c.args.store.now c.loop-node.store c.put_node.new.store c.loop-node.invariant.keeps c.put_node.ensures.keeps

pub returns-in_err-put_node-clause-stands : goal.returns-in_err-put_node-clause-stands
returns-in_err-put_node-clause-stands g c = λ stands. c.put_node.ensures.stands (c.loop-node.invariant.stands stands)

-- ---- one node more

pub loop-node-preserved : goal.loop-node-preserved
loop-node-preserved g c =
    let s = g.T.Store in
    let i = c.loop-node in
    let rules = c.args.rules.now in
    let node = c.node-item.result in
    let nodes = c.args.nodes.now in
    let among = item-member nodes i.node-index node c.loop-node-test.true c.node-item.is in
    let files = s.files c.args.store.now in
    let more = take-more nodes i.node-index node c.loop-node-test.true c.node-item.is in
    record {
      lines = lines-more c.args.saved.now.lines nodes c.requires.ascend i.node-index node c.loop-node-test.true c.node-item.is c.args.saved.now i.saved c.put_node.new.saved refl i.invariant.lines c.in_ok-put_node.ensures.line;
      taken = λ start told.
          taken-step c.args.saved.now.lines nodes c.requires.ascend i.node-index node c.loop-node-test.true c.node-item.is (λ n m. (c.requires.low n m).0) (front-member nodes i.node-index) (c.requires.low node among).0 start (keys_of nodes) (s.files i.store) (s.files c.put_node.new.store)
          (subst (λ (o : Option Files). StepsBy (ChangesTiles (keys_of nodes)) o (s.files i.store)) told i.invariant.tiles.reads) c.put_node.ensures.tiles.reads (i.invariant.taken start told) c.in_ok-put_node.ensures.taken;
      intact = subst (λ (w : List PartNode). Tells (λ all. AreIntact rules all w) files) (sym more)
          (tells-both (λ all. AreIntact rules all (take i.node-index nodes)) (λ all. AreIntact rules all (node ∷ [])) (λ all. AreIntact rules all (take i.node-index nodes ++ node ∷ []))
          (λ all before one. intact-more rules all (take i.node-index nodes) node before (one node (inl refl))) files i.invariant.intact
          (intact-back rules (keys_of nodes) (node ∷ []) files (s.files i.store) i.invariant.tiles.reads c.in_ok-put_node.ensures.intact));
      tiles = change-both s.files s.may_leave s.moment s.image_since (keys_of nodes) c.args.store.now i.store c.put_node.new.store i.invariant.tiles
          (change-more s.files s.may_leave s.moment s.image_since (node.line.key ∷ []) (keys_of nodes) (one-key nodes node among) i.store c.put_node.new.store c.put_node.ensures.tiles);
      keeps = keep-both s.files s.may_leave s.moment s.image_since None c.args.store.now i.store c.put_node.new.store i.invariant.keeps c.put_node.ensures.keeps;
      stands = λ stands. c.put_node.ensures.stands (i.invariant.stands stands);
      later = omega (arith, i.invariant.later, c.put_node.ensures.cause.later);
    }

-- ---- all nodes

pub returns-clause-lines : goal.returns-clause-lines
returns-clause-lines g c =
    let i = c.loop-node in
    let end : length c.args.nodes.now ≤ i.node-index = omega arith in
    i.invariant.lines ∙ ap (λ (w : List PartNode). record c.args.saved.now { lines = c.args.saved.now.lines ++ map merged_line w }) (take_all i.node-index c.args.nodes.now end)

pub returns-clause-taken : goal.returns-clause-taken
returns-clause-taken g c = λ start told.
    let i = c.loop-node in
    let end : length c.args.nodes.now ≤ i.node-index = omega arith in
    subst (λ (w : List PartNode). Tells (λ now. AreTaken start now w) (g.T.Store.files i.store)) (take_all i.node-index c.args.nodes.now end) (i.invariant.taken start told)

pub returns-clause-intact : goal.returns-clause-intact
returns-clause-intact g c =
    let i = c.loop-node in
    let end : length c.args.nodes.now ≤ i.node-index = omega arith in
    subst (λ (w : List PartNode). Tells (λ all. AreIntact c.args.rules.now all w) (g.T.Store.files c.args.store.now)) (take_all i.node-index c.args.nodes.now end) i.invariant.intact

pub returns-clause-tiles : goal.returns-clause-tiles
returns-clause-tiles g c = c.loop-node.invariant.tiles

pub returns-clause-keeps : goal.returns-clause-keeps
returns-clause-keeps g c = c.loop-node.invariant.keeps

pub returns-clause-stands : goal.returns-clause-stands
returns-clause-stands g c = c.loop-node.invariant.stands
