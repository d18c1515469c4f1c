use Rattle.std.proofs.Common.{◌≡◌, ◌∙◌, ◌++◌, ◌∷◌, [], ap, subst}
use Rattle.std.proofs.lemmas.Result.{err_from_is_err_and}
use Rattle.ept_space.specs.VoxelKey.{root}
use Rattle.ept_sample.proofs.Members.{IsMember-left, IsMember-right}
use Rattle.ept_save.specs.View.{View}
use Rattle.ept_point.specs.declared.layout.Layout.TheVariants.{New}
use Rattle.ept_ckpt.specs.Versions.{layout_of}
use Rattle.ept_meta.specs.Output.{rules_of}
use Rattle.ept_merge.specs.declared.bodies.PartBody.{PartBody}
use Rattle.ept_merge.specs.Joining.{roots_of}
use Rattle.ept_merge.specs.Putting.{AreIntact, IsNodesFault}
use Rattle.ept_merge.proofs.Reading.{tells-more, tells-both}
use Rattle.ept_merge.proofs.Steps.{keep-both}
use Rattle.ept_merge.proofs.Loads.{fault-more}
use Rattle.ept_merge.proofs.Below.{intact-back, fault-back}
use Rattle.ept_merge.proofs.PutAll.{first-rules, intact-both, puts-all, puts-stay, view-ascends}
use Rattle.ept_merge.proofs.putting.put_nodes.Goals as goal

pub put_below-requires-clause-newest : goal.put_below-requires-clause-newest
put_below-requires-clause-newest g c = subst (λ (part : PartBody). layout_of part.body.version ≡ New) c.index-parts-0.is (first-rules c.args.rules.now c.args.parts.now c.index-parts-0.result c.requires.rules c.requires.some c.index-parts-0.is).newest

pub put_below-requires-clause-rules : goal.put_below-requires-clause-rules
put_below-requires-clause-rules g c = subst (λ (part : PartBody). c.args.rules.now ≡ rules_of part.body.kept) c.index-parts-0.is (first-rules c.args.rules.now c.args.parts.now c.index-parts-0.result c.requires.rules c.requires.some c.index-parts-0.is).rules_are

pub put_below-requires-clause-none : goal.put_below-requires-clause-none
put_below-requires-clause-none g c = ap (λ (v : View). v.current) c.in_ok-put_root.ensures.puts.line ∙ c.requires.none

pub put_below-requires-clause-ascend : goal.put_below-requires-clause-ascend
put_below-requires-clause-ascend g c =
    let s = g.T.Store in
    view-ascends c.args.rules.now c.args.parts.now c.args.nodes.now c.requires.low c.requires.ascend (s.files c.args.store.now) (s.files c.put_root.new.store) c.args.saved.now c.put_root.new.saved c.in_ok-put_root.ensures.puts

-- ---- the root is not put

pub returns-in_err-put_root-clause-refused : goal.returns-in_err-put_root-clause-refused
returns-in_err-put_root-clause-refused g c =
    let roots = roots_of c.args.parts.now in
    let nodes = c.args.nodes.now in
    let e = c.in_err-put_root.field-0.0 in
    let p = err_from_is_err_and c.from_residual.result c.from_residual.ensures.1 in
    rw (p.1, p.2)
    (tells-more (λ all. IsNodesFault c.args.rules.now all roots e) (λ all. IsNodesFault c.args.rules.now all (roots ++ nodes) e)
    (λ all fault. fault-more c.args.rules.now all roots (roots ++ nodes) e (λ n m. IsMember-left n roots nodes m) fault) (g.T.Store.files c.args.store.now) c.in_err-put_root.ensures.refused)

-- ---- the others are not put

pub returns-in_err-put_below-clause-refused : goal.returns-in_err-put_below-clause-refused
returns-in_err-put_below-clause-refused g c =
    let s = g.T.Store in
    let roots = roots_of c.args.parts.now in
    let nodes = c.args.nodes.now in
    let e = c.in_err-put_below.field-0.0 in
    let p = err_from_is_err_and c.from_residual-in_err-put_below.result c.from_residual-in_err-put_below.ensures.1 in
    rw (p.1, p.2)
    (tells-more (λ all. IsNodesFault c.args.rules.now all nodes e) (λ all. IsNodesFault c.args.rules.now all (roots ++ nodes) e)
    (λ all fault. fault-more c.args.rules.now all nodes (roots ++ nodes) e (λ n m. IsMember-right n roots nodes m) fault) (s.files c.args.store.now)
    (fault-back c.args.rules.now (root ∷ []) nodes e (s.files c.args.store.now) (s.files c.put_root.new.store) c.put_root.ensures.tiles.reads c.in_err-put_below.ensures.refused))

pub returns-in_err-put_below-clause-keeps : goal.returns-in_err-put_below-clause-keeps
returns-in_err-put_below-clause-keeps g c =
    let s = g.T.Store in
    keep-both s.files s.may_leave s.moment s.image_since _ c.args.store.now c.put_root.new.store c.put_below.new.store c.put_root.ensures.keeps c.put_below.ensures.keeps

-- ---- all are put

pub returns-clause-puts : goal.returns-clause-puts
returns-clause-puts g c =
    let s = g.T.Store in
    puts-all c.args.rules.now c.args.parts.now c.args.nodes.now c.requires.low c.requires.ascend (s.files c.args.store.now) (s.files c.put_root.new.store) (s.files c.put_below.new.store) c.args.saved.now c.put_root.new.saved c.put_below.new.saved c.in_ok-put_root.ensures.puts c.put_root.ensures.tiles.reads c.in_ok-put_below.ensures.lines c.put_below.ensures.tiles.reads c.in_ok-put_below.ensures.taken

pub returns-clause-stays : goal.returns-clause-stays
returns-clause-stays g c =
    let s = g.T.Store in
    puts-stay c.args.rules.now c.args.parts.now c.args.nodes.now c.requires.low c.requires.ascend (s.files c.args.store.now) (s.files c.put_root.new.store) c.args.saved.now c.put_root.new.saved c.put_below.new.saved c.in_ok-put_root.ensures.puts c.in_ok-put_below.ensures.lines

pub returns-clause-intact : goal.returns-clause-intact
returns-clause-intact g c =
    let s = g.T.Store in
    let roots = roots_of c.args.parts.now in
    let nodes = c.args.nodes.now in
    tells-both (λ all. AreIntact c.args.rules.now all roots) (λ all. AreIntact c.args.rules.now all nodes) (λ all. AreIntact c.args.rules.now all (roots ++ nodes))
    (λ all first second. intact-both c.args.rules.now all roots nodes first second) (s.files c.args.store.now) c.in_ok-put_root.ensures.intact
    (intact-back c.args.rules.now (root ∷ []) nodes (s.files c.args.store.now) (s.files c.put_root.new.store) c.put_root.ensures.tiles.reads c.in_ok-put_below.ensures.intact)

pub returns-clause-keeps : goal.returns-clause-keeps
returns-clause-keeps g c =
    let s = g.T.Store in
    keep-both s.files s.may_leave s.moment s.image_since _ c.args.store.now c.put_root.new.store c.put_below.new.store c.put_root.ensures.keeps c.put_below.ensures.keeps
