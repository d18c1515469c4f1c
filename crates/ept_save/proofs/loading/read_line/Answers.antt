use Rattle.std.proofs.Common.{subst}
use Rattle.std.proofs.lemmas.Result.{IfOk-weaker}
use Rattle.ept_point.specs.declared.layout.Layout.{Layout}
use Rattle.ept_point.specs.Layout.{IsTileIn}
use Rattle.ept_space.specs.declared.cube.Rules.{Rules}
use Rattle.ept_ckpt.specs.Versions.{layout_of}
use Rattle.ept_meta.specs.Output.{rules_of}
use Rattle.ept_save.specs.Loading.{IsWrong}
use Rattle.ept_save.proofs.LoadedLines.{damaged-told}
use Rattle.ept_save.proofs.TileFiles.{tile-told}
use Rattle.ept_save.proofs.loading.read_line.Goals as goal

pub returns-clause-tile : goal.returns-clause-tile
returns-clause-tile g c =
    IfOk-weaker c.node_of_bytes.result _ _
    (λ node is.
    tile-told (layout_of c.args.checkpoint.now.version) node.points (g.T.Store.files c.args.store.now) c.args.name.now c.in_ok-get.field-0 c.get.new.into.items c.deref.result.now
    c.if-not-branch.false c.deref.ensures.value c.in_ok-get.ensures.ok
    (subst (λ (l : Layout). IsTileIn l c.deref.result.now node.points) c.layout.ensures.layout is))
    c.node_of_bytes.ensures.tile

pub returns-clause-refused : goal.returns-clause-refused
returns-clause-refused g c = λ e.
    damaged-told (layout_of c.args.checkpoint.now.version) (rules_of c.args.checkpoint.now.kept) c.args.line.now (g.T.Store.files c.args.store.now) c.args.name.now c.in_ok-get.field-0 c.get.new.into.items c.deref.result.now
    c.if-not-branch.false c.deref.ensures.value c.in_ok-get.ensures.ok
    (subst (λ (l : Layout). IsWrong l (rules_of c.args.checkpoint.now.kept) c.args.line.now c.deref.result.now) c.layout.ensures.layout
    (subst (λ (r : Rules). IsWrong c.layout.result r c.args.line.now c.deref.result.now) c.rules_of-rules.ensures.value (c.node_of_bytes.ensures.refused e)))
