use Rattle.std.proofs.Common.{◌∙◌, ℕ, List, subst}
use Rattle.std.specs.Prelude.{IfOk}
use Rattle.ept_base.specs.Files.{Tells}
use Rattle.ept_ckpt.specs.Versions.{layout_of}
use Rattle.ept_meta.specs.Output.{rules_of}
use Rattle.ept_save.specs.Tiles.{HasTileUnder}
use Rattle.ept_save.specs.Loading.{IsDamagedUnder}
use Rattle.ept_save.proofs.loading.load_saved.Goals as goal

pub returns-clause-tile : goal.returns-clause-tile
returns-clause-tile g c =
    subst (λ (name : List ℕ). IfOk c.read_line.result (λ node. Tells (HasTileUnder (layout_of c.args.checkpoint.now.version) name node.points) (g.T.Store.files c.args.store.now))) (c.as_str.ensures.value ∙ c.in_ok-name.ensures) c.read_line.ensures.tile

pub returns-clause-refused : goal.returns-clause-refused
returns-clause-refused g c = λ e.
    subst (λ (name : List ℕ). Tells (IsDamagedUnder (layout_of c.args.checkpoint.now.version) (rules_of c.args.checkpoint.now.kept) name c.args.line.now) (g.T.Store.files c.args.store.now)) (c.as_str.ensures.value ∙ c.in_ok-name.ensures) (c.read_line.ensures.refused e)
