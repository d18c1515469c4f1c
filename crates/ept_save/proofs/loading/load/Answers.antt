use Rattle.std.proofs.Common.{◌∙◌, ap, sym}
use Rattle.std.specs.Prelude.{Err}
use Rattle.std.specs.Option.{option_copied}
use Rattle.ept_space.specs.VoxelKey.{VoxelKey}
use Rattle.ept_save.specs.declared.error.SaveError.TheVariants.{TileDamaged}
use Rattle.ept_save.specs.View.{View}
use Rattle.ept_save.proofs.LoadedLines.{line-key, line-low, loaded-node, loaded-tile, loaded-refused, loaded-intact, loaded-only}
use Rattle.ept_save.proofs.SoundTiles.{sound-intact}
use Rattle.ept_save.proofs.loading.load.Goals as goal

pub load_saved-requires : goal.load_saved-requires
load_saved-requires g c = record {
  low = line-low c.unwrap.result.now.1 c.args.key.now c.unwrap-line.result.now (sym c.line.ensures ∙ ap option_copied c.unwrap-line.ensures);
}

pub returns-clause-node : goal.returns-clause-node
returns-clause-node g c =
    loaded-node c.args.saved.now.current c.args.key.now c.unwrap.result.now c.unwrap-line.result.now
    (sym (ap (λ (v : View). v.current) c.saved.view_is) ∙ (sym c.as_ref.ensures.value ∙ ap option_copied c.unwrap.ensures))
    (sym c.line.ensures ∙ ap option_copied c.unwrap-line.ensures)
    c.load_saved.result c.load_saved.ensures.node

pub returns-clause-tile : goal.returns-clause-tile
returns-clause-tile g c =
    loaded-tile c.args.saved.now.current c.args.key.now c.unwrap.result.now c.unwrap-line.result.now
    (sym (ap (λ (v : View). v.current) c.saved.view_is) ∙ (sym c.as_ref.ensures.value ∙ ap option_copied c.unwrap.ensures))
    (sym c.line.ensures ∙ ap option_copied c.unwrap-line.ensures)
    c.load_saved.result (g.T.Store.files c.args.store.now) c.load_saved.ensures.tile

pub returns-clause-refused : goal.returns-clause-refused
returns-clause-refused g c = λ e.
    loaded-refused c.args.saved.now.current c.args.key.now c.unwrap.result.now c.unwrap-line.result.now
    (sym (ap (λ (v : View). v.current) c.saved.view_is) ∙ (sym c.as_ref.ensures.value ∙ ap option_copied c.unwrap.ensures))
    (sym c.line.ensures ∙ ap option_copied c.unwrap-line.ensures)
    (g.T.Store.files c.args.store.now)
    (c.load_saved.ensures.refused (e ∙ ap (λ (k : VoxelKey). Err (TileDamaged k)) (sym (line-key c.unwrap.result.now.1.nodes c.args.key.now c.unwrap-line.result.now (sym c.line.ensures ∙ ap option_copied c.unwrap-line.ensures)))))

pub returns-clause-intact : goal.returns-clause-intact
returns-clause-intact g c =
    loaded-intact c.args.saved.now.current c.args.key.now c.unwrap.result.now c.unwrap-line.result.now
    (sym (ap (λ (v : View). v.current) c.saved.view_is) ∙ (sym c.as_ref.ensures.value ∙ ap option_copied c.unwrap.ensures))
    (sym c.line.ensures ∙ ap option_copied c.unwrap-line.ensures)
    c.tile_once_law.ensures.once c.load_saved.result (g.T.Store.files c.args.store.now) c.load_saved.ensures.points c.load_saved.ensures.tile

pub returns-clause-only : goal.returns-clause-only
returns-clause-only g c =
    loaded-only c.args.saved.now.current c.args.key.now c.unwrap.result.now c.unwrap-line.result.now
    (sym (ap (λ (v : View). v.current) c.saved.view_is) ∙ (sym c.as_ref.ensures.value ∙ ap option_copied c.unwrap.ensures))
    (sym c.line.ensures ∙ ap option_copied c.unwrap-line.ensures)
    c.load_saved.result c.load_saved.ensures.only

pub returns-clause-sound : goal.returns-clause-sound
returns-clause-sound g c = λ shelf all.
    sound-intact c.tile_once_law.ensures.once c.output_once_law.ensures.sampled shelf all c.args.saved.now.current c.args.key.now c.unwrap.result.now c.unwrap-line.result.now
    (sym (ap (λ (v : View). v.current) c.saved.view_is) ∙ (sym c.as_ref.ensures.value ∙ ap option_copied c.unwrap.ensures))
    (sym c.line.ensures ∙ ap option_copied c.unwrap-line.ensures)
    c.mask_known.ensures
