use Rattle.std.proofs.Common.{inr, ◌∙◌, ℕ, List, ap, subst}
use Rattle.std.specs.Prelude.{Err}
use Rattle.ept_base.specs.Files.{Tells}
use Rattle.ept_point.specs.declared.layout.Layout.{Layout}
use Rattle.ept_meta.specs.Output.{rules_of}
use Rattle.ept_save.specs.declared.error.SaveError.{SaveError}
use Rattle.ept_ckpt.specs.Versions.{layout_of}
use Rattle.ept_save.specs.Tiles.{HasTileUnder}
use Rattle.ept_save.specs.Loading.{IsDamagedUnder}
use Rattle.ept_part.specs.Names.{part_tile}
use Rattle.ept_merge.proofs.Loading.{damaged-key, node-damaged}
use Rattle.ept_merge.proofs.tiles.load_tile.Goals as goal

pub returns-in-Ok-clause-loads : goal.returns-in-Ok-clause-loads
returns-in-Ok-clause-loads g c =
    let node = c.in-Ok.field-0 in
    let files = g.T.Store.files c.args.store.now in
    let name = part_tile c.args.node.now.octants c.args.node.now.line.key in
    record {
      points = node.points;
      appended = c.in-Ok.ensures.appended;
      are = c.in-Ok.ensures.points;
      tile = subst (λ (layout : Layout). Tells (HasTileUnder layout name node.points) files) c.requires.newest
          (subst (λ (n : List ℕ). Tells (HasTileUnder (layout_of c.args.like.now.version) n node.points) files) (c.as_str.ensures.value ∙ c.in_ok-name.ensures) c.in-Ok.ensures.tile);
    }

pub returns-in-Ok-clause-intact : goal.returns-in-Ok-clause-intact
returns-in-Ok-clause-intact g c =
    let rules = rules_of c.args.like.now.kept in
    let line = c.args.node.now.line in
    let files = g.T.Store.files c.args.store.now in
    let name = part_tile c.args.node.now.octants line.key in
    subst (λ (layout : Layout). Tells (λ all. ¬ IsDamagedUnder layout rules name line all) files) c.requires.newest
    (subst (λ (n : List ℕ). Tells (λ all. ¬ IsDamagedUnder (layout_of c.args.like.now.version) rules n line all) files) (c.as_str.ensures.value ∙ c.in_ok-name.ensures) c.in-Ok.ensures.intact)

pub returns-in-Err-TileDamaged-clause-refused : goal.returns-in-Err-TileDamaged-clause-refused
returns-in-Err-TileDamaged-clause-refused g c =
    let rules = rules_of c.args.like.now.kept in
    let line = c.args.node.now.line in
    let files = g.T.Store.files c.args.store.now in
    let name = part_tile c.args.node.now.octants line.key in
    let bad = c.in-Err-TileDamaged in
    let key = damaged-key bad.field-0-0 line.key (rw bad.field-0-is at bad.ensures.only) in
    let told = c.load_line.ensures.refused (bad.is ∙ (ap (λ (e : SaveError). Err e) bad.field-0-is ∙ ap (λ (e : SaveError). Err e) key)) in
    node-damaged rules c.args.node.now c.damaged.result files c.damaged.ensures.tile c.damaged.ensures.byte
    (subst (λ (layout : Layout). Tells (IsDamagedUnder layout rules name line) files) c.requires.newest
    (subst (λ (n : List ℕ). Tells (IsDamagedUnder (layout_of c.args.like.now.version) rules n line) files) (c.as_str.ensures.value ∙ c.in_ok-name.ensures) told))

pub returns-in-Err-TileDamaged-clause-only : goal.returns-in-Err-TileDamaged-clause-only
returns-in-Err-TileDamaged-clause-only g c = inr (c.args.node.now.octants, c.args.node.now.line.key, c.damaged.ensures.tile)
