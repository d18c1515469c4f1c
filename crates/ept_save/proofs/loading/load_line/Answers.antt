use Rattle.ept_ckpt.specs.Versions.{layout_of}
use Rattle.ept_meta.specs.Output.{rules_of}
use Rattle.ept_save.proofs.LoadedLines.{line-intact}
use Rattle.ept_save.proofs.loading.load_line.Goals as goal

pub returns-clause-intact : goal.returns-clause-intact
returns-clause-intact g c =
    line-intact c.tile_once_law.ensures.once (layout_of c.args.checkpoint.now.version) (rules_of c.args.checkpoint.now.kept) c.args.name.now c.args.line.now c.read_line.result (g.T.Store.files c.args.store.now) c.read_line.ensures.points c.read_line.ensures.tile
