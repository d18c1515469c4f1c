use Rattle.std.proofs.Common.{rules, ◌≢◌}
use Rattle.std.specs.Prelude.{Err}
use Rattle.ept_point.specs.declared.tile.TileError.TheVariants.{Memory}
use Rattle.ept_save.proofs.TileBytes.{wrong-read}
use Rattle.ept_save.proofs.loading.of_other_length.Goals as goal
use Rattle.ept_save.proofs.loading.of_other_length.Goals.{in_default-via-in-Err+in_default, in_default-via-in_default}

pub returns-clause-refused : goal.returns-clause-refused
returns-clause-refused c = λ is rules_.
    let not_memory : c.read_tile_in.result ≢ Err Memory = elim c.in_default.branch [ in_default-via-in-Err+in_default w ↦ search rules | in_default-via-in_default w ↦ search rules ] in
    wrong-read c.tile_length_law.ensures.length rules_ c.args.line.now c.args.bytes.now c.requires _ c.read_tile_in.result c.read_tile_in.ensures.ok c.read_tile_in.ensures.fault not_memory
