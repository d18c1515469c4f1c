use Rattle.std.proofs.Common.{arith}
use Rattle.std.specs.BTreeMap.{get}
use Rattle.ept_space.specs.VoxelKey.{key_cmp}
use Rattle.ept_query.proofs.Noting.{tiles-more}
use Rattle.ept_query.proofs.notes.note_tiles.Goals as goal

pub loop-entry-preserved : goal.loop-entry-preserved
loop-entry-preserved c =
    tiles-more c.args.search.now c.args.entries.now c.loop-entry.entry-index c.entry-item.result (get key_cmp c.args.tiles.now) (get key_cmp c.loop-entry.tiles) (get key_cmp c.note_tile.new.tiles) (omega arith) c.entry-item.is c.loop-entry.invariant c.in_ok-note_tile.ensures
