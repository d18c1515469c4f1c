use Rattle.std.proofs.Common.{refl}
use Rattle.std.specs.BTreeMap.{get}
use Rattle.ept_space.specs.VoxelKey.{key_cmp}
use Rattle.ept_query.proofs.Noting.{tiles-put}
use Rattle.ept_query.proofs.notes.note_tile.Goals as goal

pub returns-in_ok-insert : goal.returns-in_ok-insert
returns-in_ok-insert c =
    tiles-put c.args.search.now c.args.entry.now c.in-Some.count (get key_cmp c.args.tiles.now) (get key_cmp c.insert.new.self) c.in-Some.ensures.count (c.if-has_depth.ensures.0 refl) (c.if-meets.ensures.0 refl) c.in_ok-insert.ensures.updates.0
