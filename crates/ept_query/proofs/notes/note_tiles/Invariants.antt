use Rattle.std.proofs.Common.{take}
use Rattle.std.specs.BTreeMap.{get}
use Rattle.ept_space.specs.VoxelKey.{key_cmp}
use Rattle.ept_query.specs.Walk.{NotesTiles}
use Rattle.ept_query.proofs.notes.note_tiles.Given as goal

abbrev pub invariant-loop-entry : goal.invariant-loop-entry
invariant-loop-entry l = NotesTiles l.search (take l.entry-index l.entries) (get key_cmp l.initial.tiles) (get key_cmp l.tiles)
