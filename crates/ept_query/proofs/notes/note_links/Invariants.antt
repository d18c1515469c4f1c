use Rattle.std.proofs.Common.{take}
use Rattle.std.specs.List.{All}
use Rattle.ept_space.specs.VoxelKey.{IsKey}
use Rattle.ept_query.specs.Walk.{NotesLinks}
use Rattle.ept_query.proofs.notes.note_links.Given as goal

abbrev pub invariant-loop-entry : goal.invariant-loop-entry
invariant-loop-entry l = record {
  links : NotesLinks l.search (take l.entry-index l.entries) l.initial.pending.keys l.pending.keys;
  are_keys : All IsKey l.initial.pending.keys → All IsKey l.pending.keys;
}
