use Rattle.std.specs.Prelude.{true, [], ◌∷◌, Some}
use Rattle.ept_space.specs.VoxelKey.{root}
use Rattle.ept_mem.specs.declared.source.MemSource.{MemSource}
use Rattle.ept_mem.specs.Objects.{source_bytes}
use Rattle.ept_table.specs.Scanned.{told_of}
use Rattle.ept_table_tests.proofs.sessions.hold_session.Given as goal

-- what the known reader has
abbrev pub ghosts-session : goal.ghosts-session
ghosts-session g a = record { told = told_of (λ (source : MemSource). Some (source_bytes source)) a.known.reader a.known.rules a.most 1 (root ∷ []) true a.known.points.items }
