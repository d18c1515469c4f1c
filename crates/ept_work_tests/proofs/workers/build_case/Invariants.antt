use Rattle.std.specs.Prelude.{true, [], ◌∷◌, Some}
use Rattle.ept_space.specs.VoxelKey.{root}
use Rattle.ept_mem.specs.declared.source.MemSource.{MemSource}
use Rattle.ept_mem.specs.Objects.{source_bytes}
use Rattle.ept_table.specs.Scanned.{told_of}
use Rattle.ept_work_tests.proofs.workers.build_case.Given as goal

-- what the known reader has
abbrev pub ghosts-work : goal.ghosts-work
ghosts-work g a = record { told = told_of (λ (source : MemSource). Some (source_bytes source)) a.known.reader a.known.rules a.limits.most a.limits.cache (root ∷ []) true a.known.points.items }
