use Rattle.std.proofs.Common.{◌≡◌, ◌++◌}
use Rattle.std.specs.Prelude.{map, string_bytes}
use Rattle.ept_real.specs.Joined.{joined}
use Rattle.ept_real.proofs.unsynced.Unsynced.file_paths.Given as goal

abbrev pub invariant-loop-name : goal.invariant-loop-name
invariant-loop-name l = map string_bytes l.paths.items ++ map (joined l.folder) (map string_bytes l.name-iterator) ≡ map (joined l.folder) l.self.names
