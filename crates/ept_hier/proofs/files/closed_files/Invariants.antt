use Rattle.std.proofs.Common.{◌≡◌, map}
use Rattle.ept_hier.specs.OpenFiles.{closed}
use Rattle.ept_hier.proofs.files.closed_files.Given as goal

abbrev pub invariant-loop-key : goal.invariant-loop-key
invariant-loop-key l = l.files.items ≡ map closed l.yielded
