use Rattle.std.proofs.Common.{◌≡◌, take}
use Rattle.ept_hier.specs.OpenFiles.{open_files}
use Rattle.ept_hier.proofs.files.hierarchy_files.Given as goal

abbrev pub invariant-loop-key : goal.invariant-loop-key
invariant-loop-key l = l.files.entries ≡ open_files l.step (take l.key-index l.nodes)
