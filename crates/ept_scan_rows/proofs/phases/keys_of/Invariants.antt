use Rattle.std.proofs.Common.{◌≡◌, take}
use Rattle.ept_ckpt.specs.Octree.{keys_of}
use Rattle.ept_scan_rows.proofs.phases.keys_of.Given as goal

abbrev pub invariant-loop-line : goal.invariant-loop-line
invariant-loop-line l = l.keys.items ≡ keys_of (take l.line-index l.lines)
