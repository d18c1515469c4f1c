use Rattle.std.proofs.Common.{take}
use Rattle.ept_merge.specs.Joining.{IsUnion}
use Rattle.ept_merge.proofs.root.open_octants.Given as goal

abbrev pub invariant-loop-part : goal.invariant-loop-part
invariant-loop-part l = IsUnion (take l.part-index l.parts) l.mask
