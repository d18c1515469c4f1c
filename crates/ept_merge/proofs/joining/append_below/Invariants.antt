use Rattle.std.proofs.Common.{◌≡◌, ◌++◌, map, take}
use Rattle.ept_merge.proofs.Loads.{node_of}
use Rattle.ept_merge.proofs.joining.append_below.Given as goal

abbrev pub invariant-loop-line : goal.invariant-loop-line
invariant-loop-line l = l.nodes.items ≡ l.initial.nodes.items ++ map (node_of l.part.octants) (take l.line-index l.below)
