use Rattle.std.proofs.Common.{◌≡◌, ◌++◌, take}
use Rattle.std.specs.List.{flat_map}
use Rattle.ept_ckpt.specs.Body.{node_bytes}
use Rattle.ept_ckpt.proofs.writer.append_nodes.Given as goal

abbrev pub invariant-loop-line : goal.invariant-loop-line
invariant-loop-line l = l.out.items ≡ l.initial.out.items ++ flat_map node_bytes (take l.line-index l.nodes)
