use Rattle.std.proofs.Common.{◌≡◌, ◌-◌}
use Rattle.ept_sample.specs.Walk.{nodes_of_octants, nodes_below, with_nodes}
use Rattle.ept_sample.proofs.top_down.+add_nodes.Given as goal

abbrev pub decreases-add_nodes : goal.decreases-add_nodes
decreases-add_nodes l = l.rules.now.cube.depth - l.key.depth

abbrev pub invariant-loop-which : goal.invariant-loop-which
invariant-loop-which l =
    l.nodes.entries ≡ with_nodes l.initial.nodes.entries (nodes_of_octants (nodes_below l.rules (l.rules.cube.depth - l.key.depth - 1)) l.rules l.key l.given l.which)
