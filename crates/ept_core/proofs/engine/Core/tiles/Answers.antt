use Rattle.std.proofs.Common.{rules, ◌≡◌, ◌∙◌, map, ap}
use Rattle.std.specs.Map.Iter.{deref_pair}
use Rattle.std.proofs.lemmas.Map.Iter.{iter_end}
use Rattle.std.proofs.Math.Logic.{∥∥₁_elim}
use Rattle.ept_core.proofs.Arriving.{tiles-prop}
use Rattle.ept_sample.specs.Nodes.{sampled}
use Rattle.ept_core.specs.State.{tile_of}
use Rattle.ept_core.specs.Machine.{state_of}
use Rattle.ept_core.proofs.CoreLaws.{all-sampled}
use Rattle.ept_core.proofs.engine.Core.tiles.Goals as goal

pub returns-clause-sampled : goal.returns-clause-sampled
returns-clause-sampled c left landed =
    let m = c.args.self.now.machine in
    let all : map deref_pair c.loop-key.yielded ≡ m.nodes.entries = search (rules, iter_end) in
    let nodes : c.of-2.result ≡ map tile_of m.nodes.entries = c.of-2.ensures ∙ (c.loop-key.invariant ∙ ap (map tile_of) all) in
    ∥∥₁_elim c.args.self.now.law (tiles-prop c.of-2.result (sampled m.rules m.points)) (λ law. nodes ∙ all-sampled m.rules m.points (state_of m) law left landed)
