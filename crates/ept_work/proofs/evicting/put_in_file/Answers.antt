use Rattle.std.proofs.Common.{◌≡◌, rules}
use Rattle.ept_node.specs.declared.state.NodeState.TheVariants.{Resident, Blank}
use Rattle.ept_node.specs.Shown.{state_of}
use Rattle.ept_work.proofs.Filing.{spill-stays, spill-stands}
use Rattle.ept_work.proofs.evicting.put_in_file.Goals as goal

pub returns-clause-stays : goal.returns-clause-stays
returns-clause-stays g c =
    let s = c.spill-answer.ensures in
    let new = c.spill-answer.new.self in
    let was : state_of c.args.node ≡ Resident = search rules in
    let stands : state_of new ≡ Blank → ⊥ = λ e. spill-stands new c.spill-answer.result s.ok (λ r. (s.broken r).0) (λ r. (s.memory r).0) s.only e in
    spill-stays g.F.SpillFile.held g.J.Scan.told c.args.node new c.spill-answer.result was (λ tells. s.telling (c.requires.telling tells)) s.ok s.told s.alike s.children s.unchanged stands c.known.ensures.inside
