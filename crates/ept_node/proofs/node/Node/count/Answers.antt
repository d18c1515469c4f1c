use Rattle.std.proofs.Common.{◌∙◌, sym, ap}
use Rattle.ept_node.specs.declared.body.Body.{Body}
use Rattle.ept_node.specs.declared.site.Filed.{Filed}
use Rattle.ept_node.specs.Shown.{node_in, node_of}
use Rattle.ept_node.proofs.Filings.{count-shown}
use Rattle.ept_node.proofs.node.Node.count.Goals as goal

pub returns-in-Spilled : goal.returns-in-Spilled
returns-in-Spilled g c =
    let told = g.F.SpillFile.held c.args.self.now.file in
    ap (λ (f : Filed). f.count) c.deref.ensures ∙ count-shown c.in-Spilled.filed.value told (node_of g.F.SpillFile.held c.args.self.now) (sym (ap (λ (b : Body). node_in told b) c.in-Spilled.is))

pub returns-in-Lost : goal.returns-in-Lost
returns-in-Lost g c =
    let told = g.F.SpillFile.held c.args.self.now.file in
    ap (λ (f : Filed). f.count) c.deref-in-Lost.ensures ∙ count-shown c.in-Lost.filed.value told (node_of g.F.SpillFile.held c.args.self.now) (sym (ap (λ (b : Body). node_in told b) c.in-Lost.is))
