use Rattle.std.proofs.Common.{◌∙◌, ℕ, ◌*◌, Err, sym, ap, subst}
use Rattle.ept_point.specs.Dimensions.{packed_width}
use Rattle.ept_node.specs.declared.body.Body.{Body}
use Rattle.ept_node.specs.declared.error.NodeError.{NodeError}
use Rattle.ept_node.specs.declared.error.NodeError.TheVariants.{SpillDamaged}
use Rattle.ept_node.specs.declared.site.Filed.{Filed}
use Rattle.ept_node.specs.Shown.{node_in, node_of}
use Rattle.ept_node.specs.Filing.{IsLabelOf}
use Rattle.ept_node.proofs.Filings.{refusal-is, reloaded-alike, count-shown}
use Rattle.ept_node.proofs.node.Node.reload.Goals as goal

pub returns-in-Ok-clause-alike : goal.returns-in-Ok-clause-alike
returns-in-Ok-clause-alike g c =
    let held = g.F.SpillFile.held in
    reloaded-alike c.in-Spilled.filed.value (held c.args.self.now.file) c.in-Ok.grid.value (node_of held c.args.self.now)
    (subst (λ (f : Filed). IsLabelOf c.in-Ok.grid.value f) c.deref.ensures c.in-Ok.ensures.fits.label)
    (sym (ap (λ (b : Body). node_in (held c.args.self.now.file) b) c.in-Spilled.is))

pub returns-in-Err-clause-kept : goal.returns-in-Err-clause-kept
returns-in-Err-clause-kept g c = λ kept found at is. (
    let held = g.F.SpillFile.held in
    c.in-Err.ensures.kept kept found at (ap (λ (d : NodeError). Err d) (refusal-is c.in-Err.why (SpillDamaged kept found at) is))
    ∙ ap (λ (n : ℕ). packed_width * n) (ap (λ (f : Filed). f.count) c.deref.ensures ∙ count-shown c.in-Spilled.filed.value (held c.args.self.now.file) (node_of held c.args.self.now) (sym (ap (λ (b : Body). node_in (held c.args.self.now.file) b) c.in-Spilled.is))))
