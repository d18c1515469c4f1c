use Rattle.std.proofs.Common.{◌∙◌, ℕ, List, subst, IsTrue, ◌↔◌}
use Rattle.std.proofs.lemmas.Result.{err_from_is_err_and}
use Rattle.ept_base.specs.Files.{Tells}
use Rattle.ept_save.specs.Gates.{IsOpen}
use Rattle.ept_merge.proofs.Steps.{saved-stores}
use Rattle.ept_merge.proofs.bodies.is_made.Goals as goal

pub returns-in_err-is_made-clause-only : goal.returns-in_err-is_made-clause-only
returns-in_err-is_made-clause-only g c =
    let p = err_from_is_err_and c.from_residual-in_err-is_made.result c.from_residual-in_err-is_made.ensures.1 in
    rw (p.1, p.2) (saved-stores c.in_err-is_made.field-0.0 c.in_err-is_made.ensures.only)

pub returns-clause-made : goal.returns-clause-made
returns-clause-made g c =
    subst (λ (name : List ℕ). Tells (λ all. IsTrue c.in_ok-is_made.is_made ↔ IsOpen all name) (g.T.Store.files c.args.store.now)) (c.as_str.ensures.value ∙ c.in_ok-gate.ensures) c.in_ok-is_made.ensures.found
