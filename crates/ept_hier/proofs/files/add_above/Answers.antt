use Rattle.std.proofs.Common.{rules, ◌≡◌, ◌∙◌, ap, sym, Bool, cond, Some, None}
use Rattle.ept_hier.specs.Hierarchy.{has_file}
use Rattle.ept_hier.proofs.Adding.{added-there, added-nowhere}
use Rattle.ept_hier.proofs.files.add_above.Goals as goal
use Rattle.ept_hier.proofs.files.add_above.Goals.{then-has_file, else-has_file}

pub returns-in_ok-add-in-Some : goal.returns-in_ok-add-in-Some
returns-in_ok-add-in-Some c =
    let number : c.if-has_file.number ≡ cond (has_file c.args.step c.args.key.now) None (Some c.args.count) =
    elim c.if-has_file.branch [
      | then-has_file w ↦ w.number-is ∙ ap (λ (b : Bool). cond b None (Some c.args.count)) (sym w.if-has_file.true ∙ c.has_file.ensures)
      | else-has_file w ↦ w.number-is ∙ ap (λ (b : Bool). cond b None (Some c.args.count)) (sym w.if-has_file.false ∙ c.has_file.ensures)
    ] in
    (c.get_mut.follows.holds c.add.new.self).0
    ∙ added-there c.args.step (c.args.key.now, c.args.count) c.file_above-above.result c.file_above-above.ensures c.requires c.args.files.now.entries c.in-Some.text.now c.add.new.self c.if-has_file.number number c.in_ok-add-in-Some.ensures c.in-Some.ensures.value c.in-Some.ensures.ordered

pub returns-in-None : goal.returns-in-None
returns-in-None c =
    let same : c.get_mut.follows.lender-at-none.entries ≡ c.args.files.now.entries = search rules in
    same ∙ added-nowhere c.args.step (c.args.key.now, c.args.count) c.file_above-above.result c.file_above-above.ensures c.requires c.args.files.now.entries c.in-None.ensures.value
