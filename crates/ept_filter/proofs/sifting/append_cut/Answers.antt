use Rattle.std.proofs.Common.{List, ℕ, ◌++◌, ap, ◌∙◌}
use Rattle.std.specs.List.{flat_map}
use Rattle.std.proofs.lemmas.List.{take_all}
use Rattle.ept_filter.specs.Layout.{part}
use Rattle.ept_filter.specs.Sifting.{cut_packed}
use Rattle.ept_filter.proofs.sifting.append_cut.Goals as goal

pub returns-clause-kept : goal.returns-clause-kept
unfolding cut_packed
returns-clause-kept c =
    let all = take_all c.loop-row.row-index c.rows-row-items.result.now c.loop-row-test.false ∙ c.rows-row-items.ensures.rows in
    c.loop-row.invariant ∙ ap (λ (dims : List ℕ). c.args.out.now.items ++ flat_map (part c.args.packed.now) dims) all
