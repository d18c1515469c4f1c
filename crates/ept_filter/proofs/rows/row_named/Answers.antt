use Rattle.std.proofs.Common.{arith, inl, inr, ap, sym, ◌∙◌}
use Rattle.std.proofs.lemmas.Bool.{cases_eq}
use Rattle.std.proofs.lemmas.Slice.Eq.{bytes_eq-Decides}
use Rattle.ept_filter.specs.Dims.{name_of}
use Rattle.ept_filter.proofs.rows.row_named.Goals as goal

pub loop-dim-preserved : goal.loop-dim-preserved
loop-dim-preserved c = λ k less e. elim (cases_eq k c.loop-dim.dim) [
  | inl same ↦
      let here = (bytes_eq-Decides c.name_of.result.now c.args.name.now).1 (c.name_of.ensures ∙ ap name_of (sym same) ∙ e) in
      let test = c.if-eq.false in
      absurd cc
  | inr other ↦ c.loop-dim.invariant k (omega arith) e
]

pub returns-clause-none : goal.returns-clause-none
returns-clause-none c = λ dim inside. c.loop-dim.invariant dim (omega arith)
