use Rattle.std.proofs.Common.{arith, sym, ◌∙◌}
use Rattle.ept_filter.proofs.Commas.{words-step}
use Rattle.ept_filter.proofs.DimLists.{read-more, next-dim, next-inside, next-named, next-new, next-is, next-room, found-row, no-row, all-dims, all-listed}
use Rattle.ept_filter.proofs.reading.read_dim_list.Goals as goal
use Rattle.ept_filter.proofs.reading.read_dim_list.Goals.{then-len-eq-DIMENSIONS-via-then-len-eq-DIMENSIONS, then-len-eq-DIMENSIONS-via-else-len-eq-DIMENSIONS+then-contains}

pub returns-in_err-row-clause-none : goal.returns-in_err-row-clause-none
returns-in_err-row-clause-none c =
    let h = rw (words-step _ _ _ _ c.in-Some.is c.first_word.ensures) at c.loop-rest.invariant in
    rw c.from_residual.ensures (λ dims is. c.in_err-row.ensures.none (next-dim _ _ _ _ _ h dims is) (next-inside _ _ _ _ _ h dims is) (next-named _ _ _ _ _ h dims is))

pub returns-then-len-eq-DIMENSIONS-clause-none : goal.returns-then-len-eq-DIMENSIONS-clause-none
returns-then-len-eq-DIMENSIONS-clause-none c = λ dims is.
    let h = rw (words-step _ _ _ _ c.in-Some.is c.first_word.ensures) at c.loop-rest.invariant in
    elim c.then-len-eq-DIMENSIONS.branch [
      | then-len-eq-DIMENSIONS-via-then-len-eq-DIMENSIONS w ↦ omega (arith, next-room _ _ _ _ _ h dims is)
      | then-len-eq-DIMENSIONS-via-else-len-eq-DIMENSIONS+then-contains w ↦
          let found = found-row c.loop-rest.rows c.loop-rest.len c.in_ok-row.row (omega (arith, h.array, h.most)) (sym w.contains.ensures.value ∙ w.if-contains.true) in
          next-new _ _ _ _ _ h dims is found.0 found.1 (found.2 ∙ next-is _ _ _ _ _ h dims is c.in_ok-row.row c.in_ok-row.ensures.some.0 c.in_ok-row.ensures.some.1)
    ]

pub loop-rest-preserved : goal.loop-rest-preserved
loop-rest-preserved c =
    let h = rw (words-step _ _ _ _ c.in-Some.is c.first_word.ensures) at c.loop-rest.invariant in
    read-more _ _ _ _ _ h c.in_ok-row.row c.in_ok-row.ensures.some.0 c.in_ok-row.ensures.some.1
    (no-row c.loop-rest.rows c.loop-rest.len c.in_ok-row.row (omega (arith, h.array, h.most)) (sym c.contains.ensures.value ∙ c.if-contains.false)) (omega (arith, h.most))

pub invariant_of-result : goal.invariant_of-result
invariant_of-result c =
    let h = rw c.in_default.is at c.loop-rest.invariant in
    record { dims = all-dims _ _ _ h }

pub returns-clause-some : goal.returns-clause-some
returns-clause-some c =
    let h = rw c.in_default.is at c.loop-rest.invariant in
    all-listed _ _ _ h
