use Rattle.ept_filter.proofs.reading.read_sift.Goals as goal

pub returns-in_err-dims-clause-none : goal.returns-in_err-dims-clause-none
returns-in_err-dims-clause-none c = rw c.from_residual-in_err-dims.ensures (λ sift is. c.in_err-dims.ensures.none _ is.dims_are)
