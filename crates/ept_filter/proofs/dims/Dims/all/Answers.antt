use Rattle.ept_filter.proofs.DimLists.{all-are_dims}
use Rattle.ept_filter.proofs.dims.Dims.all.Goals as goal

pub invariant_of-result : goal.invariant_of-result
invariant_of-result c = record { dims = all-are_dims }
