use Rattle.std.proofs.lemmas.Bool.{MatchBool-at_true}
use Rattle.std.proofs.lemmas.List.Sorted.{non_decreasing_from_is_sorted}
use Rattle.ept_leaf_rows.proofs.numbers.ascend.Goals as goal

pub returns : goal.returns
returns c = λ t. MatchBool-at_true _ _ t (non_decreasing_from_is_sorted _ _ c.is_sorted.ensures.cases)
