use Rattle.std.proofs.Common.{◌≡◌, ◌++◌, take, decimal}
use Rattle.std.specs.Prelude.{codes}
use Rattle.std.specs.List.{join_by}
use Rattle.ept_meta.proofs.pieces.append_natural_items.Given as goal

abbrev pub invariant-loop-at : goal.invariant-loop-at
invariant-loop-at l = l.text.items ≡ l.initial.text.items ++ join_by decimal (codes ",") (take l.at l.numbers)
