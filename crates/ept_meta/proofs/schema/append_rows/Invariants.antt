use Rattle.std.proofs.Common.{◌≡◌, ◌++◌, take}
use Rattle.ept_meta.specs.Dimensions.{rows_text}
use Rattle.ept_meta.proofs.schema.append_rows.Given as goal

abbrev pub invariant-loop-at : goal.invariant-loop-at
invariant-loop-at l = l.text.items ≡ l.initial.text.items ++ rows_text l.kept (take l.at l.rows)
