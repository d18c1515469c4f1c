use Rattle.std.proofs.Common.{◌≡◌, ◌++◌, take}
use Rattle.std.specs.Prelude.{codes}
use Rattle.std.specs.List.{join_by}
use Rattle.ept_meta.specs.BuildText.{input_text}
use Rattle.ept_meta.proofs.build.append_input_items.Given as goal

abbrev pub invariant-loop-at : goal.invariant-loop-at
invariant-loop-at l = l.text.items ≡ l.initial.text.items ++ join_by input_text (codes ",") (take l.at l.inputs)
