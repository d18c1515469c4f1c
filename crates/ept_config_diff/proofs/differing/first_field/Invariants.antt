use Rattle.std.proofs.Common.{take}
use Rattle.std.specs.Prelude.{All}
use Rattle.ept_config_diff.specs.Differing.{IsAsKept}
use Rattle.ept_config_diff.proofs.differing.first_field.Given as goal

abbrev pub invariant-loop-field : goal.invariant-loop-field
invariant-loop-field l = All (IsAsKept l.kept l.given) (take l.field-index l.field-items)
