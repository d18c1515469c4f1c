use Rattle.std.specs.Prelude.{length}
use Rattle.ept_meta.specs.Output.{rules_of, output}
use Rattle.ept_publish.proofs.Apart.{output-apart}
use Rattle.ept_publish.proofs.Putting.{gained, only-these}
use Rattle.ept_publish.proofs.laws.published_law.Goals as goal

pub returns-clause-gains : goal.returns-clause-gains
returns-clause-gains c = λ kept counts extent points old new can put.
    gained (output kept counts extent points) (output-apart (rules_of kept) points can kept counts extent (length points)) old new put

pub returns-clause-there : goal.returns-clause-there
returns-clause-there c = λ kept counts extent points old new can put.
    (gained (output kept counts extent points) (output-apart (rules_of kept) points can kept counts extent (length points)) old new put).are_there

pub returns-clause-only : goal.returns-clause-only
returns-clause-only c = only-these
