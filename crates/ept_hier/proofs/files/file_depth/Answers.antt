use Rattle.ept_hier.proofs.Levels.{file_depth-zero, file_depth-mod}
use Rattle.ept_hier.proofs.files.file_depth.Goals as goal

pub returns-then-step-eq0-clause-value : goal.returns-then-step-eq0-clause-value
returns-then-step-eq0-clause-value c = file_depth-zero c.args.step c.args.depth c.if-step-eq0.true

pub returns-clause-value : goal.returns-clause-value
returns-clause-value c = file_depth-mod c.args.step c.args.depth c.if-step-eq0.false
