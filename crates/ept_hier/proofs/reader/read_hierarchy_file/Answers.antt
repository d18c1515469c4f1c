use Rattle.std.proofs.Common.{Ok}
use Rattle.std.proofs.lemmas.Result.{err_from_is_err_and}
use Rattle.ept_hier.proofs.Objects.{comes, accepts}
use Rattle.ept_hier.proofs.reader.read_hierarchy_file.Goals as goal

pub returns-in_err-entries-clause-refusal_comes : goal.returns-in_err-entries-clause-refusal_comes
returns-in_err-entries-clause-refusal_comes c =
    let p = err_from_is_err_and c.from_residual.result c.from_residual.ensures.1 in
    comes c.args.bytes.now c.from_residual.result (rw p.1 tt) (rw (p.1, p.2) c.in_err-entries.ensures.refused)

pub returns-in_err-entries-clause-accepted : goal.returns-in_err-entries-clause-accepted
returns-in_err-entries-clause-accepted c =
    let p = err_from_is_err_and c.from_residual.result c.from_residual.ensures.1 in
    accepts c.args.bytes.now c.from_residual.result (rw (p.1, p.2) c.in_err-entries.ensures.refused)

pub returns-clause-refusal_comes : goal.returns-clause-refusal_comes
returns-clause-refusal_comes c =
    comes c.args.bytes.now (Ok tt) (c.in_ok-entries.entries.items, c.in_ok-entries.ensures.ok) tt
