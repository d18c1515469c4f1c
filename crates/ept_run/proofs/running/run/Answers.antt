use Rattle.ept_run.proofs.Runs.{first_parts}
use Rattle.ept_run.proofs.running.run.Goals as goal

pub returns-clause-refused : goal.returns-clause-refused
returns-clause-refused g c = λ not_ok. first_parts (c.carry_out.ensures.refused not_ok)

pub returns-clause-query : goal.returns-clause-query
returns-clause-query g c = λ folder area first last is. (c.carry_out.ensures.query folder area first last is).0

pub returns-clause-select : goal.returns-clause-select
returns-clause-select g c = λ folder area first last sift is. (c.carry_out.ensures.select folder area first last sift is).0

pub returns-clause-check : goal.returns-clause-check
returns-clause-check g c = λ folder is. (c.carry_out.ensures.check folder is).0

pub returns-clause-part : goal.returns-clause-part
returns-clause-part g c = λ path folder octants is. (c.carry_out.ensures.part path folder octants is).0

pub returns-clause-merge : goal.returns-clause-merge
returns-clause-merge g c = λ path folder parts is. (c.carry_out.ensures.merge path folder parts is).0
