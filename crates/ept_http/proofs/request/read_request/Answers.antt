use Rattle.std.proofs.Common.{rules}
use Rattle.ept_http.proofs.OneAnswer.{judged-once, on-err, named-answer}
use Rattle.ept_http.proofs.request.read_request.Goals as goal

pub returns-clause-ok : goal.returns-clause-ok
returns-clause-ok c = search rules

pub returns-clause-value : goal.returns-clause-value
returns-clause-value c = λ judge is. judged-once c.args.head.now c.in_ok-asked.asked c.if-is_last.last judge is (returns-clause-ok c)

pub returns-in_err-asked-clause-memory : goal.returns-in_err-asked-clause-memory
returns-in_err-asked-clause-memory c =
    on-err c.from_residual.result _ (named-answer c.args.head.now _ c.in-Some.ensures.some c.in_err-asked.ensures.memory)
