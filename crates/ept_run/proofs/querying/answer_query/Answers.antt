use Rattle.ept_run.proofs.querying.answer_query.Goals as goal

pub returns-clause-ends : goal.returns-clause-ends
returns-clause-ends g c = (
  record {
    answer = c.query.result;
    status_is = c.ended_by.ensures.status;
    done = c.query.ensures.answer;
    complete = c.query.ensures.complete;
    refused = c.query.ensures.refused;
    comes = c.query.ensures.comes;
    leaves = c.query.ensures.leaves;
    stores = c.query.ensures.stores.failed;
    sinks = c.query.ensures.sinks.failed;
  },
  c.ended_by.ensures.failure,
)
