use Rattle.ept_run.proofs.querying.answer_select.Goals as goal

pub returns-clause-ends : goal.returns-clause-ends
returns-clause-ends g c = (
  record {
    answer = c.select.result;
    status_is = c.ended_by.ensures.status;
    done = c.select.ensures.answer;
    complete = c.select.ensures.complete;
    refused = c.select.ensures.refused;
    comes = c.select.ensures.comes;
    leaves = c.select.ensures.leaves;
    stores = c.select.ensures.stores.failed;
    sinks = c.select.ensures.sinks.failed;
  },
  c.ended_by.ensures.failure,
)
