use Rattle.ept_http.proofs.OneAnswer.{one-target, one-answer, may-be-asked}
use Rattle.ept_http.proofs.laws.one_answer_law.Goals as goal

pub returns : goal.returns
returns c = record { one_target = one-target; one_answer = one-answer; may_be_asked = may-be-asked }
