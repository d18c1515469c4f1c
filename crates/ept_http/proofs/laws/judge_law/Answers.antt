use Rattle.ept_http.proofs.DecidedAnswer.{each-answered, some-judge}
use Rattle.ept_http.proofs.laws.judge_law.Goals as goal

pub returns : goal.returns
returns c = record { each = each-answered; judge = some-judge }
