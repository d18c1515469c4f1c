use Rattle.ept_http.proofs.OneAnswer.{one-box, one-range}
use Rattle.ept_http.proofs.laws.query_words_law.Goals as goal

pub returns : goal.returns
returns c = record { one_box = one-box; one_range = one-range }
