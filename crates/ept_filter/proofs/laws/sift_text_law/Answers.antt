use Rattle.ept_filter.proofs.Decided.{texts_ask_or_not}
use Rattle.ept_filter.proofs.Once.{texts_have_one_sift}
use Rattle.ept_filter.proofs.laws.sift_text_law.Goals as goal

pub returns-clause-once : goal.returns-clause-once
returns-clause-once c = texts_have_one_sift c.class_set_law.ensures.once

pub returns-clause-decided : goal.returns-clause-decided
returns-clause-decided c = texts_ask_or_not c.class_set_law.ensures.each
