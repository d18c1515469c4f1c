use Rattle.ept_ckpt.proofs.Encoded.{no_srs_text}
use Rattle.ept_ckpt.proofs.texts.srs_text_in.Goals as goal

pub returns-in_default-clause-no_text : goal.returns-in_default-clause-no_text
returns-in_default-clause-no_text c = λ none. no_srs_text c.args.bytes.now c.in_default.ensures.cases.0
