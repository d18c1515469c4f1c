use Rattle.ept_ckpt.proofs.Encoded.{no_path}
use Rattle.ept_ckpt.proofs.texts.path_in.Goals as goal

pub returns-in_default-clause-no_path : goal.returns-in_default-clause-no_path
returns-in_default-clause-no_path c = λ none. no_path c.args.bytes.now c.in_default.ensures.cases.0
