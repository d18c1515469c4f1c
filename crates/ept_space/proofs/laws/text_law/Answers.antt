use Rattle.ept_space.proofs.KeyTexts.{key_text-injective}
use Rattle.ept_space.proofs.laws.text_law.Goals as goal

pub returns : goal.returns
returns c =
    record { one_spelling = key_text-injective }
