use Rattle.std.proofs.lemmas.Str.{is_utf8-from_IsUtf8}
use Rattle.ept_config.specs.Texts.{is_plain}
use Rattle.ept_config.proofs.texts.is_plain.Goals as goal

pub returns : goal.returns
unfolding is_plain
returns c = rw (c.all_shown.ensures, is_utf8-from_IsUtf8 c.args.text.now c.utf8.text, c.as_bytes.ensures.value)
