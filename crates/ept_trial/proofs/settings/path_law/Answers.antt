use Rattle.std.proofs.Common.{◌≡◌, true, length, arith}
use Rattle.std.specs.Prelude.{nat_le}
use Rattle.std.proofs.lemmas.Bool.Decides.{nat_tests}
use Rattle.std.proofs.lemmas.Str.{is_utf8-from_IsUtf8}
use Rattle.ept_config.specs.Texts.{is_path, is_plain}
use Rattle.ept_trial.proofs.settings.path_law.Goals as goal

pub returns : goal.returns
unfolding is_path is_plain
returns c =
    let some = c.requires.some in
    let short = c.requires.short in
    let one : nat_le 1 (length c.args.path.now) ≡ true = grind (arith, nat_tests) in
    let two : nat_le (length c.args.path.now) 4096 ≡ true = grind (arith, nat_tests) in
    rw (is_utf8-from_IsUtf8 c.args.path.now c.utf8.path, c.requires.shown, one, two)
