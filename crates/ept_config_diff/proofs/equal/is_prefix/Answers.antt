use Rattle.std.proofs.Common.{IsTrue, ◌≡◌, length, arith}
use Rattle.std.proofs.lemmas.Bool.Decides.{nat_tests}
use Rattle.ept_config_diff.proofs.Alike.{all-alike, alike-all}
use Rattle.ept_config_diff.proofs.equal.is_prefix.Goals as goal

pub returns : goal.returns
returns c = (
  (λ is. all-alike c.alike.result c.args.kept.now c.args.given.now c.alike.ensures (grind (arith, nat_tests, is))),
  (λ first. let same = alike-all c.alike.result c.args.kept.now c.args.given.now c.alike.ensures first in grind (arith, nat_tests, same)),
)
