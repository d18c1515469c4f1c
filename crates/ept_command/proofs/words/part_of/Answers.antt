use Rattle.ept_command.proofs.Usages.{part_refused}
use Rattle.ept_command.proofs.words.part_of.Goals as goal

pub returns-in-None : goal.returns-in-None
returns-in-None c = part_refused c.args.config.now c.args.out.now c.args.octants.now c.in-None.ensures.none
