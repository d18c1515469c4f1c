-- How much of the machine may be used, as the program holds it.
use Rattle.ept_config_text.specs.declared.work.Work.{Work}
use Rattle.ept_config_text.specs.Configuration.{WorkFacts}

abbrev pub work_facts : Work → WorkFacts
work_facts work = record { threads = work.threads; cache = work.cache; max_nodes = work.max_nodes; checkpoint = work.checkpoint }
