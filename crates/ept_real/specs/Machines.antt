-- The machine on which a build runs.
use Rattle.ept_real.specs.declared.progress.Progress.{Progress}

-- the machine whose progress is reported
abbrev pub machine_of : {R : Type 0} → Progress R → R
machine_of progress = progress.machine
