use Rattle.ept_scan.proofs.OneScan.{scan_once}
use Rattle.ept_save.proofs.Migration.{migrating-sound}
use Rattle.ept_save.proofs.OtherShelf.{inputs-enough}
use Rattle.ept_save.proofs.SoundFiles.{same-sound, keeping-sound, beside-sound, guarding-sound, putting-sound, committing-sound}
use Rattle.ept_save.proofs.laws.sound_steps_law.Goals as goal

pub returns-clause-same : goal.returns-clause-same
returns-clause-same c = same-sound c.output_names_law.ensures.names c.output_names_law.ensures.outside

pub returns-clause-keeping : goal.returns-clause-keeping
returns-clause-keeping c = keeping-sound c.output_names_law.ensures.names c.output_names_law.ensures.outside

pub returns-clause-beside : goal.returns-clause-beside
returns-clause-beside c = beside-sound c.output_names_law.ensures.names c.output_names_law.ensures.outside

pub returns-clause-guarding : goal.returns-clause-guarding
returns-clause-guarding c =
    guarding-sound c.output_names_law.ensures.names c.output_names_law.ensures.outside scan_once c.output_once_law.ensures.one

pub returns-clause-putting : goal.returns-clause-putting
returns-clause-putting c = λ shelf old new letter at points output has scan is not_done change sound.
    putting-sound c.output_names_law.ensures.names c.output_names_law.ensures.outside scan_once c.output_once_law.ensures.one shelf old new letter at points output scan is change has not_done sound

pub returns-clause-committing : goal.returns-clause-committing
returns-clause-committing c = committing-sound c.output_names_law.ensures.names c.output_names_law.ensures.outside

pub returns-clause-shelf : goal.returns-clause-shelf
returns-clause-shelf c = inputs-enough

pub returns-clause-migrating : goal.returns-clause-migrating
returns-clause-migrating c = migrating-sound c.output_names_law.ensures.names c.output_names_law.ensures.outside scan_once
