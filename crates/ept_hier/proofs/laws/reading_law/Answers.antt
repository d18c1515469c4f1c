use Rattle.ept_hier.proofs.ReadTexts.{text_read_back, files_read_back}
use Rattle.ept_hier.proofs.OneReading.{reading-once}
use Rattle.ept_hier.proofs.laws.reading_law.Goals as goal

pub returns-clause-one : goal.returns-clause-one
returns-clause-one c = reading-once

pub returns-clause-texts : goal.returns-clause-texts
returns-clause-texts c = text_read_back

pub returns-clause-files : goal.returns-clause-files
returns-clause-files c = files_read_back
