use Rattle.ept_save.proofs.Newer.{current-one, not-bad}
use Rattle.ept_save.proofs.SoundFiles.{empty-sound, done-published}
use Rattle.ept_save.proofs.Before.{before_is_sound}
use Rattle.ept_save.proofs.DoneFiles.{done-complete}
use Rattle.ept_save.proofs.laws.sound_law.Goals as goal

pub returns-clause-empty : goal.returns-clause-empty
returns-clause-empty c = empty-sound

pub returns-clause-one : goal.returns-clause-one
returns-clause-one c = current-one

pub returns-clause-not_bad : goal.returns-clause-not_bad
returns-clause-not_bad c = not-bad

pub returns-clause-none_bad : goal.returns-clause-none_bad
returns-clause-none_bad c = λ shelf files letter sound. not-bad sound.current files letter sound.has_current

pub returns-clause-complete : goal.returns-clause-complete
returns-clause-complete c = done-complete

pub returns-clause-published : goal.returns-clause-published
returns-clause-published c = done-published

pub returns-clause-before : goal.returns-clause-before
returns-clause-before c = before_is_sound c.numbered_law.ensures
