-- The members of an input as the program holds them.
use Rattle.ept_config_text.specs.declared.raw_input.RawInput.{RawInput}
use Rattle.ept_config_text.specs.Inputs.{InputMembers}

abbrev pub members_of : RawInput → InputMembers
members_of raw = record { path = raw.path.now; scale = raw.scale; shift = raw.shift; expect = raw.expect }
