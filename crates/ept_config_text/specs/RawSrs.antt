-- The texts of a spatial reference as the program borrows them.
use Rattle.std.specs.Prelude.{option_map}
use Rattle.ept_config_text.specs.declared.srs_texts.RawSrs.{RawSrs}
use Rattle.ept_config.specs.Facts.{SrsFacts}

abbrev pub raw_srs_facts : RawSrs → SrsFacts
raw_srs_facts raw = record {
  authority = option_map (λ t. t.now) raw.authority;
  horizontal = option_map (λ t. t.now) raw.horizontal;
  vertical = option_map (λ t. t.now) raw.vertical;
  wkt = option_map (λ t. t.now) raw.wkt;
}
