-- The ghost input of an empty table: no node, no input and no point.
use Rattle.std.specs.Prelude.{false, []}
use Rattle.ept_space.specs.Group.{plain_rules}
use Rattle.ept_table.specs.declared.note.Told.{Told}

abbrev pub nothing_told : Told
nothing_told = record {
  rules = plain_rules (record { corner = []; e = 0; s = 0; depth = 0 }) 0;
  points = [];
  most = 0;
  cache = 0;
  begun = [];
  end = 0;
  total = 0;
  inputs = [];
  tells = false;
}
