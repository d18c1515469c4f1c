-- The ghost input of a table for a reader.
use Rattle.std.specs.Prelude.{ℕ, ◌+◌, Bool, List, map, Option}
use Rattle.ept_point.specs.declared.point.Point.{Point}
use Rattle.ept_space.specs.declared.cube.Rules.{Rules}
use Rattle.ept_space.specs.VoxelKey.{VoxelKey}
use Rattle.ept_scan.specs.declared.second_reading.Reader.{Reader}
use Rattle.ept_scan.specs.Reader.{drawn_of, allowed_of, left_of, files_of}
use Rattle.ept_table.specs.declared.note.Told.{Told}
use Rattle.ept_table.specs.Item.{counted}

-- The reader gives its inputs, the number of their points and the end of its allowance. It does not give the rules, the
-- greatest number of nodes, the number in memory and the keys of the first nodes. Nor does it give whether contents are
-- visible, and all points if they are.
abbrev pub told_of : {S : Type 0} → (S → Option (List ℕ)) → Reader S → Rules → ℕ → ℕ → List VoxelKey → Bool → List Point → Told
told_of whole reader rules most cache begun tells points = record {
  rules = rules;
  points = points;
  most = most;
  cache = cache;
  end = drawn_of reader + allowed_of reader;
  total = drawn_of reader + left_of reader;
  inputs = map counted (files_of whole reader);
  begun = begun;
  tells = tells;
}
