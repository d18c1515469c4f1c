use Rattle.std.proofs.Common.{◌≡◌, length, take}
use Rattle.std.specs.List.{AllZip}
use Rattle.ept_command.specs.Words.{bytes_of, IsOctantsText}
use Rattle.ept_command.proofs.octants.list_parts.Given as goal

abbrev pub invariant-loop-text : goal.invariant-loop-text
invariant-loop-text l = record {
  array : length l.masks ≡ 8;
  place : l.len ≡ l.text-index;
  listed : AllZip IsOctantsText (bytes_of (take l.text-index l.texts)) (take l.text-index l.masks);
}
