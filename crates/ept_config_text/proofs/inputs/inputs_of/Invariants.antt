use Rattle.std.proofs.Common.{◌≡◌, ◌≤◌, length, map}
use Rattle.std.specs.List.{All}
use Rattle.ept_config.specs.Facts.{input_facts}
use Rattle.ept_config_text.proofs.EachInput.{IsReadTo}
use Rattle.ept_config_text.proofs.inputs.inputs_of.Given as goal

abbrev pub invariant-loop-item : goal.invariant-loop-item
invariant-loop-item l = record {
  read : IsReadTo l.scale l.items l.item-index (map input_facts l.list.items);
  scales : All (λ input. input.scale ≤ l.scale) l.list.items;
  count : length l.list.items ≡ l.item-index;
}
