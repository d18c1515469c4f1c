use Rattle.std.proofs.Common.{rules}
use Rattle.std.proofs.lemmas.List.{map-append}
use Rattle.ept_config_text.proofs.EachInput.{read_more}
use Rattle.ept_config_text.proofs.inputs.inputs_of.Goals as goal

pub loop-item-preserved : goal.loop-item-preserved
loop-item-preserved c = record {
  read = rw (c.in_ok-push.ensures.items, map-append) (
      read_more c.args.scale c.args.items.now c.loop-item.item-index c.item-item.result _ _ c.loop-item-test.true c.item-item.is
      c.loop-item.invariant.read c.in_ok-input_of.ensures.ok);
  scales = search rules;
  count = search rules;
}
