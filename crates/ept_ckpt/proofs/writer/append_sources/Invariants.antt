use Rattle.std.proofs.Common.{◌≡◌, ◌++◌, take, map}
use Rattle.std.specs.List.{flat_map, zip}
use Rattle.ept_config.specs.Facts.{input_facts}
use Rattle.ept_ckpt.specs.Body.{source_bytes}
use Rattle.ept_ckpt.proofs.writer.append_sources.Given as goal

abbrev pub invariant-loop-at : goal.invariant-loop-at
invariant-loop-at l =
    l.out.items ≡ l.initial.out.items ++ flat_map source_bytes (take l.at (zip (map input_facts l.kept.inputs) l.counts))
