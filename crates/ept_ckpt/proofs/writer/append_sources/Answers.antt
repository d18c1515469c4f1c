use Rattle.std.proofs.Common.{◌∙◌, ◌++◌, ap, map, arith, List}
use Rattle.std.specs.List.{flat_map, zip}
use Rattle.std.proofs.lemmas.List.{take_all}
use Rattle.ept_config.specs.Facts.{input_facts}
use Rattle.ept_ckpt.specs.Facts.{Source}
use Rattle.ept_ckpt.specs.Body.{source_bytes}
use Rattle.ept_ckpt.proofs.SourceText.{next_source, length_sources}
use Rattle.ept_ckpt.proofs.writer.append_sources.Goals as goal

pub loop-at-preserved : goal.loop-at-preserved
loop-at-preserved c =
    next_source c.args.kept.now.inputs c.args.counts.now c.loop-at.at c.input.result.now _ c.args.out.now.items c.loop-at.out.items c.append_source.new.out.items
    c.requires c.loop-at-test.true c.input.ensures.input c.loop-at.invariant c.in_ok-append_source.ensures

pub returns : goal.returns
returns c =
    c.loop-at.invariant
    ∙ ap (λ (sources : List Source). c.args.out.now.items ++ flat_map source_bytes sources)
    (take_all c.loop-at.at (zip (map input_facts c.args.kept.now.inputs) c.args.counts.now) (omega (arith, length_sources c.args.kept.now.inputs c.args.counts.now c.requires, c.loop-at-test.false)))
