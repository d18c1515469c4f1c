use Rattle.std.proofs.Common.{◌∙◌, ◌++◌, codes, ap, List}
use Rattle.std.specs.List.{zip, join_by}
use Rattle.std.proofs.lemmas.List.{take_all}
use Rattle.ept_config.specs.declared.input.Input.{Input}
use Rattle.ept_config.specs.declared.source_count.SourceCount.{SourceCount}
use Rattle.ept_meta.specs.ManifestText.{source_text}
use Rattle.ept_meta.proofs.Joining.{item_written}
use Rattle.ept_meta.proofs.Sources.{source_at, sources_inside, sources_within}
use Rattle.ept_meta.proofs.manifest.append_sources.Goals as goal

pub loop-at-preserved : goal.loop-at-preserved
loop-at-preserved c =
    item_written (source_text c.args.kept.now) (codes ",") (zip c.args.kept.now.inputs c.args.counts.now) c.loop-at.at _ c.args.text.now.items c.loop-at.text.items c.append_comma.new.text.items c.append_source.new.text.items
    (sources_inside c.args.kept.now.inputs c.args.counts.now c.loop-at.at c.requires c.loop-at-test.true)
    (source_at c.args.kept.now.inputs c.args.counts.now c.loop-at.at c.input.result.now _ c.requires c.loop-at-test.true c.input.ensures.input)
    c.loop-at.invariant c.in_ok-append_comma.ensures c.in_ok-append_source.ensures

pub returns : goal.returns
returns c =
    c.loop-at.invariant
    ∙ ap (λ (sources : List (Input × SourceCount)). c.args.text.now.items ++ join_by (source_text c.args.kept.now) (codes ",") sources) (take_all c.loop-at.at (zip c.args.kept.now.inputs c.args.counts.now) (sources_within c.args.kept.now.inputs c.args.counts.now c.loop-at.at c.loop-at-test.false))
