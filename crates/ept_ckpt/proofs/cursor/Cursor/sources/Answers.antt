use Rattle.std.proofs.Common.{rules, ◌≡◌, ◌≢◌, ◌∙◌, ◌-◌, ◌+◌, ◌<◌, ◌≤◌, List, [], ◌∷◌, ◌++◌, Ok, Err, sym, subst, ap}
use Rattle.ept_ckpt.specs.declared.field_error.FieldError.TheVariants.{Memory}
use Rattle.ept_ckpt.specs.declared.sources.Sources.{Sources}
use Rattle.ept_ckpt.specs.Facts.{Source, source_facts, sources_of}
use Rattle.std.specs.List.{All}
use Rattle.std.proofs.lemmas.List.Elements.{All-push}
use Rattle.ept_config.specs.declared.source_count.SourceCount.{SourceCount}
use Rattle.ept_config.specs.Counts.{IsCount}
use Rattle.ept_ckpt.specs.Valid.{ExtentInRange}
use Rattle.ept_ckpt.specs.Fields.{times}
use Rattle.ept_ckpt.specs.Forms.{source_form}
use Rattle.ept_ckpt.proofs.Counted.{after, none_read, one_more, one_refused, refused_reads}
use Rattle.ept_ckpt.proofs.Paired.{one_pair_more}
use Rattle.ept_ckpt.proofs.cursor.Cursor.sources.Goals as goal

pub loop-init : goal.loop-init
unfolding sources_of
loop-init c =
    let none : sources_of c.new-inputs.result.items c.new-counts.result.items ≡ [] = search rules in
    record {
      whole = none_read (source_form c.args.most c.args.scale c.args.bounds.now) c.args.self.now.total c.args.number c.args.self.now.rest.now
          ∙ ap (λ (w : List Source). after w (times (c.args.number - 0) (source_form c.args.most c.args.scale c.args.bounds.now) c.args.self.now.total c.args.self.now.rest.now)) (sym none);
      same = search rules;
      scales = search rules;
      few = search rules;
      counted = search rules;
      extents = search rules;
      inputs_read = search rules;
      counts_read = search rules;
    }

pub returns-in_err-input-clause-reads : goal.returns-in_err-input-clause-reads
returns-in_err-input-clause-reads c =
    let below : c.loop.counter < c.args.number = search rules in
    let refused : c.in_err-input.field-0.0 ≢ Memory → source_form c.args.most c.args.scale c.args.bounds.now c.args.self.now.total c.loop.self.rest.now ≡ Err c.in_err-input.field-0.0 = search rules in
    let is : c.from_residual.result ≡ Err c.in_err-input.field-0.0 = search rules in
    refused_reads (times c.args.number (source_form c.args.most c.args.scale c.args.bounds.now)) (λ (s : Sources). sources_of s.inputs s.counts) c.args.self.now c.source.new.self c.from_residual.result c.in_err-input.field-0.0 is
    (λ known. c.loop.invariant.whole ∙ one_refused (source_form c.args.most c.args.scale c.args.bounds.now) c.args.self.now.total (sources_of c.loop.inputs.items c.loop.counts.items) c.args.number c.loop.counter c.loop.self.rest.now c.in_err-input.field-0.0 below (refused known))

pub loop-preserved : goal.loop-preserved
loop-preserved c =
    let below : c.loop.counter < c.args.number = search rules in
    let one = source_facts (c.in_ok-input.input, c.in_ok-input.count) in
    let read : source_form c.args.most c.args.scale c.args.bounds.now c.args.self.now.total c.loop.self.rest.now ≡ Ok (one, c.source.new.self.rest.now) = search rules in
    let input_pushed : c.push.new.self.items ≡ c.loop.inputs.items ++ c.in_ok-input.input ∷ [] = search rules in
    let count_pushed : c.push-in-loop.new.self.items ≡ c.loop.counts.items ++ c.in_ok-input.count ∷ [] = search rules in
    let pushed : sources_of c.push.new.self.items c.push-in-loop.new.self.items ≡ sources_of c.loop.inputs.items c.loop.counts.items ++ one ∷ [] =
    rw (input_pushed, count_pushed) (one_pair_more c.loop.inputs.items c.loop.counts.items c.in_ok-input.input c.in_ok-input.count (c.loop.invariant.inputs_read ∙ sym c.loop.invariant.counts_read)) in
    record {
      whole = c.loop.invariant.whole ∙ (one_more (source_form c.args.most c.args.scale c.args.bounds.now) c.args.self.now.total (sources_of c.loop.inputs.items c.loop.counts.items) c.args.number c.loop.counter c.loop.self.rest.now c.source.new.self.rest.now one below read
          ∙ ap (λ (w : List Source). after w (times (c.args.number - (c.loop.counter + 1)) (source_form c.args.most c.args.scale c.args.bounds.now) c.args.self.now.total c.source.new.self.rest.now)) (sym pushed));
      same = search rules;
      scales = search rules;
      few = subst (All (λ (n : SourceCount). n.points ≤ c.args.most)) (sym count_pushed) (All-push (λ (n : SourceCount). n.points ≤ c.args.most) c.loop.counts.items c.in_ok-input.count c.loop.invariant.few c.in_ok-input.ensures.few);
      counted = subst (All (IsCount c.args.bounds.now)) (sym count_pushed) (All-push (IsCount c.args.bounds.now) c.loop.counts.items c.in_ok-input.count c.loop.invariant.counted c.in_ok-input.ensures.count);
      extents = subst (All ExtentInRange) (sym count_pushed) (All-push ExtentInRange c.loop.counts.items c.in_ok-input.count c.loop.invariant.extents c.in_ok-input.ensures.extent);
      inputs_read = search rules;
      counts_read = search rules;
    }

pub returns-clause-extents : goal.returns-clause-extents
returns-clause-extents c = subst (All ExtentInRange) (sym c.of-2.ensures) c.loop.invariant.extents
