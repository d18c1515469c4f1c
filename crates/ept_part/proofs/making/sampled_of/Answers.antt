use Rattle.std.proofs.Common.{◌∙◌, ◌<◌, ℕ, List, length, drop, sym, ap, subst, arith, rules}
use Rattle.std.specs.Prelude.{All, Err, IfOk}
use Rattle.std.proofs.lemmas.Result.{IfOk-weaker, err_from_is_err_and}
use Rattle.ept_base.specs.Files.{Files}
use Rattle.ept_point.specs.declared.point.Point.{Point}
use Rattle.ept_space.specs.declared.cube.Rules.{Rules}
use Rattle.ept_sample.specs.Nodes.{sampled}
use Rattle.ept_sample.specs.SamplingLaws.{CanBeSampled}
use Rattle.ept_grid.specs.Mask.{opened}
use Rattle.ept_config.specs.declared.source_count.SourceCount.{SourceCount}
use Rattle.ept_config.specs.Counts.{total}
use Rattle.ept_scan.specs.declared.read_error.ReadError.{ReadError}
use Rattle.ept_scan.specs.Queue.{Held, LiesIn}
use Rattle.ept_scan.specs.Opening.{IsKeptScan, IsFileOf}
use Rattle.ept_scan.specs.Reader.{files_of, IsRest}
use Rattle.ept_parts.specs.Parts.{part_of}
use Rattle.ept_part.specs.Sampling.{IsGrown}
use Rattle.ept_save.proofs.Inside.{lies-in-cube}
use Rattle.ept_part.proofs.Causes.{read-fault, read-changed, read-of_sampling, read-few}
use Rattle.ept_part.proofs.Planned.{tells-more}
use Rattle.ept_part.proofs.Bodies.{scan-number, scan-can}
use Rattle.ept_part.proofs.making.sampled_of.Goals as goal

pub sample_part-outcome-requires-clause-room : goal.sample_part-outcome-requires-clause-room
sample_part-outcome-requires-clause-room g c = omega (arith, c.args.config.now.work.nodes_least, c.from-most.ensures)

pub sample_part-outcome-requires-clause-ahead : goal.sample_part-outcome-requires-clause-ahead
sample_part-outcome-requires-clause-ahead g c =
    let plan = c.args.plan.now in
    let r = c.in_ok-reader.ensures in
    let files = files_of g.H.Source.Source.whole c.in_ok-reader.reader in
    record {
      is_reader = c.allow.ensures.reader;
      fresh = c.allow.ensures.refusal ∙ r.refusal;
      all_left = omega (arith, c.allow.ensures.left, r.left, c.requires.plan.points_are, ap total c.as_slice.ensures);
      all_allowed = c.allow.ensures.allowed;
      inside = λ p lies.
          lies-in-cube plan.kept plan.counts files c.args.rules.now.cube c.requires.of_bounds c.requires.plan.counted (subst (λ (w : List SourceCount). All (IsFileOf plan.kept w) files) c.as_slice.ensures r.inputs) p
          (subst (λ (w : List Held). LiesIn w p) c.allow.ensures.files lies);
    }

-- ---- all records were drawn

pub returns-clause-grown : goal.returns-clause-grown
returns-clause-grown g c =
    subst (λ (n : ℕ). IfOk c.sample_part-outcome.result (λ s. IsGrown c.args.rules.now n s.inserted s.tree)) c.from-most.ensures c.sample_part-outcome.ensures.grown

pub returns-clause-sampled : goal.returns-clause-sampled
returns-clause-sampled g c =
    let plan = c.args.plan.now in
    IfOk-weaker c.sample_part-outcome.result _ _
    (λ s grown. tells-more (λ (all : Files). (points : List Point) → IsKeptScan all plan.kept c.as_slice.result.now points → IsRest g.H.Source.Source.whole c.in_ok-reader.reader (drop 0 points)) _
    (λ all rest points scan. grown points (record {
      can = subst (λ (r : Rules). CanBeSampled r points) (sym c.requires.rules) (scan-can c.output_once_law.ensures.sampled all plan.kept plan.counts points scan);
      number = scan-number all plan.kept plan.counts points scan ∙ sym c.requires.plan.points_are;
      rest = c.allow.ensures.rest points (rest points (subst (λ (w : List SourceCount). IsKeptScan all plan.kept w points) (sym c.as_slice.ensures) scan));
    })) (g.H.Shelf.files c.args.shelf.now) c.in_ok-reader.ensures.rest) c.sample_part-outcome.ensures.sampled

pub returns-clause-too_many : goal.returns-clause-too_many
returns-clause-too_many g c = λ is.
    let plan = c.args.plan.now in
    tells-more (λ (all : Files). (points : List Point) → IsKeptScan all plan.kept c.as_slice.result.now points → IsRest g.H.Source.Source.whole c.in_ok-reader.reader (drop 0 points)) _
    (λ all rest points scan. subst (λ (n : ℕ). n < length (sampled c.args.rules.now (part_of c.args.rules.now (opened c.args.octants) points))) c.from-most.ensures
    (c.sample_part-outcome.ensures.too_many is points (record {
      can = subst (λ (r : Rules). CanBeSampled r points) (sym c.requires.rules) (scan-can c.output_once_law.ensures.sampled all plan.kept plan.counts points scan);
      number = scan-number all plan.kept plan.counts points scan ∙ sym c.requires.plan.points_are;
      rest = c.allow.ensures.rest points (rest points (subst (λ (w : List SourceCount). IsKeptScan all plan.kept w points) (sym c.as_slice.ensures) scan));
    }))) (g.H.Shelf.files c.args.shelf.now) c.in_ok-reader.ensures.rest

pub returns-clause-no_change : goal.returns-clause-no_change
returns-clause-no_change g c = λ source number is.
    let plan = c.args.plan.now in
    tells-more (λ (all : Files). (points : List Point) → IsKeptScan all plan.kept c.as_slice.result.now points → IsRest g.H.Source.Source.whole c.in_ok-reader.reader (drop 0 points)) _
    (λ all rest points scan. c.sample_part-outcome.ensures.no_change source number is points (record {
      can = subst (λ (r : Rules). CanBeSampled r points) (sym c.requires.rules) (scan-can c.output_once_law.ensures.sampled all plan.kept plan.counts points scan);
      number = scan-number all plan.kept plan.counts points scan ∙ sym c.requires.plan.points_are;
      rest = c.allow.ensures.rest points (rest points (subst (λ (w : List SourceCount). IsKeptScan all plan.kept w points) (sym c.as_slice.ensures) scan));
    })) (g.H.Shelf.files c.args.shelf.now) c.in_ok-reader.ensures.rest

pub returns-clause-files : goal.returns-clause-files
returns-clause-files g c = c.retire_all.ensures.files ∙ c.reader.ensures.files

pub returns-clause-cause : goal.returns-clause-cause
returns-clause-cause g c = record {
  later = omega (arith, c.reader.ensures.cause.later, c.retire_all.ensures.later);
  failed = λ is. let rose = c.retire_all.ensures.failed (c.sample_part-outcome.ensures.fault is) in omega (arith, rose, c.reader.ensures.cause.later);
}

-- ---- the reader is refused

pub returns-in_err-reader-clause-only : goal.returns-in_err-reader-clause-only
returns-in_err-reader-clause-only g c =
    let p = err_from_is_err_and c.from_residual.result c.from_residual.ensures.1 in
    rw (p.1, p.2) (read-of_sampling c.in_err-reader.field-0.0)

pub returns-in_err-reader-clause-too_many : goal.returns-in_err-reader-clause-too_many
returns-in_err-reader-clause-too_many g c = λ is. absurd (read-few c.in_err-reader.field-0.0 (search (rules, is)))

pub returns-in_err-reader-clause-no_change : goal.returns-in_err-reader-clause-no_change
returns-in_err-reader-clause-no_change g c = λ source number is.
    absurd (c.in_err-reader.ensures.no_change source number (ap (λ (e : ReadError). Err e) (read-changed c.in_err-reader.field-0.0 source number (search (rules, is)))))

pub returns-in_err-reader-clause-cause : goal.returns-in_err-reader-clause-cause
returns-in_err-reader-clause-cause g c = record {
  later = c.in_err-reader.ensures.cause.later;
  failed = λ is. c.in_err-reader.ensures.cause.failed (ap (λ (e : ReadError). Err e) (read-fault c.in_err-reader.field-0.0 (search (rules, is))));
}
