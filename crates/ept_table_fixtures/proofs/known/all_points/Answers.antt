use Rattle.std.proofs.Common.{◌≡◌, ◌∙◌, ◌++◌, List, length, take, ap, sym, subst, arith}
use Rattle.std.proofs.lemmas.List.{take_all}
use Rattle.ept_point.specs.declared.point.Point.{Point}
use Rattle.ept_config.specs.declared.source_count.SourceCount.{SourceCount}
use Rattle.ept_config.specs.Counts.{total}
use Rattle.ept_scan.specs.Opening.{IsKeptScan}
use Rattle.ept_scan.specs.Reader.{left_of, batch_of}
use Rattle.ept_mem.specs.Objects.{shelf_files}
use Rattle.ept_table_fixtures.proofs.Reading.{kept-number}
use Rattle.ept_table_fixtures.proofs.known.all_points.Goals as goal

pub returns-clause-points : goal.returns-clause-points
returns-clause-points c = λ points scan.
    let all = shelf_files c.args.shelf.now in
    let number : length points ≡ total c.args.counts.now = kept-number all c.args.kept.now c.args.counts.now points scan in
    let counted : IsKeptScan all c.args.kept.now c.as_slice.result.now points = subst (λ (w : List SourceCount). IsKeptScan all c.args.kept.now w points) (sym c.as_slice.ensures) scan in
    let batch = c.in-Ok-read.ensures.rest points (c.allow.ensures.rest points (c.in-Ok.ensures.rest points counted)) in
    let left : left_of c.allow.new.self ≡ length points = omega (arith, c.allow.ensures.left, c.in-Ok.ensures.left, ap total c.as_slice.ensures, number) in
    let every : take (batch_of 18446744073709551615 c.allow.new.self) points ≡ points = take_all (batch_of 18446744073709551615 c.allow.new.self) points (omega (arith, left, c.allow.ensures.allowed, c.allow.ensures.reader.fits)) in
    batch.0 ∙ (ap (λ (w : List Point). w ++ take (batch_of 18446744073709551615 c.allow.new.self) points) c.new-points.ensures.items ∙ every)
