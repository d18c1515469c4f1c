use Rattle.std.proofs.Common.{length, subst, arith}
use Rattle.std.proofs.lemmas.Grind.{common_steps}
use Rattle.std.specs.Io.KnownBytes.{prepend_known}
use Rattle.ept_las.specs.declared.place.Place.{Place}
use Rattle.ept_scan.specs.declared.record.Found.{Found}
use Rattle.ept_scan.specs.Records.{FindsPlace, IsWithinReach}
use Rattle.ept_las.proofs.Formats.{least_length}
use Rattle.ept_scan.proofs.SoFar.{at_next, point_is, outside_is, early_is, read_more, refused_outside, refused_early}
use Rattle.ept_scan.proofs.Reaching.{reach_more, left_records, given_records}
use Rattle.ept_scan.proofs.Skipping.{left_none}
use Rattle.ept_scan.proofs.las_file.scan_records.Goals as goal

pub returns-in_err-place-clause-given : goal.returns-in_err-place-clause-given
returns-in_err-place-clause-given g c =
    given_records c.args.header.now.length c.loop-number.number c.args.header.now.points (length c.args.window.now) (length c.loop-number.window) _ _ _ (omega arith) c.loop-number.invariant.gained c.loop-number.invariant.reach c.next_place.ensures.given

pub returns-in_err-place-clause-left : goal.returns-in_err-place-clause-left
returns-in_err-place-clause-left g c =
    left_records c.args.header.now c.args.window.now c.loop-number.window (g.S.Source.left c.args.source.now) (g.S.Source.left c.loop-number.source) (g.S.Source.left c.next_place.new.source) c.loop-number.number c.loop-number.invariant.place (omega arith) c.loop-number.invariant.reach c.in_err-place.ensures.left

pub returns-in-Outside-clause-refused : goal.returns-in-Outside-clause-refused
returns-in-Outside-clause-refused g c =
    let next = subst (λ (it : Found Place). FindsPlace c.args.reading.now c.args.header.now c.loop-number.number (prepend_known c.loop-number.window (g.S.Source.left c.loop-number.source)) (prepend_known c.next_place.new.window (g.S.Source.left c.next_place.new.source)) it) c.in-Outside.is c.in_ok-place.ensures.next in
    refused_outside c.args.reading.now c.args.header.now (prepend_known c.args.window.now (g.S.Source.left c.args.source.now)) c.loop-number.number c.loop-number.extent (omega arith) c.loop-number.invariant.read
    (outside_is c.args.reading.now c.args.header.now (omega (arith, least_length c.args.header.now.format, c.requires.size)) (prepend_known c.args.window.now (g.S.Source.left c.args.source.now)) (prepend_known c.loop-number.window (g.S.Source.left c.loop-number.source)) (prepend_known c.next_place.new.window (g.S.Source.left c.next_place.new.source)) c.loop-number.number c.loop-number.invariant.place next)

pub returns-in-Outside-clause-given : goal.returns-in-Outside-clause-given
returns-in-Outside-clause-given g c =
    given_records c.args.header.now.length c.loop-number.number c.args.header.now.points (length c.args.window.now) (length c.loop-number.window) _ _ _ (omega arith) c.loop-number.invariant.gained c.loop-number.invariant.reach c.next_place.ensures.given

pub returns-in-Outside-clause-left : goal.returns-in-Outside-clause-left
returns-in-Outside-clause-left g c =
    left_records c.args.header.now c.args.window.now c.loop-number.window (g.S.Source.left c.args.source.now) (g.S.Source.left c.loop-number.source) (g.S.Source.left c.next_place.new.source) c.loop-number.number c.loop-number.invariant.place (omega arith) c.loop-number.invariant.reach c.in_ok-place.ensures.left

pub returns-in-Early-clause-refused : goal.returns-in-Early-clause-refused
returns-in-Early-clause-refused g c =
    let next = subst (λ (it : Found Place). FindsPlace c.args.reading.now c.args.header.now c.loop-number.number (prepend_known c.loop-number.window (g.S.Source.left c.loop-number.source)) (prepend_known c.next_place.new.window (g.S.Source.left c.next_place.new.source)) it) c.in-Early.is c.in_ok-place.ensures.next in
    refused_early c.args.reading.now c.args.header.now (prepend_known c.args.window.now (g.S.Source.left c.args.source.now)) c.loop-number.number c.loop-number.extent (omega arith) c.loop-number.invariant.read
    (early_is c.args.reading.now c.args.header.now (prepend_known c.args.window.now (g.S.Source.left c.args.source.now)) (prepend_known c.loop-number.window (g.S.Source.left c.loop-number.source)) (prepend_known c.next_place.new.window (g.S.Source.left c.next_place.new.source)) c.loop-number.number c.loop-number.invariant.place next)

pub returns-in-Early-clause-given : goal.returns-in-Early-clause-given
returns-in-Early-clause-given g c =
    given_records c.args.header.now.length c.loop-number.number c.args.header.now.points (length c.args.window.now) (length c.loop-number.window) _ _ _ (omega arith) c.loop-number.invariant.gained c.loop-number.invariant.reach c.next_place.ensures.given

pub returns-in-Early-clause-left : goal.returns-in-Early-clause-left
returns-in-Early-clause-left g c =
    left_records c.args.header.now c.args.window.now c.loop-number.window (g.S.Source.left c.args.source.now) (g.S.Source.left c.loop-number.source) (g.S.Source.left c.next_place.new.source) c.loop-number.number c.loop-number.invariant.place (omega arith) c.loop-number.invariant.reach c.in_ok-place.ensures.left

pub loop-number-preserved : goal.loop-number-preserved
loop-number-preserved g c =
    let found = subst (λ (it : Found Place). FindsPlace c.args.reading.now c.args.header.now c.loop-number.number (prepend_known c.loop-number.window (g.S.Source.left c.loop-number.source)) (prepend_known c.next_place.new.window (g.S.Source.left c.next_place.new.source)) it) c.in-At.is c.in_ok-place.ensures.next in
    let reach = subst (IsWithinReach _ _ _) c.in-At.is c.in_ok-place.ensures.reach in
    record {
      place = at_next c.args.reading.now c.args.header.now (omega (arith, least_length c.args.header.now.format, c.requires.size)) (prepend_known c.args.window.now (g.S.Source.left c.args.source.now)) (prepend_known c.loop-number.window (g.S.Source.left c.loop-number.source)) (prepend_known c.next_place.new.window (g.S.Source.left c.next_place.new.source)) c.loop-number.number found.0 c.loop-number.invariant.place found.3;
      read = read_more c.args.reading.now c.args.header.now (prepend_known c.args.window.now (g.S.Source.left c.args.source.now)) c.loop-number.number c.loop-number.extent c.grown.result found.0 c.loop-number.invariant.read found.2
          (point_is c.args.reading.now c.args.header.now (omega (arith, least_length c.args.header.now.format, c.requires.size)) (prepend_known c.args.window.now (g.S.Source.left c.args.source.now)) (prepend_known c.loop-number.window (g.S.Source.left c.loop-number.source)) (prepend_known c.next_place.new.window (g.S.Source.left c.next_place.new.source)) c.loop-number.number found.0 c.loop-number.invariant.place found.3 found.2) (λ xs. c.grown.ensures xs found.0 found.1);
      reach = reach_more _ c.loop-number.number _ _ _ _ (omega arith) c.loop-number.invariant.reach reach;
      gained = omega (arith, c.in_ok-place.ensures.gained, c.loop-number.invariant.gained);
      same = grind (arith, common_steps);
      later = grind (arith, common_steps);
    }

pub returns-clause-given : goal.returns-clause-given
returns-clause-given g c =
    given_records c.args.header.now.length c.loop-number.number c.args.header.now.points (length c.args.window.now) (length c.loop-number.window) _ _ _ (omega arith) c.loop-number.invariant.gained c.loop-number.invariant.reach (omega arith)

pub returns-clause-left : goal.returns-clause-left
returns-clause-left g c =
    left_records c.args.header.now c.args.window.now c.loop-number.window (g.S.Source.left c.args.source.now) (g.S.Source.left c.loop-number.source) (g.S.Source.left c.loop-number.source) c.loop-number.number c.loop-number.invariant.place (omega arith) c.loop-number.invariant.reach (left_none (g.S.Source.left c.loop-number.source) _)
