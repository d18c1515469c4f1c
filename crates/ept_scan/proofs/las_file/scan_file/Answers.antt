use Rattle.std.proofs.Common.{ℕ, ◌≤◌, ◌+◌, ◌-◌, length, subst, arith}
use Rattle.std.specs.Io.KnownBytes.{prepend_known}
use Rattle.ept_scan.specs.Reach.{Skips, HasLeftOf}
use Rattle.ept_las.specs.declared.header.TheConstants.{HEAD_LENGTH}
use Rattle.ept_scan.proofs.Taking.{taken_head, taken_records, given_skipped, given_scanned}
use Rattle.ept_scan.proofs.Whole.{count_found, far_skip, far_records}
use Rattle.ept_scan.proofs.las_file.scan_file.Goals as goal

pub returns-clause-count : goal.returns-clause-count
returns-clause-count g c =
    count_found c.args.reading.now c.in_ok-header.header (omega arith) (g.S.Source.whole c.args.source.now) (g.S.Source.left c.args.source.now) (prepend_known c.begin.new.window (g.S.Source.left c.begin.new.source)) (prepend_known c.skip.new.window (g.S.Source.left c.skip.new.source))
    c.in_ok-extent.extent c.requires c.in_ok-header.ensures.header c.in_ok-header.ensures.ahead (subst (Skips (prepend_known c.begin.new.window (g.S.Source.left c.begin.new.source)) (prepend_known c.skip.new.window (g.S.Source.left c.skip.new.source))) c.from.ensures c.in_ok-skip.ensures.ahead) c.in_ok-extent.ensures.extent

pub returns-in_err-header-clause-given : goal.returns-in_err-header-clause-given
returns-in_err-header-clause-given g c = taken_head c.args.reading.now (g.S.Source.whole c.args.source.now) _ _ c.begin.ensures.given

pub returns-then-header-gt-MAX_POINTS-clause-given : goal.returns-then-header-gt-MAX_POINTS-clause-given
returns-then-header-gt-MAX_POINTS-clause-given g c = taken_head c.args.reading.now (g.S.Source.whole c.args.source.now) _ _ c.begin.ensures.given

pub returns-then-header-eq0-clause-given : goal.returns-then-header-eq0-clause-given
returns-then-header-eq0-clause-given g c = taken_head c.args.reading.now (g.S.Source.whole c.args.source.now) _ _ c.begin.ensures.given

pub returns-in_err-skip-clause-given : goal.returns-in_err-skip-clause-given
returns-in_err-skip-clause-given g c =
    taken_records c.args.reading.now c.in_ok-header.header (omega arith) (g.S.Source.whole c.args.source.now) (g.S.Source.left c.args.source.now) _ _ c.requires c.in_ok-header.ensures.header
    (given_skipped HEAD_LENGTH _ (g.S.Source.given c.begin.new.source) _ (length c.begin.new.window) c.in_ok-header.header.offset _ c.in_ok-header.ensures.gained c.in_ok-header.ensures.reach
    (subst (λ (n : ℕ). g.S.Source.given c.skip.new.source ≤ g.S.Source.given c.begin.new.source + (n - length c.begin.new.window)) c.from.ensures c.skip.ensures.given))

pub returns-in_err-extent-clause-given : goal.returns-in_err-extent-clause-given
returns-in_err-extent-clause-given g c =
    taken_records c.args.reading.now c.in_ok-header.header (omega arith) (g.S.Source.whole c.args.source.now) (g.S.Source.left c.args.source.now) _ _ c.requires c.in_ok-header.ensures.header
    (given_scanned HEAD_LENGTH _ (g.S.Source.given c.begin.new.source) (g.S.Source.given c.skip.new.source) _ (length c.begin.new.window) (length c.skip.new.window) c.in_ok-header.header.offset _ c.in_ok-header.ensures.gained c.in_ok-header.ensures.reach
    (omega (arith, c.from.ensures, c.in_ok-skip.ensures.gained)) (omega (arith, c.from.ensures, c.in_ok-skip.ensures.reach)) c.scan_records.ensures.given)

pub returns-clause-given : goal.returns-clause-given
returns-clause-given g c =
    taken_records c.args.reading.now c.in_ok-header.header (omega arith) (g.S.Source.whole c.args.source.now) (g.S.Source.left c.args.source.now) _ _ c.requires c.in_ok-header.ensures.header
    (given_scanned HEAD_LENGTH _ (g.S.Source.given c.begin.new.source) (g.S.Source.given c.skip.new.source) _ (length c.begin.new.window) (length c.skip.new.window) c.in_ok-header.header.offset _ c.in_ok-header.ensures.gained c.in_ok-header.ensures.reach
    (omega (arith, c.from.ensures, c.in_ok-skip.ensures.gained)) (omega (arith, c.from.ensures, c.in_ok-skip.ensures.reach)) c.scan_records.ensures.given)

pub returns-in_err-skip-clause-far : goal.returns-in_err-skip-clause-far
returns-in_err-skip-clause-far g c =
    far_skip c.args.reading.now c.in_ok-header.header (omega arith) (g.S.Source.whole c.args.source.now) (g.S.Source.left c.args.source.now) (g.S.Source.left c.begin.new.source) (g.S.Source.left c.skip.new.source) c.begin.new.window
    c.requires c.in_ok-header.ensures.header c.in_ok-header.ensures.ahead c.in_ok-header.ensures.reach (subst (λ (n : ℕ). HasLeftOf (g.S.Source.left c.begin.new.source) (g.S.Source.left c.skip.new.source) (n - length c.begin.new.window)) c.from.ensures c.in_err-skip.ensures.left)

pub returns-in_err-extent-clause-far : goal.returns-in_err-extent-clause-far
returns-in_err-extent-clause-far g c =
    far_records c.args.reading.now c.in_ok-header.header (omega arith) (g.S.Source.whole c.args.source.now) (g.S.Source.left c.args.source.now) (g.S.Source.left c.begin.new.source) (g.S.Source.left c.skip.new.source) (g.S.Source.left c.scan_records.new.source) c.begin.new.window c.skip.new.window
    c.requires c.in_ok-header.ensures.header c.in_ok-header.ensures.ahead c.in_ok-header.ensures.reach (subst (Skips (prepend_known c.begin.new.window (g.S.Source.left c.begin.new.source)) (prepend_known c.skip.new.window (g.S.Source.left c.skip.new.source))) c.from.ensures c.in_ok-skip.ensures.ahead) (omega (arith, c.from.ensures, c.in_ok-skip.ensures.reach)) c.in_err-extent.ensures.left

pub returns-clause-far : goal.returns-clause-far
returns-clause-far g c =
    far_records c.args.reading.now c.in_ok-header.header (omega arith) (g.S.Source.whole c.args.source.now) (g.S.Source.left c.args.source.now) (g.S.Source.left c.begin.new.source) (g.S.Source.left c.skip.new.source) (g.S.Source.left c.scan_records.new.source) c.begin.new.window c.skip.new.window
    c.requires c.in_ok-header.ensures.header c.in_ok-header.ensures.ahead c.in_ok-header.ensures.reach (subst (Skips (prepend_known c.begin.new.window (g.S.Source.left c.begin.new.source)) (prepend_known c.skip.new.window (g.S.Source.left c.skip.new.source))) c.from.ensures c.in_ok-skip.ensures.ahead) (omega (arith, c.from.ensures, c.in_ok-skip.ensures.reach)) c.in_ok-extent.ensures.left
