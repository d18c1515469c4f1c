use Rattle.std.proofs.Common.{◌≤◌, ◌-◌, length, ap, arith, length-drop}
use Rattle.std.proofs.lemmas.Grind.{common_steps}
use Rattle.ept_scan.proofs.Skipping.{skips_keeps, skips_more, left_skipped, left_none}
use Rattle.ept_scan.proofs.las_file.skip.Goals as goal

pub loop-rest-preserved : goal.loop-rest-preserved
loop-rest-preserved g c =
    let held : c.min-held.result ≤ length c.fill.new.self = omega arith in
    let part : c.min-held.result ≤ c.loop-rest.rest = omega arith in
    record {
      part = omega arith;
      skips = skips_more _ (g.S.Source.left c.fill.new.source) c.fill.new.self c.consume.new.self (c.args.count - c.loop-rest.rest) _ c.min-held.result (omega arith) held c.consume.ensures (skips_keeps _ _ _ _ c.loop-rest.invariant.skips c.in_ok-fill.ensures.ahead);
      upper = omega (arith, ap length c.consume.ensures, length-drop c.min-held.result c.fill.new.self);
      lower = omega (arith, ap length c.consume.ensures, length-drop c.min-held.result c.fill.new.self, c.in_ok-fill.ensures.more);
      gained = omega (arith, ap length c.consume.ensures, length-drop c.min-held.result c.fill.new.self, c.in_ok-fill.ensures.gained, c.loop-rest.invariant.gained);
      same = grind (arith, common_steps);
      later = grind (arith, common_steps);
    }

pub returns-in_err-fill-clause-left : goal.returns-in_err-fill-clause-left
returns-in_err-fill-clause-left g c =
    left_skipped c.args.window.now c.loop-rest.window (g.S.Source.left c.args.source.now) (g.S.Source.left c.loop-rest.source) (g.S.Source.left c.fill.new.source) (c.args.count - c.loop-rest.rest) c.loop-rest.rest c.args.count _ c.loop-rest.invariant.skips (omega arith) c.loop-rest.invariant.upper (omega arith) c.in_err-fill.ensures.left

pub returns-clause-left : goal.returns-clause-left
returns-clause-left g c =
    left_skipped c.args.window.now c.loop-rest.window (g.S.Source.left c.args.source.now) (g.S.Source.left c.loop-rest.source) (g.S.Source.left c.loop-rest.source) (c.args.count - c.loop-rest.rest) c.loop-rest.rest c.args.count 0 c.loop-rest.invariant.skips (omega arith) c.loop-rest.invariant.upper (omega arith) (left_none (g.S.Source.left c.loop-rest.source) 0)
