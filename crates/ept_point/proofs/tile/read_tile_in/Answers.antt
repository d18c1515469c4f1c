use Rattle.std.proofs.Common.{Err, ℕ, ◌≢◌, ◌%◌, length, refl, subst, arith, rules}
use Rattle.std.proofs.lemmas.Grind.{common_steps}
use Rattle.ept_point.specs.declared.tile.TileError.TheVariants.{Length}
use Rattle.ept_point.proofs.TileLaws.{reads_once, appends_reading}
use Rattle.ept_point.proofs.tile.read_tile_in.Goals as goal

pub returns-then-bytes-width-ne0-clause-exact : goal.returns-then-bytes-width-ne0-clause-exact
returns-then-bytes-width-ne0-clause-exact c =
    λ reading h. (reads_once c.args.layout c.args.bytes.now reading (Err Length) h (subst (λ (w : ℕ). length c.args.bytes.now % w ≢ 0) c.width.ensures c.if-bytes-width-ne0.true), refl)

pub returns-then-is_err-clause-exact : goal.returns-then-is_err-clause-exact
returns-then-is_err-clause-exact c =
    appends_reading c.args.layout c.args.bytes.now _ c.args.out.now.items _ (grind (arith, common_steps)) c.read_points-outcome.ensures.fault (grind (arith, common_steps))

pub returns-else-is_err-clause-exact : goal.returns-else-is_err-clause-exact
returns-else-is_err-clause-exact c =
    appends_reading c.args.layout c.args.bytes.now _ c.args.out.now.items _ c.read_points-outcome.ensures.ok c.read_points-outcome.ensures.fault (search rules)
