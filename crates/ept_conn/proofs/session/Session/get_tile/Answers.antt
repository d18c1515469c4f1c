use Rattle.std.proofs.Common.{◌∙◌, ◌+◌, ◌++◌, List, ℕ, arith, length, sym, ap}
use Rattle.ept_point.specs.declared.layout.Layout.TheVariants.{New}
use Rattle.ept_conn.specs.Wanted.{kept_of}
use Rattle.ept_conn.specs.Answers.{chunk}
use Rattle.ept_conn.specs.Works.{end_at}
use Rattle.ept_query.specs.Parts.{node_at, points_in}
use Rattle.ept_conn.proofs.Plans.{part-served}
use Rattle.ept_conn.proofs.Undamaged.{part-tile, part-has-tile}
use Rattle.ept_conn.proofs.session.Session.get_tile.Goals as goal

-- the bytes of a part are those of its points, each of the packed length
pub put_kept-requires-clause-whole : goal.put_kept-requires-clause-whole
put_kept-requires-clause-whole g c =
    let part = c.in-Ok.ensures.part in
    let size = c.tile_length_law.ensures.length New (points_in c.args.plan.area part.points) in
    omega (arith, ap length part.bytes_are, size)

pub returns-in-Ok-clause-works : goal.returns-in-Ok-clause-works
returns-in-Ok-clause-works g c = λ going files told served is planned.
    let part = rw told at c.in-Ok.ensures.part in
    let bytes = part-served files served c.args.turn c.args.plan c.args.done _ _ is planned c.requires.within part in (
      c.put_kept.ensures.same.0,
      c.put_kept.ensures.hand going,
      c.put_kept.ensures.out going ∙ ap (λ (w : List ℕ). chunk (kept_of c.args.turn.asked w) ++ end_at c.args.plan (c.args.done + 1)) (sym bytes),
    )

pub returns-in-Ok-clause-undamaged : goal.returns-in-Ok-clause-undamaged
returns-in-Ok-clause-undamaged g c = λ going files told found damaged.
    let part = rw told at c.in-Ok.ensures.part in
    part-has-tile files c.args.plan.area (node_at c.args.plan c.args.done) _ _ part damaged.2

pub returns-in-Ok-clause-found : goal.returns-in-Ok-clause-found
returns-in-Ok-clause-found g c = λ going files told.
    let part = rw told at c.in-Ok.ensures.part in
    part-tile files c.args.plan.area (node_at c.args.plan c.args.done) _ _ part
