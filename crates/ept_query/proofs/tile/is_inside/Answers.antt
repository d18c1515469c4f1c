use Rattle.std.proofs.Common.{subst}
use Rattle.std.specs.Prelude.{IsTrue, ◌↔◌}
use Rattle.ept_space.specs.ClosedBox.{IsIn}
use Rattle.ept_space.specs.Place.{Place}
use Rattle.ept_sample.specs.Place.{place}
use Rattle.ept_query.proofs.Inside.{same-test}
use Rattle.ept_query.proofs.tile.is_inside.Goals as goal

pub returns : goal.returns
returns c =
    same-test c.args.area.now (place c.args.point.now) c.contains.result (subst (λ (at : Place). IsTrue c.contains.result ↔ IsIn c.args.area.now at) c.place_of.ensures c.contains.ensures.inside)
