use Rattle.std.proofs.Common.{◌<◌, length, refl, ap, rules}
use Rattle.ept_crowd.proofs.Places.{first-of}
use Rattle.ept_crowd.proofs.crowd.Crowd.take_ended.Goals as goal

pub returns : goal.returns
returns g c =
    let first = c.remove-number.result in
    let items = c.args.self.now.ended.items in
    let some : 0 < length items = search rules in (
      first,
      first-of items c.remove-number.new.self.items first some c.remove-number.ensures.value c.remove-number.ensures.items,
      ap (λ (parts : g.row.L.Denot × g.row.T.Denot). (first.number, first.end, parts.0, parts.1)) c.into_parts-link.ensures,
      refl,
      refl,
    )
