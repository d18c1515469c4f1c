use Rattle.std.proofs.Common.{rules}
use Rattle.ept_slots.proofs.Notings.{draws_seat}
use Rattle.ept_slots.proofs.slots.Slots.draw.Goals as goal

pub fetch_add-seen-requires : goal.fetch_add-seen-requires
fetch_add-seen-requires g c = (search rules, search rules, draws_seat _ _ _ _ g.M.Draw.tells _ _ _ c.requires.seat.1 c.requires.share c.requires.rule c.requires.refused)
