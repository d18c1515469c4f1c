use Rattle.std.proofs.Common.{rules}
use Rattle.ept_slots.proofs.Notings.{looks_seat}
use Rattle.ept_slots.proofs.slots.Slots.look.Goals as goal

pub load-requires : goal.load-requires
load-requires g c = (search rules, search rules, looks_seat _ _ _ _ g.M.Look.tells _ _ _ c.requires.rule)
