use Rattle.std.proofs.Common.{rules}
use Rattle.ept_slots.proofs.Notings.{joins_seat}
use Rattle.ept_slots.proofs.slots.Slots.join.Goals as goal

pub join_seat-requires : goal.join_seat-requires
join_seat-requires g c = (search rules, search rules, search rules, search rules, joins_seat _ _ _ _ _ _ _ _ _ _ c.requires.idle c.requires.rule)
