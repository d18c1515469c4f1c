use Rattle.std.proofs.Common.{rules}
use Rattle.ept_slots.proofs.Notings.{splits_seat}
use Rattle.ept_slots.proofs.slots.Slots.split.Goals as goal

pub split_seat-requires : goal.split_seat-requires
split_seat-requires g c = (search rules, search rules, splits_seat _ _ _ _ _ _ _ _ c.requires.share.0 c.requires.share.1 c.requires.rule)
