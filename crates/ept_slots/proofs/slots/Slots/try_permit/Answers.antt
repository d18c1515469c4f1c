use Rattle.std.proofs.Common.{rules}
use Rattle.ept_slots.proofs.Grants.{grants_permit}
use Rattle.ept_slots.proofs.slots.Slots.try_permit.Goals as goal

pub compare_exchange-found-requires : goal.compare_exchange-found-requires
compare_exchange-found-requires g c = (search rules, search rules, grants_permit _ _ _ _ _ _ _ _ c.if-free-eq0.false c.requires.share c.requires.rule)
