use Rattle.std.proofs.Common.{rules}
use Rattle.ept_slots.proofs.Grants.{returns_permit}
use Rattle.ept_slots.proofs.slots.Slots.give_permit.Goals as goal

pub fetch_add-requires : goal.fetch_add-requires
fetch_add-requires g c = (search rules, search rules, returns_permit _ _ _ _ _ _ _ c.requires.permit c.requires.rule)
