use Rattle.std.proofs.Common.{◌<◌, ℕ, List, length, subst}
use Rattle.ept_work.proofs.Ascending.{without-one}
use Rattle.ept_work.proofs.victims.Victims.next_seen.Goals as goal

pub invariant_of-self : goal.invariant_of-self
invariant_of-self g c =
    let old = c.loop-at.self.slots.items in
    let low : c.in-Some.at < length old = subst (λ (xs : List ℕ). c.in-Some.at < length xs) c.deref.ensures.value c.in-Some.ensures.some.there in
    record { ascend = without-one old c.remove-slot.new.self.items c.in-Some.at low c.remove-slot.ensures.items c.loop-at.self.ascend }
