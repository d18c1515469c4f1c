use Rattle.std.proofs.Common.{map}
use Rattle.ept_table.specs.Item.{seen}
use Rattle.ept_residency.specs.Showing.{in_memory}
use Rattle.ept_residency.proofs.Shown.{shows-places, slots-evict, slots-reload}
use Rattle.ept_residency.proofs.laws.show_law.Goals as goal

pub returns-clause-shows : goal.returns-clause-shows
returns-clause-shows g c = λ held whole told drawn reader slots views holds first tells. shows-places told drawn (map (seen held whole) slots) views holds reader (in_memory slots) first tells

pub returns-clause-evicts : goal.returns-clause-evicts
returns-clause-evicts g c =
    λ held whole told drawn reader slots views s k old new tells holds shows moved was is. slots-evict held whole told slots k old new tells moved drawn reader views s holds shows was is

pub returns-clause-reloads : goal.returns-clause-reloads
returns-clause-reloads g c =
    λ held whole told drawn reader slots views s k old new tells holds shows moved was is. slots-reload held whole told slots k old new tells moved drawn reader views s holds shows was is
