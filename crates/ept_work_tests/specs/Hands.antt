-- Workers between any two of their steps.
use Rattle.std.specs.Prelude.{◌≡◌, ◌+◌, ◌≤◌, ℕ, List, [], Option}
use Rattle.ept_slots.specs.Views.{whole}
use Rattle.ept_slots.specs.Seating.{view}
use Rattle.ept_table.specs.declared.note.Told.{Told}
use Rattle.ept_table.specs.declared.table.NodeTable.{NodeTable}
use Rattle.ept_table.specs.Permits.{spare_of}
use Rattle.ept_table.specs.Table.{slots_of, rules_of, IsSeat}
use Rattle.ept_work.specs.declared.worker.Worker.{Worker}
use Rattle.ept_work.specs.Worker.{seat_of, knows}
use Rattle.ept_work.specs.Rest.{IsIdle, IsAtRest}
use Rattle.ept_work.specs.Visiting.{IsVisit, IsLanding, HasRoom, HoldsWhole}
use Rattle.ept_work_tests.specs.declared.hands.Doing.{Doing}
use Rattle.ept_work_tests.specs.declared.hands.Doing.TheVariants.{Rest, Up, Down, Ended}
use Rattle.ept_work_tests.specs.declared.hands.Hand.{Hand}
use Rattle.ept_work_tests.specs.declared.hands.Pair.{Pair}

module _ {F S : Type 0} (held : F → Option (List ℕ)) (contents : S → Option (List ℕ)) (told : Told) where
  -- it carries no flight, and holds no slot
  pub record HasEnded (worker : Worker F S) : Type 0 where
    pub idle : IsIdle (knows held contents worker)
    pub landed : (knows held contents worker).note.flights ≡ []

  -- it has a permit for the node that it holds, which was not broken when it was taken
  abbrev pub HasPermit : Worker F S → Type 0
  HasPermit worker = (1 ≤ spare_of (view (seat_of worker))) × HoldsWhole (view (seat_of worker))

  -- the worker is between these steps
  abbrev pub IsAt : Worker F S → Doing F → Type 0
  IsAt worker Rest = IsAtRest told (knows held contents worker)
  IsAt worker (Up visit) = IsVisit held told (knows held contents worker) visit × HasPermit worker
  IsAt worker (Down landing) = IsLanding held told (knows held contents worker) landing × HasRoom worker landing × HasPermit worker
  IsAt worker (Ended refused) = HasEnded worker

  -- its share of the seats
  abbrev pub parts_of : Worker F S → ℕ
  parts_of worker = (knows held contents worker).parts

-- a table of which this is known
pub record IsTable {F S J : Type 0} (told : Told) (table : NodeTable F S J) : Type 0 where
  pub slots : slots_of table ≡ told.most + 1
  pub rules : rules_of table ≡ told.rules

-- a worker of the table, at some step
pub record IsHand {F S J : Type 0} (held : F → Option (List ℕ)) (contents : S → Option (List ℕ)) (told : Told) (table : NodeTable F S J) (hand : Hand F S) : Type 0 where
  pub seat : IsSeat told table (seat_of hand.worker)
  pub at : IsAt held contents told hand.worker hand.doing

-- two workers, which have all shares together
pub record IsPair {F S J : Type 0} (held : F → Option (List ℕ)) (contents : S → Option (List ℕ)) (told : Told) (table : NodeTable F S J) (pair : Pair F S) : Type 0 where
  pub first : IsHand held contents told table pair.first
  pub second : IsHand held contents told table pair.second
  pub shares : parts_of held contents told pair.first.worker + parts_of held contents told pair.second.worker ≡ whole
