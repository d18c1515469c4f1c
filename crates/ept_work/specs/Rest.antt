-- Workers between two of their steps.
use Rattle.std.specs.Prelude.{◌≡◌, ◌<◌, ◌≤◌, [], None}
use Rattle.ept_sample.specs.Members.{IsMember}
use Rattle.ept_table.specs.declared.note.Told.{Told}
use Rattle.ept_table.specs.declared.note.Carried.{Carried}
use Rattle.ept_table.specs.View.{View}

-- it has a share, holds no slot and notes no draw
pub record IsIdle (v : View) : Type 0 where
  pub share : 0 < v.parts
  pub free : v.hold ≡ None
  pub undrawn : v.note.draws ≡ []

-- and no draw of it was refused, and its flights go to slots of the table
pub record IsAtRest (told : Told) (v : View) : Type 0 where
  pub idle : IsIdle v
  pub unrefused : v.refused ≡ 0
  pub within : (c : Carried) → IsMember c v.note.flights → c.slot ≤ told.most
