-- A seat between two visits.
use Rattle.std.specs.Prelude.{◌≡◌, [], None}
use Rattle.ept_table.specs.View.{View}

-- it holds nothing, carries no flight, and no draw of it was refused
pub record IsAtRest (v : View) : Type 0 where
  pub hold : v.hold ≡ None
  pub refused : v.refused ≡ 0
  pub flights : v.note.flights ≡ []
  pub draws : v.note.draws ≡ []
