-- The points of a dataset that a turn asks for.
use Rattle.std.specs.Prelude.{◌≡◌, ℕ, List, Option, Some, None}
use Rattle.ept_filter.specs.Sifting.{sifted}
use Rattle.ept_space.specs.declared.box3.Box3.{Box3}
use Rattle.ept_http.specs.declared.asked.Asked.{Asked}
use Rattle.ept_http.specs.declared.asked.Asked.TheVariants.{File, Query, Select, Refuse}

-- the points of an area, in the nodes of a range of depths
pub record Wanted : Type 0 where
  pub area : Box3
  pub first : ℕ
  pub second : ℕ

-- only a query and a selection ask for points
abbrev pub wanted : Asked → Option Wanted
wanted (File name) = None
wanted (Query area first second) = Some (record { area = area; first = first; second = second })
wanted (Select area first second sift) = Some (record { area = area; first = first; second = second })
wanted (Refuse status) = None

-- a request asks for these points
abbrev pub Wants : Asked → Box3 → ℕ → ℕ → Type 0
Wants asked area first second =
    let points : Wanted = record { area = area; first = first; second = second } in wanted asked ≡ Some points

-- what a request keeps of packed points: a selection keeps the dimensions asked for of the points that pass; any other
-- request keeps all
abbrev pub kept_of : Asked → List ℕ → List ℕ
kept_of (File name) bytes = bytes
kept_of (Query area first second) bytes = bytes
kept_of (Select area first second sift) bytes = sifted sift bytes
kept_of (Refuse status) bytes = bytes
