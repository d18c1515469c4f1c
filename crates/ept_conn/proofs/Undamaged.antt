-- If a plan or a tile is there, nothing that it needs is damaged.
use Rattle.std.proofs.Common.{ℕ, List, Option, Some, refl, subst}
use Rattle.ept_base.specs.Files.{Files}
use Rattle.ept_point.specs.declared.point.Point.{Point}
use Rattle.ept_point.specs.Packed.{tile}
use Rattle.ept_space.specs.declared.box3.Box3.{Box3}
use Rattle.ept_hier.specs.Hierarchy.{Node}
use Rattle.ept_http.specs.declared.asked.Asked.{Asked}
use Rattle.ept_save.specs.Done.{IsDone}
use Rattle.ept_query.specs.declared.query_error.QueryFile.{QueryFile}
use Rattle.ept_query.specs.declared.query_error.QueryFile.TheVariants.{BuildJson, Hierarchy, Tile}
use Rattle.ept_query.specs.Damage.{HasNoBuild, HasTile, HasNoTile, IsFirstDamaged}
use Rattle.ept_query.specs.Planning.{IsPlanFor}
use Rattle.ept_query.specs.Parts.{Plan, IsPartOf}
use Rattle.ept_conn.specs.Wanted.{Wanted, Wants}
use Rattle.ept_conn.specs.Works.{IsDamagedOf, IsDamagedFor}

first-of : (P Q : Type 0) → P × Q → P
first-of P Q both = both.0

second-of : (P Q : Type 0) → P × Q → Q
second-of P Q both = both.1

-- the points of an area, in the nodes of depths
abbrev of_area : Box3 → ℕ → ℕ → Option Wanted
of_area area first second = Some (record { area = area; first = first; second = second })

plan-sound : (files : Files) (area : Box3) (first second : ℕ) (plan : Plan) → IsPlanFor area first second plan files → (found : QueryFile) → ¬ IsDamagedOf (of_area area first second) found files
plan-sound files area first second plan has BuildJson damaged =
    second-of (IsDone files) (HasNoBuild files) damaged has.build.0 has.build.1
plan-sound files area first second plan has (Hierarchy key) damaged =
    let is = (second-of (IsDone files) (IsFirstDamaged area first second (Hierarchy key) files) damaged).1 has.build.0 has.build.1 in
    let there = has.each has.build.0 has.build.1 key is.needed in
    is.damaged there.0 there.1
plan-sound files area first second plan has (Tile key) damaged = damaged

pub plan-undamaged : (files : Files) (area : Box3) (first second : ℕ) (plan : Plan) (a : Asked) → Wants a area first second → IsPlanFor area first second plan files → (found : QueryFile) → ¬ IsDamagedFor a found files
plan-undamaged files area first second plan a is has found damaged =
    plan-sound files area first second plan has found (subst (λ (w : Option Wanted). IsDamagedOf w found files) is damaged)

not-done : (files : Files) (area : Box3) (first second : ℕ) → ¬ IsDone files → (found : QueryFile) → ¬ IsDamagedOf (of_area area first second) found files
not-done files area first second none BuildJson damaged = none (first-of (IsDone files) (HasNoBuild files) damaged)
not-done files area first second none (Hierarchy key) damaged =
    none (first-of (IsDone files) (IsFirstDamaged area first second (Hierarchy key) files) damaged)
not-done files area first second none (Tile key) damaged = damaged

pub shut-undamaged : (files : Files) (area : Box3) (first second : ℕ) (a : Asked) → Wants a area first second → ¬ IsDone files → (found : QueryFile) → ¬ IsDamagedFor a found files
shut-undamaged files area first second a is none found damaged =
    not-done files area first second none found (subst (λ (w : Option Wanted). IsDamagedOf w found files) is damaged)

pub part-tile : (files : Files) (area : Box3) (node : Node) (bytes : List ℕ) (count : ℕ) → IsPartOf area node bytes count (Some files) → (points : List Point) × HasTile files node.0 node.1 points
part-tile files area node bytes count part = (
  part.points,
  record {
    bytes = tile part.points;
    there = part.there;
    form = record { packed = refl; ascend = part.ascend; counted = part.counted };
  },
)

pub part-has-tile : (files : Files) (area : Box3) (node : Node) (bytes : List ℕ) (count : ℕ) → IsPartOf area node bytes count (Some files) → ¬ HasNoTile files node.0 node.1
part-has-tile files area node bytes count part none =
    let found = part-tile files area node bytes count part in
    none found.0 found.1
