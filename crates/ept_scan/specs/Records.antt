-- Records that are read one after the other.
use Rattle.std.specs.Prelude.{◌≡◌, ℕ, ◌+◌, ◌<◌, ◌≤◌, List, Option, Some, None, length, take, drop, ⊤}
use Rattle.ept_point.specs.declared.point.Point.{Point}
use Rattle.ept_las.specs.declared.header.Header.{Header}
use Rattle.ept_las.specs.declared.place.Place.{Place}
use Rattle.ept_las.specs.PointRecord.{IsPointOf, LiesAt}
use Rattle.ept_scan.specs.declared.reading.Reading.{Reading}
use Rattle.ept_scan.specs.declared.record.Found.{Found}
use Rattle.ept_scan.specs.declared.record.Found.TheVariants as found
use Rattle.ept_scan.specs.Extents.{IsAllowed}
use Rattle.ept_scan.specs.LasFile.{IsOutside}

-- what the bytes of record n were found to be
abbrev pub BytesAre : Reading → ℕ → ℕ → List ℕ → Found Point → Type 0
BytesAre reading format n bytes (found.At p) = IsPointOf format reading.shift reading.origin n bytes p
BytesAre reading format n bytes found.Outside = IsOutside reading format n bytes
BytesAre reading format n bytes found.Early = ⊥

-- a point that was found lies where points may lie
abbrev pub FindsAllowed : Reading → Found Point → Type 0
FindsAllowed reading (found.At p) = IsAllowed reading.limits p
FindsAllowed reading found.Outside = ⊤
FindsAllowed reading found.Early = ⊤

-- a point that was found carries the place of its file and its number
abbrev pub FindsNumbered : Reading → ℕ → Found Point → Type 0
FindsNumbered reading n (found.At p) = (p.origin ≡ reading.origin) × (p.number ≡ n)
FindsNumbered reading n found.Outside = ⊤
FindsNumbered reading n found.Early = ⊤

-- the bytes of one record were taken, and this was found in them
pub record Takes (reading : Reading) (header : Header) (n : ℕ) (ahead : List ℕ)
    (new : Option (List ℕ)) (it : Found Point) : Type 0 where
  pub whole : header.length ≤ length ahead
  pub rest : new ≡ Some (drop header.length ahead)
  pub bytes : BytesAre reading header.format n (take header.length ahead) it

-- what reading the next record found in the bytes ahead, if they are known
abbrev pub ReadsNext : Reading → Header → ℕ → Option (List ℕ) → Option (List ℕ) → Found Point → Type 0
ReadsNext reading header n None new it = ⊤
ReadsNext reading header n (Some ahead) new found.Early = length ahead < header.length
ReadsNext reading header n (Some ahead) new found.Outside = Takes reading header n ahead new found.Outside
ReadsNext reading header n (Some ahead) new (found.At p) = Takes reading header n ahead new (found.At p)

-- What the place of the bytes of record n was found to be: that of their point, which lies where points may lie.
abbrev pub PlaceIs : Reading → ℕ → ℕ → List ℕ → Found Place → Type 0
PlaceIs reading format n bytes (found.At place) = (p : Point) × LiesAt place p
    × IsAllowed reading.limits p × IsPointOf format reading.shift reading.origin n bytes p
PlaceIs reading format n bytes found.Outside = IsOutside reading format n bytes
PlaceIs reading format n bytes found.Early = ⊥

-- what reading the place of the next record found: the place of the point that the whole record would have
abbrev pub FindsPlace : Reading → Header → ℕ → Option (List ℕ) → Option (List ℕ) → Found Place → Type 0
FindsPlace reading header n ahead new (found.At place) = (p : Point) × LiesAt place p
    × IsAllowed reading.limits p × ReadsNext reading header n ahead new (found.At p)
FindsPlace reading header n ahead new found.Outside = ReadsNext reading header n ahead new found.Outside
FindsPlace reading header n ahead new found.Early = ReadsNext reading header n ahead new found.Early

-- at most the bytes that may be read are held, less those of a record that was taken
abbrev pub IsWithinReach : {T : Type 0} → ℕ → ℕ → ℕ → Found T → Type 0
IsWithinReach size held most (found.At it) = held + size ≤ most
IsWithinReach size held most found.Outside = held ≤ most
IsWithinReach size held most found.Early = held ≤ most
