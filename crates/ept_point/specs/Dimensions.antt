-- The dimensions of a point (LAS 1.4 R15, and where the point came from), in the order of its packed form.
use Rattle.std.specs.Prelude.{ℕ, ℤ, ◌+◌, ◌-◌, ◌*◌, ◌^◌, ◌<◌, ◌≤◌, List, [], ◌∷◌, codes, Option, Some, None, IfSome, FitsSigned, take, drop, if◌then◌else◌, ◌==◌}
use Rattle.std.specs.Int.{Width, w8, w16, w32, w64}
use Rattle.std.specs.List.{sum_by}

-- how the bytes of a dimension are read
pub data Kind : Type 0 where
  Signed Unsigned Float : Kind

-- a dimension: its name, how its bytes are read, how many bytes it takes, and a greatest value. That is given only if
-- it is less than the bytes hold.
pub record Dimension : Type 0 where
  pub name : List ℕ
  pub kind : Kind
  pub width : ℕ
  pub greatest : Option ℕ

-- a dimension with each value that its bytes hold
abbrev pub whole : List ℕ → Kind → ℕ → Dimension
whole name kind width = record { name = name; kind = kind; width = width; greatest = None }

-- a number of one byte up to the greatest value
abbrev pub bounded : List ℕ → ℕ → Dimension
bounded name greatest = record { name = name; kind = Unsigned; width = 1; greatest = Some greatest }

-- ---- the table

abbrev pub X : Dimension
X = whole (codes "X") Signed 4

abbrev pub Y : Dimension
Y = whole (codes "Y") Signed 4

abbrev pub Z : Dimension
Z = whole (codes "Z") Signed 4

abbrev pub Intensity : Dimension
Intensity = whole (codes "Intensity") Unsigned 2

abbrev pub ReturnNumber : Dimension
ReturnNumber = bounded (codes "ReturnNumber") 15

abbrev pub NumberOfReturns : Dimension
NumberOfReturns = bounded (codes "NumberOfReturns") 15

abbrev pub ScanDirectionFlag : Dimension
ScanDirectionFlag = bounded (codes "ScanDirectionFlag") 1

abbrev pub EdgeOfFlightLine : Dimension
EdgeOfFlightLine = bounded (codes "EdgeOfFlightLine") 1

abbrev pub Classification : Dimension
Classification = whole (codes "Classification") Unsigned 1

abbrev pub ClassFlags : Dimension
ClassFlags = bounded (codes "ClassFlags") 15

abbrev pub ScanChannel : Dimension
ScanChannel = bounded (codes "ScanChannel") 3

abbrev pub ScanAngleRank : Dimension
ScanAngleRank = whole (codes "ScanAngleRank") Signed 1

abbrev pub ScanAngle : Dimension
ScanAngle = whole (codes "ScanAngle") Signed 2

abbrev pub UserData : Dimension
UserData = whole (codes "UserData") Unsigned 1

abbrev pub PointSourceId : Dimension
PointSourceId = whole (codes "PointSourceId") Unsigned 2

abbrev pub GpsTime : Dimension
GpsTime = whole (codes "GpsTime") Float 8

abbrev pub Red : Dimension
Red = whole (codes "Red") Unsigned 2

abbrev pub Green : Dimension
Green = whole (codes "Green") Unsigned 2

abbrev pub Blue : Dimension
Blue = whole (codes "Blue") Unsigned 2

-- the place of the scan in the list of scans
abbrev pub OriginId : Dimension
OriginId = whole (codes "OriginId") Unsigned 4

-- the number of the record in its scan
abbrev pub PointId : Dimension
PointId = whole (codes "PointId") Unsigned 8

-- the same number as it is in the old layout
abbrev pub OldPointId : Dimension
OldPointId = whole (codes "PointId") Unsigned 4

-- the rows in order
abbrev pub dimensions : List Dimension
dimensions =
    X ∷ Y ∷ Z ∷ Intensity ∷ ReturnNumber ∷ NumberOfReturns ∷ ScanDirectionFlag ∷ EdgeOfFlightLine
    ∷ Classification ∷ ClassFlags ∷ ScanChannel ∷ ScanAngleRank ∷ ScanAngle ∷ UserData ∷ PointSourceId
    ∷ GpsTime ∷ Red ∷ Green ∷ Blue ∷ OriginId ∷ PointId ∷ []

-- ---- what a row says

-- how many bytes all dimensions take
abbrev pub packed_width : ℕ
packed_width = sum_by (λ dimension. dimension.width) dimensions

-- and how many in the old layout
abbrev pub old_width : ℕ
old_width = packed_width - PointId.width + OldPointId.width

-- a number fits the bytes of a dimension, and a signed one
abbrev pub Fits : Dimension → ℕ → Type 0
Fits dimension n = n < 2 ^ (8 * dimension.width)

abbrev pub word : Dimension → Width
word dimension =
    if dimension.width == 1
    then w8
    else (if dimension.width == 2
    then w16
    else (if dimension.width == 4
    then w32
    else w64))

abbrev pub FitsInSigned : Dimension → ℤ → Type 0
FitsInSigned dimension z = FitsSigned (word dimension) z

-- a number is at most the greatest value of a dimension, if it has one
abbrev pub IsWithin : Dimension → ℕ → Type 0
IsWithin dimension n = IfSome dimension.greatest (λ greatest. n ≤ greatest)

-- each dimension with its piece of some bytes, which is as wide as the dimension. The first piece starts at this place,
-- each later one after the one before it.
abbrev pub pieces : ℕ → List Dimension → List ℕ → List (Dimension × List ℕ)
pieces at [] bytes = []
pieces at (dimension ∷ later) bytes =
    (dimension, take dimension.width (drop at bytes)) ∷ pieces (at + dimension.width) later bytes
