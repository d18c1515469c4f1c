-- The three texts of a selection: its classes, its time and its dimensions.
use Rattle.std.specs.Prelude.{◌≡◌, ◌≢◌, ◌⊎◌, ℕ, suc, ◌<◌, ◌≤◌, ◌==◌, ⊤, List, [], ◌∷◌, length, map, slice_index, decimal, codes, Option, Some, None}
use Rattle.std.specs.List.{AllByRecursion, list_any}
use Rattle.hex.specs.Hex.{encode_lower}
use Rattle.ept_point.specs.Dimensions.{GpsTime}
use Rattle.ept_class.specs.declared.class_set.ClassSet.{ClassSet}
use Rattle.ept_class.specs.ClassSet.{has_class}
use Rattle.ept_filter.specs.declared.sift.Sift.{Sift}
use Rattle.ept_filter.specs.Words.{words}
use Rattle.ept_filter.specs.Dims.{count_of_dims, all_dims, name_of}
use Rattle.ept_filter.specs.Asked.{asked_rows}

-- ---- classes

-- numbers ascend: the first is not below the least, and each later number is above the one before it
abbrev pub AscendFrom : ℕ → List ℕ → Type 0
AscendFrom least [] = ⊤
AscendFrom least (n ∷ later) = (least ≤ n) × AscendFrom (suc n) later

-- the words between the commas of a text are classes, which ascend
pub record IsClassList (text classes : List ℕ) : Type 0 where
  pub spelled : words text ≡ map decimal classes
  pub ascend : AscendFrom 0 classes
  pub bytes : AllByRecursion (λ class. class < 256) classes

-- the classes are the members of a set
abbrev pub HasMembers : ClassSet → List ℕ → Type 0
HasMembers set classes = (class : ℕ) → has_class set class ≡ list_any (λ member. class == member) classes

-- a text asks for any class, or for those of a set
abbrev pub IsClassesText : List ℕ → Option ClassSet → Type 0
IsClassesText text None = text ≡ codes "-"
IsClassesText text (Some set) = (classes : List ℕ) × IsClassList text classes × HasMembers set classes

-- a word is a class that is not below the least
abbrev pub IsClassWord : List ℕ → ℕ → ℕ → Type 0
IsClassWord word least class = (word ≡ decimal class) × (least ≤ class) × (class < 256)

-- ---- the time

-- two digits for each byte, in lower case
pub record IsTimeDigits (text time : List ℕ) : Type 0 where
  pub spelled : text ≡ encode_lower time
  pub len : length time ≡ GpsTime.width
  pub bytes : (i : ℕ) → slice_index time i < 256

-- a text asks for any time, or for one time
abbrev pub IsTimeText : List ℕ → Option (List ℕ) → Type 0
IsTimeText text None = text ≡ codes "-"
IsTimeText text (Some time) = IsTimeDigits text time

-- ---- dimensions

-- the words between the commas of a text are names of dimensions, which differ
pub record IsDimList (text dims : List ℕ) : Type 0 where
  pub spelled : words text ≡ map name_of dims
  pub inside : (i : ℕ) → i < length dims → slice_index dims i < count_of_dims
  pub differ : (i k : ℕ) → i < k → k < length dims → slice_index dims i ≢ slice_index dims k

-- a text asks for all dimensions, or for those that it lists
abbrev pub IsDimsText : List ℕ → List ℕ → Type 0
IsDimsText text dims = ((text ≡ codes "-") × (dims ≡ all_dims)) ⊎ IsDimList text dims

-- ---- all three

pub record IsSiftText (classes time dims : List ℕ) (sift : Sift) : Type 0 where
  pub classes_are : IsClassesText classes sift.classes
  pub time_is : IsTimeText time sift.time
  pub dims_are : IsDimsText dims (asked_rows sift.dims)
