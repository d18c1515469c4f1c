-- What the words of a command line ask for.
use Rattle.std.specs.Prelude.{◌≡◌, ◌≢◌, ◌≤◌, ℕ, List, [], ◌∷◌, Some, String, length, map, replicate, take, string_bytes, codes, decimal}
use Rattle.std.specs.List.{AllZip}
use Rattle.std.specs.declared.alloc.Global.{Global}
use Rattle.ept_space.specs.declared.box3.Box3.{Box3}
use Rattle.ept_http.specs.QueryWords.{IsBoxText, IsDepthsText}
use Rattle.ept_filter.specs.declared.sift.Sift.{Sift}
use Rattle.ept_class.specs.declared.class_set.ClassSet.{ClassSet}
use Rattle.ept_filter.specs.SiftText.{IsSiftText, IsClassesText}
use Rattle.ept_merge.specs.Merging.{AreAllParts}
use Rattle.ept_command.specs.declared.parts.Parts.{Parts}
use Rattle.ept_command.specs.declared.words.Command.{Command}
use Rattle.ept_command.specs.declared.words.Command.TheVariants.{Build, Part, Merge, Info, Query, Select, Check, Trial, Usage}

-- words as lists of bytes
abbrev pub bytes_of : List (String Global) → List (List ℕ)
bytes_of words = map string_bytes words

-- `build`, the path of a configuration and the path of a folder
pub record IsBuild (words : List (List ℕ)) (config out : List ℕ) : Type 0 where
  pub words_are : words ≡ codes "build" ∷ config ∷ out ∷ []
  pub config_is : config ≢ []
  pub out_is : out ≢ []

-- Octants are written as the classes of a selection are: numbers that ascend, with commas between them. All are below
-- 8, and the mask has a bit for each.
pub record IsOctantsText (text : List ℕ) (octants : ℕ) : Type 0 where
  pub numbers : ClassSet
  pub text_is : IsClassesText text (Some numbers)
  pub below_8 : numbers.bytes ≡ octants ∷ replicate 31 0
  pub some : octants ≢ 0

-- a text of classes is one of a selection, at any time and with all dimensions
abbrev pub ClassesAreSelected : Type 0
ClassesAreSelected = (text : List ℕ) (numbers : ClassSet) → IsClassesText text (Some numbers) → (sift : Sift) × IsSiftText text (codes "-") (codes "-") sift

-- `part`, the words of a build, and octants of the root
pub record IsPart (words : List (List ℕ)) (config out : List ℕ) (octants : ℕ) : Type 0 where
  pub text : List ℕ
  pub words_are : words ≡ codes "part" ∷ config ∷ out ∷ text ∷ []
  pub config_is : config ≢ []
  pub out_is : out ≢ []
  pub octants_are : IsOctantsText text octants

-- the octants of each part, in order
abbrev pub masks_in : Parts → List ℕ
masks_in parts = take parts.len parts.masks

-- The words list octants, each word those of a part, and each octant is in exactly one of the parts. So there are at
-- most eight.
pub record ArePartsTexts (texts : List (List ℕ)) (parts : List ℕ) : Type 0 where
  pub few : length texts ≤ 8
  pub octants_are : AllZip IsOctantsText texts parts
  pub all : AreAllParts parts

-- `merge`, the words of a build, and those of all parts
pub record IsMerge (words : List (List ℕ)) (config out parts : List ℕ) : Type 0 where
  pub texts : List (List ℕ)
  pub words_are : words ≡ codes "merge" ∷ config ∷ out ∷ texts
  pub config_is : config ≢ []
  pub out_is : out ≢ []
  pub parts_are : ArePartsTexts texts parts

-- the first word is another one
abbrev pub NoMerge : List (List ℕ) → Type 0
NoMerge words = (rest : List (List ℕ)) → words ≢ codes "merge" ∷ rest

-- `info` and the path of a LAS file
pub record IsInfo (words : List (List ℕ)) (las : List ℕ) : Type 0 where
  pub words_are : words ≡ codes "info" ∷ las ∷ []
  pub las_is : las ≢ []

-- `query`, the path of a folder, the text of a box and that of depths
pub record IsQuery (words : List (List ℕ)) (out : List ℕ) (area : Box3) (first last : ℕ) : Type 0 where
  pub box : List ℕ
  pub depths : List ℕ
  pub words_are : words ≡ codes "query" ∷ out ∷ box ∷ depths ∷ []
  pub out_is : out ≢ []
  pub area_is : IsBoxText box area
  pub depths_are : IsDepthsText depths first last

-- `select`, the words of a query, and the three texts of a selection
pub record IsSelect (words : List (List ℕ)) (out : List ℕ) (area : Box3) (first last : ℕ) (sift : Sift) : Type 0 where
  pub box : List ℕ
  pub depths : List ℕ
  pub classes : List ℕ
  pub time : List ℕ
  pub dims : List ℕ
  pub words_are : words ≡ codes "select" ∷ out ∷ box ∷ depths ∷ classes ∷ time ∷ dims ∷ []
  pub out_is : out ≢ []
  pub area_is : IsBoxText box area
  pub depths_are : IsDepthsText depths first last
  pub sift_is : IsSiftText classes time dims sift

-- `check` and the path of a folder
pub record IsCheck (words : List (List ℕ)) (out : List ℕ) : Type 0 where
  pub words_are : words ≡ codes "check" ∷ out ∷ []
  pub out_is : out ≢ []

-- `trial` and three numbers, each in its one spelling. The first is of points, at most 10,000,000. The second is of
-- workers, from 1 to 64. The third is of nodes in memory at a time, from the number of workers to 65,536.
pub record IsTrial (words : List (List ℕ)) (count workers cache : ℕ) : Type 0 where
  pub words_are : words ≡ codes "trial" ∷ decimal count ∷ decimal workers ∷ decimal cache ∷ []
  pub few : count ≤ 10000000
  pub some : 1 ≤ workers
  pub threads : workers ≤ 64
  pub room : workers ≤ cache
  pub bounded : cache ≤ 65536

-- the words are none of these
pub record IsUsage (words : List (List ℕ)) : Type 0 where
  pub not_build : (config out : List ℕ) → ¬ IsBuild words config out
  pub not_part : (config out : List ℕ) (octants : ℕ) → ¬ IsPart words config out octants
  pub not_merge : (config out parts : List ℕ) → ¬ IsMerge words config out parts
  pub not_info : (las : List ℕ) → ¬ IsInfo words las
  pub not_query : (out : List ℕ) (area : Box3) (first last : ℕ) → ¬ IsQuery words out area first last
  pub not_select : (out : List ℕ) (area : Box3) (first last : ℕ) (sift : Sift) → ¬ IsSelect words out area first last sift
  pub not_check : (out : List ℕ) → ¬ IsCheck words out
  pub not_trial : (count workers cache : ℕ) → ¬ IsTrial words count workers cache

-- the command that the words are
abbrev pub IsCommand : List (List ℕ) → Command → Type 0
IsCommand words (Build config out) = IsBuild words config.now out.now
IsCommand words (Part config out octants) = IsPart words config.now out.now octants
IsCommand words (Merge config out parts) = IsMerge words config.now out.now (masks_in parts)
IsCommand words (Info las) = IsInfo words las.now
IsCommand words (Query out area depths) = IsQuery words out.now area depths.0 depths.1
IsCommand words (Select out area depths sift) = IsSelect words out.now area depths.0 depths.1 sift
IsCommand words (Check out) = IsCheck words out.now
IsCommand words (Trial points workers cache) = IsTrial words points workers cache
IsCommand words Usage = IsUsage words
