-- What the target of a request names.
use Rattle.std.specs.Prelude.{◌≡◌, ◌⊎◌, ℕ, List, ◌++◌, codes}
use Rattle.ept_space.specs.declared.box3.Box3.{Box3}
use Rattle.ept_space.specs.VoxelKey.{VoxelKey, IsKey}
use Rattle.ept_space.specs.KeyText.{key_text}
use Rattle.ept_filter.specs.declared.sift.Sift.{Sift}
use Rattle.ept_filter.specs.SiftText.{IsSiftText}
use Rattle.ept_http.specs.declared.asked.Asked.{Asked}
use Rattle.ept_http.specs.declared.asked.Asked.TheVariants.{File, Query, Select, Refuse}
use Rattle.ept_http.specs.QueryWords.{IsBoxText, IsDepthsText}

-- one of the three texts of a dataset
abbrev pub IsTextName : List ℕ → Type 0
IsTextName name =
    (name ≡ codes "ept.json") ⊎ ((name ≡ codes "ept-build.json") ⊎ (name ≡ codes "ept-sources/manifest.json"))

-- the tile of a key
abbrev pub IsTileName : List ℕ → Type 0
IsTileName name = (key : VoxelKey) × IsKey key × (name ≡ codes "ept-data/" ++ (key_text key ++ codes ".bin"))

-- the hierarchy file of a key
abbrev pub IsHierarchyName : List ℕ → Type 0
IsHierarchyName name =
    (key : VoxelKey) × IsKey key × (name ≡ codes "ept-hierarchy/" ++ (key_text key ++ codes ".json"))

-- the name of a file that is served
abbrev pub IsServedName : List ℕ → Type 0
IsServedName name = IsTextName name ⊎ (IsTileName name ⊎ IsHierarchyName name)

-- the target of a query: the texts of its box and of its depths
pub record IsQueryTarget (target : List ℕ) (area : Box3) (first last : ℕ) : Type 0 where
  pub box : List ℕ
  pub depths : List ℕ
  pub spelled : target ≡ codes "/query?box=" ++ (box ++ (codes "&depths=" ++ depths))
  pub is_box : IsBoxText box area
  pub are_depths : IsDepthsText depths first last

-- the words of a selection: the texts of its classes, of its time and of its dimensions
pub record AreSiftWords (words : List ℕ) (sift : Sift) : Type 0 where
  pub classes : List ℕ
  pub time : List ℕ
  pub dims : List ℕ
  pub spelled : words ≡ classes ++ (codes "&time=" ++ (time ++ (codes "&dims=" ++ dims)))
  pub are : IsSiftText classes time dims sift

-- the target of a selection: the texts of its box and of its depths, and its words
pub record IsSelectTarget (target : List ℕ) (area : Box3) (first last : ℕ) (sift : Sift) : Type 0 where
  pub box : List ℕ
  pub depths : List ℕ
  pub words : List ℕ
  pub spelled : target ≡ codes "/select?box=" ++ (box ++ (codes "&depths=" ++ (depths ++ (codes "&classes=" ++ words))))
  pub is_box : IsBoxText box area
  pub are_depths : IsDepthsText depths first last
  pub are_words : AreSiftWords words sift

-- a target names a file by a slash and the file's name, or a query, or a selection
abbrev pub Names : List ℕ → Asked → Type 0
Names target (File name) = (target ≡ codes "/" ++ name) × IsServedName name
Names target (Query area first last) = IsQueryTarget target area first last
Names target (Select area first last sift) = IsSelectTarget target area first last sift
Names target (Refuse status) = ⊥

-- what a target asks for: what it names, or status 404 if it names nothing
abbrev pub AsksFor : List ℕ → Asked → Type 0
AsksFor target (File name) = Names target (File name)
AsksFor target (Query area first last) = Names target (Query area first last)
AsksFor target (Select area first last sift) = Names target (Select area first last sift)
AsksFor target (Refuse status) = (status ≡ 404) × ((asked : Asked) → ¬ Names target asked)
