-- The paths of names in folders.
use Rattle.std.specs.Prelude.{ℕ, List, [], ◌∷◌, ◌++◌, codes}
use Rattle.std.specs.Path.{slash}

-- the path of a name in a folder, with a slash between them
abbrev pub joined : List ℕ → List ℕ → List ℕ
joined folder name = folder ++ slash ∷ name

-- the path of a folder; an empty one is that of the folder in which the program runs, `.`
abbrev pub folder_path : List ℕ → List ℕ
folder_path [] = codes "."
folder_path (byte ∷ bytes) = byte ∷ bytes
