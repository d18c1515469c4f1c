-- What a store gains by files that are put one after another.
use Rattle.std.specs.Prelude.{◌≡◌, ◌≢◌, ℕ, Some, List, [], ◌∷◌, All, Contains}
use Rattle.ept_base.specs.Files.{Files, changed, SameFiles}
use Rattle.ept_meta.specs.Output.{File}

-- the files with these, put one after another
abbrev pub with_files : Files → List File → Files
with_files files [] = files
with_files files (f ∷ more) = with_files (changed files f.0 (Some f.1)) more

-- these were put, one after another, and nothing else
abbrev pub PutsAll : List File → Files → Files → Type 0
PutsAll files old new = SameFiles (with_files old files) new

-- each of these files is there, and every other name reads as before
pub record Gains (gained : List File) (old new : Files) : Type 0 where
  pub are_there : All (λ (f : File). new f.0 ≡ Some f.1) gained
  pub others_stay : (name : List ℕ) → All (λ (f : File). name ≢ f.0) gained → new name ≡ old name

-- every name but these reads as before
abbrev pub SameButThese : List (List ℕ) → Files → Files → Type 0
SameButThese names old new = (name : List ℕ) → ¬ Contains names name → new name ≡ old name
