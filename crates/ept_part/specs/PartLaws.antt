-- What a part leaves as it is. Each statement is a clause of a function of `laws`.
use Rattle.std.specs.Prelude.{◌≡◌, ◌<◌, ℕ, true, false, List}
use Rattle.ept_base.specs.Files.{Files}
use Rattle.ept_grid.specs.Mask.{opened}
use Rattle.ept_save.specs.SoundLaws.{LeavesBuild}
use Rattle.ept_part.specs.Names.{IsPartName}
use Rattle.ept_part.specs.Files.{IsPartSound, ChangesPart}

-- a change of a part's names leaves each name of which soundness speaks
abbrev pub PartLeavesBuild : Type 0
PartLeavesBuild = (octants : ℕ) (old new : Files) → ChangesPart octants old new → LeavesBuild old new

-- two parts have no name in common if one has an octant that the other lacks
abbrev pub PartsAreApart : Type 0
PartsAreApart = (one other o : ℕ) (name : List ℕ) → o < 8 → opened one o ≡ true → opened other o ≡ false → IsPartName one name → ¬ IsPartName other name

-- the part depends on its own names alone
abbrev pub PartIsItsNames : Type 0
PartIsItsNames = (shelf old new : Files) (octants : ℕ) → ((name : List ℕ) → IsPartName octants name → new name ≡ old name) → IsPartSound shelf old octants → IsPartSound shelf new octants
