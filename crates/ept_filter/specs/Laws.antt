-- What holds for every selection. Each statement is a clause of a function of `laws`.
use Rattle.std.specs.Prelude.{◌≡◌, ℕ, ◌⊎◌, List, filter, map}
use Rattle.std.specs.List.{flat_map}
use Rattle.ept_point.specs.declared.point.Point.{Point}
use Rattle.ept_point.specs.Packed.{tile, packed}
use Rattle.ept_filter.specs.declared.sift.Sift.{Sift}
use Rattle.ept_filter.specs.SiftText.{IsSiftText}
use Rattle.ept_filter.specs.Sifting.{passes, cut, selected, sifted}

-- the packed points of a tile that pass are those of its points that pass
abbrev pub SelectsPoints : Type 0
SelectsPoints =
    (sift : Sift) (points : List Point) → selected sift (tile points) ≡ map packed (filter (passes sift) points)

-- and what is kept of them is what is kept of these points, in order
abbrev pub SiftsPoints : Type 0
SiftsPoints =
    (sift : Sift) (points : List Point) → sifted sift (tile points) ≡ flat_map (cut sift) (filter (passes sift) points)

-- three texts ask for at most one selection
abbrev pub TextsHaveOneSift : Type 0
TextsHaveOneSift =
    (classes time dims : List ℕ) (a b : Sift) → IsSiftText classes time dims a → IsSiftText classes time dims b → a ≡ b

-- it is decided for any three texts whether they ask for a selection
abbrev pub TextsAskOrNot : Type 0
TextsAskOrNot =
    (classes time dims : List ℕ) → ((sift : Sift) × IsSiftText classes time dims sift) ⊎ ((sift : Sift) → ¬ IsSiftText classes time dims sift)
