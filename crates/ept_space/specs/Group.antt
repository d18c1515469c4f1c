-- The group of a point, by which a sampling puts some points before others.
use Rattle.std.specs.Prelude.{◌≡◌, ℕ, ◌+◌, Bool, false, not, ◌&&◌, ◌==◌, if◌then◌else◌}
use Rattle.std.specs.Int.{bit_at}
use Rattle.ept_class.specs.ClassSet.{has_class, has_member}
use Rattle.ept_class.specs.NoClass.{no_class}
use Rattle.ept_space.specs.declared.cube.Rules.{Rules}
use Rattle.ept_space.specs.OctreeCube.{OctreeCube}

-- the flag of a withheld point is set
abbrev pub is_withheld : ℕ → Bool
is_withheld flags = bit_at flags 2 == 1

-- some classes come first, and this is none of them
abbrev pub comes_later : Rules → ℕ → Bool
comes_later rules class = has_member rules.first && not (has_class rules.first class)

-- 2 for a withheld point if such points come last, and 1 more for a class that comes later than others
unfoldable pub group_of : Rules → ℕ → ℕ → ℕ
group_of rules class flags =
    (if rules.withheld_last && is_withheld flags then 2 else 0) + (if comes_later rules class then 1 else 0)

-- no point comes before another except by its place
abbrev pub HaveNoGroups : Rules → Type 0
HaveNoGroups rules = (has_member rules.first ≡ false) × (rules.withheld_last ≡ false)

-- the rules of a cube and a threshold alone
abbrev pub plain_rules : OctreeCube → ℕ → Rules
plain_rules cube threshold = record { cube = cube; threshold = threshold; first = no_class; withheld_last = false }
