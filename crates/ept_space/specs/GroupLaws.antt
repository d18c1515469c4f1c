use Rattle.std.specs.Prelude.{◌≡◌, ℕ}
use Rattle.ept_space.specs.declared.cube.Rules.{Rules}
use Rattle.ept_space.specs.OctreeCube.{OctreeCube}
use Rattle.ept_space.specs.Group.{group_of, HaveNoGroups, plain_rules}

-- if nothing comes first or last, all points are of one group
abbrev pub AllAreOfGroupZero : Type 0
AllAreOfGroupZero = (rules : Rules) (class flags : ℕ) → HaveNoGroups rules → group_of rules class flags ≡ 0

-- the rules of a cube and a threshold alone are so
abbrev pub PlainRulesHaveNoGroups : Type 0
PlainRulesHaveNoGroups = (cube : OctreeCube) (threshold : ℕ) → HaveNoGroups (plain_rules cube threshold)
