-- A fuse: how many more calls are passed, if there is such a limit.
use Rattle.std.specs.Prelude.{ℕ, ◌-◌, Option, Some, None}

-- the fuse after one more call
abbrev pub one_less : Option ℕ → Option ℕ
one_less None = None
one_less (Some left) = Some (left - 1)
