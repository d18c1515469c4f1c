-- Which calls of an object fail. Its calls are numbered from 0, and each object is given the numbers of those that are
-- to fail. A store may also have a fuse.
use Rattle.std.specs.Prelude.{◌≡◌, ◌⊎◌, Some, Contains}
use Rattle.ept_base.specs.Devices.{counts_on}
use Rattle.ept_mem.specs.Fuse.{one_less}
use Rattle.ept_mem.specs.declared.plan.Plan.{Plan}
use Rattle.ept_mem.specs.declared.plan.FusedPlan.{FusedPlan}

-- the next call is to fail
abbrev pub IsToFail : Plan → Type 0
IsToFail plan = Contains plan.fails.items plan.calls

-- the same calls are to fail
abbrev pub SameList : Plan → Plan → Type 0
SameList old new = new.fails.items ≡ old.fails.items

-- one more call was counted, and the same calls are to fail
abbrev pub IsOneCallMore : Plan → Plan → Type 0
IsOneCallMore old new = (new.calls ≡ counts_on old.calls 1) × SameList old new

-- no call was counted, and the same calls are to fail
abbrev pub IsNoCall : Plan → Plan → Type 0
IsNoCall old new = (new.calls ≡ old.calls) × SameList old new

-- the same with a fuse: the next call is listed, or the fuse passes no more calls
abbrev pub IsFusedToFail : FusedPlan → Type 0
IsFusedToFail plan = IsToFail plan.plan ⊎ (plan.fuse ≡ Some 0)

-- one more call was counted, the same calls are to fail, and the fuse passes one call fewer
abbrev pub IsOneFusedCallMore : FusedPlan → FusedPlan → Type 0
IsOneFusedCallMore old new = IsOneCallMore old.plan new.plan × (new.fuse ≡ one_less old.fuse)
