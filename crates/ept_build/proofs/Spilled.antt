-- How many nodes a build keeps in spill files.
use Rattle.std.proofs.Common.{◌≡◌, ℕ, ◌+◌, ◌≤◌, arith}
use Rattle.ept_base.specs.Devices.{counts_on}
use Rattle.ept_forest.specs.Slots.{told}
use Rattle.ept_build.specs.Building.{HasKeptBut}

-- what the files were asked to keep, the room that took them back counts
pub kept-but : (cache nodes kept old new : ℕ) → nodes ≤ cache + kept → told new ≡ counts_on old kept → HasKeptBut cache nodes old new
kept-but cache nodes kept old new few same = omega (arith, few, same)
