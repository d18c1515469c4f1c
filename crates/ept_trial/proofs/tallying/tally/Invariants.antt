use Rattle.std.proofs.Common.{◌≡◌, ◌%◌, ◌^◌, take}
use Rattle.std.specs.Prelude.{map, sum_by}
use Rattle.std.specs.List.{flat_map}
use Rattle.ept_hier.specs.Hierarchy.{keys_of}
use Rattle.ept_mem_infallible.specs.Objects.{store_files_of}
use Rattle.ept_trial.specs.Trials.{greatest}
use Rattle.ept_trial.specs.Results.{bytes_at}
use Rattle.ept_trial.proofs.tallying.tally.Given as goal

abbrev pub invariant-loop-number : goal.invariant-loop-number
invariant-loop-number l =
    (l.depth ≡ greatest (map (λ key. key.depth) (take l.number (keys_of l.plan.tiles))))
    × (l.sum ≡ sum_by (λ byte. byte) (flat_map (bytes_at (store_files_of l.store)) (take l.number (keys_of l.plan.tiles))) % 2 ^ 64)
