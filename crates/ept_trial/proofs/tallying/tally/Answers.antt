use Rattle.std.proofs.Common.{◌∙◌, ap}
use Rattle.std.specs.Prelude.{max}
use Rattle.std.proofs.lemmas.Option.{slice_get_within, get_or_from_slice_get}
use Rattle.ept_hier.specs.Hierarchy.{keys_of}
use Rattle.ept_space.specs.VoxelKey.{VoxelKey}
use Rattle.ept_mem_infallible.specs.Objects.{store_files_of}
use Rattle.ept_trial.specs.Results.{bytes_at}
use Rattle.ept_trial.proofs.Tallies.{greatest-more, sum-more}
use Rattle.ept_trial.proofs.tallying.tally.Goals as goal

pub loop-number-preserved : goal.loop-number-preserved
loop-number-preserved c =
    let keys = keys_of c.args.plan.now.tiles in
    let key = c.key-key.result in
    let within = slice_get_within keys c.loop-number.number key c.key-key.ensures in
    let at = get_or_from_slice_get keys c.loop-number.number key key c.key-key.ensures in
    let deeper = c.max-depth.ensures ∙ ap (λ (k : VoxelKey). max k.depth c.loop-number.depth) c.key.view_is in (
      deeper ∙ greatest-more keys c.loop-number.number key c.loop-number.depth within at c.loop-number.invariant.0,
      sum-more (bytes_at (store_files_of c.args.store.now)) keys c.loop-number.number key c.loop-number.sum c.in_ok-sum.sum within at c.loop-number.invariant.1 c.in_ok-sum.ensures,
    )
