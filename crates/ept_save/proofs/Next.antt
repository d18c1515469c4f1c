-- The next checkpoint is of a greater generation.
use Rattle.std.proofs.Common.{◌≡◌, ℕ, ◌*◌, ◌<◌, ◌≤◌, ◌^◌, List, length, ap, arith, Some, None}
use Rattle.std.proofs.lemmas.List.Sums.{sum_by-le}
use Rattle.ept_config.specs.declared.kept.Kept.{Kept}
use Rattle.ept_config.specs.declared.source_count.SourceCount.{SourceCount}
use Rattle.ept_config.specs.Counts.{total}
use Rattle.ept_ckpt.specs.declared.version.BodyVersion.TheVariants.{V3}
use Rattle.ept_ckpt.specs.Facts.{CheckpointFacts, facts}
use Rattle.ept_ckpt.specs.Valid.{IsCheckpoint}
use Rattle.ept_ckpt.specs.declared.node_line.NodeLine.{NodeLine}
use Rattle.ept_ckpt.specs.declared.checkpoint.Checkpoint.{Checkpoint}
use Rattle.ept_save.specs.Current.{Current}
use Rattle.ept_save.specs.View.{View, IsNewer, next_generation, next_facts}

newer_generation : (current : Current) (next : Checkpoint) → next.generation ≡ next_generation current → IsNewer current next
newer_generation None next is = tt
newer_generation (Some (letter, c)) next is = omega (arith, is)

pub is-newer : (view : View) (kept : Kept) (counts : List SourceCount) (inserted : ℕ) (next : Checkpoint) → facts next ≡ next_facts view kept counts inserted → IsNewer view.current next
is-newer view kept counts inserted next is =
    let generation : next.generation ≡ next_generation view.current = ap (λ (f : CheckpointFacts). f.generation) is in
    newer_generation view.current next generation

-- a generation fits its width
pub generation-fits : (generation : ℕ) (kept : Kept) (counts : List SourceCount) (inserted : ℕ) (lines : List NodeLine) → IsCheckpoint V3 generation kept counts inserted lines → generation < 2 ^ 64
generation-fits generation kept counts inserted lines is =
    let most : total counts ≤ length counts * 2 ^ 40 = sum_by-le (λ (count : SourceCount). count.points) (2 ^ 40) counts (λ k d inside. let few = (is.counted k d inside).few in omega (arith, few)) in
    let inputs = kept.layout.inputs_most in
    omega (arith, most, inputs, is.each, is.inserted_most, is.generation_most)
