use Rattle.std.proofs.Common.{rules, ◌≡◌}
use Rattle.std.proofs.lemmas.List.Sorted.{answers_always}
use Rattle.ept_hier.specs.Hierarchy.{Entry}
use Rattle.ept_hier.proofs.reader.sort.Goals as goal

pub returns : goal.returns
returns c =
    (c.in_ok-sort_by_key.ensures.permutation, c.in_ok-sort_by_key.ensures.sorted (λ (e : Entry). e.0) (answers_always _ (λ a r. r ≡ a.0.now.0) _ (λ f a r g k. search rules)))
