use Rattle.std.proofs.Common.{rules, ◌≡◌, ◌∙◌, sym, ap, subst, List, Some}
use Rattle.std.specs.Prelude.{AllPairs}
use Rattle.std.specs.declared.cmp.Ordering.TheVariants.{Less}
use Rattle.std.proofs.lemmas.List.Sorted.{answers_always}
use Rattle.ept_space.specs.VoxelKey.{key_cmp}
use Rattle.ept_ckpt.specs.declared.node_line.NodeLine.{NodeLine}
use Rattle.ept_ckpt.specs.Octree.{keys_of}
use Rattle.ept_ckpt.specs.Lookup.{line_of_key}
use Rattle.ept_ckpt.proofs.Finding.{line-found, line-missed}
use Rattle.ept_ckpt.proofs.checkpoint.Checkpoint.line.Goals as goal

pub returns-in-Ok : goal.returns-in-Ok
returns-in-Ok c =
    let lines : List NodeLine = c.as_slice-lines.result.now in
    let same : lines ≡ c.args.self.now.nodes = c.as_slice-lines.ensures in
    let up : AllPairs (λ a b. key_cmp a b ≡ Less) (keys_of lines) = subst (λ (w : List NodeLine). AllPairs (λ a b. key_cmp a b ≡ Less) (keys_of w)) (sym same) c.args.self.now.is_checkpoint.nodes_are.octree.ascend in
    let found = c.in-Ok.ensures.position (λ (line : NodeLine). line.key) (answers_always _ _ _ (λ f a r g called. search rules)) in
    ap Some c.index-lines-at.is ∙ (sym (line-found lines c.args.key.now up c.in-Ok.at c.index-lines-at.result c.in-Ok.ensures.bound (found c.index-lines-at.result)) ∙ ap (λ (w : List NodeLine). line_of_key w c.args.key.now) same)

pub returns-in-Err : goal.returns-in-Err
returns-in-Err c =
    let lines : List NodeLine = c.as_slice-lines.result.now in
    let same : lines ≡ c.args.self.now.nodes = c.as_slice-lines.ensures in
    let up : AllPairs (λ a b. key_cmp a b ≡ Less) (keys_of lines) = subst (λ (w : List NodeLine). AllPairs (λ a b. key_cmp a b ≡ Less) (keys_of w)) (sym same) c.args.self.now.is_checkpoint.nodes_are.octree.ascend in
    let missed = c.in-Err.ensures.position (λ (line : NodeLine). line.key) (answers_always _ _ _ (λ f a r g called. search rules)) in
    sym (line-missed lines c.args.key.now up c.in-Err.field-0 missed) ∙ ap (λ (w : List NodeLine). line_of_key w c.args.key.now) same
