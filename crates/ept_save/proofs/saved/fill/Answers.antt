use Rattle.std.proofs.Common.{◌≡◌, ◌∙◌, ℕ, suc, ◌+◌, ◌<◌, List, [], ◌∷◌, ◌++◌, map, take, length, get_or, ap, sym, subst, arith}
use Rattle.std.proofs.Math.Seq.{take-suc}
use Rattle.std.proofs.lemmas.List.{get_or-take, get_or_default, length-take}
use Rattle.std.specs.declared.cmp.Ordering.TheVariants.{Less}
use Rattle.ept_space.specs.VoxelKey.{VoxelKey, key_cmp}
use Rattle.ept_space.proofs.Ascending.{ascend-at}
use Rattle.ept_ckpt.specs.declared.node_line.NodeLine.{NodeLine}
use Rattle.ept_save.specs.declared.saved.Line.{Line}
use Rattle.ept_save.specs.Stored.{line_of}
use Rattle.ept_save.specs.Lines.{with_line}
use Rattle.ept_save.proofs.Inserting.{insert-line, line-behind}
use Rattle.ept_save.proofs.saved.fill.Goals as goal

pub loop-line-preserved : goal.loop-line-preserved
loop-line-preserved c =
    let items : List NodeLine = c.as_slice-line-items.result.now in
    let i : ℕ = c.loop-line.line-index in
    let line : NodeLine = c.line-item.result in
    let kept : Line = record { count = line.count; mask = line.mask; letter = line.letter } in
    let nodes : items ≡ c.args.checkpoint.now.nodes = c.as_slice-line-items.ensures in
    let inside : i < length items = c.loop-line-test.true in
    let low : (k : ℕ) (d : NodeLine) → k < length (take i items) → key_cmp (get_or (take i items) k d).key line.key ≡ Less = λ k d k_in. (
    let before : k < i = omega (arith, length-take i items, k_in) in
    let front : get_or (take i items) k d ≡ get_or items k d = get_or-take i items k d before in
    let up : key_cmp (get_or items k d).key (get_or items i d).key ≡ Less = subst (λ (w : List NodeLine). key_cmp (get_or w k d).key (get_or w i d).key ≡ Less) (sym nodes) (ascend-at (λ (l : NodeLine). l.key) c.args.checkpoint.now.nodes k i d before (subst (λ (w : List NodeLine). i < length w) nodes inside) c.args.checkpoint.now.is_checkpoint.nodes_are.octree.ascend) in
    let there : get_or items i d ≡ line = get_or_default items i d line inside ∙ sym c.line-item.is in
    ap (λ (l : NodeLine). key_cmp l.key line.key) front ∙ (ap (λ (l : NodeLine). key_cmp (get_or items k d).key l.key) (sym there) ∙ up)) in
    ap (λ (w : List (VoxelKey × Line)). map line_of w) c.in_ok-insert.ensures.entries
    ∙ (insert-line line.key kept c.loop-line.lines.entries c.in_ok-insert.ensures.was_ordered
    ∙ (ap (λ (w : List NodeLine). with_line line w) c.loop-line.invariant
    ∙ (line-behind line (take i items) low ∙ (ap (λ (l : NodeLine). take i items ++ l ∷ []) c.line-item.is ∙ (sym (take-suc items i line inside) ∙ ap (λ (n : ℕ). take n items) (let next : suc i ≡ i + 1 = omega arith in next))))))
