use Rattle.std.proofs.Common.{◌≡◌, ◌∙◌, ◌-◌, ◌++◌, ◌∷◌, [], List, append_assoc, length, length-drop, drop, take, map, sym, ap, arith}
use Rattle.std.proofs.lemmas.List.{take_all}
use Rattle.ept_ckpt.specs.declared.node_line.NodeLine.{NodeLine}
use Rattle.ept_merge.specs.declared.joining.PartNode.{PartNode}
use Rattle.ept_merge.proofs.Loads.{node_of, taken-more}
use Rattle.ept_merge.proofs.joining.append_below.Goals as goal

pub loop-line-preserved : goal.loop-line-preserved
loop-line-preserved c =
    let i = c.loop-line in
    let octants = c.args.part.now.octants in
    let before = c.args.nodes.now.items in
    let lines = c.as_slice-lines.result.now in
    let below = take (length lines - 1) (drop 1 lines) in
    let line = c.line-item.result in
    c.in_ok-push.ensures.items
    ∙ (ap (λ (w : List PartNode). w ++ node_of octants line ∷ []) i.invariant
    ∙ (append_assoc before (map (node_of octants) (take i.line-index below)) (node_of octants line ∷ [])
    ∙ ap (λ (w : List PartNode). before ++ w) (sym (taken-more (node_of octants) below i.line-index line c.loop-line-test.true c.line-item.is))))

pub returns : goal.returns
returns c =
    let i = c.loop-line in
    let octants = c.args.part.now.octants in
    let before = c.args.nodes.now.items in
    let lines = c.as_slice-lines.result.now in
    let below = take (length lines - 1) (drop 1 lines) in
    let whole : below ≡ drop 1 lines = take_all (length lines - 1) (drop 1 lines) (omega (arith, length-drop 1 lines)) in
    i.invariant
    ∙ ap (λ (w : List NodeLine). before ++ map (node_of octants) w) (take_all i.line-index below c.loop-line-test.false ∙ (whole ∙ ap (λ (w : List NodeLine). drop 1 w) c.as_slice-lines.ensures))
