use Rattle.std.proofs.Common.{◌<◌, refl, arith, ap, subst, ◌∙◌}
use Rattle.std.proofs.lemmas.Bool.{false≢true}
use Rattle.ept_space.specs.VoxelKey.{IsKey}
use Rattle.ept_ckpt.specs.Octree.{keys_of, is_among, HasParent}
use Rattle.ept_ckpt.specs.declared.node_line.NodeLine.{NodeLine}
use Rattle.ept_ckpt.proofs.KeySearch.{All-keys, key-at}
use Rattle.ept_ckpt.proofs.whole_octree.have_parents.Goals as goal

pub returns-then-not-has_key-clause-parents : goal.returns-then-not-has_key-clause-parents
returns-then-not-has_key-clause-parents c = (
  (λ h. absurd (false≢true h)),
  (λ parents.
      let here : HasParent (keys_of c.args.nodes.now) c.line-item.result.key = key-at (HasParent (keys_of c.args.nodes.now)) c.args.nodes.now c.loop-line.line-index c.line-item.result (omega arith) c.line-item.is parents in
      let deep : 0 < c.line-item.result.key.depth = subst (λ (line : NodeLine). 0 < line.key.depth) c.line.view_is c.if-line-gt0.true in
      c.if-not-has_key.ensures ∙ ap (is_among (keys_of c.args.nodes.now)) c.parent.ensures ∙ here deep),
)

pub returns-clause-parents : goal.returns-clause-parents
returns-clause-parents c = ((λ h. All-keys (HasParent (keys_of c.args.nodes.now)) c.args.nodes.now c.loop-line.line-index (omega arith) c.loop-line.invariant.parents), (λ parents. refl))

pub returns-clause-known : goal.returns-clause-known
returns-clause-known c h = All-keys IsKey c.args.nodes.now c.loop-line.line-index (omega arith) c.loop-line.invariant.known
