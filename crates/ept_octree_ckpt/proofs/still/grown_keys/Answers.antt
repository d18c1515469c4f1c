use Rattle.std.proofs.Common.{◌≡◌, ◌∙◌, ◌||◌, true, List, sym, subst, rules}
use Rattle.std.specs.BTreeSet.{contains}
use Rattle.ept_space.specs.VoxelKey.{VoxelKey, key_cmp, is_within}
use Rattle.ept_sample.specs.Members.{IsMember}
use Rattle.ept_table.specs.Octree.{Branch}
use Rattle.ept_octree.specs.Octree.{nodes_of}
use Rattle.ept_octree.proofs.Walked.{node-at}
use Rattle.ept_octree_ckpt.specs.Saving.{IsTold}
use Rattle.ept_octree_ckpt.proofs.Stillness.{still-more, still-noted, grown-noted}
use Rattle.ept_octree_ckpt.proofs.still.grown_keys.Goals as goal

pub is_told-requires : goal.is_told-requires
is_told-requires g c =
    let at = node-at (nodes_of g.F.SpillFile.held c.args.octree.now) c.args.keys.now c.loop-key.key-index c.key-item.result c.requires c.loop-key-test.true c.key-item.is in
    (at.0, subst (λ (w : List Branch). IsMember at.0 w) (sym c.loop-key.invariant.same) at.3, at.4)

pub loop-key-preserved-then-is_told : goal.loop-key-preserved-then-is_told
loop-key-preserved-then-is_told g c =
    let nodes : List Branch = nodes_of g.F.SpillFile.held c.args.octree.now in
    let key : VoxelKey = c.key-item.result in
    let at = node-at nodes c.args.keys.now c.loop-key.key-index key c.requires c.loop-key-test.true c.key-item.is in
    let b : Branch = at.0 in
    let member : IsMember b (nodes_of g.F.SpillFile.held c.loop-key.octree) = subst (λ (w : List Branch). IsMember b w) (sym c.loop-key.invariant.same) at.3 in
    let told : IsTold c.args.saved.now.current b.0 b.1.mask b.1.points =
    subst (λ (k : VoxelKey). IsTold c.args.saved.now.current k b.1.mask b.1.points) (sym at.4) ((c.is_told.ensures.value b member at.4).0 (search (rules, c.if-is_told.true))) in
    record {
      still = λ top none. still-more c.args.saved.now.current nodes c.loop-key.key-index b at.1 at.2 top (c.loop-key.invariant.still top none) (λ within. told);
      grown = c.loop-key.invariant.grown;
      nodes = c.is_told.ensures.nodes ∙ c.loop-key.invariant.nodes;
      same = c.is_told.ensures.same ∙ c.loop-key.invariant.same;
      rules = c.is_told.ensures.rules ∙ c.loop-key.invariant.rules;
      cache = c.is_told.ensures.cache ∙ c.loop-key.invariant.cache;
    }

pub loop-key-preserved : goal.loop-key-preserved
loop-key-preserved g c =
    let nodes : List Branch = nodes_of g.F.SpillFile.held c.args.octree.now in
    let key : VoxelKey = c.key-item.result in
    let at = node-at nodes c.args.keys.now c.loop-key.key-index key c.requires c.loop-key-test.true c.key-item.is in
    let b : Branch = at.0 in
    let member : IsMember b (nodes_of g.F.SpillFile.held c.loop-key.octree) = subst (λ (w : List Branch). IsMember b w) (sym c.loop-key.invariant.same) at.3 in
    let untold : ¬ IsTold c.args.saved.now.current b.0 b.1.mask b.1.points = λ told. (
    let yes : c.is_told.result ≡ true = (c.is_told.ensures.value b member at.4).1 (subst (λ (k : VoxelKey). IsTold c.args.saved.now.current k b.1.mask b.1.points) at.4 told) in
    let no = c.if-is_told.false in
    cc) in
    let noted : (top : VoxelKey) → contains key_cmp c.note.new.grown top ≡ (contains key_cmp c.loop-key.grown top || is_within top b.0) =
    subst (λ (k : VoxelKey). (top : VoxelKey) → contains key_cmp c.note.new.grown top ≡ (contains key_cmp c.loop-key.grown top || is_within top k)) (sym at.4) c.in_ok-note.ensures in
    record {
      still = λ top. still-noted c.args.saved.now.current nodes c.loop-key.key-index b at.1 at.2 top (contains key_cmp c.loop-key.grown top) (contains key_cmp c.note.new.grown top) (c.loop-key.invariant.still top) (noted top);
      grown = λ top. grown-noted c.args.saved.now.current nodes b at.3 untold top (contains key_cmp c.loop-key.grown top) (contains key_cmp c.note.new.grown top) (c.loop-key.invariant.grown top) (noted top);
      nodes = c.is_told.ensures.nodes ∙ c.loop-key.invariant.nodes;
      same = c.is_told.ensures.same ∙ c.loop-key.invariant.same;
      rules = c.is_told.ensures.rules ∙ c.loop-key.invariant.rules;
      cache = c.is_told.ensures.cache ∙ c.loop-key.invariant.cache;
    }
