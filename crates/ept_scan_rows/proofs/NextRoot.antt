-- A checkpoint with the root alone can be followed by one with another tile of the root.
use Rattle.std.proofs.Common.{◌≡◌, ◌∙◌, ℕ, zero, suc, ◌+◌, ◌≤◌, Bool, false, cond, List, [], ◌∷◌, ◌++◌, Some, None, refl, sym, ap, subst, arith}
use Rattle.std.specs.Prelude.{All, option_map}
use Rattle.std.specs.Ordering.{is_lt}
use Rattle.ept_space.specs.VoxelKey.{VoxelKey, IsKey}
use Rattle.ept_space.proofs.KeyOrder.{key_cmp-same}
use Rattle.ept_config.specs.declared.kept.Kept.{Kept}
use Rattle.ept_config.specs.declared.source_count.SourceCount.{SourceCount}
use Rattle.ept_ckpt.specs.declared.letter.Letter.{Letter}
use Rattle.ept_ckpt.specs.declared.node_line.NodeLine.{NodeLine}
use Rattle.ept_ckpt.specs.declared.checkpoint.Checkpoint.{Checkpoint}
use Rattle.ept_ckpt.specs.declared.version.BodyVersion.TheVariants.{V3}
use Rattle.ept_ckpt.specs.Octree.{TellsChildren, keys_of, AreNodesOf}
use Rattle.ept_ckpt.specs.Valid.{IsNode, IsCheckpoint, deepest}
use Rattle.ept_save.specs.Current.{Current}
use Rattle.ept_save.specs.Lines.{is_before, with_line}
use Rattle.ept_save.specs.Opening.{lines_of}
use Rattle.ept_save.specs.View.{next_generation}

not_before : (a b : VoxelKey) → a ≡ b → is_before a b ≡ false
not_before a b same = ap is_lt (key_cmp-same a b same)

-- the new line is in place of the old one
in-place : (line new : NodeLine) → new.key ≡ line.key → with_line new (line ∷ []) ≡ new ∷ []
in-place line new same =
    by_tests (is_before line.key new.key) (is_before new.key line.key) (not_before line.key new.key (sym same)) (not_before new.key line.key same)
  where
    by_tests : (before behind : Bool) → before ≡ false → behind ≡ false → cond before (line ∷ []) [] ++ new ∷ cond behind (line ∷ []) [] ≡ new ∷ []
    by_tests before behind e f =
        ap (λ (b : Bool). cond b (line ∷ []) [] ++ new ∷ cond behind (line ∷ []) []) e ∙ ap (λ (b : Bool). new ∷ cond b (line ∷ []) []) f

-- it describes the same node, under another letter
under : Letter → NodeLine → NodeLine
under letter line = record { key = line.key; count = line.count; mask = line.mask; letter = letter }

children-under : (letter : Letter) (line : NodeLine) → All (TellsChildren (keys_of (line ∷ []))) (line ∷ []) → All (TellsChildren (keys_of (under letter line ∷ []))) (under letter line ∷ [])
unfolding under
children-under letter line all zero d lt = all 0 line (omega arith)
children-under letter line all (suc k) d lt = absurd (omega (arith, lt))

nodes-under : (inserted : ℕ) (letter : Letter) (line : NodeLine) → AreNodesOf inserted (line ∷ []) → AreNodesOf inserted (under letter line ∷ [])
unfolding under
nodes-under inserted letter line are = record {
  octree = record { ascend = are.octree.ascend; rooted = are.octree.rooted; parents = are.octree.parents; children = children-under letter line are.octree.children };
  counted = are.counted;
}

same-nodes : (inserted : ℕ) (line new : NodeLine) → new.key ≡ line.key → new.count ≡ line.count → new.mask ≡ line.mask → AreNodesOf inserted (line ∷ []) → AreNodesOf inserted (new ∷ [])
unfolding under
same-nodes inserted line new key count mask are =
    let is : under new.letter line ≡ new = λ i. record { key = (sym key) i; count = (sym count) i; mask = (sym mask) i; letter = new.letter } in
    subst (λ (l : NodeLine). AreNodesOf inserted (l ∷ [])) is (nodes-under inserted new.letter line are)

one-line : (most : ℕ) (line new : NodeLine) → new.key ≡ line.key → All (IsNode most) (line ∷ []) → All (IsNode most) (new ∷ [])
one-line most line new key are zero d lt =
    let was : IsNode most line = are 0 line (omega arith) in
    let low : new.key.depth ≤ most = subst (λ (k : VoxelKey). k.depth ≤ most) (sym key) was.depth_most in
    record { is_key = subst IsKey (sym key) was.is_key; depth_most = low }
one-line most line new key are (suc k) d lt = absurd (omega (arith, lt))

next : (c : Checkpoint) (line new : NodeLine) → c.nodes ≡ line ∷ [] → c.generation ≤ c.inserted → new.key ≡ line.key → new.count ≡ line.count → new.mask ≡ line.mask → IsCheckpoint V3 (c.generation + 1) c.kept c.counts c.inserted (with_line new c.nodes)
next c line new only ripe key count mask =
    let nodes : with_line new c.nodes ≡ new ∷ [] = ap (with_line new) only ∙ in-place line new key in
    let was : IsCheckpoint c.version c.generation c.kept c.counts c.inserted (line ∷ []) = subst (λ (w : List NodeLine). IsCheckpoint c.version c.generation c.kept c.counts c.inserted w) only c.is_checkpoint in
    subst (λ (w : List NodeLine). IsCheckpoint V3 (c.generation + 1) c.kept c.counts c.inserted w) (sym nodes) (record {
      each = was.each;
      few = λ k d inside. (was.counted k d inside).few;
      plain = λ other. absurd (other refl);
      counted = was.counted;
      extents = was.extents;
      inserted_most = was.inserted_most;
      generation_least = omega arith;
      generation_most = omega (arith, ripe, c.kept.layout.inputs_some);
      nodes_few = omega arith;
      lines = one-line (deepest c.kept.bounds c.kept.s c.kept.max_depth) line new key was.lines;
      nodes_are = same-nodes c.inserted line new key count mask was.nodes_are;
    })

some_same : (c d : Checkpoint) → Some c ≡ Some d → c ≡ d
some_same c d same = cc

one_of : (letter : Letter) (c d : Checkpoint) (lines : List NodeLine) → d ≡ c → lines ≡ d.nodes → (next_generation (Some (letter, d)) ≡ c.generation + 1) × (lines ≡ c.nodes)
one_of letter c d lines same lines_are = (ap (λ (e : Checkpoint). e.generation + 1) same, lines_are ∙ ap (λ (e : Checkpoint). e.nodes) same)

pub next-valid : (current : Current) (c : Checkpoint) (line new : NodeLine) (lines : List NodeLine) → option_map (λ (a : Letter × Checkpoint). a.1) current ≡ Some c → lines ≡ lines_of current → c.nodes ≡ line ∷ [] → c.generation ≤ c.inserted → new.key ≡ line.key → new.count ≡ line.count → new.mask ≡ line.mask
    → IsCheckpoint V3 (next_generation current) c.kept c.counts c.inserted (with_line new lines)
next-valid None c line new lines is lines_are only ripe key count mask = cc
next-valid (Some (letter, d)) c line new lines is lines_are only ripe key count mask =
    let one = one_of letter c d lines (some_same d c is) lines_are in
    subst (λ (n : ℕ). IsCheckpoint V3 n c.kept c.counts c.inserted (with_line new lines)) (sym one.0)
    (subst (λ (w : List NodeLine). IsCheckpoint V3 (c.generation + 1) c.kept c.counts c.inserted (with_line new w)) (sym one.1) (next c line new only ripe key count mask))

-- it is the same of what is the same
pub valid-same : (current current' : Current) (kept kept' : Kept) (counts counts' : List SourceCount) (inserted : ℕ) (lines lines' : List NodeLine) → current' ≡ current → kept' ≡ kept → counts' ≡ counts → lines' ≡ lines → IsCheckpoint V3 (next_generation current) kept counts inserted lines → IsCheckpoint V3 (next_generation current') kept' counts' inserted lines'
valid-same current current' kept kept' counts counts' inserted lines lines' a b c d valid =
    subst (λ (w : Current). IsCheckpoint V3 (next_generation w) kept' counts' inserted lines') (sym a)
    (subst (λ (k : Kept). IsCheckpoint V3 (next_generation current) k counts' inserted lines') (sym b)
    (subst (λ (w : List SourceCount). IsCheckpoint V3 (next_generation current) kept w inserted lines') (sym c)
    (subst (λ (w : List NodeLine). IsCheckpoint V3 (next_generation current) kept counts inserted w) (sym d) valid)))
