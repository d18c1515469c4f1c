use Rattle.std.proofs.Common.{◌≡◌, ◌∙◌, Bool, true, false, eqb, List, [], refl, sym, ap, subst, rules, Option, Some, None, Decides}
use Rattle.std.specs.Prelude.{◌&&◌, All, option_map}
use Rattle.ept_sample.specs.Members.{IsMember}
use Rattle.ept_sample.proofs.Members.{All-members, IsMember-map}
use Rattle.std.proofs.lemmas.Slice.Eq.{slice_eq-Decides}
use Rattle.ept_space.specs.VoxelKey.{VoxelKey}
use Rattle.ept_space.proofs.Within.{same_key-true, same_key-same}
use Rattle.ept_config.specs.declared.source_count.SourceCount.{SourceCount}
use Rattle.ept_ckpt.specs.declared.letter.Letter.{Letter}
use Rattle.ept_ckpt.specs.declared.node_line.NodeLine.{NodeLine}
use Rattle.ept_ckpt.specs.declared.checkpoint.Checkpoint.{Checkpoint}
use Rattle.ept_ckpt.specs.Octree.{keys_of, is_among}
use Rattle.ept_save.specs.Current.{Current}
use Rattle.ept_save.specs.Opening.{lines_of}
use Rattle.ept_table.specs.Octree.{Branch}
use Rattle.ept_octree.specs.Octree.{nodes_of}
use Rattle.ept_octree_ckpt.specs.Lines.{TellNodes}
use Rattle.ept_octree_ckpt.specs.Loaded.{OfCurrent}
use Rattle.ept_octree_ckpt.specs.Phase.{AreGiven}
use Rattle.ept_octree_ckpt.specs.Saving.{keys_in}
use Rattle.ept_octree_ckpt.proofs.Telling.{member-among}
use Rattle.ept_scan_rows.proofs.phases.save_later.Goals as goal

regroup : (p q r s : Bool) → (((p && q) && r) && s) ≡ (p && (q && (r && s)))
regroup false q r s = refl
regroup true false r s = refl
regroup true true r s = refl

-- keys are the same if and only if each of their fields is
same-key : (a b : VoxelKey) → Decides (eqb a.depth b.depth && (eqb a.x b.x && (eqb a.y b.y && eqb a.z b.z))) (a ≡ b)
same-key a b =
    subst (λ (t : Bool). Decides t (a ≡ b)) (regroup (eqb a.depth b.depth) (eqb a.x b.x) (eqb a.y b.y) (eqb a.z b.z)) (same_key-true a b, same_key-same a b)

nodes_in : Option Checkpoint → List NodeLine
nodes_in None = []
nodes_in (Some c) = c.nodes

lines_in : (current : Current) → lines_of current ≡ nodes_in (option_map (λ (at : Letter × Checkpoint). at.1) current)
unfolding nodes_in
lines_in None = refl
lines_in (Some (letter, c)) = refl

its_nodes : (c : Checkpoint) → nodes_in (Some c) ≡ c.nodes
unfolding nodes_in
its_nodes c = refl

-- what is there instead
or_else : {A : Type 0} → A → Option A → A
or_else given None = given
or_else given (Some found) = found

none-is-none : {A : Type 0} (last : A) → None ≡ Some last → ⊥
none-is-none last is = absurd cc

-- what is known of what is there
known : {A : Type 0} (fact : A → Type 0) (a last : A) → Some a ≡ Some last → fact a → fact last
unfolding or_else
known fact a last is of = subst fact (ap (or_else a) is) of

-- what is known of the current checkpoint
of-current : (current : Current) (fact : Checkpoint → Type 0) (last : Checkpoint) → option_map (λ (at : Letter × Checkpoint). at.1) current ≡ Some last → OfCurrent current fact → fact last
of-current None fact last is of = absurd (none-is-none last is)
of-current (Some (letter, c)) fact last is of = known fact c last is of

pub save_octree-requires-clause-holds : goal.save_octree-requires-clause-holds
save_octree-requires-clause-holds g c =
    let second : Checkpoint = c.in-Some-Some.second.now in
    let nodes : List Branch = nodes_of g.F.SpillFile.held c.load_octree.new.octree in
    let is : option_map (λ (at : Letter × Checkpoint). at.1) c.args.next.now.current ≡ Some second = search rules in
    let told : TellNodes nodes second.nodes = of-current c.args.next.now.current (λ (d : Checkpoint). TellNodes nodes d.nodes) second is c.in_ok-load_octree.ensures.told in
    let counted = (c.lines_law.ensures.told nodes second.nodes told c.in_ok-load_octree.ensures.whole).counted in
    sym counted ∙ second.is_checkpoint.nodes_are.counted

pub save_octree-requires-clause-each : goal.save_octree-requires-clause-each
save_octree-requires-clause-each g c =
    let current : Current = c.args.saved.now.current in
    let first : Checkpoint = c.in-Some-Some.first.now in
    let nodes : List Branch = nodes_of g.F.SpillFile.held c.load_octree.new.octree in
    let is : option_map (λ (at : Letter × Checkpoint). at.1) current ≡ Some first = search rules in
    let lines : lines_of current ≡ first.nodes = lines_in current ∙ (ap nodes_in is ∙ its_nodes first) in
    let equal : c.as_slice-2.result.now ≡ c.as_slice-3.result.now = (slice_eq-Decides same-key c.as_slice-2.result.now c.as_slice-3.result.now c.eq.result c.eq.ensures).0 c.if-eq.true in
    let same : keys_of first.nodes ≡ keys_in nodes =
    sym (ap keys_of c.as_slice.ensures) ∙ (sym c.in_ok-before.ensures ∙ (sym c.as_slice-2.ensures.value ∙ (equal ∙ (c.as_slice-3.ensures.value ∙ c.in_ok-keys.ensures.keys)))) in
    subst (λ (w : List NodeLine). All (λ (line : NodeLine). is_among (keys_in nodes) line.key ≡ true) w) (sym lines)
    (All-members (λ (line : NodeLine). is_among (keys_in nodes) line.key ≡ true) first.nodes (λ line m.
    member-among (keys_in nodes) line.key (subst (λ (w : List VoxelKey). IsMember line.key w) same (IsMember-map (λ (l : NodeLine). l.key) line first.nodes m))))

pub save_octree-requires-clause-given : goal.save_octree-requires-clause-given
save_octree-requires-clause-given g c =
    let second : Checkpoint = c.in-Some-Some.second.now in
    let valid = second.is_checkpoint in
    subst (λ (counts : List SourceCount). AreGiven second.kept counts second.inserted) (sym c.as_slice-counts.ensures)
    (record { each = valid.each; counted = valid.counted; extents = valid.extents; inserted_most = valid.inserted_most })
