-- What a phase leaves: an octree that has each node of its checkpoint.
use Rattle.std.proofs.Common.{◌≡◌, ◌∙◌, inl, inr, ℕ, ◌+◌, ◌<◌, ◌≤◌, true, List, [], ◌∷◌, ◌++◌, ◌-◌, min, length, get_or, map, take, drop, sym, ap, subst, arith, Option, Some, None}
use Rattle.std.proofs.lemmas.Bool.{cases_lt}
use Rattle.std.proofs.lemmas.List.{take-append-drop}
use Rattle.ept_point.specs.declared.point.Point.{Point}
use Rattle.ept_space.specs.VoxelKey.{VoxelKey}
use Rattle.ept_space.specs.declared.cube.Rules.{Rules}
use Rattle.ept_sample.specs.Nodes.{sampled}
use Rattle.ept_sample.specs.SamplingLaws.{CanBeSampled}
use Rattle.ept_sample.specs.Members.{IsMember}
use Rattle.ept_sample.proofs.Members.{All-members, all-member}
use Rattle.ept_core.specs.State.{has_node, keys_of}
use Rattle.ept_core.proofs.NodeMap.{has_node-key, key-has_node}
use Rattle.ept_config.specs.declared.kept.Kept.{Kept}
use Rattle.ept_ckpt.specs.declared.letter.Letter.{Letter}
use Rattle.ept_ckpt.specs.declared.checkpoint.Checkpoint.{Checkpoint}
use Rattle.ept_ckpt.specs.declared.node_line.NodeLine.{NodeLine}
use Rattle.ept_ckpt.specs.Octree.{is_among}
use Rattle.ept_table.specs.Octree.{Branch, entry_of, points_in, AreSampled, AreWhole, KeepsNodes}
use Rattle.ept_node.specs.Shown.{file_of, IsTelling}
use Rattle.ept_forest.specs.Slots as forests
use Rattle.ept_octree.specs.declared.octree.Octree.{Octree}
use Rattle.ept_octree.specs.Octree as tree
use Rattle.ept_insert.specs.Between.{StandsBetween, FilesTell}
use Rattle.ept_scan.specs.declared.second_reading.Reader.{Reader}
use Rattle.ept_meta.specs.Output.{rules_of}
use Rattle.ept_point.specs.declared.layout.Layout.TheVariants.{Old}
use Rattle.ept_ckpt.specs.Versions.{layout_of}
use Rattle.ept_save.specs.Tiles.{IsOfLayout}
use Rattle.ept_save.proofs.TileFiles.{not-old}
use Rattle.ept_save.specs.Current.{Current}
use Rattle.ept_save.specs.Opening.{lines_of}
use Rattle.ept_save.specs.View.{View, next_letter}
use Rattle.ept_octree_ckpt.specs.Lines.{TellNodes}
use Rattle.ept_octree_ckpt.specs.Saving.{HasEachNodeOf, keys_in}
use Rattle.ept_octree_ckpt.specs.Phase.{AreGiven, IsSaved}
use Rattle.ept_octree_ckpt.proofs.Telling.{among-member, member-among}
use Rattle.ept_plan.specs.declared.plan.Plan.{Plan}
use Rattle.ept_plan.specs.Plans.{RulesStay, IsOf, inputs_by, inserted_by}
use Rattle.ept_build.specs.Phases.{IsFit, IsTreeOf, HasInserted, HasAll}
use Rattle.ept_build.proofs.Fronts.{front-then}

-- ---- keys of nodes

key_entry : (nodes : List Branch) (key : VoxelKey) → IsMember key (keys_in nodes) → IsMember key (keys_of (map entry_of nodes))
key_entry [] key m = absurd m
key_entry (b ∷ nodes) key (inl is) = inl is
key_entry (b ∷ nodes) key (inr m) = inr (key_entry nodes key m)

entry_key : (nodes : List Branch) (key : VoxelKey) → IsMember key (keys_of (map entry_of nodes)) → IsMember key (keys_in nodes)
entry_key [] key m = absurd m
entry_key (b ∷ nodes) key (inl is) = inl is
entry_key (b ∷ nodes) key (inr m) = inr (entry_key nodes key m)

-- each node of the checkpoint is still there, if no node is gone
pub each-stays : (current : Current) (old new : List Branch) → KeepsNodes (map entry_of old) (map entry_of new) → HasEachNodeOf current old → HasEachNodeOf current new
each-stays current old new keeps each =
    All-members (λ (line : NodeLine). is_among (keys_in new) line.key ≡ true) (lines_of current) (λ line m.
    let was = all-member (λ (l : NodeLine). is_among (keys_in old) l.key ≡ true) line (lines_of current) each m in
    let here : has_node (map entry_of old) line.key ≡ true = key-has_node (map entry_of old) line.key (key_entry old line.key (among-member (keys_in old) line.key was)) in
    member-among (keys_in new) line.key (entry_key new line.key (has_node-key (map entry_of new) line.key (keeps line.key here))))

-- and each is there if the lines of the checkpoint describe the nodes
told_key : (nodes : List Branch) (lines : List NodeLine) → TellNodes nodes lines → (line : NodeLine) → IsMember line lines → IsMember line.key (keys_in nodes)
told_key [] [] told line m = absurd m
told_key [] (l ∷ lines) told line m = absurd told
told_key (b ∷ nodes) [] told line m = absurd m
told_key (b ∷ nodes) (l ∷ lines) told line (inl is) = inl (sym (ap (λ (w : NodeLine). w.key) (sym is) ∙ told.0.key))
told_key (b ∷ nodes) (l ∷ lines) told line (inr m) = inr (told_key nodes lines told.1 line m)

pub each-told : (nodes : List Branch) (letter : Letter) (c : Checkpoint) → TellNodes nodes c.nodes → HasEachNodeOf (Some (letter, c)) nodes
each-told nodes letter c told =
    All-members (λ (line : NodeLine). is_among (keys_in nodes) line.key ≡ true) c.nodes (λ line m. member-among (keys_in nodes) line.key (told_key nodes c.nodes told line m))

-- ---- what is given of the inputs

pub given-fit : (plan : Plan) (inserted : ℕ) → IsFit plan → inserted ≤ plan.points → AreGiven plan.kept plan.counts inserted
given-fit plan inserted fit most = record {
  each = fit.each;
  counted = fit.counted;
  extents = fit.extents;
  inserted_most = subst (λ (n : ℕ). inserted ≤ n) fit.points_are most;
}

-- ---- what is noted of it

module _ (plan : Plan) (old new : View) (inserted : ℕ) (nodes : List Branch) (saved : IsSaved old new plan.kept plan.counts inserted nodes) where
  abbrev its : Current
  its = Some (next_letter old.current, saved.next)

  now : new.current ≡ its
  now = ap (λ (v : View). v.current) saved.view_is

  pub saved-fresh : new.lines ≡ lines_of new.current
  saved-fresh = ap (λ (v : View). v.lines) saved.view_is ∙ ap lines_of (sym now)

  pub saved-each : HasEachNodeOf new.current nodes
  saved-each = subst (λ (c : Current). HasEachNodeOf c nodes) (sym now) (each-told nodes (next_letter old.current) saved.next saved.is_next.told)

  pub saved-inserted : inserted_by new.current ≡ inserted
  saved-inserted = ap inserted_by now ∙ saved.is_next.inserted_is

  pub saved-inputs : inputs_by new.current ≡ length plan.kept.inputs
  saved-inputs = ap inputs_by now ∙ ap (λ (k : Kept). length k.inputs) saved.is_next.kept_is

  pub saved-newest : ¬ IsOfLayout Old new.current
  saved-newest = subst (λ (c : Current). ¬ IsOfLayout Old c) (sym now) (not-old (layout_of saved.next.version) saved.is_next.newest)

  pub saved-rules : RulesStay new.current plan.kept
  saved-rules = subst (λ (c : Current). RulesStay c plan.kept) (sym now) (ap rules_of (sym saved.is_next.kept_is), ap (λ (k : Kept). k.step) (sym saved.is_next.kept_is))

  pub saved-of : IsOf plan new.current
  saved-of = subst (IsOf plan) (sym now) (saved.is_next.kept_is, saved.is_next.counts_are)

-- ---- the first points, and the next ones

module _ (own rules : Rules) (same : own ≡ rules) (n k : ℕ) (points : List Point) where
  abbrev both : List Point
  both = take n points ++ take k (drop n points)

  pub sampled-then : (nodes : List Branch) → AreSampled own both nodes → AreSampled rules (take (n + k) points) nodes
  sampled-then nodes are = subst (λ (w : List Point). AreSampled rules w nodes) (front-then n k points) (subst (λ (r : Rules). AreSampled r both nodes) same are)

  pub many-then : (most : ℕ) → most < length (sampled own both) → most < length (sampled rules (take (n + k) points))
  many-then most many = subst (λ (w : List Point). most < length (sampled rules w)) (front-then n k points) (subst (λ (r : Rules). most < length (sampled r both)) same many)

-- ---- the octree of the first points, and a reader that has the others

-- if the contents of all spill files are visible, so are those of the nodes' files
files-tell : {F : Type 0} (held : F → Option (List ℕ)) (octree : Octree F) → IsTelling held → FilesTell held octree
files-tell held octree telling k d within = telling (file_of (get_or (forests.nodes_of (tree.forest_of octree)) k d))

module _ {F S : Type 0} (held : F → Option (List ℕ)) (whole : S → Option (List ℕ)) (plan : Plan) (points : List Point) (n : ℕ) (reader : Reader S) (grown : Octree F) (same : tree.rules_of grown ≡ rules_of plan.kept) (can : CanBeSampled (rules_of plan.kept) points) (has : HasInserted held whole plan points n reader grown) where
  pub stands-between : StandsBetween held whole grown reader (take n points) (drop n points)
  stands-between = record {
    telling = files-tell held grown has.telling;
    rest = has.rest;
    can = subst (λ (r : Rules). CanBeSampled r (take n points ++ drop n points)) (sym same) (subst (λ (w : List Point). CanBeSampled (rules_of plan.kept) w) (sym (take-append-drop n points)) can);
    sampled = subst (λ (r : Rules). AreSampled r (take n points) (tree.nodes_of held grown)) (sym same) has.sampled;
  }

  -- the nodes that come of the next points
  pub next-sampled : (k : ℕ) (new : List Branch) → ((first left : List Point) → StandsBetween held whole grown reader first left → AreSampled (tree.rules_of grown) (first ++ take k left) new) → AreSampled (rules_of plan.kept) (take (n + k) points) new
  next-sampled k new inserted = sampled-then (tree.rules_of grown) (rules_of plan.kept) same n k points new (inserted (take n points) (drop n points) stands-between)

-- ---- the octree after a phase

pub next-tree : {F : Type 0} (held : F → Option (List ℕ)) (faults keeps : F → ℕ) (plan : Plan) (inserted : ℕ) (grown next : Octree F) (old new : View) → tree.rules_of grown ≡ rules_of plan.kept → tree.IsWhole held grown → length (tree.points_of held grown) ≡ inserted → tree.nodes_of held next ≡ tree.nodes_of held grown → tree.rules_of next ≡ tree.rules_of grown → tree.IsLinked held next → tree.AgreesWithFiles held faults keeps next → tree.IsUnbroken next
    → IsSaved old new plan.kept plan.counts inserted (tree.nodes_of held grown) → IsTreeOf held faults keeps plan inserted next new
next-tree held faults keeps plan inserted grown next old new own whole number nodes rules linked agrees unbroken saved = record {
  rules = rules ∙ own;
  whole = subst (λ (w : List Branch). AreWhole (map entry_of w)) (sym nodes) whole;
  linked = linked;
  agrees = agrees;
  unbroken = unbroken;
  number = ap (λ (w : List Branch). length (points_in w)) nodes ∙ number;
  fresh = saved-fresh plan old new inserted (tree.nodes_of held grown) saved;
  newest = saved-newest plan old new inserted (tree.nodes_of held grown) saved;
  each = subst (λ (w : List Branch). HasEachNodeOf new.current w) (sym nodes) (saved-each plan old new inserted (tree.nodes_of held grown) saved);
  rules_stay = saved-rules plan old new inserted (tree.nodes_of held grown) saved;
  by_checkpoint = saved-inserted plan old new inserted (tree.nodes_of held grown) saved;
  inputs_least = omega (arith, saved-inputs plan old new inserted (tree.nodes_of held grown) saved);
}

-- ---- there is more to be done

pub of-inputs : (plan : Plan) (current : Current) → IsOf plan current → inputs_by current ≡ length plan.kept.inputs
of-inputs plan None is = absurd is
of-inputs plan (Some (letter, c)) is = ap (λ (k : Kept). length k.inputs) is.0

pub goes-on : (plan : Plan) (current : Current) (inserted count step : ℕ) → inserted_by current ≡ inserted → inputs_by current ≤ length plan.kept.inputs → inserted ≤ plan.points → 1 ≤ step → count ≡ min step (plan.points - inserted) → ¬ HasAll plan current → inserted_by current + inputs_by current < inserted + count + length plan.kept.inputs
goes-on plan current inserted count step by least most some is not_all = elim (cases_lt inserted plan.points) [
  | inl lt ↦ omega (arith, by, least, some, is, lt)
  | inr past ↦ elim (cases_lt (inputs_by current) (length plan.kept.inputs)) [
    | inl less ↦ omega (arith, by, less)
    | inr all ↦ absurd (not_all (record { inserted = omega (arith, by, past, most); inputs = omega (arith, all, least) }))
  ]
]
