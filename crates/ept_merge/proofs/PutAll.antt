-- All nodes are put, and committed.
use Rattle.std.proofs.Common.{◌≡◌, ◌≢◌, ◌∙◌, inl, inr, ℕ, ◌<◌, false, List, [], ◌∷◌, ◌++◌, refl, sym, ap, subst, arith, map, length, get_or, length-append, Option, Some, None}
use Rattle.std.specs.Prelude.{sum_by, Result, Ok, Err, OnOk, IfErr}
use Rattle.std.specs.List.{AllZip, flat_map}
use Rattle.std.specs.declared.cmp.Ordering.TheVariants.{Less}
use Rattle.std.proofs.lemmas.List.Sums.{sum_by-cons}
use Rattle.std.proofs.lemmas.List.Sorted.{length_permutation}
use Rattle.ept_base.specs.Files.{Files, SameFiles, Tells, StepsBy}
use Rattle.ept_base.specs.Moves.{IsSettled}
use Rattle.ept_point.specs.declared.layout.Layout.TheVariants.{Old}
use Rattle.ept_point.specs.declared.point.Point.{Point}
use Rattle.ept_point.specs.Packed.{tile}
use Rattle.ept_space.specs.declared.cube.Rules.{Rules}
use Rattle.ept_space.specs.VoxelKey.{VoxelKey, IsKey, root, key_cmp, AreAscending}
use Rattle.ept_space.proofs.KeyOrder.{less-is_lt}
use Rattle.ept_sample.specs.Members.{IsMember}
use Rattle.ept_sample.proofs.Members.{IsMember-append, IsMember-right, member-map}
use Rattle.ept_sample.proofs.KeyOrder.{IsRising-AllPairs}
use Rattle.ept_config.specs.declared.config.Config.{Config}
use Rattle.ept_ckpt.specs.declared.letter.Letter.TheVariants.{A}
use Rattle.ept_ckpt.specs.declared.version.BodyVersion.TheVariants.{V3}
use Rattle.ept_ckpt.specs.declared.node_line.NodeLine.{NodeLine}
use Rattle.ept_ckpt.specs.declared.checkpoint.Checkpoint.{Checkpoint}
use Rattle.ept_ckpt.specs.Octree as octree
use Rattle.ept_ckpt.specs.Facts.{facts, kept_facts, precedence_of, sources_of}
use Rattle.ept_ckpt.specs.Laws.{CheckpointByFacts}
use Rattle.ept_ckpt.specs.Valid.{IsCheckpoint}
use Rattle.ept_meta.specs.Output.{rules_of}
use Rattle.ept_save.specs.Names.{gate_name, work_tile_name}
use Rattle.ept_save.specs.Gates.{Closes}
use Rattle.ept_save.specs.Current.{Current, HasCurrent}
use Rattle.ept_save.specs.Lines.{free_letter, with_line}
use Rattle.ept_save.specs.Loading.{AreOfLine}
use Rattle.ept_save.specs.Tiles.{IsOfLayout}
use Rattle.ept_save.specs.View.{View, StandsFor, next_letter, next_generation, next_facts}
use Rattle.ept_save.proofs.NamesDiffer.{tile-key}
use Rattle.ept_save.proofs.Standing.{settled-stands}
use Rattle.ept_plan.specs.declared.plan.Plan.{Plan}
use Rattle.ept_plan.specs.Plans.{IsPlan}
use Rattle.ept_merge.specs.declared.error.MergeError.{MergeError}
use Rattle.ept_merge.specs.declared.bodies.PartBody.{PartBody}
use Rattle.ept_merge.specs.declared.joining.PartNode.{PartNode}
use Rattle.ept_merge.specs.Joining.{keys_of, roots_of}
use Rattle.ept_merge.specs.Putting.{AreLike, IsOfRules, AreOfRules, AreLow, AreIntact, IsNodesFault, AreTaken, merged_line, ChangesTiles, PutsRoot, PutsAll, FitTogether, IsCommitted}
use Rattle.ept_merge.proofs.Reading.{files-are, tells-more, tells-both}
use Rattle.ept_merge.proofs.Whole.{not-root}
use Rattle.ept_merge.proofs.Loads.{item-member, fault-more}
use Rattle.ept_merge.proofs.Steps.{part-stays}
use Rattle.ept_merge.proofs.Valid.{lines_in, first_line, merged-valid}

-- ---- the first body

pub some-length : {X : Type 0} (xs : List X) → xs ≢ [] → 0 < length xs
some-length [] some = absurd (some refl)
some-length (x ∷ xs) some = omega arith

pub first-rules : (rules : Rules) (parts : List PartBody) (first : PartBody) → AreOfRules rules parts → parts ≢ [] → first ≡ get_or parts 0 first → IsOfRules rules first.body
first-rules rules parts first of_rules some is = of_rules first (item-member parts 0 first (some-length parts some) is)

-- ---- no checkpoint is of the old layout if there is none

pub none-old : (current : Current) → current ≡ None → ¬ IsOfLayout Old current
none-old current none old = subst (λ (w : Current). IsOfLayout Old w) none old

-- ---- intact tiles

pub intact-both : (rules : Rules) (files : Files) (xs ys : List PartNode) → AreIntact rules files xs → AreIntact rules files ys → AreIntact rules files (xs ++ ys)
intact-both rules files xs ys first second node m = elim (IsMember-append node xs ys m) [ inl l ↦ first node l | inr r ↦ second node r ]

-- ---- the root is put

pub root-view : (old new : View) (points : List Point) (mask : ℕ) → old.current ≡ None → old.lines ≡ []
    → new ≡ record old { lines = with_line (record { key = root; count = length points; mask = mask; letter = free_letter old.current root }) old.lines }
    → new ≡ record old { lines = record { key = root; count = length points; mask = mask; letter = A } ∷ [] }
root-view old new points mask none first is =
    is ∙ (λ i. record old { lines = with_line (record { key = root; count = length points; mask = mask; letter = free_letter (none i) root }) (first i) })

-- ---- and the others

module _ (rules : Rules) (parts : List PartBody) (nodes : List PartNode) (low : AreLow rules nodes) (ascend : AreAscending (root ∷ keys_of nodes)) where
  key-of : (key : VoxelKey) → IsMember key (keys_of nodes) → IsKey key × (key ≢ root)
  key-of key m =
      let n = member-map (λ (node : PartNode). node.line.key) key nodes m in
      let less : key_cmp root key ≡ Less = less-is_lt (key_cmp root key) ((IsRising-AllPairs (root ∷ keys_of nodes) ascend).0 key m) in
      (subst (λ (k : VoxelKey). IsKey k) n.2 (low n.0 n.1).0, λ is. not-root key less is)

  root-key : IsKey root
  root-key = record { shallow = omega arith; x_in = omega arith; y_in = omega arith; z_in = omega arith }

  root-stays : (b c : Files) → ChangesTiles (keys_of nodes) b c → c (work_tile_name A root) ≡ b (work_tile_name A root)
  root-stays b c changes = changes (work_tile_name A root) (λ key m same.
      let k = key-of key m in
      k.1 (sym (tile-key A A root key root-key k.0 same)))

  taken-all : (points : List Point) (before between after : Option Files) → StepsBy (ChangesTiles (root ∷ [])) before between → StepsBy (ChangesTiles (keys_of nodes)) between after
      → Tells (λ (all : Files). all (work_tile_name A root) ≡ Some (tile points)) between
      → ((start : Files) → between ≡ Some start → Tells (λ now. AreTaken start now nodes) after)
      → StepsBy (λ (old : Files) (new : Files). (new (work_tile_name A root) ≡ Some (tile points)) × AreTaken old new nodes) before after
  taken-all points None None None first second there taken = tt
  taken-all points None None (Some c) first second there taken = absurd second
  taken-all points None (Some b) after first second there taken = absurd first
  taken-all points (Some a) None after first second there taken = absurd first
  taken-all points (Some a) (Some b) None first second there taken = absurd second
  taken-all points (Some a) (Some b) (Some c) first second there taken = (
    root-stays b c second ∙ there,
    λ node m. (
        let its = taken b refl node m in
        (its.0, sym (part-stays (root ∷ []) a b first node.octants node.line.key) ∙ its.1, its.2)),
  )

  pub puts-all : (before between after : Option Files) (old mid new : View) → PutsRoot rules parts before old mid between → StepsBy (ChangesTiles (root ∷ [])) before between
      → new ≡ record mid { lines = mid.lines ++ map merged_line nodes } → StepsBy (ChangesTiles (keys_of nodes)) between after
      → ((start : Files) → between ≡ Some start → Tells (λ now. AreTaken start now nodes) after) → PutsAll rules parts nodes before after new.lines
  puts-all before between after old mid new top first is second taken = record {
    loads = top.loads;
    roots = top.roots;
    points = top.points;
    same = top.same;
    order = top.order;
    mask = top.mask;
    union = top.union;
    lines_are = ap (λ (v : View). v.lines) is ∙ ap (λ (v : View). v.lines ++ map merged_line nodes) top.line;
    tiles = taken-all top.points before between after first second top.has_tile taken;
  }

  pub puts-stay : (before between : Option Files) (old mid new : View) → PutsRoot rules parts before old mid between → new ≡ record mid { lines = mid.lines ++ map merged_line nodes } → new ≡ record old { lines = new.lines }
  puts-stay before between old mid new top is =
      let first : new ≡ record old { lines = mid.lines ++ map merged_line nodes } = is ∙ (λ i. record (top.line i) { lines = mid.lines ++ map merged_line nodes }) in
      let all : mid.lines ++ map merged_line nodes ≡ new.lines = sym (ap (λ (v : View). v.lines) is) in
      first ∙ (λ i. record old { lines = all i })

  -- the keys of the root's line and of the nodes ascend
  pub view-ascends : (before between : Option Files) (old mid : View) → PutsRoot rules parts before old mid between → AreAscending (octree.keys_of mid.lines ++ keys_of nodes)
  view-ascends before between old mid top =
      subst (λ (w : List NodeLine). AreAscending (octree.keys_of w ++ keys_of nodes)) (sym (ap (λ (v : View). v.lines) top.line)) ascend

-- ---- the points at the root

loaded-count : (rules : Rules) (some : List PartBody) (lists : List (List Point)) → AllZip (λ (node : PartNode). AreOfLine rules node.line) (roots_of some) lists → length (flat_map (λ (ps : List Point). ps) lists) ≡ sum_by (λ (lines : List NodeLine). (first_line lines).count) (lines_in some)
loaded-count rules [] [] are = refl
loaded-count rules [] (l ∷ lists) are = absurd are
loaded-count rules (p ∷ some) [] are = absurd are
loaded-count rules (p ∷ some) (l ∷ lists) are =
    omega (
      arith,
      length-append l (flat_map (λ (ps : List Point). ps) lists),
      sum_by-cons (λ (lines : List NodeLine). (first_line lines).count) p.body.nodes (lines_in some),
      are.0.counted,
      loaded-count rules some lists are.1,
    )

-- ---- the checkpoint

module _ (config : Config) (plan : Plan) (is : IsPlan config None plan) (parts : List PartBody) (like : AreLike plan parts) (nodes : List PartNode) (fit : FitTogether parts nodes plan.points) (few : length nodes < config.max_nodes) (rules : Rules) (before after : Option Files) (lines : List NodeLine) (puts : PutsAll rules parts nodes before after lines) where
  counted : length puts.points ≡ sum_by (λ (ls : List NodeLine). (first_line ls).count) (lines_in parts)
  counted =
      omega (arith, length_permutation puts.loads puts.points puts.same, ap (λ (w : List Point). length w) puts.roots.appended, loaded-count rules parts puts.roots.lists puts.roots.are)

  pub lines-valid : IsCheckpoint V3 1 plan.kept plan.counts plan.points lines
  lines-valid =
      subst (λ (w : List NodeLine). IsCheckpoint V3 1 plan.kept plan.counts plan.points w) (sym puts.lines_are)
      (merged-valid config plan is parts like nodes fit.order.same fit.order.ascend few fit.number puts.mask (length puts.points) puts.union counted)

  -- the one that is committed
  abbrev pub target : Checkpoint
  target = record { version = V3; generation = 1; kept = plan.kept; counts = plan.counts; inserted = plan.points; nodes = lines; is_checkpoint = lines-valid }

  module _ (view : View) (none : view.current ≡ None) (its_lines : view.lines ≡ lines) where
    pub view-valid : IsCheckpoint V3 (next_generation view.current) plan.kept plan.counts plan.points view.lines
    view-valid =
        subst (λ (w : List NodeLine). IsCheckpoint V3 (next_generation view.current) plan.kept plan.counts plan.points w) (sym its_lines)
        (subst (λ (c : Current). IsCheckpoint V3 (next_generation c) plan.kept plan.counts plan.points lines) (sym none) lines-valid)

    pub target-facts : facts target ≡ next_facts view plan.kept plan.counts plan.points
    target-facts = λ i. record {
      version = V3;
      generation = next_generation (sym none i);
      kept = kept_facts plan.kept;
      precedence = precedence_of plan.kept;
      sources = sources_of plan.kept.inputs plan.counts;
      inserted = plan.points;
      nodes = sym its_lines i;
    }

    -- so the one that was committed keeps what the plan keeps
    pub next-committed : CheckpointByFacts → (next : Checkpoint) → facts next ≡ next_facts view plan.kept plan.counts plan.points → (new : View) → new ≡ record view { current = Some (next_letter view.current, next); begun = false } → (files : Files) → HasCurrent new.current files → IsCommitted plan files
    next-committed law next same new is_new files has =
        let one : next ≡ target = law next target (same ∙ sym target-facts) in
        record {
          letter = next_letter view.current;
          c = next;
          is_current = subst (λ (w : Current). HasCurrent w files) (ap (λ (v : View). v.current) is_new) has;
          kept_is = ap (λ (c : Checkpoint). c.kept) one;
          counts_are = ap (λ (c : Checkpoint). c.counts) one;
          inserted_is = ap (λ (c : Checkpoint). c.inserted) one;
        }

-- ---- once it is begun

closed-none : (old new : Files) → HasCurrent None old → Closes (gate_name A) old new → SameFiles old new
closed-none old new none closes = closes.was_shut (none A)

pub begun-same : (old new : Option Files) → Tells (HasCurrent None) old → StepsBy (Closes (gate_name A)) old new → new ≡ old
begun-same None None none closes = refl
begun-same None (Some new) none closes = absurd closes
begun-same (Some old) None none closes = absurd closes
begun-same (Some old) (Some new) none closes = ap (λ (f : Files). Some f) (files-are old new (closed-none old new none closes))

pub begun-stands : (view : View) → view.current ≡ None → (files : Option Files) (may_leave : Files → Type 0) (all : Files) → files ≡ Some all → Tells (HasCurrent None) files → IsSettled files may_leave → StandsFor view files may_leave
begun-stands view none files may_leave all told has settled =
    let here : HasCurrent None all = subst (λ (o : Option Files). Tells (HasCurrent None) o) told has in
    settled-stands view files may_leave all told (subst (λ (c : Current). HasCurrent c all) (sym none) here) (λ begun. here (next_letter view.current)) settled

-- what follows if files are visible
pub tells-if : (P : Files → Type 0) (o : Option Files) → ((all : Files) → o ≡ Some all → P all) → Tells P o
tells-if P None fact = tt
tells-if P (Some all) fact = fact all refl

pub stepped-back : (step : Files → Files → Type 0) (old new : Option Files) (all : Files) → new ≡ Some all → StepsBy step old new → (was : Files) × (old ≡ Some was)
stepped-back step None None all told moved = absurd (cc)
stepped-back step None (Some new) all told moved = absurd moved
stepped-back step (Some old) new all told moved = (old, refl)

-- ---- the tiles are judged

pub judged-intact : (rules : Rules) (roots nodes : List PartNode) (before between : Option Files) (result : Result (Unit {0}) MergeError) → between ≡ before → Tells (λ all. AreIntact rules all roots) before → OnOk result (Tells (λ all. AreIntact rules all nodes) between) → OnOk result (Tells (λ all. AreIntact rules all (roots ++ nodes)) before)
judged-intact rules roots nodes before between (Ok u) same first second =
    tells-both (λ all. AreIntact rules all roots) (λ all. AreIntact rules all nodes) (λ all. AreIntact rules all (roots ++ nodes)) (λ all one two. intact-both rules all roots nodes one two) before first
    (subst (λ (o : Option Files). Tells (λ all. AreIntact rules all nodes) o) same second)
judged-intact rules roots nodes before between (Err e) same first second = tt

pub judged-fault : (rules : Rules) (roots nodes : List PartNode) (before between : Option Files) (result : Result (Unit {0}) MergeError) → between ≡ before → IfErr result (λ e. Tells (λ all. IsNodesFault rules all nodes e) between) → IfErr result (λ e. Tells (λ all. IsNodesFault rules all (roots ++ nodes) e) before)
judged-fault rules roots nodes before between (Ok u) same refused = tt
judged-fault rules roots nodes before between (Err e) same refused =
    tells-more (λ all. IsNodesFault rules all nodes e) (λ all. IsNodesFault rules all (roots ++ nodes) e) (λ all fault. fault-more rules all nodes (roots ++ nodes) e (λ n m. IsMember-right n roots nodes m) fault) before
    (subst (λ (o : Option Files). Tells (λ all. IsNodesFault rules all nodes e) o) same refused)

-- ---- bodies like the plan have its rules

pub of-rules : (plan : Plan) (rules : Rules) (parts : List PartBody) → rules ≡ rules_of plan.kept → AreLike plan parts → AreOfRules rules parts
of-rules plan rules parts same like part m =
    let its = like part m in
    record { newest = its.newest; rules_are = same ∙ ap rules_of (sym its.kept_is) }
