-- The nodes below the root, put one after another.
use Rattle.std.proofs.Common.{◌≡◌, ◌≢◌, ◌∙◌, ◌⊎◌, inl, inr, ℕ, suc, ◌+◌, ◌<◌, List, [], ◌∷◌, ◌++◌, append_assoc, take, drop, drop-cons, length, get_or, refl, sym, ap, subst, map, add-one, Option, Some, None}
use Rattle.std.specs.declared.cmp.Ordering.TheVariants.{Less, Equal}
use Rattle.std.proofs.lemmas.List.{map-append, take-append-drop}
use Rattle.ept_base.specs.Files.{Files, Tells, StepsBy}
use Rattle.ept_space.specs.declared.cube.Rules.{Rules}
use Rattle.ept_space.specs.VoxelKey.{VoxelKey, IsKey, key_cmp, AreAscending}
use Rattle.ept_space.proofs.KeyOrder.{less-is_lt}
use Rattle.ept_sample.specs.Members.{IsMember}
use Rattle.ept_sample.proofs.Ascending.{IsRising}
use Rattle.ept_sample.proofs.Members.{IsMember-left, IsMember-right, IsMember-append, IsMember-map}
use Rattle.ept_sample.proofs.KeyOrder.{key-self, key_before, IsRising-AllPairs}
use Rattle.ept_ckpt.specs.declared.letter.Letter.TheVariants.{A}
use Rattle.ept_ckpt.specs.declared.node_line.NodeLine.{NodeLine}
use Rattle.ept_ckpt.specs.Octree as octree
use Rattle.ept_save.specs.Names.{work_tile_name}
use Rattle.ept_save.specs.Lines.{with_line}
use Rattle.ept_save.specs.View.{View}
use Rattle.ept_save.proofs.NamesDiffer.{tile-key}
use Rattle.ept_merge.specs.declared.error.MergeError.{MergeError}
use Rattle.ept_merge.specs.declared.joining.PartNode.{PartNode}
use Rattle.ept_merge.specs.Joining.{keys_of}
use Rattle.ept_merge.specs.Putting.{merged_line, IsTaken, AreTaken, AreIntact, IsNodesFault, ChangesTiles}
use Rattle.ept_merge.proofs.Steps.{AreBefore, with-last, part-stays, tile-damage-stays, damaged-again}
use Rattle.ept_merge.proofs.Loads.{taken-more, take-more}

-- ---- keys in order

rise-before : (front : List VoxelKey) (key : VoxelKey) (back : List VoxelKey) → IsRising key_before (front ++ key ∷ back) → (k : VoxelKey) → IsMember k front → key_cmp k key ≡ Less
rise-before [] key back up k m = absurd m
rise-before (f ∷ front) key back up k (inl is) = subst (λ (w : VoxelKey). key_cmp w key ≡ Less) is (less-is_lt (key_cmp f key) (up.0 key (last front)))
  where
    last : (xs : List VoxelKey) → IsMember key (xs ++ key ∷ back)
    last [] = inl refl
    last (x ∷ xs) = inr (last xs)
rise-before (f ∷ front) key back up k (inr m) = rise-before front key back up.1 k m

keys_append : (xs ys : List PartNode) → keys_of (xs ++ ys) ≡ keys_of xs ++ keys_of ys
keys_append xs ys = map-append (λ (n : PartNode). n.line.key) xs ys

split_at : (nodes : List PartNode) (i : ℕ) (node : PartNode) → i < length nodes → node ≡ get_or nodes i node → nodes ≡ take i nodes ++ node ∷ drop (i + 1) nodes
split_at nodes i node low is =
    sym (take-append-drop i nodes)
    ∙ ap (λ (w : List PartNode). take i nodes ++ w) (drop-cons nodes i node low ∙ (ap (λ (n : PartNode). n ∷ drop (suc i) nodes) (sym is) ∙ ap (λ (k : ℕ). node ∷ drop k nodes) (sym (add-one i))))

keys-merged : (nodes : List PartNode) (key : VoxelKey) → IsMember key (octree.keys_of (map merged_line nodes)) → IsMember key (keys_of nodes)
keys-merged [] key m = absurd m
keys-merged (n ∷ nodes) key (inl is) = inl is
keys-merged (n ∷ nodes) key (inr m) = inr (keys-merged nodes key m)

module _ (first : List NodeLine) (nodes : List PartNode) (ascend : AreAscending (octree.keys_of first ++ keys_of nodes)) (i : ℕ) (node : PartNode) (low : i < length nodes) (is : node ≡ get_or nodes i node) where
  -- the keys of the lines so far
  around : octree.keys_of first ++ keys_of nodes ≡ (octree.keys_of first ++ keys_of (take i nodes)) ++ node.line.key ∷ keys_of (drop (i + 1) nodes)
  around =
      ap (λ (w : List VoxelKey). octree.keys_of first ++ w) (ap (λ (w : List PartNode). keys_of w) (split_at nodes i node low is) ∙ keys_append (take i nodes) (node ∷ drop (i + 1) nodes))
      ∙ sym (append_assoc (octree.keys_of first) (keys_of (take i nodes)) (node.line.key ∷ keys_of (drop (i + 1) nodes)))

  before : (key : VoxelKey) → IsMember key (octree.keys_of first ++ keys_of (take i nodes)) → key_cmp key node.line.key ≡ Less
  before =
      rise-before (octree.keys_of first ++ keys_of (take i nodes)) node.line.key (keys_of (drop (i + 1) nodes))
      (subst (λ (w : List VoxelKey). IsRising key_before w) around (IsRising-AllPairs (octree.keys_of first ++ keys_of nodes) ascend))

  -- each line so far is before the next one
  lines-before : AreBefore node.line.key (first ++ map merged_line (take i nodes))
  lines-before l m = before l.key (by_place (IsMember-append l first (map merged_line (take i nodes)) m))
    where
      by_place : IsMember l first ⊎ IsMember l (map merged_line (take i nodes)) → IsMember l.key (octree.keys_of first ++ keys_of (take i nodes))
      by_place (inl f) = IsMember-left l.key (octree.keys_of first) (keys_of (take i nodes)) (IsMember-map (λ (n : NodeLine). n.key) l first f)
      by_place (inr r) = IsMember-right l.key (octree.keys_of first) (keys_of (take i nodes)) (keys-merged (take i nodes) l.key (IsMember-map (λ (n : NodeLine). n.key) l (map merged_line (take i nodes)) r))

  -- so is each node
  node-before : (n : PartNode) → IsMember n (take i nodes) → key_cmp n.line.key node.line.key ≡ Less
  node-before n m = before n.line.key (IsMember-right n.line.key (octree.keys_of first) (keys_of (take i nodes)) (IsMember-map (λ (x : PartNode). x.line.key) n (take i nodes) m))

  -- the lines, with the next one
  pub lines-more : (start now new : View) → start.lines ≡ first → now ≡ record start { lines = first ++ map merged_line (take i nodes) } → new ≡ record now { lines = with_line (merged_line node) now.lines } → new ≡ record start { lines = first ++ map merged_line (take (i + 1) nodes) }
  lines-more start now new begun is_now is_new =
      let lines : now.lines ≡ first ++ map merged_line (take i nodes) = ap (λ (v : View). v.lines) is_now in
      let last : with_line (merged_line node) now.lines ≡ first ++ map merged_line (take (i + 1) nodes) =
      ap (λ (w : List NodeLine). with_line (merged_line node) w) lines
      ∙ (with-last (merged_line node) (first ++ map merged_line (take i nodes)) lines-before
      ∙ (append_assoc first (map merged_line (take i nodes)) (merged_line node ∷ []) ∙ ap (λ (w : List NodeLine). first ++ w) (sym (taken-more merged_line nodes i node low is)))) in
      is_new ∙ (λ j. record (is_now j) { lines = last j })

  -- ---- the tiles so far

  module _ (known : (n : PartNode) → IsMember n nodes → IsKey n.line.key) (whole : (n : PartNode) → IsMember n (take i nodes) → IsMember n nodes) (mine : IsKey node.line.key) (start : Files) where
    stays-taken : (now new : Files) → ChangesTiles (node.line.key ∷ []) now new → (n : PartNode) → IsMember n (take i nodes) → IsTaken start now n → IsTaken start new n
    stays-taken now new changes n m taken = (taken.0, taken.1, changes (work_tile_name A n.line.key) other ∙ taken.2)
      where
        other : (key : VoxelKey) → IsMember key (node.line.key ∷ []) → work_tile_name A n.line.key ≢ work_tile_name A key
        other key (inl k) same =
            let one : n.line.key ≡ key = tile-key A A n.line.key key (known n (whole n m)) (subst (λ (w : VoxelKey). IsKey w) k mine) same in
            let equal : key_cmp n.line.key node.line.key ≡ Equal = ap (λ (w : VoxelKey). key_cmp w node.line.key) (one ∙ sym k) ∙ key-self node.line.key in
            let less : key_cmp n.line.key node.line.key ≡ Less = node-before n m in
            absurd (cc)
        other key (inr none) same = absurd none

    pub taken-step : (keys : List VoxelKey) (mid last : Option Files) → StepsBy (ChangesTiles keys) (Some start) mid → StepsBy (ChangesTiles (node.line.key ∷ [])) mid last → Tells (λ now. AreTaken start now (take i nodes)) mid → ((now : Files) → mid ≡ Some now → Tells (λ f. IsTaken now f node) last) → Tells (λ f. AreTaken start f (take (i + 1) nodes)) last
    taken-step keys None last first second taken one = absurd first
    taken-step keys (Some now) None first second taken one = absurd second
    taken-step keys (Some now) (Some new) first second taken one = λ n m. by_place n (IsMember-append n (take i nodes) (node ∷ []) (subst (λ (w : List PartNode). IsMember n w) (take-more nodes i node low is) m))
      where
        by_place : (n : PartNode) → IsMember n (take i nodes) ⊎ IsMember n (node ∷ []) → IsTaken start new n
        by_place n (inl l) = stays-taken now new second n l (taken n l)
        by_place n (inr (inl r)) =
            let its = one now refl in
            subst (λ (x : PartNode). IsTaken start new x) r (its.0, sym (part-stays keys start now first node.octants node.line.key) ∙ its.1, its.2)
        by_place n (inr (inr none)) = absurd none

-- the first nodes are among all
pub front-member : (nodes : List PartNode) (i : ℕ) (n : PartNode) → IsMember n (take i nodes) → IsMember n nodes
front-member nodes i n m = subst (λ (w : List PartNode). IsMember n w) (take-append-drop i nodes) (IsMember-left n (take i nodes) (drop i nodes) m)

pub one-key : (nodes : List PartNode) (node : PartNode) → IsMember node nodes → (key : VoxelKey) → IsMember key (node.line.key ∷ []) → IsMember key (keys_of nodes)
one-key nodes node among key (inl is) = subst (λ (k : VoxelKey). IsMember k (keys_of nodes)) is (IsMember-map (λ (n : PartNode). n.line.key) node nodes among)
one-key nodes node among key (inr none) = absurd none

-- ---- what was read of the parts

pub intact-back : (rules : Rules) (keys : List VoxelKey) (nodes : List PartNode) (first mid : Option Files) → StepsBy (ChangesTiles keys) first mid → Tells (λ all. AreIntact rules all nodes) mid → Tells (λ all. AreIntact rules all nodes) first
intact-back rules keys nodes None None step intact = tt
intact-back rules keys nodes None (Some now) step intact = absurd step
intact-back rules keys nodes (Some start) None step intact = absurd step
intact-back rules keys nodes (Some start) (Some now) step intact = λ node m damaged. intact node m (damaged-again rules keys start now step node damaged)

pub fault-back : (rules : Rules) (keys : List VoxelKey) (nodes : List PartNode) (e : MergeError) (first mid : Option Files) → StepsBy (ChangesTiles keys) first mid → Tells (λ all. IsNodesFault rules all nodes e) mid → Tells (λ all. IsNodesFault rules all nodes e) first
fault-back rules keys nodes e None None step fault = tt
fault-back rules keys nodes e None (Some now) step fault = absurd step
fault-back rules keys nodes e (Some start) None step fault = absurd step
fault-back rules keys nodes e (Some start) (Some now) step (inl stores) = inl stores
fault-back rules keys nodes e (Some start) (Some now) step (inr f) =
    inr (record { node = f.node; among = f.among; is_error = f.is_error; byte = f.byte; damaged = tile-damage-stays rules keys start now step f.node f.damaged })
