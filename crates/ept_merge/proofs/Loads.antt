-- Nodes that are loaded one after another.
use Rattle.std.proofs.Common.{◌≡◌, ◌≢◌, ◌∙◌, ◌⊎◌, inl, inr, ℕ, ◌+◌, ◌-◌, ◌<◌, ◌≤◌, List, [], ◌∷◌, ◌++◌, append_assoc, get_or, take, drop, length, refl, sym, ap, subst, map, arith, Option}
use Rattle.std.specs.Prelude.{slice_index_or}
use Rattle.std.specs.List.{AllZip, flat_map}
use Rattle.std.proofs.lemmas.List.{append-nil, map-append, take_more, take_all}
use Rattle.ept_base.specs.Files.{Files}
use Rattle.ept_point.specs.declared.point.Point.{Point}
use Rattle.ept_space.specs.declared.cube.Rules.{Rules}
use Rattle.ept_space.specs.VoxelKey.{root}
use Rattle.ept_sample.specs.Members.{IsMember}
use Rattle.ept_sample.proofs.Members.{IsMember-append, IsMember-contains}
use Rattle.ept_ckpt.specs.declared.letter.Letter.TheVariants.{A}
use Rattle.ept_ckpt.specs.declared.node_line.NodeLine.{NodeLine}
use Rattle.ept_save.specs.Loading.{AreOfLine}
use Rattle.ept_merge.specs.declared.error.MergeError.{MergeError}
use Rattle.ept_merge.specs.declared.bodies.PartBody.{PartBody}
use Rattle.ept_merge.specs.declared.joining.PartNode.{PartNode}
use Rattle.ept_merge.specs.Joining.{root_node, below_root, all_below, IsRootOf}
use Rattle.ept_merge.proofs.Whole.{IsRooted, rooted}
use Rattle.ept_merge.specs.Merging.{IsTileDamaged}
use Rattle.ept_merge.specs.Putting.{HasPartTile, Loads, LoadsAll, AreIntact, IsNodesFault, IsLastPart}
use Rattle.ept_merge.proofs.Reading.{tells-both, tells-always}

-- ---- lists

pub taken-more : {X Y : Type 0} (f : X → Y) (xs : List X) (i : ℕ) (x : X) → i < length xs → x ≡ get_or xs i x → map f (take (i + 1) xs) ≡ map f (take i xs) ++ f x ∷ []
taken-more {X} f xs i x low is =
    ap (map f) (take_more xs i x low ∙ ap (λ (y : X). take i xs ++ y ∷ []) (sym is)) ∙ map-append f (take i xs) (x ∷ [])

pub take-more : {X : Type 0} (xs : List X) (i : ℕ) (x : X) → i < length xs → x ≡ get_or xs i x → take (i + 1) xs ≡ take i xs ++ x ∷ []
take-more {X} xs i x low is = take_more xs i x low ∙ ap (λ (y : X). take i xs ++ y ∷ []) (sym is)

pub item-member : {X : Type 0} (xs : List X) (i : ℕ) (x : X) → i < length xs → x ≡ get_or xs i x → IsMember x xs
item-member xs i x low is = IsMember-contains x xs (i, low, sym is)

zip_more : {X Y : Type 0} (P : X → Y → Type 0) (xs : List X) (ys : List Y) (x : X) (y : Y) → AllZip P xs ys → P x y → AllZip P (xs ++ x ∷ []) (ys ++ y ∷ [])
zip_more P [] [] x y all last = (last, tt)
zip_more P [] (b ∷ ys) x y all last = absurd all
zip_more P (a ∷ xs) [] x y all last = absurd all
zip_more P (a ∷ xs) (b ∷ ys) x y all last = (all.0, zip_more P xs ys x y all.1 last)

join_more : (lists : List (List Point)) (ps : List Point) → flat_map (λ (xs : List Point). xs) (lists ++ ps ∷ []) ≡ flat_map (λ (xs : List Point). xs) lists ++ ps
join_more [] ps = append-nil ps
join_more (l ∷ lists) ps =
    ap (λ (w : List Point). l ++ w) (join_more lists ps) ∙ sym (append_assoc l (flat_map (λ (xs : List Point). xs) lists) ps)

-- ---- nodes below the roots

abbrev pub node_of : ℕ → NodeLine → PartNode
node_of octants line = record { octants = octants; line = line }

flat-append : (xs ys : List PartBody) → all_below (xs ++ ys) ≡ all_below xs ++ all_below ys
flat-append [] ys = refl
flat-append (x ∷ xs) ys =
    ap (λ (w : List PartNode). below_root x ++ w) (flat-append xs ys) ∙ sym (append_assoc (below_root x) (all_below xs) (all_below ys))

pub below-more : (parts : List PartBody) (i : ℕ) (part : PartBody) → i < length parts → part ≡ get_or parts i part → all_below (take (i + 1) parts) ≡ all_below (take i parts) ++ below_root part
below-more parts i part low is =
    ap all_below (take-more parts i part low is)
    ∙ (flat-append (take i parts) (part ∷ []) ∙ ap (λ (w : List PartNode). all_below (take i parts) ++ w) (append-nil (below_root part)))

-- ---- the root of a part

pub part-rooted : (part : PartBody) → IsRooted part.body.nodes
part-rooted part = rooted part.body.nodes part.body.is_checkpoint.nodes_are.octree

abbrev no_line : NodeLine
no_line = record { key = root; count = 0; mask = 0; letter = A }

pub root-first : (part : PartBody) → (root_node part).line ≡ (part-rooted part).head
root-first part = ap (λ (w : List NodeLine). slice_index_or w 0 no_line) (part-rooted part).is

pub root-line : (part : PartBody) → IsMember (root_node part).line part.body.nodes × ((root_node part).line.key ≡ root)
root-line part = (
  subst (λ (w : List NodeLine). IsMember (root_node part).line w) (sym (part-rooted part).is) (inl (sym (root-first part))),
  ap (λ (l : NodeLine). l.key) (root-first part) ∙ (part-rooted part).at_root,
)

-- the first line of a part is its root
pub first-root : (part : PartBody) (line : NodeLine) → line ≡ get_or part.body.nodes 0 line → IsRootOf part (record { octants = part.octants; line = line })
first-root part line is =
    let head : line ≡ (part-rooted part).head = is ∙ ap (λ (w : List NodeLine). get_or w 0 line) (part-rooted part).is in
    record {
      is = λ i. record { octants = part.octants; line = (head ∙ sym (root-first part)) i };
      key = ap (λ (l : NodeLine). l.key) head ∙ (part-rooted part).at_root;
      first = (part-rooted part).is ∙ ap (λ (l : NodeLine). l ∷ drop 1 part.body.nodes) (sym head);
    }

-- ---- what is loaded

pub loads-none : (rules : Rules) (files : Option Files) (old : List Point) → LoadsAll rules [] files old old
loads-none rules files old = record { lists = []; appended = sym (append-nil old); are = tt; tiles = tells-always _ (λ all. tt) files }

pub loads-more : (rules : Rules) (nodes : List PartNode) (node : PartNode) (files : Option Files) (old mid new : List Point) → LoadsAll rules nodes files old mid → Loads rules node files mid new → LoadsAll rules (nodes ++ node ∷ []) files old new
loads-more rules nodes node files old mid new all one = record {
  lists = all.lists ++ one.points ∷ [];
  appended =
      one.appended
      ∙ (ap (λ (w : List Point). w ++ one.points) all.appended
      ∙ (append_assoc old (flat_map (λ (xs : List Point). xs) all.lists) one.points ∙ ap (λ (w : List Point). old ++ w) (sym (join_more all.lists one.points))));
  are = zip_more (λ (n : PartNode). AreOfLine rules n.line) nodes all.lists node one.points all.are one.are;
  tiles = tells-both _ _ _ (λ f has last. zip_more (HasPartTile f) nodes all.lists node one.points has last) files all.tiles one.tile;
}

-- ---- what is not damaged

pub intact-none : (rules : Rules) (files : Files) → AreIntact rules files []
intact-none rules files node m = absurd m

pub intact-more : (rules : Rules) (files : Files) (nodes : List PartNode) (node : PartNode) → AreIntact rules files nodes → ¬ IsTileDamaged rules files node.octants node.line → AreIntact rules files (nodes ++ node ∷ [])
intact-more rules files nodes node all one n m = by_place (IsMember-append n nodes (node ∷ []) m)
  where
    by_place : IsMember n nodes ⊎ IsMember n (node ∷ []) → ¬ IsTileDamaged rules files n.octants n.line
    by_place (inl l) = all n l
    by_place (inr (inl is)) = subst (λ (x : PartNode). ¬ IsTileDamaged rules files x.octants x.line) is one
    by_place (inr (inr none)) = absurd none

-- a fault of some nodes is one of all
pub fault-more : (rules : Rules) (files : Files) (some all : List PartNode) (e : MergeError) → ((node : PartNode) → IsMember node some → IsMember node all) → IsNodesFault rules files some e → IsNodesFault rules files all e
fault-more rules files some all e among (inl stores) = inl stores
fault-more rules files some all e among (inr damaged) = inr (record { node = damaged.node; among = among damaged.node damaged.among; is_error = damaged.is_error; byte = damaged.byte; damaged = damaged.damaged })

pub one-among : (node : PartNode) (all : List PartNode) → IsMember node all → (n : PartNode) → IsMember n (node ∷ []) → IsMember n all
one-among node all m n (inl is) = subst (λ (x : PartNode). IsMember x all) is m
one-among node all m n (inr none) = absurd none

-- ---- the last part

some-part : (parts : List PartBody) → parts ≢ [] → 0 < length parts
some-part [] some = absurd (some refl)
some-part (p ∷ rest) some = omega arith

pub last-part : (parts : List PartBody) (i : ℕ) (part : PartBody) → parts ≢ [] → i ≡ length parts - 1 → part ≡ get_or parts i part → IsLastPart parts part.octants
last-part parts i part some at is =
    let low : i < length parts = omega (arith, at, some-part parts some) in
    let end : length parts ≤ i + 1 = omega (arith, at, some-part parts some) in
    (take i parts, part, sym (take_all (i + 1) parts end) ∙ take-more parts i part low is, refl)
