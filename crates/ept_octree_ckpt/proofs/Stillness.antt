-- Nodes that are as the current checkpoint describes them, and sets of the keys that are not still.
use Rattle.std.proofs.Common.{◌≡◌, ◌≢◌, ◌∙◌, ◌⊎◌, inl, inr, ⊎_elim, ℕ, ◌+◌, ◌<◌, Bool, true, false, ◌||◌, List, [], ◌∷◌, take, length, get_or, nat_eq, refl, sym, subst, arith, Option, Some, None}
use Rattle.std.specs.Prelude.{◌↔◌, IsTrue}
use Rattle.std.proofs.lemmas.Bool.Decides.{nat_tests}
use Rattle.ept_base.specs.Files.{Files, SameBut, StepsBy, Tells}
use Rattle.ept_point.specs.declared.point.Point.{Point}
use Rattle.ept_space.specs.VoxelKey.{VoxelKey, is_within}
use Rattle.ept_sample.specs.Members.{IsMember}
use Rattle.ept_sample.proofs.Members.{IsMember-append}
use Rattle.ept_ckpt.specs.declared.letter.Letter.{Letter}
use Rattle.ept_ckpt.specs.declared.node_line.NodeLine.{NodeLine}
use Rattle.ept_save.specs.Current.{Current, IsNamed, Keeps, tile_of_line}
use Rattle.ept_save.specs.Loading.{current_line, HasTile}
use Rattle.ept_save.specs.Names.{gate_name}
use Rattle.ept_save.proofs.KeyLines.{take-next}
use Rattle.ept_save.proofs.NamesDiffer.{gate-tile}
use Rattle.ept_save.proofs.Standing.{stepped}
use Rattle.ept_table.specs.Octree.{Branch}
use Rattle.ept_octree_ckpt.specs.Saving.{IsTold, IsStill, StillAreSame}
use Rattle.ept_octree_ckpt.proofs.Compared.{line-told}
use Rattle.ept_octree_ckpt.proofs.Lining.{some-same}
use Rattle.ept_octree_ckpt.proofs.SavedTo.{found-line, one_line}
use Rattle.ept_octree_ckpt.proofs.OnlyChanged.{tile-kept}

-- ---- what the line of a key states

told_line : (current : Current) (key : VoxelKey) (mask : ℕ) (points : List Point) (line : NodeLine) → current_line current key ≡ Some line → IsTold current key mask points → (line.mask ≡ mask) × (line.count ≡ length points)
told_line current key mask points line is told =
    let at = found-line current key (λ c l. (l.mask ≡ mask) × (l.count ≡ length points)) told in
    subst (λ (l : NodeLine). (l.mask ≡ mask) × (l.count ≡ length points)) (one_line (current_line current key) at.1 line at.2 is) at.3

same_number : (a b : ℕ) → IsTrue (nat_eq a b) → a ≡ b
same_number a b is = grind (arith, nat_tests)

number_same : (a b : ℕ) → a ≡ b → IsTrue (nat_eq a b)
number_same a b is = grind (arith, nat_tests)

module _ (current : Current) (key : VoxelKey) (mask : ℕ) (points : List Point) (line : NodeLine) (is : current_line current key ≡ Some line) (m : ℕ) (its_mask : m ≡ mask) where
  pub told-by-count : line.mask ≡ m → (n : ℕ) → n ≡ length points → IsTrue (nat_eq line.count n) ↔ IsTold current key mask points
  told-by-count same n many = (
    λ equal. line-told current key mask points line is (same ∙ its_mask) (same_number line.count n equal ∙ many),
    λ told. number_same line.count n ((told_line current key mask points line is told).1 ∙ sym many),
  )

  pub told-by-mask : line.mask ≢ m → IsTrue (nat_eq line.mask m) ↔ IsTold current key mask points
  told-by-mask differs = (
    λ equal. absurd (differs (same_number line.mask m equal)),
    λ told. absurd (differs ((told_line current key mask points line is told).0 ∙ sym its_mask)),
  )

-- ---- a node more

or-false : (old inside new : Bool) → new ≡ (old || inside) → new ≡ false → (old ≡ false) × (inside ≡ false)
or-false true inside new is none = absurd (let wrong : true ≡ false = sym is ∙ none in cc)
or-false false inside new is none = (refl, sym is ∙ none)

or-true : (old inside new : Bool) → new ≡ (old || inside) → new ≡ true → (old ≡ true) ⊎ (inside ≡ true)
or-true true inside new is some = inl refl
or-true false inside new is some = inr (sym is ∙ some)

module _ (current : Current) (nodes : List Branch) (i : ℕ) (b : Branch) (inside : i < length nodes) (is : get_or nodes i b ≡ b) where
  -- a key is still by one node more, if that one is known, or does not lie within it
  pub still-more : (key : VoxelKey) → IsStill current (take i nodes) key → (is_within key b.0 ≡ true → IsTold current b.0 b.1.mask b.1.points) → IsStill current (take (i + 1) nodes) key
  still-more key still here =
      subst (λ (w : List Branch). IsStill current w key) (take-next nodes i b inside is) (λ node member. by_member node (IsMember-append node (take i nodes) (b ∷ []) member))
    where
      by_member : (node : Branch) → IsMember node (take i nodes) ⊎ IsMember node (b ∷ []) → is_within key node.0 ≡ true → IsTold current node.0 node.1.mask node.1.points
      by_member node (inl before) within = still node before within
      by_member node (inr (inl same)) within =
          subst (λ (c : Branch). IsTold current c.0 c.1.mask c.1.points) same (here (subst (λ (c : Branch). is_within key c.0 ≡ true) (sym same) within))
      by_member node (inr (inr none)) within = absurd none

  -- a key that is not noted, though those above a node are, does not have that node within it
  pub still-noted : (key : VoxelKey) (old new : Bool) → (old ≡ false → IsStill current (take i nodes) key) → new ≡ (old || is_within key b.0) → new ≡ false → IsStill current (take (i + 1) nodes) key
  still-noted key old new still noted none =
      let parts = or-false old (is_within key b.0) new noted none in
      still-more key (still parts.0) (λ within. absurd (let wrong : true ≡ false = sym within ∙ parts.1 in cc))

-- a key that is noted is not still
pub grown-noted : (current : Current) (nodes : List Branch) (b : Branch) → IsMember b nodes → ¬ IsTold current b.0 b.1.mask b.1.points → (key : VoxelKey) (old new : Bool) → (old ≡ true → ¬ IsStill current nodes key) → new ≡ (old || is_within key b.0) → new ≡ true → ¬ IsStill current nodes key
grown-noted current nodes b member untold key old new grown noted some still =
    ⊎_elim (λ before. grown before still) (λ within. untold (still b member within)) (or-true old (is_within key b.0) new noted some)

-- ---- from call to call

-- where the tiles that the current checkpoint names are as they were, still nodes have the tiles that they had
pub still-same : (current : Current) (nodes : List Branch) (old new : Files) → ((line : NodeLine) → IsNamed current (tile_of_line line) → new (tile_of_line line) ≡ old (tile_of_line line)) → StillAreSame current nodes old → StillAreSame current nodes new
still-same current nodes old new same has b member still = tile-kept current b.0 b.1.points old new same (has b member still)

-- a still node has its tile
pub still-tile : (current : Current) (nodes : List Branch) (b : Branch) → IsMember b nodes → IsStill current nodes b.0 → (old new : Option Files) → StepsBy (Keeps current) old new → Tells (StillAreSame current nodes) old → Tells (HasTile current b.0 b.1.points) new
still-tile current nodes b member still None None keeps has = tt
still-tile current nodes b member still None (Some new) keeps has = absurd keeps
still-tile current nodes b member still (Some old) None keeps has = absurd keeps
still-tile current nodes b member still (Some old) (Some new) keeps has =
    tile-kept current b.0 b.1.points old new (λ line named. keeps.tiles (tile_of_line line) named) (has b member still)

-- so where no name but a gate changes
pub still-gate : (current : Current) (nodes : List Branch) (letter : Letter) (all : Files) (old new : Option Files) → StepsBy (SameBut (gate_name letter)) old new → old ≡ Some all → StillAreSame current nodes all → (now : Files) × (new ≡ Some now) × StillAreSame current nodes now
still-gate current nodes letter all old new same told still =
    let at = stepped (SameBut (gate_name letter)) old new all told same in
    (at.0, at.1, still-same current nodes all at.0 (λ line named. at.2 (tile_of_line line) (λ e. gate-tile letter line.letter line.key (sym e))) still)

-- and where it is kept until later, they had them before
pub still-before : (current : Current) (nodes : List Branch) (old new : Option Files) (all : Files) → new ≡ Some all → StepsBy (Keeps current) old new → StillAreSame current nodes all → (was : Files) × (old ≡ Some was) × StillAreSame current nodes was
still-before current nodes old None all told keeps still = absurd (let wrong : None ≡ Some all = told in cc)
still-before current nodes None (Some new) all told keeps still = absurd keeps
still-before current nodes (Some old) (Some new) all told keeps still =
    let same : new ≡ all = some-same new all told in
    (old, refl, still-same current nodes new old (λ line named. sym (keeps.tiles (tile_of_line line) named)) (subst (λ (w : Files). StillAreSame current nodes w) (sym same) still))
