-- Lines whose tiles are under the other versions: they are those of the same octree, and each comes in the place of the one before.
use Rattle.std.proofs.Common.{◌≡◌, ◌∙◌, inl, inr, ℕ, zero, suc, ◌+◌, ◌<◌, ◌≤◌, List, [], ◌∷◌, ◌++◌, map, take, drop, length, get_or, append_assoc, refl, sym, ap, subst, arith, Some}
use Rattle.std.specs.Prelude.{All}
use Rattle.std.specs.declared.cmp.Ordering.TheVariants.{Less}
use Rattle.std.proofs.lemmas.List.{map-append, take_all}
use Rattle.std.proofs.lemmas.List.Sums.{sum_by-cons}
use Rattle.ept_space.specs.VoxelKey.{VoxelKey, key_cmp, AreAscending, root}
use Rattle.ept_sample.specs.Members.{IsMember}
use Rattle.ept_sample.proofs.Members.{all-member, All-members}
use Rattle.ept_ckpt.specs.declared.node_line.NodeLine.{NodeLine}
use Rattle.ept_ckpt.specs.Octree.{keys_of, is_among, HasParent, TellsChildren, AreWholeOctree, points_in, AreNodesOf}
use Rattle.ept_save.specs.Lines.{with_line}
use Rattle.ept_save.specs.Migrating.{turned}
use Rattle.ept_save.proofs.KeyLines.{AreBehind, AreBefore, DoAscend, before-next, take-next, drop-next, line-between}

-- ---- what does not change

pub turned-keys : (lines : List NodeLine) → keys_of (map turned lines) ≡ keys_of lines
turned-keys [] = refl
turned-keys (l ∷ lines) = ap (λ (w : List VoxelKey). l.key ∷ w) (turned-keys lines)

pub turned-points : (lines : List NodeLine) → points_in (map turned lines) ≡ points_in lines
turned-points [] = refl
turned-points (l ∷ lines) =
    sum_by-cons (λ (x : NodeLine). x.count) (turned l) (map turned lines)
    ∙ (ap (λ (n : ℕ). l.count + n) (turned-points lines) ∙ sym (sum_by-cons (λ (x : NodeLine). x.count) l lines))

-- a turned line is one of the lines, turned
pub turned-member : (lines : List NodeLine) (m : NodeLine) → IsMember m (map turned lines) → (l : NodeLine) × IsMember l lines × (turned l ≡ m)
turned-member [] m is = absurd is
turned-member (l ∷ lines) m (inl is) = (l, inl refl, is)
turned-member (l ∷ lines) m (inr is) = let more = turned-member lines m is in (more.0, inr more.1, more.2)

-- a fact that does not speak of the version of a tile
pub turned-all : (P : NodeLine → Type 0) → ((l : NodeLine) → P l → P (turned l)) → (lines : List NodeLine) → All P lines → All P (map turned lines)
turned-all P stays lines all =
    All-members P (map turned lines) (λ m is. (
    let l = turned-member lines m is in
    subst P l.2 (stays l.0 (all-member P l.0 lines all l.1))))

pub turned-octree : (lines : List NodeLine) → AreWholeOctree lines → AreWholeOctree (map turned lines)
turned-octree lines octree = record {
  ascend = subst AreAscending (sym (turned-keys lines)) octree.ascend;
  rooted = ap (λ (keys : List VoxelKey). is_among keys root) (turned-keys lines) ∙ octree.rooted;
  parents = subst (λ (keys : List VoxelKey). All (HasParent keys) keys) (sym (turned-keys lines)) octree.parents;
  children = subst (λ (keys : List VoxelKey). All (TellsChildren keys) (map turned lines)) (sym (turned-keys lines))
      (turned-all (TellsChildren (keys_of lines)) (λ l tells. tells) lines octree.children);
}

pub turned-nodes : (points : ℕ) (lines : List NodeLine) → AreNodesOf points lines → AreNodesOf points (map turned lines)
turned-nodes points lines are = record { octree = turned-octree lines are.octree; counted = turned-points lines ∙ are.counted }

-- ---- line by line

-- the lines after one
behind-next : (lines : List NodeLine) (i : ℕ) (line l : NodeLine) → DoAscend lines → i < length lines → get_or lines i line ≡ line → IsMember l (drop (suc i) lines) → key_cmp line.key l.key ≡ Less
behind-next [] i line l up inside is m = absurd (omega (arith, inside))
behind-next (x ∷ xs) zero line l up inside is m = subst (λ (w : NodeLine). key_cmp w.key l.key ≡ Less) is (up.0 l m)
behind-next (x ∷ xs) (suc i) line l up inside is m = behind-next xs i line l up.1 (omega (arith, inside)) is m

-- this number of lines is turned, and the others are not
abbrev pub turned_to : ℕ → List NodeLine → List NodeLine
turned_to i lines = map turned (take i lines) ++ drop i lines

-- one more is
pub turned-next : (lines : List NodeLine) (i : ℕ) (line : NodeLine) → DoAscend lines → i < length lines → get_or lines i line ≡ line → with_line (turned line) (turned_to i lines) ≡ turned_to (i + 1) lines
turned-next lines i line up inside is =
    ap (λ (w : List NodeLine). with_line (turned line) (map turned (take i lines) ++ w)) (drop-next lines i line inside is)
    ∙ (line-between (turned line) (map turned (take i lines)) (Some line) (drop (i + 1) lines) low (λ l e. ap (λ (w : NodeLine). w.key) (sym (one line l e))) high
    ∙ (sym (append_assoc (map turned (take i lines)) (turned line ∷ []) (drop (i + 1) lines))
    ∙ ap (λ (w : List NodeLine). w ++ drop (i + 1) lines) front))
  where
    one : (a b : NodeLine) → Some a ≡ Some b → a ≡ b
    one a b e = cc

    next : suc i ≡ i + 1
    next = omega arith

    low : AreBefore line.key (map turned (take i lines))
    low m member =
        let l = turned-member (take i lines) m member in
        subst (λ (w : NodeLine). key_cmp w.key line.key ≡ Less) l.2 (before-next lines i line l.0 up inside is l.1)

    high : AreBehind line.key (drop (i + 1) lines)
    high l m = behind-next lines i line l up inside is (subst (λ (n : ℕ). IsMember l (drop n lines)) (sym next) m)

    front : map turned (take i lines) ++ turned line ∷ [] ≡ map turned (take (i + 1) lines)
    front = sym (map-append turned (take i lines) (line ∷ [])) ∙ ap (map turned) (take-next lines i line inside is)

-- none at first, and in the end all are
pub turned-none : (lines : List NodeLine) → lines ≡ turned_to 0 lines
turned-none lines = refl

pub turned-end : (lines : List NodeLine) (i : ℕ) → length lines ≤ i → turned_to i lines ≡ map turned lines
turned-end lines i end = ap (λ (w : List NodeLine). map turned w ++ drop i lines) (take_all i lines end) ∙ (ap (λ (w : List NodeLine). map turned lines ++ w) (none_left lines i end) ∙ nothing (map turned lines))
  where
    none_left : (xs : List NodeLine) (k : ℕ) → length xs ≤ k → drop k xs ≡ []
    none_left [] zero low = refl
    none_left [] (suc k) low = refl
    none_left (x ∷ xs) zero low = absurd (omega (arith, low))
    none_left (x ∷ xs) (suc k) low = none_left xs k (omega (arith, low))

    nothing : (xs : List NodeLine) → xs ++ [] ≡ xs
    nothing [] = refl
    nothing (x ∷ xs) = ap (λ (w : List NodeLine). x ∷ w) (nothing xs)
