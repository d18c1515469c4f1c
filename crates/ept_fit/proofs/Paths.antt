-- The paths of keys, and their order.
use Rattle.std.proofs.Common.{◌≡◌, ◌∙◌, ℕ, zero, suc, ◌+◌, ◌-◌, ◌≤◌, ◌<◌, Bool, true, false, inl, inr, List, [], ◌∷◌, ◌++◌, take, refl, sym, ap, subst, arith, length, length-append, append_assoc, Ordering}
use Rattle.std.specs.Ordering.{nat_cmp, is_lt, ordering_then}
use Rattle.std.specs.Cmp.Lexicographic.{slice_cmp}
use Rattle.std.proofs.Math.Seq.{take-length, take-append_seam}
use Rattle.std.proofs.lemmas.List.{append-nil, take-append-le}
use Rattle.std.proofs.lemmas.Bool.{false≢true}
use Rattle.std.proofs.lemmas.Bool.Decides.{nat_tests}
use Rattle.ept_space.specs.VoxelKey.{VoxelKey, IsKey, child, parent, octant_of, is_within, is_below}
use Rattle.ept_space.proofs.Family.{depth-child, depth-parent, parent-child, octant_of-child, child-parent, root-only, IsKey-parent}
use Rattle.ept_space.proofs.Within.{depth-within, is_within-self, is_within-level, is_below-from, is_below-within, is_below-deeper, is_within-above, is_below-parent}
use Rattle.ept_sample.proofs.SamplingLaws.{below_or_at}
use Rattle.ept_fit.specs.Walk.{last_steps, path}

-- ---- one step

path-root : (key : VoxelKey) → key.depth ≡ 0 → path key ≡ []
unfolding path
path-root key e = ap (λ (n : ℕ). last_steps n key) e

path-parent : (key : VoxelKey) → 0 < key.depth → path key ≡ path (parent key) ++ (octant_of key ∷ [])
unfolding path
path-parent key deep =
    let more : key.depth ≡ suc (key.depth - 1) = omega (arith, deep) in
    ap (λ (n : ℕ). last_steps n key) more ∙ ap (λ (n : ℕ). last_steps n (parent key) ++ (octant_of key ∷ [])) (sym (depth-parent key))

length_by : (n : ℕ) (key : VoxelKey) → key.depth ≡ n → length (path key) ≡ n
length_by zero key e = ap (λ (w : List ℕ). length w) (path-root key e)
length_by (suc n) key e =
    let shorter = depth-parent key in
    let up = length_by n (parent key) (omega (arith, e, shorter)) in
    ap (λ (w : List ℕ). length w) (path-parent key (omega (arith, e)))
    ∙ (length-append (path (parent key)) (octant_of key ∷ []) ∙ omega (arith, up))

length-path : (key : VoxelKey) → length (path key) ≡ key.depth
length-path key = length_by key.depth key refl

-- ---- a key within another has a path that extends its path

extends_by : (n : ℕ) (top key : VoxelKey) → key.depth ≤ top.depth + n → is_within top key ≡ true → (rest : List ℕ) × (path key ≡ path top ++ rest)
extends_by zero top key near w =
    ([], ap path (sym (is_within-level top key w (omega (arith, near)))) ∙ sym (append-nil (path top)))
extends_by (suc n) top key near w =
    elim (below_or_at top.depth key.depth (depth-within top key w)) [
      | inr level ↦ ([], ap path (sym (is_within-level top key w (omega (arith, level)))) ∙ sym (append-nil (path top)))
      | inl deeper ↦
          let shorter = depth-parent key in
          let up = extends_by n top (parent key) (omega (arith, near, shorter)) (is_within-above top key (is_below-from top key w deeper)) in
          (up.0 ++ (octant_of key ∷ []), path-parent key (omega (arith, deeper)) ∙ (ap (λ (w : List ℕ). w ++ (octant_of key ∷ [])) up.1 ∙ append_assoc (path top) up.0 (octant_of key ∷ [])))
    ]

pub path-within : (top key : VoxelKey) → is_within top key ≡ true → (rest : List ℕ) × (path key ≡ path top ++ rest)
path-within top key = extends_by key.depth top key (omega arith)

-- ---- keys have paths of their own

apart_last : (xs ys : List ℕ) (x y : ℕ) → xs ++ (x ∷ []) ≡ ys ++ (y ∷ []) → (xs ≡ ys) × (x ≡ y)
apart_last [] [] x y e = (refl, cc)
apart_last [] (b ∷ ys) x y e =
    let long : 1 ≡ suc (length (ys ++ (y ∷ []))) = ap (λ (w : List ℕ). length w) e in
    let one = length-append ys (y ∷ []) in
    absurd (omega (arith, long, one))
apart_last (a ∷ xs) [] x y e =
    let long : suc (length (xs ++ (x ∷ []))) ≡ 1 = ap (λ (w : List ℕ). length w) e in
    let one = length-append xs (x ∷ []) in
    absurd (omega (arith, long, one))
apart_last (a ∷ xs) (b ∷ ys) x y e =
    let first : a ≡ b = cc in
    let rest : xs ++ (x ∷ []) ≡ ys ++ (y ∷ []) = cc in
    let more = apart_last xs ys x y rest in
    let same : xs ≡ ys = more.0 in
    (cc, more.1)

same_by : (n : ℕ) (a b : VoxelKey) → a.depth ≡ n → b.depth ≡ n → IsKey a → IsKey b → path a ≡ path b → a ≡ b
same_by zero a b e f ka kb same = root-only a ka e ∙ sym (root-only b kb f)
same_by (suc n) a b e f ka kb same =
    let up_a = depth-parent a in
    let up_b = depth-parent b in
    let deep_a : 0 < a.depth = omega (arith, e) in
    let deep_b : 0 < b.depth = omega (arith, f) in
    let last = apart_last (path (parent a)) (path (parent b)) (octant_of a) (octant_of b) (sym (path-parent a deep_a) ∙ (same ∙ path-parent b deep_b)) in
    let up : parent a ≡ parent b = same_by n (parent a) (parent b) (omega (arith, e, up_a)) (omega (arith, f, up_b)) (IsKey-parent a ka) (IsKey-parent b kb) last.0 in
    sym (child-parent a deep_a)
    ∙ (ap (λ (w : VoxelKey). child w (octant_of a)) up ∙ (ap (λ (o : ℕ). child (parent b) o) last.1 ∙ child-parent b deep_b))

same_path : (a b : VoxelKey) → IsKey a → IsKey b → path a ≡ path b → a ≡ b
same_path a b ka kb same =
    same_by a.depth a b refl (sym (length-path b) ∙ (ap (λ (w : List ℕ). length w) (sym same) ∙ length-path a)) ka kb same

-- ---- a key whose path extends that of another is within it

within_by : (n : ℕ) (top key : VoxelKey) → key.depth ≡ top.depth + n → IsKey top → IsKey key → take top.depth (path key) ≡ path top → is_within top key ≡ true
within_by zero top key near kt kk front =
    let level : top.depth ≡ length (path key) = (omega (arith, near) ∙ sym (length-path key)) in
    let all : path key ≡ path top = sym (take-length (path key)) ∙ (ap (λ (n : ℕ). take n (path key)) (sym level) ∙ front) in
    subst (λ (w : VoxelKey). is_within top w ≡ true) (sym (same_path key top kk kt all)) (is_within-self top)
within_by (suc n) top key near kt kk front =
    let shorter = depth-parent key in
    let deep : 0 < key.depth = omega (arith, near) in
    let fits : top.depth ≤ length (path (parent key)) = (let long = length-path (parent key) in omega (arith, near, shorter, long)) in
    let up : take top.depth (path (parent key)) ≡ path top = sym (take-append-le top.depth (path (parent key)) (octant_of key ∷ []) fits) ∙ (ap (λ (w : List ℕ). take top.depth w) (sym (path-parent key deep)) ∙ front) in
    is_below-within top key (is_below-parent top key (within_by n top (parent key) (omega (arith, near, shorter)) kt (IsKey-parent key kk) up) deep)

pub within-path : (top key : VoxelKey) (rest : List ℕ) → IsKey top → IsKey key → path key ≡ path top ++ rest → is_within top key ≡ true
within-path top key rest kt kk e =
    let long : length (path key) ≡ length (path top) + length rest = ap (λ (w : List ℕ). length w) e ∙ length-append (path top) rest in
    let of_top = length-path top in
    let of_key = length-path key in
    within_by (key.depth - top.depth) top key (omega (arith, long, of_top, of_key)) kt kk (ap (λ (n : ℕ). take n (path key)) (sym of_top) ∙ (ap (λ (w : List ℕ). take (length (path top)) w) e ∙ take-append_seam (path top) rest))

-- ---- the order of paths

abbrev pub is_less : List ℕ → List ℕ → Bool
is_less xs ys = is_lt (slice_cmp nat_cmp xs ys)

same_first : (x : ℕ) (rest : Ordering) → is_lt rest ≡ true → is_lt (ordering_then (nat_cmp x x) rest) ≡ true
same_first x rest less = grind (arith, nat_tests)

front_less : (xs ys : List ℕ) → length xs < length (xs ++ ys) → is_less xs (xs ++ ys) ≡ true
front_less [] [] longer = absurd (let none : 0 < 0 = longer in omega (arith, none))
front_less [] (y ∷ ys) longer = refl
front_less (x ∷ xs) ys longer =
    let more : suc (length xs) < suc (length (xs ++ ys)) = longer in
    same_first x (slice_cmp nat_cmp xs (xs ++ ys)) (front_less xs ys (omega (arith, more)))

-- a key above another has the lesser path
pub below-less : (top key : VoxelKey) → is_below top key ≡ true → is_less (path top) (path key) ≡ true
below-less top key below =
    let r = path-within top key (is_below-within top key below) in
    let of_top = length-path top in
    let of_key = length-path key in
    let deeper = is_below-deeper top key below in
    let longer : length (path top) < length (path top ++ r.0) = subst (λ (w : List ℕ). length (path top) < length w) r.1 (omega (arith, of_top, of_key, deeper)) in
    subst (λ (w : List ℕ). is_less (path top) w ≡ true) (sym r.1) (front_less (path top) r.0 longer)

lesser_first : (a b : ℕ) (rest : Ordering) → a < b → is_lt (ordering_then (nat_cmp a b) rest) ≡ true
lesser_first a b rest less = grind (arith, nat_tests)

branch_less : (xs ys zs : List ℕ) (a b : ℕ) → a < b → is_less (xs ++ a ∷ ys) (xs ++ b ∷ zs) ≡ true
branch_less [] ys zs a b less = lesser_first a b (slice_cmp nat_cmp ys zs) less
branch_less (x ∷ xs) ys zs a b less =
    same_first x (slice_cmp nat_cmp (xs ++ a ∷ ys) (xs ++ b ∷ zs)) (branch_less xs ys zs a b less)

-- the path of a key within a child
path-child : (key lower : VoxelKey) (o : ℕ) → o < 8 → is_within (child key o) lower ≡ true → (rest : List ℕ) × (path lower ≡ path key ++ o ∷ rest)
path-child key lower o small w =
    let r = path-within (child key o) lower w in
    let deeper = depth-child key o in
    let at : path (child key o) ≡ path key ++ (o ∷ []) = path-parent (child key o) (omega (arith, deeper)) ∙ (ap (λ (k : VoxelKey). path k ++ (octant_of (child key o) ∷ [])) (parent-child key o) ∙ ap (λ (n : ℕ). path key ++ (n ∷ [])) (octant_of-child key o small)) in
    (r.0, r.1 ∙ (ap (λ (w : List ℕ). w ++ r.0) at ∙ append_assoc (path key) (o ∷ []) r.0))

-- of keys in two octants, the one in the lesser has the lesser path
pub octants-less : (key one other : VoxelKey) (a b : ℕ) → a < b → b < 8 → is_within (child key a) one ≡ true → is_within (child key b) other ≡ true → is_less (path one) (path other) ≡ true
octants-less key one other a b less small v w =
    let r = path-child key one a (omega (arith, less, small)) v in
    let s = path-child key other b small w in
    subst (λ (p : List ℕ). is_less p (path other) ≡ true) (sym r.1) (subst (λ (p : List ℕ). is_less (path key ++ a ∷ r.0) p ≡ true) (sym s.1) (branch_less (path key) r.0 s.0 a b less))

level_first : (p q : ℕ) (a b : Ordering) → is_lt (ordering_then (nat_cmp q p) a) ≡ false → is_lt (ordering_then (nat_cmp p q) b) ≡ false → (p ≡ q) × (is_lt a ≡ false) × (is_lt b ≡ false)
level_first p q a b e f = (grind (arith, nat_tests), grind (arith, nat_tests), grind (arith, nat_tests))

-- what is between a path and one that extends it extends it too
pub between : (ps qs rest : List ℕ) → is_less qs ps ≡ false → is_less (ps ++ rest) qs ≡ false → (more : List ℕ) × (qs ≡ ps ++ more)
between [] qs rest e f = (qs, refl)
between (p ∷ ps) [] rest e f = absurd (false≢true (sym e))
between (p ∷ ps) (q ∷ qs) rest e f =
    let first = level_first p q (slice_cmp nat_cmp qs ps) (slice_cmp nat_cmp (ps ++ rest) qs) e f in
    let r = between ps qs rest first.1 first.2 in
    (r.0, ap (λ (w : ℕ). w ∷ qs) (sym first.0) ∙ ap (λ (w : List ℕ). p ∷ w) r.1)
