-- The order of keys in preorder.
use Rattle.std.proofs.Common.{◌≡◌, ◌≢◌, ◌∙◌, ◌≤◌, ℕ, Bool, true, false, inl, inr, ◌⊎◌, List, [], ◌++◌, refl, sym, ap, subst, Ordering, Less, Equal, Greater}
use Rattle.std.specs.Ordering.{nat_cmp, is_eq, is_lt, ordering_reverse}
use Rattle.std.specs.Cmp.Lexicographic.{slice_cmp}
use Rattle.std.proofs.lemmas.Cmp.{nat_list_cmp_total, tied_itself}
use Rattle.std.proofs.lemmas.List.{append-nil}
use Rattle.std.proofs.lemmas.Map.Text.{is_eq-slice_cmp}
use Rattle.std.proofs.lemmas.Slice.Eq.{bytes_eq-Decides}
use Rattle.ept_space.specs.VoxelKey.{VoxelKey, IsKey, is_within, is_below}
use Rattle.ept_space.proofs.KeyOrder.{less-is_lt}
use Rattle.ept_space.proofs.Within.{depth-within, is_within-level}
use Rattle.ept_fit.specs.Walk.{path}
use Rattle.ept_fit.proofs.Paths.{path-within, within-path, below-less, is_less, between}
use Rattle.ept_check.specs.Nodes.{ComesBefore}

pub same-path : (a b : VoxelKey) → IsKey a → IsKey b → path a ≡ path b → a ≡ b
same-path a b one other same =
    let down = within-path a b [] one other (sym same ∙ sym (append-nil (path a))) in
    let up = within-path b a [] other one (same ∙ sym (append-nil (path b))) in
    is_within-level a b down (depth-within b a up)

equal-lists : (xs ys : List ℕ) → slice_cmp nat_cmp xs ys ≡ Equal → xs ≡ ys
equal-lists xs ys is = (bytes_eq-Decides xs ys).0 (sym (is_eq-slice_cmp xs ys) ∙ ap is_eq is)

turned : (xs ys : List ℕ) → slice_cmp nat_cmp xs ys ≡ Greater → slice_cmp nat_cmp ys xs ≡ Less
turned xs ys is = nat_list_cmp_total.antisymm ys xs ∙ ap ordering_reverse is

behind : (xs ys : List ℕ) → slice_cmp nat_cmp xs ys ≡ Less → slice_cmp nat_cmp ys xs ≡ Greater
behind xs ys is = nat_list_cmp_total.antisymm ys xs ∙ ap ordering_reverse is

-- one of two keys comes first
pub one-first : (a b : VoxelKey) → IsKey a → IsKey b → a ≢ b → ComesBefore a b ⊎ ComesBefore b a
one-first a b one other apart = by_order (slice_cmp nat_cmp (path a) (path b)) refl
  where
    by_order : (o : Ordering) → slice_cmp nat_cmp (path a) (path b) ≡ o → ComesBefore a b ⊎ ComesBefore b a
    by_order Less is = inl is
    by_order Equal is = absurd (apart (same-path a b one other (equal-lists (path a) (path b) is)))
    by_order Greater is = inr (turned (path a) (path b) is)

pub before-self : (a : VoxelKey) → ComesBefore a a → ⊥
before-self a less =
    let tied = tied_itself nat_list_cmp_total (path a) in
    let wrong : Less ≡ Equal = sym less ∙ tied in
    cc

pub before-both : (a b : VoxelKey) → ComesBefore a b → ComesBefore b a → ⊥
before-both a b less more = before-self a (nat_list_cmp_total.trans (path a) (path b) (path a) less more)

-- a key comes before those below it
pub below-before : (top key : VoxelKey) → is_below top key ≡ true → ComesBefore top key
below-before top key below = less-is_lt (slice_cmp nat_cmp (path top) (path key)) (below-less top key below)

-- what comes between a key and one within it lies within it
pub between-within : (top mid key : VoxelKey) → IsKey top → IsKey mid → ComesBefore top mid → ComesBefore mid key → is_within top key ≡ true → is_within top mid ≡ true
between-within top mid key one other first second inside =
    let r = path-within top key inside in
    let after : is_less (path mid) (path top) ≡ false = ap is_lt (behind (path top) (path mid) first) in
    let before : is_less (path top ++ r.0) (path mid) ≡ false = subst (λ (p : List ℕ). is_less p (path mid) ≡ false) r.1 (ap is_lt (behind (path mid) (path key) second)) in
    let b = between (path top) (path mid) r.0 after before in
    within-path top mid b.0 one other b.1
