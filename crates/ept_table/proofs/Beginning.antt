-- The root alone, and a reader of all points.
use Rattle.std.proofs.Common.{◌≡◌, ◌∙◌, ℕ, zero, suc, ◌<◌, Bool, true, false, inl, inr, List, [], ◌∷◌, map, length, drop, refl, sym, ap, subst, arith, Some, None, sum_by}
use Rattle.std.specs.List.{All}
use Rattle.std.proofs.lemmas.Bool.{false≢true}
use Rattle.std.proofs.lemmas.List.Sums.{sum_by-cons}
use Rattle.std.proofs.lemmas.List.Elements.{All-nil}
use Rattle.ept_point.specs.declared.point.Point.{Point}
use Rattle.ept_space.specs.VoxelKey.{VoxelKey, root}
use Rattle.ept_space.specs.OctreeCube.{InBox}
use Rattle.ept_sample.specs.Place.{place}
use Rattle.ept_sample.specs.Arrivals.{none_open, all_octants}
use Rattle.ept_core.specs.declared.node.Node as core
use Rattle.ept_core.specs.State.{State, blank, node_at, has_node, has_open}
use Rattle.ept_core.specs.Law.{KeepsLaw}
use Rattle.ept_core.proofs.CoreLaws.{begun-keeps}
use Rattle.ept_core.proofs.NodeMap.{has_node-key}
use Rattle.ept_grid.specs.Mask.{opened}
use Rattle.ept_grid.specs.Node.{Node, is_open_in}
use Rattle.ept_node.specs.Batch.{seen}
use Rattle.ept_node.specs.Shown.{empty_node}
use Rattle.ept_node.proofs.Bridges.{absent-stands}
use Rattle.ept_table.specs.declared.note.Told.{Told}
use Rattle.ept_table.specs.declared.taken.Cell.{Cell}
use Rattle.ept_table.specs.declared.taken.Progress.{Progress}
use Rattle.ept_table.specs.declared.taken.Taken.{Taken}
use Rattle.ept_table.specs.declared.taken.Taken.TheVariants.{Blank, Standing, Reading}
use Rattle.ept_table.specs.At.{At}
use Rattle.ept_table.specs.Taken.{count_of, slot_at}
use Rattle.ept_table.specs.Shown.{KeyOf, IsTold, IsSound, Shows}
use Rattle.ept_table.specs.Steps.{IsPlanted}
use Rattle.ept_table.specs.Tells.{IsLanded}
use Rattle.ept_table.proofs.Lists.{at-same, at-head, at-rest, at-next, at-zero, nothing-at}

-- if no list has an item, the joined lists have none
none_in_all : {X : Type 0} (f : X → ℕ) (xs : List X) → ((i : ℕ) (x : X) → At xs i x → f x ≡ 0) → sum_by f xs ≡ 0
none_in_all f [] none = refl
none_in_all f (x ∷ xs) none =
    let one : f x ≡ 0 = none 0 x (at-zero x xs) in
    let more : sum_by f xs ≡ 0 = none_in_all f xs (λ i y a. none (suc i) y (at-next x xs i y a)) in
    omega (arith, sum_by-cons f x xs, one, more)

shut : (o : ℕ) → has_open blank o ≡ false
unfolding has_open
shut o = refl

closed_at : (key : VoxelKey) (told : Told) (o : ℕ) → o < 8 → is_open_in (empty_node key told.rules) o ≡ false
closed_at key told o low = sym ((absent-stands key told.rules).opens o low) ∙ shut o

none_open_seen : map (opened 0) all_octants ≡ map none_open all_octants
unfolding opened
none_open_seen = refl

one_key : (k : ℕ) (key : VoxelKey) → KeyOf (root ∷ []) k key → k ≡ 1
unfolding KeyOf
one_key zero key m = absurd m
one_key (suc zero) key m = refl
one_key (suc (suc i)) key m = absurd (nothing-at (at-rest root [] i key m))

root_key : KeyOf (root ∷ []) 1 root
unfolding KeyOf
root_key = at-zero root []

one_there : (i : ℕ) (key : VoxelKey) → At (root ∷ []) i key → (i ≡ 0) × (root ≡ key)
one_there zero key a = (refl, at-head a)
one_there (suc i) key a = absurd (nothing-at (at-rest root [] i key a))

root_alone : (e : core.Node) (key : VoxelKey) → has_node ((root, e) ∷ []) key ≡ true → root ≡ key
root_alone e key is =
    elim (has_node-key ((root, e) ∷ []) key is) [ inl same ↦ same | inr more ↦ absurd more ]

root_there : (e : core.Node) → (has_node ((root, e) ∷ []) root ≡ true) × (node_at ((root, e) ∷ []) root ≡ e)
unfolding has_node node_at
root_there e = (refl, refl)

-- a node without points, octants and children at the root
abbrev IsTop : Told → Taken → Type 0
IsTop told Blank = ⊥
IsTop told (Reading q) = ⊥
IsTop told (Standing d) =
    (d.node ≡ empty_node root told.rules) × ((o : ℕ) → o < 8 → slot_at (Standing d) o ≡ 0)

module _ (told : Told) (items : List Taken) (r : Progress) (top : Cell) (is_told : IsTold told) (p : IsPlanted told items r top) where
  -- a node is in slot 1 alone
  standing_top : (k : ℕ) (c : Cell) → At items k (Standing c) → (k ≡ 1) × IsTop told (Standing c)
  standing_top zero c a =
      let e : Standing c ≡ Reading r = at-same a p.at_first in absurd (cc)
  standing_top (suc zero) c a = (refl, subst (λ (z : Taken). IsTop told z) (at-same p.at_top a) (p.top_is, p.childless))
  standing_top (suc (suc k)) c a =
      let e : Standing c ≡ Blank = p.blank (suc (suc k)) (Standing c) a (omega arith) in absurd (cc)

  reading_first : (k : ℕ) (q : Progress) → At items k (Reading q) → k ≡ 0
  reading_first zero q a = refl
  reading_first (suc zero) q a =
      let e : Reading q ≡ Standing top = at-same a p.at_top in absurd (cc)
  reading_first (suc (suc k)) q a =
      let e : Reading q ≡ Blank = p.blank (suc (suc k)) (Reading q) a (omega arith) in absurd (cc)

  closed_top : (c : Cell) (o : ℕ) → c.node ≡ empty_node root told.rules → o < 8 → is_open_in c.node o ≡ false
  closed_top c o e low = ap (λ (g : Node). is_open_in g o) e ∙ closed_at root told o low

  never_open : (k : ℕ) (c : Cell) (o : ℕ) → At items k (Standing c) → o < 8 → is_open_in c.node o ≡ true → ⊥
  never_open k c o a low is =
      let t = standing_top k c a in false≢true (sym (closed_top c o t.1.0 low) ∙ is)

  count_none : (k : ℕ) (x : Taken) → At items k x → count_of x ≡ 0
  count_none k Blank a = refl
  count_none k (Reading q) a = refl
  count_none k (Standing c) a =
      let t = standing_top k c a in ap (λ (g : Node). length g.points) t.1.0

  sound_top : (k : ℕ) (c : Cell) → At items k (Standing c) → IsSound told c
  sound_top k c a =
      let t = standing_top k c a in
      let e : c.node ≡ empty_node root told.rules = t.1.0 in
      record {
        rules = ap (λ (g : Node). g.rules) e;
        low = let d : c.node.key.depth ≡ 0 = ap (λ (g : Node). g.key.depth) e in omega (arith, d);
        inside = subst (λ (g : Node). All (λ (q : Point). InBox told.rules.cube g.key (place q)) g.points) (sym e) (All-nil (λ (q : Point). InBox told.rules.cube root (place q)));
        deepest = λ o low is. absurd (never_open k c o a low is);
      }

  top_key : (k : ℕ) (c : Cell) → At items k (Standing c) → KeyOf (root ∷ []) k c.node.key
  top_key k c a =
      let t = standing_top k c a in
      subst (λ (n : ℕ). KeyOf (root ∷ []) n c.node.key) (sym t.0) (subst (λ (key : VoxelKey). KeyOf (root ∷ []) 1 key) (sym (ap (λ (g : Node). g.key) t.1.0)) root_key)

  abbrev root_node : core.Node
  root_node = record { points = []; opened = map none_open all_octants; is_resident = true }

  seen_top : (c : Cell) → c.node ≡ empty_node root told.rules → seen c.node ≡ root_node
  seen_top c e =
      ap (λ (g : Node). seen g) e ∙ ap (λ (os : List Bool). let n : core.Node = record { points = []; opened = os; is_resident = true } in n) none_open_seen

  shows_root : told.tells ≡ true → Shows told r items []
  shows_root tells = record {
    nodes = (root, root_node) ∷ [];
    law = subst (λ (n : ℕ). KeepsLaw told.rules told.points (let z : State = record { left = drop n told.points; flights = []; nodes = (root, root_node) ∷ [] } in z)) (sym p.undrawn) (begun-keeps told.rules told.points (p.points tells).0);
    standing = λ k c a. (
        let t = standing_top k c a in
        let there = root_there root_node in
        subst (λ (key : VoxelKey). (has_node ((root, root_node) ∷ []) key ≡ true) × (node_at ((root, root_node) ∷ []) key ≡ seen c.node)) (sym (ap (λ (g : Node). g.key) t.1.0)) (there.0, there.1 ∙ sym (seen_top c t.1.0)));
    in_slot = λ key is. (1, top, p.at_top, ap (λ (g : Node). g.key) p.top_is ∙ root_alone root_node key is);
    total = (p.points tells).1;
  }

  -- the root is the only node
  alone : (i : ℕ) (key : VoxelKey) → At told.begun i key → (i ≡ 0) × (root ≡ key)
  alone i key b = one_there i key (subst (λ (keys : List VoxelKey). At keys i key) p.begun b)

  first_key : (i : ℕ) (key : VoxelKey) → At told.begun i key → KeyOf (root ∷ []) (suc i) key
  first_key i key b =
      let one = alone i key b in
      subst (λ (n : ℕ). KeyOf (root ∷ []) (suc n) key) (sym one.0) (subst (λ (k : VoxelKey). KeyOf (root ∷ []) 1 k) one.1 root_key)

  first_stands : (i : ℕ) (key : VoxelKey) → At told.begun i key → (c : Cell) × At items (suc i) (Standing c)
  first_stands i key b =
      (top, subst (λ (n : ℕ). At items (suc n) (Standing top)) (sym (alone i key b).0) p.at_top)

  pub beginning-landed : IsLanded told 1 items
  beginning-landed = record {
    keys = root ∷ [];
    reader = r;
    is_told = is_told;
    seats = record {
      knows = λ i v a. absurd (nothing-at a);
      idle = λ i v a. absurd (nothing-at a);
      spent = λ i v a. absurd (nothing-at a);
      full_above = λ i v a. absurd (nothing-at a);
      above_full = λ over. absurd (omega (arith, over, is_told.some));
    };
    base = record {
      size = p.size;
      at_first = p.at_first;
      one_reader = reading_first;
      fits = p.fits;
      given = λ i v a. absurd (nothing-at a);
      failed = λ e is. absurd (let both : None ≡ Some e = sym p.sound ∙ is in cc);
      noted = λ i v e a. absurd (nothing-at a);
      keyed = top_key;
      sound = sound_top;
      flying = λ f m. absurd m;
      adds_up = let counts : sum_by count_of items ≡ 0 = none_in_all count_of items count_none in omega (arith, counts, p.undrawn);
    };
    tree = record {
      counted = omega (arith, is_told.some);
      first = first_key;
      distinct = λ j k key a b. one_key j key a ∙ sym (one_key k key b);
      rooted = first_stands;
      undrawn = λ k x a more. p.blank k x a (omega (arith, more));
      carried = λ i v c a. absurd (nothing-at a);
      lands = λ i v c a. absurd (nothing-at a);
      children = λ k c o a low is. absurd (never_open k c o a low is);
      closed = λ k c o a low is. (standing_top k c a).1.1 o low;
      awaited = λ k c o a low is. absurd (never_open k c o a low is);
      born = λ k key a. inl (one_key k key a);
      draws = λ i v held x d a. absurd (nothing-at a);
      full_over = λ tells over. absurd (omega (arith, over, is_told.some));
    };
    shows = shows_root;
  }
