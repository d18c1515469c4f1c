-- The nodes of slots by their keys, and the keys in the order of the slots.
use Rattle.std.proofs.Common.{◌≡◌, ◌∙◌, ℕ, zero, suc, ◌<◌, ◌≤◌, true, false, ◌⊎◌, inl, inr, List, [], ◌∷◌, map, length, refl, sym, ap, subst, arith}
use Rattle.std.proofs.lemmas.Bool.{false≢true}
use Rattle.ept_space.specs.VoxelKey.{VoxelKey, same_key}
use Rattle.ept_space.proofs.Within.{same_key-true}
use Rattle.ept_sample.specs.Members.{IsMember}
use Rattle.ept_sample.proofs.Ascending.{IsRising}
use Rattle.ept_sample.proofs.KeyOrder.{key_before, IsRising-AllPairs}
use Rattle.ept_sample.proofs.Members.{IsMember-map, member-map}
use Rattle.ept_sample.proofs.Choices.{either}
use Rattle.ept_core.specs.declared.node.Node as core
use Rattle.ept_core.specs.State.{Entry, blank, keys_of, node_at, has_node, has_open}
use Rattle.ept_core.proofs.NodeMap.{node_at-member, node_at-absent, has_node-key, key-has_node}
use Rattle.ept_node.specs.Batch.{seen}
use Rattle.ept_table.specs.declared.taken.Cell.{Cell}
use Rattle.ept_table.specs.declared.taken.Progress.{Progress}
use Rattle.ept_table.specs.declared.taken.Taken.{Taken}
use Rattle.ept_table.specs.declared.taken.Taken.TheVariants.{Blank, Standing, Reading}
use Rattle.ept_table.specs.At.{At}
use Rattle.ept_table.specs.Shown.{KeyOf}
use Rattle.ept_table.specs.Octree.{Branch, key_of, entry_of, keys_in, branch_of, FillSlots, AreStanding}
use Rattle.ept_table.proofs.Glue.{standing-same}
use Rattle.ept_table.proofs.Lists.{at-same, at-head, at-rest, at-next, at-zero, nothing-at}

pub le_or_less : (a b : ℕ) → (a ≤ b) ⊎ (b < a)
le_or_less zero b = inl (omega arith)
le_or_less (suc a) zero = inr (omega arith)
le_or_less (suc a) (suc b) =
    elim (le_or_less a b) [ inl le ↦ inl (omega (arith, le)) | inr less ↦ inr (omega (arith, less)) ]

-- ---- entries

-- if a key is not the key of a node, no octant is open there
pub open-there : (nodes : List Entry) (key : VoxelKey) (o : ℕ) → has_open (node_at nodes key) o ≡ true → has_node nodes key ≡ true
unfolding has_open
open-there nodes key o is =
    elim (either (has_node nodes key)) [
      | inl there ↦ there
      | inr absent ↦ absurd (false≢true (sym (shut o) ∙ (ap (λ (n : core.Node). has_open n o) (sym (node_at-absent nodes key (apart absent))) ∙ is)))
    ]
  where
    shut : (o : ℕ) → has_open blank o ≡ false
    shut o = refl

    apart : has_node nodes key ≡ false → (e : Entry) → IsMember e nodes → same_key e.0 key ≡ false
    apart absent e m =
        elim (either (same_key e.0 key)) [
          | inl same ↦ absurd (false≢true (sym absent ∙ subst (λ (k : VoxelKey). has_node nodes k ≡ true) (same_key-true e.0 key same) (key-has_node nodes e.0 (IsMember-map (λ (f : Entry). f.0) e nodes m))))
          | inr other ↦ other
        ]

pub keys-are : (nodes : List Branch) → keys_of (map entry_of nodes) ≡ map key_of nodes
keys-are [] = refl
keys-are (b ∷ bs) = ap (λ (w : List VoxelKey). b.0 ∷ w) (keys-are bs)

module _ (items : List Taken) (nodes : List Branch) (s : AreStanding items nodes) where
  abbrev entries : List Entry
  entries = map entry_of nodes

  pub entries-rise : IsRising key_before (keys_of entries)
  entries-rise =
      subst (λ (ks : List VoxelKey). IsRising key_before ks) (sym (keys-are nodes)) (IsRising-AllPairs (map key_of nodes) s.ascend)

  -- a node of a slot is found under its key
  pub found-there : (k : ℕ) (c : Cell) → At items k (Standing c) → (has_node entries c.node.key ≡ true) × (node_at entries c.node.key ≡ seen c.node)
  found-there k c a =
      let m = IsMember-map entry_of (branch_of c) nodes (s.by_key k c a) in
      (key-has_node entries c.node.key (IsMember-map (λ (e : Entry). e.0) (entry_of (branch_of c)) entries m), node_at-member entries (entry_of (branch_of c)) entries-rise m)

  -- and what is found is in a slot
  pub stands-there : (key : VoxelKey) → has_node entries key ≡ true → (k : ℕ) × (c : Cell) × At items k (Standing c) × (c.node.key ≡ key)
  stands-there key is =
      let m = subst (λ (ks : List VoxelKey). IsMember key ks) (keys-are nodes) (has_node-key entries key is) in
      let b = member-map key_of key nodes m in
      let r = s.in_slot b.0 b.1 in
      (r.0, r.1, r.2, ap (λ (w : Branch). w.0) r.3 ∙ b.2)

-- ---- the keys in the order of the slots

-- the first n slots have nodes, and these are their keys
pub record AreInFront (n : ℕ) (rest : List Taken) (keys : List VoxelKey) : Type 0 where
  pub long : length keys ≡ n
  pub key_there : (i : ℕ) (c : Cell) → At rest i (Standing c) → At keys i c.node.key
  pub there_key : (i : ℕ) (key : VoxelKey) → At keys i key → (c : Cell) × At rest i (Standing c) × (c.node.key ≡ key)

no_keys : (rest : List Taken) → ((i : ℕ) (x : Taken) → At rest i x → x ≡ Blank) → keys_in rest ≡ []
no_keys [] none = refl
no_keys (y ∷ ys) none =
    let e : y ≡ Blank = none 0 y (at-zero y ys) in
    ap (λ (z : Taken). keys_in (z ∷ ys)) e ∙ no_keys ys (λ i x a. none (suc i) x (at-next y ys i x a))

one_more : (n : ℕ) (c : Cell) (ys : List Taken) (keys : List VoxelKey) → AreInFront n ys keys → AreInFront (suc n) (Standing c ∷ ys) (c.node.key ∷ keys)
one_more n c ys keys f = record {
  long = ap suc f.long;
  key_there = there;
  there_key = back;
}
  where
    there : (i : ℕ) (d : Cell) → At (Standing c ∷ ys) i (Standing d) → At (c.node.key ∷ keys) i d.node.key
    there zero d a =
        subst (λ (z : Cell). At (c.node.key ∷ keys) 0 z.node.key) (standing-same (at-head a)) (at-zero c.node.key keys)
    there (suc i) d a =
        at-next c.node.key keys i d.node.key (f.key_there i d (at-rest (Standing c) ys i (Standing d) a))

    back : (i : ℕ) (key : VoxelKey) → At (c.node.key ∷ keys) i key → (d : Cell) × At (Standing c ∷ ys) i (Standing d) × (d.node.key ≡ key)
    back zero key a = (c, at-zero (Standing c) ys, at-head a)
    back (suc i) key a =
        let r = f.there_key i key (at-rest c.node.key keys i key a) in
        (r.0, at-next (Standing c) ys i (Standing r.0) r.1, r.2)

in_front : (n : ℕ) (rest : List Taken) → n ≤ length rest → ((i : ℕ) (x : Taken) → At rest i x → i < n → (c : Cell) × (x ≡ Standing c)) → ((i : ℕ) (x : Taken) → At rest i x → n ≤ i → x ≡ Blank) → AreInFront n rest (keys_in rest)
in_front zero rest long stands blank =
    subst (λ (ks : List VoxelKey). AreInFront 0 rest ks) (sym (no_keys rest (λ i x a. blank i x a (omega arith)))) (record {
      long = refl;
      key_there = λ i c a. absurd (let e : Standing c ≡ Blank = blank i (Standing c) a (omega arith) in cc);
      there_key = λ i key a. absurd (nothing-at a);
    })
in_front (suc n) [] long stands blank = absurd (omega (arith, long))
in_front (suc n) (y ∷ ys) long stands blank =
    let c = stands 0 y (at-zero y ys) (omega arith) in
    let more = in_front n ys (omega (arith, long)) (λ i x a low. stands (suc i) x (at-next y ys i x a) (omega (arith, low))) (λ i x a far. blank (suc i) x (at-next y ys i x a) (omega (arith, far))) in
    subst (λ (z : Taken). AreInFront (suc n) (z ∷ ys) (keys_in (z ∷ ys))) (sym c.1) (one_more n c.0 ys (keys_in ys) more)

module _ (most used : ℕ) (items : List Taken) (r : Progress) (s : FillSlots most used items) (at : At items 0 (Reading r)) where
  parted : (rest : List Taken) × (items ≡ Reading r ∷ rest)
  parted = cut items at
    where
      cut : (xs : List Taken) → At xs 0 (Reading r) → (rest : List Taken) × (xs ≡ Reading r ∷ rest)
      cut [] a = absurd (nothing-at a)
      cut (x ∷ xs) a = (xs, ap (λ (z : Taken). z ∷ xs) (at-head a))

  abbrev rest : List Taken
  rest = parted.0

  behind : (i : ℕ) (x : Taken) → At rest i x → At items (suc i) x
  behind i x a =
      subst (λ (xs : List Taken). At xs (suc i) x) (sym parted.1) (at-next (Reading r) rest i x a)

  ahead : (i : ℕ) (x : Taken) → At items (suc i) x → At rest i x
  ahead i x a =
      at-rest (Reading r) rest i x (subst (λ (xs : List Taken). At xs (suc i) x) parted.1 a)

  same_keys : keys_in rest ≡ keys_in items
  same_keys = sym (ap (λ (xs : List Taken). keys_in xs) parted.1)

  front : AreInFront used rest (keys_in rest)
  front =
      in_front used rest (let all : length items ≡ suc (length rest) = ap (λ (xs : List Taken). length xs) parted.1 in omega (arith, all, s.size, s.few)) (λ i x a low. s.stands (suc i) x (behind i x a) (omega arith) (omega (arith, low))) (λ i x a far. s.blank (suc i) x (behind i x a) (omega (arith, far)))

  pub as-many-keys : length (keys_in items) ≡ used
  as-many-keys = ap (λ (ks : List VoxelKey). length ks) (sym same_keys) ∙ front.long

  pub key-of-slot : (k : ℕ) (c : Cell) → At items k (Standing c) → KeyOf (keys_in items) k c.node.key
  unfolding KeyOf
  key-of-slot zero c a =
      absurd (let e : Standing c ≡ Reading r = at-same a at in cc)
  key-of-slot (suc i) c a =
      subst (λ (ks : List VoxelKey). At ks i c.node.key) same_keys (front.key_there i c (ahead i (Standing c) a))

  pub slot-of-key : (k : ℕ) (key : VoxelKey) → KeyOf (keys_in items) k key → (c : Cell) × At items k (Standing c) × (c.node.key ≡ key)
  unfolding KeyOf
  slot-of-key zero key a = absurd a
  slot-of-key (suc i) key a =
      let f = front.there_key i key (subst (λ (ks : List VoxelKey). At ks i key) (sym same_keys) a) in
      (f.0, behind i (Standing f.0) f.1, f.2)

-- the key of a slot, at its place in the prefix
pub key-at : (keys : List VoxelKey) (i : ℕ) (key : VoxelKey) → KeyOf keys (suc i) key → At keys i key
unfolding KeyOf
key-at keys i key a = a

pub at-key : (keys : List VoxelKey) (i : ℕ) (key : VoxelKey) → At keys i key → KeyOf keys (suc i) key
unfolding KeyOf
at-key keys i key a = a
