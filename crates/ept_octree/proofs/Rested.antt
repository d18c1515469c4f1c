-- The nodes of an octree as what lies in the slots of a table.
use Rattle.std.proofs.Common.{◌≡◌, ◌∙◌, ℕ, zero, suc, ◌+◌, ◌<◌, ◌≤◌, true, List, [], ◌∷◌, map, length, get_or, take, refl, sym, ap, subst, arith, Option, Some, None, sum_by}
use Rattle.std.specs.Prelude.{is_some}
use Rattle.std.proofs.lemmas.Bool.{false≢true}
use Rattle.std.proofs.lemmas.List.Sums.{sum_by-cons}
use Rattle.ept_space.specs.declared.cube.Rules.{Rules}
use Rattle.ept_space.specs.VoxelKey.{VoxelKey, root, AreAscending}
use Rattle.ept_sample.specs.Members.{IsMember}
use Rattle.ept_sample.proofs.KeyOrder.{IsRising-AllPairs}
use Rattle.ept_sample.proofs.Members.{IsMember-map, member-map}
use Rattle.ept_grid.specs.Node as grid
use Rattle.ept_node.specs.declared.node.Node as node
use Rattle.ept_node.specs.declared.state.NodeState.{NodeState}
use Rattle.ept_node.specs.declared.state.NodeState.TheVariants as states
use Rattle.ept_node.specs.Shown.{state_of}
use Rattle.ept_table.specs.declared.note.Told.{Told}
use Rattle.ept_table.specs.declared.taken.Cell.{Cell}
use Rattle.ept_table.specs.declared.taken.Progress.{Progress}
use Rattle.ept_table.specs.declared.taken.Taken.{Taken}
use Rattle.ept_table.specs.declared.taken.Taken.TheVariants as taken
use Rattle.ept_table.specs.At.{At}
use Rattle.ept_scan.specs.declared.second_reading.Reader.{Reader}
use Rattle.ept_sample.specs.SamplingLaws.{CanBeSampled}
use Rattle.ept_table.specs.declared.item.Item.{Item}
use Rattle.ept_table.specs.declared.item.Item.TheVariants as lying
use Rattle.ept_table.specs.Row.{row}
use Rattle.ept_table.specs.OctreeLaws.{IsResumed}
use Rattle.ept_table.specs.Item.{taken_as, cell_of, seen_node, seen_reader, seen}
use Rattle.ept_table.specs.Taken.{count_of, slot_at}
use Rattle.ept_table.specs.Shown.{IsSound, FitsReader}
use Rattle.ept_table.specs.Octree.{Branch, key_of, entry_of, points_in, keys_in, AreSampled, AreWhole, FillSlots, HaveOneSlot, AreLinked, AreStanding}
use Rattle.ept_table.proofs.Lists.{at-head, at-rest, at-next, at-zero, nothing-at}
use Rattle.ept_table.proofs.Glue.{standing-same}
use Rattle.ept_octree.specs.Index.{Site, named, in_slot, in_slots, taken_in, node_or, branch_at, branches, count_in, slot_of, node_in, IsIndex}
use Rattle.ept_octree.proofs.Sites.{seen-some, some-seen, some-number, slot-member, member-slot}
use Rattle.ept_octree.proofs.Placing.{some-node, some-is, none-is, length-in}

-- ---- one node

pub seen-as : (s : NodeState) (c d : Cell) → taken_as s c ≡ taken.Standing d → (named s c.node ≡ Some d.node) × (c ≡ d)
seen-as states.Blank c d is = absurd (cc)
seen-as states.Resident c d is = (ap (λ (e : Cell). Some e.node) (standing-same is), standing-same is)
seen-as states.Spilled c d is = (ap (λ (e : Cell). Some e.node) (standing-same is), standing-same is)
seen-as states.Broken c d is = (ap (λ (e : Cell). Some e.node) (standing-same is), standing-same is)

named_as : (s : NodeState) (c : Cell) (g : grid.Node) → named s c.node ≡ Some g → (taken_as s c ≡ taken.Standing c) × (c.node ≡ g)
named_as states.Blank c g is = absurd (cc)
named_as states.Resident c g is = (refl, some-node is)
named_as states.Spilled c g is = (refl, some-node is)
named_as states.Broken c g is = (refl, some-node is)

none_as : (s : NodeState) (c : Cell) → named s c.node ≡ None → taken_as s c ≡ taken.Blank
none_as states.Blank c is = refl
none_as states.Resident c is = absurd (cc)
none_as states.Spilled c is = absurd (cc)
none_as states.Broken c is = absurd (cc)

count_as : (s : NodeState) (c : Cell) → count_of (taken_as s c) ≡ count_in (named s c.node)
count_as states.Blank c = refl
count_as states.Resident c = refl
count_as states.Spilled c = refl
count_as states.Broken c = refl

-- the number of points of the first nodes is the number of all, if there are no others
pub sum-first : (xs : List (Option grid.Node)) (n : ℕ) → ((k : ℕ) → n ≤ k → get_or xs k None ≡ None) → sum_by count_in (take n xs) ≡ sum_by count_in xs
sum-first [] zero none = refl
sum-first [] (suc n) none = refl
sum-first (x ∷ xs) zero none =
    let one : count_in x ≡ 0 = ap count_in (none 0 (omega arith)) in
    let more : sum_by count_in (take 0 xs) ≡ sum_by count_in xs = sum-first xs 0 (λ k low. none (suc k) (omega arith)) in
    let empty : sum_by count_in (take 0 xs) ≡ 0 = refl in
    let zero_is : sum_by count_in (take 0 (x ∷ xs)) ≡ 0 = refl in
    omega (arith, one, more, empty, zero_is, sum_by-cons count_in x xs)
sum-first (x ∷ xs) (suc n) none =
    let more : sum_by count_in (take n xs) ≡ sum_by count_in xs = sum-first xs n (λ k low. none (suc k) (omega (arith, low))) in
    let left : sum_by count_in (take (suc n) (x ∷ xs)) ≡ count_in x + sum_by count_in (take n xs) = sum_by-cons count_in x (take n xs) in
    omega (arith, more, left, sum_by-cons count_in x xs)

module _ {F : Type 0} (held : F → Option (List ℕ)) where
  -- ---- what lies in the slots, with anything in slot 0 that is no node

  standing_in : (ns : List (node.Node F)) (k : ℕ) (c : Cell) → At (map (seen_node held) ns) k (taken.Standing c) → get_or (map (in_slot held) ns) k None ≡ Some c.node
  standing_in [] k c a = absurd (nothing-at a)
  standing_in (n ∷ ns) zero c a = (seen-as (state_of n) (cell_of held n) c (at-head a)).0
  standing_in (n ∷ ns) (suc k) c a =
      standing_in ns k c (at-rest (seen_node held n) (map (seen_node held) ns) k (taken.Standing c) a)

  in_standing : (ns : List (node.Node F)) (k : ℕ) (g : grid.Node) → get_or (map (in_slot held) ns) k None ≡ Some g → (c : Cell) × At (map (seen_node held) ns) k (taken.Standing c) × (c.node ≡ g)
  in_standing [] k g is = absurd (cc)
  in_standing (n ∷ ns) zero g is =
      let r = named_as (state_of n) (cell_of held n) g is in
      (cell_of held n, subst (λ (t : Taken). At (map (seen_node held) (n ∷ ns)) 0 t) r.0 (at-zero (seen_node held n) (map (seen_node held) ns)), r.1)
  in_standing (n ∷ ns) (suc k) g is =
      let r = in_standing ns k g is in
      (r.0, at-next (seen_node held n) (map (seen_node held) ns) k (taken.Standing r.0) r.1, r.2)

  none_in : (ns : List (node.Node F)) (k : ℕ) (x : Taken) → At (map (seen_node held) ns) k x → get_or (map (in_slot held) ns) k None ≡ None → x ≡ taken.Blank
  none_in [] k x a is = absurd (nothing-at a)
  none_in (n ∷ ns) zero x a is = sym (at-head a) ∙ none_as (state_of n) (cell_of held n) is
  none_in (n ∷ ns) (suc k) x a is = none_in ns k x (at-rest (seen_node held n) (map (seen_node held) ns) k x a) is

  some_in : (ns : List (node.Node F)) (k : ℕ) (x : Taken) (g : grid.Node) → At (map (seen_node held) ns) k x → get_or (map (in_slot held) ns) k None ≡ Some g → (c : Cell) × (x ≡ taken.Standing c)
  some_in [] k x g a is = absurd (nothing-at a)
  some_in (n ∷ ns) zero x g a is =
      (cell_of held n, sym (at-head a) ∙ (named_as (state_of n) (cell_of held n) g is).0)
  some_in (n ∷ ns) (suc k) x g a is = some_in ns k x g (at-rest (seen_node held n) (map (seen_node held) ns) k x a) is

  pub count-all : (ns : List (node.Node F)) → sum_by count_of (map (seen_node held) ns) ≡ sum_by count_in (map (in_slot held) ns)
  count-all [] = refl
  count-all (n ∷ ns) =
      let one : count_of (seen_node held n) ≡ count_in (in_slot held n) = count_as (state_of n) (cell_of held n) in
      omega (arith, one, count-all ns, sum_by-cons count_of (seen_node held n) (map (seen_node held) ns), sum_by-cons count_in (in_slot held n) (map (in_slot held) ns))

  length_seen : (ns : List (node.Node F)) → length (map (seen_node held) ns) ≡ length ns
  length_seen [] = refl
  length_seen (n ∷ ns) = ap suc (length_seen ns)

  module _ (ns : List (node.Node F)) (first : Taken) (other : (c : Cell) → first ≡ taken.Standing c → ⊥) where
    abbrev items : List Taken
    items = first ∷ map (seen_node held) ns

    pub standing-there : (k : ℕ) (c : Cell) → At items k (taken.Standing c) → (node_in (in_slots held ns) k ≡ Some c.node) × (0 < k)
    standing-there zero c a = absurd (other c (at-head a))
    standing-there (suc k) c a =
        (standing_in ns k c (at-rest first (map (seen_node held) ns) k (taken.Standing c) a), omega arith)

    pub there-standing : (k : ℕ) (g : grid.Node) → node_in (in_slots held ns) k ≡ Some g → (c : Cell) × At items k (taken.Standing c) × (c.node ≡ g)
    there-standing zero g is = absurd (cc)
    there-standing (suc k) g is =
        let r = in_standing ns k g is in (r.0, at-next first (map (seen_node held) ns) k (taken.Standing r.0) r.1, r.2)

    pub blank-there : (k : ℕ) (x : Taken) → At items k x → 0 < k → node_in (in_slots held ns) k ≡ None → x ≡ taken.Blank
    blank-there zero x a some is = absurd (omega (arith, some))
    blank-there (suc k) x a some is = none_in ns k x (at-rest first (map (seen_node held) ns) k x a) is

    pub taken-there : (k : ℕ) (x : Taken) (g : grid.Node) → At items k x → node_in (in_slots held ns) k ≡ Some g → (c : Cell) × (x ≡ taken.Standing c)
    taken-there zero x g a is = absurd (cc)
    taken-there (suc k) x g a is = some_in ns k x g (at-rest first (map (seen_node held) ns) k x a) is

    -- ---- an octree's nodes

    module _ (rules : Rules) (used : ℕ) (sites : List Site) (index : IsIndex rules used (in_slots held ns) sites) where
      abbrev nodes : List Branch
      nodes = branches (in_slots held ns) sites

      keys_are : (ss : List Site) → map key_of (branches (in_slots held ns) ss) ≡ map (λ (s : Site). s.0) ss
      keys_are [] = refl
      keys_are (s ∷ ss) = ap (λ (w : List VoxelKey). s.0 ∷ w) (keys_are ss)

      pub index-standing : AreStanding items nodes
      index-standing = record {
        ascend = (
            let up = index.are.ascend in
            ascending (map key_of nodes) (map (λ (s : Site). s.0) sites) (keys_are sites) up);
        by_key = λ k c a. (
            let t = standing-there k c a in
            let low : k ≤ used = within k c t.0 in
            let slot = index.are.listed c.node.key k t.1 low (some-seen (node_in (in_slots held ns) k) c.node t.0) in
            let m = IsMember-map (branch_at (in_slots held ns)) (c.node.key, k) sites (slot-member sites c.node.key k slot) in
            subst (λ (x : Option grid.Node). IsMember (let b : Branch = (c.node.key, node_or x) in b) nodes) t.0 m);
        in_slot = λ b m. (
            let s = member-map (branch_at (in_slots held ns)) b sites m in
            let slot : slot_of sites s.0.0 ≡ Some s.0.1 = member-slot sites s.0 (IsRising-AllPairs (map (λ (s : Site). s.0) sites) index.are.ascend) s.1 in
            let g = seen-some (node_in (in_slots held ns) s.0.1) s.0.0 (index.are.stands s.0.0 s.0.1 slot).0 in
            let c = there-standing s.0.1 g.0 g.1 in
            (s.0.1, c.0, c.1, (λ i. (ap (λ (h : grid.Node). h.key) c.2 i, c.2 i)) ∙ ((λ i. (g.2 i, node_or (sym g.1 i))) ∙ s.2)));
      }
        where
          ascending : (a b : List VoxelKey) → a ≡ b → AreAscending b → AreAscending a
          ascending a b e up = subst (λ (ks : List VoxelKey). AreAscending ks) (sym e) up

          within : (k : ℕ) (c : Cell) → node_in (in_slots held ns) k ≡ Some c.node → k ≤ used
          within k c is =
              not_above (λ low. false≢true (sym (index.blank k low) ∙ ap (λ (x : Option grid.Node). is_some x) is))
            where
              not_above : (used < k → ⊥) → k ≤ used
              not_above never = omega (arith, never)

      pub index-fills : (most : ℕ) → length ns ≡ most → FillSlots most used items
      index-fills most long = record {
        size = omega (arith, length_seen ns, long);
        few = omega (arith, index.low, length-in held ns, long);
        top = (
            let g = seen-some (node_in (in_slots held ns) 1) root (index.are.stands root 1 index.rooted).0 in
            let c = there-standing 1 g.0 g.1 in
            (c.0, c.1, ap (λ (h : grid.Node). h.key) c.2 ∙ g.2));
        stands = λ k x a some low. (
            let g = some-is (node_in (in_slots held ns) k) (index.filled k some low) in taken-there k x g.0 a g.1);
        blank = λ k x a low. blank-there k x a (omega (arith, low)) (none-is (node_in (in_slots held ns) k) (index.blank k low));
      }

      pub index-once : HaveOneSlot items
      index-once j k c d a b same =
          let s = standing-there j c a in
          let t = standing-there k d b in
          let one = listed j c s.0 s.1 in
          let two = listed k d t.0 t.1 in
          some-number j k (sym one ∙ (ap (λ (key : VoxelKey). slot_of sites key) same ∙ two))
        where
          listed : (k : ℕ) (c : Cell) → node_in (in_slots held ns) k ≡ Some c.node → 0 < k → slot_of sites c.node.key ≡ Some k
          listed k c is some =
              index.are.listed c.node.key k some (not_above (λ low. false≢true (sym (index.blank k low) ∙ ap (λ (x : Option grid.Node). is_some x) is))) (some-seen (node_in (in_slots held ns) k) c.node is)
            where
              not_above : (used < k → ⊥) → k ≤ used
              not_above never = omega (arith, never)

      pub index-sound : (told : Told) → rules ≡ told.rules → (k : ℕ) (c : Cell) → At items k (taken.Standing c) → IsSound told c
      index-sound told same k c a =
          subst (λ (rs : Rules). IsSound (record told { rules = rs }) c) same (let s = index.sound k c.node (standing-there k c a).0 in
          record {
            rules = s.rules;
            low = s.low;
            inside = s.inside;
            deepest = s.deepest;
          })

      pub index-counts : length (points_in nodes) ≡ sum_by count_of (map (seen_node held) ns)
      index-counts =
          let all : sum_by count_in (take (suc used) (in_slots held ns)) ≡ sum_by count_in (in_slots held ns) = sum-first (in_slots held ns) (suc used) (λ k low. none-is (node_in (in_slots held ns) k) (index.blank k (omega (arith, low)))) in
          omega (arith, index.are.together, all, count-all ns, sum_by-cons count_in None (map (in_slot held) ns))

  -- the slots of the children, whatever lies in slot 0
  pub linked-same : (ns : List (node.Node F)) (a b : Taken) → ((c : Cell) → a ≡ taken.Standing c → ⊥) → ((c : Cell) → b ≡ taken.Standing c → ⊥) → AreLinked (a ∷ map (seen_node held) ns) → AreLinked (b ∷ map (seen_node held) ns)
  linked-same ns a b no_a no_b l = record {
    child_slot = λ k c o at low is. (
        let d = l.child_slot k c o (other b a no_b k c at) low is in
        (d.0, other a b no_a (slot_at (taken.Standing c) o) d.0 d.1, d.2));
    none = λ k c o at low is. l.none k c o (other b a no_b k c at) low is;
  }
    where
      other : (a b : Taken) → ((c : Cell) → a ≡ taken.Standing c → ⊥) → (k : ℕ) (c : Cell) → At (a ∷ map (seen_node held) ns) k (taken.Standing c) → At (b ∷ map (seen_node held) ns) k (taken.Standing c)
      other a b never zero c at = absurd (never c (at-head at))
      other a b never (suc k) c at =
          at-next b (map (seen_node held) ns) k (taken.Standing c) (at-rest a (map (seen_node held) ns) k (taken.Standing c) at)

-- slot 0 has no node
pub never-blank : (c : Cell) → taken.Blank ≡ taken.Standing c → ⊥
never-blank c e = cc

pub never-reading : (r : Progress) (c : Cell) → taken.Reading r ≡ taken.Standing c → ⊥
never-reading r c e = cc

pub row-is : {F S : Type 0} (held : F → Option (List ℕ)) (whole : S → Option (List ℕ)) (reader : Reader S) (ns : List (node.Node F)) → row held whole reader ns ≡ taken.Reading (seen_reader whole reader) ∷ map (seen_node held) ns
row-is {F} {S} held whole reader ns = ap (λ (w : List Taken). taken.Reading (seen_reader whole reader) ∷ w) (all ns)
  where
    all : (ms : List (node.Node F)) → map (seen held whole) (map (λ (n : node.Node F). let x : Item F S = lying.Node n in x) ms) ≡ map (seen_node held) ms
    all [] = refl
    all (m ∷ ms) = ap (λ (w : List Taken). seen_node held m ∷ w) (all ms)

-- an octree at rest is what may be resumed
module _ {F : Type 0} (held : F → Option (List ℕ)) (told : Told) (rules : Rules) (used : ℕ) (ns : List (node.Node F)) (sites : List Site) (r : Progress) (index : IsIndex rules used (in_slots held ns) sites) (same : rules ≡ told.rules) (long : length ns ≡ told.most) (begun : told.begun ≡ keys_in (taken_in held ns)) (whole : AreWhole (map entry_of (branches (in_slots held ns) sites))) (linked : AreLinked (taken_in held ns)) (fits : FitsReader told r) (sound : r.failed ≡ None) (number : length (points_in (branches (in_slots held ns) sites)) ≡ r.drawn) (can : told.tells ≡ true → CanBeSampled told.rules told.points × (length told.points ≡ told.total)) (sampled : told.tells ≡ true → AreSampled told.rules (take r.drawn told.points) (branches (in_slots held ns) sites)) where
  abbrev all : List Taken
  all = taken.Reading r ∷ map (seen_node held) ns

  pub rests : IsResumed told used all (branches (in_slots held ns) sites) r
  rests = record {
    begun = begun;
    slots = index-fills held ns (taken.Reading r) (never-reading r) rules used sites index told.most long;
    standing = index-standing held ns (taken.Reading r) (never-reading r) rules used sites index;
    one_slot = index-once held ns (taken.Reading r) (never-reading r) rules used sites index;
    linked = linked-same held ns taken.Blank (taken.Reading r) never-blank (never-reading r) linked;
    sound = index-sound held ns (taken.Reading r) (never-reading r) rules used sites index told same;
    whole = whole;
    at_first = at-zero (taken.Reading r) (map (seen_node held) ns);
    read = record {
      fits = fits;
      sound = sound;
      adds_up = (
          let counts = index-counts held ns (taken.Reading r) (never-reading r) rules used sites index in
          let none : count_of (taken.Reading r) ≡ 0 = refl in
          omega (arith, number, counts, none, sum_by-cons count_of (taken.Reading r) (map (seen_node held) ns)));
    };
    can = can;
    sampled = sampled;
  }
