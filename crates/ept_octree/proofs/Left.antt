-- What a table has left, as an octree.
use Rattle.std.proofs.Common.{◌≡◌, ◌∙◌, ℕ, suc, ◌<◌, ◌≤◌, true, false, inl, inr, List, [], ◌∷◌, map, length, take, refl, sym, ap, subst, arith, Option, Some}
use Rattle.std.specs.Prelude.{is_some}
use Rattle.std.proofs.lemmas.List.Sums.{sum_by-cons}
use Rattle.ept_space.specs.declared.cube.Rules.{Rules}
use Rattle.ept_space.specs.VoxelKey.{root}
use Rattle.ept_sample.proofs.Choices.{either}
use Rattle.ept_scan.specs.declared.second_reading.Reader.{Reader}
use Rattle.ept_grid.specs.Node as grid
use Rattle.ept_node.specs.declared.node.Node as node
use Rattle.ept_table.specs.declared.note.Told.{Told}
use Rattle.ept_table.specs.declared.taken.Cell.{Cell}
use Rattle.ept_table.specs.declared.taken.Progress.{Progress}
use Rattle.ept_table.specs.declared.taken.Taken.{Taken}
use Rattle.ept_table.specs.declared.taken.Taken.TheVariants as taken
use Rattle.ept_table.specs.At.{At}
use Rattle.ept_table.specs.Item.{seen_node, seen_reader}
use Rattle.ept_table.specs.Row.{row}
use Rattle.ept_table.specs.Shown.{IsSound}
use Rattle.ept_table.specs.Tells.{IsLanded}
use Rattle.ept_table.specs.Taken.{count_of}
use Rattle.ept_table.specs.Octree.{Branch, entry_of, points_in, FillSlots, HaveOneSlot, AreLinked, AreStanding, AreSampled, AreWhole}
use Rattle.ept_table.specs.OctreeLaws.{LandedFillsSlots, LandedIsSound, LandedIsRead, LandedIsWhole, LandedIsSampled}
use Rattle.ept_table.proofs.Lists.{below-at, at-zero}
use Rattle.ept_octree.specs.Index.{Site, in_slots, taken_in, branches, node_in, key_seen, IsSoundBy, AreSites, IsIndex}
use Rattle.ept_octree.specs.Resting.{StandApart}
use Rattle.ept_octree.proofs.Sites.{some-seen}
use Rattle.ept_octree.proofs.Placing.{length-in, some-is}
use Rattle.ept_octree.proofs.Rested.{row-is, never-blank, never-reading, standing-there, there-standing, linked-same, index-standing, index-counts}

-- the rule of what is left, over these nodes
pub landed-as : {F S : Type 0} (held : F → Option (List ℕ)) (told : Told) (whole : S → Option (List ℕ)) (reader : Reader S) (old used : ℕ) (was ns : List (node.Node F)) → IsLanded told old (row held whole reader was) → used ≡ old → ns ≡ was → IsLanded told used (taken.Reading (seen_reader whole reader) ∷ map (seen_node held) ns)
landed-as {F} {S} held told whole reader old used was ns landed same nodes =
    subst (λ (xs : List Taken). IsLanded told used xs) (row-is held whole reader ns) (subst (λ (w : List (node.Node F)). IsLanded told used (row held whole reader w)) (sym nodes) (subst (λ (n : ℕ). IsLanded told n (row held whole reader was)) (sym same) landed))

module _ {F : Type 0} (held : F → Option (List ℕ)) (told : Told) (rules : Rules) (used : ℕ) (ns : List (node.Node F)) (r : Progress) (same : rules ≡ told.rules) (fills : FillSlots told.most used (taken.Reading r ∷ map (seen_node held) ns)) (once : HaveOneSlot (taken.Reading r ∷ map (seen_node held) ns)) (sound : (k : ℕ) (c : Cell) → At (taken.Reading r ∷ map (seen_node held) ns) k (taken.Standing c) → IsSound told c) where
  abbrev items : List Taken
  items = taken.Reading r ∷ map (seen_node held) ns

  long_seen : (ms : List (node.Node F)) → length (map (seen_node held) ms) ≡ length ms
  long_seen [] = refl
  long_seen (m ∷ ms) = ap suc (long_seen ms)

  pub most-nodes : length ns ≡ told.most
  most-nodes = omega (arith, fills.size, long_seen ns)

  low : used < length (in_slots held ns)
  low = omega (arith, length-in held ns, most-nodes, fills.few)

  filled : (k : ℕ) → 0 < k → k ≤ used → is_some (node_in (in_slots held ns) k) ≡ true
  filled k some within =
      let there = below-at items k (omega (arith, fills.size, fills.few, within)) in
      let c = fills.stands k there.0 there.1 some within in
      let a : At items k (taken.Standing c.0) = subst (λ (x : Taken). At items k x) c.1 there.1 in
      ap (λ (x : Option grid.Node). is_some x) (standing-there held ns (taken.Reading r) (never-reading r) k c.0 a).0

  pub stand-apart : StandApart used (in_slots held ns)
  stand-apart = record {
    low = low;
    filled = filled;
    apart = λ j k g h a b same. (
        let c = there-standing held ns (taken.Reading r) (never-reading r) j g a in
        let d = there-standing held ns (taken.Reading r) (never-reading r) k h b in
        once j k c.0 d.0 c.1 d.1 (ap (λ (n : grid.Node). n.key) c.2 ∙ (same ∙ sym (ap (λ (n : grid.Node). n.key) d.2))));
  }

  blank_so : (k : ℕ) → used < k → is_some (node_in (in_slots held ns) k) ≡ false
  blank_so k far =
      elim (either (is_some (node_in (in_slots held ns) k))) [
        | inl some ↦
            let g = some-is (node_in (in_slots held ns) k) some in
            let c = there-standing held ns (taken.Reading r) (never-reading r) k g.0 g.1 in
            let e : taken.Standing c.0 ≡ taken.Blank = fills.blank k (taken.Standing c.0) c.1 far in
            absurd (cc)
        | inr none ↦ none
      ]

  one_used : 1 ≤ used
  one_used =
      at_least (λ far. (
      let e : taken.Standing fills.top.0 ≡ taken.Blank = fills.blank 1 (taken.Standing fills.top.0) fills.top.1 far in
      absurd (cc)))
    where
      at_least : (used < 1 → ⊥) → 1 ≤ used
      at_least never = omega (arith, never)

  root_seen : key_seen (node_in (in_slots held ns) 1) ≡ Some root
  root_seen =
      some-seen (node_in (in_slots held ns) 1) fills.top.0.node (standing-there held ns (taken.Reading r) (never-reading r) 1 fills.top.0 fills.top.1).0 ∙ ap Some fills.top.2

  sound_so : (k : ℕ) (g : grid.Node) → node_in (in_slots held ns) k ≡ Some g → IsSoundBy rules g
  sound_so k g is =
      let c = there-standing held ns (taken.Reading r) (never-reading r) k g is in
      let s = sound k c.0 c.1 in
      subst (λ (h : grid.Node). IsSoundBy rules h) c.2 (subst (λ (rs : Rules). IsSoundBy rs c.0.node) (sym same) (record {
        rules = s.rules;
        low = s.low;
        inside = s.inside;
        deepest = s.deepest;
      }))

  pub left-index : (sites : List Site) → AreSites used (in_slots held ns) sites → IsIndex rules used (in_slots held ns) sites
  left-index sites are = record {
    are = are;
    low = low;
    rooted = are.listed root 1 (omega arith) one_used root_seen;
    filled = filled;
    blank = blank_so;
    sound = sound_so;
  }

-- what is left is an octree
module _ (fills_law : LandedFillsSlots) (sound_law : LandedIsSound) {F : Type 0} (held : F → Option (List ℕ)) (told : Told) (rules : Rules) (used : ℕ) (ns : List (node.Node F)) (r : Progress) (same : rules ≡ told.rules) (landed : IsLanded told used (taken.Reading r ∷ map (seen_node held) ns)) where
  abbrev lying : List Taken
  lying = taken.Reading r ∷ map (seen_node held) ns

  facts : FillSlots told.most used lying × HaveOneSlot lying × AreLinked lying
  facts = fills_law told used lying landed

  each_sound : (k : ℕ) (c : Cell) → At lying k (taken.Standing c) → IsSound told c
  each_sound k c a = sound_law told used lying k c landed a

  pub left-apart : StandApart used (in_slots held ns)
  left-apart = stand-apart held told rules used ns r same facts.0 facts.1 each_sound

  pub left-linked : AreLinked (taken_in held ns)
  left-linked = linked-same held ns (taken.Reading r) taken.Blank (never-reading r) never-blank facts.2

  module _ (sites : List Site) (are : AreSites used (in_slots held ns) sites) where
    pub left-indexed : IsIndex rules used (in_slots held ns) sites
    left-indexed = left-index held told rules used ns r same facts.0 facts.1 each_sound sites are

    abbrev nodes : List Branch
    nodes = branches (in_slots held ns) sites

    standing : AreStanding lying nodes
    standing = index-standing held ns (taken.Reading r) (never-reading r) rules used sites left-indexed

    pub left-whole : LandedIsWhole → AreWhole (map entry_of nodes)
    left-whole law = law told used lying nodes landed standing

    pub left-sampled : LandedIsSampled → told.tells ≡ true → AreSampled told.rules (take r.drawn told.points) nodes
    left-sampled law tells =
        law told used lying nodes r landed standing (at-zero (taken.Reading r) (map (seen_node held) ns)) tells

    pub left-number : LandedIsRead → length (points_in nodes) ≡ r.drawn
    left-number law =
        let read = law told used lying r landed (at-zero (taken.Reading r) (map (seen_node held) ns)) in
        let counts = index-counts held ns (taken.Reading r) (never-reading r) rules used sites left-indexed in
        let none : count_of (taken.Reading r) ≡ 0 = refl in
        omega (arith, read.adds_up, counts, none, sum_by-cons count_of (taken.Reading r) (map (seen_node held) ns))
