-- A new forest, and a reader of all points.
use Rattle.std.proofs.Common.{◌≡◌, ◌∙◌, ℕ, zero, suc, ◌+◌, ◌<◌, ◌≤◌, ◌⊎◌, inl, inr, Bool, true, false, List, [], ◌∷◌, map, length, slice_index, refl, sym, ap, subst, arith, Option, None}
use Rattle.ept_space.specs.VoxelKey.{root}
use Rattle.ept_sample.specs.SamplingLaws.{CanBeSampled}
use Rattle.ept_sample.proofs.Members.{all-member}
use Rattle.ept_scan.specs.declared.second_reading.Reader.{Reader}
use Rattle.ept_scan.specs.Reader.{drawn_of, refusal_of}
use Rattle.ept_node.specs.declared.node.Node as node
use Rattle.ept_node.specs.declared.state.NodeState.{NodeState}
use Rattle.ept_node.specs.declared.state.NodeState.TheVariants as states
use Rattle.ept_node.specs.Shown.{no_children, file_of, state_of, is_here, IsTelling}
use Rattle.ept_node.proofs.Here.{no-fault, apart-agrees}
use Rattle.ept_forest.specs.declared.forest.Forest.{Forest}
use Rattle.ept_forest.specs.Slots.{nodes_of, used_of, residents_of, IsBlank, IsPlanted}
use Rattle.ept_forest.proofs.Residents.{residents-cons, none-here}
use Rattle.std.specs.List.{All}
use Rattle.std.specs.Prelude.{cond}
use Rattle.std.proofs.lemmas.List.Elements.{All-cons, All-weaker}
use Rattle.ept_table.specs.declared.item.Item.{Item}
use Rattle.ept_table.specs.declared.item.Item.TheVariants as items
use Rattle.ept_table.specs.declared.note.Told.{Told}
use Rattle.ept_table.specs.declared.taken.Cell.{Cell}
use Rattle.ept_table.specs.declared.taken.Taken.{Taken}
use Rattle.ept_table.specs.declared.taken.Taken.TheVariants.{Blank, Standing, Reading}
use Rattle.ept_table.specs.At.{At}
use Rattle.ept_table.specs.Shown.{IsTold, FitsReader}
use Rattle.ept_table.specs.Steps as steps
use Rattle.ept_table.specs.Tells.{IsLanded}
use Rattle.ept_table.specs.Item.{taken_as, cell_of, seen_node, seen_reader, seen, IsFiledNode}
use Rattle.ept_table.specs.Row.{row}
use Rattle.ept_table.proofs.Lists.{at-next, at-rest, at-zero, at-member}
use Rattle.ept_table.proofs.Glue.{map-at}
use Rattle.ept_table.proofs.Rows.{length-map}
use Rattle.ept_table.proofs.Beginning.{beginning-landed}

none_at : (o : ℕ) → o < 8 → slice_index no_children o ≡ 0
none_at zero low = refl
none_at (suc zero) low = refl
none_at (suc (suc zero)) low = refl
none_at (suc (suc (suc zero))) low = refl
none_at (suc (suc (suc (suc zero)))) low = refl
none_at (suc (suc (suc (suc (suc zero))))) low = refl
none_at (suc (suc (suc (suc (suc (suc zero)))))) low = refl
none_at (suc (suc (suc (suc (suc (suc (suc zero))))))) low = refl
none_at (suc (suc (suc (suc (suc (suc (suc (suc o)))))))) low = absurd (omega (arith, low))

-- ---- nodes that are blank or begun

module _ {F : Type 0} (held : F → Option (List ℕ)) (faults keeps : F → ℕ) where
  never_spilled : (s : NodeState) → (s ≡ states.Blank) ⊎ (s ≡ states.Resident) → s ≡ states.Spilled → ⊥
  never_spilled states.Blank is e = cc
  never_spilled states.Resident is e = cc
  never_spilled states.Spilled (inl is) e = cc
  never_spilled states.Spilled (inr is) e = cc
  never_spilled states.Broken is e = cc

  never_broken : (s : NodeState) → (s ≡ states.Blank) ⊎ (s ≡ states.Resident) → s ≡ states.Broken → ⊥
  never_broken states.Blank is e = cc
  never_broken states.Resident is e = cc
  never_broken states.Spilled is e = cc
  never_broken states.Broken (inl is) e = cc
  never_broken states.Broken (inr is) e = cc

  filed_here : (told : Told) (n : node.Node F) → (state_of n ≡ states.Blank) ⊎ (state_of n ≡ states.Resident) → (told.tells ≡ true → IsTelling held) → IsFiledNode held faults keeps told n
  filed_here told n is telling = record {
    agrees = apart-agrees held faults keeps n (never_spilled (state_of n) is) (never_broken (state_of n) is);
    telling = λ tells. telling tells (file_of n);
    not_memory = λ broken. absurd (let none = no-fault n (never_broken (state_of n) is) in cc);
    undamaged = λ tells kept found at broken. absurd (let none = no-fault n (never_broken (state_of n) is) in cc);
  }

  module _ (told : Told) (forest : Forest F) (p : IsPlanted held faults keeps told.most told.rules forest) where
    pub planted-filed : (told.tells ≡ true → IsTelling held) → All (IsFiledNode held faults keeps told) (nodes_of forest)
    planted-filed telling =
        subst (λ (ns : List (node.Node F)). All (IsFiledNode held faults keeps told) ns) (sym p.are) (All-cons (IsFiledNode held faults keeps told) p.first p.others (filed_here told p.first (inr p.begun.state) telling) (All-weaker IsBlank (IsFiledNode held faults keeps told) (λ n blank. filed_here told n (inl blank) telling) p.others p.blank))

    abbrev one_if : Bool → ℕ
    one_if b = cond b 1 0

    pub planted-few : residents_of (nodes_of forest) ≤ 1
    planted-few =
        let all : residents_of (nodes_of forest) ≡ residents_of (p.first ∷ p.others) = ap (λ (ns : List (node.Node F)). residents_of ns) p.are in
        omega (arith, all, residents-cons p.first p.others, at_most (is_here p.first), none-here p.others p.blank)
      where
        at_most : (b : Bool) → one_if b ≤ 1
        at_most true = let one : one_if true ≡ 1 = refl in omega (arith, one)
        at_most false = let none : one_if false ≡ 0 = refl in omega (arith, none)

-- ---- a new table

module _ {F S : Type 0} (held : F → Option (List ℕ)) (faults keeps : F → ℕ) (whole : S → Option (List ℕ)) (told : Told) (forest : Forest F) (reader : Reader S) (is_told : IsTold told) (points : told.tells ≡ true → CanBeSampled told.rules told.points × (length told.points ≡ told.total)) (begun : told.begun ≡ root ∷ []) (p : IsPlanted held faults keeps told.most told.rules forest) (fits : FitsReader told (seen_reader whole reader)) (undrawn : drawn_of reader ≡ 0) (sound : refusal_of reader ≡ None) where
  abbrev as_item : node.Node F → Item F S
  as_item n = items.Node n

  abbrev see : Item F S → Taken
  see x = seen held whole x

  abbrev behind : List Taken
  behind = map see (map as_item (p.first ∷ p.others))

  abbrev all : List Taken
  all = Reading (seen_reader whole reader) ∷ behind

  all_is : all ≡ row held whole reader (nodes_of forest)
  all_is =
      ap (λ (ns : List (node.Node F)). Reading (seen_reader whole reader) ∷ map see (map as_item ns)) (sym p.are)

  abbrev top : Cell
  top = cell_of held p.first

  top_stands : seen_node held p.first ≡ Standing top
  top_stands = ap (λ (s : NodeState). taken_as s top) p.begun.state

  at_top : At all 1 (Standing top)
  at_top =
      at-next (Reading (seen_reader whole reader)) behind 0 (Standing top) (subst (λ (z : Taken). At behind 0 z) top_stands (at-zero (seen_node held p.first) (map see (map as_item p.others))))

  blank_seen : (n : node.Node F) → IsBlank n → seen_node held n ≡ Blank
  blank_seen n is = ap (λ (s : NodeState). taken_as s (cell_of held n)) is

  blank_there : (k : ℕ) (x : Taken) → At all k x → 1 < k → x ≡ Blank
  blank_there zero x a far = absurd (omega (arith, far))
  blank_there (suc zero) x a far = absurd (omega (arith, far))
  blank_there (suc (suc k)) x a far =
      let b : At (map see (map as_item p.others)) k x = at-rest (seen_node held p.first) (map see (map as_item p.others)) k x (at-rest (Reading (seen_reader whole reader)) behind (suc k) x a) in
      let r = map-at see (map as_item p.others) k x b in
      let q = map-at as_item p.others k r.0 r.1 in
      sym r.2 ∙ (ap see (sym q.2) ∙ blank_seen q.0 (all-member (λ (n : node.Node F). IsBlank n) q.0 p.others p.blank (at-member p.others k q.0 q.1)))

  size : length all ≡ told.most + 1
  size =
      let one : length behind ≡ length (map as_item (p.first ∷ p.others)) = length-map see (map as_item (p.first ∷ p.others)) in
      let two : length (map as_item (p.first ∷ p.others)) ≡ length (p.first ∷ p.others) = length-map as_item (p.first ∷ p.others) in
      let three : length (nodes_of forest) ≡ length (p.first ∷ p.others) = ap (λ (ns : List (node.Node F)). length ns) p.are in
      let four : length (nodes_of forest) ≡ told.most = p.slots in
      omega (arith, one, two, three, four)

  planted : steps.IsPlanted told all (seen_reader whole reader) top
  planted = record {
    size = size;
    begun = begun;
    at_first = at-zero (Reading (seen_reader whole reader)) behind;
    fits = fits;
    undrawn = undrawn;
    sound = sound;
    at_top = at_top;
    top_is = p.begun.empty;
    childless = λ o low. ap (λ (cs : List ℕ). slice_index cs o) p.begun.children ∙ none_at o low;
    blank = blank_there;
    points = points;
  }

  pub planted-landed : IsLanded told (used_of forest) (row held whole reader (nodes_of forest))
  planted-landed =
      subst (λ (n : ℕ). IsLanded told n (row held whole reader (nodes_of forest))) (sym p.used) (subst (λ (xs : List Taken). IsLanded told 1 xs) all_is (beginning-landed told all (seen_reader whole reader) top is_told planted))
