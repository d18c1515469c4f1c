-- Sets of the classes that a list names.
use Rattle.std.proofs.Common.{◌≡◌, ℕ, zero, suc, ◌+◌, ◌-◌, ◌<◌, ◌≤◌, ◌||◌, Bool, true, false, eqb, List, [], ◌∷◌, length, get_or, drop, map, refl, sym, ap, ◌∙◌, arith}
use Rattle.std.specs.Prelude.{Option, Some, None, option_map, option_and_then, IsNone}
use Rattle.std.specs.List.{list_any}
use Rattle.std.proofs.lemmas.List.{drop_more}
use Rattle.serde_json.specs.Data.{Data}
use Rattle.ept_class.specs.declared.class_set.ClassSet.{ClassSet}
use Rattle.ept_class.specs.ClassSet.{has_class}
use Rattle.ept_config_text.specs.Classes.{class_of, one_more, distinct_classes, is_listed}

-- a set of the classes of some items
pub record HasClassesOf (items : List Data) (set : ClassSet) : Type 0 where
  pub classes : List ℕ
  pub named : distinct_classes items ≡ Some classes
  pub members : (class : ℕ) → has_class set class ≡ is_listed classes class

pub no_classes : (set : ClassSet) → ((class : ℕ) → has_class set class ≡ false) → HasClassesOf [] set
no_classes set none = record { classes = []; named = refl; members = none }

pub more_classes : (d : Data) (ds : List Data) (old new : ClassSet) (class : ℕ) → HasClassesOf ds old → Some class ≡ class_of d → has_class old class ≡ false → ((other : ℕ) → has_class new other ≡ (eqb other class || has_class old other)) → HasClassesOf (d ∷ ds) new
unfolding one_more
more_classes d ds old new class h is none members = record {
  classes = class ∷ h.classes;
  named =
      let unlisted : list_any (λ other. eqb class other) h.classes ≡ false = sym (h.members class) ∙ none in
      rw (h.named, ← is, unlisted) refl;
  members = λ other. members other ∙ ap (λ (b : Bool). eqb other class || b) (h.members other);
}

-- an item that names no class, or a class that is named after it
pub no_class : (d : Data) (ds : List Data) → IsNone (class_of d) → distinct_classes (d ∷ ds) ≡ None
no_class d ds none = without (distinct_classes ds) (class_of d) none where
  without : (classes : Option (List ℕ)) (class : Option ℕ) → IsNone class → option_and_then (λ cs. option_and_then (λ c. one_more c cs) class) classes ≡ None
  without None class none = refl
  without (Some cs) None none = refl
  without (Some cs) (Some c) none = absurd cc

pub named_twice : (d : Data) (ds : List Data) (set : ClassSet) (class : ℕ) → HasClassesOf ds set → Some class ≡ class_of d → has_class set class ≡ true → distinct_classes (d ∷ ds) ≡ None
unfolding one_more
named_twice d ds set class h is some =
    let listed : list_any (λ other. eqb class other) h.classes ≡ true = sym (h.members class) ∙ some in
    rw (h.named, ← is, listed) refl

module _ {X : Type 0} (see : X → Data) where
  -- the items from a place on, the first of which is the item before the others
  pub first_behind : (items : List X) (at : ℕ) (item : X) → 0 < at → at ≤ length items → item ≡ get_or items (at - 1) item → map see (drop (at - 1) items) ≡ see item ∷ map see (drop at items)
  first_behind items at item some most is =
      let back : at - 1 + 1 ≡ at = omega arith in
      ap (map see) (drop_more items (at - 1) item (omega arith))
      ∙ ap (λ (x : X). see x ∷ map see (drop (at - 1 + 1) items)) (sym is)
      ∙ ap (λ (n : ℕ). see item ∷ map see (drop n items)) back

  -- if the items from a place on name no classes, all of them name none
  pub none_in_front : (items : List X) (at : ℕ) → distinct_classes (map see (drop at items)) ≡ None → distinct_classes (map see items) ≡ None
  none_in_front items zero none = none
  none_in_front [] (suc at) none = none
  none_in_front (d ∷ ds) (suc at) none = rw (none_in_front ds at none) refl

-- a set of the classes of all items has what the items say
pub all_classes : (items : List Data) (set : ClassSet) → HasClassesOf items set → option_map is_listed (distinct_classes items) ≡ Some (has_class set)
all_classes items set h = rw h.named (ap Some (λ i class. sym (h.members class) i))
