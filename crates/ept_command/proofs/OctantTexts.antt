-- The word of octants names at most one mask, and what else it may be.
use Rattle.std.proofs.Common.{◌≡◌, ◌≢◌, ℕ, List, [], ◌∷◌, Option, Some, None, ap, refl, sym, ◌∙◌, subst}
use Rattle.std.specs.Prelude.{codes, replicate, IfSome, IfNone}
use Rattle.ept_class.specs.declared.class_set.ClassSet.{ClassSet}
use Rattle.ept_class.specs.Laws.{MembersMakeTheSet}
use Rattle.ept_filter.specs.declared.sift.Sift.{Sift}
use Rattle.ept_filter.specs.SiftText.{IsSiftText, IsClassesText}
use Rattle.ept_filter.proofs.Once.{one-classes}
use Rattle.ept_command.specs.Words.{IsOctantsText, ClassesAreSelected, IsPart}

-- a text that is not one of a selection lists no octants
pub lists_none : ClassesAreSelected → (text : List ℕ) → ((sift : Sift) → ¬ IsSiftText text (codes "-") (codes "-") sift) → (octants : ℕ) → ¬ IsOctantsText text octants
lists_none selected text none octants is = let made = selected text is.numbers is.text_is in none made.0 made.1

module _ (once : MembersMakeTheSet) (text : List ℕ) where
  -- the selection of a text that lists octants has them as its classes
  lists_these : (classes : Option ClassSet) (sift : Sift) → IsSiftText text (codes "-") (codes "-") sift → sift.classes ≡ classes → (octants : ℕ) (is : IsOctantsText text octants) → classes ≡ Some is.numbers
  lists_these classes sift has are octants is = sym are ∙ one-classes once text sift.classes (Some is.numbers) has.classes_are is.text_is

  -- so the text of a selection of any class lists no octants
  pub lists_no_class : (sift : Sift) → IsSiftText text (codes "-") (codes "-") sift → sift.classes ≡ None → (octants : ℕ) → ¬ IsOctantsText text octants
  lists_no_class sift has any octants is = apart (lists_these None sift has any octants is)
    where
      apart : ◌≡◌ {A = Option ClassSet} None (Some is.numbers) → ⊥
      apart same = cc

  same_bytes : (a b : ClassSet) → ◌≡◌ {A = Option ClassSet} (Some a) (Some b) → a.bytes ≡ b.bytes
  same_bytes a b same = ap (λ (s : ClassSet). s.bytes) (inside same)
    where
      inside : ◌≡◌ {A = Option ClassSet} (Some a) (Some b) → a ≡ b
      inside same = cc

  -- nor does the text of a set that has other members
  pub lists_others : (sift : Sift) (numbers : ClassSet) → IsSiftText text (codes "-") (codes "-") sift → sift.classes ≡ Some numbers
      → ((octants : ℕ) → numbers.bytes ≡ octants ∷ replicate 31 0 → octants ≢ 0 → ⊥) → (octants : ℕ) → ¬ IsOctantsText text octants
  lists_others sift numbers has are other octants is = other octants (same_bytes numbers is.numbers (lists_these (Some numbers) sift has are octants is) ∙ is.below_8) is.some

  pub one_mask : (a b : ℕ) → IsOctantsText text a → IsOctantsText text b → a ≡ b
  one_mask a b is other = first (sym is.below_8 ∙ same_bytes is.numbers other.numbers (one-classes once text (Some is.numbers) (Some other.numbers) is.text_is other.text_is) ∙ other.below_8)
    where
      first : a ∷ replicate 31 0 ≡ b ∷ replicate 31 0 → a ≡ b
      first same = cc

-- what the set of a selection gives
pub lists_some : (text : List ℕ) (sift : Sift) (numbers : ClassSet) (found : Option ℕ) → IsSiftText text (codes "-") (codes "-") sift → sift.classes ≡ Some numbers
    → IfSome found (λ octants. numbers.bytes ≡ octants ∷ replicate 31 0) → IfSome found (λ octants. octants ≢ 0) → IfSome found (IsOctantsText text)
lists_some text sift numbers None has are below some = tt
lists_some text sift numbers (Some octants) has are below some = record {
  numbers = numbers;
  text_is = subst (λ (classes : Option ClassSet). IsClassesText text classes) are has.classes_are;
  below_8 = below;
  some = some;
}

pub lists_left : MembersMakeTheSet → (text : List ℕ) (sift : Sift) (numbers : ClassSet) (found : Option ℕ) → IsSiftText text (codes "-") (codes "-") sift → sift.classes ≡ Some numbers
    → IfNone found ((octants : ℕ) → numbers.bytes ≡ octants ∷ replicate 31 0 → octants ≢ 0 → ⊥) → IfNone found ((octants : ℕ) → ¬ IsOctantsText text octants)
lists_left once text sift numbers None has are other = lists_others once text sift numbers has are other
lists_left once text sift numbers (Some octants) has are other = tt

-- the words of a part ask for one
pub part_once : MembersMakeTheSet → (words : List (List ℕ)) (config out other folder : List ℕ) (octants mask : ℕ) → IsPart words config out octants → IsPart words other folder mask → (config ≡ other) × (octants ≡ mask)
part_once once words config out other folder octants mask one two =
    let same = parts one.text two.text (sym one.words_are ∙ two.words_are) in
    (same.0, one_mask once two.text octants mask (subst (λ (t : List ℕ). IsOctantsText t octants) same.1 one.octants_are) two.octants_are)
  where
    parts : (a b : List ℕ) → codes "part" ∷ config ∷ out ∷ a ∷ [] ≡ codes "part" ∷ other ∷ folder ∷ b ∷ [] → (config ≡ other) × (a ≡ b)
    parts a b same = (cc, cc)
