use Rattle.std.specs.Prelude.{◌≡◌, ℕ, ◌<◌, ◌==◌, ◌↔◌, IsTrue, List}
use Rattle.std.specs.List.{AllByRecursion, list_any}
use Rattle.ept_class.specs.declared.class_set.ClassSet.{ClassSet}
use Rattle.ept_class.specs.ClassSet.{has_class, has_member}

-- two sets with the same members are the same set
abbrev pub MembersMakeTheSet : Type 0
MembersMakeTheSet = (a b : ClassSet) → ((class : ℕ) → has_class a class ≡ has_class b class) → a ≡ b

-- any classes are the members of a set
abbrev pub ClassesHaveASet : Type 0
ClassesHaveASet =
    (classes : List ℕ) → AllByRecursion (λ class. class < 256) classes → (set : ClassSet) × ((class : ℕ) → has_class set class ≡ list_any (λ member. class == member) classes)

-- a set has a member if and only if some class is one
abbrev pub AMemberIsAClass : Type 0
AMemberIsAClass = (set : ClassSet) → IsTrue (has_member set) ↔ ((class : ℕ) × IsTrue (has_class set class))
