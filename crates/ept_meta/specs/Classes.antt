-- The members of a set of classes, one by one.
use Rattle.std.specs.Prelude.{ℕ, List}
use Rattle.std.specs.List.{filter, range_with_len}
use Rattle.ept_class.specs.declared.class_set.ClassSet.{ClassSet}
use Rattle.ept_class.specs.ClassSet.{has_class}

-- the members below a number, in ascending order
unfoldable pub members_below : ClassSet → ℕ → List ℕ
members_below set n = filter (has_class set) (range_with_len 0 n)

-- all members
unfoldable pub members_of : ClassSet → List ℕ
members_of set = members_below set 256
