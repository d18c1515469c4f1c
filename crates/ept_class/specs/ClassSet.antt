use Rattle.std.specs.Prelude.{ℕ, ◌/◌, ◌%◌, Bool, not, ◌==◌, slice_index}
use Rattle.std.specs.Int.{bit_at}
use Rattle.std.specs.List.{list_any}
use Rattle.ept_class.specs.declared.class_set.ClassSet.{ClassSet}

-- a class is a member of a set: its bit is set
unfoldable pub has_class : ClassSet → ℕ → Bool
has_class set class = bit_at (slice_index set.bytes (class / 8)) (class % 8) == 1

-- a set has a member: some byte of it is not 0
unfoldable pub has_member : ClassSet → Bool
has_member set = list_any (λ byte. not (byte == 0)) set.bytes
