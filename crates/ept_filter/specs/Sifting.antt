-- Which points pass a selection, and what is kept of them: of points, and of their packed form.
use Rattle.std.specs.Prelude.{ℕ, zero, suc, ◌/◌, Bool, true, ◌&&◌, List, [], ◌∷◌, length, filter, take, drop, slice_index_or, Option, Some, None}
use Rattle.std.specs.List.{flat_map}
use Rattle.std.specs.Str.{bytes_eq}
use Rattle.ept_point.specs.declared.point.Point.{Point}
use Rattle.ept_point.specs.Dimensions.{packed_width}
use Rattle.ept_point.specs.Packed.{field_bytes, number_in}
use Rattle.ept_class.specs.declared.class_set.ClassSet.{ClassSet}
use Rattle.ept_class.specs.ClassSet.{has_class}
use Rattle.ept_filter.specs.declared.sift.Sift.{Sift}
use Rattle.ept_filter.specs.Asked.{asked_rows}
use Rattle.ept_filter.specs.Layout.{part}

-- any class is asked for, or the class is in the set that is asked for
abbrev pub admits_class : Option ClassSet → ℕ → Bool
admits_class None class = true
admits_class (Some set) class = has_class set class

-- any time is asked for, or this one
abbrev pub admits_time : Option (List ℕ) → List ℕ → Bool
admits_time None time = true
admits_time (Some asked) time = bytes_eq asked time

-- ---- points

-- a point passes: its class and its time are asked for
abbrev pub passes : Sift → Point → Bool
passes sift p = admits_class sift.classes p.class && admits_time sift.time p.gps

-- what is kept of a point: the bytes of the dimensions asked for, in the order in which they are asked for
abbrev pub cut : Sift → Point → List ℕ
cut sift p = flat_map (λ dim. slice_index_or (field_bytes p) dim []) (asked_rows sift.dims)

-- ---- bytes

-- the rows of the class and of the time
abbrev pub class_row : ℕ
class_row = 8

abbrev pub time_row : ℕ
time_row = 15

-- a packed point passes
unfoldable pub passes_packed : Sift → List ℕ → Bool
passes_packed sift packed =
    admits_class sift.classes (number_in (part packed class_row)) && admits_time sift.time (part packed time_row)

-- what is kept of a packed point
unfoldable pub cut_packed : Sift → List ℕ → List ℕ
cut_packed sift packed = flat_map (part packed) (asked_rows sift.dims)

-- `count` packed points, one after another
abbrev pub packed_points : ℕ → List ℕ → List (List ℕ)
packed_points zero bytes = []
packed_points (suc count) bytes = take packed_width bytes ∷ packed_points count (drop packed_width bytes)

-- the packed points that pass
unfoldable pub selected : Sift → List ℕ → List (List ℕ)
selected sift bytes = filter (passes_packed sift) (packed_points (length bytes / packed_width) bytes)

-- what is kept of them, one after another
unfoldable pub sifted : Sift → List ℕ → List ℕ
sifted sift bytes = flat_map (cut_packed sift) (selected sift bytes)
