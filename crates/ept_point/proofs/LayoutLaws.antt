-- What holds of the packed form in either layout.
use Rattle.std.proofs.Common.{◌≡◌, ℕ, ◌+◌, ◌/◌, ◌%◌, ◌<◌, ◌^◌, List, [], ◌∷◌, ◌++◌, length, take, drop, replicate, get_or, map, Option, None, Some, sym, ap, ◌∙◌, subst, arith, length-append, length-take, length-drop, take-append-drop, append_assoc, append-nil}
use Rattle.std.specs.Option.{IfSome}
use Rattle.std.specs.List.{concat, AllByRecursion}
use Rattle.std.proofs.lemmas.List.{get_or-append-add}
use Rattle.std.proofs.lemmas.List.Folds.{concat-append}
use Rattle.ept_point.specs.declared.point.Point.{Point}
use Rattle.ept_point.specs.declared.layout.Layout.{Layout}
use Rattle.ept_point.specs.declared.layout.Layout.TheVariants.{Old, New}
use Rattle.ept_point.specs.Dimensions.{old_width}
use Rattle.ept_point.specs.Packed.{little_endian, bytes_of, front_fields, field_bytes, packed, old_packed, HasFieldAboveBound}
use Rattle.ept_point.specs.Layout.{width_of, packed_in, tile_in, FitsIn, no_high_bytes, HasFieldAboveIn, IsPackedIn, IsTileIn}
use Rattle.ept_point.proofs.PackedLaws.{append_same, length-packed, packed_one, packed_within_bounds}

-- the bytes of a point before the number of its record, field by field
abbrev front_bytes : Point → List (List ℕ)
front_bytes p = map (λ field. bytes_of field.0 field.1) (front_fields p)

-- a number of four bytes has four zeros after them in eight
eight_of_four : (n : ℕ) → n < 2 ^ 32 → little_endian 8 n ≡ little_endian 4 n ++ no_high_bytes
unfolding little_endian
eight_of_four n h =
    let at_4 : n / 4294967296 % 256 ≡ 0 = omega arith in
    let at_5 : n / 1099511627776 % 256 ≡ 0 = omega arith in
    let at_6 : n / 281474976710656 % 256 ≡ 0 = omega arith in
    let at_7 : n / 72057594037927936 % 256 ≡ 0 = omega arith in
    λ i. (n % 256) ∷ (n / 256 % 256) ∷ (n / 65536 % 256) ∷ (n / 16777216 % 256) ∷ at_4 i ∷ at_5 i ∷ at_6 i ∷ at_7 i ∷ []

-- the fields before the number, then the number
one_more : (xs : List (List ℕ)) (x : List ℕ) → concat (xs ++ x ∷ []) ≡ concat xs ++ x
one_more xs x = concat-append xs (x ∷ []) ∙ ap (λ (t : List ℕ). concat xs ++ t) (append-nil x)

packed_parts : (p : Point) → packed p ≡ concat (front_bytes p) ++ little_endian 8 p.number
unfolding packed field_bytes
packed_parts p = one_more (front_bytes p) (little_endian 8 p.number)

old_parts : (p : Point) → old_packed p ≡ concat (front_bytes p) ++ little_endian 4 p.number
unfolding old_packed
old_parts p = one_more (front_bytes p) (little_endian 4 p.number)

-- the packed form of a point that fits the old layout has zeros after the old one
pub packed_of_old : (p : Point) → FitsIn Old p → packed p ≡ old_packed p ++ no_high_bytes
packed_of_old p fits =
    packed_parts p
    ∙ ap (λ (t : List ℕ). concat (front_bytes p) ++ t) (eight_of_four p.number fits)
    ∙ sym (append_assoc (concat (front_bytes p)) (little_endian 4 p.number) no_high_bytes)
    ∙ ap (λ (t : List ℕ). t ++ no_high_bytes) (sym (old_parts p))

length-old_packed : (p : Point) → length (old_packed p) ≡ old_width
unfolding old_packed little_endian
length-old_packed p = simp (length-append, p.widths.gps_length)

-- ---- what eight bytes, the last four of them 0, say of a number

length-front : (p : Point) → length (concat (front_bytes p)) ≡ 45
unfolding little_endian
length-front p = simp (length-append, p.widths.gps_length)

four_of_eight : (n : ℕ) (low : List ℕ) → n < 2 ^ 64 → length low ≡ 4 → little_endian 8 n ≡ low ++ no_high_bytes → n < 2 ^ 32
unfolding little_endian
four_of_eight n low fits len e =
    let zero_at : (k : ℕ) → get_or (little_endian 8 n) (4 + k) 0 ≡ get_or no_high_bytes k 0 =
    λ k. ap (λ (t : List ℕ). get_or t (4 + k) 0) e ∙ ap (λ (m : ℕ). get_or (low ++ no_high_bytes) (m + k) 0) (sym len) ∙ get_or-append-add low no_high_bytes k 0 in
    let at_4 : n / 4294967296 % 256 ≡ 0 = zero_at 0 in
    let at_5 : n / 1099511627776 % 256 ≡ 0 = zero_at 1 in
    let at_6 : n / 281474976710656 % 256 ≡ 0 = zero_at 2 in
    let at_7 : n / 72057594037927936 % 256 ≡ 0 = zero_at 3 in
    let none_at_7 : n / 72057594037927936 ≡ 0 = omega (arith, at_7, fits) in
    let none_at_6 : n / 281474976710656 ≡ 0 = omega (arith, at_6, none_at_7) in
    let none_at_5 : n / 1099511627776 ≡ 0 = omega (arith, at_5, none_at_6) in
    let none_at_4 : n / 4294967296 ≡ 0 = omega (arith, at_4, none_at_5) in
    omega (arith, none_at_4)

fits_old : (bytes : List ℕ) (p : Point) → length bytes ≡ old_width → packed p ≡ bytes ++ no_high_bytes → FitsIn Old p
fits_old bytes p len e =
    let parts =
    append_same (concat (front_bytes p)) (take 45 bytes) (little_endian 8 p.number) (drop 45 bytes ++ no_high_bytes) (omega (arith, length-front p, length-take 45 bytes, len))
    (sym (packed_parts p) ∙ e ∙ ap (λ (t : List ℕ). t ++ no_high_bytes) (sym (take-append-drop 45 bytes)) ∙ append_assoc (take 45 bytes) (drop 45 bytes) no_high_bytes) in
    four_of_eight p.number (drop 45 bytes) p.widths.number_fits (omega (arith, length-drop 45 bytes, len)) parts.1

-- the old bytes before 53 zeros
pub put_before : (bytes all : List ℕ) → length bytes ≡ old_width → all ≡ bytes ++ drop (length bytes) (replicate 53 0) → all ≡ bytes ++ no_high_bytes
put_before bytes all len is = is ∙ ap (λ (n : ℕ). bytes ++ drop n (replicate 53 0)) len

-- a point whose packed form has zeros there fits the old layout, and these are its bytes there
pub read_fits : (bytes all : List ℕ) (o : Option Point) → length bytes ≡ old_width → all ≡ bytes ++ no_high_bytes → IfSome o (λ p. packed p ≡ all) → IfSome o (FitsIn Old)
read_fits bytes all None len same e = tt
read_fits bytes all (Some p) len same e = fits_old bytes p len (e ∙ same)

pub read_old : (bytes all : List ℕ) (o : Option Point) → length bytes ≡ old_width → all ≡ bytes ++ no_high_bytes → IfSome o (λ p. packed p ≡ all) → IfSome o (λ p. old_packed p ≡ bytes)
read_old bytes all None len same e = tt
read_old bytes all (Some p) len same e =
    let is : packed p ≡ bytes ++ no_high_bytes = e ∙ same in
    (append_same (old_packed p) bytes no_high_bytes no_high_bytes (length-old_packed p ∙ sym len) (sym (packed_of_old p (fits_old bytes p len is)) ∙ is)).0

-- ---- both layouts

-- a point takes the number of bytes that is the width of the layout
pub length-packed_in : (layout : Layout) (p : Point) → length (packed_in layout p) ≡ width_of layout
length-packed_in Old p = length-old_packed p
length-packed_in New p = length-packed p

-- points that fit, with the same packed form, are the same
pub packed_in_one : (layout : Layout) (p q : Point) → FitsIn layout p → FitsIn layout q → packed_in layout p ≡ packed_in layout q → p ≡ q
packed_in_one Old p q fits fits' e =
    packed_one p q (packed_of_old p fits ∙ ap (λ (t : List ℕ). t ++ no_high_bytes) e ∙ sym (packed_of_old q fits'))
packed_in_one New p q fits fits' e = packed_one p q e

-- no field of the packed form of a point that fits is above its bound
pub within_bounds_in : (layout : Layout) (p : Point) → FitsIn layout p → HasFieldAboveIn layout (packed_in layout p) → ⊥
within_bounds_in Old p fits above = packed_within_bounds p (subst HasFieldAboveBound (sym (packed_of_old p fits)) above)
within_bounds_in New p fits above = packed_within_bounds p above

-- the bytes are the packed form of a point that fits
pub packed_parts_in : (layout : Layout) (bytes : List ℕ) (p : Point) → IsPackedIn layout bytes p → (bytes ≡ packed_in layout p) × FitsIn layout p
packed_parts_in Old bytes p is = is
packed_parts_in New bytes p is = (is, tt)

pub is_packed : (layout : Layout) (bytes : List ℕ) (p : Point) → bytes ≡ packed_in layout p → FitsIn layout p → IsPackedIn layout bytes p
is_packed Old bytes p e fits = (e, fits)
is_packed New bytes p e fits = e

-- and a tile of points that fit
each_fits_new : (points : List Point) → AllByRecursion (FitsIn New) points
each_fits_new [] = tt
each_fits_new (p ∷ points) = (tt, each_fits_new points)

pub tile_parts_in : (layout : Layout) (bytes : List ℕ) (points : List Point) → IsTileIn layout bytes points → (bytes ≡ tile_in layout points) × AllByRecursion (FitsIn layout) points
tile_parts_in Old bytes points is = is
tile_parts_in New bytes points is = (is, each_fits_new points)

pub is_tile : (layout : Layout) (bytes : List ℕ) (points : List Point) → bytes ≡ tile_in layout points → AllByRecursion (FitsIn layout) points → IsTileIn layout bytes points
is_tile Old bytes points e fit = (e, fit)
is_tile New bytes points e fit = e
