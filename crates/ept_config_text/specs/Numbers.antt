-- Which numbers are in range.
use Rattle.std.specs.Prelude.{ℕ, ℤ, pos, negsuc, Bool, ◌&&◌, ◌==◌, ◌+◌, List, [], ◌∷◌, take, drop, position, nat_le, unsigned_abs, int_le, if◌then◌else◌, Option, Some, None, option_map, option_and_then}
use Rattle.std.specs.List.{list_all}
use Rattle.ept_space.specs.Place.{coordinate}
use Rattle.ept_config_text.specs.Json.{each}
use Rattle.ept_space.specs.declared.bounds.Bounds.{Bounds}

-- a whole number from `least` to `greatest`
unfoldable pub natural_within : ℕ → ℕ → ℤ → Option ℕ
natural_within least greatest (pos n) = if nat_le least n && nat_le n greatest then Some n else None
natural_within least greatest (negsuc n) = None

-- the spans that a node may have: 2 ^ 1 to 2 ^ 10 cells on each axis
abbrev pub spans : List ℕ
spans = 2 ∷ 4 ∷ 8 ∷ 16 ∷ 32 ∷ 64 ∷ 128 ∷ 256 ∷ 512 ∷ 1024 ∷ []

-- the exponent of a span
unfoldable pub exponent_of : ℕ → Option ℕ
exponent_of cells = option_map (λ at. at + 1) (position (λ span. span == cells) spans)

unfoldable pub span_exponent : ℤ → Option ℕ
span_exponent n = option_and_then exponent_of (natural_within 2 1024 n)

-- numbers, each with an absolute value of at most `greatest`
unfoldable pub all_within : ℕ → List ℤ → Option (List ℤ)
all_within greatest xs = if list_all (λ x. nat_le (unsigned_abs x) greatest) xs then Some xs else None

-- a number of 32 bits
unfoldable pub coordinate_of : ℤ → Option ℤ
coordinate_of x = if int_le (negsuc 2147483647) x && int_le x (pos 2147483647) then Some x else None

-- three such numbers
unfoldable pub place_of : List ℤ → Option (List ℤ)
place_of xs = each coordinate_of xs

-- the least place is at most the greatest one on each axis
unfoldable pub is_ordered : List ℤ → List ℤ → Bool
is_ordered min max = int_le (coordinate min 0) (coordinate max 0) && (int_le (coordinate min 1) (coordinate max 1) && int_le (coordinate min 2) (coordinate max 2))

unfoldable pub bounds_between : List ℤ → List ℤ → Option Bounds
bounds_between min max = if is_ordered min max then Some (record { min = min; max = max }) else None

-- the bounds of six numbers: the least place and then the greatest one
unfoldable pub bounds_within : List ℤ → Option Bounds
bounds_within xs = option_and_then (λ min. option_and_then (bounds_between min) (place_of (drop 3 xs))) (place_of (take 3 xs))
