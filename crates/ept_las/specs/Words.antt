-- How a number is read from bytes, the lowest byte first.
use Rattle.std.specs.Prelude.{ℕ, ℤ, ◌<◌, ◌/◌, ◌%◌, ◌^◌, List, drop, slice_index}
use Rattle.std.specs.Int.{w8, w16, w32, cast_signed}
use Rattle.byteorder.specs.Endian.{little_number}

-- the number in 2, 4 or 8 bytes from a place on
unfoldable pub u16_at : List ℕ → ℕ → ℕ
u16_at bytes at = little_number 2 (drop at bytes)

unfoldable pub u32_at : List ℕ → ℕ → ℕ
u32_at bytes at = little_number 4 (drop at bytes)

unfoldable pub u64_at : List ℕ → ℕ → ℕ
u64_at bytes at = little_number 8 (drop at bytes)

-- the same, as a signed number in two's complement
unfoldable pub i8_at : List ℕ → ℕ → ℤ
i8_at bytes at = cast_signed w8 (slice_index bytes at)

unfoldable pub i16_at : List ℕ → ℕ → ℤ
i16_at bytes at = cast_signed w16 (little_number 2 (drop at bytes))

unfoldable pub i32_at : List ℕ → ℕ → ℤ
i32_at bytes at = cast_signed w32 (little_number 4 (drop at bytes))

-- `count` bits of a byte, from the bit `low` up
unfoldable pub bits : ℕ → ℕ → ℕ → ℕ
bits byte low count = byte / 2 ^ low % 2 ^ count

-- numbers that are bytes
abbrev pub AreBytes : List ℕ → Type 0
AreBytes bytes = (i : ℕ) → slice_index bytes i < 2 ^ 8
