-- The linear congruential generator with Knuth's numbers for 64 bits.
use Rattle.std.specs.Prelude.{ℕ, ◌+◌, ◌*◌, ◌%◌, ◌^◌}

-- the number after n
abbrev pub after : ℕ → ℕ
after n = (n * 6364136223846793005 + 1442695040888963407) % 2 ^ 64
