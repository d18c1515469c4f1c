-- Texts whose length fits into a field of 32 bits.
use Rattle.std.proofs.Common.{◌≡◌, ℕ, ◌<◌, ◌^◌, true, List, length, arith}
use Rattle.ept_config.specs.Texts.{is_path, is_srs_text}

pub path_short : (path : List ℕ) → is_path path ≡ true → length path < 2 ^ 32
unfolding is_path
path_short path is = grind (arith, is)

pub srs_text_short : (text : List ℕ) → is_srs_text text ≡ true → length text < 2 ^ 32
unfolding is_srs_text
srs_text_short text is = grind (arith, is)
