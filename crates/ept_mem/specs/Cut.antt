-- Bytes that come in pieces.
use Rattle.std.specs.Prelude.{ℕ, ◌-◌, List, [], ◌∷◌, Vec, length, drop, nat_lt, if◌then◌else◌}
use Rattle.std.specs.List.{flat_map}
use Rattle.std.specs.declared.alloc.Global.{Global}

-- the bytes of all pieces
abbrev pub bytes_of_all : List (Vec ℕ Global) → List ℕ
bytes_of_all pieces = flat_map (λ (piece : Vec ℕ Global). piece.items) pieces

-- after `place` bytes: what is left of the piece that has the next byte
abbrev pub rest_of_piece : List (Vec ℕ Global) → ℕ → List ℕ
rest_of_piece [] place = []
rest_of_piece (piece ∷ pieces) place = if nat_lt place (length piece.items) then drop place piece.items else rest_of_piece pieces (place - length piece.items)
