-- The piece that comes next is the start of all that is left.
use Rattle.std.proofs.Common.{◌≡◌, ℕ, ◌+◌, ◌-◌, ◌<◌, ◌≤◌, List, [], ◌∷◌, ◌++◌, Bool, Vec, length, take, drop, refl, sym, ◌∙◌, ap, subst, arith, ⊎_elim, length-append, length-drop, length-take}
use Rattle.std.specs.Prelude.{min, if◌then◌else◌}
use Rattle.std.specs.declared.alloc.Global.{Global}
use Rattle.std.proofs.lemmas.List.{take_at, take-append-le, drop-append-le, take-append-drop, drop-drop, drop_all}
use Rattle.std.proofs.lemmas.Bool.{cases_lt, lt-ltb, le-ltb}
use Rattle.std.proofs.Math.Seq.{drop-append-add}
use Rattle.ept_mem.specs.Cut.{bytes_of_all, rest_of_piece}

-- what is left is the rest of the piece and more, and the rest is empty only if nothing is left
pub record Begins (left rest : List ℕ) : Type 0 where
  pub behind : List ℕ
  pub split : left ≡ rest ++ behind
  pub none : rest ≡ [] → left ≡ []

pub piece_begins : (pieces : List (Vec ℕ Global)) (place : ℕ) → Begins (drop place (bytes_of_all pieces)) (rest_of_piece pieces place)
piece_begins [] place =
    let nothing : drop place (bytes_of_all []) ≡ [] = drop_all place (bytes_of_all []) (omega arith) in
    record { behind = []; split = nothing; none = λ _. nothing }
piece_begins (piece ∷ pieces) place = ⊎_elim within (past (piece_begins pieces (place - length piece.items))) (cases_lt place (length piece.items))
  where
    within : place < length piece.items → Begins (drop place (bytes_of_all (piece ∷ pieces))) (rest_of_piece (piece ∷ pieces) place)
    within lt =
        let here : drop place (piece.items ++ bytes_of_all pieces) ≡ drop place piece.items ++ bytes_of_all pieces = drop-append-le place piece.items (bytes_of_all pieces) (omega (arith, lt)) in
        let some : drop place piece.items ≡ [] → drop place (piece.items ++ bytes_of_all pieces) ≡ [] = λ none. absurd (omega (arith, lt, length-drop place piece.items, ap length none)) in
        let begins : Begins (drop place (piece.items ++ bytes_of_all pieces)) (drop place piece.items) = record { behind = bytes_of_all pieces; split = here; none = some } in
        subst (λ (b : Bool). Begins (drop place (piece.items ++ bytes_of_all pieces)) (if b then drop place piece.items else rest_of_piece pieces (place - length piece.items)))
        (sym (lt-ltb place (length piece.items) lt)) begins

    past : Begins (drop (place - length piece.items) (bytes_of_all pieces)) (rest_of_piece pieces (place - length piece.items)) → length piece.items ≤ place → Begins (drop place (bytes_of_all (piece ∷ pieces))) (rest_of_piece (piece ∷ pieces) place)
    past later le =
        let sum : length piece.items + (place - length piece.items) ≡ place = omega (arith, le) in
        let there : drop (place - length piece.items) (bytes_of_all pieces) ≡ drop place (piece.items ++ bytes_of_all pieces) =
        sym (drop-append-add piece.items (bytes_of_all pieces) (place - length piece.items)) ∙ ap (λ (n : ℕ). drop n (piece.items ++ bytes_of_all pieces)) sum in
        subst (λ (b : Bool). Begins (drop place (piece.items ++ bytes_of_all pieces)) (if b then drop place piece.items else rest_of_piece pieces (place - length piece.items)))
        (sym (le-ltb place (length piece.items) le))
        (subst (λ (l : List ℕ). Begins l (rest_of_piece pieces (place - length piece.items))) there later)

-- so the first n bytes of a piece are read, and the others are left
pub left_behind : (pieces : List (Vec ℕ Global)) (place n : ℕ) → n ≤ length (rest_of_piece pieces place)
    → drop place (bytes_of_all pieces) ≡ take n (rest_of_piece pieces place) ++ drop (place + n) (bytes_of_all pieces)
left_behind pieces place n le =
    let left : List ℕ = drop place (bytes_of_all pieces) in
    let begins = piece_begins pieces place in
    let front : take n left ≡ take n (rest_of_piece pieces place) =
    ap (λ (l : List ℕ). take n l) begins.split ∙ take-append-le n (rest_of_piece pieces place) begins.behind le in
    sym (take-append-drop n left) ∙ ap (λ (l : List ℕ). l ++ drop n left) front ∙ ap (λ (l : List ℕ). take n (rest_of_piece pieces place) ++ l) (drop-drop n place (bytes_of_all pieces))

-- a read that copies the start of the piece into the buffer, and keeps what it gave
module _ (pieces : List (Vec ℕ Global)) (taken more into copied rest : List ℕ) (n : ℕ)
    (rest_is : rest ≡ rest_of_piece pieces (length taken)) (count : n ≡ min (length rest) (length into)) (copied_is : copied ≡ take n rest) (more_is : more ≡ taken ++ take n rest) where
  buffer_front : take n (copied ++ drop n into) ≡ take n rest
  buffer_front = take_at copied (drop n into) n (omega (arith, count, ap length copied_is, length-take n rest)) ∙ copied_is

  pub read_taken : more ≡ taken ++ take n (copied ++ drop n into)
  read_taken = more_is ∙ ap (λ (l : List ℕ). taken ++ l) (sym buffer_front)

  place_after : length more ≡ length taken + n
  place_after = omega (arith, count, ap length more_is, length-append taken (take n rest), length-take n rest)

  pub read_left : drop (length taken) (bytes_of_all pieces) ≡ take n (copied ++ drop n into) ++ drop (length more) (bytes_of_all pieces)
  read_left =
      left_behind pieces (length taken) n (omega (arith, count, ap length rest_is))
      ∙ ap (λ (l : List ℕ). take n l ++ drop (length taken + n) (bytes_of_all pieces)) (sym rest_is)
      ∙ ap (λ (l : List ℕ). l ++ drop (length taken + n) (bytes_of_all pieces)) (sym buffer_front)
      ∙ ap (λ (k : ℕ). take n (copied ++ drop n into) ++ drop k (bytes_of_all pieces)) (sym place_after)

  -- if no byte was read into a buffer with room, there is none left
  pub read_end : n ≡ 0 → 0 < length (copied ++ drop n into) → drop (length more) (bytes_of_all pieces) ≡ []
  read_end none room =
      let short : length rest ≡ 0 = omega (arith, none, room, count, length-append copied (drop n into), length-drop n into, ap length copied_is, length-take n rest) in
      ap (λ (k : ℕ). drop k (bytes_of_all pieces)) (let same : length more ≡ length taken = omega (arith, place_after, none) in same)
      ∙ (piece_begins pieces (length taken)).none (sym rest_is ∙ empty rest short)
    where
      empty : (l : List ℕ) → length l ≡ 0 → l ≡ []
      empty [] zero = refl
      empty (x ∷ l) some = absurd (omega (arith, some))
