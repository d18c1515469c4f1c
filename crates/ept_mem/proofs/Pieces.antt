-- A piece of bytes that was read.
use Rattle.std.proofs.Common.{◌≡◌, ℕ, ◌+◌, ◌-◌, ◌<◌, min, List, [], ◌++◌, length, take, drop, sym, ◌∙◌, ap, arith, length-append, length-drop, length-take}
use Rattle.std.proofs.lemmas.List.{take_at, take_all, take-append-drop, drop-drop, drop_all}

pub read_is : (bytes into copied : List ℕ) (place n : ℕ) → n ≡ min (length (drop place bytes)) (length into) → copied ≡ take n (drop place bytes)
    → (drop place bytes ≡ take n (copied ++ drop n into) ++ drop (place + n) bytes) × (n ≡ 0 → 0 < length (copied ++ drop n into) → drop (place + n) bytes ≡ [])
read_is bytes into copied place n count is =
    let size : length copied ≡ n = omega (arith, ap length is, length-take n (drop place bytes)) in (
      sym (ap (λ (l : List ℕ). l ++ drop (place + n) bytes) (take_at copied (drop n into) n size ∙ is) ∙ ap (λ (l : List ℕ). take n (drop place bytes) ++ l) (sym (drop-drop n place bytes)) ∙ take-append-drop n (drop place bytes)),
      (λ none room. drop_all (place + n) bytes (omega (arith, length-append copied (drop n into), length-drop n into, length-drop place bytes))),
    )

-- the same as it is spelled in the code
pub piece_is : (whole bytes into copied : List ℕ) (place n : ℕ) → whole ≡ bytes → n ≡ min (length (take (length whole - place) (drop place whole))) (length into) → copied ≡ take n (take (length whole - place) (drop place whole))
    → (drop place bytes ≡ take n (copied ++ drop n into) ++ drop (place + n) bytes) × (n ≡ 0 → 0 < length (copied ++ drop n into) → drop (place + n) bytes ≡ [])
piece_is whole bytes into copied place n same count is =
    let all : take (length whole - place) (drop place whole) ≡ drop place bytes =
    take_all (length whole - place) (drop place whole) (omega (arith, length-drop place whole)) ∙ ap (λ (l : List ℕ). drop place l) same in
    read_is bytes into copied place n (count ∙ ap (λ (l : List ℕ). min (length l) (length into)) all) (is ∙ ap (λ (l : List ℕ). take n l) all)
