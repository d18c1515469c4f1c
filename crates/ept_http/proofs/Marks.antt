-- A list before a mark that it lacks.
use Rattle.std.proofs.Common.{◌≡◌, ◌≢◌, ℕ, ◌+◌, ◌-◌, List, [], ◌∷◌, ◌++◌, length, Option, Some, None, cond, eqb, ltb, sym, ap, ◌∙◌, arith, drop, take, append_assoc, length-append}
use Rattle.std.specs.List.{AllByRecursion, position_or_len}
use Rattle.std.proofs.lemmas.List.{take_at, drop_at, take_rest, length_push}
use Rattle.std.proofs.lemmas.Bool.Decides.{nat_tests}

-- the first mark comes after the list
pub position-mark : (mark : ℕ) (front rest : List ℕ) → AllByRecursion (λ b. b ≢ mark) front → position_or_len (λ b. eqb b mark) (front ++ mark ∷ rest) ≡ length front
position-mark mark [] rest clean = grind (arith, nat_tests)
position-mark mark (b ∷ front) rest clean =
    let later = position-mark mark front rest clean.1 in
    let other = clean.0 in
    grind (arith, nat_tests)

-- so a search finds it there
pub found-mark : (mark : ℕ) (front rest text : List ℕ) (r : Option ℕ) → AllByRecursion (λ b. b ≢ mark) front → text ≡ front ++ mark ∷ rest → r ≡ cond (ltb (position_or_len (λ b. eqb b mark) text) (length text)) (Some (position_or_len (λ b. eqb b mark) text)) None → r ≡ Some (length front)
found-mark mark front rest text r clean spelled found =
    let at : position_or_len (λ b. eqb b mark) text ≡ length front = ap (position_or_len (λ b. eqb b mark)) spelled ∙ position-mark mark front rest clean in
    let long = ap length spelled ∙ length-append front (mark ∷ rest) in
    grind (arith, nat_tests)

-- and the text is cut there
pub parts-mark : (mark : ℕ) (front rest text : List ℕ) (at : ℕ) → text ≡ front ++ mark ∷ rest → at ≡ length front → (take at text ≡ front) × (take (length text - (at + 1)) (drop (at + 1) text) ≡ rest)
parts-mark mark front rest text at spelled here =
    let grouped : text ≡ (front ++ mark ∷ []) ++ rest = spelled ∙ sym (append_assoc front (mark ∷ []) rest) in
    let behind : length (front ++ mark ∷ []) ≡ at + 1 = omega (arith, length_push front mark) in (
      ap (take at) spelled ∙ take_at front (mark ∷ rest) at (sym here),
      take_rest text (at + 1) ∙ ap (drop (at + 1)) grouped ∙ drop_at (front ++ mark ∷ []) rest (at + 1) behind,
    )
