-- Inputs at the start of two lists that are the same.
use Rattle.std.proofs.Common.{◌≡◌, ◌≢◌, ◌∙◌, inl, inr, append_assoc, ℕ, zero, suc, ◌+◌, ◌-◌, ◌<◌, ◌≤◌, List, [], ◌∷◌, ◌++◌, take, drop, length, get_or, refl, sym, ap, subst, arith}
use Rattle.std.proofs.lemmas.List.{take-append-drop, length-take, append-nil, length-append}
use Rattle.ept_config.specs.declared.input.Input.{Input}
use Rattle.ept_config_diff.specs.Alike.{AreAlikeTo}
use Rattle.ept_meta.specs.BuildText.{input_text}
use Rattle.ept_config_diff.specs.Differing.{ArePrefix, AreInputTexts}

head_is : (a b : Input) (as_ bs : List Input) → (a ∷ as_) ≡ (b ∷ bs) → a ≡ b
head_is a b as_ bs e = ap first e
  where
    first : List Input → Input
    first [] = a
    first (x ∷ xs) = x

-- the items after the first n begin with the item at place n
next_is : (xs : List Input) (n : ℕ) (a : Input) (more : List Input) → drop n xs ≡ a ∷ more → (n < length xs) × ((d : Input) → get_or xs n d ≡ a)
next_is [] zero a more e = absurd (cc)
next_is [] (suc n) a more e = absurd (cc)
next_is (x ∷ xs) zero a more e = (omega arith, λ d. head_is x a xs more e)
next_is (x ∷ xs) (suc n) a more e = let r = next_is xs n a more e in (omega (arith, r.0), r.1)

pub alike-at : (count : ℕ) (kept given : List Input) → count ≤ length kept → count ≤ length given → take count given ≡ take count kept → ((a b : Input) → count < length kept → count < length given → get_or kept count a ≡ a → get_or given count b ≡ b → b ≢ a) → AreAlikeTo count kept given
alike-at count kept given in_kept in_given same differ = record {
  front = take count kept;
  kept_rest = drop count kept;
  given_rest = drop count given;
  counted = let len = length-take count kept in omega (arith, in_kept, len);
  kept_are = sym (take-append-drop count kept);
  given_are = sym (take-append-drop count given) ∙ ap (λ (w : List Input). w ++ drop count given) same;
  no_more = λ a b more others k g is.
      let at_kept = next_is kept count a more k in
      let at_given = next_is given count b others g in
      differ a b at_kept.0 at_given.0 (at_kept.1 a) (at_given.1 b) is;
}

rest_empty : (front rest : List Input) → length front ≡ length (front ++ rest) → rest ≡ []
rest_empty front [] same = refl
rest_empty front (r ∷ rest) same = absurd (omega (arith, same, length-append front (r ∷ rest)))

tail_same : (front a b : List Input) → front ++ a ≡ front ++ b → a ≡ b
tail_same [] a b e = e
tail_same (f ∷ front) a b e = tail_same front a b (ap tail e)
  where
    tail : List Input → List Input
    tail [] = []
    tail (x ∷ xs) = xs

-- all kept inputs are the same as the given ones if and only if they are the first of these
pub all-alike : (count : ℕ) (kept given : List Input) → AreAlikeTo count kept given → count ≡ length kept → ArePrefix kept given
all-alike count kept given are all =
    let none : are.kept_rest ≡ [] = rest_empty are.front are.kept_rest (are.counted ∙ (all ∙ ap length are.kept_are)) in
    let kept_is : kept ≡ are.front = are.kept_are ∙ (ap (λ (w : List Input). are.front ++ w) none ∙ append-nil are.front) in
    (are.given_rest, are.given_are ∙ ap (λ (w : List Input). w ++ are.given_rest) (sym kept_is))

pub alike-all : (count : ℕ) (kept given : List Input) → AreAlikeTo count kept given → ArePrefix kept given → count ≡ length kept
alike-all count kept given are first = at are.kept_rest refl
  where
    at : (rest : List Input) → are.kept_rest ≡ rest → count ≡ length kept
    at [] none = let len = ap length (are.kept_are ∙ (ap (λ (w : List Input). are.front ++ w) none ∙ append-nil are.front)) in sym (len ∙ are.counted)
    at (a ∷ more) is =
        let kept_is : kept ≡ are.front ++ a ∷ more = are.kept_are ∙ ap (λ (w : List Input). are.front ++ w) is in
        let given_is : are.front ++ are.given_rest ≡ are.front ++ (a ∷ more ++ first.0) =
        sym are.given_are ∙ (first.1 ∙ (ap (λ (w : List Input). w ++ first.0) kept_is ∙ append_assoc are.front (a ∷ more) first.0)) in
        absurd (are.no_more a a more (more ++ first.0) is (tail_same are.front are.given_rest (a ∷ more ++ first.0) given_is) refl)

-- ---- the first input that differs

some_rest : (count : ℕ) (kept given : List Input) (are : AreAlikeTo count kept given) → ¬ ArePrefix kept given → (a : Input) × (more : List Input) × (are.kept_rest ≡ a ∷ more)
some_rest count kept given are not = at are.kept_rest refl
  where
    at : (rest : List Input) → are.kept_rest ≡ rest → (a : Input) × (more : List Input) × (are.kept_rest ≡ a ∷ more)
    at [] none = absurd (not (all-alike count kept given are (sym are.counted ∙ ap length (sym (are.kept_are ∙ (ap (λ (w : List Input). are.front ++ w) none ∙ append-nil are.front))))))
    at (a ∷ more) is = (a, more, is)

at_seam : (front : List Input) (a : Input) (more : List Input) (d : Input) → get_or (front ++ a ∷ more) (length front) d ≡ a
at_seam [] a more d = refl
at_seam (f ∷ front) a more d = at_seam front a more d

stands : (list front rest more : List Input) (count : ℕ) (a d : Input) → list ≡ front ++ rest → rest ≡ a ∷ more → length front ≡ count → get_or list count d ≡ d → d ≡ a
stands list front rest more count a d list_is rest_is counted at =
    sym at
    ∙ (ap (λ (n : ℕ). get_or list n d) (sym counted)
    ∙ (ap (λ (w : List Input). get_or w (length front) d) (list_is ∙ ap (λ (w : List Input). front ++ w) rest_is) ∙ at_seam front a more d))

-- the next inputs of both lists differ
pub texts-of-both : (count : ℕ) (kept given : List Input) (one other : Input) (one_text other_text : List ℕ) → AreAlikeTo count kept given → ¬ ArePrefix kept given → count < length given → get_or kept count one ≡ one → get_or given count other ≡ other → one_text ≡ input_text one → other_text ≡ input_text other → AreInputTexts kept given one_text other_text
texts-of-both count kept given one other one_text other_text are not inside at_kept at_given one_is other_is =
    let some = some_rest count kept given are not in
    let one_at : one ≡ some.0 = stands kept are.front are.kept_rest some.1 count some.0 one are.kept_are some.2 are.counted at_kept in
    at are.given_rest refl some one_at
  where
    at : (rest : List Input) → are.given_rest ≡ rest → (some : (a : Input) × (more : List Input) × (are.kept_rest ≡ a ∷ more)) → one ≡ some.0 → AreInputTexts kept given one_text other_text
    at [] none some one_at =
        let len = ap length (are.given_are ∙ (ap (λ (w : List Input). are.front ++ w) none ∙ append-nil are.front)) in
        absurd (omega (arith, inside, len, are.counted))
    at (b ∷ others) is some one_at =
        let other_at : other ≡ b = stands given are.front are.given_rest others count b other are.given_are is are.counted at_given in
        record {
          alike = are.front;
          one = one;
          rest = some.1;
          kept_are = are.kept_are ∙ ap (λ (w : List Input). are.front ++ w) (some.2 ∙ ap (λ (w : Input). w ∷ some.1) (sym one_at));
          kept_is = one_is;
          given_is = inr (other, others, are.given_are ∙ ap (λ (w : List Input). are.front ++ w) (is ∙ ap (λ (w : Input). w ∷ others) (sym other_at)), (λ same. are.no_more some.0 b some.1 others some.2 is (sym other_at ∙ (same ∙ one_at))), other_is);
        }

-- the given inputs end before it
pub texts-of-one : (count : ℕ) (kept given : List Input) (one : Input) (one_text other_text : List ℕ) → AreAlikeTo count kept given → ¬ ArePrefix kept given → length given ≤ count → get_or kept count one ≡ one → one_text ≡ input_text one → other_text ≡ [] → AreInputTexts kept given one_text other_text
texts-of-one count kept given one one_text other_text are not outside at_kept one_is none_is =
    let some = some_rest count kept given are not in
    let one_at : one ≡ some.0 = stands kept are.front are.kept_rest some.1 count some.0 one are.kept_are some.2 are.counted at_kept in
    let none : are.given_rest ≡ [] = rest_empty are.front are.given_rest (short (ap length are.given_are)) in
    record {
      alike = are.front;
      one = one;
      rest = some.1;
      kept_are = are.kept_are ∙ ap (λ (w : List Input). are.front ++ w) (some.2 ∙ ap (λ (w : Input). w ∷ some.1) (sym one_at));
      kept_is = one_is;
      given_is = inl (are.given_are ∙ (ap (λ (w : List Input). are.front ++ w) none ∙ append-nil are.front), none_is);
    }
  where
    short : length given ≡ length (are.front ++ are.given_rest) → length are.front ≡ length (are.front ++ are.given_rest)
    short len = omega (arith, len, outside, are.counted, length-append are.front are.given_rest)
