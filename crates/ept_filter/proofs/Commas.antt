-- The words between the commas of a text.
use Rattle.std.proofs.Common.{Bool, true, false, ◌≡◌, ℕ, ◌+◌, ◌-◌, ◌<◌, ◌≤◌, List, [], ◌∷◌, length, take, drop, Option, Some, None, Bor, cond, eqb, ltb, MatchOption, refl, ap, ◌∙◌, arith}
use Rattle.std.specs.List.{slice_split, position_or_len}
use Rattle.std.proofs.lemmas.List.Splits.{slice_split_first, length-slice_split}
use Rattle.std.proofs.lemmas.List.{take_rest}
use Rattle.std.proofs.lemmas.Bool.Decides.{nat_tests}
use Rattle.ept_filter.specs.Words.{words}

abbrev pub words_of : Option (Bor (List ℕ)) → List (List ℕ)
words_of None = []
words_of (Some text) = words text.now

-- what is left after the first word
pub words-next : (text word : List ℕ) (later : Option (Bor (List ℕ))) → MatchOption later (words text ≡ word ∷ []) (λ l. words text ≡ word ∷ words l.now) → words text ≡ word ∷ words_of later
words-next text word None h = h
words-next text word (Some l) h = h

abbrev pub is_comma : ℕ → Bool
is_comma b = eqb b 44

pub first-of-some : (text : List ℕ) (at : ℕ) → Some at ≡ cond (ltb (position_or_len is_comma text) (length text)) (Some (position_or_len is_comma text)) None → words text ≡ take at text ∷ words (take (length text - (at + 1)) (drop (at + 1) text))
unfolding words
first-of-some text at found =
    let here : position_or_len is_comma text < length text = grind (arith, nat_tests) in
    let same : at ≡ position_or_len is_comma text = grind (arith, nat_tests) in
    rw (take_rest text (at + 1), same) (slice_split_first is_comma text 0 here)

none-split : (text : List ℕ) → length text ≤ position_or_len is_comma text → slice_split is_comma text ≡ text ∷ []
none-split [] none = refl
none-split (b ∷ text) none = by (is_comma b) refl (none-split text)
  where
    by : (test : Bool) → is_comma b ≡ test → (length text ≤ position_or_len is_comma text → slice_split is_comma text ≡ text ∷ []) → slice_split is_comma (b ∷ text) ≡ (b ∷ text) ∷ []
    by true e split = absurd (grind (arith, nat_tests))
    by false e split =
        let later : length text ≤ position_or_len is_comma text = grind (arith, nat_tests) in
        rw (e, split later) refl

pub first-of-none : (text : List ℕ) → None ≡ cond (ltb (position_or_len is_comma text) (length text)) (Some (position_or_len is_comma text)) None → words text ≡ text ∷ []
unfolding words
first-of-none text found =
    let none : length text ≤ position_or_len is_comma text = grind (arith, nat_tests) in
    none-split text none

pub some-word : (text : List ℕ) → 1 ≤ length (words text)
unfolding words
some-word text = omega (arith, length-slice_split is_comma text)

-- one word fewer is left
pub words-step : (rest : Option (Bor (List ℕ))) (text : Bor (List ℕ)) (word : List ℕ) (later : Option (Bor (List ℕ))) → rest ≡ Some text → MatchOption later (words text.now ≡ word ∷ []) (λ l. words text.now ≡ word ∷ words l.now) → words_of rest ≡ word ∷ words_of later
words-step rest text word later is h = ap words_of is ∙ words-next text.now word later h
