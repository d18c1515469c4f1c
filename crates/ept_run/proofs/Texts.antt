-- Pieces of a text that are appended one after another.
use Rattle.std.proofs.Common.{◌≡◌, List, ℕ, ◌++◌, Ok, Err, ◌∙◌, ap, append_assoc}
use Rattle.std.specs.Prelude.{Result, OnOk}

-- a piece after its word
pub behind_word : {A E : Type 0} (answer : Result A E) (new old word text : List ℕ) → OnOk answer (new ≡ old ++ word ++ text) → OnOk answer (new ≡ old ++ (word ++ text))
behind_word (Ok a) new old word text is = is ∙ append_assoc old word text
behind_word (Err e) new old word text is = tt

-- three pieces: a number after its word, and two more
pub three_pieces : (old one two three word number second third : List ℕ) → one ≡ old ++ word ++ number → two ≡ one ++ second → three ≡ two ++ third → three ≡ old ++ (word ++ number ++ second ++ third)
three_pieces old one two three word number second third is_one is_two is_three =
    is_three ∙ ap (λ (l : List ℕ). l ++ third) (is_two ∙ ap (λ (l : List ℕ). l ++ second) is_one) ∙ simp append_assoc

-- two numbers, each after its word, and an end
pub two_numbers : (old one two three word number between other end : List ℕ) → one ≡ old ++ word ++ number → two ≡ one ++ between ++ other → three ≡ two ++ end → three ≡ old ++ (word ++ number ++ between ++ other ++ end)
two_numbers old one two three word number between other end is_one is_two is_three =
    is_three ∙ ap (λ (l : List ℕ). l ++ end) (is_two ∙ ap (λ (l : List ℕ). l ++ between ++ other) is_one) ∙ simp append_assoc
