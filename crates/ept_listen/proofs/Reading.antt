-- What words are read as, by their number.
use Rattle.std.proofs.Common.{◌≡◌, ◌≢◌, ◌∙◌, ◌⊎◌, inl, inr, ℕ, List, [], ◌∷◌, length, ◌+◌, Bool, true, false, Option, Some, None, sym, ap, subst, arith}
use Rattle.ept_listen.specs.declared.words.Serve.{Serve}
use Rattle.ept_listen.specs.Words.{ArePlace, AskForCount, AreSingle, AskForIn, AreRead, AreReadPlain, AreReadSingle}

place-length : (words : List (List ℕ)) → ArePlace words → length words ≡ 2
place-length words place = ap length place.words_are

count-length : (words : List (List ℕ)) (count : Option ℕ) → AskForCount words count → (length words ≡ 2) ⊎ (length words ≡ 4)
count-length words None ask = inl (place-length words ask)
count-length words (Some count) ask =
    let all = ap length ask.words_are in
    let place = place-length ask.place ask.place_is in
    inr (omega (arith, all, place))

single-length : (words : List (List ℕ)) (count : Option ℕ) → AreSingle words count → (length words ≡ 3) ⊎ (length words ≡ 5)
single-length words count single =
    let all = ap length single.words_are in
    by-length (count-length single.others count single.others_ask) (omega (arith, all))
  where
    by-length : (length single.others ≡ 2) ⊎ (length single.others ≡ 4) → length words ≡ length single.others + 1 → (length words ≡ 3) ⊎ (length words ≡ 5)
    by-length (inl two) all = inl (omega (arith, two, all))
    by-length (inr four) all = inr (omega (arith, four, all))

neither : (n a b : ℕ) → (n ≡ a) ⊎ (n ≡ b) → n ≢ a → n ≢ b → ⊥
neither n a b (inl is) not_a not_b = not_a is
neither n a b (inr is) not_a not_b = not_b is

-- two words or four
pub plain-read : (words : List (List ℕ)) (read : Option Serve) → length words ≢ 3 → length words ≢ 5 → AreReadPlain words read → AreRead words read
plain-read words None not_three not_five none = λ serve ask. by-single serve.single serve.connections ask
  where
    by-single : (single : Bool) (count : Option ℕ) → AskForIn words single count → ⊥
    by-single false count ask = none count ask
    by-single true count ask = neither (length words) 3 5 (single-length words count ask) not_three not_five
plain-read words (Some serve) not_three not_five is =
    subst (λ (single : Bool). AskForIn words single serve.connections) (sym is.0) is.1

-- three words or five
pub single-read : (words : List (List ℕ)) (read : Option Serve) → length words ≢ 2 → length words ≢ 4 → AreReadSingle words read → AreRead words read
single-read words None not_two not_four none = λ serve ask. by-single serve.single serve.connections ask
  where
    by-single : (single : Bool) (count : Option ℕ) → AskForIn words single count → ⊥
    by-single true count ask = none count ask
    by-single false count ask = neither (length words) 2 4 (count-length words count ask) not_two not_four
single-read words (Some serve) not_two not_four is =
    subst (λ (single : Bool). AskForIn words single serve.connections) (sym is.0) is.1
