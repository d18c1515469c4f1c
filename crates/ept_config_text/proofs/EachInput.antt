-- Inputs are read from the start of a list: those read so far, and then the rest.
use Rattle.std.proofs.Common.{ℕ, ◌≡◌, ◌<◌, ◌+◌, List, [], ◌∷◌, ◌++◌, length, map, drop, get_or, refl, ap, sym, ◌∙◌, append_assoc, add-one}
use Rattle.std.proofs.Math.Seq.{drop-length, drop-cons}
use Rattle.std.proofs.lemmas.List.{append-nil}
use Rattle.std.specs.Prelude.{Result, Ok, Err}
use Rattle.serde_json.specs.View.{view}
use Rattle.serde_json.specs.declared.value.Value.{Value}
use Rattle.ept_config_text.specs.declared.config_error.ConfigError.{ConfigError}
use Rattle.ept_config.specs.Facts.{InputFacts}
use Rattle.ept_config_text.specs.Steps.{◌>>=◌}
use Rattle.ept_config_text.specs.Values.{input, each_input}

-- inputs that were read, and then those of the other items
abbrev pub after : List InputFacts → Result (List InputFacts) ConfigError → Result (List InputFacts) ConfigError
after front rest = rest >>= λ others. Ok (front ++ others)

after-none : (rest : Result (List InputFacts) ConfigError) → rest ≡ after [] rest
after-none (Ok others) = refl
after-none (Err e) = refl

after-one : (front : List InputFacts) (first : InputFacts) (rest : Result (List InputFacts) ConfigError) → after front (rest >>= λ others. Ok (first ∷ others)) ≡ after (front ++ first ∷ []) rest
after-one front first (Ok others) = ap Ok (sym (append_assoc front (first ∷ []) others))
after-one front first (Err e) = refl

rest-cons : (items : List Value) (i : ℕ) (item : Value) → i < length items → item ≡ get_or items i item → map view (drop i items) ≡ view item ∷ map view (drop (i + 1) items)
rest-cons items i item h e = ap (map view) (drop-cons items i item h) ∙ rw (← e, add-one)

-- what is read so far, and then what the items from i on are read as
abbrev pub IsReadTo : ℕ → List Value → ℕ → List InputFacts → Type 0
IsReadTo scale items i front = each_input scale (map view items) ≡ after front (each_input scale (map view (drop i items)))

pub read_none : (scale : ℕ) (items : List Value) → IsReadTo scale items 0 []
read_none scale items = after-none (each_input scale (map view items))

pub read_more : (scale : ℕ) (items : List Value) (i : ℕ) (item : Value) (front : List InputFacts) (first : InputFacts) → i < length items → item ≡ get_or items i item
    → IsReadTo scale items i front → input scale (view item) ≡ Ok first → IsReadTo scale items (i + 1) (front ++ first ∷ [])
read_more scale items i item front first h is so_far e =
    so_far ∙ rw (rest-cons items i item h is, e) (after-one front first (each_input scale (map view (drop (i + 1) items))))

pub read_refused : (scale : ℕ) (items : List Value) (i : ℕ) (item : Value) (front : List InputFacts) (fault : ConfigError) → i < length items → item ≡ get_or items i item
    → IsReadTo scale items i front → input scale (view item) ≡ Err fault → each_input scale (map view items) ≡ Err fault
read_refused scale items i item front fault h is so_far e = so_far ∙ rw (rest-cons items i item h is, e)

pub read_all : (scale : ℕ) (items : List Value) (front : List InputFacts) → IsReadTo scale items (length items) front → each_input scale (map view items) ≡ Ok front
read_all scale items front so_far = so_far ∙ rw (drop-length items) (ap Ok (append-nil front))
