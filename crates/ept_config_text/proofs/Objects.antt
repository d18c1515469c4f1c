-- The items of an array and the keys of an object, as lists.
use Rattle.std.proofs.Common.{ℕ, ◌≡◌, List, [], ◌∷◌, map, Bool, true, ◌&&◌, ◌||◌, String, Global, string_bytes, ap, refl}
use Rattle.std.proofs.lemmas.List.{length-map}
use Rattle.std.proofs.lemmas.List.Folds.{list_all-map}
use Rattle.std.specs.Prelude.{is_some, Option, None, Some, option_map}
use Rattle.std.specs.Option.{option_or}
use Rattle.std.proofs.lemmas.Bool.{false≢true}
use Rattle.serde_json.specs.Find.{as_str}
use Rattle.ept_config_text.specs.Inputs.{InputMembers, plain_input, input_object, raw_input, is_input}
use Rattle.std.specs.List.{list_all, list_any}
use Rattle.std.specs.Map.{keys_of}
use Rattle.serde_json.specs.Data.{Data}
use Rattle.serde_json.specs.View.{items_of, members_view}
use Rattle.serde_json.specs.declared.value.Value.{Value}
use Rattle.ept_config_text.specs.Json as json

pub list_of-items_of : (items : List Data) → json.list_of (items_of items) ≡ items
list_of-items_of [] = refl
list_of-items_of (d ∷ items) = ap (λ ds. d ∷ ds) (list_of-items_of items)

-- a test of the keys of a map is a test of the keys of its object
pub list_all-keys_of : (test : List ℕ → Bool) (entries : List (String Global × Value)) → list_all test (json.keys_of (members_view entries)) ≡ list_all (λ key. test (string_bytes key)) (keys_of entries)
list_all-keys_of test [] = refl
list_all-keys_of test (e ∷ entries) = ap (λ rest. test (string_bytes e.0) && rest) (list_all-keys_of test entries)

pub list_any-map : {A B : Type 0} (test : B → Bool) (f : A → B) (xs : List A) → list_any test (map f xs) ≡ list_any (λ x. test (f x)) xs
list_any-map test f [] = refl
list_any-map test f (x ∷ xs) = ap (λ rest. test (f x) || rest) (list_any-map test f xs)

pub ruleset mapped = (length-map, list_all-map)

text_is_some : (text : Option (List ℕ)) (other : Option InputMembers) → is_some text ≡ true → is_some (option_or (option_map plain_input text) other) ≡ true
text_is_some None other h = absurd (false≢true h)
text_is_some (Some t) other h = refl

-- a text is an input
pub is_input-text : (d : Data) → is_some (as_str d) ≡ true → is_input d ≡ true
unfolding raw_input
is_input-text d h = text_is_some (as_str d) (input_object d) h
