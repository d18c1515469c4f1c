-- An array of another length is not `count` whole numbers.
use Rattle.std.proofs.Common.{ℕ, ◌≡◌, ◌<◌, List, length, map, None, arith}
use Rattle.std.proofs.lemmas.List.{length-map}
use Rattle.std.proofs.lemmas.Bool.Decides.{nat_tests}
use Rattle.serde_json.specs.View.{view}
use Rattle.serde_json.specs.declared.value.Value.{Value}
use Rattle.ept_config_text.specs.Json.{wholes_of}

pub wholes_below : (count : ℕ) (items : List Value) → length items < count → wholes_of count (map view items) ≡ None
wholes_below count items h = grind (arith, nat_tests, length-map items view)

pub wholes_above : (count : ℕ) (items : List Value) → count < length items → wholes_of count (map view items) ≡ None
wholes_above count items h = grind (arith, nat_tests, length-map items view)
