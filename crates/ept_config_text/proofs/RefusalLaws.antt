-- When each refusal is returned.
use Rattle.std.proofs.Common.{ℕ, ◌≡◌, ◌≢◌, ◌≤◌, ◌<◌, ◌^◌, Bool, true, false, List, length, refl, ap, arith, lit≤, lit<, subst}
use Rattle.std.specs.Prelude.{nat_le, is_some, IsSome, Option, Some, None, Result, Ok, Err, codes}
use Rattle.std.specs.Option.{ok_or}
use Rattle.std.proofs.lemmas.Bool.Decides.{nat_tests}
use Rattle.serde_json.specs.Data.{Data}
use Rattle.serde_json.specs.Find.{get, as_object}
use Rattle.ept_config_text.specs.declared.config_key.ConfigKey.TheVariants as key
use Rattle.ept_config_text.specs.declared.config_error.ConfigError.{ConfigError}
use Rattle.ept_config_text.specs.declared.config_error.ConfigError.TheVariants as error
use Rattle.ept_config_text.specs.Keys.{name_of}
use Rattle.ept_json.specs.Document.{document}
use Rattle.ept_config_text.specs.Json.{has_only}
use Rattle.ept_config_text.specs.Steps.{◌>>=◌, unless_refused, required}
use Rattle.ept_config.specs.Facts.{Facts}
use Rattle.ept_config_text.specs.Configuration.{top_keys, values, settings, object_reading, value_reading, reading}
use Rattle.ept_config_text.specs.Laws.{IsTextOf, HoldsKeys, LongWhereLonger, JsonWhereNoValue, TopWhereNoObject, UnknownWhereAnotherKey, MissesInputWhereAbsent, MissesScaleWhereAbsent, ThreadsWhereFewerNodes, AcceptedHasEnoughNodes}
use Rattle.ept_config_text.proofs.Faults.{stage, IsWithin, then, some_or, unless, wider, values-fault}

-- ---- the stages of what comes later

accepted : (low high : ℕ) (f : Facts) → IsWithin low high (Ok f)
accepted low high f = record { least = λ e is. absurd (cc); most = λ e is. absurd (cc) }

settings-within : (d : Data) → IsWithin 4 6 (settings d)
unfolding settings
settings-within d =
    then 4 6 (required key.Input (get (name_of key.Input) d)) _ (some_or 4 6 _ (error.Missing key.Input) (lit≤ tt) (lit≤ tt)) (λ input.
    then 4 6 (required key.Scale (get (name_of key.Scale) d)) _ (some_or 4 6 _ (error.Missing key.Scale) (lit≤ tt) (lit≤ tt)) (λ scale.
    wider 6 6 4 6 (values input scale d) (lit≤ tt) (lit≤ tt) (values-fault input scale d)))

-- after the first required key
scale-within : (input d : Data) → IsWithin 5 6 (required key.Scale (get (name_of key.Scale) d) >>= λ scale. values input scale d)
scale-within input d =
    then 5 6 (required key.Scale (get (name_of key.Scale) d)) _ (some_or 5 6 _ (error.Missing key.Scale) (lit≤ tt) (lit≤ tt)) (λ scale.
    wider 6 6 5 6 (values input scale d) (lit≤ tt) (lit≤ tt) (values-fault input scale d))

object_reading-within : (d : Data) → IsWithin 4 7 (object_reading d)
unfolding object_reading
object_reading-within d =
    then 4 7 (settings d) _ (wider 4 6 4 7 (settings d) (lit≤ tt) (lit≤ tt) (settings-within d)) (λ f.
    then 4 7 (unless_refused error.Threads (nat_le f.threads f.cache)) _ (unless 4 7 error.Threads _ (lit≤ tt) (lit≤ tt)) (λ _. accepted 4 7 f))

known_keys-within : (d : Data) → IsWithin 3 7 (unless_refused error.Unknown (has_only top_keys d) >>= λ _. object_reading d)
known_keys-within d =
    then 3 7 (unless_refused error.Unknown (has_only top_keys d)) _ (unless 3 7 error.Unknown _ (lit≤ tt) (lit≤ tt)) (λ _.
    wider 4 7 3 7 (object_reading d) (lit≤ tt) (lit≤ tt) (object_reading-within d))

value_reading-within : (d : Data) → IsWithin 2 7 (value_reading d)
unfolding value_reading
value_reading-within d =
    then 2 7 (unless_refused (error.Kind key.Top) (is_some (as_object d))) _ (unless 2 7 (error.Kind key.Top) _ (lit≤ tt) (lit≤ tt)) (λ _.
    wider 3 7 2 7 _ (lit≤ tt) (lit≤ tt) (known_keys-within d))

document-within : (bytes : List ℕ) → IsWithin 1 7 (ok_or (document bytes) error.Json >>= value_reading)
document-within bytes =
    then 1 7 (ok_or (document bytes) error.Json) value_reading (some_or 1 7 _ error.Json (lit≤ tt) (lit≤ tt)) (λ d.
    wider 2 7 1 7 (value_reading d) (lit≤ tt) (lit≤ tt) (value_reading-within d))

-- what is refused later is not refused for this
not_before : {A : Type 0} (low high : ℕ) (r : Result A ConfigError) (e : ConfigError) → IsWithin low high r → stage e < low → r ≢ Err e
not_before low high r e w early is = absurd (omega (arith, w.least e is))

not_after : {A : Type 0} (low high : ℕ) (r : Result A ConfigError) (e : ConfigError) → IsWithin low high r → high < stage e → r ≢ Err e
not_after low high r e w late is = absurd (omega (arith, w.most e is))

-- ---- a check that fails, and the checks after a check

behind_test : {A : Type 0} (f : ConfigError) (test : Bool) (rest : Result A ConfigError) (e : ConfigError) → f ≢ e → (unless_refused f test >>= λ _. rest) ≡ Err e → (test ≡ true) × (rest ≡ Err e)
behind_test f true rest e h is = (refl, is)
behind_test f false rest e h is = absurd (h (cc))

at_test : {A : Type 0} (f : ConfigError) (test : Bool) (rest : Result A ConfigError) → (rest ≢ Err f) → (unless_refused f test >>= λ _. rest) ≡ Err f → test ≡ false
at_test f true rest h is = absurd (h is)
at_test f false rest h is = refl

behind_value : {A B : Type 0} (f : ConfigError) (o : Option A) (next : A → Result B ConfigError) (e : ConfigError) → f ≢ e → (ok_or o f >>= next) ≡ Err e → (x : A) × ((o ≡ Some x) × (next x ≡ Err e))
behind_value f (Some x) next e h is = (x, (refl, is))
behind_value f None next e h is = absurd (h (cc))

at_value : {A B : Type 0} (f : ConfigError) (o : Option A) (next : A → Result B ConfigError) → ((x : A) → next x ≢ Err f) → (ok_or o f >>= next) ≡ Err f → o ≡ None
at_value f (Some x) next h is = absurd (h x is)
at_value f None next h is = refl

-- ---- the laws

long_here : (bytes : List ℕ) → reading bytes ≡ Err error.Long → nat_le (length bytes) (2 ^ 24) ≡ false
unfolding reading
long_here bytes is =
    at_test error.Long (nat_le (length bytes) (2 ^ 24)) (ok_or (document bytes) error.Json >>= value_reading)
    (not_before 1 7 _ error.Long (document-within bytes) (lit< tt)) is

long_back : (bytes : List ℕ) → nat_le (length bytes) (2 ^ 24) ≡ false → reading bytes ≡ Err error.Long
unfolding reading
long_back bytes h = rw h

pub long_where_longer : LongWhereLonger
long_where_longer bytes = (λ is. grind (arith, nat_tests, long_here bytes is), λ h. long_back bytes (grind (arith, nat_tests)))

-- a text that is not too long
short_text : (bytes : List ℕ) (e : ConfigError) → error.Long ≢ e → reading bytes ≡ Err e → (nat_le (length bytes) (2 ^ 24) ≡ true) × ((ok_or (document bytes) error.Json >>= value_reading) ≡ Err e)
unfolding reading
short_text bytes e h is = behind_test error.Long (nat_le (length bytes) (2 ^ 24)) (ok_or (document bytes) error.Json >>= value_reading) e h is

short_back : (bytes : List ℕ) (r : Result Facts ConfigError) → length bytes ≤ 2 ^ 24 → (ok_or (document bytes) error.Json >>= value_reading) ≡ r → reading bytes ≡ r
unfolding reading
short_back bytes r h is = let test : nat_le (length bytes) (2 ^ 24) ≡ true = grind (arith, nat_tests) in rw test is

json_here : (bytes : List ℕ) → reading bytes ≡ Err error.Json → (length bytes ≤ 2 ^ 24) × (document bytes ≡ None)
json_here bytes is =
    let (test, rest) = short_text bytes error.Json (λ e. cc) is in
    (grind (arith, nat_tests, test), at_value error.Json (document bytes) value_reading (λ d. not_before 2 7 _ error.Json (value_reading-within d) (lit< tt)) rest)

pub json_where_no_value : JsonWhereNoValue
json_where_no_value bytes = (json_here bytes, λ h. short_back bytes (Err error.Json) h.0 (rw h.1))

-- a text that is a value
text_here : (bytes : List ℕ) (e : ConfigError) → error.Long ≢ e → error.Json ≢ e → reading bytes ≡ Err e → (d : Data) × (IsTextOf bytes d × (value_reading d ≡ Err e))
text_here bytes e long json is =
    let (test, rest) = short_text bytes e long is in
    let (d, (found, inner)) = behind_value error.Json (document bytes) value_reading e json rest in
    (d, (record { short = grind (arith, nat_tests, test); is_document = found }, inner))

text_back : (bytes : List ℕ) (d : Data) (r : Result Facts ConfigError) → IsTextOf bytes d → value_reading d ≡ r → reading bytes ≡ r
text_back bytes d r t is = short_back bytes r t.short (rw t.is_document is)

top_here : (d : Data) → value_reading d ≡ Err (error.Kind key.Top) → is_some (as_object d) ≡ false
unfolding value_reading
top_here d is =
    at_test (error.Kind key.Top) (is_some (as_object d)) (unless_refused error.Unknown (has_only top_keys d) >>= λ _. object_reading d)
    (not_before 3 7 _ (error.Kind key.Top) (known_keys-within d) (lit< tt)) is

top_back : (d : Data) → is_some (as_object d) ≡ false → value_reading d ≡ Err (error.Kind key.Top)
unfolding value_reading
top_back d h = rw h

none_of : {A : Type 0} (o : Option A) → is_some o ≡ false → o ≡ None
none_of None h = refl
none_of (Some x) h = absurd (cc)

of_none : {A : Type 0} (o : Option A) → o ≡ None → is_some o ≡ false
of_none o h = rw h

pub top_where_no_object : TopWhereNoObject
top_where_no_object bytes = (
  λ is. let (d, (t, inner)) = text_here bytes (error.Kind key.Top) (λ e. cc) (λ e. cc) is in (d, t, none_of (as_object d) (top_here d inner)),
  λ h. text_back bytes h.0 (Err (error.Kind key.Top)) h.1 (top_back h.0 (of_none (as_object h.0) h.2)),
)

-- an object, with or without other keys
object_here : (d : Data) (e : ConfigError) → error.Kind key.Top ≢ e → value_reading d ≡ Err e
    → (is_some (as_object d) ≡ true) × ((unless_refused error.Unknown (has_only top_keys d) >>= λ _. object_reading d) ≡ Err e)
unfolding value_reading
object_here d e top is = behind_test (error.Kind key.Top) (is_some (as_object d)) (unless_refused error.Unknown (has_only top_keys d) >>= λ _. object_reading d) e top is

object_back : (d : Data) (r : Result Facts ConfigError) → is_some (as_object d) ≡ true → (unless_refused error.Unknown (has_only top_keys d) >>= λ _. object_reading d) ≡ r → value_reading d ≡ r
unfolding value_reading
object_back d r h is = rw h is

unknown_back : (d : Data) → has_only top_keys d ≡ false → (unless_refused error.Unknown (has_only top_keys d) >>= λ _. object_reading d) ≡ Err error.Unknown
unknown_back d h = rw h

pub unknown_where_another_key : UnknownWhereAnotherKey
unknown_where_another_key bytes = (
  λ is.
      let (d, (t, inner)) = text_here bytes error.Unknown (λ e. cc) (λ e. cc) is in
      let (object, keys) = object_here d error.Unknown (λ e. cc) inner in
      (d, t, object, at_test error.Unknown (has_only top_keys d) (object_reading d) (not_before 4 7 _ error.Unknown (object_reading-within d) (lit< tt)) keys),
  λ h. text_back bytes h.0 (Err error.Unknown) h.1 (object_back h.0 (Err error.Unknown) h.2 (unknown_back h.0 h.3)),
)

-- an object with known keys
keys_here : (bytes : List ℕ) (e : ConfigError) → 4 ≤ stage e → reading bytes ≡ Err e → (d : Data) × (HoldsKeys bytes d × (object_reading d ≡ Err e))
keys_here bytes e late is =
    let (d, (t, inner)) = text_here bytes e (early error.Long e late (lit< tt)) (early error.Json e late (lit< tt)) is in
    let (object, keys) = object_here d e (early (error.Kind key.Top) e late (lit< tt)) inner in
    let (known, rest) = behind_test error.Unknown (has_only top_keys d) (object_reading d) e (early error.Unknown e late (lit< tt)) keys in
    (d, (record { is_text = t; is_object = object; known = known }, rest))
  where
    early : (f e : ConfigError) → 4 ≤ stage e → stage f < 4 → f ≢ e
    early f e late soon is = let same : stage f ≡ stage e = ap stage is in absurd (omega (arith, same))

keys_back : (bytes : List ℕ) (d : Data) (r : Result Facts ConfigError) → HoldsKeys bytes d → object_reading d ≡ r → reading bytes ≡ r
keys_back bytes d r k is = text_back bytes d r k.is_text (object_back d r k.is_object (rw k.known is))

-- ---- why the settings of an object are refused

settings_here : (d : Data) (e : ConfigError) → error.Threads ≢ e → object_reading d ≡ Err e → settings d ≡ Err e
unfolding object_reading
settings_here d e h is = refused_before (settings d) e h is
  where
    refused_before : (r : Result Facts ConfigError) (e : ConfigError) → error.Threads ≢ e → (r >>= λ f. unless_refused error.Threads (nat_le f.threads f.cache) >>= λ _. Ok f) ≡ Err e → r ≡ Err e
    refused_before (Ok f) e h is = let (test, rest) = behind_test error.Threads (nat_le f.threads f.cache) (Ok f) e h is in absurd (cc)
    refused_before (Err g) e h is = is

settings_back : (d : Data) (e : ConfigError) → settings d ≡ Err e → object_reading d ≡ Err e
unfolding object_reading
settings_back d e h = rw h

input_here : (d : Data) → settings d ≡ Err (error.Missing key.Input) → get (codes "input") d ≡ None
unfolding settings
input_here d is =
    at_value (error.Missing key.Input) (get (codes "input") d) (λ input. required key.Scale (get (name_of key.Scale) d) >>= λ scale. values input scale d)
    (λ input. not_before 5 6 _ (error.Missing key.Input) (scale-within input d) (lit< tt)) is

input_back : (d : Data) → get (codes "input") d ≡ None → settings d ≡ Err (error.Missing key.Input)
unfolding settings
input_back d h = rw h

pub misses_input_where_absent : MissesInputWhereAbsent
misses_input_where_absent bytes = (
  λ is.
      let (d, (k, inner)) = keys_here bytes (error.Missing key.Input) (lit≤ tt) is in
      (d, k, input_here d (settings_here d (error.Missing key.Input) (λ e. cc) inner)),
  λ h. keys_back bytes h.0 (Err (error.Missing key.Input)) h.1 (settings_back h.0 (error.Missing key.Input) (input_back h.0 h.2)),
)

some_of : {A : Type 0} (o : Option A) (x : A) → o ≡ Some x → IsSome o
some_of o x h = rw h

of_some : {A : Type 0} (o : Option A) → IsSome o → (x : A) × (o ≡ Some x)
of_some (Some x) h = (x, refl)
of_some None h = absurd (cc)

scale_here : (d : Data) → settings d ≡ Err (error.Missing key.Scale) → IsSome (get (codes "input") d) × (get (codes "scale") d ≡ None)
unfolding settings
scale_here d is =
    let (input, (found, rest)) = behind_value (error.Missing key.Input) (get (codes "input") d) (λ input. required key.Scale (get (name_of key.Scale) d) >>= λ scale. values input scale d) (error.Missing key.Scale) (λ e. cc) is in (
      some_of (get (codes "input") d) input found,
      at_value (error.Missing key.Scale) (get (codes "scale") d) (λ scale. values input scale d) (λ scale. not_before 6 6 _ (error.Missing key.Scale) (values-fault input scale d) (lit< tt)) rest,
    )

scale_back : (d : Data) (input : Data) → get (codes "input") d ≡ Some input → get (codes "scale") d ≡ None → settings d ≡ Err (error.Missing key.Scale)
unfolding settings
scale_back d input found h = rw (found, h)

pub misses_scale_where_absent : MissesScaleWhereAbsent
misses_scale_where_absent bytes = (
  λ is.
      let (d, (k, inner)) = keys_here bytes (error.Missing key.Scale) (lit≤ tt) is in
      let (input, scale) = scale_here d (settings_here d (error.Missing key.Scale) (λ e. cc) inner) in
      (d, k, input, scale),
  λ h.
      let (input, found) = of_some (get (codes "input") h.0) h.2 in
      keys_back bytes h.0 (Err (error.Missing key.Scale)) h.1 (settings_back h.0 (error.Missing key.Scale) (scale_back h.0 input found h.3)),
)

-- ---- threads

threads_in : (r : Result Facts ConfigError) → r ≢ Err error.Threads → (r >>= λ f. unless_refused error.Threads (nat_le f.threads f.cache) >>= λ _. Ok f) ≡ Err error.Threads
    → (f : Facts) × ((r ≡ Ok f) × (nat_le f.threads f.cache ≡ false))
threads_in (Ok f) h is = (f, (refl, at_test error.Threads (nat_le f.threads f.cache) (Ok f) (λ e. cc) is))
threads_in (Err e) h is = absurd (h is)

threads_here : (d : Data) → object_reading d ≡ Err error.Threads → (f : Facts) × ((settings d ≡ Ok f) × (nat_le f.threads f.cache ≡ false))
unfolding object_reading
threads_here d is = threads_in (settings d) (not_after 4 6 (settings d) error.Threads (settings-within d) (lit< tt)) is

threads_back : (d : Data) (f : Facts) → settings d ≡ Ok f → nat_le f.threads f.cache ≡ false → object_reading d ≡ Err error.Threads
unfolding object_reading
threads_back d f h test = rw (h, test)

pub threads_where_fewer_nodes : ThreadsWhereFewerNodes
threads_where_fewer_nodes bytes = (
  λ is.
      let (d, (k, inner)) = keys_here bytes error.Threads (lit≤ tt) is in
      let (f, (all, test)) = threads_here d inner in
      (d, f, k, all, grind (arith, nat_tests, test)),
  λ h. keys_back bytes h.0 (Err error.Threads) h.2 (threads_back h.0 h.1 h.3 (grind (arith, nat_tests, h.4))),
)

ok_behind_test : {A : Type 0} (f : ConfigError) (test : Bool) (rest : Result A ConfigError) (x : A) → (unless_refused f test >>= λ _. rest) ≡ Ok x → (test ≡ true) × (rest ≡ Ok x)
ok_behind_test f true rest x is = (refl, is)
ok_behind_test f false rest x is = absurd (cc)

ok_behind : {A B : Type 0} (r : Result A ConfigError) (next : A → Result B ConfigError) (y : B) → (r >>= next) ≡ Ok y → (x : A) × ((r ≡ Ok x) × (next x ≡ Ok y))
ok_behind (Ok x) next y is = (x, (refl, is))
ok_behind (Err e) next y is = absurd (cc)

ok_object : (bytes : List ℕ) (f : Facts) → reading bytes ≡ Ok f → (d : Data) × (object_reading d ≡ Ok f)
unfolding reading value_reading
ok_object bytes f is =
    let (short, rest) = ok_behind_test error.Long (nat_le (length bytes) (2 ^ 24)) (ok_or (document bytes) error.Json >>= value_reading) f is in
    let (d, (found, value)) = ok_behind (ok_or (document bytes) error.Json) value_reading f rest in
    let (object, keys) = ok_behind_test (error.Kind key.Top) (is_some (as_object d)) (unless_refused error.Unknown (has_only top_keys d) >>= λ _. object_reading d) f value in
    let (known, inner) = ok_behind_test error.Unknown (has_only top_keys d) (object_reading d) f keys in
    (d, inner)

ok_threads : (d : Data) (f : Facts) → object_reading d ≡ Ok f → nat_le f.threads f.cache ≡ true
unfolding object_reading
ok_threads d f is =
    let (g, (all, rest)) = ok_behind (settings d) (λ g. unless_refused error.Threads (nat_le g.threads g.cache) >>= λ _. Ok g) f is in
    let (test, same) = ok_behind_test error.Threads (nat_le g.threads g.cache) (Ok g) f rest in
    let equal : g ≡ f = cc in
    subst (λ h. nat_le h.threads h.cache ≡ true) equal test

pub accepted_has_enough_nodes : AcceptedHasEnoughNodes
accepted_has_enough_nodes bytes f is =
    let (d, inner) = ok_object bytes f is in
    let test : nat_le f.threads f.cache ≡ true = ok_threads d f inner in
    grind (arith, nat_tests, test)
