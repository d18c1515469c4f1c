-- Refusals come in stages: each part of the reading is refused within some of them.
use Rattle.std.proofs.Common.{ℕ, ◌≡◌, ◌≤◌, Bool, true, false, List, [], ◌∷◌, refl, subst, arith}
use Rattle.std.specs.Prelude.{Option, Some, None, Result, Ok, Err}
use Rattle.std.specs.Option.{ok_or, option_map_or}
use Rattle.serde_json.specs.Data.{Data}
use Rattle.ept_config_text.specs.declared.config_key.ConfigKey.{ConfigKey}
use Rattle.ept_config_text.specs.declared.config_key.ConfigKey.TheVariants as key
use Rattle.ept_config_text.specs.declared.config_error.ConfigError.{ConfigError}
use Rattle.ept_config_text.specs.declared.config_error.ConfigError.TheVariants.{Json, Unknown, Missing, Kind, Range, Threads, Long, Memory}
use Rattle.ept_config_text.specs.Steps.{◌>>=◌, unless_refused}
use Rattle.ept_config.specs.Facts.{SrsFacts}
use Rattle.ept_config_text.specs.Values.{natural, span, offset, bounds, srs, srs_text, srs_texts, input, each_input, list_inputs, inputs, natural_at, span_at, offset_at, bounds_at, srs_at, first_classes, first_classes_at, withheld_last_at}
use Rattle.ept_config_text.specs.Configuration.{work_at, values}

-- the place of a refusal in the order of the checks
abbrev pub stage : ConfigError → ℕ
stage Long = 0
stage Json = 1
stage (Kind key.Top) = 2
stage Unknown = 3
stage (Missing key.Input) = 4
stage (Missing key) = 5
stage (Kind key) = 6
stage (Range key) = 6
stage Threads = 7
stage Memory = 8

-- if it is refused, then from the stage `low` to the stage `high`
pub record IsWithin {A : Type 0} (low high : ℕ) (r : Result A ConfigError) : Type 0 where
  pub least : (e : ConfigError) → r ≡ Err e → low ≤ stage e
  pub most : (e : ConfigError) → r ≡ Err e → stage e ≤ high

accepted : {A : Type 0} (low high : ℕ) (x : A) → IsWithin {A = A} low high (Ok x)
accepted low high x = record { least = λ e is. absurd (cc); most = λ e is. absurd (cc) }

refused : {A : Type 0} (low high : ℕ) (e : ConfigError) → low ≤ stage e → stage e ≤ high → IsWithin {A = A} low high (Err e)
refused low high e l h = record {
  least = λ f is. subst (λ g. low ≤ stage g) (cc) l;
  most = λ f is. subst (λ g. stage g ≤ high) (cc) h;
}

pub wider : {A : Type 0} (low high l h : ℕ) (r : Result A ConfigError) → l ≤ low → high ≤ h → IsWithin low high r → IsWithin l h r
wider low high l h r a b w = record { least = λ e is. omega (arith, w.least e is); most = λ e is. omega (arith, w.most e is) }

pub then : {A B : Type 0} (low high : ℕ) (r : Result A ConfigError) (next : A → Result B ConfigError) → IsWithin low high r → ((x : A) → IsWithin low high (next x)) → IsWithin low high (r >>= next)
then low high (Ok x) next w k = k x
then low high (Err e) next w k = refused low high e (w.least e refl) (w.most e refl)

pub some_or : {A : Type 0} (low high : ℕ) (o : Option A) (e : ConfigError) → low ≤ stage e → stage e ≤ high → IsWithin low high (ok_or o e)
some_or low high None e l h = refused low high e l h
some_or low high (Some x) e l h = accepted low high x

pub unless : (low high : ℕ) (e : ConfigError) (test : Bool) → low ≤ stage e → stage e ≤ high → IsWithin low high (unless_refused e test)
unless low high e true l h = accepted low high tt
unless low high e false l h = refused low high e l h

given_or : {A : Type 0} (low high : ℕ) (rule : Data → Result A ConfigError) (d : Option Data) (default : A) → ((value : Data) → IsWithin low high (rule value)) → IsWithin low high (option_map_or rule d (Ok default))
given_or low high rule None default h = accepted low high default
given_or low high rule (Some d) default h = h d

natural-fault : (key : ConfigKey) (least greatest : ℕ) (d : Data) → stage (Kind key) ≡ 6 → IsWithin 6 6 (natural key least greatest d)
unfolding natural
natural-fault key least greatest d h = search (arith, then, some_or) depth 14

span-fault : (d : Data) → IsWithin 6 6 (span d)
unfolding span
span-fault d = search (arith, then, some_or) depth 14

offset-fault : (d : Data) → IsWithin 6 6 (offset d)
unfolding offset
offset-fault d = search (arith, then, some_or) depth 14

bounds-fault : (d : Data) → IsWithin 6 6 (bounds d)
unfolding bounds
bounds-fault d = search (arith, then, some_or, accepted) depth 14

srs_text-fault : (text : Option (List ℕ)) → IsWithin 6 6 (srs_text text)
unfolding srs_text
srs_text-fault text = search (arith, some_or) depth 14

srs_texts-fault : (raw : SrsFacts) → IsWithin 6 6 (srs_texts raw)
unfolding srs_texts
srs_texts-fault raw = search (arith, then, accepted, srs_text-fault) depth 14

srs-fault : (d : Data) → IsWithin 6 6 (srs d)
unfolding srs
srs-fault d = search (arith, then, some_or, srs_texts-fault) depth 14

input-fault : (scale : ℕ) (d : Data) → IsWithin 6 6 (input scale d)
unfolding input
input-fault scale d = search (arith, then, some_or) depth 14

each_input-fault : (scale : ℕ) (ds : List Data) → IsWithin 6 6 (each_input scale ds)
each_input-fault scale [] = accepted 6 6 []
each_input-fault scale (d ∷ ds) = search (arith, then, accepted, input-fault, each_input-fault scale ds)

list_inputs-fault : (scale : ℕ) (ds : List Data) → IsWithin 6 6 (list_inputs scale ds)
unfolding list_inputs
list_inputs-fault scale ds = search (arith, then, unless, each_input-fault) depth 14

inputs-fault : (scale : ℕ) (d : Data) → IsWithin 6 6 (inputs scale d)
unfolding inputs
inputs-fault scale d = search (arith, then, some_or, list_inputs-fault) depth 14

natural_at-fault : (key : ConfigKey) (least greatest default : ℕ) (d : Data) → stage (Kind key) ≡ 6 → IsWithin 6 6 (natural_at key least greatest default d)
unfolding natural_at
natural_at-fault key least greatest default d h = search (arith, given_or, natural-fault) depth 14

span_at-fault : (d : Data) → IsWithin 6 6 (span_at d)
unfolding span_at
span_at-fault d = search (arith, given_or, span-fault) depth 14

offset_at-fault : (d : Data) → IsWithin 6 6 (offset_at d)
unfolding offset_at
offset_at-fault d = search (arith, given_or, offset-fault) depth 14

bounds_at-fault : (d : Data) → IsWithin 6 6 (bounds_at d)
unfolding bounds_at
bounds_at-fault d = search (arith, given_or, bounds-fault) depth 14

srs_at-fault : (d : Data) → IsWithin 6 6 (srs_at d)
unfolding srs_at
srs_at-fault d = search (arith, given_or, srs-fault) depth 14

first_classes-fault : (d : Data) → IsWithin 6 6 (first_classes d)
unfolding first_classes
first_classes-fault d = search (arith, then, some_or) depth 14

first_classes_at-fault : (d : Data) → IsWithin 6 6 (first_classes_at d)
unfolding first_classes_at
first_classes_at-fault d = search (arith, given_or, first_classes-fault) depth 14

withheld_last_at-fault : (d : Data) → IsWithin 6 6 (withheld_last_at d)
unfolding withheld_last_at
withheld_last_at-fault d = search (arith, given_or, some_or) depth 14

work_at-fault : (d : Data) → IsWithin 6 6 (work_at d)
unfolding work_at
work_at-fault d = search (arith, then, accepted, natural_at-fault) depth 14

-- the values of the keys are refused only for their types and ranges
pub values-fault : (input scale d : Data) → IsWithin 6 6 (values input scale d)
unfolding values
values-fault input scale d = search (arith, then, accepted, natural-fault, inputs-fault, offset_at-fault, bounds_at-fault, span_at-fault, natural_at-fault, srs_at-fault, first_classes_at-fault, withheld_last_at-fault, work_at-fault) depth 14
