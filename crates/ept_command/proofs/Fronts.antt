-- The first bytes of a configuration, one more than the longest has, are read as the whole file is.
use Rattle.std.proofs.Common.{◌≡◌, ◌≢◌, inl, inr, ℕ, ◌^◌, ◌<◌, List, Option, Some, None, Ok, Err, length, take, refl, sym, ◌∙◌, ap, arith, length-take}
use Rattle.std.proofs.lemmas.List.{take_all}
use Rattle.std.proofs.lemmas.Bool.{lt-leb}
use Rattle.std.proofs.lemmas.Bool.Decides.{leb_tells}
use Rattle.ept_base.specs.Files.{Files, Tells}
use Rattle.ept_config.specs.declared.config.Config.{Config}
use Rattle.ept_config_text.specs.declared.config_error.ConfigError.{ConfigError}
use Rattle.ept_config_text.specs.declared.config_error.ConfigError.TheVariants as config
use Rattle.ept_config_text.specs.Configuration.{reading}
use Rattle.ept_config.specs.Facts.{facts}
use Rattle.ept_command.specs.declared.files.TheConstants.{MOST}
use Rattle.ept_command.specs.Errors.{of_config}
use Rattle.ept_command.specs.Configurations.{HasFront, HasConfiguration, ConfigurationIsRefused}

too_long : (bytes : List ℕ) → 2 ^ 24 < length bytes → reading bytes ≡ Err config.Long
unfolding reading
too_long bytes long = rw (lt-leb (length bytes) (2 ^ 24) long) refl

front_reads : (bytes : List ℕ) → reading (take MOST bytes) ≡ reading bytes
front_reads bytes = elim (leb_tells (length bytes) (2 ^ 24)) as (λ _. reading (take MOST bytes) ≡ reading bytes) [
  | inl short ↦ ap reading (take_all MOST bytes (omega (arith, short.1)))
  | inr long ↦ too_long (take MOST bytes) (omega (arith, long.1, length-take MOST bytes)) ∙ sym (too_long bytes long.1)
]

module _ (files : Option Files) (path : List ℕ) (front : List ℕ) where
  whole : (all : Files) → (front_of : HasFront all path MOST front) → reading front_of.bytes ≡ reading front
  whole all front_of = sym (ap reading front_of.front_is ∙ front_reads front_of.bytes)

  pub configuration_read : (config : Config) → Tells (λ all. HasFront all path MOST front) files → reading front ≡ Ok (facts config) → Tells (λ all. HasConfiguration all path config) files
  configuration_read config front_of reads = elim files as (λ f. Tells (λ all. HasFront all path MOST front) f → Tells (λ all. HasConfiguration all path config) f) [
    | None ↦ λ _. tt
    | Some all ↦ λ h. record { bytes = h.bytes; content = h.content; reads = whole all h ∙ reads }
  ] front_of

  bad : (all : Files) (error : ConfigError) → HasFront all path MOST front → (error ≢ config.Memory → reading front ≡ Err error) → ConfigurationIsRefused all path (of_config error)
  bad all config.Json h reads = record { bytes = h.bytes; content = h.content; refused = whole all h ∙ reads (λ same. cc) }
  bad all config.Unknown h reads = record { bytes = h.bytes; content = h.content; refused = whole all h ∙ reads (λ same. cc) }
  bad all (config.Missing key) h reads = record { bytes = h.bytes; content = h.content; refused = whole all h ∙ reads (λ same. cc) }
  bad all (config.Kind key) h reads = record { bytes = h.bytes; content = h.content; refused = whole all h ∙ reads (λ same. cc) }
  bad all (config.Range key) h reads = record { bytes = h.bytes; content = h.content; refused = whole all h ∙ reads (λ same. cc) }
  bad all config.Threads h reads = record { bytes = h.bytes; content = h.content; refused = whole all h ∙ reads (λ same. cc) }
  bad all config.Long h reads = record { bytes = h.bytes; content = h.content; refused = whole all h ∙ reads (λ same. cc) }
  bad all config.Memory h reads = tt

  pub configuration_refused : (error : ConfigError) → Tells (λ all. HasFront all path MOST front) files → (error ≢ config.Memory → reading front ≡ Err error) → Tells (λ all. ConfigurationIsRefused all path (of_config error)) files
  configuration_refused error front_of reads = elim files as (λ f. Tells (λ all. HasFront all path MOST front) f → Tells (λ all. ConfigurationIsRefused all path (of_config error)) f) [
    | None ↦ λ _. tt
    | Some all ↦ λ h. bad all error h reads
  ] front_of
