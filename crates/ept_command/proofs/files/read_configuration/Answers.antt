use Rattle.std.proofs.Common.{◌≡◌, ◌≢◌, List, ℕ, Ok, Err, sym, subst}
use Rattle.ept_base.specs.Files.{Tells}
use Rattle.ept_config_text.specs.Configuration.{reading}
use Rattle.ept_config.specs.Facts.{facts}
use Rattle.ept_config_text.specs.declared.config_error.ConfigError.TheVariants.{Memory}
use Rattle.ept_command.specs.Configurations.{ConfigurationIsRefused}
use Rattle.ept_command.specs.declared.refusal.Refusal.{Refusal}
use Rattle.ept_command.proofs.Fronts.{configuration_read, configuration_refused}
use Rattle.ept_command.proofs.files.read_configuration.Goals as goal

pub returns-in-Ok-clause-ok : goal.returns-in-Ok-clause-ok
returns-in-Ok-clause-ok g c =
    configuration_read (g.H.Shelf.files c.args.shelf.now) c.args.path.now c.in_ok-text.text.items c.in-Ok.config c.in_ok-text.ensures.front
    (subst (λ (l : List ℕ). reading l ≡ Ok (facts c.in-Ok.config)) c.deref.ensures.value c.in-Ok.ensures.ok)

pub returns-clause-refused : goal.returns-clause-refused
returns-clause-refused g c =
    let told = configuration_refused (g.H.Shelf.files c.args.shelf.now) c.args.path.now c.in_ok-text.text.items c.in-Err.error c.in_ok-text.ensures.front
    (subst (λ (l : List ℕ). c.in-Err.error ≢ Memory → reading l ≡ Err c.in-Err.error) c.deref.ensures.value c.in-Err.ensures.refused) in
    subst (λ (r : Refusal). Tells (λ all. ConfigurationIsRefused all c.args.path.now r) (g.H.Shelf.files c.args.shelf.now)) (sym c.from.ensures) told
