use Rattle.ept_config_text.specs.Json.{has_only}
use Rattle.ept_config_text.proofs.Objects.{list_all-keys_of, list_any-map}
use Rattle.ept_config_text.proofs.json.has_only.Goals as goal

pub returns-in-Some : goal.returns-in-Some
unfolding has_only
returns-in-Some c = rw (c.has_members_among.ensures, ← c.in-Some.ensures) (simp (list_all-keys_of, list_any-map))
