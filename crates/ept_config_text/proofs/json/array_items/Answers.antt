use Rattle.ept_config_text.specs.Json.{array_items}
use Rattle.ept_config_text.proofs.Objects.{list_of-items_of}
use Rattle.ept_config_text.proofs.json.array_items.Goals as goal

pub returns-in-Some : goal.returns-in-Some
unfolding array_items
returns-in-Some c = rw (← c.in-Some.ensures, list_of-items_of, c.as_slice.ensures.value)
