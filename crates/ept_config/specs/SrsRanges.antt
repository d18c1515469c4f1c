-- The ranges of a spatial reference.
use Rattle.std.specs.Prelude.{ℕ, ◌≡◌, List, true, Option}
use Rattle.std.specs.Option.{ForSome}
use Rattle.ept_config.specs.Texts.{is_srs_text}

pub record SrsInRange (authority horizontal vertical wkt : Option (List ℕ)) : Type 0 where
  pub authority_is : ForSome authority (λ text. is_srs_text text ≡ true)
  pub horizontal_is : ForSome horizontal (λ text. is_srs_text text ≡ true)
  pub vertical_is : ForSome vertical (λ text. is_srs_text text ≡ true)
  pub wkt_is : ForSome wkt (λ text. is_srs_text text ≡ true)
