use Rattle.std.proofs.Common.{◌≡◌, ◌∙◌, ℕ, ◌++◌, eqb, false, List, [], ◌∷◌, length, refl, sym, ap, codes, append_assoc}
use Rattle.std.proofs.lemmas.Bool.{false≢true}
use Rattle.ept_meta.specs.Json.{naturals_text}
use Rattle.ept_meta.specs.BuildText.{first_member}
use Rattle.ept_meta.proofs.classes.append_member.Goals as goal

-- a list of classes that is not empty has a member
some_first : (classes : List ℕ) → false ≡ eqb (length classes) 0 → first_member classes ≡ codes ",\"firstClasses\":" ++ naturals_text classes
some_first [] some = absurd (false≢true some)
some_first (class ∷ classes) some = refl

pub returns-in_ok-append_naturals : goal.returns-in_ok-append_naturals
returns-in_ok-append_naturals c =
    c.in_ok-append_naturals.ensures
    ∙ ap (λ (w : List ℕ). w ++ naturals_text c.args.classes.now) c.in_ok-append.ensures
    ∙ append_assoc c.args.text.now.items (codes ",\"firstClasses\":") (naturals_text c.args.classes.now)
    ∙ ap (λ (w : List ℕ). c.args.text.now.items ++ w) (sym (some_first c.args.classes.now c.if-not-is_empty.ensures))
