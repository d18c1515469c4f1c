-- What is computed from a list of losers and a list of octants is what the points that arrive at a node do to it.
use Rattle.std.proofs.Common.{◌≡◌, ◌∙◌, ℕ, ◌<◌, Bool, true, false, not, ◌&&◌, ◌||◌, ◌==◌, nat_lt, inl, inr, List, refl, sym, ap, filter, get_or, count_by}
use Rattle.std.proofs.lemmas.List.Elements.{filter_agree}
use Rattle.ept_point.specs.declared.point.Point.{Point}
use Rattle.ept_space.specs.declared.cube.Rules.{Rules}
use Rattle.ept_space.proofs.PlaceKeys.{octant_at-below}
use Rattle.ept_sample.specs.Place.{place}
use Rattle.ept_sample.specs.Arrivals.{loses, octant, overflows, is_open, leaves, kept, has_too_many, goes}
use borrow.Author.Tests.{ltb-true}
use Rattle.ept_sample.proofs.Choices.{and_left, or_cases}
use Rattle.ept_sample.proofs.WalkLaws.{too_many-overflows}

-- ---- which octants are open afterwards, and which points stay

module _ (rules : Rules) (depth : ℕ) (was_open : ℕ → Bool) (given losing : List Point) (opened : List Bool) (lost : losing ≡ filter (loses rules depth given) given) (open_are : (o : ℕ) → o < 8 → get_or opened o false ≡ (was_open o || has_too_many rules depth losing o)) where
  as_is_open : (o : ℕ) → (was_open o || overflows rules depth given o) ≡ is_open rules depth was_open given o
  unfolding is_open
  as_is_open o = refl

  pub opened-is : (o : ℕ) → o < 8 → get_or opened o false ≡ is_open rules depth was_open given o
  opened-is o low =
      open_are o low
      ∙ (ap (λ (b : Bool). was_open o || b) (too_many-overflows rules depth given losing o lost) ∙ as_is_open o)

  and_swap : (a b : Bool) → (a && b) ≡ (b && a)
  and_swap true true = refl
  and_swap true false = refl
  and_swap false true = refl
  and_swap false false = refl

  as_leaves : (p : Point) → (loses rules depth given p && is_open rules depth was_open given (octant rules depth p)) ≡ leaves rules depth was_open given p
  unfolding leaves
  as_leaves p = refl

  pub goes-leaves : (p : Point) → goes rules depth given opened p ≡ leaves rules depth was_open given p
  goes-leaves p =
      ap (λ (b : Bool). b && loses rules depth given p) (opened-is (octant rules depth p) (octant_at-below rules.cube depth (place p)))
      ∙ (and_swap (is_open rules depth was_open given (octant rules depth p)) (loses rules depth given p) ∙ as_leaves p)

  as_kept : filter (λ p. not (leaves rules depth was_open given p)) given ≡ kept rules depth was_open given
  unfolding kept
  as_kept = refl

  pub kept-is : filter (λ p. not (goes rules depth given opened p)) given ≡ kept rules depth was_open given
  kept-is = filter_agree (λ p. not (goes rules depth given opened p)) (λ p. not (leaves rules depth was_open given p)) (λ p. ap not (goes-leaves p)) given ∙ as_kept

-- ---- an octant that opens is above the greatest depth

pub too_many-above : (rules : Rules) (depth : ℕ) (losing : List Point) (o : ℕ) → has_too_many rules depth losing o ≡ true → depth < rules.cube.depth
too_many-above rules depth losing o many =
    ltb-true depth rules.cube.depth (and_left (nat_lt depth rules.cube.depth) (nat_lt rules.threshold (count_by (λ p. octant rules depth p == o) losing)) many)

pub opened-above : (rules : Rules) (depth : ℕ) (losing : List Point) (opened was : List Bool) → ((o : ℕ) → o < 8 → get_or was o false ≡ true → depth < rules.cube.depth) → ((o : ℕ) → o < 8 → get_or opened o false ≡ (get_or was o false || has_too_many rules depth losing o)) → (o : ℕ) → o < 8 → get_or opened o false ≡ true → depth < rules.cube.depth
opened-above rules depth losing opened was bottom are o low e =
    elim (or_cases (get_or was o false) (has_too_many rules depth losing o) (sym (are o low) ∙ e)) [
      | inl old ↦ bottom o low old
      | inr many ↦ too_many-above rules depth losing o many
    ]
