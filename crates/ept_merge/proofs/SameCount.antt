-- Two counts are equal if and only if the code finds them so.
use Rattle.std.proofs.Common.{◌≡◌, Bool, true, false, eqb, int_eq, refl, ap, Decides, Option, Some, None}
use Rattle.std.specs.Prelude.{◌&&◌}
use Rattle.std.specs.Cmp.Lexicographic.{pointwise}
use Rattle.std.specs.Option.{option_eq}
use Rattle.std.proofs.lemmas.Bool.Decides.{Decides-eqb, Decides-int_eq}
use Rattle.std.proofs.lemmas.Slice.Eq.{slice_eq-Decides}
use Rattle.ept_space.specs.declared.bounds.Bounds.{Bounds}
use Rattle.ept_config.specs.declared.source_count.SourceCount.{SourceCount}

abbrev same_bounds : Bounds → Bounds → Bool
same_bounds a b = pointwise int_eq a.min b.min && pointwise int_eq a.max b.max

abbrev same_fields : SourceCount → SourceCount → Bool
same_fields a b = eqb a.points b.points && option_eq same_bounds a.extent b.extent

both : {P Q : Type 0} (a b : Bool) → Decides a P → Decides b Q → Decides (a && b) (P × Q)
both true b one other = (λ is. (one.0 refl, other.0 is), λ h. other.1 h.1)
both false b one other = (λ is. absurd (cc), λ h. absurd (let wrong = one.1 h.0 in cc))

by_parts : {P Q : Type 0} (a : Bool) → Decides a P → (P → Q) → (Q → P) → Decides a Q
by_parts a test there back = (λ is. there (test.0 is), λ q. test.1 (back q))

one-bounds : (a b : Bounds) → Decides (same_bounds a b) (a ≡ b)
one-bounds a b =
    by_parts (same_bounds a b) (both (pointwise int_eq a.min b.min) (pointwise int_eq a.max b.max) (slice_eq-Decides Decides-int_eq a.min b.min (pointwise int_eq a.min b.min) refl) (slice_eq-Decides Decides-int_eq a.max b.max (pointwise int_eq a.max b.max) refl))
    (λ parts i. record { min = parts.0 i; max = parts.1 i }) (λ same. (ap (λ (x : Bounds). x.min) same, ap (λ (x : Bounds). x.max) same))

one-extent : (a b : Option Bounds) → Decides (option_eq same_bounds a b) (a ≡ b)
one-extent None None = (λ is. refl, λ is. refl)
one-extent None (Some b) = (λ is. absurd (cc), λ is. absurd (cc))
one-extent (Some a) None = (λ is. absurd (cc), λ is. absurd (cc))
one-extent (Some a) (Some b) = by_parts (same_bounds a b) (one-bounds a b) (λ same. ap (λ (x : Bounds). Some x) same) (λ same. cc)

pub one-count : (a b : SourceCount) → Decides (same_fields a b) (a ≡ b)
one-count a b =
    by_parts (same_fields a b) (both (eqb a.points b.points) (option_eq same_bounds a.extent b.extent) (Decides-eqb a.points b.points) (one-extent a.extent b.extent))
    (λ parts i. record { points = parts.0 i; extent = parts.1 i }) (λ same. (ap (λ (x : SourceCount). x.points) same, ap (λ (x : SourceCount). x.extent) same))
