-- The octants that are open in the root of a part.
use Rattle.std.proofs.Common.{◌≡◌, ◌∙◌, ℕ, ◌+◌, ◌<◌, ◌==◌, ◌||◌, Bool, true, false, max, List, [], ◌∷◌, length, get_or, take, refl, sym, ap, arith, bit_or}
use Rattle.std.specs.List.{list_any}
use Rattle.std.specs.Int.{bit_at}
use Rattle.std.proofs.lemmas.Bool.Decides.{nat_tests}
use Rattle.std.proofs.lemmas.Nat.Bits.{bit_at_or, bit_at-lt, bit_at-zero}
use Rattle.std.proofs.lemmas.List.Folds.{list_any-append}
use Rattle.ept_grid.specs.Mask.{opened}
use Rattle.ept_merge.specs.declared.bodies.PartBody.{PartBody}
use Rattle.ept_merge.specs.declared.joining.PartNode.{PartNode}
use Rattle.ept_merge.specs.Joining.{root_node, IsUnion}
use Rattle.ept_merge.proofs.Loads.{take-more}

either-bit : (x y : ℕ) → x < 2 → y < 2 → (max x y == 1) ≡ ((x == 1) || (y == 1))
either-bit x y small also = grind (arith, nat_tests)

opened-or : (a b o : ℕ) → opened (bit_or a b) o ≡ (opened a o || opened b o)
unfolding opened
opened-or a b o = ap (λ (n : ℕ). n == 1) (bit_at_or a b o) ∙ either-bit (bit_at a o) (bit_at b o) (bit_at-lt a o) (bit_at-lt b o)

pub union-none : IsUnion [] 0
unfolding opened
union-none o low = ap (λ (n : ℕ). n == 1) (bit_at-zero o)

or_false : (b : Bool) → (b || false) ≡ b
or_false b = elim b as (λ v. (v || false) ≡ v) [ true ↦ refl | false ↦ refl ]

abbrev its_octant : ℕ → PartBody → Bool
its_octant o part = let node : PartNode = root_node part in opened node.line.mask o

pub union-more : (parts : List PartBody) (i : ℕ) (part : PartBody) → i < length parts → part ≡ get_or parts i part → (mask own : ℕ) → own ≡ (root_node part).line.mask → IsUnion (take i parts) mask → IsUnion (take (i + 1) parts) (bit_or mask own)
union-more parts i part below is mask own mine union o low =
    opened-or mask own o
    ∙ (ap (λ (b : Bool). b || opened own o) (union o low)
    ∙ (ap (λ (n : ℕ). list_any (its_octant o) (take i parts) || opened n o) mine
    ∙ (ap (λ (b : Bool). list_any (its_octant o) (take i parts) || b) (sym (or_false (its_octant o part)))
    ∙ (sym (list_any-append (its_octant o) (take i parts) (part ∷ [])) ∙ ap (λ (w : List PartBody). list_any (its_octant o) w) (sym (take-more parts i part below is))))))
