-- In how many parts an octant is.
use Rattle.std.proofs.Common.{◌≡◌, ℕ, List, [], ◌∷◌, refl, arith, cond, map}
use Rattle.std.specs.Prelude.{count_by}
use Rattle.std.proofs.lemmas.List.Sums.{sum_by-cons}
use Rattle.ept_grid.specs.Mask.{opened}
use Rattle.ept_parts.specs.Parts.{Octants, parts_with}

pub parts-counted : (o : ℕ) (parts : List ℕ) → parts_with o (map opened parts) ≡ count_by (λ (part : ℕ). opened part o) parts
parts-counted o [] = refl
parts-counted o (p ∷ parts) =
    omega (
      arith,
      sum_by-cons (λ (octants : Octants). cond {A = ℕ} (octants o) 1 0) (opened p) (map opened parts),
      sum_by-cons (λ (part : ℕ). cond {A = ℕ} (opened part o) 1 0) p parts,
      parts-counted o parts,
    )
