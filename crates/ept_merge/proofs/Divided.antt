-- The points of parts that have each octant once: each point is in one of them.
use Rattle.std.proofs.Common.{◌≡◌, ◌≢◌, ◌∙◌, ◌⊎◌, inl, inr, ℕ, zero, suc, ◌+◌, ◌<◌, ◌≤◌, Bool, true, false, cond, List, [], ◌∷◌, refl, ap, arith, map, filter, length, count_by}
use Rattle.std.specs.Prelude.{sum_by}
use Rattle.std.specs.List.{AllZip}
use Rattle.std.proofs.lemmas.List.Sums.{sum_by-cons}
use Rattle.ept_base.specs.Files.{Files}
use Rattle.ept_point.specs.declared.layout.Layout.{Layout}
use Rattle.ept_point.specs.declared.point.Point.{Point}
use Rattle.ept_space.specs.declared.cube.Rules.{Rules}
use Rattle.ept_space.specs.VoxelKey.{VoxelKey, IsKey, root, child, is_within}
use Rattle.ept_space.proofs.Family.{root-only}
use Rattle.ept_space.proofs.Within.{is_within-root, is_below-from, is_within-some_child}
use Rattle.ept_space.proofs.PlaceKeys.{octant_at-below}
use Rattle.ept_sample.specs.Place.{place}
use Rattle.ept_sample.specs.Arrivals.{octant}
use Rattle.ept_sample.specs.declared.tiles.Tile.{Tile}
use Rattle.ept_sample.specs.Members.{IsMember}
use Rattle.ept_ckpt.specs.declared.node_line.NodeLine.{NodeLine}
use Rattle.ept_ckpt.specs.declared.checkpoint.Checkpoint.{Checkpoint}
use Rattle.ept_ckpt.specs.Octree.{keys_of}
use Rattle.ept_grid.specs.Mask.{opened}
use Rattle.ept_save.specs.Sound.{IsSavedUnder}
use Rattle.ept_parts.specs.Parts.{Octants, part_of, parts_with, AreAllOctants}
use Rattle.ept_merge.specs.declared.bodies.PartBody.{PartBody}
use Rattle.ept_merge.specs.Joining.{octants_of, bodies_in}

-- ---- how many points

part-length : (rules : Rules) (octants : Octants) (p : Point) (points : List Point) → length (part_of rules octants (p ∷ points)) ≡ cond {A = ℕ} (octants (octant rules 0 p)) 1 0 + length (part_of rules octants points)
unfolding part_of
part-length rules octants p points = by_test (octants (octant rules 0 p))
  where
    by_test : (b : Bool) → length (cond b (p ∷ filter (λ q. octants (octant rules 0 q)) points) (filter (λ q. octants (octant rules 0 q)) points)) ≡ cond {A = ℕ} b 1 0 + length (filter (λ q. octants (octant rules 0 q)) points)
    by_test true = omega arith
    by_test false = omega arith

abbrev lengths : Rules → List Octants → List Point → ℕ
lengths rules parts points = sum_by (λ (octants : Octants). length (part_of rules octants points)) parts

lengths-none : (rules : Rules) (parts : List Octants) → lengths rules parts [] ≡ 0
unfolding part_of
lengths-none rules [] = refl
lengths-none rules (o ∷ parts) = omega (arith, sum_by-cons (λ (octants : Octants). length (part_of rules octants [])) o parts, lengths-none rules parts)

lengths-more : (rules : Rules) (parts : List Octants) (p : Point) (points : List Point) → lengths rules parts (p ∷ points) ≡ parts_with (octant rules 0 p) parts + lengths rules parts points
lengths-more rules [] p points = refl
lengths-more rules (o ∷ parts) p points =
    omega (
      arith,
      sum_by-cons (λ (octants : Octants). length (part_of rules octants (p ∷ points))) o parts,
      sum_by-cons (λ (octants : Octants). length (part_of rules octants points)) o parts,
      sum_by-cons (λ (octants : Octants). cond {A = ℕ} (octants (octant rules 0 p)) 1 0) o parts,
      part-length rules o p points,
      lengths-more rules parts p points,
    )

pub lengths-all : (rules : Rules) (parts : List Octants) → AreAllOctants parts → (points : List Point) → lengths rules parts points ≡ length points
lengths-all rules parts all [] = lengths-none rules parts
lengths-all rules parts all (p ∷ points) =
    omega (arith, lengths-more rules parts p points, all (octant rules 0 p) (octant_at-below rules.cube 0 (place p)), lengths-all rules parts all points)

pub inserted-lengths : (rules : Rules) (points : List Point) (parts : List PartBody) → ((part : PartBody) → IsMember part parts → part.body.inserted ≡ length (part_of rules (opened part.octants) points)) → sum_by (λ (c : Checkpoint). c.inserted) (bodies_in parts) ≡ lengths rules (map opened (octants_of parts)) points
inserted-lengths rules points [] each = refl
inserted-lengths rules points (p ∷ parts) each =
    omega (
      arith,
      sum_by-cons (λ (c : Checkpoint). c.inserted) p.body (bodies_in parts),
      sum_by-cons (λ (octants : Octants). length (part_of rules octants points)) (opened p.octants) (map opened (octants_of parts)),
      each p (inl refl),
      inserted-lengths rules points parts (λ part m. each part (inr m)),
    )

-- ---- keys

-- a key below the root lies in an octant
pub in-octant : (key : VoxelKey) → IsKey key → key ≢ root → (o : ℕ) × (o < 8) × (is_within (child root o) key ≡ true)
in-octant key is lower = is_within-some_child root key (is_below-from root key (is_within-root key is) (deep key.depth refl))
  where
    deep : (d : ℕ) → key.depth ≡ d → 0 < key.depth
    deep zero e = absurd (lower (root-only key is e))
    deep (suc d) e = omega (arith, e)

-- of a test there is none that passes, or one
pub none-or-one : {X : Type 0} (test : X → Bool) (xs : List X) → (count_by test xs ≡ 0) ⊎ ((x : X) × IsMember x xs × (test x ≡ true))
none-or-one test [] = inl refl
none-or-one {X} test (x ∷ xs) = by_test (test x) refl (none-or-one test xs)
  where
    by_test : (b : Bool) → test x ≡ b → (count_by test xs ≡ 0) ⊎ ((y : X) × IsMember y xs × (test y ≡ true)) → (count_by test (x ∷ xs) ≡ 0) ⊎ ((y : X) × IsMember y (x ∷ xs) × (test y ≡ true))
    by_test true e rest = inr (x, inl refl, e)
    by_test false e (inl none) = inl (omega (arith, sum_by-cons (λ (y : X). cond {A = ℕ} (test y) 1 0) x xs, ap (λ (b : Bool). cond {A = ℕ} b 1 0) e, none))
    by_test false e (inr (y, m, is)) = inr (y, inr m, is)

-- if each part with the one has the other, the other is no less often there
pub no-more : (test : Checkpoint → Bool) (o : ℕ) (parts : List PartBody) → ((part : PartBody) → IsMember part parts → test part.body ≡ true → opened part.octants o ≡ true) → count_by test (bodies_in parts) ≤ parts_with o (map opened (octants_of parts))
no-more test o [] each = omega arith
no-more test o (p ∷ parts) each =
    omega (
      arith,
      sum_by-cons (λ (c : Checkpoint). cond {A = ℕ} (test c) 1 0) p.body (bodies_in parts),
      sum_by-cons (λ (octants : Octants). cond {A = ℕ} (octants o) 1 0) (opened p.octants) (map opened (octants_of parts)),
      by_test (test p.body) refl,
      no-more test o parts (λ part m. each part (inr m)),
    )
  where
    by_test : (b : Bool) → test p.body ≡ b → cond {A = ℕ} (test p.body) 1 0 ≤ cond {A = ℕ} (opened p.octants o) 1 0
    by_test true e = omega (arith, ap (λ (b : Bool). cond {A = ℕ} b 1 0) e, ap (λ (b : Bool). cond {A = ℕ} b 1 0) (each p (inl refl) e))
    by_test false e = omega (arith, ap (λ (b : Bool). cond {A = ℕ} b 1 0) e)

-- ---- lines and tiles

pub keys-saved : (layout : Layout) (name_of : NodeLine → List ℕ) (files : Files) (tiles : List Tile) (lines : List NodeLine) → AllZip (IsSavedUnder layout name_of files) tiles lines → keys_of lines ≡ map (λ (t : Tile). t.key) tiles
keys-saved layout name_of files [] [] all = refl
keys-saved layout name_of files [] (l ∷ ls) all = absurd all
keys-saved layout name_of files (t ∷ ts) [] all = absurd all
keys-saved layout name_of files (t ∷ ts) (l ∷ ls) all =
    ap (λ (w : VoxelKey). w ∷ keys_of ls) all.0.key ∙ ap (λ (w : List VoxelKey). t.key ∷ w) (keys-saved layout name_of files ts ls all.1)
