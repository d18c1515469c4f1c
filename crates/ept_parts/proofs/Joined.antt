-- The roots of all parts are together the root of all points.
use Rattle.std.proofs.Common.{◌≡◌, ◌∙◌, ℕ, ◌+◌, ◌≤◌, Bool, true, false, cond, inl, List, [], ◌∷◌, ◌++◌, refl, ap, arith, filter, count_by, length}
use Rattle.std.specs.List.{flat_map}
use Rattle.std.proofs.lemmas.List.Sums.{length-filter, sum_by-cons}
use Rattle.ept_point.specs.declared.point.Point.{Point}
use Rattle.ept_space.specs.declared.cube.Rules.{Rules}
use Rattle.ept_space.specs.VoxelKey.{root}
use Rattle.ept_space.proofs.PlaceKeys.{octant_at-below}
use Rattle.ept_sample.specs.Place.{place}
use Rattle.ept_sample.specs.Ids.{same_id, HasDistinctIds, in_id_order}
use Rattle.ept_sample.specs.Arrivals.{octant}
use Rattle.ept_sample.specs.Sampling.{sampling}
use Rattle.ept_sample.specs.SamplingLaws.{CanBeSampled}
use Rattle.ept_sample.specs.Members.{IsMember}
use Rattle.ept_sample.proofs.Members.{IsMember-filter, IsMember-kept, IsMember-flat_map, member-flat_map}
use Rattle.ept_sample.proofs.IdLaws.{count_by-cons, count_by-append, HasDistinctIds-IsRising, in_id_order-members, in_id_order-IsRising}
use Rattle.ept_sample.proofs.SamplingLaws.{IsRising-sampling}
use Rattle.ept_parts.specs.Parts.{Octants, part_of, parts_with, AreAllOctants}
use Rattle.ept_parts.specs.PartLaws.{root_points}
use Rattle.ept_parts.proofs.AtRoot.{mine}
use Rattle.ept_parts.proofs.Below.{part-root}

-- ---- the part that an octant is in

first-kept : {X : Type 0} (xs : List X) → 1 ≤ length xs → (x : X) × IsMember x xs
first-kept [] some = absurd (omega (arith, some))
first-kept (x ∷ xs) some = (x, inl refl)

pub part-with : (o : ℕ) (parts : List Octants) → parts_with o parts ≡ 1 → (octants : Octants) × IsMember octants parts × (octants o ≡ true)
part-with o parts once =
    let test : Octants → Bool = λ octants. octants o in
    let x = first-kept (filter test parts) (omega (arith, once, length-filter test parts)) in
    let h = IsMember-filter test x.0 parts x.1 in
    (x.0, h.0, h.1)

-- ---- points divided among the parts

module _ (rules : Rules) where
  -- the points of the parts, part by part
  abbrev divided : List Octants → List Point → List Point
  divided parts points = flat_map (λ (octants : Octants). filter (mine rules octants) points) parts

  none-divided : (test : Point → Bool) (parts : List Octants) → count_by test (divided parts []) ≡ 0
  none-divided test [] = refl
  none-divided test (octants ∷ parts) = none-divided test parts

  -- how often a point is counted: once for each part that has it
  abbrev times : Bool → ℕ → ℕ
  times passes n = cond passes n 0

  first_times : (test : Point → Bool) (p : Point) (xs : List Point) (here passes : Bool) (n : ℕ) → test p ≡ passes → count_by test (cond here (p ∷ xs) xs) + times passes n ≡ count_by test xs + times passes (cond here 1 0 + n)
  first_times test p xs true true n e =
      omega (arith, count_by-cons test p xs ∙ ap (λ (b : Bool). cond b 1 0 + count_by test xs) e)
  first_times test p xs true false n e =
      omega (arith, count_by-cons test p xs ∙ ap (λ (b : Bool). cond b 1 0 + count_by test xs) e)
  first_times test p xs false passes n e = no_more passes
    where
      no_more : (b : Bool) → count_by test xs + times b n ≡ count_by test xs + times b (0 + n)
      no_more true = omega arith
      no_more false = refl

  one_more : (test : Point → Bool) (p : Point) (points : List Point) (parts : List Octants) → count_by test (divided parts (p ∷ points)) ≡ times (test p) (parts_with (octant rules 0 p) parts) + count_by test (divided parts points)
  one_more test p points [] = none (test p)
    where
      none : (b : Bool) → 0 ≡ times b 0 + 0
      none true = omega arith
      none false = omega arith
  one_more test p points (octants ∷ parts) =
      let rest = one_more test p points parts in
      let here = mine rules octants p in
      let with = count_by-append test (cond here (p ∷ filter (mine rules octants) points) (filter (mine rules octants) points)) (divided parts (p ∷ points)) in
      let without = count_by-append test (filter (mine rules octants) points) (divided parts points) in
      let first = first_times test p (filter (mine rules octants) points) here (test p) (parts_with (octant rules 0 p) parts) refl in
      let counted : parts_with (octant rules 0 p) (octants ∷ parts) ≡ cond here 1 0 + parts_with (octant rules 0 p) parts = sum_by-cons (λ (o : Octants). cond (o (octant rules 0 p)) 1 0) octants parts in
      let all : times (test p) (parts_with (octant rules 0 p) (octants ∷ parts)) ≡ times (test p) (cond here 1 0 + parts_with (octant rules 0 p) parts) = ap (λ (n : ℕ). times (test p) n) counted in
      omega (arith, rest, with, without, first, all)

  -- if each octant is in one part, each point is in one
  divided-once : (test : Point → Bool) (parts : List Octants) (points : List Point) → AreAllOctants parts → count_by test (divided parts points) ≡ count_by test points
  divided-once test parts [] all = none-divided test parts
  divided-once test parts (p ∷ points) all =
      let once : times (test p) (parts_with (octant rules 0 p) parts) ≡ times (test p) 1 = ap (λ (n : ℕ). times (test p) n) (all (octant rules 0 p) (octant_at-below rules.cube 0 (place p))) in
      omega (arith, one_more test p points parts, once, divided-once test parts points all, count_by-cons test p points)

  pub divided-distinct : (parts : List Octants) (points : List Point) → AreAllOctants parts → HasDistinctIds points → HasDistinctIds (divided parts points)
  unfolding HasDistinctIds
  divided-distinct parts points all once p = omega (arith, once p, divided-once (same_id p) parts points all)

  pub divided-IsMember : (parts : List Octants) (points : List Point) (p : Point) → IsMember p (divided parts points) → IsMember p points
  divided-IsMember parts points p m =
      let r = member-flat_map (λ (octants : Octants). filter (mine rules octants) points) p parts m in
      (IsMember-filter (mine rules r.0) p points r.2).0

  pub IsMember-divided : (parts : List Octants) (points : List Point) (p : Point) → AreAllOctants parts → IsMember p points → IsMember p (divided parts points)
  IsMember-divided parts points p all m =
      let r = part-with (octant rules 0 p) parts (all (octant rules 0 p) (octant_at-below rules.cube 0 (place p))) in
      IsMember-flat_map (λ (octants : Octants). filter (mine rules octants) points) r.0 p parts r.1 (IsMember-kept (mine rules r.0) p points r.2 m)

-- ---- the law

-- what the parts have at the root is the root of all, divided
root-divided : (rules : Rules) (parts : List Octants) (points : List Point) → CanBeSampled rules points → root_points rules parts points ≡ divided rules parts (sampling rules points root)
unfolding part_of
root-divided rules [] points can = refl
root-divided rules (octants ∷ parts) points can =
    ap (λ (xs : List Point). xs ++ root_points rules parts points) (part-root rules octants points can)
    ∙ ap (λ (xs : List Point). filter (mine rules octants) (sampling rules points root) ++ xs) (root-divided rules parts points can)

pub roots-join : (rules : Rules) (parts : List Octants) (points : List Point) → CanBeSampled rules points → AreAllOctants parts → in_id_order (root_points rules parts points) ≡ sampling rules points root
roots-join rules parts points can all =
    let here = sampling rules points root in
    let up = IsRising-sampling rules points root can.distinct in
    let once = HasDistinctIds-IsRising here up in
    ap in_id_order (root-divided rules parts points can)
    ∙ (in_id_order-members (divided rules parts here) here (divided-distinct rules parts here all once) once (divided-IsMember rules parts here) (λ p m. IsMember-divided rules parts here p all m)
    ∙ in_id_order-IsRising here up)
