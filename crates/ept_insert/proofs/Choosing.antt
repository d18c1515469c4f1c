-- How the ghost input of a table is computed from an octree and a reader. It has whether contents are visible, and all
-- points. Contents are visible if those of the spill files are, and the octree is the sampling of its points. These and
-- the points left have to be points that can be sampled together.
use Rattle.std.proofs.Common.{◌≡◌, ℕ, Bool, true, false, inl, inr, List, [], ◌++◌, Option, Some, None, refl, ap, subst}
use Rattle.std.proofs.lemmas.Bool.{false≢true}
use Rattle.ept_point.specs.declared.point.Point.{Point}
use Rattle.ept_scan.specs.declared.second_reading.Reader.{Reader}
use Rattle.ept_scan.specs.Reader.{IsRest}
use Rattle.ept_sample.specs.SamplingLaws.{CanBeSampled}
use Rattle.ept_table.specs.Octree.{AreSampled}
use Rattle.ept_octree.specs.declared.octree.Octree.{Octree}
use Rattle.ept_octree.specs.Octree.{forest_of, rules_of, nodes_of, points_of}
use Rattle.ept_node.specs.declared.node.Node.{Node}
use Rattle.ept_node.specs.Shown.{file_of, DoesTell}
use Rattle.ept_forest.specs.Slots as forest
use Rattle.ept_decidable.proofs.Deciding.{Known, known_and, known_like, known_all}
use Rattle.ept_decidable.proofs.Rest.{known_left, one_left}
use Rattle.ept_decidable.proofs.Sampled.{known_can, known_sampled}
use Rattle.ept_insert.specs.Between.{FilesTell, StandsBetween}

module _ {F S : Type 0} (held : F → Option (List ℕ)) (whole : S → Option (List ℕ)) (octree : Octree F) (reader : Reader S) where
  abbrev pub Telling : Type 0
  Telling = (left : List Point) × StandsBetween held whole octree reader (points_of held octree) left

  does_tell : (node : Node F) → Known (DoesTell held (file_of node))
  does_tell node = by (held (file_of node))
    where
      by : (told : Option (List ℕ)) → Known ((bytes : List ℕ) × (told ≡ Some bytes))
      by None = inr (λ t. let e : None ≡ Some t.0 = t.1 in cc)
      by (Some bytes) = inl (bytes, refl)

  files_tell : Known (FilesTell held octree)
  files_tell = known_all does_tell (forest.nodes_of (forest_of octree))

  with_rest : Known ((left : List Point) × IsRest whole reader left) → Known ((left : List Point) × StandsBetween held whole octree reader (points_of held octree) left)
  with_rest (inl is) =
      known_like (λ (h : FilesTell held octree × (CanBeSampled (rules_of octree) (points_of held octree ++ is.0) × AreSampled (rules_of octree) (points_of held octree) (nodes_of held octree))). (is.0, record { telling = h.0; rest = is.1; can = h.1.0; sampled = h.1.1 }))
      (λ (t : Telling). (t.1.telling, (subst (λ (left : List Point). CanBeSampled (rules_of octree) (points_of held octree ++ left)) (one_left whole reader t.0 is.0 t.1.rest is.1) t.1.can, t.1.sampled)))
      (known_and files_tell (known_and (known_can (rules_of octree) (points_of held octree ++ is.0)) (known_sampled (rules_of octree) (points_of held octree) (nodes_of held octree))))
  with_rest (inr none) = inr (λ t. none (t.0, t.1.rest))

  known_telling : Known ((left : List Point) × StandsBetween held whole octree reader (points_of held octree) left)
  known_telling = with_rest (known_left whole reader)

  abbrev answer : Known ((left : List Point) × StandsBetween held whole octree reader (points_of held octree) left) → Bool
  answer (inl t) = true
  answer (inr none) = false

  abbrev points_in : Known ((left : List Point) × StandsBetween held whole octree reader (points_of held octree) left) → List Point
  points_in (inl t) = points_of held octree ++ t.0
  points_in (inr none) = []

  -- whether contents are visible
  pub tells : Bool
  tells = answer known_telling

  -- and all points
  pub points : List Point
  points = points_in known_telling

  if_answer : (k : Known ((left : List Point) × StandsBetween held whole octree reader (points_of held octree) left)) → answer k ≡ true → (t : Telling) × (points_in k ≡ points_of held octree ++ t.0)
  if_answer (inl t) is = (t, refl)
  if_answer (inr none) is = absurd (false≢true is)

  pub telling : tells ≡ true → (t : Telling) × (points ≡ points_of held octree ++ t.0)
  unfolding tells points
  telling is = if_answer known_telling is

  answers : (k : Known ((left : List Point) × StandsBetween held whole octree reader (points_of held octree) left)) → (t : Telling) → (answer k ≡ true) × (points_in k ≡ points_of held octree ++ t.0)
  answers (inl u) t = (refl, ap (λ (left : List Point). points_of held octree ++ left) (one_left whole reader u.0 t.0 u.1.rest t.1.rest))
  answers (inr none) t = absurd (none t)

  pub told_so : (t : Telling) → (tells ≡ true) × (points ≡ points_of held octree ++ t.0)
  unfolding tells points
  told_so t = answers known_telling t
