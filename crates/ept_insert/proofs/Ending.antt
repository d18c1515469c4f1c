-- The octree and the reader afterwards, by the points that were left.
use Rattle.std.proofs.Common.{◌≡◌, ◌∙◌, ℕ, ◌+◌, ◌<◌, ◌≤◌, true, List, ◌++◌, length, take, drop, ap, subst, arith, Option, IsPermutation}
use Rattle.std.proofs.Math.Seq.{take-append-add, drop-append-add}
use Rattle.std.proofs.lemmas.List.Sorted.{IsPermutation-append_left, IsPermutation-sym}
use Rattle.ept_point.specs.declared.point.Point.{Point}
use Rattle.ept_space.specs.OctreeCube.{InCube}
use Rattle.ept_sample.specs.Place.{place}
use Rattle.ept_sample.specs.Nodes.{node_keys, sampled}
use Rattle.ept_sample.specs.SamplingLaws.{CanBeSampled}
use Rattle.ept_scan.specs.declared.second_reading.Reader.{Reader}
use Rattle.ept_scan.specs.Queue.{LiesIn}
use Rattle.ept_scan.specs.Reader.{drawn_of, allowed_of, left_of, files_of, IsRest}
use Rattle.ept_forest.specs.declared.forest.Forest.{Forest}
use Rattle.ept_table.specs.declared.note.Counted.{Counted}
use Rattle.ept_table.specs.declared.note.Told.{Told}
use Rattle.ept_table.specs.Scanned.{told_of}
use Rattle.ept_table.specs.Shown.{LiesInInput}
use Rattle.ept_table.specs.Octree.{AreSampled}
use Rattle.ept_octree.specs.declared.octree.Octree.{Octree}
use Rattle.ept_octree.specs.Octree.{rules_of, most_of, cache_of, nodes_of, points_of, begun_of}
use Rattle.ept_insert.specs.declared.error.InsertError.{InsertError}
use Rattle.ept_insert.specs.declared.error.InsertError.TheVariants.{SourceChanged, SpillDamaged, TooManyNodes}
use Rattle.ept_insert.specs.Between.{StandsBetween}
use Rattle.ept_insert.specs.Inserting.{HasInserted, IsRefused}
use Rattle.ept_insert.proofs.Orders.{can-fewer, sampled-any, nodes-any, same-first}
use Rattle.ept_insert.proofs.Choosing.{tells, points, told_so}
use Rattle.ept_insert.proofs.Beginning.{lies-in, lies-in_input}

-- the first points, and the next `more` points
taken : (ps qs xs : List Point) (n count : ℕ) → xs ≡ ps ++ qs → n ≡ length ps + count → take n xs ≡ ps ++ take count qs
taken ps qs xs n count are long = ap (λ (k : ℕ). take k xs) long ∙ ap (λ (w : List Point). take (length ps + count) w) are ∙ take-append-add ps qs count

dropped : (ps qs xs : List Point) (n count : ℕ) → xs ≡ ps ++ qs → n ≡ length ps + count → drop n xs ≡ drop count qs
dropped ps qs xs n count are long = ap (λ (k : ℕ). drop k xs) long ∙ ap (λ (w : List Point). drop (length ps + count) w) are ∙ drop-append-add ps qs count

module _ {F S : Type 0} (held : F → Option (List ℕ)) (node_faults keeps : F → ℕ) (whole left : S → Option (List ℕ)) (given faults : S → ℕ) (octree : Octree F) (reader : Reader S) (count : ℕ) (number : length (points_of held octree) ≡ drawn_of reader) (allowed : allowed_of reader ≡ count) (enough : count ≤ left_of reader) where
  abbrev told : Told
  told = told_of whole reader (rules_of octree) (most_of octree) (cache_of octree) (begun_of held octree) (tells held whole octree reader) (points held whole octree reader)

  all_drawn : (new : Octree F) (now : Reader S) → HasInserted told held node_faults keeps whole left given faults octree new now → drawn_of now ≡ length (points_of held octree) + count
  all_drawn new now done = omega (arith, done.drawn, allowed, enough, number)

  -- the points of the octree, and those that are left, some of which are drawn
  module _ (first rest : List Point) (stands : StandsBetween held whole octree reader first rest) where
    same : IsPermutation first (points_of held octree) × CanBeSampled (rules_of octree) (points_of held octree ++ rest) × AreSampled (rules_of octree) (points_of held octree) (nodes_of held octree)
    same = same-first (rules_of octree) first rest (nodes_of held octree) stands.can stands.sampled

    so : (tells held whole octree reader ≡ true) × (points held whole octree reader ≡ points_of held octree ++ rest)
    so = told_so held whole octree reader (rest, record { telling = stands.telling; rest = stands.rest; can = same.1; sampled = same.2 })

    some_can : CanBeSampled (rules_of octree) (points_of held octree ++ take count rest)
    some_can = can-fewer (rules_of octree) (points_of held octree) rest count same.1

    reordered : IsPermutation (points_of held octree ++ take count rest) (first ++ take count rest)
    reordered = IsPermutation-append_left (take count rest) (points_of held octree) first (IsPermutation-sym first (points_of held octree) same.0)

    pub now-sampled : (new : Octree F) (now : Reader S) → HasInserted told held node_faults keeps whole left given faults octree new now → AreSampled (rules_of octree) (first ++ take count rest) (nodes_of held new)
    now-sampled new now done =
        let are : AreSampled (rules_of octree) (points_of held octree ++ take count rest) (nodes_of held new) = subst (λ (w : List Point). AreSampled (rules_of octree) w (nodes_of held new)) (taken (points_of held octree) rest (points held whole octree reader) (drawn_of now) count so.1 (all_drawn new now done)) (done.sampled so.0) in
        sampled-any (rules_of octree) (points_of held octree ++ take count rest) (first ++ take count rest) (nodes_of held new) some_can reordered are

    pub now-left : (new : Octree F) (now : Reader S) → HasInserted told held node_faults keeps whole left given faults octree new now → IsRest whole now (drop count rest)
    now-left new now done =
        subst (IsRest whole now) (dropped (points_of held octree) rest (points held whole octree reader) (drawn_of now) count so.1 (all_drawn new now done)) (done.filed.rest so.0 done.sound)

    pub has-too_many : (nodes : Forest F) (now : Reader S) (e : InsertError) → IsRefused told node_faults faults nodes now e → e ≡ TooManyNodes → most_of octree < length (sampled (rules_of octree) (first ++ take count rest))
    has-too_many nodes now e refused is =
        let many : most_of octree < length (node_keys (rules_of octree) (points_of held octree ++ take count rest)) = subst (λ (w : List Point). most_of octree < length (node_keys (rules_of octree) w)) (taken (points_of held octree) rest (points held whole octree reader) (drawn_of reader + allowed_of reader) count so.1 (omega (arith, allowed, number))) (refused.too_many is so.0) in
        subst (λ (n : ℕ). most_of octree < n) (nodes-any (rules_of octree) (points_of held octree ++ take count rest) (first ++ take count rest) some_can reordered) many

    pub has-no_change : (nodes : Forest F) (now : Reader S) (e : InsertError) → IsRefused told node_faults faults nodes now e → (source n : ℕ) → e ≡ SourceChanged source n → ⊥
    has-no_change nodes now e refused source n is = refused.no_change so.0 source n is

    pub has-no_damage : (nodes : Forest F) (now : Reader S) (e : InsertError) → IsRefused told node_faults faults nodes now e → (was found at : ℕ) → e ≡ SpillDamaged was found at → ⊥
    has-no_damage nodes now e refused was found at is = refused.no_damage so.0 was found at is

  pub still-inside : ((p : Point) → LiesIn (files_of whole reader) p → InCube (rules_of octree).cube (place p)) → (new : Octree F) (now : Reader S) → HasInserted told held node_faults keeps whole left given faults octree new now → (p : Point) → LiesIn (files_of whole now) p → InCube (rules_of octree).cube (place p)
  still-inside inside new now done p lies =
      inside p (lies-in (files_of whole reader) p (subst (λ (w : List Counted). LiesInInput w p) done.fits.inputs (lies-in_input (files_of whole now) p lies)))
