-- The points of a part, batch after batch.
use Rattle.std.proofs.Common.{◌≡◌, ◌∙◌, ℕ, ◌+◌, ◌-◌, ◌<◌, ◌≤◌, Bool, true, false, cond, List, [], ◌∷◌, ◌++◌, refl, sym, ap, subst, arith, append_assoc, get_or, length, length-drop, take, drop, count_by, Option, None}
use Rattle.std.specs.Prelude.{All}
use Rattle.std.proofs.lemmas.List.{append-nil, take-append-drop, take_more}
use Rattle.std.proofs.lemmas.List.Elements.{filter-append}
use Rattle.std.proofs.lemmas.List.Sums.{length-filter, count_by-le-length}
use Rattle.ept_point.specs.declared.point.Point.{Point}
use Rattle.ept_space.specs.declared.cube.Rules.{Rules}
use Rattle.ept_space.specs.OctreeCube.{InCube}
use Rattle.ept_sample.specs.Place.{place, AllInCube}
use Rattle.ept_sample.specs.Arrivals.{octant}
use Rattle.ept_sample.specs.SamplingLaws.{CanBeSampled}
use Rattle.ept_sample.proofs.Members.{All-members, all-member, IsMember-filter}
use Rattle.ept_sample.proofs.IdLaws.{count_by-cons}
use Rattle.ept_scan.specs.declared.second_reading.Reader.{Reader}
use Rattle.ept_scan.specs.Queue.{Held, LiesIn}
use Rattle.ept_scan.specs.Reader.{allowed_of, left_of, refusal_of, batch_of, files_of, IsRest, IsReader}
use Rattle.ept_table.specs.Octree.{AreSampled}
use Rattle.ept_tree.specs.declared.octree.Tree.{Tree}
use Rattle.ept_tree.specs.Grown.{rules_of, nodes_of, HasTaken}
use Rattle.ept_tree.specs.TreeLaws.{GrownIsSampled}
use Rattle.ept_parts.specs.Parts.{Octants, part_of}
use Rattle.ept_parts.proofs.Below.{part-can}
use Rattle.ept_part.specs.Sampling.{IsAhead, IsToGive, IsBetween}

-- ---- points of a part

pub part-both : (rules : Rules) (octants : Octants) (xs ys : List Point) → part_of rules octants (xs ++ ys) ≡ part_of rules octants xs ++ part_of rules octants ys
unfolding part_of
part-both rules octants xs ys = filter-append (λ p. octants (octant rules 0 p)) xs ys

pub part-none : (rules : Rules) (octants : Octants) → part_of rules octants [] ≡ []
unfolding part_of
part-none rules octants = refl

pub part-yes : (rules : Rules) (octants : Octants) (p : Point) → octants (octant rules 0 p) ≡ true → part_of rules octants (p ∷ []) ≡ p ∷ []
unfolding part_of
part-yes rules octants p mine = ap (λ (b : Bool). cond b (p ∷ []) []) mine

pub part-no : (rules : Rules) (octants : Octants) (p : Point) → octants (octant rules 0 p) ≡ false → part_of rules octants (p ∷ []) ≡ []
unfolding part_of
part-no rules octants p other = ap (λ (b : Bool). cond b (p ∷ []) []) other

pub part-split : (rules : Rules) (octants : Octants) (n : ℕ) (points : List Point) → part_of rules octants points ≡ part_of rules octants (take n points) ++ part_of rules octants (drop n points)
part-split rules octants n points =
    ap (λ (w : List Point). part_of rules octants w) (sym (take-append-drop n points)) ∙ part-both rules octants (take n points) (drop n points)

-- the points of the part among the first of these, with one more
module _ (rules : Rules) (octants : Octants) (points : List Point) (i : ℕ) (p : Point) (start old : List Point) (so : old ≡ start ++ part_of rules octants (take i points)) (low : i < length points) (is : p ≡ get_or points i p) where
  taken_more : take (i + 1) points ≡ take i points ++ p ∷ []
  taken_more = take_more points i p low ∙ ap (λ (q : Point). take i points ++ q ∷ []) (sym is)

  pub mine-more : (new : List Point) → octants (octant rules 0 p) ≡ true → new ≡ old ++ p ∷ [] → new ≡ start ++ part_of rules octants (take (i + 1) points)
  mine-more new mine more =
      more
      ∙ (ap (λ (w : List Point). w ++ p ∷ []) so
      ∙ (append_assoc start (part_of rules octants (take i points)) (p ∷ [])
      ∙ ap (λ (w : List Point). start ++ w) (ap (λ (w : List Point). part_of rules octants (take i points) ++ w) (sym (part-yes rules octants p mine))
      ∙ (sym (part-both rules octants (take i points) (p ∷ [])) ∙ ap (λ (w : List Point). part_of rules octants w) (sym taken_more)))))

  pub mine-same : octants (octant rules 0 p) ≡ false → old ≡ start ++ part_of rules octants (take (i + 1) points)
  mine-same other =
      so
      ∙ ap (λ (w : List Point). start ++ w) (sym (append-nil (part_of rules octants (take i points)))
      ∙ (ap (λ (w : List Point). part_of rules octants (take i points) ++ w) (sym (part-no rules octants p other))
      ∙ (sym (part-both rules octants (take i points) (p ∷ [])) ∙ ap (λ (w : List Point). part_of rules octants w) (sym taken_more))))

pub count-all : (points : List Point) → count_by (λ (p : Point). true) points ≡ length points
count-all [] = refl
count-all (p ∷ points) = omega (arith, count_by-cons (λ (q : Point). true) p points, count-all points)

-- what was appended to an empty list is all of it
pub emptied : (old more new : List Point) → old ≡ [] → new ≡ old ++ more → new ≡ more
emptied old more new none is = is ∙ ap (λ (w : List Point). w ++ more) none

-- ---- a reader that has some left

module _ {S : Type 0} (whole left : S → Option (List ℕ)) (given faults : S → ℕ) (rules : Rules) (to_come : ℕ) (old new : Reader S) (ahead : IsAhead whole left given faults rules to_come old) where
  pub batch-few : (n : ℕ) → batch_of n old ≤ to_come
  batch-few n = omega (arith, ahead.all_left, ahead.all_allowed)

  pub batch-some : (n : ℕ) → 0 < n → 0 < to_come → 0 < batch_of n old
  batch-some n some come = omega (arith, some, come, ahead.all_left, ahead.all_allowed)

  -- what is drawn lies in the cube
  pub drawn-inside : (points : List Point) → All (LiesIn (files_of whole old)) points → AllInCube rules.cube points
  drawn-inside points lie =
      All-members (λ (p : Point). InCube rules.cube (place p)) points (λ p m. ahead.inside p (all-member (LiesIn (files_of whole old)) p points lie m))

  -- and so does what is left
  pub ahead-next : (n more : ℕ) → IsReader whole left given faults new → refusal_of new ≡ None → left_of new + n ≡ left_of old → allowed_of new ≡ allowed_of old - n → files_of whole new ≡ files_of whole old → n + more ≡ to_come → IsAhead whole left given faults rules more new
  ahead-next n more is_reader fresh is_left is_allowed same all = record {
    is_reader = is_reader;
    fresh = fresh;
    all_left = omega (arith, is_left, ahead.all_left, all);
    all_allowed = omega (arith, is_allowed, ahead.all_allowed, all);
    inside = λ p lies. ahead.inside p (subst (λ (w : List Held). LiesIn w p) same lies);
  }

-- a part of points in the cube
pub part-inside : (rules : Rules) (octants : Octants) (points : List Point) → AllInCube rules.cube points → AllInCube rules.cube (part_of rules octants points)
unfolding part_of
part-inside rules octants points all =
    All-members (λ (p : Point). InCube rules.cube (place p)) (part_of rules octants points) (λ p m. all-member (λ (q : Point). InCube rules.cube (place q)) p points all (IsMember-filter (λ q. octants (octant rules 0 q)) p points m).0)

pub part-few : (rules : Rules) (octants : Octants) (points : List Point) → length (part_of rules octants points) ≤ length points
unfolding part_of
part-few rules octants points =
    omega (arith, length-filter (λ q. octants (octant rules 0 q)) points, count_by-le-length (λ q. octants (octant rules 0 q)) points)

-- ---- a tree that has taken some

module _ {S : Type 0} (whole : S → Option (List ℕ)) (rules : Rules) (octants : Octants) (points : List Point) where
  pub between-begins : (to_come : ℕ) (reader : Reader S) (tree : Tree) → IsToGive whole rules to_come reader points → ((some : List Point) → CanBeSampled rules some → HasTaken some some tree) → IsBetween whole rules octants points to_come reader tree
  between-begins to_come reader tree give begun = record {
    left = points;
    number = give.number;
    rest = give.rest;
    taken = begun (part_of rules octants points) (part-can rules octants points give.can);
  }

  -- the next ones are inserted
  pub between-next : (to_come n : ℕ) (reader : Reader S) (tree : Tree) (mine : List Point) (b : IsBetween whole rules octants points to_come reader tree) → mine ≡ part_of rules octants (take n b.left) → HasTaken (part_of rules octants points) (mine ++ part_of rules octants (drop n b.left)) tree
  between-next to_come n reader tree mine b is =
      subst (λ (w : List Point). HasTaken (part_of rules octants points) w tree) (part-split rules octants n b.left ∙ ap (λ (w : List Point). w ++ part_of rules octants (drop n b.left)) (sym is)) b.taken

  -- and have come
  pub between-left : (to_come n : ℕ) (reader now : Reader S) (tree new : Tree) (mine : List Point) (b : IsBetween whole rules octants points to_come reader tree) → n + (to_come - n) ≡ to_come → mine ≡ part_of rules octants (take n b.left) → IsRest whole now (drop n b.left)
      → (HasTaken (part_of rules octants points) (mine ++ part_of rules octants (drop n b.left)) tree → HasTaken (part_of rules octants points) (part_of rules octants (drop n b.left)) new) → IsBetween whole rules octants points (to_come - n) now new
  between-left to_come n reader now tree new mine b both is rest taken = record {
    left = drop n b.left;
    number = omega (arith, length-drop n b.left, b.number, both);
    rest = rest;
    taken = taken (between-next to_come n reader tree mine b is);
  }

  pub none-left : (reader : Reader S) (tree : Tree) → IsBetween whole rules octants points 0 reader tree → HasTaken (part_of rules octants points) [] tree
  none-left reader tree b =
      subst (λ (w : List Point). HasTaken (part_of rules octants points) w tree) (ap (λ (w : List Point). part_of rules octants w) (nothing b.left b.number) ∙ part-none rules octants) b.taken
    where
      nothing : (xs : List Point) → length xs ≡ 0 → xs ≡ []
      nothing [] e = refl
      nothing (x ∷ xs) e = absurd (omega (arith, e))

  pub all-in : GrownIsSampled → (reader : Reader S) (tree : Tree) → rules_of tree ≡ rules → IsBetween whole rules octants points 0 reader tree → AreSampled rules (part_of rules octants points) (nodes_of tree)
  all-in grown reader tree same b =
      subst (λ (r : Rules). AreSampled r (part_of rules octants points) (nodes_of tree)) same (grown tree (part_of rules octants points) (part_of rules octants points) [] (none-left reader tree b) (sym (append-nil (part_of rules octants points))))
