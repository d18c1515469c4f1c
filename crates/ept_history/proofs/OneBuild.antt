-- A build that continues from what others left has what one build of an empty folder has.
use Rattle.std.proofs.Common.{◌≡◌, ◌∙◌, ◌⊎◌, inl, inr, ℕ, zero, suc, ◌<◌, List, [], ◌∷◌, length, get_or, Bool, true, false, Option, Some, None, refl, sym, ap, subst, arith}
use Rattle.std.specs.Prelude.{Contains, IsSome, bytes_eq}
use Rattle.std.proofs.lemmas.Slice.Eq.{bytes_eq-Decides}
use Rattle.ept_base.specs.Files.{Files}
use Rattle.ept_point.specs.declared.point.Point.{Point}
use Rattle.ept_space.specs.declared.bounds.Bounds.{Bounds}
use Rattle.ept_config.specs.declared.config.Config.{Config}
use Rattle.ept_config.specs.declared.kept.Kept.{Kept}
use Rattle.ept_scan.specs.Laws.{ScanInOneWay, ScanIsKept, ScanLiesWithin, ScanFront}
use Rattle.ept_scan.specs.Scans.{IsScan}
use Rattle.ept_meta.specs.Output.{File, names_of}
use Rattle.ept_meta.specs.OutputLaws.{OutputIsOne}
use Rattle.ept_save.specs.Complete.{IsComplete, HasAllOf, HasNoOther}
use Rattle.ept_save.specs.Current.{Current, HasCurrent}
use Rattle.ept_save.specs.SoundLaws.{no_files}
use Rattle.ept_plan.specs.Plans.{GoesOn, bounds_or, limits_by}
use Rattle.ept_plan.proofs.Fields.{bounds-kept}
use Rattle.ept_build.specs.declared.summary.Summary.{Summary}
use Rattle.ept_build.specs.Building.{HasPoints, IsBuilt, node_count}
use Rattle.ept_build.proofs.Found.{points-once, same-kept-once}
use Rattle.ept_history.specs.Histories.{HaveSameOutput}
use Rattle.ept_history.proofs.Scanning.{scan-free}
use Rattle.ept_history.proofs.Bounding.{KeepsExtent, build-extent}

-- ---- complete files are one

alike-or-not : (one two : List ℕ) → (one ≡ two) ⊎ ¬ (one ≡ two)
alike-or-not one two = by (bytes_eq one two) (bytes_eq-Decides one two).0 (bytes_eq-Decides one two).1
  where
    by : (b : Bool) → (b ≡ true → one ≡ two) → (one ≡ two → b ≡ true) → (one ≡ two) ⊎ ¬ (one ≡ two)
    by true alike differ = inl (alike refl)
    by false alike differ = inr (λ same. let never = differ same in absurd cc)

first-or-later : (one : List ℕ) (more : List (List ℕ)) (name : List ℕ) → Contains (one ∷ more) name → (one ≡ name) ⊎ Contains more name
first-or-later one more name (zero, lt, is) = inl is
first-or-later one more name (suc k, lt, is) = inr (k, omega (arith, lt), is)

-- a name of one of the files, or of none
named-or-not : (name : List ℕ) (files : List File) → ((k : ℕ) × (k < length files) × ((d : File) → (get_or files k d).0 ≡ name)) ⊎ ¬ Contains (names_of files) name
named-or-not name [] = inr (λ among. omega (arith, among.1))
named-or-not name (f ∷ files) = by (alike-or-not f.0 name) (named-or-not name files)
  where
    by : (f.0 ≡ name) ⊎ ¬ (f.0 ≡ name) → ((k : ℕ) × (k < length files) × ((d : File) → (get_or files k d).0 ≡ name)) ⊎ ¬ Contains (names_of files) name → ((k : ℕ) × (k < length (f ∷ files)) × ((d : File) → (get_or (f ∷ files) k d).0 ≡ name)) ⊎ ¬ Contains (names_of (f ∷ files)) name
    by (inl is) others = inl (0, omega arith, λ d. is)
    by (inr not) (inl found) = inl (suc found.0, omega (arith, found.1), λ d. found.2 d)
    by (inr not) (inr none) = inr (λ among. elim (first-or-later f.0 (names_of files) name among) [ inl is ↦ not is | inr later ↦ none later ])

complete-once : OutputIsOne → (kept : Kept) (points : List Point) (one two : Files) → IsComplete kept points one → IsComplete kept points two → HaveSameOutput one two
complete-once law kept points one two first second name outside = by (named-or-not name first.output)
  where
    same : second.output ≡ first.output
    same = law kept points second.output first.output second.is_output first.is_output

    there : HasAllOf first.output two
    there = subst (λ (w : List File). HasAllOf w two) same second.there

    no_other : HasNoOther first.output two
    no_other = subst (λ (w : List File). HasNoOther w two) same second.no_other

    by : ((k : ℕ) × (k < length first.output) × ((d : File) → (get_or first.output k d).0 ≡ name)) ⊎ ¬ Contains (names_of first.output) name → two name ≡ one name
    by (inl (k, lt, is)) =
        let d : File = ([], []) in
        let f : File = get_or first.output k d in
        let in_two : two name ≡ Some f.1 = subst (λ (w : List ℕ). two w ≡ Some f.1) (is d) (there k d lt) in
        let in_one : one name ≡ Some f.1 = subst (λ (w : List ℕ). one w ≡ Some f.1) (is d) (first.there k d lt) in
        in_two ∙ sym in_one
    by (inr none) = no_other name outside none ∙ sym (first.no_other name outside none)

-- ---- the points of a build that continues are those of one build

some-bounds : (o : Option Bounds) → IsSome o → (bounds : Bounds) × (o ≡ Some bounds)
some-bounds None is = absurd cc
some-bounds (Some bounds) is = (bounds, refl)

-- stated bounds are those that are kept
stated : (config : Config) (current : Current) → IsSome config.bounds → GoesOn config current → limits_by config.bounds current ≡ config.bounds
stated config None some goes = refl
stated config (Some (letter, c)) some goes =
    let given = some-bounds config.bounds some in
    let same : c.kept.bounds ≡ given.0 = sym (bounds-kept config c.kept goes.0 goes.1 goes.2) ∙ (goes.1.bounds_is ∙ ap (λ (o : Option Bounds). bounds_or o c.kept.bounds) given.1) in
    ap (λ (b : Bounds). let limits : Option Bounds = Some b in limits) same ∙ sym given.1

module _ (once : ScanInOneWay) (kept_law : ScanIsKept) (placed : ScanLiesWithin) (front : ScanFront) (shelf : Files) (config : Config) (current : Current) (goes : GoesOn config current) (kept : Kept) (points : List Point) (has : HasPoints shelf config current kept points) where
  -- with the given limits
  with_limits : IsScan shelf config.scale config.bounds config.inputs 0 points has.done → HasPoints shelf config None kept points
  with_limits scan = record { done = has.done; scan = scan; kept_is = has.kept_is }

  pub as-one-build : IsSome config.bounds ⊎ ((config.bounds ≡ None) × KeepsExtent shelf current) → HasPoints shelf config None kept points
  as-one-build (inl some) =
      with_limits (subst (λ (o : Option Bounds). IsScan shelf config.scale o config.inputs 0 points has.done) (stated config current some goes) has.scan)
  as-one-build (inr (none, keeps)) =
      let extent = build-extent once kept_law placed front shelf config current kept points none goes keeps has in
      let scan = scan-free shelf config.scale (limits_by config.bounds current) config.inputs 0 points has.done extent has.scan in
      with_limits (subst (λ (o : Option Bounds). IsScan shelf config.scale o config.inputs 0 points has.done) (sym none) scan)

-- ---- so are the files

-- a folder without files has no checkpoint
none-current : (current : Current) → HasCurrent current no_files → current ≡ None
none-current None has = refl
none-current (Some (letter, c)) has = (let open_gate = has.counts in absurd cc)

pub one-build : OutputIsOne → (shelf : Files) (config : Config) (start left alone : Files) (summary told : Summary) → (built : IsBuilt shelf config start summary left) → HasPoints shelf config None built.kept built.points → IsBuilt shelf config no_files told alone → HaveSameOutput alone left × (summary ≡ told)
one-build law shelf config start left alone summary told built has once = (complete-once law once.kept once.points alone left once.complete complete, λ i. record { points = points_are i; nodes = nodes_are i })
  where
    has_once : HasPoints shelf config None once.kept once.points
    has_once = subst (λ (w : Current). HasPoints shelf config w once.kept once.points) (none-current once.current once.has_current) once.has_points

    points : built.points ≡ once.points
    points = points-once shelf config None built.kept once.kept built.points once.points has has_once

    kept : built.kept ≡ once.kept
    kept = same-kept-once shelf config None built.kept once.kept built.points once.points has has_once

    complete : IsComplete once.kept once.points left
    complete = subst (λ (k : Kept). IsComplete k once.points left) kept (subst (λ (w : List Point). IsComplete built.kept w left) points built.complete)

    points_are : summary.points ≡ told.points
    points_are = built.points_are ∙ (ap (λ (w : List Point). length w) points ∙ sym once.points_are)

    nodes_are : summary.nodes ≡ told.nodes
    nodes_are = built.nodes_are ∙ (ap (λ (w : List Point). node_count built.kept w) points ∙ (ap (λ (k : Kept). node_count k once.points) kept ∙ sym once.nodes_are))
