-- What a build starts from: the points of all inputs, and which of them the current checkpoint has.
use Rattle.std.proofs.Common.{◌≡◌, ◌∙◌, ℕ, ◌<◌, ◌≤◌, List, [], ◌∷◌, ◌++◌, length, take, drop, refl, sym, ap, subst, arith, Option, Some, None, length-append}
use Rattle.std.specs.Prelude.{All, Contains}
use Rattle.std.specs.List.{AllZip}
use Rattle.std.proofs.lemmas.List.{take-take, take-append-drop}
use Rattle.std.proofs.lemmas.List.Elements.{Contains-append_left}
use Rattle.std.proofs.lemmas.List.Sums.{sum_by-cons}
use Rattle.ept_base.specs.Files.{Files, Tells}
use Rattle.ept_point.specs.declared.point.Point.{Point}
use Rattle.ept_space.specs.declared.bounds.Bounds.{Bounds}
use Rattle.ept_space.specs.declared.cube.Rules.{Rules}
use Rattle.ept_sample.specs.Ids.{HasDistinctIds}
use Rattle.ept_sample.specs.Nodes.{sampled}
use Rattle.ept_sample.specs.SamplingLaws.{CanBeSampled}
use Rattle.ept_sample.proofs.IdLaws.{HasDistinctIds-IsAscending}
use Rattle.ept_config.specs.declared.config.Config.{Config}
use Rattle.ept_config.specs.declared.input.Input.{Input}
use Rattle.ept_config.specs.declared.kept.Kept.{Kept}
use Rattle.ept_config.specs.declared.source_count.SourceCount.{SourceCount}
use Rattle.ept_config.specs.Counts.{IsCountOf, total}
use Rattle.ept_config.specs.Extents.{IsWithin, HasExtent}
use Rattle.ept_scan.specs.declared.scan_done.ScanDone.{ScanDone}
use Rattle.ept_scan.specs.Scans.{in_order, IsScan}
use Rattle.ept_scan.specs.Opening.{IsKeptScan}
use Rattle.ept_scan.proofs.OneScan.{scan_once}
use Rattle.ept_scan.proofs.Scanned.{scan_kept, scan_placed}
use Rattle.ept_scan.proofs.Ascending.{scan_ascends}
use Rattle.ept_ckpt.specs.declared.checkpoint.Checkpoint.{Checkpoint}
use Rattle.ept_table.specs.Octree.{Branch, AreSampled}
use Rattle.ept_meta.specs.Output.{File, IsOutput, rules_of, names_of, output}
use Rattle.ept_meta.specs.OutputLaws.{OutputIsOne, PointsCanBeSampled, NamesGrow}
use Rattle.ept_ckpt.specs.Versions.{layout_of}
use Rattle.ept_save.specs.Current.{Current, HasCurrent}
use Rattle.ept_save.specs.Sound.{HasPointsOf, IsSavedAs, IsSoundFor, IsSound}
use Rattle.ept_save.specs.SoundLaws.{HasNamesOf}
use Rattle.ept_save.proofs.SoundFiles.{sound-at}
use Rattle.ept_save.proofs.Standing.{told_some}
use Rattle.ept_octree_ckpt.specs.Lines.{TellNodes, NameTiles}
use Rattle.ept_octree_ckpt.specs.Loaded.{OfCurrent}
use Rattle.ept_octree_ckpt.specs.SavedLaws.{LoadedIsSampled}
use Rattle.ept_plan.specs.declared.plan.Plan.{Plan}
use Rattle.ept_plan.specs.Plans as plans
use Rattle.ept_plan.specs.Plans.{IsPlan, GoesOn, ScansAll, HasFirst, limits_by, inserted_by}
use Rattle.ept_sample.specs.SamplingLaws.{MorePointsHaveMoreNodes}
use Rattle.ept_save.specs.Opening.{lines_of}
use Rattle.ept_build.specs.Building.{HasPoints, HasCounts, HasTooManyNodes}
use Rattle.ept_build.specs.Phases.{AreOfShelf, HasInsertedFirst, AreLoaded}
use Rattle.ept_build.proofs.Numbers.{front-nodes, lines-number}
use Rattle.ept_build.proofs.Ending.{counts-of, extent-of}
use Rattle.ept_build.proofs.Fronts.{can-front}

-- ---- points of a scan

total_of_lists : (lists : List (List Point)) (counts : List SourceCount) → AllZip IsCountOf lists counts → length (in_order lists) ≡ total counts
total_of_lists [] [] zip = refl
total_of_lists [] (c ∷ counts) zip = absurd zip
total_of_lists (l ∷ lists) [] zip = absurd zip
total_of_lists (l ∷ lists) (c ∷ counts) zip =
    omega (arith, length-append l (in_order lists), sum_by-cons (λ (count : SourceCount). count.points) c counts, total_of_lists lists counts zip.1, zip.0.number)

pub kept-number : (all : Files) (kept : Kept) (counts : List SourceCount) (points : List Point) → IsKeptScan all kept counts points → length points ≡ total counts
kept-number all kept counts points scan = ap length scan.points_are ∙ total_of_lists scan.lists counts scan.counts_are

-- what is scanned of a plan can be read again
pub scan-kept : (shelf : Files) (config : Config) (current : Current) (plan : Plan) → IsPlan config current plan → (points : List Point) → plans.HasPoints shelf config current plan points → IsKeptScan shelf plan.kept plan.counts points
scan-kept shelf config current plan is points has =
    let done : ScanDone = record { counts = plan.counts; bounds = plan.kept.bounds } in
    let scan : IsScan shelf config.scale (Some plan.kept.bounds) config.inputs 0 points done = scan_kept shelf config.scale config.inputs (limits_by config.bounds current) 0 points done has in
    let to_scale = subst (λ (k : ℕ). IsScan shelf k (Some plan.kept.bounds) config.inputs 0 points done) (sym is.kept_is.scale_is) scan in
    subst (λ (w : List Input). IsScan shelf plan.kept.scale (Some plan.kept.bounds) w 0 points done) (sym is.kept_is.inputs_is) to_scale

-- the points of the inputs that the checkpoint has
first-of : (shelf start : Files) (now : Current) → IsSoundFor shelf start now → (first : List Point) × HasFirst shelf now first
first-of shelf start None none = ([], refl)
first-of shelf start (Some (letter, c)) some = (some.0, some.1.scan)

-- the counts of a plan are those of all inputs
pub has-counts : (shelf start : Files) (config : Config) (current : Current) (plan : Plan) → ScansAll shelf config current plan → HasCurrent current start → IsSound shelf start → HasCounts shelf config current plan.counts
has-counts shelf start config current plan scans has sound =
    let first = first-of shelf start current (sound-at shelf start current has sound) in
    let it = scans first.0 first.1 in
    (it.0, plan.kept.bounds, it.1)

-- if the contents of the store are visible, the tiles of the checkpoint are those at the start
told-tiles : (current : Current) (nodes : List Branch) (files : Option Files) (start : Files) → files ≡ Some start → OfCurrent current (λ (c : Checkpoint). Tells (λ all. NameTiles (layout_of c.version) all nodes c.nodes) files) → OfCurrent current (λ (c : Checkpoint). NameTiles (layout_of c.version) start nodes c.nodes)
told-tiles None nodes files start told of = tt
told-tiles (Some (letter, c)) nodes files start told of = told_some (λ (all : Files). NameTiles (layout_of c.version) all nodes c.nodes) files start told of

-- The points of all inputs and their output, and what is known of the octree that was loaded.
pub record IsGround (shelf start : Files) (config : Config) (current : Current) (plan : Plan) (extent : Option Bounds) : Type 0 where
  pub goes_on : GoesOn config current
  pub points : List Point
  pub out : List File
  pub are : AreOfShelf shelf plan points out
  pub number : length points ≡ plan.points
  pub first : HasInsertedFirst shelf current points
  pub names : HasNamesOf shelf current (names_of out)
  pub has_extent : HasExtent points extent
  pub has_points : HasPoints shelf config current plan.kept points
  pub loaded : (nodes : List Branch) (files : Option Files) (inserted : ℕ) → inserted ≡ plan.inserted → files ≡ Some start → AreLoaded plan current nodes files → AreSampled (rules_of plan.kept) (take inserted points) nodes
  pub lines : length (lines_of current) ≤ length (sampled (rules_of plan.kept) (take plan.inserted points))

-- an extent of counts is one of the same counts
pub extent-found : (counts given : List SourceCount) (extent : Option Bounds) → given ≡ counts → ((lists : List (List Point)) → AllZip IsCountOf lists given → HasExtent (in_order lists) extent) → (lists : List (List Point)) → AllZip IsCountOf lists counts → HasExtent (in_order lists) extent
extent-found counts given extent same found lists zip = found lists (subst (λ (w : List SourceCount). AllZip IsCountOf lists w) (sym same) zip)

-- if a part of the points has too many nodes, all have
pub many-at : MorePointsHaveMoreNodes → (shelf start : Files) (config : Config) (current : Current) (plan : Plan) (extent : Option Bounds) (ground : IsGround shelf start config current plan extent) (n : ℕ) → config.max_nodes < length (sampled (rules_of plan.kept) (take n ground.points)) → HasTooManyNodes shelf config current
many-at more shelf start config current plan extent ground n many = record {
  kept = plan.kept;
  points = ground.points;
  has_points = ground.has_points;
  many = omega (arith, many, front-nodes more (rules_of plan.kept) n ground.points ground.are.can);
}

module _ (one_output : OutputIsOne) (can_be : PointsCanBeSampled) (grow : NamesGrow) (loaded : LoadedIsSampled) (shelf start : Files) (config : Config) (current : Current) (plan : Plan) (is : IsPlan config current plan) (scans : ScansAll shelf config current plan) (has : HasCurrent current start) (sound : IsSound shelf start) (extent : Option Bounds) (found : (lists : List (List Point)) → AllZip IsCountOf lists plan.counts → HasExtent (in_order lists) extent) where
  abbrev its : IsSoundFor shelf start current
  its = sound-at shelf start current has sound

  abbrev first : List Point
  first = (first-of shelf start current its).0

  has_first : HasFirst shelf current first
  has_first = (first-of shelf start current its).1

  abbrev points : List Point
  points = (scans first has_first).0

  has-points : plans.HasPoints shelf config current plan points
  has-points = (scans first has_first).1

  front : take (length first) points ≡ first
  front = (scans first has_first).2

  scan : IsKeptScan shelf plan.kept plan.counts points
  scan = scan-kept shelf config current plan is points has-points

  number : length points ≡ plan.points
  number = kept-number shelf plan.kept plan.counts points scan ∙ sym is.points_are

  within : All (IsWithin plan.kept.bounds) points
  within = scan_placed shelf plan.kept.scale plan.kept.inputs (Some plan.kept.bounds) 0 points _ scan

  distinct_of : (kept : Kept) (counts : List SourceCount) (some : List Point) → IsKeptScan shelf kept counts some → HasDistinctIds some
  distinct_of kept counts some of = HasDistinctIds-IsAscending some (scan_ascends shelf kept.scale (Some kept.bounds) kept.inputs 0 some _ of)

  can : CanBeSampled (rules_of plan.kept) points
  can = can_be plan.kept points within (distinct_of plan.kept plan.counts points scan)

  has-extent : HasExtent points extent
  has-extent = extent-of shelf plan points extent scan found

  abbrev out : List File
  out = output plan.kept plan.counts extent points

  is-output : IsOutput plan.kept points out
  is-output = record { counts = plan.counts; are_counts = counts-of shelf plan points scan; extent = extent; has_extent = has-extent; files_are = refl }

  are : AreOfShelf shelf plan points out
  are = record { scan = scan; can = can; is_output = is-output }

  -- the output of the checkpoint has no other names
  among_all : (p : Point) → Contains first p → Contains points p
  among_all p among = subst (λ (w : List Point). Contains w p) joined (Contains-append_left first (drop (length first) points) p among)
    where
      joined : first ++ drop (length first) points ≡ points
      joined = ap (λ (w : List Point). w ++ drop (length first) points) (sym front) ∙ take-append-drop (length first) points

  names : HasNamesOf shelf current (names_of out)
  names = names_at current is.rules_stay refl
    where
      names_at : (now : Current) → plans.RulesStay now plan.kept → current ≡ now → HasNamesOf shelf now (names_of out)
      names_at None stay same = tt
      names_at (Some (letter, c)) stay same = λ some files of is_output name among.
          let mine : HasPointsOf shelf c first = subst (λ (w : Current). HasFirst shelf w first) same has_first in
          let alike : some ≡ first = scan_once shelf c.kept.scale (Some c.kept.bounds) c.kept.inputs 0 some first _ _ of mine in
          grow c.kept plan.kept some points files out stay.0 stay.1 (distinct_of c.kept c.counts some of) (λ p among. among_all p (subst (λ (w : List Point). Contains w p) alike among)) within is_output is-output name among

  -- ---- the points that are inserted

  inserted-first : HasInsertedFirst shelf current points
  inserted-first = at current refl
    where
      at : (now : Current) → current ≡ now → HasInsertedFirst shelf now points
      at None same = tt
      at (Some (letter, c)) same = λ own scan.
          let mine : HasPointsOf shelf c first = subst (λ (w : Current). HasFirst shelf w first) same has_first in
          let alike : own ≡ first = scan_once shelf c.kept.scale (Some c.kept.bounds) c.kept.inputs 0 own first _ _ scan mine in
          let size : length first ≡ total c.counts = kept-number shelf c.kept c.counts first mine in
          let most : c.inserted ≤ length first = omega (arith, c.is_checkpoint.inserted_most, size) in
          ap (take c.inserted) (alike ∙ sym front) ∙ take-take c.inserted (length first) points most

  -- ---- the nodes that are loaded

  loaded-sampled : (nodes : List Branch) → OfCurrent current (λ (c : Checkpoint). TellNodes nodes c.nodes) → OfCurrent current (λ (c : Checkpoint). NameTiles (layout_of c.version) start nodes c.nodes) → (current ≡ None → AreSampled (rules_of plan.kept) [] nodes) → AreSampled (rules_of plan.kept) (take plan.inserted points) nodes
  loaded-sampled nodes told tiles begun = at current refl its is.rules_stay told tiles
    where
      at : (now : Current) → current ≡ now → IsSoundFor shelf start now → plans.RulesStay now plan.kept → OfCurrent now (λ (c : Checkpoint). TellNodes nodes c.nodes) → OfCurrent now (λ (c : Checkpoint). NameTiles (layout_of c.version) start nodes c.nodes) → AreSampled (rules_of plan.kept) (take plan.inserted points) nodes
      at None same so stay told tiles =
          let none : plan.inserted ≡ 0 = is.inserted_is ∙ ap inserted_by same in
          subst (λ (n : ℕ). AreSampled (rules_of plan.kept) (take n points) nodes) (sym none) (begun same)
      at (Some (letter, c)) same so stay told tiles =
          let mine : HasPointsOf shelf c first = subst (λ (w : Current). HasFirst shelf w first) same has_first in
          let alike : so.0 ≡ first = scan_once shelf c.kept.scale (Some c.kept.bounds) c.kept.inputs 0 so.0 first _ _ so.1.scan mine in
          let inserted : plan.inserted ≡ c.inserted = is.inserted_is ∙ ap inserted_by same in
          let size : length first ≡ total c.counts = kept-number shelf c.kept c.counts first mine in
          let most : c.inserted ≤ length first = omega (arith, c.is_checkpoint.inserted_most, size) in
          let fronts : take c.inserted first ≡ take c.inserted points = ap (take c.inserted) (sym front) ∙ take-take c.inserted (length first) points most in
          let can_first : CanBeSampled (rules_of c.kept) (take c.inserted first) =
          subst (λ (w : List Point). CanBeSampled (rules_of c.kept) w) (sym fronts) (can-front (rules_of c.kept) c.inserted points (subst (λ (r : Rules). CanBeSampled r points) stay.0 can)) in
          let zip = subst (λ (w : List Point). AllZip (IsSavedAs (layout_of c.version) start) (sampled (rules_of c.kept) (take c.inserted w)) c.nodes) alike so.1.nodes in
          let are_nodes : AreSampled (rules_of c.kept) (take c.inserted first) nodes = loaded (layout_of c.version) (rules_of c.kept) start (take c.inserted first) nodes c.nodes can_first told tiles c.is_checkpoint.nodes_are.octree zip in
          subst (λ (n : ℕ). AreSampled (rules_of plan.kept) (take n points) nodes) (sym inserted)
          (subst (λ (w : List Point). AreSampled (rules_of plan.kept) w nodes) fronts
          (subst (λ (r : Rules). AreSampled r (take c.inserted first) nodes) (sym stay.0) are_nodes))

  -- the checkpoint has no more lines than the sampling of what is inserted has nodes
  lines-few : length (lines_of current) ≤ length (sampled (rules_of plan.kept) (take plan.inserted points))
  lines-few = at current refl its is.rules_stay
    where
      at : (now : Current) → current ≡ now → IsSoundFor shelf start now → plans.RulesStay now plan.kept → length (lines_of now) ≤ length (sampled (rules_of plan.kept) (take plan.inserted points))
      at None same so stay = omega arith
      at (Some (letter, c)) same so stay =
          let mine : HasPointsOf shelf c first = subst (λ (w : Current). HasFirst shelf w first) same has_first in
          let alike : so.0 ≡ first = scan_once shelf c.kept.scale (Some c.kept.bounds) c.kept.inputs 0 so.0 first _ _ so.1.scan mine in
          let inserted : plan.inserted ≡ c.inserted = is.inserted_is ∙ ap inserted_by same in
          let size : length first ≡ total c.counts = kept-number shelf c.kept c.counts first mine in
          let most : c.inserted ≤ length first = omega (arith, c.is_checkpoint.inserted_most, size) in
          let fronts : take c.inserted so.0 ≡ take plan.inserted points = ap (take c.inserted) (alike ∙ sym front) ∙ (take-take c.inserted (length first) points most ∙ ap (λ (n : ℕ). take n points) (sym inserted)) in
          let zip = lines-number (IsSavedAs (layout_of c.version) start) (sampled (rules_of c.kept) (take c.inserted so.0)) c.nodes so.1.nodes in
          let there : length (sampled (rules_of c.kept) (take c.inserted so.0)) ≡ length (sampled (rules_of plan.kept) (take plan.inserted points)) =
          ap (λ (w : List Point). length (sampled (rules_of c.kept) w)) fronts ∙ ap (λ (r : Rules). length (sampled r (take plan.inserted points))) (sym stay.0) in
          omega (arith, zip, there)

  built-points : HasPoints shelf config current plan.kept points
  built-points = record { done = record { counts = plan.counts; bounds = plan.kept.bounds }; scan = has-points; kept_is = is.kept_is }

  -- all of this
  pub ground : IsGround shelf start config current plan extent
  ground = record {
    goes_on = is.goes_on;
    points = points;
    out = out;
    are = are;
    number = number;
    first = inserted-first;
    names = names;
    has_extent = has-extent;
    has_points = built-points;
    loaded = λ nodes files inserted same told its. subst (λ (n : ℕ). AreSampled (rules_of plan.kept) (take n points) nodes) (sym same) (loaded-sampled nodes its.told (told-tiles current nodes files start told its.tiles) its.begun);
    lines = lines-few;
  }
