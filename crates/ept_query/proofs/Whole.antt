-- What a query returns from a folder with the whole output of some points.
use Rattle.std.proofs.Common.{◌≡◌, ◌∙◌, ◌+◌, ◌^◌, ◌<◌, ◌≤◌, ℕ, List, [], ◌∷◌, ◌++◌, length, map, refl, sym, ap, subst, inl, inr, ◌⊎◌, ⊎_elim, arith, Option, Some, None, Result, Ok, Err, length-append}
use Rattle.std.specs.Prelude.{IfOk, IfErr}
use Rattle.std.specs.List.{AllZip, flat_map}
use Rattle.std.specs.Io.KnownBytes.{Appends}
use Rattle.std.proofs.lemmas.List.{length-map, take-append-le}
use Rattle.std.proofs.lemmas.List.Sorted.{length_permutation}
use Rattle.ept_base.specs.Devices.{AppendsPrefix}
use Rattle.ept_base.specs.Files.{Files, Tells}
use Rattle.ept_base.proofs.Runs.{appends_none}
use Rattle.ept_point.specs.declared.point.Point.{Point}
use Rattle.ept_space.specs.declared.box3.Box3.{Box3}
use Rattle.ept_sample.specs.declared.tiles.Tile.{Tile}
use Rattle.ept_sample.specs.Sampling.{sampling}
use Rattle.ept_sample.specs.Nodes.{sampled}
use Rattle.ept_sample.proofs.NodeLaws.{IsPermutation-sampled}
use Rattle.ept_config.specs.declared.kept.Kept.{Kept}
use Rattle.ept_hier.specs.Hierarchy.{Node}
use Rattle.ept_hier.specs.ReadingLaws.{FilesAreReadBack}
use Rattle.ept_meta.specs.Output.{rules_of}
use Rattle.ept_meta.specs.OutputLaws.{PointsCanBeSampled}
use Rattle.ept_query.specs.declared.query_error.QueryFile.TheVariants as file
use Rattle.ept_query.specs.declared.query_error.QueryError.{QueryError}
use Rattle.ept_query.specs.declared.query_error.QueryError.TheVariants.{NotComplete, StoreFault, Damaged, SinkFault, Memory}
use Rattle.ept_filter.specs.declared.sift.Sift.{Sift}
use Rattle.ept_filter.specs.Sifting.{passes}
use Rattle.ept_save.specs.Complete.{IsComplete}
use Rattle.ept_query.specs.Causes.{IsStores}
use Rattle.ept_query.specs.Rows.{Row, rows_of, is_asked, asked_rows, asked_points}
use Rattle.ept_query.specs.Search.{search_of}
use Rattle.ept_query.specs.Plan.{IsPlanned, IsPlan}
use Rattle.ept_query.specs.Parts.{Plan, IsPart, points_of}
use Rattle.ept_query.specs.Planning.{IsPlanFor}
use Rattle.ept_query.specs.Refusals.{RefusesPlan, RefusesQuery, CallsOfQuery}
use Rattle.ept_query.specs.Kept.{kept_bytes, kept_count}
use Rattle.ept_query.specs.Answers.{Selects, Stops, LeavesSelection}
use Rattle.ept_query.specs.Complete.{IsWholePlan, IsDevices, AnswersWhole, SelectsWhole}
use Rattle.ept_query.proofs.Told.{told}
use Rattle.ept_query.proofs.Querying.{plan-query}
use Rattle.ept_query.proofs.Calling.{refusal-called}
use Rattle.ept_query.proofs.Laid.{IsLaid, size-at, each-laid, planned-laid, laid-planned, tile-laid}
use Rattle.ept_query.proofs.Asked.{parts-whole, parts-front}
use Rattle.ept_query.proofs.Written.{kept-append}
use Rattle.ept_query.proofs.FewPoints.{few-of-inputs, length-filter_le}
use Rattle.ept_query.proofs.Completing.{output-laid}

-- ---- prefixes of bytes

prefix-none : (old : Option (List ℕ)) (bytes : List ℕ) → AppendsPrefix old old bytes
prefix-none old bytes = (0, omega arith, appends_none old)

prefix-more : (old new : Option (List ℕ)) (first second : List ℕ) → AppendsPrefix old new first → AppendsPrefix old new (first ++ second)
prefix-more old new first second some = (
  some.0,
  (let size = length-append first second in let short = some.1 in omega (arith, size, short)),
  subst (λ (w : List ℕ). Appends old new w) (sym (take-append-le some.0 first second some.1)) some.2,
)

count-le : (sift : Option Sift) (ps : List Point) → kept_count sift ps ≤ length ps
count-le None ps = omega arith
count-le (Some sift) ps = length-filter_le (passes sift) ps

length-rows : (tiles : List Tile) → length (rows_of tiles) ≡ length (flat_map (λ (t : Tile). t.points) tiles)
length-rows [] = refl
length-rows (t ∷ tiles) =
    length-append (map (λ (p : Point). let r : Row = (t.key, p) in r) t.points) (rows_of tiles)
    ∙ (ap (λ (n : ℕ). n + length (rows_of tiles)) (length-map t.points (λ (p : Point). let r : Row = (t.key, p) in r))
    ∙ (ap (λ (n : ℕ). length t.points + n) (length-rows tiles) ∙ sym (length-append t.points (flat_map (λ (u : Tile). u.points) tiles))))

-- ---- a folder with the output

module _ (read-back : FilesAreReadBack) (can-sample : PointsCanBeSampled) (kept : Kept) (points : List Point) (area : Box3) (first last : ℕ) (all : Files) (whole : IsComplete kept points all) where
  laid : IsLaid kept points all
  laid = output-laid read-back can-sample kept points all whole.output whole.is_output whole.there whole.points_are.ascend whole.points_are.inside (few-of-inputs kept points whole.points_are)

  uncalled : (error : QueryError) → CallsOfQuery area first last error all → ⊥
  uncalled NotComplete called = called whole.done
  uncalled StoreFault called = called
  uncalled (Damaged file.BuildJson) called = called.1 kept laid.built
  uncalled (Damaged (file.Hierarchy key)) called =
      let x = called.1.1 kept laid.built in let there = each-laid kept points all area first last laid key x.needed in x.damaged there.0 there.1
  uncalled (Damaged (file.Tile key)) called =
      let x = called.1.1 kept laid.built in x.damaged (sampling (rules_of kept) points key) (tile-laid kept points all area first last laid key x.count x.planned)
  uncalled SinkFault called = called
  uncalled Memory called = called

  by-device : (files : Option Files) → files ≡ Some all → (error : QueryError) → RefusesQuery area first last files error → IsDevices error
  by-device files is error refused = ⊎_elim (λ (c : CallsOfQuery area first last error all). absurd (uncalled error c)) (λ (d : IsDevices error). d) (refusal-called area first last files all is error refused)

  -- ---- the plan

  pub plan-tiles : (tiles : List Node) → IsPlan (search_of kept area first last) all tiles → IsWholePlan kept points area first last tiles
  unfolding size-at
  plan-tiles tiles plan = record {
    ascend = plan.ascend;
    each = λ key count. (
      (λ has. (
          let planned = (plan.each key count).0 has in
          let is = planned-laid kept points all area first last laid key count planned in
          (is.0, is.1, planned.has_depth, planned.meets))),
      (λ is. (plan.each key count).1 (subst (λ (n : ℕ). IsPlanned (search_of kept area first last) all key n) (sym is.1) (laid-planned kept points all area first last laid key is.0 is.2 is.3))),
    );
  }

  of-store : (files : Option Files) (error : QueryError) → RefusesPlan area first last files error → IsDevices error → IsStores error
  of-store files NotComplete refused device = absurd device
  of-store files StoreFault refused device = inl refl
  of-store files (Damaged found) refused device = absurd device
  of-store files SinkFault refused device = absurd refused
  of-store files Memory refused device = inr refl

  pub plan-whole : (files : Option Files) → files ≡ Some all → (r : Result Plan QueryError) → IfOk r (λ plan. Tells (IsPlanFor area first last plan) files) → IfErr r (RefusesPlan area first last files) → IfOk r (λ plan. IsWholePlan kept points area first last plan.tiles) × IfErr r IsStores
  plan-whole files is (Ok plan) made refused = (plan-tiles plan.tiles ((told (IsPlanFor area first last plan) files all is made).tiles kept laid.built), tt)
  plan-whole files is (Err error) made refused = (tt, of-store files error refused (by-device files is error (plan-query area first last files error refused)))

  -- ---- the result

  few : length (asked_rows kept points area first last) < 2 ^ 63
  few =
      let some = length-filter_le (is_asked area first last) (rows_of (sampled (rules_of kept) points)) in
      let rows = length-rows (sampled (rules_of kept) points) in
      let same = length_permutation points (flat_map (λ (t : Tile). t.points) (sampled (rules_of kept) points)) (IsPermutation-sampled (rules_of kept) points laid.can.cube laid.can.inside laid.can.distinct) in
      let most = few-of-inputs kept points whole.points_are in
      omega (arith, some, rows, same, most)

  -- what is kept of the points that are asked for
  asked : List Point
  asked = asked_points kept points area first last

  module _ (sift : Option Sift) where
    front-of : (old new : Option (List ℕ)) → Stops sift area first last old new all → AppendsPrefix old new (kept_bytes sift asked)
    unfolding asked
    front-of old new s =
        let read : AllZip (IsPart all area) s.writes.front s.writes.parts = subst (λ (b : Box3). AllZip (IsPart all b) s.writes.front s.writes.parts) s.area_is s.writes.read in
        let front = parts-front kept points all area first last laid s.plan.tiles (s.is_plan.tiles kept laid.built) s.writes.front s.writes.back s.writes.parts s.writes.split read in
        let bytes : kept_bytes sift (asked_points kept points area first last) ≡ kept_bytes sift (points_of s.writes.parts) ++ kept_bytes sift front.0 = ap (kept_bytes sift) front.1 ∙ kept-append sift (points_of s.writes.parts) front.0 in
        subst (λ (w : List ℕ). AppendsPrefix old new w) (sym bytes) (prefix-more old new (kept_bytes sift (points_of s.writes.parts)) (kept_bytes sift front.0) s.writes.written)

    none-or-front : (files : Option Files) → files ≡ Some all → (old new : Option (List ℕ)) → (new ≡ old) ⊎ Tells (Stops sift area first last old new) files → AppendsPrefix old new (kept_bytes sift asked)
    none-or-front files is old new (inl same) = subst (λ (w : Option (List ℕ)). AppendsPrefix old w (kept_bytes sift asked)) (sym same) (prefix-none old (kept_bytes sift asked))
    none-or-front files is old new (inr stops) = front-of old new (told (Stops sift area first last old new) files all is stops)

    left-front : (files : Option Files) → files ≡ Some all → (old new : Option (List ℕ)) (error : QueryError) → IsDevices error → LeavesSelection sift area first last files old new error → AppendsPrefix old new (kept_bytes sift asked)
    left-front files is old new NotComplete device left = absurd device
    left-front files is old new StoreFault device left = none-or-front files is old new left
    left-front files is old new (Damaged found) device left = absurd device
    left-front files is old new SinkFault device left = none-or-front files is old new (inr left)
    left-front files is old new Memory device left = none-or-front files is old new left

    fewer-kept : kept_count sift asked ≤ length asked
    fewer-kept = count-le sift asked

    all-kept : (files : Option Files) → files ≡ Some all → (old new : Option (List ℕ)) (count : ℕ) → Tells (Selects sift area first last old new count) files → Appends old new (kept_bytes sift asked) × (count ≡ kept_count sift asked)
    unfolding asked
    all-kept files is old new count answered =
        let a = told (Selects sift area first last old new count) files all is answered in
        let read : AllZip (IsPart all area) a.plan.tiles a.writes.parts = subst (λ (b : Box3). AllZip (IsPart all b) a.plan.tiles a.writes.parts) a.area_is a.writes.read in
        let rows = parts-whole kept points all area first last laid a.plan.tiles (a.is_plan.tiles kept laid.built) a.writes.parts read in
        let size : kept_count sift (points_of a.writes.parts) ≡ kept_count sift (asked_points kept points area first last) = ap (kept_count sift) rows in
        let counted = a.writes.counted in
        let fewer = count-le sift (asked_points kept points area first last) in
        let rows_are = length-map (asked_rows kept points area first last) (λ (row : Row). row.1) in
        let most = few in
        (subst (λ (w : List Point). Appends old new (kept_bytes sift w)) rows a.writes.written, omega (arith, size, counted, fewer, rows_are, most))

  pub answers-whole : (files : Option Files) → files ≡ Some all → (old new : Option (List ℕ)) (r : Result ℕ QueryError) → IfOk r (λ count. Tells (Selects None area first last old new count) files) → IfErr r (RefusesQuery area first last files) → IfErr r (LeavesSelection None area first last files old new) → AnswersWhole kept points area first last old new r
  unfolding asked
  answers-whole files is old new (Ok count) answered refused left =
      let kept_all = all-kept None files is old new count answered in
      (kept_all.0, kept_all.1 ∙ length-map (asked_rows kept points area first last) (λ (row : Row). row.1))
  answers-whole files is old new (Err error) answered refused left =
      let device = by-device files is error refused in (left-front None files is old new error device left, device)

  pub selects-whole : (sift : Sift) (files : Option Files) → files ≡ Some all → (old new : Option (List ℕ)) (r : Result ℕ QueryError) → IfOk r (λ count. Tells (Selects (Some sift) area first last old new count) files) → IfErr r (RefusesQuery area first last files) → IfErr r (LeavesSelection (Some sift) area first last files old new) → SelectsWhole sift kept points area first last old new r
  unfolding asked
  selects-whole sift files is old new (Ok count) answered refused left = all-kept (Some sift) files is old new count answered
  selects-whole sift files is old new (Err error) answered refused left =
      let device = by-device files is error refused in (left-front (Some sift) files is old new error device left, device)
