-- Bounds that no configuration states: they are the extent of the points, and stay it when inputs are added.
use Rattle.std.proofs.Common.{◌≡◌, ◌∙◌, ℕ, List, ◌++◌, length, take, drop, Option, Some, None, sym, ap, subst}
use Rattle.std.specs.Prelude.{ℤ, ⊤, All, Any}
use Rattle.std.proofs.lemmas.List.{take-append-drop}
use Rattle.std.proofs.lemmas.List.Elements.{All-weaker, Contains-append_left}
use Rattle.ept_base.specs.Files.{Files}
use Rattle.ept_point.specs.declared.point.Point.{Point}
use Rattle.ept_space.specs.declared.bounds.Bounds.{Bounds}
use Rattle.ept_space.specs.Place.{coordinate}
use Rattle.ept_space.specs.ClosedBox.{IsBetween}
use Rattle.ept_config.specs.declared.config.Config.{Config}
use Rattle.ept_config.specs.declared.input.Input.{Input}
use Rattle.ept_config.specs.declared.kept.Kept.{Kept}
use Rattle.ept_config.specs.Counts.{total}
use Rattle.ept_config.specs.Extents.{IsWithin, IsSpanOf, IsExtentOf}
use Rattle.ept_scan.specs.declared.scan_done.ScanDone.{ScanDone}
use Rattle.ept_scan.specs.Laws.{ScanInOneWay, ScanIsKept, ScanLiesWithin, ScanFront}
use Rattle.ept_scan.specs.Scans.{AreBounds, IsScan}
use Rattle.ept_ckpt.specs.declared.letter.Letter.{Letter}
use Rattle.ept_ckpt.specs.declared.checkpoint.Checkpoint.{Checkpoint}
use Rattle.ept_save.specs.Current.{Current, HasCurrent}
use Rattle.ept_save.specs.Sound.{HasPointsOf, IsSoundFor, IsSound}
use Rattle.ept_save.specs.SoundLaws.{CurrentIsOne, HaveSameInputs}
use Rattle.ept_plan.specs.Plans.{GoesOn}
use Rattle.ept_plan.proofs.Fields.{scale-kept, inputs-kept}
use Rattle.ept_build.specs.Building.{HasPoints}
use Rattle.ept_build.specs.Reached.{HasTurned}
use Rattle.ept_build.proofs.TakenUp.{points-on}
use Rattle.ept_history.proofs.Scanning.{scan-there, points-alike}

-- ---- more points within the extent of the first ones

any-longer : (P : Point → Type 0) (first more : List Point) → Any P first → Any P (first ++ more)
any-longer P first more (k, p, lt, is, holds) = let at = Contains-append_left first more p (k, lt, is) in (at.0, p, at.1, at.2, holds)

span-longer : (axis : Point → ℤ) (first more : List Point) (least greatest : ℤ) → IsSpanOf axis first least greatest → All (λ p. IsBetween least greatest (axis p)) (first ++ more) → IsSpanOf axis (first ++ more) least greatest
span-longer axis first more least greatest span within = record {
  within = within;
  least_is = any-longer (λ p. axis p ≡ least) first more span.least_is;
  greatest_is = any-longer (λ p. axis p ≡ greatest) first more span.greatest_is;
}

extent-longer : (bounds : Bounds) (first more : List Point) → IsExtentOf first bounds → All (IsWithin bounds) (first ++ more) → IsExtentOf (first ++ more) bounds
extent-longer bounds first more is within = record {
  x = span-longer (λ p. p.x) first more (coordinate bounds.min 0) (coordinate bounds.max 0) is.x (All-weaker (IsWithin bounds) (λ p. IsBetween (coordinate bounds.min 0) (coordinate bounds.max 0) p.x) (λ p lies. lies.x) (first ++ more) within);
  y = span-longer (λ p. p.y) first more (coordinate bounds.min 1) (coordinate bounds.max 1) is.y (All-weaker (IsWithin bounds) (λ p. IsBetween (coordinate bounds.min 1) (coordinate bounds.max 1) p.y) (λ p lies. lies.y) (first ++ more) within);
  z = span-longer (λ p. p.z) first more (coordinate bounds.min 2) (coordinate bounds.max 2) is.z (All-weaker (IsWithin bounds) (λ p. IsBetween (coordinate bounds.min 2) (coordinate bounds.max 2) p.z) (λ p lies. lies.z) (first ++ more) within);
}

-- ---- the bounds of a checkpoint

-- they are the extent of its points
abbrev pub KeepsExtent : Files → Current → Type 0
KeepsExtent shelf None = ⊤
KeepsExtent shelf (Some (letter, c)) = (points : List Point) × HasPointsOf shelf c points × IsExtentOf points c.kept.bounds

-- and so they are on each shelf with the same inputs
pub extent-there : (one two : Files) (current : Current) → HaveSameInputs one two current → KeepsExtent one current → KeepsExtent two current
extent-there one two None same keeps = tt
extent-there one two (Some (letter, c)) same keeps =
    (keeps.0, scan-there one two c.kept.scale (Some c.kept.bounds) c.kept.inputs same 0 keeps.0 _ keeps.1, keeps.2)

-- and those of a checkpoint that is taken up
pub extent-turned : (shelf : Files) (from base : Current) → HasTurned from base → KeepsExtent shelf from → KeepsExtent shelf base
extent-turned shelf from base t keeps =
    let its : KeepsExtent shelf (Some (t.letter, t.c)) = subst (KeepsExtent shelf) t.was keeps in
    subst (KeepsExtent shelf) (sym t.is)
    (its.0, points-on shelf t.c t.next its.0 t.turns its.1, subst (λ (k : Kept). IsExtentOf its.0 k.bounds) (sym t.turns.kept_is) its.2)

module _ (once : ScanInOneWay) (kept_law : ScanIsKept) (placed : ScanLiesWithin) (front : ScanFront) where
  -- if the configuration continues from it, they are the extent of all points
  all-extent : (shelf : Files) (config : Config) (letter : Letter) (c : Checkpoint) → GoesOn config (Some (letter, c)) → KeepsExtent shelf (Some (letter, c)) → (points : List Point) (done : ScanDone) → IsScan shelf config.scale (Some c.kept.bounds) config.inputs 0 points done → IsExtentOf points c.kept.bounds
  all-extent shelf config letter c goes keeps points done scan =
      let bounds : Bounds = c.kept.bounds in
      let own : List Point = keeps.0 in
      let added = inputs-kept config c.kept goes.0 goes.1 goes.2 in
      let n : ℕ = total (take (length c.kept.inputs) done.counts) in
      let first = front shelf config.scale bounds c.kept.inputs added.0 points done (subst (λ (w : List Input). IsScan shelf config.scale (Some bounds) w 0 points done) added.1 scan) in
      let mine = subst (λ (k : ℕ). IsScan shelf k (Some bounds) c.kept.inputs 0 own (record { counts = c.counts; bounds = bounds })) (scale-kept config c.kept goes.0 goes.1 goes.2) keeps.1 in
      let same : take n points ≡ own = once shelf config.scale (Some bounds) c.kept.inputs 0 (take n points) own _ _ first mine in
      let whole : own ++ drop n points ≡ points = ap (λ (w : List Point). w ++ drop n points) (sym same) ∙ take-append-drop n points in
      let within : All (IsWithin bounds) points = subst (λ (b : Bounds). All (IsWithin b) points) scan.bounds_are (placed shelf config.scale (Some bounds) config.inputs 0 points done scan) in
      subst (λ (w : List Point). IsExtentOf w bounds) whole (extent-longer bounds own (drop n points) keeps.2 (subst (λ (w : List Point). All (IsWithin bounds) w) (sym whole) within))

  -- a build without stated bounds has the extent of its points
  pub build-extent : (shelf : Files) (config : Config) (current : Current) (kept : Kept) (points : List Point) → config.bounds ≡ None → GoesOn config current → KeepsExtent shelf current → (has : HasPoints shelf config current kept points) → IsExtentOf points has.done.bounds
  build-extent shelf config None kept points none goes keeps has = subst (λ (o : Option Bounds). AreBounds o points has.done.bounds) none has.scan.bounds_are
  build-extent shelf config (Some (letter, c)) kept points none goes keeps has =
      subst (λ (b : Bounds). IsExtentOf points b) (sym has.scan.bounds_are) (all-extent shelf config letter c goes keeps points has.done has.scan)

  -- and so has the checkpoint that it makes
  pub next-extent : CurrentIsOne → (shelf left : Files) (config : Config) (current : Current) (kept : Kept) (points : List Point) (letter : Letter) (c : Checkpoint) → config.bounds ≡ None → GoesOn config current → KeepsExtent shelf current → HasPoints shelf config current kept points → IsSound shelf left → HasCurrent (Some (letter, c)) left → c.kept ≡ kept → KeepsExtent shelf (Some (letter, c))
  next-extent one shelf left config current kept points letter c none goes keeps has sound is_now same =
      let its : IsSoundFor shelf left (Some (letter, c)) = subst (IsSoundFor shelf left) (one left sound.current (Some (letter, c)) sound.has_current is_now) sound.sound in
      let alike : points ≡ its.0 = points-alike once kept_law shelf config current kept points has c same its.0 its.1.scan in
      let bounds : has.done.bounds ≡ c.kept.bounds = sym has.kept_is.bounds_is ∙ ap (λ (k : Kept). k.bounds) (sym same) in
      let extent : IsExtentOf points c.kept.bounds = subst (λ (b : Bounds). IsExtentOf points b) bounds (build-extent shelf config current kept points none goes keeps has) in
      (its.0, its.1.scan, subst (λ (w : List Point). IsExtentOf w c.kept.bounds) alike extent)
