-- Each refusal of a part is exact: there is one cause, and none where the inputs are accepted.
use Rattle.std.proofs.Common.{◌≡◌, ◌∙◌, ◌⊎◌, inl, inr, ℕ, ◌<◌, List, refl, sym, ap, subst, arith, length, Option, Some, None}
use Rattle.std.specs.Prelude.{Result, Ok, Err, IsOk}
use Rattle.std.proofs.lemmas.List.{length-map}
use Rattle.ept_base.specs.Files.{Files, Tells}
use Rattle.ept_point.specs.declared.point.Point.{Point}
use Rattle.ept_sample.specs.declared.tiles.Tile.{Tile}
use Rattle.ept_config.specs.declared.config.Config.{Config}
use Rattle.ept_config.specs.declared.kept.Kept.{Kept}
use Rattle.ept_scan.specs.declared.scan_error.ScanError.{ScanError}
use Rattle.ept_scan.specs.declared.scan_error.ScanError.TheVariants as scan
use Rattle.ept_scan.specs.Scans.{Blames}
use Rattle.ept_scan.proofs.OneScan.{scan_or_refusal}
use Rattle.ept_scan.proofs.OneRefusal.{one_refusal}
use Rattle.ept_table.specs.Octree.{tile_of}
use Rattle.ept_tree.specs.Grown.{nodes_of}
use Rattle.ept_part.specs.declared.error.PartError.{PartError}
use Rattle.ept_part.specs.declared.error.PartError.TheVariants.{SourceFault, BadLas, OutOfBounds, TooManyPoints, NoBounds, Shallow, SourceChanged, TooManyNodes, StoreFault, Memory}
use Rattle.ept_part.specs.declared.making.Ready.{Ready}
use Rattle.ept_part.specs.Errors.{of_scan, IsStores}
use Rattle.ept_part.specs.Scanned.{AreRefused, found_by}
use Rattle.ept_part.specs.Making.{IsReady, IsPartOf, HasInputs, depth_of, node_count, OfInputs, IsAccepted, IsRefused, IsDefinite, Fails}
use Rattle.ept_part.proofs.Once.{depth-once, count-once}

-- ---- what a refusal is

module _ (all : Files) (config : Config) (octants : ℕ) where
  -- the root has no octants, or the part has too many nodes
  abbrev IsFlat : Type 0
  IsFlat = OfInputs all config (λ kept points. depth_of kept ≡ 0)

  abbrev HasMany : Type 0
  HasMany = OfInputs all config (λ kept points. (0 < depth_of kept) × (config.max_nodes < node_count octants kept points))

  -- a fault or out of memory, a refusal of the scan, or one of these two
  data Kind (e : PartError) : Type 1 where
    of_fault : ¬ IsDefinite e → Kind e
    of_inputs : (f : ScanError) → e ≡ of_scan f → ((P : Type 0) → Blames f P → P) → AreRefused all config f → Kind e
    of_flat : e ≡ Shallow → IsFlat → Kind e
    of_many : e ≡ TooManyNodes → HasMany → Kind e

  kind_of : (e : PartError) → IsRefused all config octants e → Kind e
  kind_of SourceFault refused = of_fault (λ is. is.no_source refl)
  kind_of StoreFault refused = of_fault (λ is. is.no_store refl)
  kind_of Memory refused = of_fault (λ is. is.no_memory refl)
  kind_of (BadLas source fault) refused = of_inputs (scan.BadLas source fault) refl (λ P p. p) refused
  kind_of (OutOfBounds source number) refused = of_inputs (scan.OutOfBounds source number) refl (λ P p. p) refused
  kind_of (TooManyPoints source) refused = of_inputs (scan.TooManyPoints source) refl (λ P p. p) refused
  kind_of NoBounds refused = of_inputs scan.NoBounds refl (λ P p. p) refused
  kind_of Shallow refused = of_flat refl refused
  kind_of (SourceChanged source number) refused = absurd refused
  kind_of TooManyNodes refused = of_many refl refused

  -- inputs that have points are not refused
  not-inputs : (f : ScanError) → ((P : Type 0) → Blames f P → P) → AreRefused all config f → (kept : Kept) (points : List Point) → HasInputs all config kept points → ⊥
  not-inputs f blamed refused kept points has =
      blamed ⊥ (scan_or_refusal all config.scale config.bounds config.inputs 0 points has.done f has.scan refused)

  flat-many : IsFlat → HasMany → ⊥
  flat-many flat many =
      omega (arith, flat.3, many.3.0, depth-once all config flat.0 many.0 flat.1 many.1 flat.2 many.2)

  -- ---- there is one cause

  one-cause : (e f : PartError) → IsDefinite e → IsDefinite f → IsRefused all config octants e → IsRefused all config octants f → e ≡ f
  one-cause e f sure sure' is is' =
      elim (kind_of e is) [
        | of_fault none ↦ absurd (none sure)
        | of_inputs s same blamed refused ↦ elim (kind_of f is') [
          | of_fault none ↦ absurd (none sure')
          | of_inputs s' same' blamed' refused' ↦
              let one : s ≡ s' = blamed' (s ≡ s') (blamed (Blames s' (s ≡ s')) (one_refusal all config.scale config.bounds config.inputs 0 s s' refused refused')) in
              same ∙ (ap (λ (x : ScanError). of_scan x) one ∙ sym same')
          | of_flat same' flat ↦ absurd (not-inputs s blamed refused flat.0 flat.1 flat.2)
          | of_many same' many ↦ absurd (not-inputs s blamed refused many.0 many.1 many.2)
        ]
        | of_flat same flat ↦ elim (kind_of f is') [
          | of_fault none ↦ absurd (none sure')
          | of_inputs s' same' blamed' refused' ↦ absurd (not-inputs s' blamed' refused' flat.0 flat.1 flat.2)
          | of_flat same' flat' ↦ same ∙ sym same'
          | of_many same' many ↦ absurd (flat-many flat many)
        ]
        | of_many same many ↦ elim (kind_of f is') [
          | of_fault none ↦ absurd (none sure')
          | of_inputs s' same' blamed' refused' ↦ absurd (not-inputs s' blamed' refused' many.0 many.1 many.2)
          | of_flat same' flat ↦ absurd (flat-many flat many)
          | of_many same' many' ↦ same ∙ sym same'
        ]
      ]

  -- and none where the inputs are accepted
  no-cause : (e : PartError) → IsDefinite e → IsRefused all config octants e → IsAccepted all config octants → ⊥
  no-cause e sure is fine =
      elim (kind_of e is) [
        | of_fault none ↦ none sure
        | of_inputs s same blamed refused ↦ not-inputs s blamed refused fine.0 fine.1 fine.2
        | of_flat same flat ↦ omega (arith, flat.3, fine.3.0, depth-once all config flat.0 fine.0 flat.1 fine.1 flat.2 fine.2)
        | of_many same many ↦ omega (arith, many.3.1, fine.3.1, count-once all config many.0 fine.0 many.1 fine.1 many.2 fine.2 octants)
      ]

  -- ---- a part that is ready

  pub ready-accepted : (ready : Ready) → IsReady config ready → (part : (points : List Point) × IsPartOf all config octants ready points) → IsAccepted all config octants
  ready-accepted ready is part =
      let kept = ready.checkpoint.kept in
      let number : length (nodes_of ready.tree) ≡ node_count octants kept part.0 = sym (length-map (nodes_of ready.tree) tile_of) ∙ ap (λ (ts : List Tile). length ts) part.1.sampled.tiles in
      (kept, part.0, record { done = found_by ready.checkpoint; scan = part.1.scanned; kept_is = is.kept_is }, (is.deep, omega (arith, number, is.few)))

-- a refusal lies in the inputs, or the result fails
sure_or : {T : Type 0} (r : Result T PartError) (e : PartError) → r ≡ Err e → Fails r ⊎ IsDefinite e
sure_or r SourceFault is = inl (inl is)
sure_or r StoreFault is = inl (inr (inl is))
sure_or r Memory is = inl (inr (inr is))
sure_or r (BadLas source fault) is = inr (record { no_source = λ same. cc; no_store = λ same. cc; no_memory = λ same. cc })
sure_or r (OutOfBounds source number) is = inr (record { no_source = λ same. cc; no_store = λ same. cc; no_memory = λ same. cc })
sure_or r (TooManyPoints source) is = inr (record { no_source = λ same. cc; no_store = λ same. cc; no_memory = λ same. cc })
sure_or r NoBounds is = inr (record { no_source = λ same. cc; no_store = λ same. cc; no_memory = λ same. cc })
sure_or r Shallow is = inr (record { no_source = λ same. cc; no_store = λ same. cc; no_memory = λ same. cc })
sure_or r (SourceChanged source number) is = inr (record { no_source = λ same. cc; no_store = λ same. cc; no_memory = λ same. cc })
sure_or r TooManyNodes is = inr (record { no_source = λ same. cc; no_store = λ same. cc; no_memory = λ same. cc })

-- ---- what a result says of each cause

module _ {T : Type 0} (config : Config) (octants : ℕ) (r : Result T PartError) where
  -- where there is a cause that lies in the inputs, it is the refusal
  abbrev pub Comes : Files → Type 0
  Comes all = (e : PartError) → IsDefinite e → IsRefused all config octants e → (r ≡ Err e) ⊎ Fails r

  -- where the inputs are accepted, there is none
  abbrev pub Accepts : Files → Type 0
  Accepts all = IsAccepted all config octants → IsOk r ⊎ Fails r

  pub err-comes : (e : PartError) → r ≡ Err e → (files : Option Files) → Tells (λ all. IsRefused all config octants e) files → Tells Comes files
  err-comes e is None refused = tt
  err-comes e is (Some all) refused = λ f sure its. elim (sure_or r e is) [
    | inl fails ↦ inr fails
    | inr here ↦ inl (is ∙ ap (λ (x : PartError). Err x) (one-cause all config octants e f here sure refused its))
  ]

  pub err-accepts : (e : PartError) → r ≡ Err e → (files : Option Files) → Tells (λ all. IsRefused all config octants e) files → Tells Accepts files
  err-accepts e is None refused = tt
  err-accepts e is (Some all) refused = λ fine. elim (sure_or r e is) [
    | inl fails ↦ inr fails
    | inr here ↦ absurd (no-cause all config octants e here refused fine)
  ]

  pub fails-comes : (e : PartError) → r ≡ Err e → IsStores e → (files : Option Files) → Tells Comes files
  fails-comes e is only None = tt
  fails-comes e is (inl same) (Some all) = λ f sure its. inr (inr (inl (is ∙ ap (λ (x : PartError). Err x) same)))
  fails-comes e is (inr same) (Some all) = λ f sure its. inr (inr (inr (is ∙ ap (λ (x : PartError). Err x) same)))

  pub fails-accepts : (e : PartError) → r ≡ Err e → IsStores e → (files : Option Files) → Tells Accepts files
  fails-accepts e is only None = tt
  fails-accepts e is (inl same) (Some all) = λ fine. inr (inr (inl (is ∙ ap (λ (x : PartError). Err x) same)))
  fails-accepts e is (inr same) (Some all) = λ fine. inr (inr (inr (is ∙ ap (λ (x : PartError). Err x) same)))

  pub ok-comes : (ready : Ready) → IsReady config ready → (files : Option Files) → Tells (λ all. (points : List Point) × IsPartOf all config octants ready points) files → Tells Comes files
  ok-comes ready is None part = tt
  ok-comes ready is (Some all) part = λ f sure its. absurd (no-cause all config octants f sure its (ready-accepted all config octants ready is part))

  pub ok-accepts : (done : T) → r ≡ Ok done → (files : Option Files) → Tells Accepts files
  ok-accepts done is None = tt
  ok-accepts done is (Some all) = λ fine. inl (subst (λ (x : Result T PartError). IsOk x) (sym is) refl)
