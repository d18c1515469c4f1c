-- There is one verdict on parts: they are merged, or refused for one cause.
use Rattle.std.proofs.Common.{◌≡◌, ◌∙◌, ◌⊎◌, inl, inr, ℕ, ◌<◌, ◌≤◌, List, [], ◌∷◌, ◌++◌, refl, sym, ap, subst, arith, length, length-append, Some, None}
use Rattle.std.specs.Prelude.{Result, Ok, Err, IsOk}
use Rattle.std.specs.List.{AllZip}
use Rattle.ept_base.specs.Files.{Files}
use Rattle.ept_point.specs.declared.point.Point.{Point}
use Rattle.ept_space.specs.VoxelKey.{VoxelKey}
use Rattle.ept_sample.specs.Members.{IsMember}
use Rattle.ept_config.specs.declared.config.Config.{Config}
use Rattle.ept_scan.specs.declared.scan_done.ScanDone.{ScanDone}
use Rattle.ept_scan.specs.declared.scan_error.ScanError.{ScanError}
use Rattle.ept_scan.specs.declared.scan_error.ScanError.TheVariants as scan
use Rattle.ept_scan.specs.Scans.{Blames}
use Rattle.ept_scan.proofs.OneScan.{scan_or_refusal}
use Rattle.ept_scan.proofs.OneRefusal.{one_refusal}
use Rattle.ept_ckpt.specs.declared.letter.Letter.{Letter}
use Rattle.ept_ckpt.specs.declared.letter.Letter.TheVariants.{A, B}
use Rattle.ept_ckpt.specs.declared.node_line.NodeLine.{NodeLine}
use Rattle.ept_ckpt.specs.declared.checkpoint.Checkpoint.{Checkpoint}
use Rattle.ept_ckpt.specs.Body.{body}
use Rattle.ept_ckpt.specs.Facts.{facts}
use Rattle.ept_ckpt.specs.Laws.{BodyOnce}
use Rattle.ept_save.specs.Gates.{IsOpen}
use Rattle.ept_save.specs.Current.{Current, HasCurrent}
use Rattle.ept_save.specs.Opening.{IsBad}
use Rattle.ept_save.specs.SoundLaws.{CurrentIsOne, CurrentIsNotBad}
use Rattle.ept_part.specs.Names.{part_gate}
use Rattle.ept_part.specs.Scanned.{AreRefused, rules_by}
use Rattle.ept_merge.specs.declared.error.MergeError.{MergeError}
use Rattle.ept_merge.specs.declared.error.MergeError.TheVariants.{StoreFault, BadCheckpoint, HasCheckpoint, SourceFault, BadLas, OutOfBounds, TooManyPoints, NoBounds, Shallow, NoPart, PartDiffers, PartDamaged, TooManyNodes, Memory}
use Rattle.ept_merge.specs.Errors.{of_scan}
use Rattle.ept_merge.specs.Merging.{HasBody, IsOfScan, IsBroken, IsPartOfScan, DiffersFromScan, IsTileDamaged, HaveBodies, IsFirst, IsLast, AreTogether, IsIntact, nodes_together, IsBegun, WereMerged, IsRefused, IsDefinite, Fails, Reports}
use Rattle.ept_merge.proofs.Once.{IsFound, points-once, found-once}

abbrev pub Outcome : Type 0
Outcome = Result (Unit {0}) MergeError

-- ---- two results that say the same

-- both are a success, or the second reports what the first does
abbrev Agrees : Outcome → Outcome → Type 0
Agrees (Ok u) r = IsOk r
Agrees (Err e) r = Reports e r

reports-itself : (e : MergeError) → Reports {T = Unit {0}} e (Err e)
reports-itself StoreFault = refl
reports-itself (BadCheckpoint letter) = refl
reports-itself (HasCheckpoint generation) = refl
reports-itself SourceFault = refl
reports-itself (BadLas source fault) = refl
reports-itself (OutOfBounds source number) = refl
reports-itself (TooManyPoints source) = refl
reports-itself NoBounds = refl
reports-itself Shallow = refl
reports-itself (NoPart octants) = refl
reports-itself (PartDiffers octants) = refl
reports-itself (PartDamaged octants None) = refl
reports-itself (PartDamaged octants (Some key)) = (octants, key, refl)
reports-itself TooManyNodes = refl
reports-itself Memory = refl

both-err : (v w : Outcome) (e f : MergeError) → v ≡ Err e → w ≡ Err f → e ≡ f → Agrees v w
both-err v w e f is also same =
    subst (λ (x : Outcome). Agrees x w) (sym is)
    (subst (λ (x : Outcome). Agrees (Err e) x) (sym (also ∙ ap (λ (x : MergeError). Err x) (sym same))) (reports-itself e))

both-damaged : (v w : Outcome) (o p : ℕ) (k l : VoxelKey) → v ≡ Err (PartDamaged o (Some k)) → w ≡ Err (PartDamaged p (Some l)) → Agrees v w
both-damaged v w o p k l is also = subst (λ (x : Outcome). Agrees x w) (sym is) (p, l, also)

both-ok : (v w : Outcome) → v ≡ Ok tt → w ≡ Ok tt → Agrees v w
both-ok v w is also = subst (λ (x : Outcome). Agrees x w) (sym is) (subst (λ (x : Outcome). IsOk x) (sym also) refl)

-- ---- a step of judging

-- it ends with this result, or passes and the rest is judged
abbrev Step : {W : Type 0} → (Outcome → Type 0) → (W → Outcome → Type 0) → Outcome → Type 0
Step {W} ends rest v = ends v ⊎ ((w : W) × rest w v)

-- its results agree if it ends in one way, does not both end and pass, and the rest agrees
step-once : {W : Type 0} (ends : Outcome → Type 0) (rest : W → Outcome → Type 0) → ((v w : Outcome) → ends v → ends w → Agrees v w) → ((v : Outcome) → ends v → W → ⊥) → ((x y : W) (v w : Outcome) → rest x v → rest y w → Agrees v w) → (v w : Outcome) → Step {W = W} ends rest v → Step {W = W} ends rest w → Agrees v w
step-once ends rest one apart both v w (inl a) (inl b) = one v w a b
step-once ends rest one apart both v w (inl a) (inr b) = absurd (apart v a b.0)
step-once ends rest one apart both v w (inr a) (inl b) = absurd (apart w b a.0)
step-once ends rest one apart both v w (inr a) (inr b) = both a.0 b.0 v w a.1 b.1

-- ---- what is known of a refusal of the inputs

-- the refusal is one of a file
abbrev IsOfFile : ScanError → Type 0
IsOfFile f = Blames f ⊥ → ⊥

blamed : (f : ScanError) (P : Type 0) → IsOfFile f → Blames f P → P
blamed scan.SourceFault P of_file fact = absurd (of_file tt)
blamed scan.Memory P of_file fact = absurd (of_file tt)
blamed (scan.BadLas source fault) P of_file fact = fact
blamed (scan.OutOfBounds source number) P of_file fact = fact
blamed (scan.TooManyPoints source) P of_file fact = fact
blamed scan.NoBounds P of_file fact = fact

some-same : (a b : List ℕ) → Some a ≡ Some b → a ≡ b
some-same a b same = cc

last-once : (xs ys : List ℕ) (a b : ℕ) → xs ++ a ∷ [] ≡ ys ++ b ∷ [] → a ≡ b
last-once [] [] a b same = cc
last-once [] (y ∷ ys) a b same = absurd (omega (arith, ap length same, length-append ys (b ∷ [])))
last-once (x ∷ xs) [] a b same = absurd (omega (arith, ap length same, length-append xs (a ∷ [])))
last-once (x ∷ xs) (y ∷ ys) a b same = let rest : xs ++ a ∷ [] ≡ ys ++ b ∷ [] = cc in last-once xs ys a b rest

-- a refusal lies in the inputs or in the folder, or the result fails
sure_or : (r : Outcome) (e : MergeError) → r ≡ Err e → Fails r ⊎ IsDefinite e
sure_or r StoreFault is = inl (inl is)
sure_or r SourceFault is = inl (inr (inl is))
sure_or r Memory is = inl (inr (inr is))
sure_or r (BadCheckpoint letter) is = inr ((λ same. cc), (λ same. cc), (λ same. cc))
sure_or r (HasCheckpoint generation) is = inr ((λ same. cc), (λ same. cc), (λ same. cc))
sure_or r (BadLas source fault) is = inr ((λ same. cc), (λ same. cc), (λ same. cc))
sure_or r (OutOfBounds source number) is = inr ((λ same. cc), (λ same. cc), (λ same. cc))
sure_or r (TooManyPoints source) is = inr ((λ same. cc), (λ same. cc), (λ same. cc))
sure_or r NoBounds is = inr ((λ same. cc), (λ same. cc), (λ same. cc))
sure_or r Shallow is = inr ((λ same. cc), (λ same. cc), (λ same. cc))
sure_or r (NoPart octants) is = inr ((λ same. cc), (λ same. cc), (λ same. cc))
sure_or r (PartDiffers octants) is = inr ((λ same. cc), (λ same. cc), (λ same. cc))
sure_or r (PartDamaged octants key) is = inr ((λ same. cc), (λ same. cc), (λ same. cc))
sure_or r TooManyNodes is = inr ((λ same. cc), (λ same. cc), (λ same. cc))

-- the generation of the current checkpoint
abbrev generation_of : Current → ℕ
generation_of None = 0
generation_of (Some (letter, c)) = c.generation

module _ (once : BodyOnce) (one_current : CurrentIsOne) (not_bad : CurrentIsNotBad) (shelf files : Files) (config : Config) (parts : List ℕ) where
  -- ---- the parts together

  module _ (points : List Point) (done : ScanDone) (bodies : List Checkpoint) where
    -- they have too many nodes, or they are merged
    abbrev EndsWithMany : Outcome → Type 0
    EndsWithMany v = (v ≡ Err TooManyNodes) × (config.max_nodes < nodes_together bodies)

    abbrev OfNodes : Outcome → Type 0
    OfNodes v = Step {W = nodes_together bodies ≤ config.max_nodes} EndsWithMany (λ few r. r ≡ Ok tt) v

    nodes-once : (v w : Outcome) → OfNodes v → OfNodes w → Agrees v w
    nodes-once =
        step-once {W = nodes_together bodies ≤ config.max_nodes} EndsWithMany (λ few r. r ≡ Ok tt) (λ v w a b. both-err v w TooManyNodes TooManyNodes a.0 b.0 refl)
        (λ v a few. omega (arith, a.1, few)) (λ x y v w a b. both-ok v w a b)

    -- a tile is damaged, or none is
    abbrev IsDamagedAt : ℕ → VoxelKey → Type 0
    IsDamagedAt octants key =
        (c : Checkpoint) × (line : NodeLine) × IsPartOfScan files config done octants c × IsMember octants parts × IsMember line c.nodes × (line.key ≡ key) × IsTileDamaged (rules_by config done) files octants line

    abbrev EndsWithTile : Outcome → Type 0
    EndsWithTile v = (octants : ℕ) × (key : VoxelKey) × (v ≡ Err (PartDamaged octants (Some key))) × IsDamagedAt octants key

    abbrev AreAllIntact : Type 0
    AreAllIntact = AllZip (IsIntact (rules_by config done) files) parts bodies

    abbrev OfTilesFound : Outcome → Type 0
    OfTilesFound v = Step {W = AreAllIntact} EndsWithTile (λ intact r. OfNodes r) v

    -- they do not fit together, or they do
    abbrev EndsWithMisfit : Outcome → Type 0
    EndsWithMisfit v = (octants : ℕ) × (v ≡ Err (PartDamaged octants None)) × IsLast parts octants × ¬ AreTogether bodies (length points)

    abbrev OfFit : Outcome → Type 0
    OfFit v = Step {W = AreTogether bodies (length points)} EndsWithMisfit (λ fit r. OfTilesFound r) v

  -- ---- the bodies of the parts

  body-same : (octants : ℕ) (c d : Checkpoint) → HasBody files octants c → HasBody files octants d → c ≡ d
  body-same octants c d has also = once c d (some-same (body (facts c)) (body (facts d)) (sym has.body ∙ also.body))

  module _ (done : ScanDone) where
    abbrev IsPart : ℕ → Checkpoint → Type 0
    IsPart octants c = IsPartOfScan files config done octants c

    -- the part has this fault
    abbrev IsFaulty : ℕ → Outcome → Type 0
    IsFaulty octants v =
        ((v ≡ Err (NoPart octants)) × ¬ IsOpen files (part_gate octants))
        ⊎ ((v ≡ Err (PartDiffers octants)) × DiffersFromScan files config done octants)
        ⊎ ((v ≡ Err (PartDamaged octants None)) × IsBroken files octants)

    faulty-not : (octants : ℕ) (c : Checkpoint) (v : Outcome) → IsPart octants c → IsFaulty octants v → ⊥
    faulty-not octants c v its (inl a) = a.1 its.0.opened
    faulty-not octants c v its (inr (inl a)) =
        a.1.2 (subst (λ (d : Checkpoint). IsOfScan config done d) (body-same octants c a.1.0 its.0 a.1.1) its.1)
    faulty-not octants c v its (inr (inr a)) = a.1.no_body c its.0.newest its.0.body

    faulty-once : (octants : ℕ) (v w : Outcome) → IsFaulty octants v → IsFaulty octants w → Agrees v w
    faulty-once octants v w (inl a) (inl b) = both-err v w (NoPart octants) (NoPart octants) a.0 b.0 refl
    faulty-once octants v w (inl a) (inr (inl b)) = absurd (a.1 b.1.1.opened)
    faulty-once octants v w (inl a) (inr (inr b)) = absurd (a.1 b.1.opened)
    faulty-once octants v w (inr (inl a)) (inl b) = absurd (b.1 a.1.1.opened)
    faulty-once octants v w (inr (inl a)) (inr (inl b)) = both-err v w (PartDiffers octants) (PartDiffers octants) a.0 b.0 refl
    faulty-once octants v w (inr (inl a)) (inr (inr b)) = absurd (b.1.no_body a.1.0 a.1.1.newest a.1.1.body)
    faulty-once octants v w (inr (inr a)) (inl b) = absurd (b.1 a.1.opened)
    faulty-once octants v w (inr (inr a)) (inr (inl b)) = absurd (a.1.no_body b.1.0 b.1.1.newest b.1.1.body)
    faulty-once octants v w (inr (inr a)) (inr (inr b)) = both-err v w (PartDamaged octants None) (PartDamaged octants None) a.0 b.0 refl

    -- the first part that has one
    abbrev IsFirstFaulty : List ℕ → Outcome → Type 0
    IsFirstFaulty [] v = ⊥
    IsFirstFaulty (o ∷ os) v = IsFaulty o v ⊎ ((c : Checkpoint) × IsPart o c × IsFirstFaulty os v)

    first-faulty : (before : List ℕ) (o : ℕ) (later : List ℕ) (bodies : List Checkpoint) (v : Outcome) → HaveBodies files config done before bodies → IsFaulty o v → IsFirstFaulty (before ++ o ∷ later) v
    first-faulty [] o later bodies v have fault = inl fault
    first-faulty (b ∷ before) o later [] v have fault = absurd have
    first-faulty (b ∷ before) o later (c ∷ bodies) v have fault = inr (c, have.0, first-faulty before o later bodies v have.1 fault)

    first-not : (os : List ℕ) (bodies : List Checkpoint) (v : Outcome) → HaveBodies files config done os bodies → IsFirstFaulty os v → ⊥
    first-not [] bodies v have fault = fault
    first-not (o ∷ os) [] v have fault = have
    first-not (o ∷ os) (c ∷ bodies) v have (inl fault) = faulty-not o c v have.0 fault
    first-not (o ∷ os) (c ∷ bodies) v have (inr later) = first-not os bodies v have.1 later.2

    first-once : (os : List ℕ) (v w : Outcome) → IsFirstFaulty os v → IsFirstFaulty os w → Agrees v w
    first-once [] v w a b = absurd a
    first-once (o ∷ os) v w (inl a) (inl b) = faulty-once o v w a b
    first-once (o ∷ os) v w (inl a) (inr b) = absurd (faulty-not o b.0 v b.1 a)
    first-once (o ∷ os) v w (inr a) (inl b) = absurd (faulty-not o a.0 w a.1 b)
    first-once (o ∷ os) v w (inr a) (inr b) = first-once os v w a.2 b.2

    bodies-same : (os : List ℕ) (cs ds : List Checkpoint) → HaveBodies files config done os cs → HaveBodies files config done os ds → cs ≡ ds
    bodies-same [] [] [] have also = refl
    bodies-same [] [] (d ∷ ds) have also = absurd also
    bodies-same [] (c ∷ cs) ds have also = absurd have
    bodies-same (o ∷ os) [] ds have also = absurd have
    bodies-same (o ∷ os) (c ∷ cs) [] have also = absurd also
    bodies-same (o ∷ os) (c ∷ cs) (d ∷ ds) have also =
        let one : c ≡ d = body-same o c d have.0.0 also.0.0 in
        let rest : cs ≡ ds = bodies-same os cs ds have.1 also.1 in
        λ i. one i ∷ rest i

    -- of a part whose tiles are intact none is damaged
    intact-not : (os : List ℕ) (bodies : List Checkpoint) → HaveBodies files config done os bodies → AllZip (IsIntact (rules_by config done) files) os bodies → (o : ℕ) (c : Checkpoint) (line : NodeLine) → IsMember o os → HasBody files o c → IsMember line c.nodes → IsTileDamaged (rules_by config done) files o line → ⊥
    intact-not [] bodies have intact o c line m has among bad = m
    intact-not (p ∷ os) [] have intact o c line m has among bad = have
    intact-not (p ∷ os) (d ∷ bodies) have intact o c line (inl is) has among bad =
        let its : HasBody files o d = subst (λ (q : ℕ). HasBody files q d) is have.0.0 in
        let same : c ≡ d = body-same o c d has its in
        let whole : IsIntact (rules_by config done) files o d = subst (λ (q : ℕ). IsIntact (rules_by config done) files q d) is intact.0 in
        whole line (subst (λ (e : Checkpoint). IsMember line e.nodes) same among) bad
    intact-not (p ∷ os) (d ∷ bodies) have intact o c line (inr m) has among bad = intact-not os bodies have.1 intact.1 o c line m has among bad

    -- ---- so there is one verdict on parts of this scan

    module _ (points : List Point) where
      tiles-once : (bodies : List Checkpoint) → HaveBodies files config done parts bodies → (v w : Outcome) → OfTilesFound points done bodies v → OfTilesFound points done bodies w → Agrees v w
      tiles-once bodies have =
          step-once {W = AreAllIntact points done bodies} (EndsWithTile points done bodies) (λ intact r. OfNodes points done bodies r) (λ v w a b. both-damaged v w a.0 b.0 a.1 b.1 a.2 b.2)
          (λ v a intact. intact-not parts bodies have intact a.0 a.3.0 a.3.1 a.3.3 a.3.2.0 a.3.4 a.3.6)
          (λ x y. nodes-once points done bodies)

      fit-once : (bodies : List Checkpoint) → HaveBodies files config done parts bodies → (v w : Outcome) → OfFit points done bodies v → OfFit points done bodies w → Agrees v w
      fit-once bodies have =
          step-once {W = AreTogether bodies (length points)} (EndsWithMisfit points done bodies) (λ fit r. OfTilesFound points done bodies r) one (λ v a fit. a.3 fit) (λ x y. tiles-once bodies have)
        where
          one : (v w : Outcome) → EndsWithMisfit points done bodies v → EndsWithMisfit points done bodies w → Agrees v w
          one v w a b =
              let same : a.0 ≡ b.0 = last-once a.2.0 b.2.0 a.0 b.0 (sym a.2.1 ∙ b.2.1) in
              both-err v w (PartDamaged a.0 None) (PartDamaged b.0 None) a.1 b.1 (ap (λ (o : ℕ). PartDamaged o None) same)

      abbrev AllBodies : Type 0
      AllBodies = (bodies : List Checkpoint) × HaveBodies files config done parts bodies

      abbrev OfParts : Outcome → Type 0
      OfParts v = Step {W = AllBodies} (IsFirstFaulty parts) (λ all r. OfFit points done all.0 r) v

      parts-once : (v w : Outcome) → OfParts v → OfParts w → Agrees v w
      parts-once =
          step-once {W = AllBodies} (IsFirstFaulty parts) (λ all r. OfFit points done all.0 r) (first-once parts) (λ v a all. first-not parts all.0 v all.1 a) (λ x y v w a b.
          fit-once x.0 x.1 v w a (subst (λ (cs : List Checkpoint). OfFit points done cs w) (bodies-same parts y.0 x.0 y.1 x.1) b))

      -- the root has no octants, or it has
      abbrev EndsFlat : Outcome → Type 0
      EndsFlat v = (v ≡ Err Shallow) × ((rules_by config done).cube.depth ≡ 0)

      abbrev OfDepth : Outcome → Type 0
      OfDepth v = Step {W = 0 < (rules_by config done).cube.depth} EndsFlat (λ deep r. OfParts r) v

      depth-once : (v w : Outcome) → OfDepth v → OfDepth w → Agrees v w
      depth-once =
          step-once {W = 0 < (rules_by config done).cube.depth} EndsFlat (λ deep r. OfParts r) (λ v w a b. both-err v w Shallow Shallow a.0 b.0 refl) (λ v a deep. omega (arith, a.1, deep)) (λ x y. parts-once)

  -- ---- the inputs

  abbrev HaveFound : Type 0
  HaveFound = (points : List Point) × (done : ScanDone) × IsFound shelf config points done

  abbrev EndsWithScan : Outcome → Type 0
  EndsWithScan v = (f : ScanError) × (v ≡ Err (of_scan f)) × IsOfFile f × AreRefused shelf config f

  abbrev OfInputs : Outcome → Type 0
  OfInputs v = Step {W = HaveFound} EndsWithScan (λ all r. OfDepth all.1 all.0 r) v

  inputs-once : (v w : Outcome) → OfInputs v → OfInputs w → Agrees v w
  inputs-once = step-once {W = HaveFound} EndsWithScan (λ all r. OfDepth all.1 all.0 r) one apart both
    where
      one : (v w : Outcome) → EndsWithScan v → EndsWithScan w → Agrees v w
      one v w a b =
          let same : a.0 ≡ b.0 = blamed b.0 (a.0 ≡ b.0) b.2 (blamed a.0 (Blames b.0 (a.0 ≡ b.0)) a.2 (one_refusal shelf config.scale config.bounds config.inputs 0 a.0 b.0 a.3 b.3)) in
          both-err v w (of_scan a.0) (of_scan b.0) a.1 b.1 (ap of_scan same)

      apart : (v : Outcome) → EndsWithScan v → HaveFound → ⊥
      apart v a all = a.2 (scan_or_refusal shelf config.scale config.bounds config.inputs 0 all.0 all.1 a.0 all.2.scanned a.3)

      both : (x y : HaveFound) (v w : Outcome) → OfDepth x.1 x.0 v → OfDepth y.1 y.0 w → Agrees v w
      both x y v w a b =
          let points : y.0 ≡ x.0 = points-once shelf config y.0 x.0 y.1 x.1 y.2 x.2 in
          let done : y.1 ≡ x.1 = found-once shelf config y.0 x.0 y.1 x.1 y.2 x.2 in
          depth-once x.1 x.0 v w a (subst (λ (d : ScanDone). OfDepth d x.0 w) done (subst (λ (ps : List Point). OfDepth y.1 ps w) points b))

  -- ---- the folder

  -- a checkpoint is bad, or there is a current one
  abbrev EndsWithFolder : Outcome → Type 0
  EndsWithFolder v =
      ((letter : Letter) × (v ≡ Err (BadCheckpoint letter)) × IsBad files letter)
      ⊎ ((letter : Letter) × (c : Checkpoint) × (v ≡ Err (HasCheckpoint c.generation)) × HasCurrent (Some (letter, c)) files)

  -- this is the verdict on the parts
  abbrev Verdict : Outcome → Type 0
  Verdict v = Step {W = HasCurrent None files} EndsWithFolder (λ fresh r. OfInputs r) v

  bad-same : (a b : Letter) → IsBad files a → IsBad files b → a ≡ b
  bad-same A A first second = refl
  bad-same A B first second = absurd (second.0 first)
  bad-same B A first second = absurd (first.0 second)
  bad-same B B first second = refl

  verdict-once : (v w : Outcome) → Verdict v → Verdict w → Agrees v w
  verdict-once = step-once {W = HasCurrent None files} EndsWithFolder (λ fresh r. OfInputs r) one apart (λ x y. inputs-once)
    where
      one : (v w : Outcome) → EndsWithFolder v → EndsWithFolder w → Agrees v w
      one v w (inl a) (inl b) = both-err v w (BadCheckpoint a.0) (BadCheckpoint b.0) a.1 b.1 (ap (λ (l : Letter). BadCheckpoint l) (bad-same a.0 b.0 a.2 b.2))
      one v w (inl a) (inr b) = absurd (not_bad (Some (b.0, b.1)) files a.0 b.3 a.2)
      one v w (inr a) (inl b) = absurd (not_bad (Some (a.0, a.1)) files b.0 a.3 b.2)
      one v w (inr a) (inr b) =
          let same : a.1.generation ≡ b.1.generation = ap generation_of (one_current files (Some (a.0, a.1)) (Some (b.0, b.1)) a.3 b.3) in
          both-err v w (HasCheckpoint a.1.generation) (HasCheckpoint b.1.generation) a.2 b.2 (ap (λ (n : ℕ). HasCheckpoint n) same)

      some-none : (letter : Letter) (c : Checkpoint) → (let a : Current = Some (letter, c) in a) ≡ None → ⊥
      some-none letter c same = absurd (cc)

      apart : (v : Outcome) → EndsWithFolder v → HasCurrent None files → ⊥
      apart v (inl a) fresh = not_bad None files a.0 fresh a.2
      apart v (inr a) fresh = some-none a.0 a.1 (one_current files (Some (a.0, a.1)) None a.3 fresh)

  -- ---- what refuses parts is the verdict on them, and so is a merge

  of-begun : (points : List Point) (done : ScanDone) (v : Outcome) → IsBegun shelf files config points done → OfParts done points v → Verdict v
  of-begun points done v begun its = inr (begun.fresh, inr ((points, done, record { scanned = begun.scanned; in_range = begun.in_range }), inr (begun.deep, its)))

  of-inputs : (f : ScanError) → IsOfFile f → HasCurrent None files × AreRefused shelf config f → Verdict (Err (of_scan f))
  of-inputs f of_file is = inr (is.0, inl (f, refl, of_file, is.1))

  of-first : (points : List Point) (done : ScanDone) (octants : ℕ) (fault : Type 0) (v : Outcome) → IsBegun shelf files config points done → (f : IsFirst files config done parts octants fault) → IsFaulty done octants v → Verdict v
  of-first points done octants fault v begun f its =
      let first : IsFirstFaulty done (f.before ++ octants ∷ f.later) v = first-faulty done f.before octants f.later f.bodies v f.have its in
      of-begun points done v begun (inl (subst (λ (os : List ℕ). IsFirstFaulty done os v) (sym f.among) first))

  of-refused : (e : MergeError) → IsDefinite e → IsRefused shelf files config parts e → Verdict (Err e)
  of-refused StoreFault sure is = absurd (sure.0 refl)
  of-refused (BadCheckpoint letter) sure is = inl (inl (letter, refl, is))
  of-refused (HasCheckpoint generation) sure is = inl (inr (is.0, is.1, ap (λ (n : ℕ). Err (HasCheckpoint n)) (sym is.3), is.2))
  of-refused SourceFault sure is = absurd (sure.1 refl)
  of-refused (BadLas source fault) sure is = of-inputs (scan.BadLas source fault) (λ no. no) is
  of-refused (OutOfBounds source number) sure is = of-inputs (scan.OutOfBounds source number) (λ no. no) is
  of-refused (TooManyPoints source) sure is = of-inputs (scan.TooManyPoints source) (λ no. no) is
  of-refused NoBounds sure is = of-inputs scan.NoBounds (λ no. no) is
  of-refused Shallow sure is = inr (is.0, inr ((is.1.0, is.1.1, record { scanned = is.1.2; in_range = is.1.3.1 }), inl (refl, is.1.3.0)))
  of-refused (NoPart octants) sure is = of-first is.0 is.1 octants _ (Err (NoPart octants)) is.2 is.3 (inl (refl, is.3.has_fault))
  of-refused (PartDiffers octants) sure is = of-first is.0 is.1 octants _ (Err (PartDiffers octants)) is.2 is.3 (inr (inl (refl, is.3.has_fault)))
  of-refused (PartDamaged octants None) sure (inl is) = of-first is.0 is.1 octants _ (Err (PartDamaged octants None)) is.2 is.3 (inr (inr (refl, is.3.has_fault)))
  of-refused (PartDamaged octants None) sure (inr is) = of-begun is.0 is.1 (Err (PartDamaged octants None)) is.2 (inr ((is.3.0, is.3.1), inl (octants, refl, is.3.2.0, is.3.2.1)))
  of-refused (PartDamaged octants (Some key)) sure is = of-begun is.0 is.1 (Err (PartDamaged octants (Some key))) is.2 (inr ((is.3.0, is.3.1), inr (is.3.2.0, inl (octants, key, refl, is.3.2.1))))
  of-refused TooManyNodes sure is = of-begun is.0 is.1 (Err TooManyNodes) is.2 (inr ((is.3.0, is.3.1), inr (is.3.2.0, inr (is.3.2.1.0, inl (refl, is.3.2.1.1)))))
  of-refused Memory sure is = absurd (sure.2 refl)

  of-merged : WereMerged shelf files config parts → Verdict (Ok tt)
  of-merged is = of-begun is.0 is.1 (Ok tt) is.2 (inr ((is.3.0, is.3.1), inr (is.3.2.0, inr (is.3.2.1.0, inr (is.3.2.1.1, refl)))))

  -- ---- what a result says of each verdict

  -- it is the verdict, or it fails
  abbrev pub Says : Outcome → Type 0
  Says r = Fails r ⊎ Verdict r

  pub says-refused : (r : Outcome) (e : MergeError) → r ≡ Err e → IsRefused shelf files config parts e → Says r
  says-refused r e is refused = elim (sure_or r e is) [
    | inl fails ↦ inl fails
    | inr sure ↦ inr (subst Verdict (sym is) (of-refused e sure refused))
  ]

  pub says-merged : (r : Outcome) → r ≡ Ok tt → WereMerged shelf files config parts → Says r
  says-merged r is merged = inr (subst Verdict (sym is) (of-merged merged))

  abbrev pub Completes : Outcome → Type 0
  Completes r = WereMerged shelf files config parts → IsOk r ⊎ Fails r

  abbrev pub Comes : Outcome → Type 0
  Comes r = (e : MergeError) → IsDefinite e → IsRefused shelf files config parts e → Reports e r ⊎ Fails r

  pub completes : (r : Outcome) → Says r → Completes r
  completes r (inl fails) merged = inr fails
  completes r (inr its) merged = inl (verdict-once (Ok tt) r (of-merged merged) its)

  pub comes : (r : Outcome) → Says r → Comes r
  comes r (inl fails) e sure refused = inr fails
  comes r (inr its) e sure refused = inl (verdict-once (Err e) r (of-refused e sure refused) its)
