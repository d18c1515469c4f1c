-- The result that the files call for is unique, and is returned.
use Rattle.std.proofs.Common.{◌≡◌, ◌≢◌, ◌∙◌, ◌<◌, ◌≤◌, ℕ, Bool, true, false, inl, inr, ◌⊎◌, ⊎_elim, List, length, map, refl, sym, ap, subst, arith, Option, Some, None, Result, Ok, Err, Ordering, Less, Equal, Greater}
use Rattle.std.specs.List.{All, flat_map}
use Rattle.std.specs.List.Sorted.{IsPermutation}
use Rattle.std.specs.Ordering.{ordering_reverse}
use Rattle.std.proofs.lemmas.Bool.{cases_lt}
use Rattle.std.proofs.lemmas.List.{length-map}
use Rattle.std.proofs.lemmas.List.Sorted.{length_permutation}
use Rattle.ept_base.specs.Files.{Files, Tells}
use Rattle.ept_point.specs.declared.point.Point.{Point}
use Rattle.ept_space.specs.declared.cube.Rules.{Rules}
use Rattle.ept_space.specs.VoxelKey.{VoxelKey, IsKey, IsBefore, root, key_cmp, same_key, AreAscending}
use Rattle.ept_space.proofs.KeyOrder.{key_cmp_total, key_cmp-less, key_cmp-equal}
use Rattle.ept_space.proofs.Within.{same_key-true, same_key-same}
use Rattle.ept_sample.specs.declared.tiles.Tile.{Tile}
use Rattle.ept_sample.specs.Members.{IsMember}
use Rattle.ept_sample.specs.Nodes.{node_keys, tile_at, sampled}
use Rattle.ept_sample.specs.SamplingLaws.{CanBeSampled, EachPointIsInOneNode}
use Rattle.ept_sample.proofs.Choices.{either}
use Rattle.ept_sample.proofs.IdLaws.{HasDistinctIds-IsAscending}
use Rattle.ept_sample.proofs.Members.{all-member, IsMember-map, IsMember-contains}
use Rattle.ept_config.specs.declared.kept.Kept.{Kept}
use Rattle.ept_hier.specs.Hierarchy.{Node, keys_of}
use Rattle.ept_meta.specs.Output.{rules_of}
use Rattle.ept_meta.specs.OutputLaws.{PointsCanBeSampled}
use Rattle.ept_save.specs.Complete.{IsComplete}
use Rattle.ept_query.specs.declared.listing.TheConstants.{EVERYWHERE}
use Rattle.ept_query.specs.declared.query_error.QueryFile.{QueryFile}
use Rattle.ept_query.specs.declared.query_error.QueryFile.TheVariants.{BuildJson, Hierarchy, Tile as TileOf}
use Rattle.ept_query.specs.declared.query_error.QueryError.{QueryError}
use Rattle.ept_query.specs.declared.query_error.QueryError.TheVariants as query
use Rattle.ept_query.specs.CompleteLaws.{CompleteHasPlan, TileIsOfOne}
use Rattle.ept_query.specs.Damage.{HasTile}
use Rattle.ept_query.specs.Refusals.{CallsOfPlan}
use Rattle.ept_query.specs.Listed.{HasNodes, HasTilesOf, NodesAreOfOne, RootIsThere, NodesAreInOctree, PlanIsUncalled, PlanIsCalledOnce, CompleteHasNodes}
use Rattle.ept_fit.specs.Fit.{keys_in, points_in, AreFit, HasParent}
use Rattle.ept_fit.specs.FitLaws.{FitIsSampled, SampledIsFit}
use Rattle.ept_check.specs.declared.fault.Fault.{Fault}
use Rattle.ept_check.specs.declared.fault.Fault.TheVariants.{Orphan, Outside, OpenLoser, TooMany, Above, Few, Empty, Twice}
use Rattle.ept_check.specs.declared.verdict.Verdict.{Verdict}
use Rattle.ept_check.specs.declared.verdict.Verdict.TheVariants.{Fit, Unfit}
use Rattle.ept_check.specs.declared.check_error.CheckError.{CheckError}
use Rattle.ept_check.specs.declared.check_error.CheckError.TheVariants.{NotComplete, StoreFault, Damaged, Memory}
use Rattle.ept_check.specs.Nodes.{count_of, ComesBefore, HasNode}
use Rattle.ept_check.specs.Facts.{number_of, Holds, IsFirstLack}
use Rattle.ept_check.specs.Folder.{IsFit, HaveParents, IsFirstOrphan, IsFaultless, IsFirstFault, IsFirstDamage, IsUnfit}
use Rattle.ept_check.specs.Answers.{Answer, IsOfNodes, CallsFor, IsCalledFor, ComesOrFails, ComesAsCalled}
use Rattle.ept_check.specs.Causes.{of_query}
use Rattle.ept_check.specs.Verdicts.{AreFaultless, AnswersFolder}
use Rattle.ept_check.proofs.Tiled.{tiled-keys, count-once, node-once, counted-all}
use Rattle.ept_fit.proofs.Keys.{member-among}
use Rattle.ept_check.proofs.Paths.{one-first}
use Rattle.ept_check.proofs.Fits.{faultless-fit, fit-faultless}

told : (P : Files → Type 0) (files : Option Files) (all : Files) → files ≡ Some all → Tells P files → P all
told P files all is tells = subst (λ (o : Option Files). Tells P o) is tells

-- ---- one fault

number-once : (a b : Fault) → number_of a ≡ number_of b → a ≡ b
number-once Orphan Orphan e = refl
number-once Outside Outside e = refl
number-once OpenLoser OpenLoser e = refl
number-once TooMany TooMany e = refl
number-once Above Above e = refl
number-once Few Few e = refl
number-once Empty Empty e = refl
number-once Twice Twice e = refl
number-once Orphan b e = absurd (omega (arith, e))
number-once Outside b e = absurd (omega (arith, e))
number-once OpenLoser b e = absurd (omega (arith, e))
number-once TooMany b e = absurd (omega (arith, e))
number-once Above b e = absurd (omega (arith, e))
number-once Few b e = absurd (omega (arith, e))
number-once Empty b e = absurd (omega (arith, e))
number-once Twice b e = absurd (omega (arith, e))

lack-once : (holds : Fault → Type 0) (a b : Fault) → IsFirstLack holds a → IsFirstLack holds b → a ≡ b
lack-once holds a b one other =
    elim (cases_lt (number_of a) (number_of b)) [
      | inl less ↦ absurd (one.lacks (other.before a less))
      | inr more ↦ (elim (cases_lt (number_of b) (number_of a)) [
        | inl less ↦ absurd (other.lacks (one.before b less))
        | inr same ↦ number-once a b (omega (arith, more, same))
      ])
    ]

-- ---- one key

by-keys : (a b : VoxelKey) → ¬ IsBefore a b → ¬ IsBefore b a → a ≡ b
by-keys a b up down = by_cmp (key_cmp a b) refl
  where
    by_cmp : (o : Ordering) → key_cmp a b ≡ o → a ≡ b
    by_cmp Less is = absurd (up (key_cmp-less a b is))
    by_cmp Equal is = key_cmp-equal a b is
    by_cmp Greater is = absurd (down (key_cmp-less b a (key_cmp_total.antisymm b a ∙ ap ordering_reverse is)))

by-paths : (a b : VoxelKey) → IsKey a → IsKey b → ¬ ComesBefore a b → ¬ ComesBefore b a → a ≡ b
by-paths a b one other up down =
    elim (either (same_key a b)) [
      | inl same ↦ same_key-true a b same
      | inr apart ↦ absurd (⊎_elim up down (one-first a b one other (λ same. (let wrong : true ≡ false = sym (same_key-same a b same) ∙ apart in cc))))
    ]

orphan-once : (nodes : List Node) (a b : VoxelKey) → IsFirstOrphan nodes a → IsFirstOrphan nodes b → a ≡ b
orphan-once nodes a b one other =
    by-keys a b (λ less. one.orphan (other.first a one.listed less)) (λ less. other.orphan (one.first b other.listed less))

-- ---- the results of listed nodes

-- the results that the nodes call for
abbrev pub CallsNodes : Rules → Files → List Node → Answer → Type 0
CallsNodes rules files nodes (Ok (Fit points count)) = IsFit rules files nodes points count
CallsNodes rules files nodes (Ok (Unfit key why)) = IsUnfit rules files nodes key why
CallsNodes rules files nodes (Err NotComplete) = ⊥
CallsNodes rules files nodes (Err StoreFault) = ⊥
CallsNodes rules files nodes (Err (Damaged BuildJson)) = ⊥
CallsNodes rules files nodes (Err (Damaged (Hierarchy key))) = ⊥
CallsNodes rules files nodes (Err (Damaged (TileOf key))) = IsFirstDamage rules files nodes key
CallsNodes rules files nodes (Err Memory) = ⊥

module _ (once : TileIsOfOne) (law : SampledIsFit) (rules : Rules) (files : Files) (nodes : List Node) (ascend : AreAscending (keys_of nodes)) (in_octree : (key : VoxelKey) → IsMember key (keys_of nodes) → IsKey key) where
  key-in : (key : VoxelKey) (count : ℕ) → IsMember (key, count) nodes → IsMember key (keys_of nodes)
  key-in key count m = IsMember-map (λ (x : Node). x.0) (key, count) nodes m

  fault-against : (key : VoxelKey) (why : Fault) → IsFirstFault rules files nodes key why → IsFaultless rules files nodes key → ⊥
  fault-against key why fault clean =
      let same = node-once once files nodes ascend key clean.points fault.points clean.has fault.has in
      fault.lack.lacks (subst (λ (ps : List Point). Holds rules files nodes key ps why) same (clean.holds why))

  damage-there : (key : VoxelKey) (points : List Point) → IsFirstDamage rules files nodes key → HasNode files nodes key points → ⊥
  damage-there key points damage has =
      let same = count-once nodes ascend key has.count damage.count has.listed damage.listed in
      damage.damaged points (subst (λ (c : ℕ). HasTile files key c points) same has.tile)

  fault-key : (key : VoxelKey) (why : Fault) → IsFirstFault rules files nodes key why → IsMember key (keys_of nodes)
  fault-key key why fault = key-in key fault.has.count fault.has.listed

  damage-key : (key : VoxelKey) → IsFirstDamage rules files nodes key → IsMember key (keys_of nodes)
  damage-key key damage = key-in key damage.count damage.listed

  fit-unfit : (points count : ℕ) (key : VoxelKey) (why : Fault) → IsFit rules files nodes points count → IsUnfit rules files nodes key why → ⊥
  fit-unfit points count key why fit (inl orphan) =
      let clean = fit-faultless once rules files nodes law points count fit in
      orphan.1.orphan (all-member (HasParent (keys_of nodes)) key (keys_of nodes) clean.parents orphan.1.listed)
  fit-unfit points count key why fit (inr fault) =
      let clean = fit-faultless once rules files nodes law points count fit in
      fault-against key why fault (clean.each key (fault-key key why fault))

  fit-damage : (points count : ℕ) (key : VoxelKey) → IsFit rules files nodes points count → IsFirstDamage rules files nodes key → ⊥
  fit-damage points count key fit damage =
      let clean = fit-faultless once rules files nodes law points count fit in
      let f = clean.each key (damage-key key damage) in
      damage-there key f.points damage f.has

  unfit-damage : (a b : VoxelKey) (why : Fault) → IsUnfit rules files nodes a why → IsFirstDamage rules files nodes b → ⊥
  unfit-damage a b why (inl orphan) damage = orphan.1.orphan (all-member (HasParent (keys_of nodes)) a (keys_of nodes) damage.parents orphan.1.listed)
  unfit-damage a b why (inr fault) damage =
      let same = by-paths a b (in_octree a (fault-key a why fault)) (in_octree b (damage-key b damage))
      (λ less. fault-against a why fault (damage.before a (fault-key a why fault) less))
      (λ less. (let f = fault.before b (damage-key b damage) less in damage-there b f.points damage f.has)) in
      damage-there b fault.points damage (subst (λ (k : VoxelKey). HasNode files nodes k fault.points) same fault.has)

  damage-once : (a b : VoxelKey) → IsFirstDamage rules files nodes a → IsFirstDamage rules files nodes b → a ≡ b
  damage-once a b one other =
      by-paths a b (in_octree a (damage-key a one)) (in_octree b (damage-key b other))
      (λ less. (let f = other.before a (damage-key a one) less in damage-there a f.points one f.has))
      (λ less. (let f = one.before b (damage-key b other) less in damage-there b f.points other f.has))

  unfit-once : (a b : VoxelKey) (v w : Fault) → IsUnfit rules files nodes a v → IsUnfit rules files nodes b w → (a ≡ b) × (v ≡ w)
  unfit-once a b v w (inl one) (inl other) = (orphan-once nodes a b one.1 other.1, one.0 ∙ sym other.0)
  unfit-once a b v w (inl one) (inr other) = absurd (one.1.orphan (all-member (HasParent (keys_of nodes)) a (keys_of nodes) other.parents one.1.listed))
  unfit-once a b v w (inr one) (inl other) = absurd (other.1.orphan (all-member (HasParent (keys_of nodes)) b (keys_of nodes) one.parents other.1.listed))
  unfit-once a b v w (inr one) (inr other) =
      let same = by-paths a b (in_octree a (fault-key a v one)) (in_octree b (fault-key b w other))
      (λ less. fault-against a v one (other.before a (fault-key a v one) less))
      (λ less. fault-against b w other (one.before b (fault-key b w other) less)) in
      let has : HasNode files nodes b one.points = subst (λ (k : VoxelKey). HasNode files nodes k one.points) same one.has in
      let points = node-once once files nodes ascend b one.points other.points has other.has in
      let lack : IsFirstLack (Holds rules files nodes b other.points) v = subst (λ (ps : List Point). IsFirstLack (Holds rules files nodes b ps) v) points (subst (λ (k : VoxelKey). IsFirstLack (Holds rules files nodes k one.points) v) same one.lack) in
      (same, lack-once (Holds rules files nodes b other.points) v w lack other.lack)

  nodes-once : (a b : Answer) → CallsNodes rules files nodes a → CallsNodes rules files nodes b → a ≡ b
  nodes-once (Ok (Fit p n)) (Ok (Fit q m)) one other =
      let x = fit-faultless once rules files nodes law p n one in
      let y = fit-faultless once rules files nodes law q m other in
      let points : p ≡ q = x.points_are ∙ sym y.points_are in
      let counts : n ≡ m = x.count_is ∙ sym y.count_is in
      cc
  nodes-once (Ok (Fit p n)) (Ok (Unfit key why)) one other = absurd (fit-unfit p n key why one other)
  nodes-once (Ok (Fit p n)) (Err NotComplete) one other = absurd other
  nodes-once (Ok (Fit p n)) (Err StoreFault) one other = absurd other
  nodes-once (Ok (Fit p n)) (Err (Damaged BuildJson)) one other = absurd other
  nodes-once (Ok (Fit p n)) (Err (Damaged (Hierarchy key))) one other = absurd other
  nodes-once (Ok (Fit p n)) (Err (Damaged (TileOf key))) one other = absurd (fit-damage p n key one other)
  nodes-once (Ok (Fit p n)) (Err Memory) one other = absurd other
  nodes-once (Ok (Unfit key why)) (Ok (Fit p n)) one other = absurd (fit-unfit p n key why other one)
  nodes-once (Ok (Unfit a v)) (Ok (Unfit b w)) one other =
      let same = unfit-once a b v w one other in
      let keys : a ≡ b = same.0 in
      let whys : v ≡ w = same.1 in
      cc
  nodes-once (Ok (Unfit a v)) (Err NotComplete) one other = absurd other
  nodes-once (Ok (Unfit a v)) (Err StoreFault) one other = absurd other
  nodes-once (Ok (Unfit a v)) (Err (Damaged BuildJson)) one other = absurd other
  nodes-once (Ok (Unfit a v)) (Err (Damaged (Hierarchy key))) one other = absurd other
  nodes-once (Ok (Unfit a v)) (Err (Damaged (TileOf key))) one other = absurd (unfit-damage a key v one other)
  nodes-once (Ok (Unfit a v)) (Err Memory) one other = absurd other
  nodes-once (Err NotComplete) b one other = absurd one
  nodes-once (Err StoreFault) b one other = absurd one
  nodes-once (Err Memory) b one other = absurd one
  nodes-once (Err (Damaged BuildJson)) b one other = absurd one
  nodes-once (Err (Damaged (Hierarchy key))) b one other = absurd one
  nodes-once (Err (Damaged (TileOf a))) (Ok (Fit p n)) one other = absurd (fit-damage p n a other one)
  nodes-once (Err (Damaged (TileOf a))) (Ok (Unfit key why)) one other = absurd (unfit-damage key a why other one)
  nodes-once (Err (Damaged (TileOf a))) (Err NotComplete) one other = absurd other
  nodes-once (Err (Damaged (TileOf a))) (Err StoreFault) one other = absurd other
  nodes-once (Err (Damaged (TileOf a))) (Err (Damaged BuildJson)) one other = absurd other
  nodes-once (Err (Damaged (TileOf a))) (Err (Damaged (Hierarchy key))) one other = absurd other
  nodes-once (Err (Damaged (TileOf a))) (Err (Damaged (TileOf b))) one other = (let same : a ≡ b = damage-once a b one other in cc)
  nodes-once (Err (Damaged (TileOf a))) (Err Memory) one other = absurd other

-- ---- one result

-- a result is that of a plan that is refused, or one that the nodes call for
abbrev IsEither : Files → Answer → Type 0
IsEither files a =
    ((e : QueryError) × (a ≡ Err (of_query e)) × CallsOfPlan EVERYWHERE 0 32 e files) ⊎ ((rules : Rules) × (nodes : List Node) × HasNodes rules nodes files × CallsNodes rules files nodes a)

either-of : (files : Files) (a : Answer) → CallsFor a files → IsEither files a
either-of files (Ok (Fit p n)) called = inr called
either-of files (Ok (Unfit key why)) called = inr called
either-of files (Err NotComplete) called = inl (query.NotComplete, refl, called)
either-of files (Err StoreFault) called = absurd called
either-of files (Err (Damaged BuildJson)) called = inl (query.Damaged BuildJson, refl, called)
either-of files (Err (Damaged (Hierarchy key))) called = inl (query.Damaged (Hierarchy key), refl, called)
either-of files (Err (Damaged (TileOf key))) called = inr called
either-of files (Err Memory) called = absurd called

module _ (once : TileIsOfOne) (law : SampledIsFit) (one-list : NodesAreOfOne) (octree : NodesAreInOctree) (uncalled : PlanIsUncalled) (plan-once : PlanIsCalledOnce) where
  pub called-once : (files : Files) (a b : Answer) → CallsFor a files → CallsFor b files → a ≡ b
  called-once files a b one other = by_both (either-of files a one) (either-of files b other)
    where
      by_both : IsEither files a → IsEither files b → a ≡ b
      by_both (inl x) (inl y) = x.1 ∙ (ap (λ (e : QueryError). let r : Answer = Err (of_query e) in r) (plan-once files x.0 y.0 x.2 y.2) ∙ sym y.1)
      by_both (inl x) (inr y) = absurd (uncalled files y.1 y.2.plan x.0 x.2)
      by_both (inr x) (inl y) = absurd (uncalled files x.1 x.2.plan y.0 y.2)
      by_both (inr x) (inr y) =
          let same = one-list files y.0 x.0 y.1 x.1 y.2 x.2 in
          let kept = x.2.plan.build.0 in
          let ascend = (x.2.plan.tiles kept x.2.plan.build.1).ascend in
          let in_octree = (octree files x.0 x.1 x.2).1 in
          nodes-once once law x.0 files x.1 ascend (λ key m. (all-member (λ (k : VoxelKey). IsKey k × (k.depth ≤ x.0.cube.depth)) key (keys_of x.1) in_octree m).0) a b x.3
          (subst (λ (r : Rules). CallsNodes r files x.1 b) same.0 (subst (λ (ns : List Node). CallsNodes y.0 files ns b) same.1 y.3))

  pub answer-comes : (files : Option Files) (r : Answer) → IsCalledFor files r → ComesAsCalled files r
  answer-comes files (Ok verdict) told' = λ all is answer called. inl (called-once all (Ok verdict) answer (told (CallsFor (Ok verdict)) files all is told') called)
  answer-comes files (Err NotComplete) told' = λ all is answer called. inl (called-once all (Err NotComplete) answer (told (CallsFor (Err NotComplete)) files all is told') called)
  answer-comes files (Err StoreFault) told' = λ all is answer called. inr (inl refl)
  answer-comes files (Err (Damaged file)) told' = λ all is answer called. inl (called-once all (Err (Damaged file)) answer (told (CallsFor (Err (Damaged file))) files all is told') called)
  answer-comes files (Err Memory) told' = λ all is answer called. inr (inr refl)

-- ---- what is found of the nodes is called for

module _ (once : TileIsOfOne) (sampled-law : FitIsSampled) (octree : NodesAreInOctree) (there : RootIsThere) where
  fit-of : (files : Files) (points count : ℕ) → IsOfNodes (λ rules nodes. AreFaultless rules files nodes points count) files → CallsFor (Ok (Fit points count)) files
  fit-of files points count x =
      let kept = x.2.plan.build.0 in
      let ascend = (x.2.plan.tiles kept x.2.plan.build.1).ascend in
      let o = octree files x.0 x.1 x.2 in
      (x.0, x.1, x.2, faultless-fit once x.0 files x.1 o.0 ascend o.1 (member-among (keys_of x.1) root (IsMember-contains root (keys_of x.1) (there files x.0 x.1 x.2))) points count x.3 sampled-law)

  pub folder-called : (files : Option Files) (r : Answer) → AnswersFolder files r → IsCalledFor files r
  folder-called None (Ok (Fit points count)) told' = tt
  folder-called (Some all) (Ok (Fit points count)) told' = fit-of all points count told'
  folder-called files (Ok (Unfit key why)) told' = told'
  folder-called files (Err NotComplete) told' = told'
  folder-called files (Err StoreFault) told' = tt
  folder-called files (Err (Damaged file)) told' = told'
  folder-called files (Err Memory) told' = tt

-- ---- a complete folder

module _ (once : TileIsOfOne) (law : SampledIsFit) (sampled-law : FitIsSampled) (can : PointsCanBeSampled) (one-node : EachPointIsInOneNode) (complete : CompleteHasNodes) (kept : Kept) (points : List Point) (files : Files) (whole : IsComplete kept points files) where
  pub fit-complete : (rules : Rules) (nodes : List Node) → HasNodes rules nodes files → IsFit rules files nodes (length points) (length (node_keys (rules_of kept) points))
  unfolding sampled
  fit-complete rules nodes has =
      let known = complete kept points files whole rules nodes has in
      let may = can kept points whole.points_are.inside (HasDistinctIds-IsAscending points whole.points_are.ascend) in
      let fits = law (rules_of kept) points may in
      let is = sampled-law (rules_of kept) (sampled (rules_of kept) points) fits in
      let keys = tiled-keys files nodes (sampled (rules_of kept) points) known.1 in
      let of-nodes : length (keys_of nodes) ≡ length nodes = length-map nodes (λ (n : Node). n.0) in
      let of-tiles : length (keys_in (sampled (rules_of kept) points)) ≡ length (sampled (rules_of kept) points) = length-map (sampled (rules_of kept) points) (λ (t : Tile). t.key) in
      let of-keys : length (sampled (rules_of kept) points) ≡ length (node_keys (rules_of kept) points) = length-map (node_keys (rules_of kept) points) (tile_at (rules_of kept) points) in
      subst (λ (r : Rules). IsFit r files nodes (length points) (length (node_keys (rules_of kept) points))) (sym known.0) (record {
        tiles = sampled (rules_of kept) points;
        there = known.1;
        can = is.0;
        sampling = is.1;
        points_are = sym (length_permutation points (points_in (sampled (rules_of kept) points)) (one-node (rules_of kept) points may));
        count_is = sym of-keys ∙ (sym of-tiles ∙ (ap (λ (ks : List VoxelKey). length ks) keys ∙ of-nodes));
      })

  module _ (one-list : NodesAreOfOne) (octree : NodesAreInOctree) (uncalled : PlanIsUncalled) (plan-once : PlanIsCalledOnce) (has-plan : CompleteHasPlan) where
    one-answer : (r : Answer) → CallsFor r files → r ≡ Ok (Fit (length points) (length (node_keys (rules_of kept) points)))
    one-answer r called = by_side (either-of files r called)
      where
        by_side : IsEither files r → r ≡ Ok (Fit (length points) (length (node_keys (rules_of kept) points)))
        by_side (inl x) = (let plan = has-plan kept points files whole EVERYWHERE 0 32 in absurd (uncalled files plan.0 plan.1 x.0 x.2))
        by_side (inr x) = called-once once law one-list octree uncalled plan-once files r (Ok (Fit (length points) (length (node_keys (rules_of kept) points)))) called (x.0, x.1, x.2, fit-complete x.0 x.1 x.2)

    pub complete-answer : (before : Option Files) (r : Answer) → before ≡ Some files → IsCalledFor before r → ComesOrFails (Ok (Fit (length points) (length (node_keys (rules_of kept) points)))) r
    complete-answer before (Ok verdict) is told' = inl (one-answer (Ok verdict) (told (CallsFor (Ok verdict)) before files is told'))
    complete-answer before (Err NotComplete) is told' = inl (one-answer (Err NotComplete) (told (CallsFor (Err NotComplete)) before files is told'))
    complete-answer before (Err StoreFault) is told' = inr (inl refl)
    complete-answer before (Err (Damaged file)) is told' = inl (one-answer (Err (Damaged file)) (told (CallsFor (Err (Damaged file))) before files is told'))
    complete-answer before (Err Memory) is told' = inr (inr refl)
