-- A whole query, from its plan and its tiles.
use Rattle.std.proofs.Common.{◌≡◌, ◌∙◌, ◌+◌, ◌<◌, ◌≤◌, ◌⊎◌, ℕ, List, [], ◌∷◌, ◌++◌, length, get_or, refl, sym, ap, subst, inl, inr, arith, Option, Result, Ok, Err, Less, Equal, Greater, true, false}
use Rattle.std.specs.Prelude.{IfErr}
use Rattle.std.specs.List.{AllZip}
use Rattle.std.specs.Ordering.{ordering_reverse, is_lt}
use Rattle.std.proofs.lemmas.List.{length-map, get_or-map}
use Rattle.ept_base.specs.Files.{Files, SameFiles, StepsBy, Tells}
use Rattle.ept_point.specs.declared.point.Point.{Point}
use Rattle.ept_space.specs.declared.box3.Box3.{Box3}
use Rattle.ept_space.specs.VoxelKey.{VoxelKey, IsBefore, root, key_cmp}
use Rattle.ept_space.proofs.KeyOrder.{key_cmp_total, key_cmp-less, key_cmp-before, key_cmp-same}
use Rattle.ept_config.specs.declared.kept.Kept.{Kept}
use Rattle.ept_hier.specs.Hierarchy.{Node, keys_of}
use Rattle.ept_sample.specs.Members.{IsMember}
use Rattle.ept_sample.proofs.Ascending.{IsRising}
use Rattle.ept_sample.proofs.KeyOrder.{key_before, IsRising-AllPairs}
use Rattle.ept_sample.proofs.Members.{IsMember-contains, contains-IsMember, IsMember-right, IsMember-map, member-map}
use Rattle.ept_save.specs.Done.{IsDone}
use Rattle.ept_filter.specs.declared.sift.Sift.{Sift}
use Rattle.ept_query.specs.declared.query_error.QueryFile.TheVariants.{BuildJson, Hierarchy, Tile}
use Rattle.ept_query.specs.declared.query_error.QueryError.{QueryError}
use Rattle.ept_query.specs.declared.query_error.QueryError.TheVariants.{NotComplete, StoreFault, Damaged, SinkFault, Memory}
use Rattle.ept_query.specs.Search.{search_of}
use Rattle.ept_query.specs.Plan.{IsBuiltWith, IsPlanned}
use Rattle.ept_query.specs.Damage.{HasTile, IsFirstTile, IsFirstDamaged}
use Rattle.ept_query.specs.Parts.{Plan, IsPart}
use Rattle.ept_query.specs.Planning.{IsPlanFor, GetsFiles, GetsAll, GetsUpTo}
use Rattle.ept_query.specs.Refusals.{RefusesPlan, RefusesQuery, GetsBefore}
use Rattle.ept_query.specs.Writing.{WritesAll, WritesFront, WritesBefore, LeavesTiles, GetsTo}
use Rattle.ept_query.specs.Answers.{Selects, Stops, StopsAt, LeavesSelection}
use Rattle.ept_query.proofs.Counting.{few-up-to}
use Rattle.ept_query.proofs.PlanSize.{plan-size}
use Rattle.ept_query.proofs.Told.{tells-from, told, told-back}
use Rattle.ept_query.proofs.Written.{part-back, none-back}

-- ---- files that read as before

parts-back : (area : Box3) (nodes : List Node) (parts : List (List Point)) (old new : Files) → SameFiles old new → AllZip (IsPart new area) nodes parts → AllZip (IsPart old area) nodes parts
parts-back area [] [] old new same each = tt
parts-back area [] (p ∷ parts) old new same each = absurd each
parts-back area (n ∷ nodes) [] old new same each = absurd each
parts-back area (n ∷ nodes) (p ∷ parts) old new same each = (part-back area n p old new same each.0, parts-back area nodes parts old new same each.1)

all-back : (sift : Option Sift) (plan : Plan) (before now : Option (List ℕ)) (count : ℕ) (old new : Files) → SameFiles old new → WritesAll sift plan before now count new → WritesAll sift plan before now count old
all-back sift plan before now count old new same w = record { parts = w.parts; read = parts-back plan.area plan.tiles w.parts old new same w.read; written = w.written; counted = w.counted }

front-back : (sift : Option Sift) (plan : Plan) (before now : Option (List ℕ)) (old new : Files) → SameFiles old new → WritesFront sift plan before now new → WritesFront sift plan before now old
front-back sift plan before now old new same w = record { front = w.front; back = w.back; split = w.split; parts = w.parts; read = parts-back plan.area w.front w.parts old new same w.read; written = w.written }

before-back : (sift : Option Sift) (plan : Plan) (key : VoxelKey) (before now : Option (List ℕ)) (old new : Files) → SameFiles old new → WritesBefore sift plan key before now new → WritesBefore sift plan key before now old
before-back sift plan key before now old new same w = record { front = w.front; count = w.count; back = w.back; split = w.split; damaged = none-back (key, w.count) old new same w.damaged; parts = w.parts; read = parts-back plan.area w.front w.parts old new same w.read; written = w.written }

-- ---- if there is no plan

pub plan-query : (area : Box3) (first last : ℕ) (files : Option Files) (error : QueryError) → RefusesPlan area first last files error → RefusesQuery area first last files error
plan-query area first last files NotComplete refused = refused
plan-query area first last files StoreFault refused = tt
plan-query area first last files SinkFault refused = absurd refused
plan-query area first last files Memory refused = tt
plan-query area first last files (Damaged BuildJson) refused = refused
plan-query area first last files (Damaged (Hierarchy key)) refused = refused
plan-query area first last files (Damaged (Tile key)) refused = absurd refused

pub plan-leaves : (sift : Option Sift) (area : Box3) (first last : ℕ) (files : Option Files) (old : Option (List ℕ)) (error : QueryError) → RefusesPlan area first last files error → LeavesSelection sift area first last files old old error
plan-leaves sift area first last files old NotComplete refused = refl
plan-leaves sift area first last files old StoreFault refused = inl refl
plan-leaves sift area first last files old SinkFault refused = absurd refused
plan-leaves sift area first last files old Memory refused = inl refl
plan-leaves sift area first last files old (Damaged BuildJson) refused = refl
plan-leaves sift area first last files old (Damaged (Hierarchy key)) refused = refl
plan-leaves sift area first last files old (Damaged (Tile key)) refused = absurd refused

pub gets-none : (area : Box3) (first last : ℕ) (files : Option Files) (old new : ℕ) → Tells (GetsFiles area first last old new) files → Tells (GetsAll area first last old new) files
gets-none area first last files old new few = tells-from (GetsAll area first last old new) files (λ all is needed planned each others. (
    let most = told (GetsFiles area first last old new) files all is few needed each in omega (arith, most)))

pub plan-gets : (area : Box3) (first last : ℕ) (files : Option Files) (error : QueryError) (old new : ℕ) → RefusesPlan area first last files error → Tells (GetsFiles area first last old new) files → Tells (GetsBefore area first last old new error) files
plan-gets area first last files NotComplete old new refused few = few
plan-gets area first last files StoreFault old new refused few = gets-none area first last files old new few
plan-gets area first last files SinkFault old new refused few = absurd refused
plan-gets area first last files Memory old new refused few = gets-none area first last files old new few
plan-gets area first last files (Damaged BuildJson) old new refused few = few
plan-gets area first last files (Damaged (Hierarchy key)) old new refused few = few
plan-gets area first last files (Damaged (Tile key)) old new refused few = absurd refused

-- ---- a tile that is damaged is the first

-- the tiles that have parts are there
pub there-tile : (files : Files) (area : Box3) (nodes : List Node) (parts : List (List Point)) (n : Node) → AllZip (IsPart files area) nodes parts → IsMember n nodes → (points : List Point) × HasTile files n.0 n.1 points
there-tile files area [] parts n each m = absurd m
there-tile files area (x ∷ nodes) [] n each m = absurd each
there-tile files area (x ∷ nodes) (p ∷ parts) n each (inl is) = (each.0.points, subst (λ (y : Node). HasTile files y.0 y.1 each.0.points) is each.0.has)
there-tile files area (x ∷ nodes) (p ∷ parts) n each (inr m) = there-tile files area nodes parts n each.1 m

-- if keys rise, the keys of the list before a key are in the list before that key's place
stands-first : (front back : List Node) (node other : Node) → IsRising key_before (keys_of (front ++ node ∷ back)) → IsMember other (front ++ node ∷ back) → IsBefore other.0 node.0 → IsMember other front
stands-first [] back node other rise (inl is) less =
    (let below : key_cmp other.0 node.0 ≡ Less = key_cmp-before other.0 node.0 less in
    let tied : key_cmp other.0 node.0 ≡ Equal = key_cmp-same other.0 node.0 (sym (ap (λ (n : Node). n.0) is)) in
    let wrong : Less ≡ Equal = sym below ∙ tied in absurd (cc))
stands-first [] back node other rise (inr m) less =
    (let up : key_before node.0 other.0 ≡ true = rise.0 other.0 (IsMember-map (λ (n : Node). n.0) other back m) in
    let below : key_cmp other.0 node.0 ≡ Less = key_cmp-before other.0 node.0 less in
    let back' : key_cmp node.0 other.0 ≡ Greater = key_cmp_total.antisymm node.0 other.0 ∙ ap ordering_reverse below in
    let wrong : false ≡ true = sym (ap is_lt back') ∙ up in absurd (cc))
stands-first (x ∷ front) back node other rise (inl is) less = inl is
stands-first (x ∷ front) back node other rise (inr m) less = inr (stands-first front back node other rise.1 m less)

first-tile : (sift : Option Sift) (area : Box3) (first last : ℕ) (plan : Plan) (key : VoxelKey) (old new : Option (List ℕ)) (files : Files) (is : IsPlanFor area first last plan files) → WritesBefore sift plan key old new files → (kept : Kept) → IsBuiltWith files kept → IsFirstTile (search_of kept area first last) files key
first-tile sift area first last plan key old new files is w kept built = record {
  each = is.each kept built;
  count = w.count;
  planned = ((is.tiles kept built).each key w.count).0 (contains-IsMember (key, w.count) plan.tiles (subst (λ (ns : List Node). IsMember (key, w.count) ns) (sym w.split) (IsMember-right (key, w.count) w.front ((key, w.count) ∷ w.back) (inl refl))));
  damaged = w.damaged;
  first = λ other n planned less. there-tile files plan.area w.front w.parts (other, n) w.read
      (stands-first w.front w.back (key, w.count) (other, n) (subst (λ (ns : List Node). IsRising key_before (keys_of ns)) w.split (IsRising-AllPairs (keys_of plan.tiles) (is.tiles kept built).ascend))
      (subst (λ (ns : List Node). IsMember (other, n) ns) w.split (IsMember-contains (other, n) plan.tiles (((is.tiles kept built).each other n).1 planned))) less);
}

-- ---- where the tiles end

module _ (sift : Option Sift) (area : Box3) (first last : ℕ) (plan : Plan) (area_is : plan.area ≡ area) (before now : Option Files) (is_plan : Tells (IsPlanFor area first last plan) before) (steps : StepsBy SameFiles before now) where
  pub tiles-answer : (old new : Option (List ℕ)) (count : ℕ) → Tells (WritesAll sift plan old new count) now → Tells (Selects sift area first last old new count) before
  tiles-answer old new count written = tells-from (Selects sift area first last old new count) before (λ all is. record {
    plan = plan;
    is_plan = told (IsPlanFor area first last plan) before all is is_plan;
    area_is = area_is;
    writes = told-back (WritesAll sift plan old new count) (all-back sift plan old new count) before now all is steps written;
  })

  stops-query : (old new : Option (List ℕ)) → Tells (WritesFront sift plan old new) now → Tells (Stops sift area first last old new) before
  stops-query old new written = tells-from (Stops sift area first last old new) before (λ all is. record {
    plan = plan;
    is_plan = told (IsPlanFor area first last plan) before all is is_plan;
    area_is = area_is;
    writes = told-back (WritesFront sift plan old new) (front-back sift plan old new) before now all is steps written;
  })

  pub tiles-leave : (old new : Option (List ℕ)) (error : QueryError) → LeavesTiles sift plan now old new error → LeavesSelection sift area first last before old new error
  tiles-leave old new NotComplete left = absurd left
  tiles-leave old new StoreFault left = inr (stops-query old new left)
  tiles-leave old new SinkFault left = stops-query old new left
  tiles-leave old new Memory left = inr (stops-query old new left)
  tiles-leave old new (Damaged BuildJson) left = absurd left
  tiles-leave old new (Damaged (Hierarchy key)) left = absurd left
  tiles-leave old new (Damaged (Tile key)) left = tells-from (StopsAt sift area first last key old new) before (λ all is. record {
    plan = plan;
    is_plan = told (IsPlanFor area first last plan) before all is is_plan;
    area_is = area_is;
    writes = told-back (WritesBefore sift plan key old new) (before-back sift plan key old new) before now all is steps left;
  })

  pub tiles-refuse : (old new : Option (List ℕ)) (error : QueryError) → LeavesTiles sift plan now old new error → RefusesQuery area first last before error
  tiles-refuse old new NotComplete left = absurd left
  tiles-refuse old new StoreFault left = tt
  tiles-refuse old new SinkFault left = tt
  tiles-refuse old new Memory left = tt
  tiles-refuse old new (Damaged BuildJson) left = absurd left
  tiles-refuse old new (Damaged (Hierarchy key)) left = absurd left
  tiles-refuse old new (Damaged (Tile key)) left = tells-from (λ all. IsDone all × IsFirstDamaged area first last (Tile key) all) before (λ all is. (
      let p = told (IsPlanFor area first last plan) before all is is_plan in
      let w = told-back (WritesBefore sift plan key old new) (before-back sift plan key old new) before now all is steps left in
      (p.done, (p.build, λ kept built. first-tile sift area first last plan key old new all p w kept built))))

  pub tiles-left : (old new : Option (List ℕ)) (r : Result ℕ QueryError) → IfErr r (LeavesTiles sift plan now old new) → IfErr r (LeavesSelection sift area first last before old new)
  tiles-left old new (Ok count) left = tt
  tiles-left old new (Err error) left = tiles-leave old new error left

  pub tiles-refused : (old new : Option (List ℕ)) (r : Result ℕ QueryError) → IfErr r (LeavesTiles sift plan now old new) → IfErr r (RefusesQuery area first last before)
  tiles-refused old new (Ok count) left = tt
  tiles-refused old new (Err error) left = tiles-refuse old new error left

  pub gets-tiles : (old mid new : ℕ) → Tells (GetsFiles area first last old mid) before → new ≤ mid + length plan.tiles → Tells (GetsAll area first last old new) before
  gets-tiles old mid new few more = tells-from (GetsAll area first last old new) before (λ all is needed planned each others. (
      let most = told (GetsFiles area first last old mid) before all is few needed each in
      let count = plan-size area first last plan all (told (IsPlanFor area first last plan) before all is is_plan) planned others in
      omega (arith, most, count, more)))

  gets-up-to : (key : VoxelKey) (old mid new : ℕ) → Tells (GetsFiles area first last old mid) before → GetsTo plan key mid new → Tells (GetsUpTo area first last key old new) before
  gets-up-to key old mid new few to = tells-from (GetsUpTo area first last key old new) before (λ all is needed planned each others. (
      let p = told (IsPlanFor area first last plan) before all is is_plan in
      let most = told (GetsFiles area first last old mid) before all is few needed each in
      let kept : Kept = p.build.0 in
      let built : IsBuiltWith all kept = p.build.1 in
      let made = p.tiles kept built in
      let keys : List VoxelKey = keys_of plan.tiles in
      let size : length keys ≡ length plan.tiles = length-map plan.tiles (λ (n : Node). n.0) in
      let within : to.number < length keys = (let inside = to.within in omega (arith, size, inside)) in
      let at : get_or keys to.number root ≡ key = get_or-map (λ (n : Node). n.0) plan.tiles to.number (root, 0) root to.within ∙ to.key_is in
      let count : to.number + 1 ≤ length planned = few-up-to keys planned to.number made.ascend within (λ other has up. (
      let found = member-map (λ (n : Node). n.0) other plan.tiles (IsMember-contains other keys has) in
      let n : Node = found.0 in
      let is_planned = subst (λ (k : VoxelKey). IsPlanned (search_of kept area first last) all k n.1) found.2 ((made.each n.0 n.1).0 (contains-IsMember n plan.tiles found.1)) in
      others kept built other n.1 is_planned (up-to other (get_or keys to.number root) key at up))) in
      let last_few = to.few in
      omega (arith, most, count, last_few)))
    where
      up-to : (other at key : VoxelKey) → at ≡ key → (other ≡ at) ⊎ (key_cmp other at ≡ Less) → (other ≡ key) ⊎ IsBefore other key
      up-to other at key is (inl same) = inl (same ∙ is)
      up-to other at key is (inr less) = inr (subst (IsBefore other) is (key_cmp-less other at less))

  tiles-get : (old mid new : ℕ) (was then : Option (List ℕ)) (error : QueryError) → Tells (GetsFiles area first last old mid) before → new ≤ mid + length plan.tiles → LeavesTiles sift plan now was then error → ((key : VoxelKey) → error ≡ Damaged (Tile key) → GetsTo plan key mid new) → Tells (GetsBefore area first last old new error) before
  tiles-get old mid new was then NotComplete few more left to = absurd left
  tiles-get old mid new was then StoreFault few more left to = gets-tiles old mid new few more
  tiles-get old mid new was then SinkFault few more left to = gets-tiles old mid new few more
  tiles-get old mid new was then Memory few more left to = gets-tiles old mid new few more
  tiles-get old mid new was then (Damaged BuildJson) few more left to = absurd left
  tiles-get old mid new was then (Damaged (Hierarchy key)) few more left to = absurd left
  tiles-get old mid new was then (Damaged (Tile key)) few more left to = gets-up-to key old mid new few (to key refl)

  pub tiles-got : (old mid new : ℕ) (was then : Option (List ℕ)) (r : Result ℕ QueryError) → Tells (GetsFiles area first last old mid) before → new ≤ mid + length plan.tiles → IfErr r (LeavesTiles sift plan now was then) → ((key : VoxelKey) → r ≡ Err (Damaged (Tile key)) → GetsTo plan key mid new) → IfErr r (λ (e : QueryError). Tells (GetsBefore area first last old new e) before)
  tiles-got old mid new was then (Ok count) few more left to = tt
  tiles-got old mid new was then (Err error) few more left to = tiles-get old mid new was then error few more left (λ key is. to key (ap Err is))
