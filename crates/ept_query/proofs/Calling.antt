-- The refusal that the files call for is unique, and is returned.
use Rattle.std.proofs.Common.{◌≡◌, ◌∙◌, ℕ, List, refl, ap, inl, inr, ◌⊎◌, ⊎_elim, Option, Some, Result, Ok, Err, Ordering, Less, Equal, Greater}
use Rattle.std.specs.Prelude.{IfOk, IfErr}
use Rattle.std.specs.Ordering.{ordering_reverse}
use Rattle.ept_base.specs.Files.{Files, Tells}
use Rattle.ept_space.specs.declared.box3.Box3.{Box3}
use Rattle.ept_space.specs.VoxelKey.{VoxelKey, IsBefore, key_cmp}
use Rattle.ept_space.proofs.KeyOrder.{key_cmp_total, key_cmp-less, key_cmp-equal}
use Rattle.ept_sample.proofs.Members.{IsMember-contains}
use Rattle.ept_save.specs.Done.{IsDone}
use Rattle.ept_filter.specs.declared.sift.Sift.{Sift}
use Rattle.ept_query.specs.declared.search.Search.{Search}
use Rattle.ept_query.specs.declared.query_error.QueryFile.{QueryFile}
use Rattle.ept_query.specs.declared.query_error.QueryFile.TheVariants.{BuildJson, Hierarchy, Tile}
use Rattle.ept_query.specs.declared.query_error.QueryError.{QueryError}
use Rattle.ept_query.specs.declared.query_error.QueryError.TheVariants.{NotComplete, StoreFault, Damaged, SinkFault, Memory}
use Rattle.ept_query.specs.Search.{search_of}
use Rattle.ept_query.specs.Damage.{IsFirstHierarchy, IsFirstTile, IsFirstDamaged}
use Rattle.ept_query.specs.Parts.{Plan}
use Rattle.ept_query.specs.Planning.{IsPlanFor}
use Rattle.ept_query.specs.Refusals.{RefusesPlan, RefusesQuery, CallsOfPlan, CallsOfQuery, AnswersOrFails, RefusesAsCalled}
use Rattle.ept_query.specs.Answers.{Selects}
use Rattle.ept_query.specs.Complete.{IsDevices}
use Rattle.ept_query.proofs.Told.{told}
use Rattle.ept_query.proofs.Querying.{plan-query, there-tile}

-- ---- one file is the first

by-order : (one two : VoxelKey) → ¬ IsBefore one two → ¬ IsBefore two one → one ≡ two
by-order one two up down = by_cmp (key_cmp one two) refl
  where
    by_cmp : (o : Ordering) → key_cmp one two ≡ o → one ≡ two
    by_cmp Less is = absurd (up (key_cmp-less one two is))
    by_cmp Equal is = key_cmp-equal one two is
    by_cmp Greater is = absurd (down (key_cmp-less two one (key_cmp_total.antisymm two one ∙ ap ordering_reverse is)))

hierarchy-once : (search : Search) (files : Files) (one two : VoxelKey) → IsFirstHierarchy search files one → IsFirstHierarchy search files two → one ≡ two
hierarchy-once search files one two a b =
    by-order one two (λ less. (let there = b.first one a.needed less in a.damaged there.0 there.1)) (λ less. (let there = a.first two b.needed less in b.damaged there.0 there.1))

first-once : (search : Search) (files : Files) (one two : VoxelKey) → IsFirstTile search files one → IsFirstTile search files two → one ≡ two
first-once search files one two a b =
    by-order one two (λ less. (let there = b.first one a.count a.planned less in a.damaged there.0 there.1)) (λ less. (let there = a.first two b.count b.planned less in b.damaged there.0 there.1))

module _ (area : Box3) (first last : ℕ) (files : Files) where
  damaged-once : (one two : QueryFile) → IsFirstDamaged area first last one files → IsFirstDamaged area first last two files → one ≡ two
  damaged-once BuildJson BuildJson a b = refl
  damaged-once BuildJson (Hierarchy key) a b = absurd (a b.0.0 b.0.1)
  damaged-once BuildJson (Tile key) a b = absurd (a b.0.0 b.0.1)
  damaged-once (Hierarchy key) BuildJson a b = absurd (b a.0.0 a.0.1)
  damaged-once (Hierarchy one) (Hierarchy two) a b = ap (λ (k : VoxelKey). Hierarchy k) (hierarchy-once (search_of a.0.0 area first last) files one two (a.1 a.0.0 a.0.1) (b.1 a.0.0 a.0.1))
  damaged-once (Hierarchy one) (Tile two) a b = (let x = a.1 a.0.0 a.0.1 in let y = b.1 a.0.0 a.0.1 in let there = y.each one x.needed in absurd (x.damaged there.0 there.1))
  damaged-once (Tile key) BuildJson a b = absurd (b a.0.0 a.0.1)
  damaged-once (Tile one) (Hierarchy two) a b = (let x = a.1 a.0.0 a.0.1 in let y = b.1 a.0.0 a.0.1 in let there = x.each two y.needed in absurd (y.damaged there.0 there.1))
  damaged-once (Tile one) (Tile two) a b = ap (λ (k : VoxelKey). Tile k) (first-once (search_of a.0.0 area first last) files one two (a.1 a.0.0 a.0.1) (b.1 a.0.0 a.0.1))

  pub called-once : (one two : QueryError) → CallsOfQuery area first last one files → CallsOfQuery area first last two files → one ≡ two
  called-once NotComplete NotComplete a b = refl
  called-once NotComplete StoreFault a b = absurd b
  called-once NotComplete (Damaged file) a b = absurd (a b.0)
  called-once NotComplete SinkFault a b = absurd b
  called-once NotComplete Memory a b = absurd b
  called-once StoreFault two a b = absurd a
  called-once SinkFault two a b = absurd a
  called-once Memory two a b = absurd a
  called-once (Damaged file) NotComplete a b = absurd (b a.0)
  called-once (Damaged file) StoreFault a b = absurd b
  called-once (Damaged one) (Damaged two) a b = ap (λ (f : QueryFile). Damaged f) (damaged-once one two a.1 b.1)
  called-once (Damaged file) SinkFault a b = absurd b
  called-once (Damaged file) Memory a b = absurd b

  pub of-plan : (error : QueryError) → CallsOfPlan area first last error files → CallsOfQuery area first last error files
  of-plan NotComplete called = called
  of-plan StoreFault called = absurd called
  of-plan (Damaged BuildJson) called = called
  of-plan (Damaged (Hierarchy key)) called = called
  of-plan (Damaged (Tile key)) called = absurd called
  of-plan SinkFault called = absurd called
  of-plan Memory called = absurd called

  -- if there is a plan, only a refusal of a tile is called for
  pub plan-uncalled : (plan : Plan) → IsPlanFor area first last plan files → (error : QueryError) → CallsOfPlan area first last error files → ⊥
  plan-uncalled plan is NotComplete called = called is.done
  plan-uncalled plan is StoreFault called = called
  plan-uncalled plan is (Damaged BuildJson) called = called.1 is.build.0 is.build.1
  plan-uncalled plan is (Damaged (Hierarchy key)) called =
      let x = called.1.1 is.build.0 is.build.1 in let there = is.each is.build.0 is.build.1 key x.needed in x.damaged there.0 there.1
  plan-uncalled plan is (Damaged (Tile key)) called = called
  plan-uncalled plan is SinkFault called = called
  plan-uncalled plan is Memory called = called

  query-uncalled : (sift : Option Sift) (old new : Option (List ℕ)) (count : ℕ) → Selects sift area first last old new count files → (error : QueryError) → CallsOfQuery area first last error files → ⊥
  query-uncalled sift old new count is NotComplete called = called is.is_plan.done
  query-uncalled sift old new count is StoreFault called = called
  query-uncalled sift old new count is (Damaged BuildJson) called = plan-uncalled is.plan is.is_plan (Damaged BuildJson) called
  query-uncalled sift old new count is (Damaged (Hierarchy key)) called = plan-uncalled is.plan is.is_plan (Damaged (Hierarchy key)) called
  query-uncalled sift old new count is (Damaged (Tile key)) called = (
      let kept = is.is_plan.build.0 in
      let built = is.is_plan.build.1 in
      let x = called.1.1 kept built in
      let m = IsMember-contains (key, x.count) is.plan.tiles (((is.is_plan.tiles kept built).each key x.count).1 x.planned) in
      let there = there-tile files is.plan.area is.plan.tiles is.writes.parts (key, x.count) is.writes.read m in
      x.damaged there.0 there.1)
  query-uncalled sift old new count is SinkFault called = called
  query-uncalled sift old new count is Memory called = called

-- ---- what a refusal says

device-answers : (T : Type 0) (found error : QueryError) → IsDevices found → AnswersOrFails {T = T} (Err found) error
device-answers T NotComplete error is = absurd is
device-answers T StoreFault error is = inr (inl refl)
device-answers T (Damaged file) error is = absurd is
device-answers T SinkFault error is = inr (inr (inl refl))
device-answers T Memory error is = inr (inr (inr refl))

-- a refusal is called for, or a device failed, or memory ran out
pub refusal-called : (area : Box3) (first last : ℕ) (files : Option Files) (all : Files) → files ≡ Some all → (error : QueryError) → RefusesQuery area first last files error → CallsOfQuery area first last error all ⊎ IsDevices error
refusal-called area first last files all is NotComplete refused = inl (told (λ (f : Files). ¬ IsDone f) files all is refused)
refusal-called area first last files all is StoreFault refused = inr tt
refusal-called area first last files all is (Damaged file) refused = inl (told (λ (f : Files). IsDone f × IsFirstDamaged area first last file f) files all is refused)
refusal-called area first last files all is SinkFault refused = inr tt
refusal-called area first last files all is Memory refused = inr tt

pub refusal-as : (T : Type 0) (area : Box3) (first last : ℕ) (files : Option Files) (all : Files) → files ≡ Some all → (found error : QueryError) → RefusesQuery area first last files found → CallsOfQuery area first last error all → AnswersOrFails {T = T} (Err found) error
refusal-as T area first last files all is found error refused called =
    ⊎_elim (λ (c : CallsOfQuery area first last found all). inl (ap (λ (e : QueryError). let r : Result T QueryError = Err e in r) (called-once area first last all found error c called))) (λ (d : IsDevices found). device-answers T found error d) (refusal-called area first last files all is found refused)

pub plan-comes : (area : Box3) (first last : ℕ) (files : Option Files) (r : Result Plan QueryError) → IfOk r (λ plan. Tells (IsPlanFor area first last plan) files) → IfErr r (RefusesPlan area first last files) → RefusesAsCalled (CallsOfPlan area first last) files r
plan-comes area first last files (Ok plan) made refused = λ all is error called. absurd (plan-uncalled area first last all plan (told (IsPlanFor area first last plan) files all is made) error called)
plan-comes area first last files (Err found) made refused = λ all is error called. refusal-as Plan area first last files all is found error (plan-query area first last files found refused) (of-plan area first last all error called)

pub query-comes : (sift : Option Sift) (area : Box3) (first last : ℕ) (files : Option Files) (old new : Option (List ℕ)) (r : Result ℕ QueryError) → IfOk r (λ count. Tells (Selects sift area first last old new count) files) → IfErr r (RefusesQuery area first last files) → RefusesAsCalled (CallsOfQuery area first last) files r
query-comes sift area first last files old new (Ok count) answered refused = λ all is error called. absurd (query-uncalled area first last all sift old new count (told (Selects sift area first last old new count) files all is answered) error called)
query-comes sift area first last files old new (Err found) answered refused = λ all is error called. refusal-as ℕ area first last files all is found error refused called
