-- From what the calls of a query say of the files that they read to what is so of the files at the start.
use Rattle.std.proofs.Common.{◌≡◌, ◌≢◌, ◌∙◌, ◌+◌, ◌≤◌, ℕ, List, length, refl, sym, ap, subst, inl, inr, arith, Option, Some, Result, Ok, Err}
use Rattle.std.specs.Prelude.{◌↔◌, IfOk, IsTrue, Bool, true, false}
use Rattle.ept_base.specs.Files.{Files, SameFiles, StepsBy, Tells}
use Rattle.ept_space.specs.declared.box3.Box3.{Box3}
use Rattle.ept_space.specs.VoxelKey.{VoxelKey}
use Rattle.ept_config.specs.declared.kept.Kept.{Kept}
use Rattle.ept_hier.specs.Hierarchy.{Node}
use Rattle.ept_meta.specs.Output.{build_file_name}
use Rattle.ept_save.specs.Done.{IsDone}
use Rattle.ept_save.specs.Names.{done_name}
use Rattle.ept_query.specs.declared.search.Search.{Search}
use Rattle.ept_query.specs.declared.query_error.QueryFile.TheVariants.{BuildJson, Hierarchy, Tile}
use Rattle.ept_query.specs.declared.query_error.QueryError.{QueryError}
use Rattle.ept_query.specs.declared.query_error.QueryError.TheVariants.{NotComplete, StoreFault, Damaged, SinkFault, Memory}
use Rattle.ept_query.specs.Causes.{IsStores}
use Rattle.ept_query.specs.Search.{search_of}
use Rattle.ept_query.specs.Plan.{IsBuiltWith, IsNeeded, at_root, behind, EachIsThere, IsPlanned, IsPlan, HasNeeded}
use Rattle.ept_query.specs.Damage.{HasNoBuild, IsFirstHierarchy, IsFirstDamaged, RefusesReading, RefusesWalk}
use Rattle.ept_query.specs.Parts.{Plan}
use Rattle.ept_query.specs.Planning.{IsBuiltOnly, IsSearchFor, IsPlanFor, GetsFiles}
use Rattle.ept_query.specs.Refusals.{RefusesStart, RefusesPlan}
use Rattle.ept_query.proofs.Plans.{hierarchy-back, no-hierarchy-back}
use Rattle.ept_meta.specs.BuildText.{build_text}
use Rattle.ept_query.proofs.Readings.{some-is}
use Rattle.ept_query.proofs.Told.{tells-from, told, told-back}

-- ---- files that read as before

back : (old new : Files) → SameFiles old new → SameFiles new old
back old new same = λ name. sym (same name)

done-back : (old new : Files) → SameFiles old new → IsDone new → IsDone old
done-back old new same done = sym (same done_name) ∙ done

built-back : (kept : Kept) (old new : Files) → SameFiles old new → IsBuiltWith new kept → IsBuiltWith old kept
built-back kept old new same built = sym (same build_file_name) ∙ built

no-build-back : (old new : Files) → SameFiles old new → HasNoBuild new → HasNoBuild old
no-build-back old new same none = λ kept built. none kept (built-back kept new old (back old new same) built)

module _ (search : Search) where
  needed-back : (old new : Files) → SameFiles old new → (key : VoxelKey) → IsNeeded search new key → IsNeeded search old key
  needed-back old new same key (at_root meets) = at_root meets
  needed-back old new same key (behind top key' entries needed file has meets) =
      behind top key' entries (needed-back old new same top needed) (hierarchy-back search top entries old new same file) has meets

  each-back : (old new : Files) → SameFiles old new → EachIsThere search new → EachIsThere search old
  each-back old new same each = λ key needed. (let there = each key (needed-back new old (back old new same) key needed) in (there.0, hierarchy-back search key there.0 old new same there.1))

  planned-back : (key : VoxelKey) (count : ℕ) (old new : Files) → SameFiles old new → IsPlanned search new key count → IsPlanned search old key count
  planned-back key count old new same plan = record {
    top = plan.top;
    needed = needed-back old new same plan.top plan.needed;
    entries = plan.entries;
    file = hierarchy-back search plan.top plan.entries old new same plan.file;
    counted = plan.counted;
    has_depth = plan.has_depth;
    meets = plan.meets;
  }

  plan-back : (tiles : List Node) (old new : Files) → SameFiles old new → IsPlan search new tiles → IsPlan search old tiles
  plan-back tiles old new same plan = record {
    ascend = plan.ascend;
    each = λ key count. (
      (λ has. planned-back key count old new same ((plan.each key count).0 has)),
      (λ planned. (plan.each key count).1 (planned-back key count new old (back old new same) planned)),
    );
  }

  first-back : (key : VoxelKey) (old new : Files) → SameFiles old new → IsFirstHierarchy search new key → IsFirstHierarchy search old key
  first-back key old new same first = record {
    needed = needed-back old new same key first.needed;
    damaged = no-hierarchy-back search key old new same first.damaged;
    first = λ other needed less. (let there = first.first other (needed-back new old (back old new same) other needed) less in (there.0, hierarchy-back search other there.0 old new same there.1));
  }

-- ---- the start

pub stores-start : (files : Option Files) (error : QueryError) → IsStores error → RefusesStart files error
stores-start files error (inl is) = subst (λ (e : QueryError). RefusesStart files e) (sym is) tt
stores-start files error (inr is) = subst (λ (e : QueryError). RefusesStart files e) (sym is) tt

pub build-start : (before now : Option Files) (error : QueryError) → Tells IsDone before → StepsBy SameFiles before now → RefusesReading BuildJson HasNoBuild now error → RefusesStart before error
build-start before now NotComplete done steps refused = absurd refused
build-start before now StoreFault done steps refused = tt
build-start before now SinkFault done steps refused = absurd refused
build-start before now Memory done steps refused = tt
build-start before now (Damaged BuildJson) done steps refused = tells-from (λ all. IsDone all × HasNoBuild all) before (λ all is. (told IsDone before all is done, told-back HasNoBuild no-build-back before now all is steps refused.1))
build-start before now (Damaged (Hierarchy key)) done steps refused = (let wrong = refused.0 in absurd (cc))
build-start before now (Damaged (Tile key)) done steps refused = (let wrong = refused.0 in absurd (cc))

pub done-found : (done : Bool) (files : Option Files) → done ≡ true → Tells (λ all. IsTrue done ↔ IsDone all) files → Tells IsDone files
done-found true files is done = tells-from IsDone files (λ all at. (told (λ (f : Files). IsTrue true ↔ IsDone f) files all at done).0 refl)
done-found false files is done = absurd (cc)

only-back : (kept : Kept) (old new : Files) → SameFiles old new → IsBuiltOnly kept new → IsBuiltOnly kept old
only-back kept old new same is = record {
  built = built-back kept old new same is.built;
  only = λ other built. is.only other (built-back other new old (back old new same) built);
}

pub found-start : (area : Box3) (first last : ℕ) (kept : Kept) (search : Search) (before now : Option Files) → search ≡ search_of kept area first last → Tells IsDone before → StepsBy SameFiles before now → Tells (IsBuiltOnly kept) now → Tells (IsSearchFor area first last search) before
found-start area first last kept search before now is done steps built = tells-from (IsSearchFor area first last search) before (λ all told'. (
    let b = told-back (IsBuiltOnly kept) (only-back kept) before now all told' steps built in
    record {
      done = told IsDone before all told' done;
      build = (kept, b.built);
      search_is = λ other built'. is ∙ ap (λ (k : Kept). search_of k area first last) (sym (b.only other built'));
    }))

-- what the bytes of the build file are read as
pub built-only : (files : Option Files) (name bytes : List ℕ) → name ≡ build_file_name → Tells (λ all. all name ≡ Some bytes) files → (r : Result Kept QueryError) → IfOk r (λ kept. bytes ≡ build_text kept) → IfOk r (λ kept. (other : Kept) → bytes ≡ build_text other → other ≡ kept) → IfOk r (λ kept. Tells (IsBuiltOnly kept) files)
built-only files name bytes named there (Ok kept) text only = tells-from (IsBuiltOnly kept) files (λ all is. (
    let at = told (λ (f : Files). f name ≡ Some bytes) files all is there in
    record {
      built = ap all (sym named) ∙ (at ∙ ap (λ (b : List ℕ). Some b) text);
      only = λ other built. only other (some-is (sym at ∙ (ap all named ∙ built)));
    }))
built-only files name bytes named there (Err error) text only = tt

pub no-build : (files : Option Files) (name bytes : List ℕ) → name ≡ build_file_name → Tells (λ all. all name ≡ Some bytes) files → ((other : Kept) → bytes ≢ build_text other) → Tells HasNoBuild files
no-build files name bytes named there none = tells-from HasNoBuild files (λ all is kept built. (
    let at = told (λ (f : Files). f name ≡ Some bytes) files all is there in
    none kept (some-is (sym at ∙ (ap all named ∙ built)))))

-- ---- the plan

pub start-plan : (area : Box3) (first last : ℕ) (files : Option Files) (error : QueryError) → RefusesStart files error → RefusesPlan area first last files error
start-plan area first last files NotComplete refused = refused
start-plan area first last files StoreFault refused = tt
start-plan area first last files SinkFault refused = absurd refused
start-plan area first last files Memory refused = tt
start-plan area first last files (Damaged BuildJson) refused = refused
start-plan area first last files (Damaged (Hierarchy key)) refused = absurd refused
start-plan area first last files (Damaged (Tile key)) refused = absurd refused

module _ (area : Box3) (first last : ℕ) (search : Search) (before now : Option Files) (found : Tells (IsSearchFor area first last search) before) (steps : StepsBy SameFiles before now) where
  pub walk-plan : (error : QueryError) → RefusesWalk search now error → RefusesPlan area first last before error
  walk-plan NotComplete refused = absurd refused
  walk-plan StoreFault refused = tt
  walk-plan SinkFault refused = absurd refused
  walk-plan Memory refused = tt
  walk-plan (Damaged BuildJson) refused = absurd refused
  walk-plan (Damaged (Tile key)) refused = absurd refused
  walk-plan (Damaged (Hierarchy key)) refused = tells-from (λ all. IsDone all × IsFirstDamaged area first last (Hierarchy key) all) before (λ all is. (
      let s = told (IsSearchFor area first last search) before all is found in
      let one = told-back (λ (f : Files). IsFirstHierarchy search f key) (first-back search key) before now all is steps refused in
      (s.done, (s.build, λ kept built. subst (λ (q : Search). IsFirstHierarchy q all key) (s.search_is kept built) one))))

  pub found-plan : (plan : Plan) → Tells (λ all. EachIsThere search all × IsPlan search all plan.tiles) now → Tells (IsPlanFor area first last plan) before
  found-plan plan walked = tells-from (IsPlanFor area first last plan) before (λ all is. (
      let s = told (IsSearchFor area first last search) before all is found in
      let w = told-back (λ (f : Files). EachIsThere search f × IsPlan search f plan.tiles) (λ old new same both. (each-back search old new same both.0, plan-back search plan.tiles old new same both.1)) before now all is steps walked in
      record {
        done = s.done;
        build = s.build;
        each = λ kept built. subst (λ (q : Search). EachIsThere q all) (s.search_is kept built) w.0;
        tiles = λ kept built. subst (λ (q : Search). IsPlan q all plan.tiles) (s.search_is kept built) w.1;
      }))

  pub gets-plan : (old mid new : ℕ) → mid ≤ old + 2 → Tells (λ all. (keys : List VoxelKey) → HasNeeded search all keys → new ≤ mid + length keys) now → Tells (GetsFiles area first last old new) before
  gets-plan old mid new two few = tells-from (GetsFiles area first last old new) before (λ all is needed each. (
      let s = told (IsSearchFor area first last search) before all is found in
      let has : HasNeeded search all needed = subst (λ (q : Search). HasNeeded q all needed) (sym (s.search_is s.build.0 s.build.1)) (each s.build.0 s.build.1) in
      let most = told-back (λ (f : Files). HasNeeded search f needed → new ≤ mid + length needed) (λ a b same bound has'. bound (λ key n. has' key (needed-back search a b same key n))) before now all is steps (keys-now needed) in
      let bound = most has in
      omega (arith, bound, two)))
    where
      keys-now : (needed : List VoxelKey) → Tells (λ all. HasNeeded search all needed → new ≤ mid + length needed) now
      keys-now needed = tells-from (λ all. HasNeeded search all needed → new ≤ mid + length needed) now (λ all is. told (λ (f : Files). (keys : List VoxelKey) → HasNeeded search f keys → new ≤ mid + length keys) now all is few needed)

-- if nothing was looked for
pub gets-start : (area : Box3) (first last : ℕ) (files : Option Files) (old new : ℕ) → new ≤ old + 2 → Tells (GetsFiles area first last old new) files
gets-start area first last files old new two = tells-from (GetsFiles area first last old new) files (λ all is needed each. omega (arith, two))
