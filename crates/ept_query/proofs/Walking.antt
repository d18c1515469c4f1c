-- The walk over the hierarchy files, in key order: which were read, which are still to be read, and the counts so far.
use Rattle.std.proofs.Common.{◌≡◌, ◌∙◌, ◌+◌, ◌*◌, ◌<◌, ◌≤◌, ℕ, suc, List, [], ◌∷◌, ◌++◌, get_or, refl, sym, ap, subst, inl, inr, ◌⊎◌, ⊎_elim, arith, Option, Some, None, Less, Equal, Greater, Bool, true, false, ◌&&◌}
use Rattle.std.specs.Prelude.{pos, negsuc, IsSome, nat_lt, ◌==◌, nat_le, ◌||◌}
use Rattle.std.specs.List.{All, Contains}
use Rattle.std.specs.Ordering.{ordering_reverse}
use Rattle.std.proofs.lemmas.Bool.{cases_lt, false≢true}
use Rattle.std.proofs.lemmas.Bool.Decides.{nat_tests}
use Rattle.std.proofs.Math.Nat.{mul-le-mul_right}
use Rattle.std.proofs.lemmas.List.Elements.{All-contains, Contains-get_or, Contains-append_left, Contains-push, Contains-push_cases}
use Rattle.std.proofs.lemmas.List.Quantifiers.{all_pairs_push}
use Rattle.ept_base.specs.Files.{Files}
use Rattle.ept_space.specs.VoxelKey.{VoxelKey, root, is_within, IsBefore, key_cmp, AreAscending}
use Rattle.ept_space.proofs.KeyOrder.{key_cmp_total, key_cmp-less, key_cmp-before, key_cmp-same}
use Rattle.ept_space.proofs.Within.{depth-within, is_within-unique}
use Rattle.ept_sample.proofs.Members.{IsMember-contains, contains-IsMember}
use Rattle.ept_hier.specs.Hierarchy.{Entry, stands_in, is_link}
use Rattle.ept_hier.specs.Reading.{IsReading}
use Rattle.ept_query.specs.declared.search.Search.{Search}
use Rattle.ept_query.specs.Search.{MeetsArea, HasDepth}
use Rattle.ept_query.specs.Hierarchies.{AreOf, IsEntryIn, HasHierarchy, HasNoHierarchy}
use Rattle.ept_query.specs.Plan.{IsNeeded, at_root, behind, EachIsThere, IsPlanned}
use Rattle.ept_query.specs.Damage.{IsFirstHierarchy}
use Rattle.ept_query.specs.Walk.{NotesLinks, NotesTiles}
use Rattle.ept_query.proofs.Readings.{some-is, readings-same, one-entry}

-- ---- one hierarchy file

both-true : (a b : Bool) → (a && b) ≡ true → (a ≡ true) × (b ≡ true)
both-true true true is = (refl, refl)
both-true true false is = absurd (cc)
both-true false b is = absurd (cc)

and-from : (a b : Bool) → a ≡ true → b ≡ true → (a && b) ≡ true
and-from a b one two = ap (λ (t : Bool). t && b) one ∙ two

-- a link is deeper than the key of its file
pub link-deeper : (step : ℕ) (top key : VoxelKey) → is_link step top key ≡ true → (0 < step) × (key.depth ≡ top.depth + step)
unfolding is_link
link-deeper step top key is =
    let parts = both-true (nat_lt 0 step) (key.depth == top.depth + step) is in
    (let t = parts.0 in grind (arith, nat_tests), let t = parts.1 in grind (arith, nat_tests))

pub link-as : (step : ℕ) (top key : VoxelKey) → 0 < step → key.depth ≡ top.depth + step → is_link step top key ≡ true
unfolding is_link
link-as step top key some level = and-from (nat_lt 0 step) (key.depth == top.depth + step) (grind (arith, nat_tests)) (grind (arith, nat_tests))

pub stands-within : (step : ℕ) (top key : VoxelKey) → stands_in step top key ≡ true → is_within top key ≡ true
unfolding stands_in
stands-within step top key is = (both-true (is_within top key) ((step == 0) || nat_le key.depth (top.depth + step)) is).0

pub stands-near : (step : ℕ) (top key : VoxelKey) → stands_in step top key ≡ true → 0 < step → key.depth ≤ top.depth + step
unfolding stands_in
stands-near step top key is some =
    let t = (both-true (is_within top key) ((step == 0) || nat_le key.depth (top.depth + step)) is).1 in grind (arith, nat_tests)

module _ (search : Search) (top : VoxelKey) (entries : List Entry) (form : AreOf search top entries) where
  each-in : (e : Entry) → Contains entries e → IsEntryIn search top e
  each-in e has = All-contains (IsEntryIn search top) entries e form.each has

  -- a link is after the key of its file
  pub link-after : (key : VoxelKey) → Contains entries (key, negsuc 0) → key_cmp top key ≡ Less
  link-after key has =
      let deeper = link-deeper search.step top key ((each-in (key, negsuc 0) has).link.0 refl) in
      let below : top.depth < key.depth = omega (arith, deeper.0, deeper.1) in
      key_cmp-before top key (inl below)

  pub link-level : (key : VoxelKey) → Contains entries (key, negsuc 0) → (0 < search.step) × (key.depth ≡ top.depth + search.step)
  link-level key has = link-deeper search.step top key ((each-in (key, negsuc 0) has).link.0 refl)

  -- what has a count is within the key of the file, and less deep than its links
  pub counted-within : (key : VoxelKey) (count : ℕ) → Contains entries (key, pos count) → is_within top key ≡ true
  counted-within key count has = stands-within search.step top key (each-in (key, pos count) has).stands

  pub counted-near : (key : VoxelKey) (count : ℕ) → Contains entries (key, pos count) → 0 < search.step → key.depth < top.depth + search.step
  counted-near key count has some =
      let near = stands-near search.step top key (each-in (key, pos count) has).stands some in
      elim (cases_lt key.depth (top.depth + search.step)) [
        | inl less ↦ less
        | inr above ↦ (
            let marked : pos count ≡ negsuc 0 = (each-in (key, pos count) has).link.1 (link-as search.step top key some (omega (arith, near))) in
            absurd (cc))
      ]

-- two ways to read the hierarchy file of a key have the same entries
pub hierarchy-same : (search : Search) (files : Files) (top : VoxelKey) (one two : List Entry) (e : Entry) → HasHierarchy search files top one → HasHierarchy search files top two → Contains one e → Contains two e
hierarchy-same search files top one two e x y has =
    let bytes : y.bytes ≡ x.bytes = some-is (sym y.there ∙ x.there) in
    readings-same x.bytes one two e x.reading (subst (λ (b : List ℕ). IsReading b two) bytes y.reading) has

-- the keys that are noted of a file are after its own, if the others are
pub links-behind : (search : Search) (top : VoxelKey) (entries : List Entry) (old new : List VoxelKey) → AreOf search top entries → NotesLinks search entries old new → All (λ (k : VoxelKey). key_cmp top k ≡ Less) old → All (λ (k : VoxelKey). key_cmp top k ≡ Less) new
links-behind search top entries old new form links above = λ k d within.
    let key : VoxelKey = get_or new k d in
    ⊎_elim (λ (was : Contains old key). All-contains (λ (q : VoxelKey). key_cmp top q ≡ Less) old key above was) (λ (link : Contains entries (key, negsuc 0) × MeetsArea search key). link-after search top entries form key link.0) (links.only key (Contains-get_or new k d within))

-- ---- where files are: a number of steps deep

level-once : (m n step depth : ℕ) → m * step ≤ depth → depth < m * step + step → n * step ≤ depth → depth < n * step + step → m ≡ n
level-once m n step depth a b c d =
    elim (cases_lt m n) [
      | inl less ↦ (let far : suc m * step ≤ n * step = mul-le-mul_right step (omega (arith, less)) in let next : suc m * step ≡ m * step + step = grind arith in absurd (omega (arith, far, next)))
      | inr above ↦ (elim (cases_lt n m) [
        | inl less ↦ (let far : suc n * step ≤ m * step = mul-le-mul_right step (omega (arith, less)) in let next : suc n * step ≡ n * step + step = grind arith in absurd (omega (arith, far, next)))
        | inr below ↦ omega arith
      ])
    ]

module _ (search : Search) (files : Files) where
  -- without a step there is one file, the root's
  pub needed-root : (key : VoxelKey) → search.step ≡ 0 → IsNeeded search files key → key ≡ root
  needed-root key none (at_root meets) = refl
  needed-root key none (behind top key' entries needed file has meets) =
      let level = link-level search top entries file.form key' has in absurd (omega (arith, level.0, none))

  pub needed-level : (key : VoxelKey) → IsNeeded search files key → (n : ℕ) × (key.depth ≡ n * search.step)
  needed-level key (at_root meets) = (0, grind arith)
  needed-level key (behind top key' entries needed file has meets) =
      let above = needed-level top needed in
      let level = link-level search top entries file.form key' has in
      (suc above.0, (let e = above.1 in let f = level.1 in let next : suc above.0 * search.step ≡ above.0 * search.step + search.step = grind arith in omega (arith, e, f, next)))

  -- one needed file has the count of a key
  pub planned-top : (key : VoxelKey) (m n : ℕ) (x : IsPlanned search files key m) (y : IsPlanned search files key n) → x.top ≡ y.top
  planned-top key m n x y =
      elim (cases_lt 0 search.step) [
        | inl some ↦ (
            let one = needed-level x.top x.needed in
            let two = needed-level y.top y.needed in
            let within_x = counted-within search x.top x.entries x.file.form key m x.counted in
            let within_y = counted-within search y.top y.entries y.file.form key n y.counted in
            let near_x = counted-near search x.top x.entries x.file.form key m x.counted some in
            let near_y = counted-near search y.top y.entries y.file.form key n y.counted some in
            let deep_x = depth-within x.top key within_x in
            let deep_y = depth-within y.top key within_y in
            let e = one.1 in
            let f = two.1 in
            let level : one.0 ≡ two.0 = level-once one.0 two.0 search.step key.depth (omega (arith, e, deep_x)) (omega (arith, e, near_x)) (omega (arith, f, deep_y)) (omega (arith, f, near_y)) in
            let same : x.top.depth ≡ y.top.depth = e ∙ (ap (λ (k : ℕ). k * search.step) level ∙ sym f) in
            is_within-unique x.top y.top key within_x within_y same)
        | inr none ↦ (
            let zero' : search.step ≡ 0 = omega (arith, none) in
            needed-root x.top zero' x.needed ∙ sym (needed-root y.top zero' y.needed))
      ]

  pub planned-once : (key : VoxelKey) (m n : ℕ) → IsPlanned search files key m → IsPlanned search files key n → m ≡ n
  planned-once key m n x y =
      let same : y.top ≡ x.top = sym (planned-top key m n x y) in
      let other : HasHierarchy search files x.top y.entries = subst (λ (k : VoxelKey). HasHierarchy search files k y.entries) same y.file in
      let has : Contains x.entries (key, pos n) = hierarchy-same search files x.top y.entries x.entries (key, pos n) other x.file y.counted in
      let e : let a : Entry = (key, pos m) in a ≡ (key, pos n) = one-entry x.file.bytes x.entries (key, pos m) (key, pos n) x.file.reading x.counted has refl in
      let number : pos m ≡ pos n = ap (λ (a : Entry). a.1) e in
      cc

-- ---- the walk

-- What was noted of a file that was read. Its links were followed or are still to be followed, and its counts are
-- found.
pub record IsRead (search : Search) (files : Files) (taken pending : List VoxelKey) (counts : VoxelKey → Option ℕ) (top : VoxelKey) : Type 0 where
  pub entries : List Entry
  pub file : HasHierarchy search files top entries
  pub links : (key : VoxelKey) → Contains entries (key, negsuc 0) → MeetsArea search key → Contains taken key ⊎ Contains pending key
  pub tiles : (key : VoxelKey) (count : ℕ) → Contains entries (key, pos count) → HasDepth search key → MeetsArea search key → IsSome (counts key)

-- the keys whose files were read are before those still to be read, and all of them are needed
pub record IsWalk (search : Search) (files : Files) (taken pending : List VoxelKey) (counts : VoxelKey → Option ℕ) : Type 0 where
  pub ascend : AreAscending taken
  pub before : (one two : VoxelKey) → Contains taken one → Contains pending two → key_cmp one two ≡ Less
  pub needed : (key : VoxelKey) → Contains taken key → IsNeeded search files key
  pub waiting : (key : VoxelKey) → Contains pending key → IsNeeded search files key
  pub start : MeetsArea search root → Contains taken root ⊎ Contains pending root
  pub read : (key : VoxelKey) → Contains taken key → IsRead search files taken pending counts key
  pub planned : (key : VoxelKey) (count : ℕ) → counts key ≡ Some count → IsPlanned search files key count

-- a key of a list is its first or one of the others
first-or : (key top : VoxelKey) (pending rest : List VoxelKey) → pending ≡ top ∷ rest → Contains pending key → (top ≡ key) ⊎ Contains rest key
first-or key top pending rest is has =
    ⊎_elim (λ here. inl here) (λ later. inr (contains-IsMember key rest later)) (IsMember-contains key (top ∷ rest) (subst (λ (w : List VoxelKey). Contains w key) is has))

is-first : (top : VoxelKey) (pending rest : List VoxelKey) → pending ≡ top ∷ rest → Contains pending top
is-first top pending rest is = subst (λ (w : List VoxelKey). Contains w top) (sym is) (contains-IsMember top (top ∷ rest) (inl refl))

is-later : (key top : VoxelKey) (pending rest : List VoxelKey) → pending ≡ top ∷ rest → Contains rest key → Contains pending key
is-later key top pending rest is has = subst (λ (w : List VoxelKey). Contains w key) (sym is) (contains-IsMember key (top ∷ rest) (inr (IsMember-contains key rest has)))

module _ (search : Search) (files : Files) where
  pub walk-begun : (pending : List VoxelKey) (counts : VoxelKey → Option ℕ) → (MeetsArea search root → Contains pending root) → ((key : VoxelKey) → Contains pending key → (key ≡ root) × MeetsArea search root) → ((key : VoxelKey) → counts key ≡ None) → IsWalk search files [] pending counts
  walk-begun pending counts start only none = record {
    ascend = λ i j d less within. absurd (omega arith);
    before = λ one two has other. absurd (IsMember-contains one [] has);
    needed = λ key has. absurd (IsMember-contains key [] has);
    waiting = λ key has. (let is = only key has in subst (λ (k : VoxelKey). IsNeeded search files k) (sym is.0) (at_root is.1));
    start = λ meets. inr (start meets);
    read = λ key has. absurd (IsMember-contains key [] has);
    planned = λ key count is. (let wrong : None ≡ Some count = sym (none key) ∙ is in absurd (cc));
  }

  module _ (taken pending rest : List VoxelKey) (top : VoxelKey) (counts : VoxelKey → Option ℕ) (walk : IsWalk search files taken pending counts) (is : pending ≡ top ∷ rest) (above : All (λ (k : VoxelKey). key_cmp top k ≡ Less) rest) where
    first : Contains pending top
    first = is-first top pending rest is

    pub taken-ascend : AreAscending (taken ++ top ∷ [])
    taken-ascend =
        all_pairs_push (λ (a b : VoxelKey). key_cmp a b ≡ Less) taken top walk.ascend (λ k d within. walk.before (get_or taken k d) top (Contains-get_or taken k d within) first)

    pub taken-needed : (key : VoxelKey) → Contains (taken ++ top ∷ []) key → IsNeeded search files key
    taken-needed key has =
        ⊎_elim (λ (was : Contains taken key). walk.needed key was) (λ (same : top ≡ key). subst (λ (k : VoxelKey). IsNeeded search files k) same (walk.waiting top first)) (Contains-push_cases taken top key has)

    -- one more file was read
    pub walk-more : (next : List VoxelKey) (entries : List Entry) (found : VoxelKey → Option ℕ) → HasHierarchy search files top entries → NotesLinks search entries rest next → NotesTiles search entries counts found → IsWalk search files (taken ++ top ∷ []) next found
    walk-more next entries found file links tiles = record {
      ascend = taken-ascend;
      before = λ one two has other. ⊎_elim (λ (was : Contains taken one). before-old one two was (links.only two other)) (λ (same : top ≡ one). subst (λ (k : VoxelKey). key_cmp k two ≡ Less) same (after two (links.only two other))) (Contains-push_cases taken top one has);
      needed = taken-needed;
      waiting = λ key has. ⊎_elim (λ (was : Contains rest key). walk.waiting key (is-later key top pending rest is was)) (λ (link : Contains entries (key, negsuc 0) × MeetsArea search key). behind top key entries (walk.waiting top first) file link.0 link.1) (links.only key has);
      start = λ meets. moved root (walk.start meets);
      read = λ key has. ⊎_elim (λ (was : Contains taken key). read-old key (walk.read key was)) (λ (same : top ≡ key). subst (λ (k : VoxelKey). IsRead search files (taken ++ top ∷ []) next found k) same read-top) (Contains-push_cases taken top key has);
      planned = λ key count at. ⊎_elim (λ (was : counts key ≡ Some count). walk.planned key count was) (λ (new : Contains entries (key, pos count) × HasDepth search key × MeetsArea search key). planned-new key count new.0 new.1 new.2) (tiles.only key count at);
    }
      where
        after : (key : VoxelKey) → Contains rest key ⊎ (Contains entries (key, negsuc 0) × MeetsArea search key) → key_cmp top key ≡ Less
        after key (inl was) = All-contains (λ (k : VoxelKey). key_cmp top k ≡ Less) rest key above was
        after key (inr link) = link-after search top entries file.form key link.0

        before-old : (one two : VoxelKey) → Contains taken one → Contains rest two ⊎ (Contains entries (two, negsuc 0) × MeetsArea search two) → key_cmp one two ≡ Less
        before-old one two was other = key_cmp_total.trans one top two (walk.before one top was first) (after two other)

        moved : (key : VoxelKey) → Contains taken key ⊎ Contains pending key → Contains (taken ++ top ∷ []) key ⊎ Contains next key
        moved key (inl was) = inl (Contains-append_left taken (top ∷ []) key was)
        moved key (inr was) = ⊎_elim (λ (same : top ≡ key). inl (subst (λ (k : VoxelKey). Contains (taken ++ top ∷ []) k) same (Contains-push taken top))) (λ (later : Contains rest key). inr (links.kept key later)) (first-or key top pending rest is was)

        read-old : (key : VoxelKey) → IsRead search files taken pending counts key → IsRead search files (taken ++ top ∷ []) next found key
        read-old key was = record {
          entries = was.entries;
          file = was.file;
          links = λ other has meets. moved other (was.links other has meets);
          tiles = λ other count has depth meets. tiles.kept other (was.tiles other count has depth meets);
        }

        read-top : IsRead search files (taken ++ top ∷ []) next found top
        read-top = record {
          entries = entries;
          file = file;
          links = λ other has meets. inr (links.noted other has meets);
          tiles = λ other count has depth meets. tiles.noted other count has depth meets;
        }

        planned-new : (key : VoxelKey) (count : ℕ) → Contains entries (key, pos count) → HasDepth search key → MeetsArea search key → IsPlanned search files key count
        planned-new key count has depth meets = record { top = top; needed = walk.waiting top first; entries = entries; file = file; counted = has; has_depth = depth; meets = meets }

    -- what is needed and is before the next file was read
    not-before : (key : VoxelKey) → IsBefore key top → ¬ Contains pending key
    not-before key less = λ has.
        let below : key_cmp key top ≡ Less = key_cmp-before key top less in
        ⊎_elim (λ (same : top ≡ key). let tied : key_cmp key top ≡ Equal = key_cmp-same key top (sym same) in let wrong : Less ≡ Equal = sym below ∙ tied in absurd (cc))
        (λ (later : Contains rest key). (
        let up : key_cmp top key ≡ Less = All-contains (λ (k : VoxelKey). key_cmp top k ≡ Less) rest key above later in
        let back : key_cmp key top ≡ Greater = key_cmp_total.antisymm key top ∙ ap ordering_reverse up in
        let wrong : Less ≡ Greater = sym below ∙ back in
        absurd (cc)))
        (first-or key top pending rest is has)

    pub taken-below : (key : VoxelKey) → IsNeeded search files key → IsBefore key top → Contains taken key
    taken-below key (at_root meets) less = ⊎_elim (λ has. has) (λ has. absurd (not-before root less has)) (walk.start meets)
    taken-below key (behind upper key' entries needed file has meets) less =
        let up : IsBefore upper key' = key_cmp-less upper key' (link-after search upper entries file.form key' has) in
        let chain : IsBefore upper top = key_cmp-less upper top (key_cmp_total.trans upper key' top (key_cmp-before upper key' up) (key_cmp-before key' top less)) in
        let got = walk.read upper (taken-below upper needed chain) in
        ⊎_elim (λ was. was) (λ later. absurd (not-before key' less later)) (got.links key' (hierarchy-same search files upper entries got.entries (key', negsuc 0) file got.file has) meets)

    -- so a damaged file is the first damaged one of those needed
    pub walk-first : HasNoHierarchy search files top → IsFirstHierarchy search files top
    walk-first damaged = record {
      needed = walk.waiting top (is-first top pending rest is);
      damaged = damaged;
      first = λ other needed less. (let got = walk.read other (taken-below other needed less) in (got.entries, got.file));
    }

  module _ (taken pending : List VoxelKey) (counts : VoxelKey → Option ℕ) (walk : IsWalk search files taken pending counts) (none : pending ≡ []) where
    nothing : (key : VoxelKey) → ¬ Contains pending key
    nothing key = λ has. IsMember-contains key [] (subst (λ (w : List VoxelKey). Contains w key) none has)

    -- at the end each needed file was read
    pub all-taken : (key : VoxelKey) → IsNeeded search files key → Contains taken key
    all-taken key (at_root meets) = ⊎_elim (λ has. has) (λ has. absurd (nothing root has)) (walk.start meets)
    all-taken key (behind upper key' entries needed file has meets) =
        let got = walk.read upper (all-taken upper needed) in
        ⊎_elim (λ was. was) (λ later. absurd (nothing key' later)) (got.links key' (hierarchy-same search files upper entries got.entries (key', negsuc 0) file got.file has) meets)

    pub each-there : EachIsThere search files
    each-there key needed = (let got = walk.read key (all-taken key needed) in (got.entries, got.file))

    -- and the counts are those of the plan
    pub counts-planned : (key : VoxelKey) (count : ℕ) → IsPlanned search files key count → counts key ≡ Some count
    counts-planned key count plan =
        let got = walk.read plan.top (all-taken plan.top plan.needed) in
        let has : Contains got.entries (key, pos count) = hierarchy-same search files plan.top plan.entries got.entries (key, pos count) plan.file got.file plan.counted in
        by_count (counts key) refl (got.tiles key count has plan.has_depth plan.meets)
      where
        by_count : (o : Option ℕ) → counts key ≡ o → IsSome o → counts key ≡ Some count
        by_count None at some = absurd (false≢true some)
        by_count (Some n) at some = at ∙ ap (λ (m : ℕ). Some m) (planned-once search files key n count (walk.planned key n at) plan)
