-- What the walk returns.
use Rattle.std.proofs.Common.{◌≡◌, ◌∙◌, ◌+◌, ◌<◌, ◌≤◌, ℕ, List, [], ◌∷◌, length, refl, sym, ap, subst, Option, Some, Result, Ok, Err, arith}
use Rattle.std.specs.Prelude.{IfOk, IsSome}
use Rattle.std.specs.List.{All, Contains}
use Rattle.std.specs.List.Sorted.{IsStrictlySortedBy}
use Rattle.std.specs.Ordering.{is_eq, eq_by_cmp}
use Rattle.std.specs.BTreeMap.{BTreeMap, get, is_at}
use Rattle.std.specs.Map.{keys_of as map_keys, lookup}
use Rattle.std.proofs.lemmas.Cmp.{eq_by_cmp_equiv}
use Rattle.std.proofs.lemmas.Map.Keys.{IsDistinct-from_apart, Less-from_sorted}
use Rattle.std.proofs.lemmas.Map.Views.{Contains-from_lookup, lookup-from_Contains}
use Rattle.ept_base.specs.Files.{Files, SameFiles, StepsBy, Tells}
use Rattle.ept_space.specs.VoxelKey.{VoxelKey, key_cmp, AreAscending}
use Rattle.ept_space.proofs.KeyOrder.{key_cmp_total}
use Rattle.ept_sample.proofs.Members.{All-members, contains-IsMember}
use Rattle.ept_hier.specs.Hierarchy.{Entry, Node, keys_of}
use Rattle.ept_meta.specs.Output.{hierarchy_name}
use Rattle.ept_query.specs.declared.search.Search.{Search}
use Rattle.ept_query.specs.declared.query_error.QueryFile.TheVariants.{BuildJson, Hierarchy, Tile}
use Rattle.ept_query.specs.declared.query_error.QueryError.{QueryError}
use Rattle.ept_query.specs.declared.query_error.QueryError.TheVariants.{NotComplete, StoreFault, Damaged, SinkFault, Memory}
use Rattle.ept_query.specs.Hierarchies.{HasHierarchy, HasNoHierarchy}
use Rattle.ept_query.specs.Plan.{IsNeeded, IsPlan, HasNeeded}
use Rattle.ept_query.specs.Damage.{IsFirstHierarchy, RefusesReading, RefusesWalk}
use Rattle.ept_query.specs.Walk.{NotesFile, AreShallow}
use Rattle.ept_query.proofs.Counting.{fewer, same-from}
use Rattle.ept_query.proofs.Told.{tells-from, told-back}
use Rattle.ept_query.proofs.Walking.{IsWalk, counts-planned}

-- ---- files that read as before

pub hierarchy-back : (search : Search) (top : VoxelKey) (entries : List Entry) (old new : Files) → SameFiles old new → HasHierarchy search new top entries → HasHierarchy search old top entries
hierarchy-back search top entries old new same has = record { bytes = has.bytes; there = sym (same (hierarchy_name top)) ∙ has.there; reading = has.reading; form = has.form }

pub no-hierarchy-back : (search : Search) (top : VoxelKey) (old new : Files) → SameFiles old new → HasNoHierarchy search new top → HasNoHierarchy search old top
no-hierarchy-back search top old new same none = λ entries has.
    none entries (hierarchy-back search top entries new old (λ name. sym (same name)) has)

pub noted-back : (search : Search) (top : VoxelKey) (pending next : List VoxelKey) (counts found : VoxelKey → Option ℕ) (old new : Files) → SameFiles old new → NotesFile search top pending next counts found new → NotesFile search top pending next counts found old
noted-back search top pending next counts found old new same noted =
    record { entries = noted.entries; file = hierarchy-back search top noted.entries old new same noted.file; links = noted.links; tiles = noted.tiles }

-- ---- the refusal of the walk

pub walk-refuses : (search : Search) (top : VoxelKey) (before now : Option Files) (error : QueryError) → ((all : Files) → before ≡ Some all → HasNoHierarchy search all top → IsFirstHierarchy search all top) → StepsBy SameFiles before now → RefusesReading (Hierarchy top) (λ all. HasNoHierarchy search all top) now error → RefusesWalk search before error
walk-refuses search top before now NotComplete first steps refused = absurd refused
walk-refuses search top before now StoreFault first steps refused = tt
walk-refuses search top before now SinkFault first steps refused = absurd refused
walk-refuses search top before now Memory first steps refused = tt
walk-refuses search top before now (Damaged BuildJson) first steps refused = let wrong = refused.0 in absurd (cc)
walk-refuses search top before now (Damaged (Tile key)) first steps refused = let wrong = refused.0 in absurd (cc)
walk-refuses search top before now (Damaged (Hierarchy key)) first steps refused =
    let wrong = refused.0 in
    let same : top ≡ key = cc in
    tells-from (λ all. IsFirstHierarchy search all key) before (λ all is.
    subst (λ (k : VoxelKey). IsFirstHierarchy search all k) same (first all is (told-back (λ (f : Files). HasNoHierarchy search f top) (no-hierarchy-back search top) before now all is steps refused.1)))

-- ---- how many files

pub gets-fewer : (search : Search) (files : Option Files) (old new : ℕ) → ((all : Files) → files ≡ Some all → (taken : List VoxelKey) × AreAscending taken × ((key : VoxelKey) → Contains taken key → IsNeeded search all key) × (new ≤ old + length taken)) → Tells (λ all. (keys : List VoxelKey) → HasNeeded search all keys → new ≤ old + length keys) files
gets-fewer search files old new each = tells-from (λ all. (keys : List VoxelKey) → HasNeeded search all keys → new ≤ old + length keys) files (λ all is keys has.
    let w = each all is in
    let few : length w.0 ≤ length keys = fewer w.0 keys w.1 (λ key taken. has key (w.2 key taken)) in
    let most = w.3 in
    omega (arith, few, most))

-- ---- the plan

pub entry-has : (tiles : List Node) (key : VoxelKey) (count : ℕ) → AreAscending (keys_of tiles) → Contains tiles (key, count) → lookup (is_at (key_cmp key)) tiles ≡ Some count
entry-has tiles key count ascend has =
    lookup-from_Contains (eq_by_cmp_equiv key_cmp_total) key count tiles (IsDistinct-from_apart (eq_by_cmp key_cmp) (keys_of tiles) (λ i j d less within. ap is_eq (ascend i j d less within))) has

has-entry : (tiles : List Node) (key : VoxelKey) (count : ℕ) → lookup (is_at (key_cmp key)) tiles ≡ Some count → Contains tiles (key, count)
has-entry tiles key count is = Contains-from_lookup same-from key count tiles is

pub plan-listed : (search : Search) (files : Files) (taken pending : List VoxelKey) (tiles : BTreeMap VoxelKey ℕ) (listed : List Node) → IsWalk search files taken pending (get key_cmp tiles) → pending ≡ [] → listed ≡ tiles.entries → AreAscending (keys_of listed) → IsPlan search files listed
plan-listed search files taken pending tiles listed walk none same ascend = record {
  ascend = ascend;
  each = λ key count. (
    (λ has. walk.planned key count (ap (λ (es : List Node). lookup (is_at (key_cmp key)) es) (sym same) ∙ entry-has listed key count ascend has)),
    (λ plan. has-entry listed key count (ap (λ (es : List Node). lookup (is_at (key_cmp key)) es) same ∙ counts-planned search files taken pending (get key_cmp tiles) walk none key count plan)),
  );
}

pub listed-shallow : (search : Search) (tiles : BTreeMap VoxelKey ℕ) (listed : List Node) → listed ≡ tiles.entries → AreAscending (keys_of listed) → AreShallow search (get key_cmp tiles) → All (λ (n : Node). n.0.depth ≤ search.cube.depth) listed
listed-shallow search tiles listed same ascend shallow =
    All-members (λ (n : Node). n.0.depth ≤ search.cube.depth) listed (λ n m.
    let found : get key_cmp tiles n.0 ≡ Some n.1 = ap (λ (es : List Node). lookup (is_at (key_cmp n.0)) es) (sym same) ∙ entry-has listed n.0 n.1 ascend (contains-IsMember n listed m) in
    shallow n.0 (subst IsSome (sym found) refl))

pub ok-both : {T E : Type 0} (P Q R : T → Type 0) (r : Result T E) → ((v : T) → P v → Q v → R v) → IfOk r P → IfOk r Q → IfOk r R
ok-both P Q R (Ok v) both one two = both v one two
ok-both P Q R (Err e) both one two = tt

pub nothing-left : {X : Type 0} (xs : List X) → ¬ (0 < length xs) → xs ≡ []
nothing-left [] none = refl
nothing-left (x ∷ xs) none = absurd (none (omega arith))

-- a map whose keys ascend, as a list
pub entries-ascend : (tiles listed : List Node) → IsStrictlySortedBy key_cmp (map_keys tiles) → listed ≡ tiles → AreAscending (keys_of listed)
entries-ascend tiles listed sorted same = subst (λ (w : List Node). AreAscending (keys_of w)) (sym same) (λ i j d less within. Less-from_sorted key_cmp (keys_of tiles) i j d sorted less within)
