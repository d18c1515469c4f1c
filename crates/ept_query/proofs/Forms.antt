-- The form of a hierarchy file does not depend on the order of its entries.
use Rattle.std.proofs.Common.{◌≡◌, ◌∙◌, ℕ, List, refl, sym, ap, subst, Option, Some, None, Result, Ok, Err}
use Rattle.std.specs.Prelude.{IfErr}
use Rattle.std.specs.List.{Any}
use Rattle.std.specs.List.Sorted.{IsPermutation}
use Rattle.std.proofs.lemmas.List.Sorted.{All-permutation, Contains-permutation}
use Rattle.ept_space.specs.VoxelKey.{VoxelKey}
use Rattle.ept_hier.specs.Hierarchy.{Entry}
use Rattle.ept_hier.specs.Reading.{IsReading, RefusesFile}
use Rattle.ept_hier.specs.declared.hier_error.HierError.{HierError}
use Rattle.ept_hier.specs.declared.hier_error.HierError.TheVariants as hier
use Rattle.ept_base.specs.Files.{Files, Tells}
use Rattle.ept_meta.specs.Output.{hierarchy_name}
use Rattle.ept_query.specs.declared.query_error.QueryFile.{QueryFile}
use Rattle.ept_query.specs.declared.query_error.QueryError.{QueryError}
use Rattle.ept_query.specs.declared.query_error.QueryError.TheVariants.{NotComplete, StoreFault, Damaged, SinkFault, Memory}
use Rattle.ept_query.specs.Causes.{of_hierarchy}
use Rattle.ept_query.specs.Damage.{RefusesBytes, RefusesReading}
use Rattle.ept_query.specs.declared.search.Search.{Search}
use Rattle.ept_query.specs.Hierarchies.{AreOf, IsEntryIn, IsOwn, HasNoHierarchy}
use Rattle.ept_query.proofs.Readings.{some-is, readings-permute, refused-unread}

-- one of the items
pub any-permutation : {X : Type 0} (P : X → Type 0) (xs ys : List X) → IsPermutation xs ys → Any P xs → Any P ys
any-permutation P xs ys same some =
    let there = Contains-permutation xs ys some.1 same (some.0, some.2, some.3) in
    (there.0, some.1, there.1, there.2, some.4)

pub form-permutation : (search : Search) (top : VoxelKey) (xs ys : List Entry) → IsPermutation xs ys → AreOf search top xs → AreOf search top ys
form-permutation search top xs ys same form = record {
  own = any-permutation (IsOwn top) xs ys same form.own;
  each = All-permutation (IsEntryIn search top) xs ys same form.each;
}

-- so if bytes are read as malformed entries, they have no well-formed reading
pub unformed : (search : Search) (top : VoxelKey) (bytes : List ℕ) (found entries : List Entry) → IsReading bytes found → ¬ AreOf search top found → IsReading bytes entries → ¬ AreOf search top entries
unformed search top bytes found entries one wrong two = λ form. wrong (form-permutation search top entries found (readings-permute bytes entries found two one) form)

-- ---- why a hierarchy file is refused

-- no reading of the bytes is well-formed
abbrev pub IsUnformed : Search → VoxelKey → List ℕ → Type 0
IsUnformed search top bytes = (entries : List Entry) → IsReading bytes entries → ¬ AreOf search top entries

pub refuses-bytes : (search : Search) (top : VoxelKey) (file : QueryFile) (bytes : List ℕ) (error : HierError) → RefusesFile bytes error → RefusesBytes file (IsUnformed search top bytes) (of_hierarchy file error)
refuses-bytes search top file bytes hier.Json refused = (refl, λ entries reading. absurd (refused-unread bytes hier.Json entries refused (λ e. cc) reading))
refuses-bytes search top file bytes hier.Key refused = (refl, λ entries reading. absurd (refused-unread bytes hier.Key entries refused (λ e. cc) reading))
refuses-bytes search top file bytes hier.Count refused = (refl, λ entries reading. absurd (refused-unread bytes hier.Count entries refused (λ e. cc) reading))
refuses-bytes search top file bytes hier.Memory refused = tt

by_error : (file : QueryFile) (damaged : Type 0) (wholly : Files → Type 0) (files : Option Files) (error : QueryError) → (damaged → Tells wholly files) → RefusesBytes file damaged error → RefusesReading file wholly files error
by_error file damaged wholly files NotComplete told refused = absurd refused
by_error file damaged wholly files StoreFault told refused = absurd refused
by_error file damaged wholly files (Damaged found) told refused = (refused.0, told refused.1)
by_error file damaged wholly files SinkFault told refused = absurd refused
by_error file damaged wholly files Memory told refused = tt

pub refuses-reading : {T : Type 0} (file : QueryFile) (damaged : Type 0) (wholly : Files → Type 0) (files : Option Files) (result : Result T QueryError) → (damaged → Tells wholly files) → IfErr result (RefusesBytes file damaged) → IfErr result (RefusesReading file wholly files)
refuses-reading file damaged wholly files (Ok done) told refused = tt
refuses-reading file damaged wholly files (Err error) told refused = by_error file damaged wholly files error told refused

-- a file whose bytes have no well-formed reading is no hierarchy file of the key
pub no-hierarchy : (search : Search) (top : VoxelKey) (name bytes : List ℕ) (files : Option Files) → name ≡ hierarchy_name top → Tells (λ all. all name ≡ Some bytes) files → IsUnformed search top bytes → Tells (λ all. HasNoHierarchy search all top) files
no-hierarchy search top name bytes None named there unformed = tt
no-hierarchy search top name bytes (Some all) named there unformed = λ entries has.
    let same : bytes ≡ has.bytes = some-is (sym there ∙ (ap all named ∙ has.there)) in
    unformed entries (subst (λ (b : List ℕ). IsReading b entries) (sym same) has.reading) has.form

pub read-bytes : (name found bytes : List ℕ) (files : Option Files) → bytes ≡ found → Tells (λ all. all name ≡ Some found) files → Tells (λ all. all name ≡ Some bytes) files
read-bytes name found bytes None same there = tt
read-bytes name found bytes (Some all) same there = there ∙ ap (λ (b : List ℕ). Some b) (sym same)
