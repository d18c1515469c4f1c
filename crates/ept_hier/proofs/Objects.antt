-- The members of an object, as its map has them, and why they are refused.
use Rattle.std.proofs.Common.{◌≡◌, ◌≢◌, ◌∙◌, ℕ, Bool, true, false, ◌&&◌, List, [], ◌∷◌, ◌++◌, map, refl, sym, ap, subst, arith, inl, inr, Some, None, String, Global, string_bytes}
use Rattle.std.specs.Prelude.{Result, Ok, Err, IsOk, OnOk, IfErr, ◌⊎◌}
use Rattle.std.specs.Option.{option_map, option_and_then}
use Rattle.std.specs.List.{All, AllZip, Any, Contains}
use Rattle.std.proofs.lemmas.List.{map-append, append-nil}
use Rattle.std.proofs.lemmas.List.Elements.{All-nil, All-cons, All-push, All-contains, Contains-append_left, Contains-append_right}
use Rattle.serde_json.specs.Data.{Data}
use Rattle.serde_json.specs.Find.{as_object}
use Rattle.serde_json.specs.View.{view, members_view}
use Rattle.serde_json.specs.declared.value.Value.{Value}
use Rattle.ept_json.specs.Document.{document}
use Rattle.ept_json.specs.declared.json_error.JsonError.{JsonError}
use Rattle.ept_json.specs.declared.json_error.JsonError.TheVariants as json
use Rattle.ept_hier.specs.Hierarchy.{Entry}
use Rattle.ept_hier.specs.Reading.{Member, NamesKey, member_list, members_in, IsEntryOf, HasNoKey, HasNoCount, RefusesMembers, RefusesFile, IsReading}
use Rattle.ept_hier.specs.Objects.{of_json, member_at, RefusesName, IsTaken, AreTaken}
use Rattle.ept_hier.specs.declared.hier_error.HierError.{HierError}
use Rattle.ept_hier.specs.declared.hier_error.HierError.TheVariants.{Json, Key, Count, Memory}

pub members-are : (entries : List (String Global × Value)) → member_list (members_view entries) ≡ map member_at entries
members-are [] = refl
members-are (e ∷ entries) = ap (λ (ms : List Member). member_at e ∷ ms) (members-are entries)

-- the members of the text of an object
pub members-in : (bytes : List ℕ) (d : Data) (entries : List (String Global × Value)) → document bytes ≡ Some d → Some (members_view entries) ≡ as_object d → members_in bytes ≡ Some (map member_at entries)
unfolding members_in
members-in bytes d entries read is =
    ap (λ o. option_map member_list (option_and_then as_object o)) read
    ∙ (ap (λ o. option_map member_list o) (sym is) ∙ ap (λ (ms : List Member). Some ms) (members-are entries))

pub members-none : (bytes : List ℕ) (d : Data) → document bytes ≡ Some d → None ≡ as_object d → members_in bytes ≡ None
unfolding members_in
members-none bytes d read is =
    ap (λ o. option_map member_list (option_and_then as_object o)) read ∙ ap (λ o. option_map member_list o) (sym is)

pub members-unread : (bytes : List ℕ) → document bytes ≡ None → members_in bytes ≡ None
unfolding members_in
members-unread bytes none = ap (λ o. option_map member_list (option_and_then as_object o)) none

some_none : {X : Type 0} {x : X} → Some x ≡ None → ⊥
some_none e = cc

-- ---- a member

some_of : {X : Type 0} (P : X → Type 0) (xs : List X) (x : X) → Contains xs x → P x → Any P xs
some_of P xs x there holds = (there.0, x, there.1, there.2, holds)

some_before : {X : Type 0} (P : X → Type 0) (xs ys : List X) → Any P xs → Any P (xs ++ ys)
some_before P xs ys some =
    some_of P (xs ++ ys) some.1 (Contains-append_left xs ys some.1 (some.0, some.2, some.3)) some.4

some_after : {X : Type 0} (P : X → Type 0) (xs : List X) (x : X) (ys : List X) → P x → Any P (xs ++ x ∷ ys)
some_after P xs x ys holds =
    some_of P (xs ++ x ∷ ys) x (Contains-append_right xs (x ∷ ys) x (0, omega arith, refl)) holds

-- ---- members, while they are read

-- members with entries have counts, and texts of keys as names
pub said_names : (members : List Member) (entries : List Entry) → AllZip IsEntryOf members entries → All (λ (m : Member). NamesKey m.0) members
said_names [] entries each = All-nil (λ (m : Member). NamesKey m.0)
said_names (m ∷ members) [] each = absurd each
said_names (m ∷ members) (e ∷ entries) each =
    All-cons (λ (x : Member). NamesKey x.0) m members (e.0, each.0.names) (said_names members entries each.1)

said_counts : (members : List Member) (entries : List Entry) → AllZip IsEntryOf members entries → All (λ (m : Member). ¬ HasNoCount m) members
said_counts [] entries each = All-nil (λ (m : Member). ¬ HasNoCount m)
said_counts (m ∷ members) [] each = absurd each
said_counts (m ∷ members) (e ∷ entries) each =
    All-cons (λ (x : Member). ¬ HasNoCount x) m members (λ none. some_none (sym each.0.number ∙ none)) (said_counts members entries each.1)

said_more : (members : List Member) (entries : List Entry) (m : Member) (e : Entry) → AllZip IsEntryOf members entries → IsEntryOf m e → AllZip IsEntryOf (members ++ m ∷ []) (entries ++ e ∷ [])
said_more [] [] m e each one = (one, tt)
said_more [] (f ∷ entries) m e each one = absurd each
said_more (n ∷ members) [] m e each one = absurd each
said_more (n ∷ members) (f ∷ entries) m e each one = (each.0, said_more members entries m e each.1 one)

-- one more member
pub taken_more : (b c : Bool) (members : List Member) (m : Member) (old new : List Entry) → AreTaken members b old → IsTaken m c old new → AreTaken (members ++ m ∷ []) (b && c) new
taken_more true true members m old new all one =
    subst (λ (w : List Entry). AllZip IsEntryOf (members ++ m ∷ []) w) (sym one.2) (said_more members old m one.0 all one.1)
taken_more true false members m old new all one =
    (All-push (λ (x : Member). NamesKey x.0) members m (said_names members old all) one.0, some_after HasNoCount members m [] one.1)
taken_more false true members m old new all one =
    (All-push (λ (x : Member). NamesKey x.0) members m all.0 (one.0.0, one.1.names), some_before HasNoCount members (m ∷ []) all.1)
taken_more false false members m old new all one =
    (All-push (λ (x : Member). NamesKey x.0) members m all.0 one.0, some_before HasNoCount members (m ∷ []) all.1)

-- one more member of the map, by what its name and value are
pub taken_next : {A : Type 0} (shows : A → String Global × Value) (front : List A) (x : A) (name : List ℕ) (b c : Bool) (old new : List Entry) → name ≡ string_bytes (shows x).0 → AreTaken (map member_at (map shows front)) b old → IsTaken (name, view (shows x).1) c old new → AreTaken (map member_at (map shows (front ++ x ∷ []))) (b && c) new
taken_next shows front x name b c old new named all one =
    let joined : map member_at (map shows (front ++ x ∷ [])) ≡ map member_at (map shows front) ++ member_at (shows x) ∷ [] = ap (map member_at) (map-append shows front (x ∷ [])) ∙ map-append member_at (map shows front) (shows x ∷ []) in
    let more : AreTaken (map member_at (map shows front) ++ member_at (shows x) ∷ []) (b && c) new = taken_more b c (map member_at (map shows front)) (member_at (shows x)) old new all (subst (λ (n : List ℕ). IsTaken (n, view (shows x).1) c old new) named one) in
    subst (λ (w : List Member). AreTaken w (b && c) new) (sym joined) more

-- all members of the map
pub taken_all : (all front back : List (String Global × Value)) (b : Bool) (entries : List Entry) → all ≡ front ++ back → back ≡ [] → b ≡ false → AreTaken (map member_at front) b entries → RefusesMembers (map member_at all) Count
taken_all all front back b entries whole none lost taken =
    let same : all ≡ front = whole ∙ (ap (λ w. front ++ w) none ∙ append-nil front) in
    subst (λ (w : List (String Global × Value)). RefusesMembers (map member_at w) Count) (sym same) (subst (λ t. AreTaken (map member_at front) t entries) lost taken)

-- ---- refusals

-- a name is not the text of a key
pub refuses_name : (all front : List (String Global × Value)) (x : String Global × Value) (back : List (String Global × Value)) (name : List ℕ) (error : HierError) → all ≡ front ++ x ∷ back → name ≡ string_bytes x.0 → RefusesName name error → RefusesMembers (map member_at all) error
refuses_name all front x back name Json is named refused = absurd refused
refuses_name all front x back name Key is named refused =
    subst (λ (w : List Member). Any HasNoKey w) (sym (ap (map member_at) is ∙ map-append member_at front (x ∷ back)))
    (some_after HasNoKey (map member_at front) (member_at x) (map member_at back) (subst (λ (n : List ℕ). ¬ NamesKey n) named refused))
refuses_name all front x back name Count is named refused = absurd refused
refuses_name all front x back name Memory is named refused = tt

pub refuses_memory : (bytes : List ℕ) (error : HierError) → error ≡ Memory → RefusesFile bytes error
refuses_memory bytes Memory is = tt
refuses_memory bytes Json is = absurd (cc)
refuses_memory bytes Key is = absurd (cc)
refuses_memory bytes Count is = absurd (cc)

-- why the text is refused
pub refuses : (bytes : List ℕ) (members : List Member) (error : HierError) → members_in bytes ≡ Some members → RefusesMembers members error → RefusesFile bytes error
refuses bytes members Json is h = absurd h
refuses bytes members Key is h = (members, is, h)
refuses bytes members Count is h = (members, is, h)
refuses bytes members Memory is h = tt

-- a text that is not that of an object
pub refuses_json : (bytes : List ℕ) (error : JsonError) → (error ≡ json.NoText → document bytes ≡ None) → RefusesFile bytes (of_json error)
refuses_json bytes json.Memory h = tt
refuses_json bytes json.NoText h = members-unread bytes (h refl)

-- ---- one result fits

one_list : (bytes : List ℕ) (a b : List Member) → members_in bytes ≡ Some a → members_in bytes ≡ Some b → a ≡ b
one_list bytes a b is_a is_b = let e : Some a ≡ Some b = sym is_a ∙ is_b in cc

some_apart : {X : Type 0} (P Q : X → Type 0) (xs : List X) → ((x : X) → P x → Q x → ⊥) → All P xs → Any Q xs → ⊥
some_apart P Q xs apart all some = apart some.1 (All-contains P xs some.1 all (some.0, some.2, some.3)) some.4

-- a text that is read is not refused
pub read_not_refused : (bytes : List ℕ) (entries : List Entry) (error : HierError) → IsReading bytes entries → RefusesFile bytes error → error ≢ Memory → ⊥
read_not_refused bytes entries Json read refused definite = some_none (sym read.object ∙ refused)
read_not_refused bytes entries Key read refused definite =
    some_apart (λ (m : Member). NamesKey m.0) HasNoKey refused.0 (λ m named none. none named) (subst (λ (w : List Member). All (λ (m : Member). NamesKey m.0) w) (one_list bytes read.members refused.0 read.object refused.1) (said_names read.members read.said read.each)) refused.2
read_not_refused bytes entries Count read refused definite =
    some_apart (λ (m : Member). ¬ HasNoCount m) HasNoCount refused.0 (λ m there none. there none) (subst (λ (w : List Member). All (λ (m : Member). ¬ HasNoCount m) w) (one_list bytes read.members refused.0 read.object refused.1) (said_counts read.members read.said read.each)) refused.2.1
read_not_refused bytes entries Memory read refused definite = definite refl

key_or_count : (bytes : List ℕ) → RefusesFile bytes Key → RefusesFile bytes Count → ⊥
key_or_count bytes key count =
    some_apart (λ (m : Member). NamesKey m.0) HasNoKey key.0 (λ m named none. none named) (subst (λ (w : List Member). All (λ (m : Member). NamesKey m.0) w) (one_list bytes count.0 key.0 count.1 key.1) count.2.0) key.2

-- a text is refused for one cause
pub one_cause : (bytes : List ℕ) (a b : HierError) → RefusesFile bytes a → RefusesFile bytes b → b ≢ Memory → (a ≡ b) ⊎ (a ≡ Memory)
one_cause bytes Memory b ra rb definite = inr refl
one_cause bytes a Memory ra rb definite = absurd (definite refl)
one_cause bytes Json Json ra rb definite = inl refl
one_cause bytes Key Key ra rb definite = inl refl
one_cause bytes Count Count ra rb definite = inl refl
one_cause bytes Json Key ra rb definite = absurd (some_none (sym rb.1 ∙ ra))
one_cause bytes Json Count ra rb definite = absurd (some_none (sym rb.1 ∙ ra))
one_cause bytes Key Json ra rb definite = absurd (some_none (sym ra.1 ∙ rb))
one_cause bytes Count Json ra rb definite = absurd (some_none (sym ra.1 ∙ rb))
one_cause bytes Key Count ra rb definite = absurd (key_or_count bytes ra rb)
one_cause bytes Count Key ra rb definite = absurd (key_or_count bytes rb ra)

abbrev refusal : HierError → Result (Unit {0}) HierError
refusal e = Err e

told : (e error : HierError) → (e ≡ error) ⊎ (e ≡ Memory) → (refusal e ≡ Err error) ⊎ (refusal e ≡ Err Memory)
told e error (inl same) = inl (ap Err same)
told e error (inr memory) = inr (ap Err memory)

-- so if there is a cause, that refusal is returned, and if there is a reading, no refusal
pub comes : (bytes : List ℕ) (result : Result (Unit {0}) HierError) → OnOk result ((entries : List Entry) × IsReading bytes entries) → IfErr result (RefusesFile bytes) → (error : HierError) → error ≢ Memory → RefusesFile bytes error → (result ≡ Err error) ⊎ (result ≡ Err Memory)
comes bytes (Ok done) ok refused error definite cause = absurd (read_not_refused bytes ok.0 error ok.1 cause definite)
comes bytes (Err e) ok refused error definite cause = told e error (one_cause bytes e error refused cause definite)

pub accepts : (bytes : List ℕ) (result : Result (Unit {0}) HierError) → IfErr result (RefusesFile bytes) → (entries : List Entry) → IsReading bytes entries → IsOk result ⊎ (result ≡ Err Memory)
accepts bytes (Ok done) refused entries read = inl refl
accepts bytes (Err Memory) refused entries read = inr refl
accepts bytes (Err Json) refused entries read = absurd (read_not_refused bytes entries Json read refused (λ e. cc))
accepts bytes (Err Key) refused entries read = absurd (read_not_refused bytes entries Key read refused (λ e. cc))
accepts bytes (Err Count) refused entries read = absurd (read_not_refused bytes entries Count read refused (λ e. cc))
