-- Paths that a shelf is asked to open, one after the other.
use Rattle.std.proofs.Common.{◌≡◌, ℕ, zero, suc, ◌+◌, ◌-◌, ◌<◌, ◌≤◌, List, [], ◌∷◌, ◌++◌, Option, Some, None, Result, Ok, Err, length, take, drop, get_or, refl, sym, ◌∙◌, ap, subst, arith, append_assoc, length-append, length-drop}
use Rattle.std.specs.Prelude.{Bool, IfErr, cond, map, slice_get}
use Rattle.std.proofs.lemmas.Bool.{lt-ltb, le-ltb}
use Rattle.std.proofs.lemmas.List.{append-nil, length-map, take_at, take-append-drop, drop_more, drop_all}
use Rattle.std.proofs.lemmas.List.Sums.{sum_by-cons}
use Rattle.std.proofs.lemmas.Option.{get_or_from_slice_get, slice_get_within}
use Rattle.ept_base.specs.Files.{StepsBy}
use Rattle.ept_base.specs.Devices.{Asks}
use Rattle.ept_base.specs.declared.errors.GetError.{GetError}
use Rattle.ept_base.specs.declared.errors.GetError.TheVariants as get
use Rattle.ept_config.specs.declared.input.Input.{Input}
use Rattle.ept_config.specs.declared.source_count.SourceCount.{SourceCount}
use Rattle.ept_config.specs.Counts.{total}
use Rattle.ept_scan.specs.declared.scan_error.ScanError.{ScanError}
use Rattle.ept_scan.specs.declared.scan_error.ScanError.TheVariants.{SourceFault, BadLas, OutOfBounds, TooManyPoints, NoBounds, Memory}
use Rattle.ept_scan.specs.Refusals.{NamesInput, scan_error_of}
use Rattle.ept_scan.specs.Scans.{Blames}
use Rattle.ept_scan.specs.Asking.{AsksFor, OpensThese, OpensUpTo, StopsAt, paths_from, path_left, paths_left}
use Rattle.ept_scan.proofs.OneScan.{blames}

-- a prefix of these paths was asked for, and these are left
abbrev pub HasAsked : List (List ℕ) → List (List ℕ) → Option (List (List ℕ)) → Option (List (List ℕ)) → Type 0
HasAsked all rest old now = StepsBy (λ before after. (done : List (List ℕ)) × (after ≡ before ++ done) × (all ≡ done ++ rest)) old now

pub asked_none : (all : List (List ℕ)) (old : Option (List (List ℕ))) → HasAsked all all old old
asked_none all None = tt
asked_none all (Some before) = ([], sym (append-nil before), refl)

pub asked_more : (all mine rest : List (List ℕ)) (old now new : Option (List (List ℕ))) → HasAsked all (mine ++ rest) old now → AsksFor mine now new → HasAsked all rest old new
asked_more all mine rest None None None has asks = tt
asked_more all mine rest None None (Some c) has asks = absurd asks
asked_more all mine rest None (Some b) new has asks = absurd has
asked_more all mine rest (Some a) None new has asks = absurd has
asked_more all mine rest (Some a) (Some b) None has asks = absurd asks
asked_more all mine rest (Some a) (Some b) (Some c) has asks = (
  has.0 ++ mine,
  asks ∙ ap (λ (l : List (List ℕ)). l ++ mine) has.1 ∙ append_assoc a has.0 mine,
  has.2 ∙ sym (append_assoc has.0 mine rest),
)

pub asked_all : (all : List (List ℕ)) (old now : Option (List (List ℕ))) → HasAsked all [] old now → AsksFor all old now
asked_all all None None has = tt
asked_all all None (Some b) has = absurd has
asked_all all (Some a) None has = absurd has
asked_all all (Some a) (Some b) has = has.1 ∙ ap (λ (l : List (List ℕ)). a ++ l) (sym (append-nil has.0) ∙ sym has.2)

pub asked_front : (all rest : List (List ℕ)) (old now : Option (List (List ℕ))) → HasAsked all rest old now → (n : ℕ) × AsksFor (take n all) old now
asked_front all rest None None has = (0, tt)
asked_front all rest None (Some b) has = absurd has
asked_front all rest (Some a) None has = absurd has
asked_front all rest (Some a) (Some b) has =
    (length has.0, has.1 ∙ ap (λ (l : List (List ℕ)). a ++ l) (sym (ap (λ (l : List (List ℕ)). take (length has.0) l) has.2 ∙ take_at has.0 rest (length has.0) refl)))

pub asked_failed : (all mine rest : List (List ℕ)) (old now new : Option (List (List ℕ))) → HasAsked all (mine ++ rest) old now → (n : ℕ) × AsksFor (take n mine) now new → (n : ℕ) × AsksFor (take n all) old new
asked_failed all mine rest old now new has asks =
    let parts : mine ++ rest ≡ take asks.0 mine ++ (drop asks.0 mine ++ rest) = ap (λ (l : List (List ℕ)). l ++ rest) (sym (take-append-drop asks.0 mine)) ∙ append_assoc (take asks.0 mine) (drop asks.0 mine) rest in
    asked_front all (drop asks.0 mine ++ rest) old new (asked_more all (take asks.0 mine) (drop asks.0 mine ++ rest) old now new (subst (λ (l : List (List ℕ)). HasAsked all l old now) parts has) asks.1)

-- one path, whatever the result for its file
pub opens_one : {T E : Type 0} (path : List ℕ) (r : Result T E) (old new : Option (List (List ℕ))) → AsksFor (path ∷ []) old new → OpensThese (path ∷ []) r old new
opens_one path (Ok v) old new asks = asks
opens_one path (Err e) old new asks = (1, asks)

pub opens_refused : (T : Type 0) (path : List ℕ) (e : GetError) (old new : Option (List (List ℕ))) → Asks {T = T} old new path (Err e) → (n : ℕ) × AsksFor (take n (path ∷ [])) old new
opens_refused T path get.Failed old new asks = (1, asks)
opens_refused T path get.Memory old new asks = (0, same old new asks)
  where
    same : (old new : Option (List (List ℕ))) → StepsBy (λ before now. now ≡ before) old new → AsksFor [] old new
    same None None asks = tt
    same None (Some b) asks = absurd asks
    same (Some a) None asks = absurd asks
    same (Some a) (Some b) asks = asks ∙ sym (append-nil a)

-- the first n were asked for
asked_count : (all rest : List (List ℕ)) (n : ℕ) (old now : Option (List (List ℕ))) → length all ≡ n + length rest → HasAsked all rest old now → AsksFor (take n all) old now
asked_count all rest n None None size has = tt
asked_count all rest n None (Some b) size has = absurd has
asked_count all rest n (Some a) None size has = absurd has
asked_count all rest n (Some a) (Some b) size has =
    let mine : length has.0 ≡ n = omega (arith, size, ap length has.2, length-append has.0 rest) in
    has.1 ∙ ap (λ (l : List (List ℕ)). a ++ l) (sym (ap (λ (l : List (List ℕ)). take n l) has.2 ∙ take_at has.0 rest n mine))

-- the inputs from one on
ahead : (inputs : List Input) (i : ℕ) (input : Input) → slice_get inputs i ≡ Some input → drop i inputs ≡ input ∷ drop (i + 1) inputs
ahead inputs i input is =
    drop_more inputs i input (slice_get_within inputs i input is) ∙ ap (λ (q : Input). q ∷ drop (i + 1) inputs) (get_or_from_slice_get inputs i input input is)

pub paths_more : (inputs : List Input) (i : ℕ) (input : Input) → slice_get inputs i ≡ Some input → paths_from inputs i ≡ (input.path ∷ []) ++ paths_from inputs (i + 1)
paths_more inputs i input is = ap (λ (l : List Input). map (λ (q : Input). q.path) l) (ahead inputs i input is)

pub paths_none : (inputs : List Input) (i : ℕ) → length inputs ≤ i → paths_from inputs i ≡ []
paths_none inputs i past = ap (λ (l : List Input). map (λ (q : Input). q.path) l) (drop_all i inputs past)

paths_length : (inputs : List Input) (i : ℕ) → length (paths_from inputs i) ≡ length inputs - i
paths_length inputs i = length-map (drop i inputs) (λ (q : Input). q.path) ∙ length-drop i inputs

-- a scan that is refused by the file of an input
module _ (inputs : List Input) (from i : ℕ) (input : Input) (is : slice_get inputs i ≡ Some input) (le : from ≤ i) (lt : i < length inputs) (old now new : Option (List (List ℕ))) (has : HasAsked (paths_from inputs from) (paths_from inputs i) old now) where
  up_to_here : AsksFor (input.path ∷ []) now new → OpensUpTo inputs from i old new
  up_to_here asks =
      let front : HasAsked (paths_from inputs from) (paths_from inputs (i + 1)) old new = asked_more (paths_from inputs from) (input.path ∷ []) (paths_from inputs (i + 1)) old now new (subst (λ (l : List (List ℕ)). HasAsked (paths_from inputs from) l old now) (paths_more inputs i input is) has) asks in
      record {
        behind = le;
        within = lt;
        asked = asked_count (paths_from inputs from) (paths_from inputs (i + 1)) (i + 1 - from) old new (omega (arith, le, lt, paths_length inputs from, paths_length inputs (i + 1))) front;
      }

  at_input : (source : ℕ) → source ≡ i → AsksFor (input.path ∷ []) now new → OpensUpTo inputs from source old new
  at_input source same asks = subst (λ (n : ℕ). OpensUpTo inputs from n old new) (sym same) (up_to_here asks)

  pub stops_here : (origin : ℕ) (e : ScanError) → origin ≡ i → NamesInput origin e → Blames e (AsksFor (input.path ∷ []) now new) → StopsAt inputs from old new e
  stops_here origin SourceFault here named asks = tt
  stops_here origin Memory here named asks = tt
  stops_here origin NoBounds here named asks = absurd named
  stops_here origin (BadLas source fault) here named asks = at_input source (named ∙ here) asks
  stops_here origin (OutOfBounds source number) here named asks = at_input source (named ∙ here) asks
  stops_here origin (TooManyPoints source) here named asks = at_input source (named ∙ here) asks

-- what a source that cannot be opened means for an input
pub names_none : (origin : ℕ) (e : GetError) → NamesInput origin (scan_error_of e)
names_none origin get.Failed = tt
names_none origin get.Memory = tt

pub blames_none : (fact : Type 0) (e : GetError) → Blames (scan_error_of e) fact
blames_none fact get.Failed = tt
blames_none fact get.Memory = tt

pub refused_blames : {T : Type 0} (r : Result T ScanError) (fact : Type 0) → fact → IfErr r (λ e. Blames e fact)
refused_blames (Ok v) fact is = tt
refused_blames (Err e) fact is = blames e fact is

-- the paths of the inputs of which records are left
left_at : (inputs : List Input) (counts : List SourceCount) (input : Input) (count : SourceCount) → paths_left (input ∷ inputs) (count ∷ counts) 0 ≡ path_left input count 0 ++ paths_left inputs counts 0
left_at inputs counts input count = ap (λ (n : ℕ). path_left input count 0 ++ paths_left inputs counts n) (none count.points)
  where
    none : (n : ℕ) → 0 - n ≡ 0
    none n = omega arith

pub left_more : (inputs : List Input) (counts : List SourceCount) (i : ℕ) (input : Input) (d : SourceCount) → slice_get inputs i ≡ Some input → i < length counts
    → paths_left (drop i inputs) (drop i counts) 0 ≡ path_left input (get_or counts i d) 0 ++ paths_left (drop (i + 1) inputs) (drop (i + 1) counts) 0
left_more inputs counts i input d is lt =
    ap (λ (l : List Input). paths_left l (drop i counts) 0) (ahead inputs i input is) ∙ ap (λ (l : List SourceCount). paths_left (input ∷ drop (i + 1) inputs) l 0) (drop_more counts i d lt)
    ∙ left_at (drop (i + 1) inputs) (drop (i + 1) counts) input (get_or counts i d)

pub left_none : (inputs : List Input) (counts : List SourceCount) (i : ℕ) → length counts ≤ i → paths_left (drop i inputs) (drop i counts) 0 ≡ []
left_none inputs counts i past = ap (λ (l : List SourceCount). paths_left (drop i inputs) l 0) (drop_all i counts past) ∙ empty (drop i inputs)
  where
    empty : (l : List Input) → paths_left l [] 0 ≡ []
    empty [] = refl
    empty (q ∷ l) = refl

pub path_some : (input : Input) (count : SourceCount) (drawn : ℕ) → drawn < count.points → path_left input count drawn ≡ input.path ∷ []
path_some input count drawn lt = ap (λ (b : Bool). cond b (input.path ∷ []) []) (lt-ltb drawn count.points lt)

pub path_none : (input : Input) (count : SourceCount) (drawn : ℕ) → count.points ≤ drawn → path_left input count drawn ≡ []
path_none input count drawn le = ap (λ (b : Bool). cond b (input.path ∷ []) []) (le-ltb drawn count.points le)

-- if the reading begins at a record of an input, this input and the later ones are left
pub starts_paths : (inputs : List Input) (counts : List SourceCount) (drawn index number : ℕ) → length counts ≡ length inputs → total (take index counts) + number ≡ drawn → ((count : SourceCount) → slice_get counts index ≡ Some count → number < count.points)
    → paths_left inputs counts drawn ≡ paths_left (drop index inputs) (drop index counts) 0
starts_paths [] counts drawn zero number each passed more = refl
starts_paths [] counts drawn (suc index) number each passed more = refl
starts_paths (input ∷ inputs) [] drawn index number each passed more = absurd (omega (arith, each))
starts_paths (input ∷ inputs) (count ∷ counts) drawn zero number each passed more =
    let within : drawn < count.points = omega (arith, passed, more count refl) in
    let done : drawn - count.points ≡ 0 = omega (arith, within) in
    ap (λ (n : ℕ). path_left input count drawn ++ paths_left inputs counts n) done
    ∙ ap (λ (l : List (List ℕ)). l ++ paths_left inputs counts 0) (path_some input count drawn within ∙ sym (path_some input count 0 (omega (arith, within)))) ∙ sym (left_at inputs counts input count)
starts_paths (input ∷ inputs) (count ∷ counts) drawn (suc index) number each passed more =
    let sum = sum_by-cons (λ (c : SourceCount). c.points) count (take index counts) in
    ap (λ (l : List (List ℕ)). l ++ paths_left inputs counts (drawn - count.points)) (path_none input count drawn (omega (arith, passed, sum)))
    ∙ starts_paths inputs counts (drawn - count.points) index number (omega (arith, each)) (omega (arith, passed, sum)) more

pub some_of : {X : Type 0} (xs : List X) (i : ℕ) → i < length xs → (x : X) × (slice_get xs i ≡ Some x)
some_of [] i lt = absurd (omega (arith, lt))
some_of (x ∷ xs) zero lt = (x, refl)
some_of (x ∷ xs) (suc i) lt = some_of xs i (omega (arith, lt))

-- one input after the other
module _ (inputs : List Input) (counts : List SourceCount) (i : ℕ) (d : SourceCount) (within : i < length inputs) (lt : i < length counts) (all : List (List ℕ)) (old now new : Option (List (List ℕ)))
    (has : HasAsked all (paths_left (drop i inputs) (drop i counts) 0) old now) where
  pub left_step : ((input : Input) → slice_get inputs i ≡ Some input → AsksFor (path_left input (get_or counts i d) 0) now new) → HasAsked all (paths_left (drop (i + 1) inputs) (drop (i + 1) counts) 0) old new
  left_step asks =
      let input = some_of inputs i within in
      asked_more all (path_left input.0 (get_or counts i d) 0) (paths_left (drop (i + 1) inputs) (drop (i + 1) counts) 0) old now new (subst (λ (l : List (List ℕ)). HasAsked all l old now) (left_more inputs counts i input.0 d input.1 lt) has) (asks input.0 input.1)

  pub left_failed : ((input : Input) → slice_get inputs i ≡ Some input → (n : ℕ) × AsksFor (take n (path_left input (get_or counts i d) 0)) now new) → (n : ℕ) × AsksFor (take n all) old new
  left_failed asks =
      let input = some_of inputs i within in
      asked_failed all (path_left input.0 (get_or counts i d) 0) (paths_left (drop (i + 1) inputs) (drop (i + 1) counts) 0) old now new (subst (λ (l : List (List ℕ)). HasAsked all l old now) (left_more inputs counts i input.0 d input.1 lt) has) (asks input.0 input.1)
