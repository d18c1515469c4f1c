-- How many bytes of the files were given.
use Rattle.std.proofs.Common.{◌≡◌, ⊎_elim, inl, inr, ℕ, ◌+◌, ◌*◌, ◌-◌, max, ◌<◌, ◌≤◌, List, [], ◌∷◌, ◌++◌, Option, Some, None, length, get_or, sym, ◌∙◌, ap, subst, arith, length-append}
use Rattle.std.specs.Prelude.{sum, slice_get}
use Rattle.std.proofs.lemmas.Bool.{cases_lt}
use Rattle.std.proofs.lemmas.List.{get_or_append_left}
use Rattle.std.proofs.lemmas.List.Sums.{sum_by-append}
use Rattle.std.proofs.Math.Seq.{get_or-append_seam}
use Rattle.ept_base.specs.Files.{Files, Tells}
use Rattle.ept_point.specs.declared.point.Point.{Point}
use Rattle.ept_space.specs.declared.bounds.Bounds.{Bounds}
use Rattle.ept_config.specs.declared.input.Input.{Input}
use Rattle.ept_config.specs.declared.source_count.SourceCount.{SourceCount}
use Rattle.ept_las.specs.declared.header.Header.{Header}
use Rattle.ept_las.specs.declared.header.TheConstants.{HEAD_LENGTH}
use Rattle.ept_scan.specs.declared.reading.Reading.{Reading}
use Rattle.ept_scan.specs.Counts.{FindsCount}
use Rattle.ept_scan.specs.Found.{FindsLists}
use Rattle.ept_scan.specs.LasFile.{HasHeader}
use Rattle.ept_scan.specs.Scans.{IsReadingOf, HasPoints, HasPointsAt, ArePointsFrom}
use Rattle.ept_scan.proofs.Reaching.{split_product}
use Rattle.ept_scan.specs.Reach.{end_of, IsReach, TakesOfFile, TakesOfPath, IsReachOf, ReadsUpTo, ReadsWithin}

-- at most the header was given
pub taken_head : (reading : Reading) (whole : Option (List ℕ)) (before now : ℕ) → now ≤ before + HEAD_LENGTH → Tells (λ file. TakesOfFile reading file before now) whole
taken_head reading None before now given = tt
taken_head reading (Some file) before now given = record { most = HEAD_LENGTH; reach = inl (omega arith); taken = given }

-- at most the records were given
pub taken_records : (reading : Reading) (header : Header) (some : 0 < header.points) (whole left : Option (List ℕ)) (before now : ℕ) → left ≡ whole → Tells (λ file. HasHeader reading file header) left → now ≤ before + max HEAD_LENGTH (end_of header) → Tells (λ file. TakesOfFile reading file before now) whole
taken_records reading header some whole left before now start has given = subst (Tells (λ file. TakesOfFile reading file before now)) start (told left has)
  where
    told : (left : Option (List ℕ)) → Tells (λ file. HasHeader reading file header) left → Tells (λ file. TakesOfFile reading file before now) left
    told None has = tt
    told (Some file) has =
        ⊎_elim (λ (more : HEAD_LENGTH < end_of header). record { most = end_of header; reach = inr (header, has, some, omega arith); taken = omega arith })
        (λ (less : end_of header ≤ HEAD_LENGTH). record { most = HEAD_LENGTH; reach = inl (omega arith); taken = omega arith }) (cases_lt HEAD_LENGTH (end_of header))

pub given_skipped : (head before first exit held offset more : ℕ) → first ≤ before + held → held ≤ head → exit ≤ first + (offset - held) → exit ≤ before + max head (offset + more)
given_skipped head before first exit held offset more gained short given = omega arith

pub given_scanned : (head before first second exit held rest offset more : ℕ) → first ≤ before + held → held ≤ head → second + held ≤ first + rest + offset → rest ≤ held - offset → exit ≤ second + (more - rest) → exit ≤ before + max head (offset + more)
given_scanned head before first second exit held rest offset more gained short skipped less given = omega arith

-- no byte was given
pub taken_none : (reading : Reading) (whole : Option (List ℕ)) (now : ℕ) → now ≡ 0 → Tells (λ file. TakesOfFile reading file 0 now) whole
taken_none reading whole now none = taken_head reading whole 0 now (omega (arith, none))

-- before a record of a file, and after it
pub given_up : (header : Header) (n given held now : ℕ) → n < header.points → given ≤ held + (header.offset + header.length * n) → held + (header.offset + header.length * n) ≤ max HEAD_LENGTH (end_of header) → now ≤ given + (header.length * (header.points - n) - held) → now ≤ 0 + max HEAD_LENGTH (end_of header)
given_up header n given held now within before reach more =
    let split : header.length * (header.points - n) + header.length * n ≡ header.length * header.points = split_product header.length n header.points (omega (arith, within)) in
    omega (arith, before, reach, more, split)

pub given_next : (header : Header) (n given held now after : ℕ) → given ≤ held + (header.offset + header.length * n) → now + held ≤ given + after + header.length → now ≤ after + (header.offset + header.length * (n + 1))
given_next header n given held now after before gained =
    let sum : header.length * n + header.length ≡ header.length * (n + 1) = omega arith in
    omega (arith, before, gained, sum)

pub given_start : (header : Header) (n k before held mid now : ℕ) → n < header.points → k ≡ header.offset + header.length * n → before ≡ 0 → mid ≤ before + held → held ≤ HEAD_LENGTH → now ≤ mid + (k - held) → now ≤ 0 + max HEAD_LENGTH (end_of header)
given_start header n k before held mid now within is none gained short more =
    let split : header.length * (header.points - n) + header.length * n ≡ header.length * header.points = split_product header.length n header.points (omega (arith, within)) in
    omega (arith, is, none, gained, short, more, split)

-- what was given for a path of a shelf, for the same path and shelf under other names
pub path_at : (reading : Reading) (there here : Option Files) (path name : List ℕ) (before now : ℕ) → there ≡ here → path ≡ name → Tells (λ all. TakesOfPath all path reading before now) there → Tells (λ all. TakesOfPath all name reading before now) here
path_at reading there here path name before now same_files same_path taken =
    subst (λ (l : List ℕ). Tells (λ all. TakesOfPath all l reading before now) here) same_path (subst (λ (o : Option Files). Tells (λ all. TakesOfPath all path reading before now) o) same_files taken)

sum_push : (mosts : List ℕ) (most : ℕ) → sum (mosts ++ most ∷ []) ≡ sum mosts + most
sum_push mosts most = omega (arith, sum_by-append (λ (n : ℕ). n) mosts (most ∷ []))

module _ (files : Option Files) (scale : ℕ) (limits : Option Bounds) (inputs : List Input) (from : ℕ) where
  -- no input was begun
  pub reads_none : (before : ℕ) → Tells (λ all. ReadsUpTo all scale limits inputs from from before before) files
  reads_none before = told files
    where
      told : (files : Option Files) → Tells (λ all. ReadsUpTo all scale limits inputs from from before before) files
      told None = tt
      told (Some all) = record { mosts = []; count = omega arith; each = λ k lt. absurd (omega (arith, lt)); taken = omega arith }

  -- each of the inputs that were found reads as points
  good_at : (all : Files) (end : ℕ) (lists : List (List Point)) → ArePointsFrom all scale limits inputs from end lists → (i : ℕ) → from ≤ i → i < end → (points : List Point) × HasPointsAt all scale limits inputs i points
  good_at all end lists are i least less =
      let at : from + (i - from) ≡ i = omega (arith, least) in
      let within : i - from < length lists = omega (arith, are.count, least, less) in
      (get_or lists (i - from) [], subst (λ (n : ℕ). HasPointsAt all scale limits inputs n (get_or lists (i - from) [])) at (are.each (i - from) [] within))

  -- all inputs that were begun read as points
  pub reads_end : (end before now : ℕ) (counts : List SourceCount) → end ≤ length inputs → FindsLists files scale limits inputs from end counts → Tells (λ all. ReadsUpTo all scale limits inputs from end before now) files → Tells (λ all. ReadsWithin all scale limits inputs from before now) files
  reads_end end before now counts fits found reads = told files found.are reads
    where
      told : (files : Option Files) → Tells (λ all. ArePointsFrom all scale limits inputs from end found.lists) files → Tells (λ all. ReadsUpTo all scale limits inputs from end before now) files → Tells (λ all. ReadsWithin all scale limits inputs from before now) files
      told None are reads = tt
      told (Some all) are reads = record { end = end; within = fits; reads = reads; good = λ i least less. good_at all end found.lists are i least (omega (arith, less)) }

  module _ (i : ℕ) (input : Input) (reading : Reading) (is : slice_get inputs i ≡ Some input) (reading_is : IsReadingOf scale limits i input reading) (before now later : ℕ) where
    push : (all : Files) (file : List ℕ) (most : ℕ) → all input.path ≡ Some file → IsReach reading file most → later ≤ now + most → ReadsUpTo all scale limits inputs from i before now → ReadsUpTo all scale limits inputs from (i + 1) before later
    push all file most content reach taken so_far = record {
      mosts = so_far.mosts ++ most ∷ [];
      count = omega (arith, so_far.count, length-append so_far.mosts (most ∷ []));
      each = λ k lt. ⊎_elim (λ (early : k < length so_far.mosts). subst (λ (n : ℕ). IsReachOf all scale limits inputs (from + k) n) (sym (get_or_append_left so_far.mosts (most ∷ []) 0 k early)) (so_far.each k early))
          (λ (past : length so_far.mosts ≤ k). newest k (omega (arith, lt, past, length-append so_far.mosts (most ∷ [])))) (cases_lt k (length so_far.mosts));
      taken = omega (arith, so_far.taken, taken, sum_push so_far.mosts most);
    }
      where
        newest : (k : ℕ) → k ≡ length so_far.mosts → IsReachOf all scale limits inputs (from + k) (get_or (so_far.mosts ++ most ∷ []) k 0)
        newest k same =
            let read : get_or (so_far.mosts ++ most ∷ []) k 0 ≡ most = ap (λ (n : ℕ). get_or (so_far.mosts ++ most ∷ []) n 0) same ∙ get_or-append_seam so_far.mosts most [] 0 in
            let place : from + k ≡ i = omega (arith, same, so_far.count) in
            subst (λ (n : ℕ). IsReachOf all scale limits inputs (from + k) n) (sym read)
            (subst (λ (n : ℕ). IsReachOf all scale limits inputs n most) (sym place) (record { input = input; reading = reading; is_input = record { is = is; reading_is = reading_is }; file = file; content = content; reach = reach }))

    -- an input that was read
    pub reads_more : (count : SourceCount) → Tells (λ all. ReadsUpTo all scale limits inputs from i before now) files → FindsCount reading.limits (λ points. Tells (λ all. HasPoints all input.path reading points) files) count
        → Tells (λ all. TakesOfPath all input.path reading now later) files → Tells (λ all. ReadsUpTo all scale limits inputs from (i + 1) before later) files
    reads_more count so_far found taken = told files so_far found.are taken
      where
        told : (files : Option Files) → Tells (λ all. ReadsUpTo all scale limits inputs from i before now) files → Tells (λ all. HasPoints all input.path reading found.points) files → Tells (λ all. TakesOfPath all input.path reading now later) files
            → Tells (λ all. ReadsUpTo all scale limits inputs from (i + 1) before later) files
        told None so_far has taken = tt
        told (Some all) so_far has taken =
            ⊎_elim (λ (none : later ≤ now). push all has.file 0 has.content (inl (omega arith)) (omega arith) so_far)
            (λ (some : (file : List ℕ) × (all input.path ≡ Some file) × TakesOfFile reading file now later). push all some.0 some.2.most some.1 some.2.reach some.2.taken so_far) taken

    -- an input after which none was begun
    pub reads_last : (counts : List SourceCount) → i < length inputs → FindsLists files scale limits inputs from i counts → Tells (λ all. ReadsUpTo all scale limits inputs from i before now) files → Tells (λ all. TakesOfPath all input.path reading now later) files
        → Tells (λ all. ReadsWithin all scale limits inputs from before later) files
    reads_last counts lt found so_far taken = told files found.are so_far taken
      where
        told : (files : Option Files) → Tells (λ all. ArePointsFrom all scale limits inputs from i found.lists) files → Tells (λ all. ReadsUpTo all scale limits inputs from i before now) files → Tells (λ all. TakesOfPath all input.path reading now later) files
            → Tells (λ all. ReadsWithin all scale limits inputs from before later) files
        told None are so_far taken = tt
        told (Some all) are so_far taken =
            ⊎_elim
            (λ (none : later ≤ now).
            record {
              end = i;
              within = omega (arith, lt);
              reads = record { mosts = so_far.mosts; count = so_far.count; each = so_far.each; taken = omega (arith, so_far.taken, none) };
              good = λ k least less. good_at all i found.lists are k least (omega (arith, less));
            })
            (λ (some : (file : List ℕ) × (all input.path ≡ Some file) × TakesOfFile reading file now later).
            record {
              end = i + 1;
              within = omega (arith, lt);
              reads = push all some.0 some.2.most some.1 some.2.reach some.2.taken so_far;
              good = λ k least less. good_at all i found.lists are k least (omega (arith, less));
            }) taken
