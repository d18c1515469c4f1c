-- The header of a file whose first bytes were read.
use Rattle.std.proofs.Common.{◌≡◌, ⊎_elim, ℕ, ◌<◌, ◌≤◌, List, [], ◌++◌, Option, Some, None, Result, Err, length, take, refl, sym, ◌∙◌, ap, subst, arith}
use Rattle.std.proofs.lemmas.Bool.{cases_lt}
use Rattle.std.proofs.lemmas.List.{take_at, take_all, append-nil}
use Rattle.std.specs.Io.KnownBytes.{prepend_known, Keeps, IsAtEnd}
use Rattle.ept_base.specs.Files.{Tells}
use Rattle.ept_las.specs.declared.header.Header.{Header}
use Rattle.ept_las.specs.declared.header.TheConstants.{HEAD_LENGTH}
use Rattle.ept_las.specs.declared.las_error.LasError.{LasError}
use Rattle.ept_las.specs.LasHeader.{HeaderReadsAs}
use Rattle.ept_scan.specs.LasFile.{head_of}

-- the bytes that were read are those that may belong to the header
head_is : (held rest file : List ℕ) → held ++ rest ≡ file → length held ≤ HEAD_LENGTH → (length held < HEAD_LENGTH → rest ≡ []) → held ≡ head_of file
head_is held rest file is short end =
    ⊎_elim
    (λ (less : length held < HEAD_LENGTH).
    let whole : held ≡ file = sym (append-nil held) ∙ ap (λ (l : List ℕ). held ++ l) (sym (end less)) ∙ is in
    sym (take_all HEAD_LENGTH held short) ∙ ap (λ (l : List ℕ). take HEAD_LENGTH l) whole)
    (λ (full : HEAD_LENGTH ≤ length held). let size : length held ≡ HEAD_LENGTH = omega (arith, full, short) in sym (ap (λ (l : List ℕ). take HEAD_LENGTH l) (sym is) ∙ take_at held rest HEAD_LENGTH size)) (cases_lt (length held) HEAD_LENGTH)

pub header_told : (before held : List ℕ) (old new : Option (List ℕ)) (expect : Option (List ℕ)) (r : Result Header LasError) → before ≡ [] → Keeps (prepend_known before old) (prepend_known held new) → length held ≤ HEAD_LENGTH → (length held < HEAD_LENGTH → IsAtEnd new)
    → HeaderReadsAs held expect r → Tells (λ file. HeaderReadsAs (head_of file) expect r) old
header_told before held None new expect r none keeps short end reads = tt
header_told before held (Some file) None expect r none keeps short end reads = absurd keeps
header_told before held (Some file) (Some rest) expect r none keeps short end reads =
    let whole : held ++ rest ≡ file = keeps ∙ ap (λ (l : List ℕ). l ++ file) none in
    subst (λ (l : List ℕ). HeaderReadsAs l expect r) (head_is held rest file whole short end) reads

pub fault_told : (before held : List ℕ) (old new : Option (List ℕ)) (expect : Option (List ℕ)) (fault : LasError) (origin : ℕ) → before ≡ [] → Keeps (prepend_known before old) (prepend_known held new) → length held ≤ HEAD_LENGTH → (length held < HEAD_LENGTH → IsAtEnd new)
    → HeaderReadsAs held expect (Err fault) → Tells (λ file. (origin ≡ origin) × HeaderReadsAs (head_of file) expect (Err fault)) old
fault_told before held None new expect fault origin none keeps short end reads = tt
fault_told before held (Some file) new expect fault origin none keeps short end reads = (refl, header_told before held (Some file) new expect (Err fault) none keeps short end reads)

-- what is ahead of the first byte is the file
pub front_kept : (before held : List ℕ) (old new : Option (List ℕ)) → before ≡ [] → Keeps (prepend_known before old) (prepend_known held new) → Keeps old (prepend_known held new)
front_kept before held None new none keeps = tt
front_kept before held (Some file) None none keeps = absurd keeps
front_kept before held (Some file) (Some rest) none keeps = keeps ∙ ap (λ (l : List ℕ). l ++ file) none
