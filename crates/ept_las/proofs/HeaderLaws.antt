-- The first bytes of a file read in one way.
use Rattle.std.proofs.Common.{◌≡◌, ℕ, ◌<◌, List, Option, Result, Ok, Err, refl, sym, ap, ◌∙◌, arith, inl, inr, cond, eqb}
use Rattle.std.proofs.lemmas.Bool.{cases_lt}
use Rattle.ept_las.specs.declared.header.Header.{Header}
use Rattle.ept_las.specs.declared.las_error.LasError.{LasError}
use Rattle.ept_las.specs.declared.las_error.LasError.TheVariants.{Short, Signature, Version, HeaderSize, Compressed, Format, RecordLength, PointOffset, Expect, Truncated}
use Rattle.ept_las.specs.LasHeader.{code_of, HasFault, HeaderReadsAs}

-- the fault of a code below 10
fault_at : ℕ → LasError
fault_at n =
    cond (eqb n 1) Short (cond (eqb n 2) Signature (cond (eqb n 3) Version (cond (eqb n 4) HeaderSize (cond (eqb n 5) Compressed (cond (eqb n 6) Format (cond (eqb n 7) RecordLength (cond (eqb n 8) PointOffset Expect)))))))

-- a fault of a header has a code below 10, and is the fault of its code
fault_at-code_of : (head : List ℕ) (expect : Option (List ℕ)) (f : LasError) → HasFault head expect f → fault_at (code_of f) ≡ f
unfolding fault_at
fault_at-code_of head expect Short h = refl
fault_at-code_of head expect Signature h = refl
fault_at-code_of head expect Version h = refl
fault_at-code_of head expect HeaderSize h = refl
fault_at-code_of head expect Compressed h = refl
fault_at-code_of head expect Format h = refl
fault_at-code_of head expect RecordLength h = refl
fault_at-code_of head expect PointOffset h = refl
fault_at-code_of head expect Expect h = refl
fault_at-code_of head expect (Truncated n) h = absurd h

code_small : (head : List ℕ) (expect : Option (List ℕ)) (f : LasError) → HasFault head expect f → code_of f < 10
code_small head expect Short h = omega arith
code_small head expect Signature h = omega arith
code_small head expect Version h = omega arith
code_small head expect HeaderSize h = omega arith
code_small head expect Compressed h = omega arith
code_small head expect Format h = omega arith
code_small head expect RecordLength h = omega arith
code_small head expect PointOffset h = omega arith
code_small head expect Expect h = omega arith
code_small head expect (Truncated n) h = absurd h

-- two first faults are the same
fault_once : (head : List ℕ) (expect : Option (List ℕ)) (f g : LasError) → HeaderReadsAs head expect (Err f) → HeaderReadsAs head expect (Err g) → f ≡ g
fault_once head expect f g hf hg =
    elim (cases_lt (code_of f) (code_of g)) [
      | inl less ↦ absurd (hg.0 f less hf.1)
      | inr above ↦
          elim (cases_lt (code_of g) (code_of f)) [
            | inl less ↦ absurd (hf.0 g less hg.1)
            | inr below ↦
                let same : code_of f ≡ code_of g = omega arith in
                sym (fault_at-code_of head expect f hf.1) ∙ ap fault_at same ∙ fault_at-code_of head expect g hg.1
          ]
    ]

same_header : (a b : Header) → a.minor ≡ b.minor → a.format ≡ b.format → a.length ≡ b.length → a.offset ≡ b.offset → a.points ≡ b.points → a ≡ b
same_header a b minors formats lengths offsets points =
    λ i. record { minor = minors i; format = formats i; length = lengths i; offset = offsets i; points = points i }

pub header_once : (head : List ℕ) (expect : Option (List ℕ)) (a b : Result Header LasError) → HeaderReadsAs head expect a → HeaderReadsAs head expect b → a ≡ b
header_once head expect (Ok a) (Ok b) h g =
    ap (λ (header : Header). Ok header) (same_header a b (h.1.minor_is ∙ sym g.1.minor_is) (h.1.format_is ∙ sym g.1.format_is) (h.1.length_is ∙ sym g.1.length_is) (h.1.offset_is ∙ sym g.1.offset_is) (h.1.points_is ∙ sym g.1.points_is))
header_once head expect (Ok a) (Err g') h g = absurd (h.0 g' (code_small head expect g' g.1) g.1)
header_once head expect (Err f) (Ok b) h g = absurd (g.0 f (code_small head expect f h.1) h.1)
header_once head expect (Err f) (Err g') h g = ap (λ (fault : LasError). Err fault) (fault_once head expect f g' h g)
