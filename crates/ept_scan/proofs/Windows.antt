-- The bytes of a window, as parts of its buffer.
use Rattle.std.proofs.Common.{◌≡◌, ℕ, ◌+◌, ◌-◌, ◌≤◌, ◌<◌, List, ◌++◌, Option, Some, None, length, take, drop, sym, ◌∙◌, ap, arith, append_assoc, length-take, length-drop}
use Rattle.std.proofs.lemmas.List.{drop-drop, drop-take, take_at}
use Rattle.std.specs.List.{copy_within}
use Rattle.std.specs.Io.KnownBytes.{prepend_known, Keeps}
use Rattle.ept_base.specs.Devices.{ReadsFull}
use Rattle.ept_base.proofs.Runs.{front_grown}
use borrow.Rule.Slice.PartMut.{put_mid}

-- without the first bytes
pub let_go : (buffer : List ℕ) (start end count : ℕ) → start ≤ end → count ≤ end - start
    → take (end - (start + count)) (drop (start + count) buffer) ≡ drop count (take (end - start) (drop start buffer))
let_go buffer start end count order fits =
    let parts : count + (end - (start + count)) ≡ end - start = omega arith in
    sym (ap (λ (n : ℕ). drop count (take n (drop start buffer))) (sym parts) ∙ drop-take count (end - (start + count)) (drop start buffer)
    ∙ ap (λ (l : List ℕ). take (end - (start + count)) l) (drop-drop count start buffer))

-- the bytes that were kept are at the start
moved : (buffer : List ℕ) (start end : ℕ) → start ≤ end → end ≤ length buffer → take (end - start) (copy_within buffer start end 0) ≡ take (end - start) (drop start buffer)
moved buffer start end order fits =
    take_at (take (end - start) (drop start buffer)) (drop (0 + (end - start)) buffer) (end - start) (omega (arith, length-take (end - start) (drop start buffer), length-drop start buffer))

-- more bytes were read after those that were kept
pub read_on : (buffer : List ℕ) (start end most count : ℕ) (copied into : List ℕ) (old new : Option (List ℕ)) → start ≤ end → end ≤ length buffer → copied ≡ copy_within buffer start end 0
    → end - start < most → most ≤ length copied → ReadsFull old new count into
    → Keeps (prepend_known (take (end - start) (drop start buffer)) old) (prepend_known (take (end - start + count) (put_mid (end - start) (most - (end - start)) copied into)) new)
read_on buffer start end most count copied into None new order fits is less room reads = tt
read_on buffer start end most count copied into (Some xs) None order fits is less room reads = absurd reads.consumed
read_on buffer start end most count copied into (Some xs) (Some ys) order fits is less room reads =
    let held : List ℕ = take (end - start) (drop start buffer) in
    let kept : take (end - start) copied ≡ held = ap (λ (l : List ℕ). take (end - start) l) is ∙ moved buffer start end order fits in
    let front : take (end - start + count) (put_mid (end - start) (most - (end - start)) copied into) ≡ held ++ take count into =
    front_grown copied into (end - start) count (most - (end - start)) (omega arith) reads.fits ∙ ap (λ (l : List ℕ). l ++ take count into) kept in
    ap (λ (l : List ℕ). l ++ ys) front ∙ append_assoc held (take count into) ys ∙ ap (λ (l : List ℕ). held ++ l) (sym reads.consumed)
