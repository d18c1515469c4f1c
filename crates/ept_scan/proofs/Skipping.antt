-- Bytes that are passed over one part after the other.
use Rattle.std.proofs.Common.{◌≡◌, ℕ, ◌+◌, ◌≤◌, List, [], ◌++◌, Option, Some, None, length, drop, zero, suc, ◌-◌, max, length-append, length-drop, refl, sym, ◌∙◌, ap, arith}
use Rattle.std.proofs.lemmas.List.{drop-drop, drop-append-le}
use Rattle.std.specs.Io.KnownBytes.{prepend_known, Keeps, IsAtEnd}
use Rattle.ept_scan.specs.Reach.{Skips, HasLeftOf}

pub skips_none : (known : Option (List ℕ)) → Skips known known 0
skips_none None = tt
skips_none (Some bytes) = refl

pub skips_keeps : (a b c : Option (List ℕ)) (n : ℕ) → Skips a b n → Keeps b c → Skips a c n
skips_keeps None b c n skips keeps = tt
skips_keeps (Some a) None c n skips keeps = absurd skips
skips_keeps (Some a) (Some b) None n skips keeps = absurd keeps
skips_keeps (Some a) (Some b) (Some c) n skips keeps = keeps ∙ skips

pub skips_more : (a new : Option (List ℕ)) (held after : List ℕ) (m n k : ℕ) → m + k ≡ n → k ≤ length held → after ≡ drop k held → Skips a (prepend_known held new) m → Skips a (prepend_known after new) n
skips_more None new held after m n k sum fits is skips = tt
skips_more (Some a) None held after m n k sum fits is skips = absurd skips
skips_more (Some a) (Some rest) held after m n k sum fits is skips =
    ap (λ (l : List ℕ). l ++ rest) is ∙ sym (drop-append-le k held rest fits) ∙ ap (λ (l : List ℕ). drop k l) skips ∙ drop-drop k m a ∙ ap (λ (i : ℕ). drop i a) sum

drop_none : (k : ℕ) → drop {A = ℕ} k [] ≡ []
drop_none zero = refl
drop_none (suc k) = refl

-- at the end all further bytes are passed over
pub skips_end : (a new : Option (List ℕ)) (held : List ℕ) (m n k : ℕ) → m + k ≡ n → held ≡ [] → IsAtEnd new → Skips a (prepend_known held new) m → Skips a (prepend_known held new) n
skips_end None new held m n k sum none end skips = tt
skips_end (Some a) None held m n k sum none end skips = absurd skips
skips_end (Some a) (Some rest) held m n k sum none end skips =
    let empty : held ++ rest ≡ [] = ap (λ (l : List ℕ). l ++ rest) none ∙ end in
    empty ∙ sym (ap (λ (i : ℕ). drop i a) (sym sum) ∙ sym (drop-drop k m a) ∙ ap (λ (l : List ℕ). drop k l) (sym skips ∙ empty) ∙ drop_none k)

-- what was read on the way
pub left_skipped : (first held : List ℕ) (old now exit : Option (List ℕ)) (m rest count k : ℕ) → Skips (prepend_known first old) (prepend_known held now) m → m + rest ≡ count → length held ≤ max (length first - m) rest
    → k ≤ rest - length held → HasLeftOf now exit k → HasLeftOf old exit (count - length first)
left_skipped first held None now exit m rest count k skips sum upper most left = tt
left_skipped first held (Some old) None exit m rest count k skips sum upper most left = absurd skips
left_skipped first held (Some old) (Some now) None m rest count k skips sum upper most left = tt
left_skipped first held (Some old) (Some now) (Some exit) m rest count k skips sum upper most left =
    let sizes : length held + length now ≡ length first + length old - m = sym (length-append held now) ∙ ap length skips ∙ length-drop m (first ++ old) ∙ ap (λ (i : ℕ). i - m) (length-append first old) in
    sized (length first) (length old) (length held) (length now) (length exit) m rest count k sizes sum upper most left
  where
    sized : (first old held now exit m rest count k : ℕ) → held + now ≡ first + old - m → m + rest ≡ count → held ≤ max (first - m) rest → k ≤ rest - held → now ≤ exit + k → old ≤ exit + (count - first)
    sized first old held now exit m rest count k sizes sum upper most left = omega arith

pub left_none : (known : Option (List ℕ)) (k : ℕ) → HasLeftOf known known k
left_none None k = tt
left_none (Some bytes) k = omega arith
