-- The records of an input's file, and where each is.
use Rattle.std.proofs.Common.{◌≡◌, ◌∙◌, ℕ, zero, suc, ◌+◌, ◌*◌, ◌<◌, ◌≤◌, List, ◌++◌, length, take, drop, refl, sym, ap, subst, arith, append_assoc, length-append, ⊎_elim}
use Rattle.std.proofs.lemmas.Bool.{cases_lt}
use Rattle.std.specs.Prelude.{◌%◌, replicate}
use Rattle.byteorder.specs.Endian.{little_bytes}
use Rattle.ept_num.specs.Generator.{after}
use Rattle.std.proofs.Math.Seq.{drop-append_seam, take-append_seam}
use Rattle.ept_trial.specs.Trials.{state}
use Rattle.ept_trial.specs.Scans.{drawn, record_bytes, first_records}

-- the record of the point after the first `n` of an input
abbrev pub record-of : ℕ → ℕ → ℕ → List ℕ
record-of count input n = record_bytes (state count (3 * (4 * n + input))) (4 * n + input)

pub length-record : (at i : ℕ) → length (record_bytes at i) ≡ 20
unfolding record_bytes
length-record at i = refl

pub length-records : (count input n : ℕ) → length (first_records count input n) ≡ 20 * n
length-records count input zero = refl
length-records count input (suc n) =
    let rest = length-records count input n in
    let one = length-record (state count (3 * (4 * n + input))) (4 * n + input) in
    let all = length-append (first_records count input n) (record_bytes (state count (3 * (4 * n + input))) (4 * n + input)) in
    omega (arith, rest, one, all)

-- after the first `n` bytes come the others
drop-at : (n : ℕ) (xs ys : List ℕ) → length xs ≡ n → drop n (xs ++ ys) ≡ ys
drop-at n xs ys is = subst (λ (m : ℕ). drop m (xs ++ ys) ≡ ys) is (drop-append_seam xs ys)

take-at : (n : ℕ) (xs ys : List ℕ) → length xs ≡ n → take n (xs ++ ys) ≡ xs
take-at n xs ys is = subst (λ (m : ℕ). take m (xs ++ ys) ≡ xs) is (take-append_seam xs ys)

pub record-at : (count input n k : ℕ) (more : List ℕ) → k < n → take 20 (drop (20 * k) (first_records count input n ++ more)) ≡ record-of count input k
record-at count input zero k more within = absurd (omega (arith, within))
record-at count input (suc n) k more within =
    let r : List ℕ = record_bytes (state count (3 * (4 * n + input))) (4 * n + input) in
    let front : List ℕ = first_records count input n in
    subst (λ (w : List ℕ). take 20 (drop (20 * k) w) ≡ record_bytes (state count (3 * (4 * k + input))) (4 * k + input)) (sym (append_assoc front r more))
    (⊎_elim
    (λ (less : k < n). record-at count input n k (r ++ more) less)
    (λ (most : n ≤ k).
    let same : n ≡ k = omega (arith, within, most) in
    subst (λ (m : ℕ). take 20 (drop (20 * m) (front ++ (r ++ more))) ≡ record_bytes (state count (3 * (4 * m + input))) (4 * m + input)) same
    (ap (λ (w : List ℕ). take 20 w) (drop-at (20 * n) front (r ++ more) (length-records count input n))
    ∙ take-at 20 r more (length-record (state count (3 * (4 * n + input))) (4 * n + input))))
    (cases_lt k n))

-- ---- one more record

five : (out p q r s t : List ℕ) → ((((out ++ p) ++ q) ++ r) ++ s) ++ t ≡ out ++ (p ++ (q ++ (r ++ (s ++ t))))
five out p q r s t = simp append_assoc

pub record-end : (at i : ℕ) (out a b d e f w tail : List ℕ) (x y z : ℕ) → a ≡ out ++ little_bytes 4 x → b ≡ a ++ little_bytes 4 y → d ≡ b ++ little_bytes 4 z → e ≡ d ++ w → f ≡ e ++ tail → x ≡ drawn (after at) 100000 → y ≡ drawn (after (after at)) 100000 → z ≡ drawn (after (after (after at))) 1000 → w ≡ little_bytes 2 (i % 65536) → tail ≡ replicate 6 0 → f ≡ out ++ record_bytes at i
unfolding record_bytes
record-end at i out a b d e f w tail x y z pa pb pd pe pf px py pz pw pt =
    pf ∙ ap (λ (u : List ℕ). u ++ tail) (pe ∙ ap (λ (u : List ℕ). u ++ w) (pd ∙ ap (λ (u : List ℕ). u ++ little_bytes 4 z) (pb ∙ ap (λ (u : List ℕ). u ++ little_bytes 4 y) pa)))
    ∙ five out (little_bytes 4 x) (little_bytes 4 y) (little_bytes 4 z) w tail
    ∙ (λ j. out ++ (little_bytes 4 (px j) ++ (little_bytes 4 (py j) ++ (little_bytes 4 (pz j) ++ (pw j ++ pt j)))))

pub records-more : (count input n at : ℕ) (header old new : List ℕ) → old ≡ header ++ first_records count input n → at ≡ state count (3 * (4 * n + input)) → new ≡ old ++ record_bytes at (4 * n + input) → new ≡ header ++ first_records count input (n + 1)
records-more count input n at header old new was is now =
    let next : suc n ≡ n + 1 = omega arith in
    now ∙ (λ j. was j ++ record_bytes (is j) (4 * n + input))
    ∙ append_assoc header (first_records count input n) (record_bytes (state count (3 * (4 * n + input))) (4 * n + input))
    ∙ ap (λ (m : ℕ). header ++ first_records count input m) next
