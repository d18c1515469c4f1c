-- What `decimal` writes for a number with a leading 1, and how long it is.
use Rattle.std.proofs.Common.{◌≡◌, ℕ, zero, suc, ◌+◌, ◌-◌, ◌*◌, ◌/◌, ◌%◌, ◌^◌, ◌<◌, ◌≤◌, List, [], ◌∷◌, ◌++◌, length, drop, set, refl, ap, sym, ◌∙◌, arith, length-append, subst, ℤ, pos, negsuc, unsigned_abs, int_lt, true, false, drop-drop}
use Rattle.std.proofs.lemmas.Bool.{false≢true}
use borrow.Author.Tests.{ltb-true}
use Rattle.std.proofs.lemmas.List.{drop-set, drop_all, append-nil}
use Rattle.std.proofs.Math.Nat.{pow-le-pow_right, one-le-pow, div-lt_iff_lt-mul}
use Rattle.std.proofs.lemmas.Nat.{pow-add}
use Rattle.std.proofs.lemmas.Fmt.{decimal_digit, decimal_step, length-decimal-le}
use Rattle.std.specs.Fmt.{decimal}
use Rattle.ept_num.specs.Decimals.{last_digits, fraction_text, scaled_text, decimal_text_of}

-- a power of ten up to the ninth
pub power_some : (k : ℕ) → k ≤ 9 → 1 ≤ 10 ^ k
power_some k h = one-le-pow k 10 (omega arith)

power_most : (k : ℕ) → k ≤ 9 → 10 ^ k ≤ 10 ^ 9
power_most k h = pow-le-pow_right {n = 10} (omega arith) h

-- a 1 before k digits makes `decimal` write all of them
pub decimal_after_one : (k r : ℕ) → k ≤ 9 → r < 10 ^ k → decimal (10 ^ k + r) ≡ 49 ∷ last_digits k r
decimal_after_one zero r h below =
    let none : r ≡ 0 = omega arith in
    subst (λ (x : ℕ). decimal (1 + x) ≡ 49 ∷ []) (sym none) (decimal_digit 1 (omega arith))
decimal_after_one (suc k) r h below =
    let small : 10 ^ k ≤ 10 ^ 9 = power_most k (omega arith) in
    let some : 1 ≤ 10 ^ k = power_some k (omega arith) in
    let tenth : (10 ^ suc k + r) / 10 ≡ 10 ^ k + r / 10 = omega arith in
    let last : (10 ^ suc k + r) % 10 ≡ r % 10 = omega arith in
    let front : decimal (10 ^ k + r / 10) ≡ 49 ∷ last_digits k (r / 10) = decimal_after_one k (r / 10) (omega arith) (omega arith) in
    let step : decimal (10 ^ suc k + r) ≡ decimal ((10 ^ suc k + r) / 10) ++ ((48 + (10 ^ suc k + r) % 10) ∷ []) = decimal_step (10 ^ suc k + r) (omega arith) (omega arith) in
    step ∙ rw (tenth, last, front) refl

pub length-last_digits : (k r : ℕ) → length (last_digits k r) ≡ k
length-last_digits zero r = refl
length-last_digits (suc k) r = omega (arith, length-append (last_digits k (r / 10)) ((48 + r % 10) ∷ []), length-last_digits k (r / 10))

-- the digits of the fraction and the 1 before them
pub length-decimal_after_one : (k r : ℕ) → k ≤ 9 → r < 10 ^ k → length (decimal (10 ^ k + r)) ≡ k + 1
length-decimal_after_one k r h below = rw (decimal_after_one k r h below) (omega (arith, length-last_digits k r))

-- the digits of the whole part leave room for the others
pub length-whole : (m k : ℕ) → k ≤ 9 → m < 2 ^ 64 → length (decimal (m / 10 ^ k)) + k ≤ 20
length-whole m k h fits =
    let some : 1 ≤ 10 ^ k = power_some k h in
    let split : 10 ^ 20 ≡ 10 ^ (20 - k) * 10 ^ k = subst (λ (x : ℕ). 10 ^ x ≡ 10 ^ (20 - k) * 10 ^ k) (let e : (20 - k) + k ≡ 20 = omega arith in e) (pow-add 10 (20 - k) k) in
    let below : m / 10 ^ k < 10 ^ (20 - k) = (div-lt_iff_lt-mul {k = 10 ^ k} {x = m} {y = 10 ^ (20 - k)} some).1 (omega arith) in
    let least : m / 10 ^ k ≤ m = omega arith in
    let short : length (decimal (m / 10 ^ k)) ≤ 20 - k = length-decimal-le (20 - k) (m / 10 ^ k) (omega arith) below (omega arith) in
    omega arith

-- the same, if the power is a number known to be it
pub length-decimal_at : (k r unit : ℕ) → k ≤ 9 → r < 10 ^ k → unit ≡ 10 ^ k → length (decimal (unit + r)) ≡ k + 1
length-decimal_at k r unit h below e = rw e (length-decimal_after_one k r h below)

pub length-whole_at : (m k unit : ℕ) → k ≤ 9 → m < 2 ^ 64 → unit ≡ 10 ^ k → length (decimal (m / unit)) + k ≤ 20
length-whole_at m k unit h fits e = rw e (length-whole m k h fits)

pub length-number : (m : ℕ) → m < 2 ^ 64 → length (decimal m) ≤ 20
length-number m fits = length-decimal-le 20 m (omega arith) (omega arith) fits

-- what follows the first byte at a place
rest_after : (b at : ℕ) (xs ys : List ℕ) → drop at xs ≡ b ∷ ys → drop (at + 1) xs ≡ ys
rest_after b at xs ys e = sym (drop-drop 1 at xs) ∙ ap (drop 1) e

-- the point in place of the 1
pub written_fraction : (k r unit : ℕ) → 1 ≤ k → k ≤ 9 → r < 10 ^ k → unit ≡ 10 ^ k → (was before : List ℕ) (start : ℕ) → length was ≡ 24 → length before ≡ 24 → start + length (decimal (unit + r)) ≡ 24 → drop start before ≡ decimal (unit + r) ++ drop 24 was → drop start (set before start 46) ≡ fraction_text k r
written_fraction zero r unit some most below e was before start full long at written = absurd (omega (arith, some))
written_fraction (suc k) r unit some most below e was before start full long at written =
    let inside : start < length before = omega (arith, length-decimal_at (suc k) r unit most below e) in
    let none : drop 24 was ≡ [] = drop_all 24 was (omega arith) in
    let whole : drop start before ≡ 49 ∷ last_digits (suc k) r =
    written ∙ rw (e, decimal_after_one (suc k) r most below, none) (append-nil _) in
    let rest : drop (start + 1) before ≡ last_digits (suc k) r = rest_after 49 start before (last_digits (suc k) r) whole in
    drop-set before start 46 inside ∙ ap (λ (x : List ℕ). 46 ∷ x) rest

no_below_zero : (n : ℕ) → int_lt (pos n) (pos 0) ≡ true → ⊥
no_below_zero n h = let below : n < 0 = ltb-true n 0 h in omega arith

-- a negative number: its sign before its magnitude
pub written_negative : (n z : ℤ) (k m : ℕ) → z ≡ n → m ≡ unsigned_abs z → int_lt z (pos 0) ≡ true → (text : List ℕ) (start : ℕ) → 1 ≤ start → start ≤ length text → drop start text ≡ scaled_text m k → drop (start - 1) (set text (start - 1) 45) ≡ decimal_text_of n k
unfolding decimal_text_of
written_negative (pos n) z k m is e negative text start some inside written = absurd (no_below_zero n (rw is at negative))
written_negative (negsuc n) z k m is e negative text start some inside written =
    let size : m ≡ suc n = e ∙ ap unsigned_abs is in
    let place : (start - 1) + 1 ≡ start = omega arith in
    drop-set text (start - 1) 45 (omega arith) ∙ ap (λ (x : List ℕ). 45 ∷ x) (ap (λ (x : ℕ). drop x text) place ∙ (written ∙ ap (λ (x : ℕ). scaled_text x k) size))

pub written_positive : (n z : ℤ) (k m : ℕ) → z ≡ n → m ≡ unsigned_abs z → int_lt z (pos 0) ≡ false → (text : List ℕ) (start : ℕ) → drop start text ≡ scaled_text m k → drop start text ≡ decimal_text_of n k
unfolding decimal_text_of
written_positive (pos n) z k m is e positive text start written = written ∙ ap (λ (x : ℕ). scaled_text x k) (e ∙ ap unsigned_abs is)
written_positive (negsuc n) z k m is e positive text start written = absurd (false≢true (sym (rw is at positive)))
