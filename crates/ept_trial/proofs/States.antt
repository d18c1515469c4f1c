-- The states of the generator, step by step.
use Rattle.std.proofs.Common.{◌≡◌, ◌∙◌, ℕ, zero, suc, ◌+◌, ◌*◌, ap, arith}
use Rattle.ept_num.specs.Generator.{after}
use Rattle.ept_trial.specs.Trials.{state}

-- steps and then more steps are all of them
pub state-add : (first a b : ℕ) → state (state first a) b ≡ state first (a + b)
state-add first a zero = let e : a ≡ a + 0 = omega arith in ap (λ (n : ℕ). state first n) e
state-add first a (suc b) =
    let e : suc (a + b) ≡ a + suc b = omega arith in
    ap after (state-add first a b) ∙ ap (λ (n : ℕ). state first n) e

pub state-next : (first a b : ℕ) → b ≡ suc a → state first b ≡ after (state first a)
state-next first a b is = ap (λ (n : ℕ). state first n) is

-- twelve steps lead from the record of a point to that of the fourth point after it
pub state-fourth : (count input n at mid end : ℕ) → at ≡ state count (3 * (4 * n + input)) → mid ≡ state at 3 → end ≡ state mid 9 → end ≡ state count (3 * (4 * (n + 1) + input))
state-fourth count input n at mid end is now then =
    let m : ℕ = 3 * (4 * n + input) in
    let sum : 3 * (4 * n + input) + 3 + 9 ≡ 3 * (4 * (n + 1) + input) = omega arith in
    then ∙ ap (λ (s : ℕ). state s 9) (now ∙ ap (λ (s : ℕ). state s 3) is ∙ state-add count (3 * (4 * n + input)) 3)
    ∙ state-add count (3 * (4 * n + input) + 3) 9 ∙ ap (λ (k : ℕ). state count k) sum
