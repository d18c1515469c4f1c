-- The columns of cells, from the code.
use Rattle.std.proofs.Common.{◌≡◌, ◌∙◌, ℕ, ◌+◌, ◌-◌, ◌*◌, ◌%◌, ◌^◌, ◌<◌, ◌≤◌, List, get_or, sym, ap, subst, arith, lit<}
use Rattle.std.specs.Prelude.{bit_and}
use Rattle.std.proofs.lemmas.Nat.{and_mask, one_shl, mod_below, pow_pos, pow-add, mul-le}
use Rattle.std.proofs.Math.Nat.{mod-eq_of_lt, mul-le-mul_right, pow-le-pow_right}
use Rattle.ept_point.specs.declared.point.Point.{Point}
use Rattle.ept_space.specs.declared.cube.Rules.{Rules}
use Rattle.ept_space.specs.OctreeCube.{OctreeCube, cell_at}
use Rattle.ept_sample.specs.Place.{place}
use Rattle.ept_grid.specs.declared.spot.Spot.{Spot}
use Rattle.ept_grid.specs.Columns.{column_of, spot}

below-square : (a b side : ℕ) → a < side → b < side → a + b * side < side * side
below-square a b side la lb =
    let up : (b + 1) * side ≤ side * side = mul-le-mul_right side (omega arith) in
    let step : (b + 1) * side ≡ b * side + side = omega arith in
    omega arith

-- a column is one of the box's columns
pub column-low : (cube : OctreeCube) (x y : ℕ) → column_of cube x y < 2 ^ (2 * cube.s)
unfolding column_of
column-low cube x y =
    let positive = pow_pos cube.s in
    let all : 2 ^ (2 * cube.s) ≡ 2 ^ cube.s * 2 ^ cube.s = ap (λ n. 2 ^ n) (let e : 2 * cube.s ≡ cube.s + cube.s = omega arith in e) ∙ pow-add 2 cube.s cube.s in
    subst (λ n. column_of cube x y < n) (sym all) (below-square (x % 2 ^ cube.s) (y % 2 ^ cube.s) (2 ^ cube.s) (mod_below x (2 ^ cube.s) positive) (mod_below y (2 ^ cube.s) positive))

shifted : (n s : ℕ) → s ≤ 10 → n % 2 ^ s * 2 ^ s % 4294967296 ≡ n % 2 ^ s * 2 ^ s
shifted n s small =
    let side : 2 ^ s ≤ 2 ^ 10 = pow-le-pow_right (lit< tt) small in
    let low = mod_below n (2 ^ s) (pow_pos s) in
    let product : n % 2 ^ s * 2 ^ s ≤ 1024 * 1024 = mul-le (n % 2 ^ s) (2 ^ s) 1024 1024 (omega arith) (omega arith) in
    mod-eq_of_lt (omega arith)

-- a column by masks and a shift
pub column-code : (cube : OctreeCube) (x y s : ℕ) → s ≡ cube.s → s ≤ 10 → bit_and x (1 * 2 ^ s % 4294967296 - 1) + bit_and y (1 * 2 ^ s % 4294967296 - 1) * 2 ^ s % 4294967296 ≡ column_of cube x y
unfolding column_of
column-code cube x y s is small =
    let side : 1 * 2 ^ s % 4294967296 ≡ 2 ^ s = one_shl s 32 (omega arith) in
    ap (λ n. bit_and x (n - 1) + bit_and y (n - 1) * 2 ^ s % 4294967296) side ∙ ap (λ n. n + bit_and y (2 ^ s - 1) * 2 ^ s % 4294967296) (and_mask x s) ∙ ap (λ n. x % 2 ^ s + n * 2 ^ s % 4294967296) (and_mask y s) ∙ ap (λ n. x % 2 ^ s + n) (shifted y s small) ∙ ap (λ n. x % 2 ^ n + y % 2 ^ n * 2 ^ n) is

-- the spot of a point from its cell
pub spot-code : (rules : Rules) (depth : ℕ) (p : Point) (cell : List ℕ) (column : ℕ) → cell ≡ cell_at rules.cube depth (place p) → column ≡ column_of rules.cube (get_or cell 0 0) (get_or cell 1 0) → ◌≡◌ {A = Spot} (record { column = column; level = get_or cell 2 0 }) (spot rules depth p)
unfolding cell_at
spot-code rules depth p cell column is is_column =
    let at = is_column ∙ ap (λ (c : List ℕ). column_of rules.cube (get_or c 0 0) (get_or c 1 0)) is in
    let up = ap (λ (c : List ℕ). get_or c 2 0) is in
    cc

pub level-code : (rules : Rules) (depth : ℕ) (p : Point) (cell : List ℕ) → cell ≡ cell_at rules.cube depth (place p) → get_or cell 2 0 ≡ (spot rules depth p).level
unfolding cell_at
level-code rules depth p cell is = ap (λ (c : List ℕ). get_or c 2 0) is
