-- The file above a node, which has an entry of the node and is not the node's own.
use Rattle.std.proofs.Common.{◌≡◌, ◌∙◌, ℕ, zero, suc, ◌+◌, ◌-◌, ◌*◌, ◌/◌, ◌%◌, ◌^◌, ◌<◌, ◌≤◌, Bool, true, false, cond, ◌&&◌, ◌||◌, ◌==◌, nat_le, nat_lt, ◌⊎◌, inl, inr, refl, sym, ap, subst, arith}
use Rattle.std.proofs.lemmas.Bool.{false≢true}
use Rattle.std.proofs.lemmas.Bool.Decides.{nat_tests}
use Rattle.std.proofs.lemmas.Nat.{div-add-mod', div-mul-add, mod-mul-add, mod_below}
use Rattle.std.proofs.Math.Nat.{div-mul-le_self, mul-add-mod_self_right, mod_self}
use Rattle.std.specs.declared.cmp.Ordering.TheVariants.{Less, Equal}
use Rattle.ept_space.specs.VoxelKey.{VoxelKey, IsKey, root, ancestor, is_within, same_key, key_cmp, IsBefore}
use Rattle.ept_space.specs.KeyLaws.{parents}
use Rattle.ept_space.proofs.Family.{root-only, IsKey-parent, same-parts}
use Rattle.ept_space.proofs.KeyOrder.{key_cmp-less, key_cmp-same}
use Rattle.ept_space.proofs.Within.{same_key-true, same_key-same, is_within-self, is_within-unique, is_within-ancestor, is_within-level, depth-within, parents-ancestor}
use Rattle.ept_hier.specs.Hierarchy.{has_file, stands_in, is_link}
use Rattle.ept_hier.specs.OpenFiles.{file_depth, file_above}

-- ---- the depth of the file above

pub file_depth-all : (step depth : ℕ) → (step == 0) ≡ true → file_depth step depth ≡ 0
unfolding file_depth
file_depth-all step depth e = ap (λ b. cond b 0 ((depth - 1) / step * step)) e

pub file_depth-step : (step depth : ℕ) → (step == 0) ≡ false → file_depth step depth ≡ (depth - 1) / step * step
unfolding file_depth
file_depth-step step depth e = ap (λ b. cond b 0 ((depth - 1) / step * step)) e

pub either : (b : Bool) → (b ≡ true) ⊎ (b ≡ false)
either true = inl refl
either false = inr refl

pub file_depth-below : (step depth : ℕ) → 0 < depth → file_depth step depth < depth
file_depth-below step depth deep =
    elim (either (step == 0)) [
      | inl e ↦ let at = file_depth-all step depth e in omega (arith, at, deep)
      | inr e ↦ let at = file_depth-step step depth e in let low = div-mul-le_self (depth - 1) step in omega (arith, at, low, deep)
    ]

-- the least depth at which a multiple of the step is passed
record IsSplit (step depth level rest : ℕ) : Type 0 where
  whole : level + rest ≡ depth - 1
  less : rest < step

split : (step depth : ℕ) → (step == 0) ≡ false → IsSplit step depth ((depth - 1) / step * step) ((depth - 1) % step)
split step depth e = record {
  whole = div-add-mod' (depth - 1) step;
  less = mod_below (depth - 1) step (grind (arith, nat_tests));
}

-- ---- keys

pub has_file-all : (step : ℕ) (key : VoxelKey) → (step == 0) ≡ true → has_file step key ≡ same_key key root
unfolding has_file
has_file-all step key e = ap (λ b. cond b (same_key key root) (key.depth % step == 0)) e

pub has_file-step : (step : ℕ) (key : VoxelKey) → (step == 0) ≡ false → has_file step key ≡ (key.depth % step == 0)
unfolding has_file
has_file-step step key e = ap (λ b. cond b (same_key key root) (key.depth % step == 0)) e

root_by : (key : VoxelKey) (b : Bool) → IsKey key → (key.depth == 0) ≡ b → (key.depth == 0) ≡ same_key key root
root_by key true h e = e ∙ sym (same_key-same key root (root-only key h (grind (arith, nat_tests))))
root_by key false h e = e ∙ sym (ap (λ c. c && (key.x == 0) && (key.y == 0) && (key.z == 0)) e)

-- the root is the key of depth 0
pub root-test : (key : VoxelKey) → IsKey key → (key.depth == 0) ≡ same_key key root
root-test key h = root_by key (key.depth == 0) h refl

pub depth-ancestor : (n : ℕ) (key : VoxelKey) → (ancestor n key).depth ≡ key.depth - n
unfolding ancestor
depth-ancestor n key = refl

IsKey-parents : (n : ℕ) (key : VoxelKey) → IsKey key → IsKey (parents n key)
IsKey-parents zero key h = h
IsKey-parents (suc n) key h = IsKey-parent (parents n key) (IsKey-parents n key h)

pub IsKey-ancestor : (n : ℕ) (key : VoxelKey) → IsKey key → IsKey (ancestor n key)
IsKey-ancestor n key h = subst (λ k. IsKey k) (parents-ancestor n key) (IsKey-parents n key h)

pub above_as : (step : ℕ) (key : VoxelKey) → ancestor (key.depth - file_depth step key.depth) key ≡ file_above step key
unfolding file_above
above_as step key = refl

pub depth-above : (step : ℕ) (key : VoxelKey) → 0 < key.depth → (file_above step key).depth ≡ file_depth step key.depth
depth-above step key deep =
    let low = file_depth-below step key.depth deep in
    ap (λ k. k.depth) (sym (above_as step key)) ∙ (depth-ancestor (key.depth - file_depth step key.depth) key ∙ omega (arith, low))

pub within-above : (step : ℕ) (key : VoxelKey) → is_within (file_above step key) key ≡ true
within-above step key =
    subst (λ k. is_within k key ≡ true) (above_as step key) (is_within-ancestor (key.depth - file_depth step key.depth) key (omega arith))

-- ---- tests

pub and_true : (p q : Bool) → (p && q) ≡ true → (p ≡ true) × (q ≡ true)
and_true true q h = (refl, h)
and_true false q h = absurd (false≢true h)

and_both : (p q : Bool) → p ≡ true → q ≡ true → (p && q) ≡ true
and_both true q e f = f
and_both false q e f = e

same_test : (a b : Bool) → (a ≡ true → b ≡ true) → (b ≡ true → a ≡ true) → a ≡ b
same_test true b to from = sym (to refl)
same_test false true to from = from refl
same_test false false to from = refl

pub is_false : (b : Bool) → (b ≡ true → ⊥) → b ≡ false
is_false true h = absurd (h refl)
is_false false h = refl

-- ---- being in a file

-- with step 0 the file has all depths, otherwise its depths reach that of the key
abbrev Reaches : ℕ → VoxelKey → VoxelKey → Type 0
Reaches step top key = ((step == 0) || nat_le key.depth (top.depth + step)) ≡ true

stands-parts : (step : ℕ) (top key : VoxelKey) → stands_in step top key ≡ true → (is_within top key ≡ true) × Reaches step top key
unfolding stands_in
stands-parts step top key h = and_true (is_within top key) ((step == 0) || nat_le key.depth (top.depth + step)) h

stands-from : (step : ℕ) (top key : VoxelKey) → is_within top key ≡ true → Reaches step top key → stands_in step top key ≡ true
unfolding stands_in
stands-from step top key within reach =
    and_both (is_within top key) ((step == 0) || nat_le key.depth (top.depth + step)) within reach

pub multiple : (d step q rest : ℕ) → q * step + d % step ≡ d → d % step ≡ 0 → q * step ≡ d
multiple d step q rest whole none = omega (arith, whole, none)

quotient : (d step q top : ℕ) → q * step ≡ top → top < d → d ≤ top + step → (d - 1) / step * step ≡ top
quotient d step q top is above below =
    let rest : d - 1 - top < step = omega (arith, above, below) in
    let whole : q * step + (d - 1 - top) ≡ d - 1 = omega (arith, is, above) in
    let found : (d - 1) / step ≡ q = ap (λ n. n / step) (sym whole) ∙ div-mul-add q step (d - 1 - top) rest in
    ap (λ n. n * step) found ∙ is

-- a file that has a deeper node has the depth of the file above the node
level_of : (step : ℕ) (top key : VoxelKey) → has_file step top ≡ true → top.depth < key.depth → Reaches step top key → top.depth ≡ file_depth step key.depth
level_of step top key file deeper reach =
    elim (either (step == 0)) [
      | inl e ↦
          let is_root : top ≡ root = same_key-true top root (sym (has_file-all step top e) ∙ file) in
          ap (λ k. k.depth) is_root ∙ sym (file_depth-all step key.depth e)
      | inr e ↦
          let none : top.depth % step ≡ 0 = let passes = sym (has_file-step step top e) ∙ file in grind (arith, nat_tests) in
          let up : top.depth / step * step ≡ top.depth = multiple top.depth step (top.depth / step) 0 (div-add-mod' top.depth step) none in
          let below : key.depth ≤ top.depth + step = let r = ap (λ b. b || nat_le key.depth (top.depth + step)) (sym e) ∙ reach in grind (arith, nat_tests) in
          sym (file_depth-step step key.depth e ∙ quotient key.depth step (top.depth / step) top.depth up deeper below)
    ]

-- the file above a node reaches it
reaches-above : (step : ℕ) (key : VoxelKey) → 0 < key.depth → Reaches step (file_above step key) key
reaches-above step key deep =
    elim (either (step == 0)) [
      | inl e ↦ ap (λ b. b || nat_le key.depth ((file_above step key).depth + step)) e
      | inr e ↦
          let at = depth-above step key deep ∙ file_depth-step step key.depth e in
          let h = split step key.depth e in
          let low : key.depth ≤ (file_above step key).depth + step = omega (arith, at, h.whole, h.less, deep) in
          ap (λ b. b || nat_le key.depth ((file_above step key).depth + step)) e ∙ (let t : nat_le key.depth ((file_above step key).depth + step) ≡ true = grind (arith, nat_tests) in t)
    ]

-- a file that is not a node's own has the node if and only if it is the file above it
pub stands-above : (step : ℕ) (top key : VoxelKey) → has_file step top ≡ true → ¬ (top ≡ key) → stands_in step top key ≡ (nat_lt 0 key.depth && same_key top (file_above step key))
stands-above step top key file other =
    same_test (stands_in step top key) (nat_lt 0 key.depth && same_key top (file_above step key)) (λ stands.
    let h = stands-parts step top key stands in
    let low = depth-within top key h.0 in
    let deeper : top.depth < key.depth = deeper_than low h.0 in
    let level : top.depth ≡ (file_above step key).depth = level_of step top key file deeper h.1 ∙ sym (depth-above step key (omega (arith, deeper))) in
    let same : top ≡ file_above step key = is_within-unique top (file_above step key) key h.0 (within-above step key) level in
    and_both (nat_lt 0 key.depth) (same_key top (file_above step key)) (grind (arith, nat_tests)) (same_key-same top (file_above step key) same)) (λ both.
    let h = and_true (nat_lt 0 key.depth) (same_key top (file_above step key)) both in
    let same : top ≡ file_above step key = same_key-true top (file_above step key) h.1 in
    let deep : 0 < key.depth = let t = h.0 in grind (arith, nat_tests) in
    subst (λ k. stands_in step k key ≡ true) (sym same) (stands-from step (file_above step key) key (within-above step key) (reaches-above step key deep)))
  where
    deeper_than : top.depth ≤ key.depth → is_within top key ≡ true → top.depth < key.depth
    deeper_than low within =
        elim (either (nat_lt top.depth key.depth)) [
          | inl e ↦ grind (arith, nat_tests)
          | inr e ↦ absurd (other (is_within-level top key within (grind (arith, nat_tests))))
        ]

-- each node with a file is in it
pub stands-self : (step : ℕ) (key : VoxelKey) → stands_in step key key ≡ true
stands-self step key = stands-from step key key (is_within-self key) (reach (step == 0))
  where
    reach : (b : Bool) → (b || nat_le key.depth (key.depth + step)) ≡ true
    reach true = refl
    reach false = grind (arith, nat_tests)

differ : Less ≡ Equal → ⊥
differ e = cc

-- two keys in order differ
pub before-other : (a b : VoxelKey) → key_cmp a b ≡ Less → ¬ (a ≡ b)
before-other a b less same = differ (sym less ∙ key_cmp-same a b same)

depth-before : (a b : VoxelKey) → IsBefore a b → a.depth ≤ b.depth
depth-before a b (inl less) = omega (arith, less)
depth-before a b (inr h) = let same = h.0 in omega (arith, same)

-- no node is in the file of a node after it
pub stands-behind : (step : ℕ) (a b : VoxelKey) → key_cmp a b ≡ Less → stands_in step b a ≡ false
stands-behind step a b less =
    is_false (stands_in step b a) (λ stands.
    let h = stands-parts step b a stands in
    before-other a b less (sym (is_within-level b a h.0 (depth-before a b (key_cmp-less a b less)))))

-- ---- links

link_at : (step depth : ℕ) → (step == 0) ≡ false → 0 < depth → (depth == (depth - 1) / step * step + step) ≡ (depth % step == 0)
link_at step depth e deep =
    let h = split step depth e in
    elim (either (nat_lt ((depth - 1) % step + 1) step)) [
      | inl low ↦
          let small : (depth - 1) % step + 1 < step = grind (arith, nat_tests) in
          let whole : (depth - 1) / step * step + ((depth - 1) % step + 1) ≡ depth = let w = h.whole in omega (arith, w, deep) in
          let rest : depth % step ≡ (depth - 1) % step + 1 = ap (λ n. n % step) (sym whole) ∙ mod-mul-add ((depth - 1) / step) step ((depth - 1) % step + 1) small in
          apart depth ((depth - 1) / step * step) step (depth % step) ((depth - 1) % step) whole small rest
      | inr high ↦
          let full : (depth - 1) % step + 1 ≡ step = let l = h.less in grind (arith, nat_tests) in
          let whole : (depth - 1) / step * step + step ≡ depth = let w = h.whole in omega (arith, w, full, deep) in
          let rest : depth % step ≡ 0 = ap (λ n. n % step) (sym whole) ∙ (mul-add-mod_self_right ((depth - 1) / step) step step ∙ mod_self step) in
          together depth ((depth - 1) / step * step) step (depth % step) whole rest
    ]
  where
    apart : (d level s found rest : ℕ) → level + (rest + 1) ≡ d → rest + 1 < s → found ≡ rest + 1 → (d == level + s) ≡ (found == 0)
    apart d level s found rest whole small is = grind (arith, nat_tests)

    together : (d level s found : ℕ) → level + s ≡ d → found ≡ 0 → (d == level + s) ≡ (found == 0)
    together d level s found whole is = grind (arith, nat_tests)

pub link_as : (step : ℕ) (top key : VoxelKey) → (nat_lt 0 step && (key.depth == top.depth + step)) ≡ is_link step top key
unfolding is_link
link_as step top key = refl

-- in the file above it, a node is a link if it has a file of its own
pub link-above : (step : ℕ) (key : VoxelKey) → 0 < key.depth → is_link step (file_above step key) key ≡ has_file step key
link-above step key deep =
    elim (either (step == 0)) [
      | inl e ↦
          let none : nat_lt 0 step ≡ false = grind (arith, nat_tests) in
          let no_root : same_key key root ≡ false = is_false (same_key key root) (λ same. let at = ap (λ k. k.depth) (same_key-true key root same) in absurd (omega (arith, at, deep))) in
          sym (link_as step (file_above step key) key) ∙ (ap (λ b. b && (key.depth == (file_above step key).depth + step)) none ∙ (sym no_root ∙ sym (has_file-all step key e)))
      | inr e ↦
          let some : nat_lt 0 step ≡ true = grind (arith, nat_tests) in
          let at = depth-above step key deep ∙ file_depth-step step key.depth e in
          sym (link_as step (file_above step key) key)
          ∙ (ap (λ b. b && (key.depth == (file_above step key).depth + step)) some
          ∙ (ap (λ n. key.depth == n + step) at ∙ (link_at step key.depth e deep ∙ sym (has_file-step step key e))))
    ]

-- ---- what the code computes

is_zero : (n : ℕ) → n ≡ 0 → (n == 0) ≡ true
is_zero n e = grind (arith, nat_tests)

not_zero : (n : ℕ) → (n ≡ 0 → ⊥) → (n == 0) ≡ false
not_zero n h = is_false (n == 0) (λ e. h (grind (arith, nat_tests)))

pub has_file-zero : (step d : ℕ) (key : VoxelKey) → IsKey key → step ≡ 0 → d ≡ key.depth → (d == 0) ≡ has_file step key
has_file-zero step d key h none at =
    ap (λ n. n == 0) at ∙ (root-test key h ∙ sym (has_file-all step key (is_zero step none)))

pub has_file-mod : (step d : ℕ) (key : VoxelKey) → (step ≡ 0 → ⊥) → d ≡ key.depth → (d % step == 0) ≡ has_file step key
has_file-mod step d key some at = ap (λ n. n % step == 0) at ∙ sym (has_file-step step key (not_zero step some))

pub file_depth-zero : (step depth : ℕ) → step ≡ 0 → 0 ≡ file_depth step depth
file_depth-zero step depth none = sym (file_depth-all step depth (is_zero step none))

pub file_depth-mod : (step depth : ℕ) → (step ≡ 0 → ⊥) → (depth - 1) / step * step ≡ file_depth step depth
file_depth-mod step depth some = sym (file_depth-step step depth (not_zero step some))

-- the key of the file above, from the numbers of the key
pub above-is : (step d x y z depth up : ℕ) (key : VoxelKey) → d ≡ key.depth → x ≡ key.x → y ≡ key.y → z ≡ key.z → 0 < key.depth → depth ≡ file_depth step d → up ≡ d - depth → ◌≡◌ {A = VoxelKey} (record { depth = depth; x = x / 2 ^ up; y = y / 2 ^ up; z = z / 2 ^ up }) (file_above step key)
unfolding file_above ancestor
above-is step d x y z depth up key d_is x_is y_is z_is deep at steps =
    let level : depth ≡ file_depth step key.depth = at ∙ ap (λ n. file_depth step n) d_is in
    let below = file_depth-below step key.depth deep in
    let up_is : up ≡ key.depth - file_depth step key.depth = steps ∙ (ap (λ n. n - depth) d_is ∙ ap (λ n. key.depth - n) level) in
    same-parts _ _ (omega (arith, level, below)) (halved x key.x up _ x_is up_is) (halved y key.y up _ y_is up_is) (halved z key.z up _ z_is up_is)
  where
    halved : (a b m n : ℕ) → a ≡ b → m ≡ n → a / 2 ^ m ≡ b / 2 ^ n
    halved a b m n e f = ap (λ k. k / 2 ^ m) e ∙ ap (λ k. b / 2 ^ k) f

pub IsKey-above : (step : ℕ) (key above : VoxelKey) → IsKey key → above ≡ file_above step key → IsKey above
IsKey-above step key above h is =
    subst (λ k. IsKey k) (above_as step key ∙ sym is) (IsKey-ancestor (key.depth - file_depth step key.depth) key h)
