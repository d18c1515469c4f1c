-- Keys within keys.
use Rattle.std.proofs.Common.{◌≡◌, ℕ, suc, zero, ◌+◌, ◌-◌, ◌*◌, ◌/◌, ◌%◌, ◌^◌, ◌<◌, ◌≤◌, Bool, true, false, ◌&&◌, ◌==◌, nat_le, nat_lt, refl, sym, ap, subst, ◌∙◌, arith}
use Rattle.std.proofs.lemmas.Bool.Decides.{nat_tests}
use Rattle.std.proofs.Math.Nat.{div-eq_of_lt, div-div-eq-div-mul, pow-suc}
use Rattle.ept_space.specs.VoxelKey.{VoxelKey, IsKey, root, child, parent, octant_of, ancestor, is_within, is_below, same_key}
use Rattle.ept_space.specs.KeyLaws.{parents}
use Rattle.ept_space.proofs.Axis.{index-coarser}
use Rattle.ept_space.proofs.Family.{same-parts, child-parent, depth-parent, depth-child, octant_of-child, octant_of-below}

-- what being within says of the parts
pub record IsWithin (top key : VoxelKey) : Type 0 where
  pub deeper : top.depth ≤ key.depth
  pub x_same : key.x / 2 ^ (key.depth - top.depth) ≡ top.x
  pub y_same : key.y / 2 ^ (key.depth - top.depth) ≡ top.y
  pub z_same : key.z / 2 ^ (key.depth - top.depth) ≡ top.z

both-true : (p q : Bool) → (p && q) ≡ true → (p ≡ true) × (q ≡ true)
both-true true q h = (refl, h)
both-true false q h = cc

both-from : (p q : Bool) → p ≡ true → q ≡ true → (p && q) ≡ true
both-from p q hp hq = grind arith

-- four tests of equality, together
equal-four : (a b c d p q r s : ℕ) → ((a == p) && (b == q) && (c == r) && (d == s)) ≡ true → (a ≡ p) × (b ≡ q) × (c ≡ r) × (d ≡ s)
equal-four a b c d p q r s h =
    (grind (arith, nat_tests), grind (arith, nat_tests), grind (arith, nat_tests), grind (arith, nat_tests))

four-equal : (a b c d p q r s : ℕ) → a ≡ p → b ≡ q → c ≡ r → d ≡ s → ((a == p) && (b == q) && (c == r) && (d == s)) ≡ true
four-equal a b c d p q r s ha hb hc hd = grind (arith, nat_tests)

pub same_key-true : (a b : VoxelKey) → same_key a b ≡ true → a ≡ b
same_key-true a b h =
    let t = equal-four a.depth a.x a.y a.z b.depth b.x b.y b.z h in same-parts a b t.0 t.1 t.2 t.3

pub same_key-same : (a b : VoxelKey) → a ≡ b → same_key a b ≡ true
same_key-same a b same =
    four-equal _ _ _ _ _ _ _ _ (ap (λ k. k.depth) same) (ap (λ k. k.x) same) (ap (λ k. k.y) same) (ap (λ k. k.z) same)

pub IsWithin-from : (top key : VoxelKey) → is_within top key ≡ true → IsWithin top key
unfolding is_within ancestor
IsWithin-from top key h =
    let n = key.depth - top.depth in
    let parts = both-true (nat_le top.depth key.depth) (same_key (ancestor n key) top) h in
    let t = equal-four (key.depth - n) (key.x / 2 ^ n) (key.y / 2 ^ n) (key.z / 2 ^ n) top.depth top.x top.y top.z parts.1 in
    record {
      deeper = grind (arith, nat_tests);
      x_same = t.1;
      y_same = t.2;
      z_same = t.3;
    }

pub is_within-from : (top key : VoxelKey) → IsWithin top key → is_within top key ≡ true
unfolding is_within ancestor
is_within-from top key h =
    both-from (nat_le top.depth key.depth) _ (grind (arith, nat_tests)) (four-equal _ _ _ _ _ _ _ _ (omega arith) h.x_same h.y_same h.z_same)

-- from one index up, and on up
up-up : (n x y a b c : ℕ) → a ≤ b → b ≤ c → n / 2 ^ (c - b) ≡ x → x / 2 ^ (b - a) ≡ y → n / 2 ^ (c - a) ≡ y
up-up n x y a b c ab bc nx xy =
    let split : c - a - (c - b) ≡ b - a = omega arith in
    index-coarser n (c - b) (c - a) (omega arith) ∙ ap (λ k. n / 2 ^ (c - b) / 2 ^ k) split ∙ ap (λ m. m / 2 ^ (b - a)) nx ∙ xy

-- no depth up, an index stays the same
up-none : (n a : ℕ) → n / 2 ^ (a - a) ≡ n
up-none n a = let none : a - a ≡ 0 = omega arith in ap (λ k. n / 2 ^ k) none ∙ omega arith

-- one depth up, an index is halved
up-one : (n a : ℕ) → n / 2 ^ (a + 1 - a) ≡ n / 2
up-one n a = let one_up : a + 1 - a ≡ 1 = omega arith in ap (λ k. n / 2 ^ k) one_up

pub is_within-self : (key : VoxelKey) → is_within key key ≡ true
is_within-self key =
    is_within-from key key (record { deeper = omega arith; x_same = up-none _ _; y_same = up-none _ _; z_same = up-none _ _ })

pub is_within-trans : (a b c : VoxelKey) → is_within a b ≡ true → is_within b c ≡ true → is_within a c ≡ true
is_within-trans a b c ab bc =
    let upper = IsWithin-from a b ab in
    let lower = IsWithin-from b c bc in
    is_within-from a c (record {
      deeper = omega arith;
      x_same = up-up c.x b.x a.x _ _ _ upper.deeper lower.deeper lower.x_same upper.x_same;
      y_same = up-up c.y b.y a.y _ _ _ upper.deeper lower.deeper lower.y_same upper.y_same;
      z_same = up-up c.z b.z a.z _ _ _ upper.deeper lower.deeper lower.z_same upper.z_same;
    })

pub depth-within : (top key : VoxelKey) → is_within top key ≡ true → top.depth ≤ key.depth
depth-within top key h = (IsWithin-from top key h).deeper

-- if a key is within two keys, the less deep of the two has the deeper one within it
pub is_within-chain : (a b key : VoxelKey) → is_within a key ≡ true → is_within b key ≡ true → a.depth ≤ b.depth → is_within a b ≡ true
is_within-chain a b key ha hb h =
    let upper = IsWithin-from a key ha in
    let lower = IsWithin-from b key hb in
    is_within-from a b (record {
      deeper = h;
      x_same = between key.x b.x a.x _ _ _ h lower.deeper lower.x_same upper.x_same;
      y_same = between key.y b.y a.y _ _ _ h lower.deeper lower.y_same upper.y_same;
      z_same = between key.z b.z a.z _ _ _ h lower.deeper lower.z_same upper.z_same;
    })
  where
    between : (n x y a b c : ℕ) → a ≤ b → b ≤ c → n / 2 ^ (c - b) ≡ x → n / 2 ^ (c - a) ≡ y → x / 2 ^ (b - a) ≡ y
    between n x y a b c ab bc nx ny = sym (up-up n x (x / 2 ^ (b - a)) a b c ab bc nx refl) ∙ ny

-- a key is within one key of each depth only
pub is_within-unique : (a b key : VoxelKey) → is_within a key ≡ true → is_within b key ≡ true → a.depth ≡ b.depth → a ≡ b
is_within-unique a b key ha hb same =
    let upper = IsWithin-from a b (is_within-chain a b key ha hb (omega arith)) in
    same-parts a b same (at_once b.x a.x _ _ same upper.x_same) (at_once b.y a.y _ _ same upper.y_same) (at_once b.z a.z _ _ same upper.z_same)
  where
    at_once : (n m d e : ℕ) → d ≡ e → n / 2 ^ (e - d) ≡ m → m ≡ n
    at_once n m d e same up =
        let none : e - d ≡ 0 = omega arith in sym up ∙ ap (λ k. n / 2 ^ k) none ∙ omega arith

pub is_within-child : (key : VoxelKey) (octant : ℕ) → is_within key (child key octant) ≡ true
unfolding child
is_within-child key octant =
    is_within-from key (child key octant) (record {
      deeper = omega arith;
      x_same = up-one (2 * key.x + octant % 2) key.depth ∙ omega arith;
      y_same = up-one (2 * key.y + octant / 2 % 2) key.depth ∙ omega arith;
      z_same = up-one (2 * key.z + octant / 4 % 2) key.depth ∙ omega arith;
    })

pub is_within-parent : (key : VoxelKey) → 0 < key.depth → is_within (parent key) key ≡ true
is_within-parent key deep =
    subst (λ k. is_within (parent key) k ≡ true) (child-parent key deep) (is_within-child (parent key) (octant_of key))

pub is_within-root : (key : VoxelKey) → IsKey key → is_within root key ≡ true
is_within-root key h =
    is_within-from root key (record {
      deeper = omega arith;
      x_same = all_up key.x key.depth h.x_in;
      y_same = all_up key.y key.depth h.y_in;
      z_same = all_up key.z key.depth h.z_in;
    })
  where
    all_up : (n d : ℕ) → n < 2 ^ d → n / 2 ^ (d - 0) ≡ 0
    all_up n d small =
        let whole : d - 0 ≡ d = omega arith in ap (λ k. n / 2 ^ k) whole ∙ div-eq_of_lt small

-- a key within another of its depth is the same key
pub is_within-level : (top key : VoxelKey) → is_within top key ≡ true → key.depth ≤ top.depth → top ≡ key
is_within-level top key h level =
    is_within-unique top key key h (is_within-self key) (let deeper = depth-within top key h in omega arith)

-- ---- below: within, and deeper

pub is_below-deeper : (top key : VoxelKey) → is_below top key ≡ true → top.depth < key.depth
unfolding is_below
is_below-deeper top key h =
    let parts = both-true (nat_lt top.depth key.depth) (is_within top key) h in
    grind (arith, nat_tests)

pub is_below-within : (top key : VoxelKey) → is_below top key ≡ true → is_within top key ≡ true
unfolding is_below
is_below-within top key h = (both-true (nat_lt top.depth key.depth) (is_within top key) h).1

pub is_below-from : (top key : VoxelKey) → is_within top key ≡ true → top.depth < key.depth → is_below top key ≡ true
unfolding is_below
is_below-from top key h deeper =
    both-from (nat_lt top.depth key.depth) (is_within top key) (grind (arith, nat_tests)) h

-- a key is below another only if its parent is within it
pub is_within-above : (top key : VoxelKey) → is_below top key ≡ true → is_within top (parent key) ≡ true
is_within-above top key h =
    let deeper = is_below-deeper top key h in
    let up = depth-parent key in
    is_within-chain top (parent key) key (is_below-within top key h) (is_within-parent key (omega arith)) (omega arith)

pub is_below-parent : (top key : VoxelKey) → is_within top (parent key) ≡ true → 0 < key.depth → is_below top key ≡ true
is_below-parent top key h deep =
    let up = depth-parent key in
    let shallower = depth-within top (parent key) h in
    is_below-from top key (is_within-trans top (parent key) key h (is_within-parent key deep)) (omega arith)

-- ---- within, by parent steps

-- an ancestor is reached by that number of parent steps
pub parents-ancestor : (n : ℕ) (key : VoxelKey) → parents n key ≡ ancestor n key
unfolding ancestor parent
parents-ancestor zero key = same-parts _ _ (omega arith) (omega arith) (omega arith) (omega arith)
parents-ancestor (suc n) key =
    let above = parents-ancestor n key in
    ap parent above ∙ same-parts _ _ (omega arith) (halved key.x) (halved key.y) (halved key.z)
  where
    halved : (x : ℕ) → x / 2 ^ n / 2 ≡ x / 2 ^ suc n
    halved x = div-div-eq-div-mul x (2 ^ n) 2 ∙ ap (λ k. x / k) (sym (pow-suc 2 n))

pub is_within-parents : (n : ℕ) (top key : VoxelKey) → n ≤ key.depth → parents n key ≡ top → is_within top key ≡ true
unfolding ancestor
is_within-parents n top key h reached =
    subst (λ k. is_within k key ≡ true) (sym (parents-ancestor n key) ∙ reached) (is_within-from _ key (record {
      deeper = omega arith;
      x_same = same key.x;
      y_same = same key.y;
      z_same = same key.z;
    }))
  where
    same : (x : ℕ) → x / 2 ^ (key.depth - (key.depth - n)) ≡ x / 2 ^ n
    same x = let steps : key.depth - (key.depth - n) ≡ n = omega arith in ap (λ k. x / 2 ^ k) steps

pub parents-within : (top key : VoxelKey) → is_within top key ≡ true → parents (key.depth - top.depth) key ≡ top
unfolding ancestor
parents-within top key h =
    let parts = IsWithin-from top key h in
    parents-ancestor (key.depth - top.depth) key ∙ same-parts _ _ (omega arith) parts.x_same parts.y_same parts.z_same

-- ---- within a child

-- what is within a child is below the key
pub is_below-child : (key : VoxelKey) (octant : ℕ) (lower : VoxelKey) → is_within (child key octant) lower ≡ true → is_below key lower ≡ true
is_below-child key octant lower h =
    let deeper = depth-child key octant in
    let low = depth-within (child key octant) lower h in
    is_below-from key lower (is_within-trans key (child key octant) lower (is_within-child key octant) h) (omega arith)

-- within one child only
pub is_within-one_child : (key lower : VoxelKey) (a b : ℕ) → a < 8 → b < 8 → is_within (child key a) lower ≡ true → is_within (child key b) lower ≡ true → a ≡ b
is_within-one_child key lower a b small_a small_b in_a in_b =
    let level : (child key a).depth ≡ (child key b).depth = depth-child key a ∙ sym (depth-child key b) in
    let same = is_within-unique (child key a) (child key b) lower in_a in_b level in
    sym (octant_of-child key a small_a) ∙ ap octant_of same ∙ octant_of-child key b small_b

-- each key has an ancestor at each lesser depth
pub is_within-ancestor : (n : ℕ) (key : VoxelKey) → n ≤ key.depth → is_within (ancestor n key) key ≡ true
is_within-ancestor n key h = is_within-parents n (ancestor n key) key h (parents-ancestor n key)

-- what is below a key is within one of its children
pub is_within-some_child : (key lower : VoxelKey) → is_below key lower ≡ true → (octant : ℕ) × (octant < 8) × (is_within (child key octant) lower ≡ true)
unfolding ancestor
is_within-some_child key lower h =
    let deeper = is_below-deeper key lower h in
    let top = ancestor (lower.depth - key.depth - 1) lower in
    let top_in = is_within-ancestor (lower.depth - key.depth - 1) lower (omega arith) in
    let level : top.depth ≡ key.depth + 1 = omega arith in
    let above : is_within (parent top) lower ≡ true = is_within-trans (parent top) top lower (is_within-parent top (omega arith)) top_in in
    let up : (parent top).depth ≡ key.depth = depth-parent top ∙ omega arith in
    let same = is_within-unique (parent top) key lower above (is_below-within key lower h) up in
    let child_is : child key (octant_of top) ≡ top = ap (λ k. child k (octant_of top)) (sym same) ∙ child-parent top (omega arith) in
    (octant_of top, octant_of-below top, subst (λ k. is_within k lower ≡ true) (sym child_is) top_in)
