-- The file that has the count of a node.
use Rattle.std.proofs.Common.{◌≡◌, ◌∙◌, ℕ, zero, suc, ◌+◌, ◌-◌, ◌*◌, ◌/◌, ◌%◌, ◌<◌, ◌≤◌, true, false, ◌&&◌, ◌==◌, nat_lt, inl, inr, List, refl, sym, ap, subst, arith}
use Rattle.std.specs.List.{Contains}
use Rattle.std.proofs.lemmas.Bool.{false≢true}
use Rattle.std.proofs.lemmas.Bool.Decides.{nat_tests}
use Rattle.std.proofs.lemmas.List.Elements.{All-contains}
use Rattle.std.proofs.lemmas.Nat.{div-add-mod'}
use Rattle.std.proofs.Math.Nat.{mul-mod_left, mul-add-mod_self_right, mod_self, zero-mod}
use Rattle.ept_space.specs.VoxelKey.{VoxelKey, IsKey, root, same_key}
use Rattle.ept_space.specs.KeyLaws.{parents}
use Rattle.ept_space.proofs.Family.{root-only}
use Rattle.ept_space.proofs.Within.{same_key-true, same_key-same, parents-ancestor}
use Rattle.ept_hier.specs.Hierarchy.{Node, keys_of, has_file, is_link, HaveParents}
use Rattle.ept_hier.specs.OpenFiles.{file_depth, file_above}
use Rattle.ept_hier.specs.HierarchyLaws.{TellsCount, CountsStandOnce, LinksHaveFiles}
use Rattle.ept_hier.proofs.Levels.{either, and_true, multiple, above_as, file_depth-all, file_depth-step, file_depth-below, has_file-all, has_file-step, depth-ancestor, depth-above, IsKey-above, stands-above, stands-self, link-above, link_as}
use Rattle.ept_hier.proofs.Steps.{no_link}

-- ---- which keys have files

root-filed : (step : ℕ) → has_file step root ≡ true
root-filed step =
    elim (either (step == 0)) [
      | inl e ↦ has_file-all step root e ∙ same_key-same root root refl
      | inr e ↦ has_file-step step root e ∙ (let none : 0 % step ≡ 0 = zero-mod step in grind (arith, nat_tests))
    ]

above-filed : (step : ℕ) (key : VoxelKey) → IsKey key → 0 < key.depth → has_file step (file_above step key) ≡ true
above-filed step key h deep =
    elim (either (step == 0)) [
      | inl e ↦
          let at : (file_above step key).depth ≡ 0 = depth-above step key deep ∙ file_depth-all step key.depth e in
          has_file-all step (file_above step key) e ∙ same_key-same (file_above step key) root (root-only (file_above step key) (IsKey-above step key (file_above step key) h refl) at)
      | inr e ↦
          let at : (file_above step key).depth ≡ (key.depth - 1) / step * step = depth-above step key deep ∙ file_depth-step step key.depth e in
          let none : (file_above step key).depth % step ≡ 0 = ap (λ n. n % step) at ∙ mul-mod_left ((key.depth - 1) / step) step in
          has_file-step step (file_above step key) e ∙ (let t : ((file_above step key).depth % step == 0) ≡ true = grind (arith, nat_tests) in t)
    ]

-- ---- links

pub links-filed : LinksHaveFiles
links-filed step top key file stands link =
    let h = and_true (nat_lt 0 step) (key.depth == top.depth + step) (link_as step top key ∙ link) in
    let some : (step == 0) ≡ false = let t = h.0 in grind (arith, nat_tests) in
    let level : key.depth ≡ top.depth + step = let t = h.1 in grind (arith, nat_tests) in
    let none : top.depth % step ≡ 0 = let passes = sym (has_file-step step top some) ∙ file in grind (arith, nat_tests) in
    let up : top.depth / step * step ≡ top.depth = multiple top.depth step (top.depth / step) 0 (div-add-mod' top.depth step) none in
    let rest : key.depth % step ≡ 0 = ap (λ n. n % step) (level ∙ ap (λ n. n + step) (sym up)) ∙ (mul-add-mod_self_right (top.depth / step) step step ∙ mod_self step) in
    has_file-step step key some ∙ (let t : (key.depth % step == 0) ≡ true = grind (arith, nat_tests) in t)

-- ---- the keys above a key

depth-parents : (n : ℕ) (key : VoxelKey) → (parents n key).depth ≡ key.depth - n
depth-parents n key = ap (λ k. k.depth) (parents-ancestor n key) ∙ depth-ancestor n key

parents-there : (nodes : List Node) (key : VoxelKey) (n : ℕ) → HaveParents nodes → Contains (keys_of nodes) key → n ≤ key.depth → Contains (keys_of nodes) (parents n key)
unfolding HaveParents
parents-there nodes key zero above here low = here
parents-there nodes key (suc n) above here low =
    above (parents n key) (parents-there nodes key n above here (omega (arith, low))) (let at = depth-parents n key in omega (arith, at, low))

above-there : (step : ℕ) (nodes : List Node) (key : VoxelKey) → HaveParents nodes → Contains (keys_of nodes) key → Contains (keys_of nodes) (file_above step key)
above-there step nodes key above here =
    subst (λ k. Contains (keys_of nodes) k) (parents-ancestor (key.depth - file_depth step key.depth) key ∙ above_as step key) (parents-there nodes key (key.depth - file_depth step key.depth) above here (omega arith))

-- ---- one file has each count

another : (a b : VoxelKey) → same_key a b ≡ false → ¬ (a ≡ b)
another a b apart same = false≢true (sym apart ∙ same_key-same a b same)

-- a file that has the count of a node is its own, or the file above it if it has none
tells-above : (step : ℕ) (other key : VoxelKey) → TellsCount step other key → ¬ (other ≡ key) → (other ≡ file_above step key) × (0 < key.depth)
tells-above step other key h apart =
    let both = and_true (nat_lt 0 key.depth) (same_key other (file_above step key)) (sym (stands-above step other key h.file apart) ∙ h.stands) in
    (same_key-true other (file_above step key) both.1, let t = both.0 in grind (arith, nat_tests))

only-own : (step : ℕ) (key : VoxelKey) → has_file step key ≡ true → (other : VoxelKey) → TellsCount step other key → other ≡ key
only-own step key file other h =
    elim (either (same_key other key)) [
      | inl e ↦ same_key-true other key e
      | inr e ↦
          let up = tells-above step other key h (another other key e) in
          let link : is_link step other key ≡ true = ap (λ k. is_link step k key) up.0 ∙ (link-above step key up.1 ∙ file) in
          absurd (false≢true (sym h.counted ∙ link))
    ]

only-above : (step : ℕ) (key : VoxelKey) → has_file step key ≡ false → (other : VoxelKey) → TellsCount step other key → other ≡ file_above step key
only-above step key none other h =
    (tells-above step other key h (λ same. false≢true (sym none ∙ (ap (λ k. has_file step k) (sym same) ∙ h.file)))).0

deep-without : (step : ℕ) (key : VoxelKey) → IsKey key → has_file step key ≡ false → 0 < key.depth
deep-without step key h none =
    elim (either (nat_lt 0 key.depth)) [
      | inl e ↦ grind (arith, nat_tests)
      | inr e ↦
          let top : key.depth ≡ 0 = grind (arith, nat_tests) in
          absurd (false≢true (sym none ∙ (ap (λ k. has_file step k) (root-only key h top) ∙ root-filed step)))
    ]

tells-own : (step : ℕ) (key : VoxelKey) → has_file step key ≡ true → TellsCount step key key
tells-own step key file = record { file = file; stands = stands-self step key; counted = no_link step key }

tells-from-above : (step : ℕ) (key : VoxelKey) → IsKey key → has_file step key ≡ false → TellsCount step (file_above step key) key
tells-from-above step key h none =
    let deep = deep-without step key h none in
    let file = above-filed step key h deep in
    let apart : ¬ (file_above step key ≡ key) = λ same. (let at = ap (λ k. k.depth) same in let level = depth-above step key deep in let low = file_depth-below step key.depth deep in absurd (omega (arith, at, level, low))) in
    let yes : nat_lt 0 key.depth ≡ true = grind (arith, nat_tests) in
    let same : same_key (file_above step key) (file_above step key) ≡ true = same_key-same (file_above step key) (file_above step key) refl in
    record {
      file = file;
      stands = stands-above step (file_above step key) key file apart ∙ (ap (λ b. b && same_key (file_above step key) (file_above step key)) yes ∙ same);
      counted = link-above step key deep ∙ none;
    }

pub counts-once : CountsStandOnce
counts-once step nodes key are_keys above here =
    elim (either (has_file step key)) [
      | inl e ↦ (key, here, tells-own step key e, only-own step key e)
      | inr e ↦
          let h : IsKey key = All-contains IsKey (keys_of nodes) key are_keys here in
          (file_above step key, above-there step nodes key above here, tells-from-above step key h e, only-above step key e)
    ]
