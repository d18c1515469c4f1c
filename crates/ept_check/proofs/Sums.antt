-- Sums of counts at each key and below it.
use Rattle.std.proofs.Common.{◌≡◌, ◌≢◌, ◌∙◌, ◌+◌, ◌-◌, ◌^◌, ◌<◌, ◌≤◌, ℕ, zero, suc, Bool, true, false, cond, ◌&&◌, inl, inr, ◌⊎◌, List, [], ◌∷◌, ◌++◌, length, filter, get_or, take, refl, sym, ap, subst, arith, min, Option, Some, None}
use Rattle.std.specs.Prelude.{nat_le, if◌then◌else◌}
use Rattle.std.specs.List.{sum_by}
use Rattle.std.specs.Option.{unwrap_or}
use Rattle.std.specs.BTreeMap.{is_at}
use Rattle.std.proofs.lemmas.Bool.{cases_lt}
use Rattle.std.proofs.lemmas.Bool.Decides.{nat_tests}
use Rattle.std.proofs.lemmas.List.{take_more}
use Rattle.std.proofs.lemmas.List.Elements.{filter-append}
use Rattle.std.proofs.lemmas.List.Sums.{sum_by-cons, sum_by-append}
use Rattle.ept_space.specs.VoxelKey.{VoxelKey, IsKey, same_key, key_cmp, parent, is_within, root}
use Rattle.ept_space.proofs.Family.{depth-parent}
use Rattle.ept_space.proofs.Within.{same_key-true, same_key-same, depth-within, is_within-self, is_within-unique, is_within-level, is_within-trans, is_within-parent}
use Rattle.ept_sample.proofs.Choices.{either}
use Rattle.ept_hier.specs.Hierarchy.{Node, keys_of}
use Rattle.ept_check.specs.Nodes.{count_of, counted_within}
use Rattle.ept_check.proofs.Sets.{at-key}

-- ---- one number

-- the greatest number of 64 bits
abbrev pub most : ℕ
most = 2 ^ 64 - 1

pub added : (key top : VoxelKey) (total count : ℕ) (was now : Option ℕ) → (same_key top key ≡ true → total ≡ unwrap_or was 0) → unwrap_or was 0 ≤ most → now ≡ cond (is_at (key_cmp key) top) (Some (min (total + count) most)) was → unwrap_or now 0 ≡ min (unwrap_or was 0 + (if same_key top key then count else 0)) most
added key top total count was now is small put = ap (λ (o : Option ℕ). unwrap_or o 0) (put ∙ ap (λ (b : Bool). cond b (Some (min (total + count) most)) was) (at-key key top)) ∙ by_test (same_key top key) refl
  where
    by_test : (b : Bool) → same_key top key ≡ b → unwrap_or (cond b (Some (min (total + count) most)) was) 0 ≡ min (unwrap_or was 0 + (if b then count else 0)) most
    by_test true e = ap (λ (n : ℕ). min (n + count) most) (is e)
    by_test false e = omega (arith, small)

-- ---- the numbers of a key and of those above it

-- a key is one of those that another is within, no less deep than a third
abbrev pub is_from : VoxelKey → VoxelKey → VoxelKey → Bool
is_from at key top = is_within top key && nat_le at.depth top.depth

and-parts : (a b : Bool) → (a && b) ≡ true → (a ≡ true) × (b ≡ true)
and-parts true true e = (refl, refl)
and-parts true false e = absurd (cc)
and-parts false b e = absurd (cc)

and-both : (a b : Bool) → a ≡ true → b ≡ true → (a && b) ≡ true
and-both a b one two = ap (λ (t : Bool). t && b) one ∙ two

le-true : (m n : ℕ) → nat_le m n ≡ true → m ≤ n
le-true m n e = grind (arith, nat_tests)

true-le : (m n : ℕ) → m ≤ n → nat_le m n ≡ true
true-le m n e = grind (arith, nat_tests)

is-false : (b : Bool) → ¬ (b ≡ true) → b ≡ false
is-false true none = absurd (none refl)
is-false false none = refl

-- at the key itself it is the only one
pub from-key : (key top : VoxelKey) → same_key top key ≡ is_from key key top
from-key key top =
    elim (either (same_key top key)) [
      | inl same ↦
          let is = same_key-true top key same in
          same ∙ sym (subst (λ (k : VoxelKey). is_from key key k ≡ true) (sym is) (and-both _ _ (is_within-self key) (true-le key.depth key.depth (omega arith))))
      | inr apart ↦
          apart ∙ sym (is-false (is_from key key top) (λ e. (
          let parts = and-parts (is_within top key) (nat_le key.depth top.depth) e in
          let is = is_within-level top key parts.0 (le-true key.depth top.depth parts.1) in
          let wrong : true ≡ false = sym (same_key-same top key is) ∙ apart in cc)))
    ]

-- and one depth up one more
pub from-parent : (at key top : VoxelKey) → 0 < at.depth → is_within at key ≡ true → (count old mid new : ℕ) → mid ≡ min (old + (if is_from at key top then count else 0)) most → new ≡ min (mid + (if same_key top (parent at) then count else 0)) most → new ≡ min (old + (if is_from (parent at) key top then count else 0)) most
from-parent at key top deep inside count old mid new was put =
    by_tests (is_from at key top) (same_key top (parent at)) (is_from (parent at) key top) both up here was put
  where
    shorter : (parent at).depth ≡ at.depth - 1
    shorter = depth-parent at

    both : is_from at key top ≡ true → same_key top (parent at) ≡ true → ⊥
    both from same =
        let parts = and-parts (is_within top key) (nat_le at.depth top.depth) from in
        let low = le-true at.depth top.depth parts.1 in
        let level : top.depth ≡ (parent at).depth = ap (λ (k : VoxelKey). k.depth) (same_key-true top (parent at) same) in
        omega (arith, low, level, shorter, deep)

    up : (is_from at key top ≡ true) ⊎ (same_key top (parent at) ≡ true) → is_from (parent at) key top ≡ true
    up (inl from) =
        let parts = and-parts (is_within top key) (nat_le at.depth top.depth) from in
        let low = le-true at.depth top.depth parts.1 in
        and-both _ _ parts.0 (true-le (parent at).depth top.depth (omega (arith, low, shorter)))
    up (inr same) =
        let is = same_key-true top (parent at) same in
        subst (λ (k : VoxelKey). is_from (parent at) key k ≡ true) (sym is) (and-both _ _ (is_within-trans (parent at) at key (is_within-parent at deep) inside) (true-le (parent at).depth (parent at).depth (omega arith)))

    here : is_from (parent at) key top ≡ true → (is_from at key top ≡ true) ⊎ (same_key top (parent at) ≡ true)
    here from =
        let parts = and-parts (is_within top key) (nat_le (parent at).depth top.depth) from in
        let low = le-true (parent at).depth top.depth parts.1 in
        elim (cases_lt top.depth at.depth) [
          | inl less ↦ inr (same_key-same top (parent at) (is_within-unique top (parent at) key parts.0 (is_within-trans (parent at) at key (is_within-parent at deep) inside) (omega (arith, low, less, shorter))))
          | inr more ↦ inl (and-both _ _ parts.0 (true-le at.depth top.depth more))
        ]

    by_tests : (f s n : Bool) → (f ≡ true → s ≡ true → ⊥) → ((f ≡ true) ⊎ (s ≡ true) → n ≡ true) → (n ≡ true → (f ≡ true) ⊎ (s ≡ true)) → mid ≡ min (old + (if f then count else 0)) most → new ≡ min (mid + (if s then count else 0)) most → new ≡ min (old + (if n then count else 0)) most
    by_tests true true n b u h e g = absurd (b refl refl)
    by_tests true false true b u h e g = omega (arith, e, g)
    by_tests true false false b u h e g = absurd (let wrong = u (inl refl) in cc)
    by_tests false true true b u h e g = omega (arith, e, g)
    by_tests false true false b u h e g = absurd (let wrong = u (inr refl) in cc)
    by_tests false false false b u h e g = omega (arith, e, g)
    by_tests false false true b u h e g = absurd (none (h refl))
      where
        none : (false ≡ true) ⊎ (false ≡ true) → ⊥
        none (inl e) = cc
        none (inr e) = cc

-- at the root they are all
pub from-root : (at key top : VoxelKey) → ¬ (0 < at.depth) → is_from at key top ≡ is_within top key
from-root at key top none =
    by_test (is_within top key)
  where
    by_test : (b : Bool) → (b && nat_le at.depth top.depth) ≡ b
    by_test true = true-le at.depth top.depth (omega (arith, none))
    by_test false = refl

-- ---- the numbers of nodes

step : (top : VoxelKey) (n : Node) (front : List Node) → counted_within (front ++ n ∷ []) top ≡ counted_within front top + (if is_within top n.0 then n.1 else 0)
step top n front =
    ap (λ (w : List Node). count_of w) (filter-append (λ (m : Node). is_within top m.0) front (n ∷ []))
    ∙ (sum_by-append (λ (m : Node). m.1) (filter (λ (m : Node). is_within top m.0) front) (filter (λ (m : Node). is_within top m.0) (n ∷ []))
    ∙ ap (λ (k : ℕ). counted_within front top + k) (by_test (is_within top n.0)))
  where
    by_test : (b : Bool) → count_of (cond b (n ∷ []) []) ≡ (if b then n.1 else 0)
    by_test true = sum_by-cons (λ (m : Node). m.1) n [] ∙ omega arith
    by_test false = refl

pub counted-more : (nodes : List Node) (i : ℕ) (n : Node) (top : VoxelKey) (mid new : ℕ) → i < length nodes → n ≡ get_or nodes i n → mid ≡ min (counted_within (take i nodes) top) most → new ≡ min (mid + (if is_within top n.0 then n.1 else 0)) most → new ≡ min (counted_within (take (i + 1) nodes) top) most
counted-more nodes i n top mid new within at was put =
    let whole : take (i + 1) nodes ≡ take i nodes ++ n ∷ [] = take_more nodes i n within ∙ ap (λ (w : Node). take i nodes ++ w ∷ []) (sym at) in
    let more = ap (λ (w : List Node). counted_within w top) whole ∙ step top n (take i nodes) in
    omega (arith, was, put, more)
