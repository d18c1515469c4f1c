-- The order of keys.
use Rattle.std.proofs.Common.{◌≡◌, ◌↔◌, ℕ, inl, refl, sym, ap, ◌∙◌, arith, Ordering, Bool, true, IsTrue}
use Rattle.std.specs.Cmp.{IsTotalOrder, then_total, on_total, tied_itself, nat_cmp_total}
use Rattle.std.specs.Ordering.{is_lt}
use Rattle.std.specs.declared.cmp.Ordering.TheVariants.{Less, Equal, Greater}
use Rattle.std.proofs.lemmas.Bool.Decides.{nat_tests}
use Rattle.ept_space.specs.VoxelKey.{VoxelKey, child, IsBefore, key_cmp}
use Rattle.ept_space.proofs.Family.{same-parts}

pub key_cmp_total : IsTotalOrder key_cmp
key_cmp_total =
    then_total (on_total (λ (k : VoxelKey). k.depth) nat_cmp_total) (then_total (on_total (λ (k : VoxelKey). k.x) nat_cmp_total) (then_total (on_total (λ (k : VoxelKey). k.y) nat_cmp_total) (on_total (λ (k : VoxelKey). k.z) nat_cmp_total)))

pub key_cmp-less : (a b : VoxelKey) → key_cmp a b ≡ Less → IsBefore a b
key_cmp-less a b h = grind (arith, nat_tests)

pub key_cmp-before : (a b : VoxelKey) → IsBefore a b → key_cmp a b ≡ Less
key_cmp-before a b h = grind (arith, nat_tests)

pub key_cmp-equal : (a b : VoxelKey) → key_cmp a b ≡ Equal → a ≡ b
key_cmp-equal a b h =
    same-parts a b (grind (arith, nat_tests)) (grind (arith, nat_tests)) (grind (arith, nat_tests)) (grind (arith, nat_tests))

pub key_cmp-same : (a b : VoxelKey) → a ≡ b → key_cmp a b ≡ Equal
key_cmp-same a b same = ap (λ k. key_cmp a k) (sym same) ∙ tied_itself key_cmp_total a

pub before-child : (key : VoxelKey) (octant : ℕ) → IsBefore key (child key octant)
unfolding child
before-child key octant = inl (omega arith)

-- what `<` returns
pub less-is_lt : (o : Ordering) → is_lt o ≡ true → o ≡ Less
less-is_lt Less h = refl
less-is_lt Equal h = cc
less-is_lt Greater h = cc

pub before-code : (test : Bool) (a b : VoxelKey) → test ≡ is_lt (key_cmp a b) → IsTrue test ↔ IsBefore a b
before-code test a b h = (
  (λ holds. key_cmp-less a b (less-is_lt (key_cmp a b) (sym h ∙ holds))),
  (λ before. h ∙ ap is_lt (key_cmp-before a b before)),
)
