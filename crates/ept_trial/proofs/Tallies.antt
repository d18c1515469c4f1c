-- What keys and the bytes of their tiles come to, with one more key.
use Rattle.std.proofs.Common.{◌≡◌, ◌∙◌, ℕ, ◌+◌, ◌%◌, ◌^◌, ◌<◌, List, [], ◌∷◌, ◌++◌, length, get_or, take, refl, sym, ap, arith}
use Rattle.std.specs.Prelude.{map, max, sum_by}
use Rattle.std.specs.List.{flat_map}
use Rattle.std.proofs.lemmas.List.{map_more, take_more}
use Rattle.std.proofs.lemmas.List.Concat.{flat_map-append}
use Rattle.std.proofs.lemmas.List.Sums.{sum_by-append}
use Rattle.ept_space.specs.VoxelKey.{VoxelKey}
use Rattle.ept_trial.specs.Trials.{greatest}

greatest-end : (ns : List ℕ) (n : ℕ) → greatest (ns ++ n ∷ []) ≡ max n (greatest ns)
greatest-end [] n = refl
greatest-end (m ∷ ns) n = (let rest = greatest-end ns n in omega (arith, rest))

pub greatest-more : (keys : List VoxelKey) (i : ℕ) (key : VoxelKey) (old : ℕ) → i < length keys → get_or keys i key ≡ key → old ≡ greatest (map (λ (k : VoxelKey). k.depth) (take i keys)) → max key.depth old ≡ greatest (map (λ (k : VoxelKey). k.depth) (take (i + 1) keys))
greatest-more keys i key old within is so =
    ap (λ (n : ℕ). max key.depth n) so
    ∙ sym (greatest-end (map (λ (k : VoxelKey). k.depth) (take i keys)) key.depth)
    ∙ ap (λ (k : VoxelKey). greatest (map (λ (k : VoxelKey). k.depth) (take i keys) ++ k.depth ∷ [])) (sym is)
    ∙ ap greatest (sym (map_more (λ (k : VoxelKey). k.depth) keys i key within))

mod-more : (a b s : ℕ) → a ≡ s % 2 ^ 64 → (a + b) % 2 ^ 64 ≡ (s + b) % 2 ^ 64
mod-more a b s is = omega (arith, is)

pub sum-more : (bytes : VoxelKey → List ℕ) (keys : List VoxelKey) (i : ℕ) (key : VoxelKey) (old new : ℕ) → i < length keys → get_or keys i key ≡ key → old ≡ sum_by (λ byte. byte) (flat_map bytes (take i keys)) % 2 ^ 64 → new ≡ (old + sum_by (λ byte. byte) (bytes key)) % 2 ^ 64 → new ≡ sum_by (λ byte. byte) (flat_map bytes (take (i + 1) keys)) % 2 ^ 64
sum-more bytes keys i key old new within is so now =
    now ∙ mod-more old (sum_by (λ byte. byte) (bytes key)) (sum_by (λ byte. byte) (flat_map bytes (take i keys))) so
    ∙ ap (λ (n : ℕ). n % 2 ^ 64) (sym split)
  where
    one : flat_map bytes (key ∷ []) ≡ bytes key ++ []
    one = refl

    parts : flat_map bytes (take (i + 1) keys) ≡ flat_map bytes (take i keys) ++ flat_map bytes (key ∷ [])
    parts =
        ap (λ (ks : List VoxelKey). flat_map bytes ks) (take_more keys i key within ∙ ap (λ (k : VoxelKey). take i keys ++ k ∷ []) is)
        ∙ flat_map-append bytes (take i keys) (key ∷ [])

    split : sum_by (λ byte. byte) (flat_map bytes (take (i + 1) keys)) ≡ sum_by (λ byte. byte) (flat_map bytes (take i keys)) + sum_by (λ byte. byte) (bytes key)
    split =
        let a = sum_by-append (λ (byte : ℕ). byte) (flat_map bytes (take i keys)) (bytes key ++ []) in
        let b = sum_by-append (λ (byte : ℕ). byte) (bytes key) [] in
        let p = ap (λ (w : List ℕ). sum_by (λ (byte : ℕ). byte) w) parts in
        omega (arith, a, b, p)
