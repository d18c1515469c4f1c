-- Nodes whose points have distinct ids.
use Rattle.std.proofs.Common.{◌≡◌, ◌≢◌, ◌∙◌, ◌+◌, ◌≤◌, ℕ, zero, suc, Bool, true, false, cond, inl, inr, ◌⊎◌, List, [], ◌∷◌, ◌++◌, count_by, refl, sym, ap, subst, arith}
use Rattle.std.proofs.lemmas.Bool.{false≢true}
use Rattle.ept_point.specs.declared.point.Point.{Point}
use Rattle.ept_space.specs.VoxelKey.{VoxelKey}
use Rattle.ept_sample.specs.declared.tiles.Tile.{Tile}
use Rattle.ept_sample.specs.Ids.{same_id, HasDistinctIds}
use Rattle.ept_sample.specs.Members.{IsMember}
use Rattle.ept_sample.proofs.Ascending.{IsRising}
use Rattle.ept_sample.proofs.Choices.{either, not_both, is_false}
use Rattle.ept_sample.proofs.KeyOrder.{key_before, key_order}
use Rattle.ept_sample.proofs.IdLaws.{count_by-append, count_by-cons, same_id-sym, same_id-trans, HasDistinctIds-head, HasDistinctIds-tail, HasDistinctIds-IsRising}
use Rattle.ept_sample.proofs.Members.{IsMember-right, IsMember-map}
use Rattle.ept_fit.specs.Fit.{keys_in, points_in}
use Rattle.ept_fit.proofs.Keys.{points-node, node-points_in}

-- ---- two lists

counted : (test : Point → Bool) (xs : List Point) → 1 ≤ count_by test xs → (p : Point) × IsMember p xs × (test p ≡ true)
counted test [] some = absurd (let none : 1 ≤ 0 = some in omega arith)
counted test (p ∷ xs) some =
    elim (either (test p)) [
      | inl passes ↦ (p, inl refl, passes)
      | inr fails ↦
          let rest : 1 ≤ count_by test xs = omega (arith, some, count_by-cons test p xs ∙ ap (λ (b : Bool). cond b 1 0 + count_by test xs) fails) in
          let more = counted test xs rest in (more.0, inr more.1, more.2)
    ]

none_or_more : (n : ℕ) → (n ≡ 0) ⊎ (1 ≤ n)
none_or_more zero = inl refl
none_or_more (suc n) = inr (omega arith)

distinct_append : (xs ys : List Point) → HasDistinctIds xs → HasDistinctIds ys → ((p q : Point) → IsMember p xs → IsMember q ys → same_id p q ≡ false) → HasDistinctIds (xs ++ ys)
unfolding HasDistinctIds
distinct_append xs ys once once' apart p =
    elim (none_or_more (count_by (same_id p) xs)) [
      | inl none ↦ omega (arith, none, once' p, count_by-append (same_id p) xs ys)
      | inr some ↦
          elim (none_or_more (count_by (same_id p) ys)) [
            | inl none ↦ omega (arith, none, once p, count_by-append (same_id p) xs ys)
            | inr more ↦
                let q = counted (same_id p) xs some in
                let r = counted (same_id p) ys more in
                absurd (not_both (same_id q.0 r.0) (same_id-trans q.0 p r.0 (same_id-sym p q.0 q.2) r.2) (apart q.0 r.0 q.1 r.1))
          ]
    ]

once_right : (ps qs : List Point) → HasDistinctIds (ps ++ qs) → HasDistinctIds qs
unfolding HasDistinctIds
once_right ps qs once p = omega (arith, once p, count_by-append (same_id p) ps qs)

ids_apart : (ps qs : List Point) → HasDistinctIds (ps ++ qs) → (p q : Point) → IsMember p ps → IsMember q qs → same_id p q ≡ false
ids_apart [] qs once p q m n = absurd m
ids_apart (r ∷ ps) qs once p q (inl is) n =
    subst (λ (w : Point). same_id w q ≡ false) is (HasDistinctIds-head r (ps ++ qs) once q (IsMember-right q ps qs n))
ids_apart (r ∷ ps) qs once p q (inr m) n = ids_apart ps qs (HasDistinctIds-tail r (ps ++ qs) once) p q m n

pub turned : (p q : Point) → same_id q p ≡ false → same_id p q ≡ false
turned p q apart =
    elim (either (same_id p q)) [
      | inl same ↦ absurd (not_both (same_id q p) (same_id-sym p q same) apart)
      | inr other ↦ other
    ]

-- ---- nodes

-- two nodes of different keys have no id in common
abbrev pub AreApart : List Tile → Type 0
AreApart nodes =
    (t u : Tile) → IsMember t nodes → IsMember u nodes → t.key ≢ u.key → (p q : Point) → IsMember p t.points → IsMember q u.points → same_id p q ≡ false

pub distinct-apart : (nodes : List Tile) → HasDistinctIds (points_in nodes) → AreApart nodes
distinct-apart [] once t u m n other p q a b = absurd m
distinct-apart (w ∷ nodes) once t u (inl m) (inl n) other p q a b = absurd (other (ap (λ (x : Tile). x.key) (sym m ∙ n)))
distinct-apart (w ∷ nodes) once t u (inl m) (inr n) other p q a b =
    ids_apart w.points (points_in nodes) once p q (subst (λ (x : Tile). IsMember p x.points) (sym m) a) (node-points_in nodes u q n b)
distinct-apart (w ∷ nodes) once t u (inr m) (inl n) other p q a b =
    turned p q (ids_apart w.points (points_in nodes) once q p (subst (λ (x : Tile). IsMember q x.points) (sym n) b) (node-points_in nodes t p m a))
distinct-apart (w ∷ nodes) once t u (inr m) (inr n) other p q a b =
    distinct-apart nodes (once_right w.points (points_in nodes) once) t u m n other p q a b

pub apart-distinct : (nodes : List Tile) → IsRising key_before (keys_in nodes) → ((t : Tile) → IsMember t nodes → HasDistinctIds t.points) → AreApart nodes → HasDistinctIds (points_in nodes)
apart-distinct [] up each apart = HasDistinctIds-IsRising [] tt
apart-distinct (w ∷ nodes) up each apart =
    distinct_append w.points (points_in nodes) (each w (inl refl))
    (apart-distinct nodes up.1 (λ t m. each t (inr m)) (λ t u m n. apart t u (inr m) (inr n)))
    (λ p q a b. (
    let f = points-node nodes q b in
    apart w f.0 (inl refl) (inr f.1) (λ same. (
    let after : key_before w.key f.0.key ≡ true = up.0 f.0.key (IsMember-map (λ (t : Tile). t.key) f.0 nodes f.1) in
    false≢true (sym (key_order.none_itself f.0.key) ∙ subst (λ (k : VoxelKey). key_before k f.0.key ≡ true) same after))) p q a f.2))
