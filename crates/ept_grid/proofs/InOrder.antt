-- Points in id order.
use Rattle.std.proofs.Common.{◌≡◌, ◌∙◌, ℕ, suc, ◌+◌, ◌-◌, ◌≤◌, Bool, true, false, cond, not, nat_lt, ◌⊎◌, inl, inr, List, [], ◌∷◌, length, drop, get_or, insert, refl, ap, sym, subst, arith}
use Rattle.std.specs.Prelude.{Option, Some, None, position, unwrap_or, Result, Ok, Err, IsOk, is_ok}
use Rattle.std.specs.List.{All, position_or_len}
use Rattle.std.specs.List.Sorted.{IsPermutation}
use Rattle.std.proofs.lemmas.Bool.{false≢true}
use Rattle.std.proofs.lemmas.Bool.Decides.{nat_tests}
use Rattle.std.proofs.Math.Seq.{drop-cons}
use Rattle.std.proofs.lemmas.List.Sorted.{IsPermutation-sym, length_permutation}
use Rattle.ept_point.specs.declared.point.Point.{Point}
use Rattle.ept_point.specs.Order.{IsAscending}
use Rattle.ept_space.specs.VoxelKey.{VoxelKey}
use Rattle.ept_space.specs.OctreeCube.{OctreeCube, InBox}
use Rattle.ept_sample.specs.Place.{place, AllInBox}
use Rattle.ept_sample.specs.Ids.{comes_before, HasDistinctIds, placed_by_id, in_id_order}
use Rattle.ept_sample.proofs.Members.{all-member, All-members}
use Rattle.ept_grid.specs.declared.pool.Cell.{Cell}
use Rattle.ept_grid.specs.Outgoing.{Leaving, points_at}
use Rattle.ept_grid.specs.Settling.{winners}
use Rattle.ept_grid.specs.Contents.{contents}
use Rattle.ept_grid.proofs.Leavings.{all-none}
use Rattle.ept_sample.specs.Members.{IsMember}
use Rattle.ept_sample.proofs.Choices.{either, not_both}
use Rattle.ept_grid.specs.Node.{IsInIdOrder}
use Rattle.ept_sample.proofs.IdLaws.{id_order, IsMember-IsPermutation, IsPermutation-placed, in_id_order-IsMember, IsPermutation-in_id_order, IsRising-in_id_order, IsAscending-IsRising, IsRising-IsAscending, HasDistinctIds-IsPermutation, HasDistinctIds-IsAscending, in_id_order-IsRising, in_id_order-IsPermutation}

pub inside-in_order : (cube : OctreeCube) (key : VoxelKey) (ps : List Point) → AllInBox cube key ps → All (λ q. InBox cube key (place q)) (in_id_order ps)
inside-in_order cube key ps all =
    All-members (λ q. InBox cube key (place q)) (in_id_order ps) (λ q m. all-member (λ r. InBox cube key (place r)) q ps all (in_id_order-IsMember q ps m))

pub ascend-in_order : (ps : List Point) → HasDistinctIds (in_id_order ps) → IsAscending (in_id_order ps)
ascend-in_order ps once =
    IsAscending-IsRising (in_id_order ps) (IsRising-in_id_order ps (HasDistinctIds-IsPermutation (in_id_order ps) ps (IsPermutation-sym ps (in_id_order ps) (IsPermutation-in_id_order ps)) once))

-- points that ascend are in id order, whatever order they had
pub ascending-order : (ps qs : List Point) → IsPermutation ps qs → IsAscending qs → qs ≡ in_id_order ps
ascending-order ps qs all up =
    sym (in_id_order-IsRising qs (IsRising-IsAscending qs up)) ∙ sym (in_id_order-IsPermutation ps qs (HasDistinctIds-IsPermutation qs ps (IsPermutation-sym ps qs all) (HasDistinctIds-IsAscending qs up)) all)

-- ---- the place in id order

place_step : (p q : Point) (ps : List Point) (b : Bool) → comes_before p q ≡ b → placed_by_id p ps ≡ insert ps (position_or_len (comes_before p) ps) p → cond b (p ∷ q ∷ ps) (q ∷ placed_by_id p ps) ≡ insert (q ∷ ps) (cond (not b) (1 + position_or_len (comes_before p) ps) 0) p
place_step p q ps true e more = refl
place_step p q ps false e more =
    let k : ℕ = position_or_len (comes_before p) ps in
    let next : 1 + k ≡ suc k = omega arith in
    ap (λ (w : List Point). q ∷ w) more ∙ ap (λ (n : ℕ). insert (q ∷ ps) n p) (sym next)

placed-insert : (p : Point) (ps : List Point) → placed_by_id p ps ≡ insert ps (position_or_len (comes_before p) ps) p
placed-insert p [] = refl
placed-insert p (q ∷ ps) = place_step p q ps (comes_before p q) refl (placed-insert p ps)

len_step : (b : Bool) (k n : ℕ) → k ≤ n → cond b (1 + k) 0 ≤ suc n
len_step true k n h = omega arith
len_step false k n h = omega arith

at_most_len : (p : Point) (ps : List Point) → position_or_len (comes_before p) ps ≤ length ps
at_most_len p [] = omega arith
at_most_len p (q ∷ ps) = len_step (not (comes_before p q)) _ (length ps) (at_most_len p ps)

first_or_end : (k n : ℕ) (b : Bool) → nat_lt k n ≡ b → k ≤ n → unwrap_or (cond b (Some k) None) n ≡ k
first_or_end k n true e h = refl
first_or_end k n false e h = grind (arith, nat_tests)

pub put-position : (p : Point) (ps new : List Point) (found : Option ℕ) (at n : ℕ) → found ≡ position (comes_before p) ps → n ≡ length ps → at ≡ unwrap_or found n → new ≡ insert ps at p → new ≡ placed_by_id p ps
put-position p ps new found at n is_found is_n is_at is_new =
    let k : ℕ = position_or_len (comes_before p) ps in
    let e : at ≡ k = is_at ∙ ap (λ (f : Option ℕ). unwrap_or f n) is_found ∙ ap (λ (m : ℕ). unwrap_or (position (comes_before p) ps) m) is_n ∙ first_or_end k (length ps) (nat_lt k (length ps)) refl (at_most_len p ps) in
    is_new ∙ ap (λ (m : ℕ). insert ps m p) e ∙ sym (placed-insert p ps)

-- what a call that succeeds left
pub ok-branch : {A B X : Type 0} (r : Result A B) (z x y : X) → IsOk r → z ≡ cond (is_ok r) x y → z ≡ x
ok-branch (Ok v) z x y h e = e
ok-branch (Err v) z x y h e = absurd (false≢true h)

-- ---- one by one, from the last

pub one-more : (ps placed : List Point) (p : Point) (done at : ℕ) → at + done + 1 ≡ length ps → p ≡ get_or ps at p → placed ≡ in_id_order (drop (length ps - done) ps) → placed_by_id p placed ≡ in_id_order (drop (length ps - (done + 1)) ps)
unfolding in_id_order
one-more ps placed p done at e is before =
    let here : length ps - (done + 1) ≡ at = omega (arith, e) in
    let next : length ps - done ≡ suc at = omega (arith, e) in
    let front : drop at ps ≡ p ∷ drop (suc at) ps = drop-cons ps at p (omega (arith, e)) ∙ ap (λ (q : Point). q ∷ drop (suc at) ps) (sym is) in
    ap (λ (w : List Point). placed_by_id p w) (before ∙ ap (λ (n : ℕ). in_id_order (drop n ps)) next) ∙ sym (ap (λ (w : List Point). in_id_order w) (ap (λ (n : ℕ). drop n ps) here ∙ front))

pub none-placed : (ps : List Point) → [] ≡ in_id_order (drop (length ps - 0) ps)
unfolding in_id_order
none-placed ps =
    let all : length ps - 0 ≡ length ps = omega arith in
    sym (ap (λ (n : ℕ). in_id_order (drop n ps)) all ∙ ap (λ (w : List Point). in_id_order w) (drop-all ps))
  where
    drop-all : (qs : List Point) → drop (length qs) qs ≡ []
    drop-all [] = refl
    drop-all (q ∷ qs) = drop-all qs

-- a node without points
pub none-in_order : (cells : List Cell) (losers : List Leaving) → cells ≡ [] → ((o : ℕ) → points_at losers o ≡ []) → in_id_order (contents (winners cells) losers) ≡ []
unfolding in_id_order
none-in_order cells losers e none =
    ap (λ (w : List Cell). in_id_order (contents (winners w) losers)) e ∙ ap (λ (w : List Point). in_id_order w) (all-none losers (λ o h. none o))

pub length-in_order : (ps : List Point) → length (in_id_order ps) ≡ length ps
length-in_order ps = length_permutation ps (in_id_order ps) (IsPermutation-in_id_order ps)

-- how many points a node has, from its cells as they are read
pub count-node : (cells seen : List Cell) (losers : List Leaving) (n : ℕ) → n ≡ length (contents (winners seen) losers) → seen ≡ cells → n ≡ length (in_id_order (contents (winners cells) losers))
count-node cells seen losers n e is =
    e ∙ ap (λ (w : List Cell). length (contents (winners w) losers)) is ∙ sym (length-in_order (contents (winners cells) losers))

-- ---- whatever the ids, no point comes before one that is earlier in the list

not_back : (p q : Point) → comes_before p q ≡ true → comes_before q p ≡ false
not_back p q e =
    elim (either (comes_before q p)) [
      | inl back ↦ absurd (not_both (comes_before p p) (id_order.goes_on p q p e back) (id_order.none_itself p))
      | inr fine ↦ fine
    ]

none_before : (p q r : Point) → comes_before p q ≡ true → comes_before r q ≡ false → comes_before r p ≡ false
none_before p q r e later =
    elim (either (comes_before r p)) [
      | inl first ↦ absurd (not_both (comes_before r q) (id_order.goes_on r p q first e) later)
      | inr fine ↦ fine
    ]

placed_member : (q p : Point) (points : List Point) → IsMember q (placed_by_id p points) → (p ≡ q) ⊎ IsMember q points
placed_member q p points m =
    IsMember-IsPermutation q (placed_by_id p points) (p ∷ points) (IsPermutation-sym (p ∷ points) (placed_by_id p points) (IsPermutation-placed p points)) m

placed_order : (p r : Point) (points : List Point) (b : Bool) → comes_before p r ≡ b → All (λ q. comes_before q r ≡ false) points → IsInIdOrder points → IsInIdOrder (placed_by_id p points) → IsInIdOrder (cond b (p ∷ r ∷ points) (r ∷ placed_by_id p points))
unfolding IsInIdOrder
placed_order p r points true e first rest more =
    (All-members (λ q. comes_before q p ≡ false) (r ∷ points) each, (first, rest))
  where
    each : (q : Point) → IsMember q (r ∷ points) → comes_before q p ≡ false
    each q (inl is) = subst (λ (w : Point). comes_before w p ≡ false) is (not_back p r e)
    each q (inr m) = none_before p r q e (all-member (λ s. comes_before s r ≡ false) q points first m)
placed_order p r points false e first rest more =
    (All-members (λ q. comes_before q r ≡ false) (placed_by_id p points) (λ q m. each q (placed_member q p points m)), more)
  where
    each : (q : Point) → (p ≡ q) ⊎ IsMember q points → comes_before q r ≡ false
    each q (inl is) = subst (λ (w : Point). comes_before w r ≡ false) is e
    each q (inr m) = all-member (λ s. comes_before s r ≡ false) q points first m

order-placed : (p : Point) (points : List Point) → IsInIdOrder points → IsInIdOrder (placed_by_id p points)
unfolding IsInIdOrder
order-placed p [] up = (All-members (λ q. comes_before q p ≡ false) [] (λ q m. absurd m), tt)
order-placed p (r ∷ points) up =
    placed_order p r points (comes_before p r) refl up.0 up.1 (order-placed p points up.1)

pub order-in_order : (points : List Point) → IsInIdOrder (in_id_order points)
unfolding IsInIdOrder in_id_order
order-in_order [] = tt
order-in_order (p ∷ points) = order-placed p (in_id_order points) (order-in_order points)
