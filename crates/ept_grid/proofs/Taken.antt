-- What a node that took in a point keeps and sends.
use Rattle.std.proofs.Common.{◌≡◌, ◌∙◌, ℕ, suc, ◌+◌, ◌<◌, ◌≤◌, Bool, true, false, cond, ◌||◌, inl, inr, List, [], ◌∷◌, ◌++◌, length, count_by, refl, ap, sym, subst, arith}
use Rattle.std.proofs.lemmas.Bool.{false≢true}
use Rattle.std.specs.List.Sorted.{IsPermutation}
use Rattle.std.proofs.lemmas.List.Sorted.{IsPermutation-sym, IsPermutation-trans, IsPermutation-cons}
use Rattle.ept_point.specs.declared.point.Point.{Point}
use Rattle.ept_space.specs.declared.cube.Rules.{Rules}
use Rattle.ept_sample.specs.Members.{IsMember}
use Rattle.ept_sample.specs.Ids.{same_id, comes_before, HasDistinctIds, in_id_order}
use Rattle.ept_sample.specs.Arrivals.{octant, loses, losers, is_open, leaves, kept, sent}
use Rattle.ept_sample.proofs.Choices.{either, not_both, is_false}
use Rattle.ept_sample.proofs.Members.{All-members, IsMember-left, IsMember-right, IsMember-append}
use Rattle.ept_sample.proofs.Ascending.{IsRising, IsRising-filter}
use Rattle.ept_sample.proofs.ArrivalLaws.{leaves-loses, leaves-open, leaves-from, IsMember-stays, stays-IsMember, sent-open, IsRising-kept}
use Rattle.ept_sample.proofs.IdLaws.{count_by-cons, count_by-append, count_by-IsPermutation, HasDistinctIds-IsPermutation, HasDistinctIds-IsRising, IsPermutation-in_id_order, IsMember-IsPermutation, IsRising-in_id_order, in_id_order-IsRising, in_id_order-IsPermutation, in_id_order-members}
use Rattle.ept_grid.specs.Mask.{opened}
use Rattle.ept_grid.specs.Node.{Node, given_with, SendsOn, TakesIn}
use Rattle.ept_grid.specs.Outgoing.{Leaving, leaving_at, points_at, all_points}
use Rattle.ept_grid.specs.Contents.{contents, IsSettled, HasSentAt, HasSent, HasTaken}
use Rattle.ept_grid.proofs.MaskLaws.{opened-none}
use Rattle.ept_grid.proofs.Lanes.{member-at, at-member, once-at, once-right}
use Rattle.ept_grid.proofs.Settled.{losers-lane, overflows-lane, loses-lane, wins-given}
use Rattle.ept_grid.proofs.Sent.{stayed, count-sent, added-octant, none-added, stays-open, opens-above, some-added}

-- ---- counts

count-ids : (test : Point → Bool) (ps : List Point) → count_by test (in_id_order ps) ≡ count_by test ps
count-ids test ps = count_by-IsPermutation test ps (in_id_order ps) (IsPermutation-in_id_order ps)

pub taken-together : (test : Point → Bool) (rules : Rules) (depth mask mask' : ℕ) (p : Point) (ws ws' : List Point) (losers losers' before after : List Leaving) → HasTaken rules depth mask mask' p ws ws' losers losers' before after → count_by test (in_id_order (contents ws' losers')) + count_by test (all_points after) ≡ count_by test (p ∷ in_id_order (contents ws losers)) + count_by test (all_points before)
taken-together test rules depth mask mask' p ws ws' losers losers' before after t =
    omega (arith, count-ids test (contents ws' losers'), count-ids test (contents ws losers), count_by-cons test p (in_id_order (contents ws losers)), count_by-cons test p (contents ws losers), count_by-append test ws' (all_points losers'), count_by-append test ws' (all_points t.mid), count_by-IsPermutation test (p ∷ contents ws losers) (contents ws' t.mid) t.together, count-sent test rules depth mask mask' t.mid losers' before after t.sent)

-- ---- one octant

was_above : (depth deepest mask o : ℕ) → depth ≤ deepest → (depth ≡ deepest → mask ≡ 0) → opened mask o ≡ true → depth < deepest
was_above depth deepest mask o low none opens_now =
    at_most (λ e. false≢true (sym (opened-none o) ∙ ap (λ (n : ℕ). opened n o) (sym (none e)) ∙ opens_now))
  where
    at_most : (depth ≡ deepest → ⊥) → depth < deepest
    at_most apart = omega (arith, low, apart)

pub taken-sends_on : (old new : Node) (p : Point) (ws ws' : List Point) (losers losers' before after : List Leaving) → old.key.depth ≤ old.rules.cube.depth → (old.key.depth ≡ old.rules.cube.depth → old.mask ≡ 0) → HasTaken old.rules old.key.depth old.mask new.mask p ws ws' losers losers' before after → (o : ℕ) → o < 8 → SendsOn old new o (points_at before o) (points_at after o)
taken-sends_on old new p ws ws' losers losers' before after low none t o h = record {
  added = at.added;
  grows = at.grows;
  in_octant = elim (either (opened new.mask o)) [
    | inl is ↦ added-octant old.rules old.key.depth old.mask new.mask ws' t.mid losers' before after t.settled o at is
    | inr isn't ↦ All-members (λ q. octant old.rules old.key.depth q ≡ o) at.added (λ q m. absurd (empty at.added (none-added old.rules old.key.depth old.mask new.mask o _ _ _ _ at isn't) q m))
  ];
  stays_open = λ is. stays-open old.rules old.key.depth old.mask new.mask o _ _ _ _ at is;
  if_open = λ some. elim (either (opened new.mask o)) [
    | inl is ↦ is
    | inr isn't ↦ absurd (omega (arith, some, none-added old.rules old.key.depth old.mask new.mask o _ _ _ _ at isn't))
  ];
  if_opens = λ isn't is. some-added old.rules old.key.depth old.mask new.mask o _ _ _ _ at isn't is;
  above = λ is. elim (either (opened old.mask o)) [
    | inl was ↦ was_above old.key.depth old.rules.cube.depth old.mask o low none was
    | inr wasn't ↦ (opens-above old.rules old.key.depth old.mask new.mask o _ _ _ _ at wasn't is).0
  ];
}
  where
    at : HasSentAt old.rules old.key.depth old.mask new.mask o (leaving_at t.mid o) (leaving_at losers' o) (leaving_at before o) (leaving_at after o)
    at = t.sent.each o h

    empty : (ps : List Point) → length ps ≡ 0 → (q : Point) → IsMember q ps → ⊥
    empty [] e q m = m
    empty (x ∷ ps) e q m = omega (arith, e)

-- ---- the whole node, if the ids are different

-- no more points stay than there were
count_fewer : (test : Point → Bool) (a b : List Leaving) → length a ≡ length b → ((o : ℕ) → o < length a → count_by test (points_at a o) ≤ count_by test (points_at b o)) → count_by test (all_points a) ≤ count_by test (all_points b)
count_fewer test [] [] e each = omega arith
count_fewer test [] (l ∷ b) e each = absurd (omega arith)
count_fewer test (k ∷ a) [] e each = absurd (omega arith)
count_fewer test (k ∷ a) (l ∷ b) e each =
    omega (arith, each 0 (omega arith), count_fewer test a b (omega arith) (λ o h. each (suc o) (omega arith)), count_by-append test k.points (all_points a), count_by-append test l.points (all_points b))

count_stayed : (test : Point → Bool) (rules : Rules) (depth mask mask' o : ℕ) (mid stay before after : Leaving) → HasSentAt rules depth mask mask' o mid stay before after → count_by test stay.points ≤ count_by test mid.points
count_stayed test rules depth mask mask' o mid stay before after at =
    elim (either (opened mask' o)) [
      | inl is ↦ omega (arith, ap (λ (w : List Point). count_by test w) (at.gone is))
      | inr isn't ↦ omega (arith, ap (λ (w : List Point). count_by test w) (at.shut isn't).0)
    ]

once-stayed : (rules : Rules) (depth mask mask' : ℕ) (ws : List Point) (mid stay before after : List Leaving) → HasSent rules depth mask mask' mid stay before after → HasDistinctIds (contents ws mid) → HasDistinctIds (contents ws stay)
unfolding HasDistinctIds
once-stayed rules depth mask mask' ws mid stay before after sent once p =
    omega (arith, once p, count_by-append (same_id p) ws (all_points mid), count_by-append (same_id p) ws (all_points stay), count_fewer (same_id p) stay mid (omega (arith, sent.stay_eight, sent.mid_eight)) (λ o h. count_stayed (same_id p) rules depth mask mask' o _ _ _ _ (sent.each o (omega (arith, sent.stay_eight)))))

-- the state of a node that took in a point among given points of different ids
record Takes (rules : Rules) (depth mask mask' : ℕ) (ws : List Point) (mid stay before after : List Leaving) (given : List Point) : Type 0 where
  settled : IsSettled rules depth ws mid
  sent : HasSent rules depth mask mask' mid stay before after
  once : HasDistinctIds (contents ws mid)
  all : IsPermutation (contents ws mid) given
  up : IsRising comes_before given

opens_now : (rules : Rules) (depth mask mask' : ℕ) (ws : List Point) (mid stay before after : List Leaving) (given : List Point) → Takes rules depth mask mask' ws mid stay before after given → (o : ℕ) → o < 8 → opened mask' o ≡ is_open rules depth (opened mask) given o
unfolding is_open
opens_now rules depth mask mask' ws mid stay before after given t o h =
    (t.sent.each o h).opens ∙ ap (λ (b : Bool). opened mask o || b) (sym (overflows-lane rules depth ws mid given t.settled t.once t.all o))

IsRising-losers : (rules : Rules) (depth : ℕ) (given : List Point) (o : ℕ) → IsRising comes_before given → IsRising comes_before (losers rules depth given o)
unfolding losers
IsRising-losers rules depth given o up = IsRising-filter comes_before _ given up

none_left : (ps : List Point) → length ps ≡ 0 → ps ≡ []
none_left [] e = refl
none_left (p ∷ ps) e = absurd (omega (arith, e))

leaves_now : (rules : Rules) (depth mask mask' : ℕ) (ws : List Point) (mid stay before after : List Leaving) (given : List Point) → Takes rules depth mask mask' ws mid stay before after given → (o : ℕ) → o < 8 → points_at after o ≡ points_at before o ++ sent rules depth (opened mask) given o
leaves_now rules depth mask mask' ws mid stay before after given t o h =
    at.grows ∙ ap (λ (w : List Point). points_at before o ++ w) (elim (either (opened mask' o)) [
      | inl is ↦ by_open is
      | inr isn't ↦ none_left at.added (none-added rules depth mask mask' o _ _ _ _ at isn't) ∙ sym (ap (λ (b : Bool). cond b (losers rules depth given o) []) (sym (opens_now rules depth mask mask' ws mid stay before after given t o h) ∙ isn't)) ∙ sym (sent-open rules depth (opened mask) given o)
    ])
  where
    at : HasSentAt rules depth mask mask' o (leaving_at mid o) (leaving_at stay o) (leaving_at before o) (leaving_at after o)
    at = t.sent.each o h

    once_here : HasDistinctIds (points_at mid o)
    once_here = once-at mid o (once-right ws (all_points mid) t.once)

    by_open : opened mask' o ≡ true → at.added ≡ sent rules depth (opened mask) given o
    by_open is =
        at.in_order is once_here ∙ in_id_order-IsPermutation (points_at mid o) (losers rules depth given o) once_here (losers-lane rules depth ws mid given t.settled t.once t.all o) ∙ in_id_order-IsRising (losers rules depth given o) (IsRising-losers rules depth given o t.up) ∙ sym (ap (λ (b : Bool). cond b (losers rules depth given o) []) (sym (opens_now rules depth mask mask' ws mid stay before after given t o h) ∙ is)) ∙ sym (sent-open rules depth (opened mask) given o)

stays_in : (rules : Rules) (depth mask mask' : ℕ) (ws : List Point) (mid stay before after : List Leaving) (given : List Point) → Takes rules depth mask mask' ws mid stay before after given → (q : Point) → IsMember q (contents ws stay) → IsMember q (kept rules depth (opened mask) given)
stays_in rules depth mask mask' ws mid stay before after given t q m =
    elim (IsMember-append q ws (all_points stay) m) [
      | inl w ↦ winner w
      | inr l ↦ let at = member-at stay q l in loser at.0 (omega (arith, at.1, t.sent.stay_eight)) at.2
    ]
  where
    among : IsMember q (contents ws mid) → leaves rules depth (opened mask) given q ≡ false → IsMember q (kept rules depth (opened mask) given)
    among n stays = stays-IsMember rules depth (opened mask) given q (IsMember-IsPermutation q (contents ws mid) given t.all n) stays

    winner : IsMember q ws → IsMember q (kept rules depth (opened mask) given)
    winner w =
        among (IsMember-left q ws (all_points mid) w) (is_false (leaves rules depth (opened mask) given q) (λ e. not_both (loses rules depth given q) (leaves-loses rules depth (opened mask) given q e) (wins-given rules depth ws mid given t.settled t.all q w)))

    loser : (o : ℕ) → o < 8 → IsMember q (points_at stay o) → IsMember q (kept rules depth (opened mask) given)
    loser o h n =
        let was : IsMember q (points_at mid o) = stayed rules depth mask mask' mid stay before after t.sent o q n in
        among (IsMember-right q ws (all_points mid) (at-member mid o q was)) (is_false (leaves rules depth (opened mask) given q) (λ e. gone (opens_now rules depth mask mask' ws mid stay before after given t o h ∙ subst (λ (k : ℕ). is_open rules depth (opened mask) given k ≡ true) (t.settled.behind o q was).in_octant (leaves-open rules depth (opened mask) given q e))))
      where
        gone : opened mask' o ≡ true → ⊥
        gone is = subst (λ (w : List Point). IsMember q w) ((t.sent.each o h).gone is) n

kept_in : (rules : Rules) (depth mask mask' : ℕ) (ws : List Point) (mid stay before after : List Leaving) (given : List Point) → Takes rules depth mask mask' ws mid stay before after given → (q : Point) → IsMember q (kept rules depth (opened mask) given) → IsMember q (contents ws stay)
kept_in rules depth mask mask' ws mid stay before after given t q m =
    let stays = IsMember-stays rules depth (opened mask) given q m in
    elim (IsMember-append q ws (all_points mid) (IsMember-IsPermutation q given (contents ws mid) (IsPermutation-sym (contents ws mid) given t.all) stays.0)) [
      | inl w ↦ IsMember-left q ws (all_points stay) w
      | inr l ↦
          let at = member-at mid q l in
          IsMember-right q ws (all_points stay) (at-member stay at.0 q (loser at.0 (omega (arith, at.1, t.sent.mid_eight)) at.2 stays.1))
    ]
  where
    loser : (o : ℕ) → o < 8 → IsMember q (points_at mid o) → leaves rules depth (opened mask) given q ≡ false → IsMember q (points_at stay o)
    loser o h n stays =
        elim (either (opened mask' o)) [
          | inl is ↦ absurd (not_both (leaves rules depth (opened mask) given q) (leaves-from rules depth (opened mask) given q (loses-lane rules depth ws mid given t.settled t.once t.all o q n) (subst (λ (k : ℕ). is_open rules depth (opened mask) given k ≡ true) (sym (t.settled.behind o q n).in_octant) (sym (opens_now rules depth mask mask' ws mid stay before after given t o h) ∙ is))) stays)
          | inr isn't ↦ subst (λ (w : List Point). IsMember q w) (sym ((t.sent.each o h).shut isn't).0) n
        ]

keeps_now : (rules : Rules) (depth mask mask' : ℕ) (ws : List Point) (mid stay before after : List Leaving) (given : List Point) → Takes rules depth mask mask' ws mid stay before after given → in_id_order (contents ws stay) ≡ kept rules depth (opened mask) given
keeps_now rules depth mask mask' ws mid stay before after given t =
    let up : IsRising comes_before (kept rules depth (opened mask) given) = IsRising-kept rules depth (opened mask) given t.up in
    in_id_order-members (contents ws stay) (kept rules depth (opened mask) given) (once-stayed rules depth mask mask' ws mid stay before after t.sent t.once) (HasDistinctIds-IsRising (kept rules depth (opened mask) given) up) (stays_in rules depth mask mask' ws mid stay before after given t) (kept_in rules depth mask mask' ws mid stay before after given t) ∙ in_id_order-IsRising (kept rules depth (opened mask) given) up

takes_of : (rules : Rules) (depth mask mask' : ℕ) (p : Point) (ws ws' : List Point) (losers losers' before after : List Leaving) → (t : HasTaken rules depth mask mask' p ws ws' losers losers' before after) → HasDistinctIds (p ∷ in_id_order (contents ws losers)) → Takes rules depth mask mask' ws' t.mid losers' before after (in_id_order (p ∷ in_id_order (contents ws losers)))
takes_of rules depth mask mask' p ws ws' losers losers' before after t once = record {
  settled = t.settled;
  sent = t.sent;
  once = HasDistinctIds-IsPermutation (p ∷ in_id_order (contents ws losers)) (contents ws' t.mid) (IsPermutation-sym (contents ws' t.mid) (p ∷ in_id_order (contents ws losers)) there) once;
  all = IsPermutation-trans (contents ws' t.mid) (p ∷ in_id_order (contents ws losers)) (in_id_order (p ∷ in_id_order (contents ws losers))) there (IsPermutation-in_id_order (p ∷ in_id_order (contents ws losers)));
  up = IsRising-in_id_order (p ∷ in_id_order (contents ws losers)) once;
}
  where
    there : IsPermutation (contents ws' t.mid) (p ∷ in_id_order (contents ws losers))
    there = IsPermutation-trans (contents ws' t.mid) (p ∷ contents ws losers) (p ∷ in_id_order (contents ws losers)) (IsPermutation-sym (p ∷ contents ws losers) (contents ws' t.mid) t.together) (IsPermutation-cons p (contents ws losers) (in_id_order (contents ws losers)) (IsPermutation-in_id_order (contents ws losers)))

pub taken-takes_in : (old new : Node) (p : Point) (ws ws' : List Point) (losers losers' before after : List Leaving) → old.points ≡ in_id_order (contents ws losers) → new.points ≡ in_id_order (contents ws' losers') → HasTaken old.rules old.key.depth old.mask new.mask p ws ws' losers losers' before after → HasDistinctIds (p ∷ old.points) → TakesIn old new p before after
taken-takes_in old new p ws ws' losers losers' before after was is t once =
    let given : List Point = in_id_order (p ∷ in_id_order (contents ws losers)) in
    let takes : Takes old.rules old.key.depth old.mask new.mask ws' t.mid losers' before after (in_id_order (p ∷ in_id_order (contents ws losers))) = takes_of old.rules old.key.depth old.mask new.mask p ws ws' losers losers' before after t (subst (λ (w : List Point). HasDistinctIds (p ∷ w)) was once) in
    let same : in_id_order (p ∷ in_id_order (contents ws losers)) ≡ given_with old p = ap (λ (w : List Point). in_id_order (p ∷ w)) (sym was) in
    record {
      points = is ∙ keeps_now old.rules old.key.depth old.mask new.mask ws' t.mid losers' before after _ takes ∙ ap (λ (w : List Point). kept old.rules old.key.depth (opened old.mask) w) same;
      opens = λ o h. opens_now old.rules old.key.depth old.mask new.mask ws' t.mid losers' before after _ takes o h ∙ ap (λ (w : List Point). is_open old.rules old.key.depth (opened old.mask) w o) same;
      leave = λ o h. leaves_now old.rules old.key.depth old.mask new.mask ws' t.mid losers' before after _ takes o h ∙ ap (λ (w : List Point). points_at before o ++ sent old.rules old.key.depth (opened old.mask) w o) same;
    }
