-- A point that loses: it leaves, or stays, or opens its octant.
use Rattle.std.proofs.Common.{◌≡◌, ◌≢◌, ◌∙◌, ℕ, ◌+◌, ◌-◌, ◌<◌, ◌≤◌, Bool, true, false, ◌||◌, ◌==◌, ◌⊎◌, inl, inr, List, [], ◌∷◌, ◌++◌, length, append-nil, refl, ap, sym, subst, arith}
use Rattle.std.specs.List.Sorted.{IsPermutation}
use Rattle.std.proofs.lemmas.List.Sorted.{IsPermutation-refl}
use Rattle.std.proofs.lemmas.Bool.Decides.{nat_tests}
use Rattle.ept_point.specs.declared.point.Point.{Point}
use Rattle.ept_space.specs.declared.cube.Rules.{Rules}
use Rattle.ept_sample.specs.Ids.{HasDistinctIds, in_id_order}
use Rattle.ept_sample.proofs.Choices.{either, not_both, or_left, or_right}
use Rattle.ept_grid.specs.Mask.{opened}
use Rattle.ept_grid.specs.Outgoing.{Leaving, leaving_at, points_at}
use Rattle.ept_grid.specs.Contents.{AreFew, HasSentAt, HasSent, joined, opens_with}
use Rattle.ept_grid.proofs.Lanes.{length-joined, joined-there, joined-other}

pub same_or : (o k : ℕ) → (o ≡ k) ⊎ (o ≢ k)
same_or o k = elim (either (o == k)) [ inl is ↦ inl (grind (arith, nat_tests)) | inr isn't ↦ inr (λ e. grind (arith, nat_tests)) ]

-- ---- an octant that nothing happens to

at_rest : (rules : Rules) (depth mask mask' o : ℕ) (l b : Leaving) → opened mask' o ≡ opened mask o → (opened mask o ≡ false → opens_with rules depth (length l.points) ≡ false) → (opened mask o ≡ true → l.points ≡ []) → HasSentAt rules depth mask mask' o l l b b
unfolding in_id_order
at_rest rules depth mask mask' o l b same shut gone = record {
  opens = same ∙ elim (either (opened mask o)) [
    | inl is ↦ is ∙ sym (or_left (opened mask o) (opens_with rules depth (length l.points)) is)
    | inr isn't ↦ isn't ∙ sym (ap (λ (c : Bool). c || opens_with rules depth (length l.points)) isn't ∙ shut isn't)
  ];
  shut = λ e. (refl, refl);
  gone = λ e. gone (sym same ∙ e);
  added = [];
  grows = sym (append-nil b.points);
  leave = λ e. subst (λ (w : List Point). IsPermutation w []) (sym (gone (sym same ∙ e))) (IsPermutation-refl []);
  in_order = λ e once. ap (λ (w : List Point). in_id_order w) (sym (gone (sym same ∙ e)));
  places = omega arith;
  room = λ e. omega arith;
}

still : (rules : Rules) (depth mask mask' : ℕ) (losers : List Leaving) (o : ℕ) (b : Leaving) → o < 8 → AreFew rules depth mask losers → opened mask' o ≡ opened mask o → HasSentAt rules depth mask mask' o (leaving_at losers o) (leaving_at losers o) b b
still rules depth mask mask' losers o b h few same =
    at_rest rules depth mask mask' o (leaving_at losers o) b same (few.shut o h) (few.gone o h)

pub none-lost : (rules : Rules) (depth mask : ℕ) (losers out : List Leaving) → length losers ≡ 8 → length out ≡ 8 → AreFew rules depth mask losers → HasSent rules depth mask mask losers losers out out
none-lost rules depth mask losers out e f few = record {
  each = λ o h. still rules depth mask mask losers o (leaving_at out o) h few refl;
  mid_eight = e;
  stay_eight = e;
  before_eight = f;
  after_eight = f;
}

-- ---- the octant of the point

-- what becomes of the losers of one octant, and of the others nothing
one_octant : (rules : Rules) (depth mask mask' : ℕ) (k : ℕ) (q : Point) (losers stay before after : List Leaving) → k < 8 → AreFew rules depth mask losers → length losers ≡ 8 → length stay ≡ 8 → length before ≡ 8 → length after ≡ 8 → ((o : ℕ) → o ≢ k → opened mask' o ≡ opened mask o) → ((o : ℕ) → o ≢ k → leaving_at stay o ≡ leaving_at losers o) → ((o : ℕ) → o ≢ k → leaving_at after o ≡ leaving_at before o) → HasSentAt rules depth mask mask' k (leaving_at (joined losers k q) k) (leaving_at stay k) (leaving_at before k) (leaving_at after k) → HasSent rules depth mask mask' (joined losers k q) stay before after
one_octant rules depth mask mask' k q losers stay before after small few e f g h same rest out_rest at = record {
  each = λ o m. elim (same_or o k) [
    | inl is ↦ subst (λ (n : ℕ). HasSentAt rules depth mask mask' n (leaving_at (joined losers k q) n) (leaving_at stay n) (leaving_at before n) (leaving_at after n)) (sym is) at
    | inr isn't ↦
        subst (λ (l : Leaving). HasSentAt rules depth mask mask' o l (leaving_at stay o) (leaving_at before o) (leaving_at after o)) (sym (joined-other losers k o q isn't)) (subst (λ (l : Leaving). HasSentAt rules depth mask mask' o (leaving_at losers o) l (leaving_at before o) (leaving_at after o)) (sym (rest o isn't)) (subst (λ (l : Leaving). HasSentAt rules depth mask mask' o (leaving_at losers o) (leaving_at losers o) (leaving_at before o) l) (sym (out_rest o isn't)) (still rules depth mask mask' losers o (leaving_at before o) m few (same o isn't))))
  ];
  mid_eight = length-joined losers k q ∙ e;
  stay_eight = f;
  before_eight = g;
  after_eight = h;
}

-- the octant is open: the point leaves at once
pub passes : (rules : Rules) (depth mask k : ℕ) (q : Point) (losers before after : List Leaving) → k < 8 → AreFew rules depth mask losers → length losers ≡ 8 → length before ≡ 8 → length after ≡ length before → opened mask k ≡ true → points_at after k ≡ points_at before k ++ q ∷ [] → (leaving_at before k).room ≡ (leaving_at after k).room + 1 → ((o : ℕ) → o ≢ k → leaving_at after o ≡ leaving_at before o) → HasSent rules depth mask mask (joined losers k q) losers before after
unfolding in_id_order
passes rules depth mask k q losers before after small few e f g is added less others =
    one_octant rules depth mask mask k q losers losers before after small few e e f (g ∙ f) (λ o h. refl) (λ o h. refl) others (record {
      opens = is ∙ sym (or_left (opened mask k) (opens_with rules depth (length (points_at (joined losers k q) k))) is);
      shut = λ isn't. absurd (not_both (opened mask k) is isn't);
      gone = λ _. few.gone k small is;
      added = q ∷ [];
      grows = added;
      leave = λ _. subst (λ (w : List Point). IsPermutation w (q ∷ [])) (sym alone) (IsPermutation-refl (q ∷ []));
      in_order = λ _ once. ap (λ (w : List Point). in_id_order w) (sym alone);
      places = omega (arith, less);
      room = λ isn't. absurd (not_both (opened mask k) is isn't);
    })
  where
    alone : points_at (joined losers k q) k ≡ q ∷ []
    alone = (joined-there losers k q (omega (arith, small, e))).0 ∙ ap (λ (w : List Point). w ++ q ∷ []) (few.gone k small is)

-- the octant stays closed: so does the point
pub stays : (rules : Rules) (depth mask k : ℕ) (q : Point) (losers stay out : List Leaving) → k < 8 → AreFew rules depth mask losers → length losers ≡ 8 → length stay ≡ length losers → length out ≡ 8 → opened mask k ≡ false → points_at stay k ≡ points_at losers k ++ q ∷ [] → (leaving_at losers k).room ≡ (leaving_at stay k).room + 1 → ((o : ℕ) → o ≢ k → leaving_at stay o ≡ leaving_at losers o) → opens_with rules depth (length (points_at stay k)) ≡ false → HasSent rules depth mask mask (joined losers k q) stay out out
stays rules depth mask k q losers stay out small few e f g isn't added less others shut =
    one_octant rules depth mask mask k q losers stay out out small few e (f ∙ e) g g (λ o h. refl) others (λ o h. refl) (record {
      opens = isn't ∙ sym (ap (λ (c : Bool). c || opens_with rules depth (length (points_at (joined losers k q) k))) isn't ∙ (ap (λ (w : List Point). opens_with rules depth (length w)) (sym same) ∙ shut));
      shut = λ _. (same, refl);
      gone = λ is. absurd (not_both (opened mask k) is isn't);
      added = [];
      grows = sym (append-nil (points_at out k));
      leave = λ is. absurd (not_both (opened mask k) is isn't);
      in_order = λ is once. absurd (not_both (opened mask k) is isn't);
      places = omega arith;
      room = λ _. omega (arith, less, there.1);
    })
  where
    there : (points_at (joined losers k q) k ≡ points_at losers k ++ q ∷ []) × ((leaving_at (joined losers k q) k).room ≡ (leaving_at losers k).room - 1)
    there = joined-there losers k q (omega (arith, small, e))

    same : points_at stay k ≡ points_at (joined losers k q) k
    same = added ∙ sym there.0

-- the octant opens: all its losers leave
pub opens : (rules : Rules) (depth mask mask' k : ℕ) (q : Point) (losers more sorted stay before after : List Leaving) → k < 8 → AreFew rules depth mask losers → length losers ≡ 8 → length stay ≡ 8 → length before ≡ 8 → length after ≡ 8 → opened mask k ≡ false → ((o : ℕ) → opened mask' o ≡ (opened mask o || (o == k))) → points_at more k ≡ points_at losers k ++ q ∷ [] → ((o : ℕ) → o ≢ k → leaving_at stay o ≡ leaving_at losers o) → opens_with rules depth (length (points_at more k)) ≡ true → IsPermutation (points_at more k) (points_at sorted k) → (HasDistinctIds (points_at more k) → points_at sorted k ≡ in_id_order (points_at more k)) → points_at stay k ≡ [] → points_at after k ≡ points_at before k ++ points_at sorted k → (leaving_at before k).room ≤ (leaving_at after k).room + length (points_at sorted k) → ((o : ℕ) → o ≢ k → leaving_at after o ≡ leaving_at before o) → HasSent rules depth mask mask' (joined losers k q) stay before after
opens rules depth mask mask' k q losers more sorted stay before after small few e f g h isn't sets added others many moved in_order none grows left out_others =
    one_octant rules depth mask mask' k q losers stay before after small few e f g h (λ o apart. sets o ∙ other (opened mask o) (o == k) (unequal o apart)) others out_others (record {
      opens = is ∙ sym (or_right (opened mask k) (opens_with rules depth (length (points_at (joined losers k q) k))) (ap (λ (w : List Point). opens_with rules depth (length w)) (sym same) ∙ many));
      shut = λ isn't_now. absurd (not_both (opened mask' k) is isn't_now);
      gone = λ _. none;
      added = points_at sorted k;
      grows = grows;
      leave = λ _. subst (λ (w : List Point). IsPermutation w (points_at sorted k)) same moved;
      in_order = λ _ once. in_order (subst (λ (w : List Point). HasDistinctIds w) (sym same) once) ∙ ap (λ (w : List Point). in_id_order w) same;
      places = left;
      room = λ isn't_now. absurd (not_both (opened mask' k) is isn't_now);
    })
  where
    there : (points_at (joined losers k q) k ≡ points_at losers k ++ q ∷ []) × ((leaving_at (joined losers k q) k).room ≡ (leaving_at losers k).room - 1)
    there = joined-there losers k q (omega (arith, small, e))

    same : points_at more k ≡ points_at (joined losers k q) k
    same = added ∙ sym there.0

    equal : (k == k) ≡ true
    equal = grind (arith, nat_tests)

    unequal : (o : ℕ) → o ≢ k → (o == k) ≡ false
    unequal o apart = grind (arith, nat_tests)

    is : opened mask' k ≡ true
    is = sets k ∙ or_right (opened mask k) (k == k) equal

    other : (b c : Bool) → c ≡ false → (b || c) ≡ b
    other true c e = refl
    other false c e = e
