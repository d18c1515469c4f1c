-- A node of a sampling is one as its tile and its mask give it.
use Rattle.std.proofs.Common.{◌≡◌, ◌∙◌, ℕ, ◌<◌, ◌≤◌, ◌^◌, Bool, true, false, not, ◌&&◌, ◌==◌, nat_lt, inl, inr, List, [], ◌∷◌, Option, Some, None, zero, suc, refl, sym, ap, subst, arith, length, get_or}
use Rattle.std.specs.Prelude.{position}
use Rattle.std.specs.Int.{bit_at}
use Rattle.std.proofs.lemmas.Nat.Bits.{same_from_bits_below, bit_at-zero, bit_at-lt}
use Rattle.std.proofs.lemmas.Bool.Decides.{nat_tests}
use Rattle.std.proofs.lemmas.List.Quantifiers.{position-Some}
use Rattle.ept_point.specs.declared.point.Point.{Point}
use Rattle.ept_space.specs.declared.cube.Rules.{Rules}
use Rattle.ept_space.specs.VoxelKey.{VoxelKey, child}
use Rattle.ept_space.specs.OctreeCube.{InBox, InCube}
use Rattle.ept_space.proofs.PlaceKeys.{octant_at-below}
use Rattle.ept_sample.specs.Place.{place}
use Rattle.ept_sample.specs.Arrivals.{loses, octant, losers, overflows, leaves, kept, none_open}
use Rattle.ept_sample.specs.Sampling.{given, sampling, is_node}
use Rattle.ept_sample.specs.SamplingLaws.{CanBeSampled}
use Rattle.ept_sample.specs.Members.{IsMember}
use Rattle.ept_sample.proofs.Members.{all-member, All-members}
use Rattle.ept_sample.proofs.Choices.{either, not_both, and_left, and_right}
use Rattle.ept_sample.proofs.ArrivalLaws.{leaves-from, loses-kept, overflows-depth}
use Rattle.ept_sample.proofs.SamplingLaws.{given-IsMember, given-InBox, IsMember-sampling}
use Rattle.ept_core.proofs.Leaving.{over-open, losers-kept}
use Rattle.ept_core.proofs.Resumed.{child-is_node, is_node-child}
use Rattle.ept_grid.specs.Mask.{opened}
use Rattle.ept_grid.specs.Tile.{is_open_loser, is_overfull, IsTile}

member_at : (points : List Point) (k : ℕ) (d : Point) → k < length points → IsMember (get_or points k d) points
member_at [] k d lt = absurd (omega (arith, lt))
member_at (p ∷ points) zero d lt = inl refl
member_at (p ∷ points) (suc k) d lt = inr (member_at points k d (omega (arith, lt)))

-- where no point passes, there is no first one
none_passes : (test : Point → Bool) (points : List Point) → ((p : Point) → IsMember p points → test p ≡ false) → position test points ≡ None
none_passes test [] each = refl
none_passes test (p ∷ points) each = by_first (position test (p ∷ points)) refl
  where
    by_first : (first : Option ℕ) → position test (p ∷ points) ≡ first → position test (p ∷ points) ≡ None
    by_first None is = is
    by_first (Some k) is =
        let at = position-Some test (p ∷ points) k p is in
        absurd (not_both (test (get_or (p ∷ points) k p)) at.1 (each (get_or (p ∷ points) k p) (member_at (p ∷ points) k p at.0)))

-- a byte without a bit is 0
no_bits : (mask : ℕ) → mask < 2 ^ 8 → ((o : ℕ) → o < 8 → opened mask o ≡ false) → mask ≡ 0
unfolding opened
no_bits mask byte none =
    same_from_bits_below 8 mask 0 byte (omega arith) (λ o low. clear (bit_at mask o) (bit_at-lt mask o) (none o low) ∙ sym (bit_at-zero o))
  where
    clear : (bit : ℕ) → bit < 2 → (bit == 1) ≡ false → bit ≡ 0
    clear bit small e = grind (arith, nat_tests)

sampling_kept : (rules : Rules) (points : List Point) (key : VoxelKey) → sampling rules points key ≡ kept rules key.depth none_open (given rules points key)
unfolding sampling
sampling_kept rules points key = refl

-- an octant is too full with fewer losers, only if it is with more
overflows-fewer : (rules : Rules) (depth : ℕ) (few many : List Point) (o : ℕ) → length (losers rules depth few o) ≤ length (losers rules depth many o) → overflows rules depth many o ≡ false → overflows rules depth few o ≡ false
unfolding overflows
overflows-fewer rules depth few many o le fits = less (nat_lt depth rules.cube.depth) rules.threshold (length (losers rules depth few o)) (length (losers rules depth many o)) le fits
  where
    less : (above : Bool) (t m n : ℕ) → m ≤ n → (above && nat_lt t n) ≡ false → (above && nat_lt t m) ≡ false
    less true t m n le fits = grind (arith, nat_tests)
    less false t m n le fits = refl

module _ (rules : Rules) (points : List Point) (can : CanBeSampled rules points) (key : VoxelKey) (mask : ℕ) (byte : mask < 2 ^ 8) (tells : (o : ℕ) → o < 8 → opened mask o ≡ is_node rules points (child key o)) where
  abbrev here : List Point
  here = sampling rules points key

  abbrev all : List Point
  all = given rules points key

  -- an octant is open where it overflows, and not elsewhere
  opened-over : (o : ℕ) → o < 8 → opened mask o ≡ true → overflows rules key.depth all o ≡ true
  opened-over o low e = is_node-child rules points key o low (sym (tells o low) ∙ e)

  closed-fits : (o : ℕ) → o < 8 → opened mask o ≡ false → overflows rules key.depth all o ≡ false
  closed-fits o low e =
      elim (either (overflows rules key.depth all o)) [
        | inl over ↦ absurd (not_both (opened mask o) (tells o low ∙ child-is_node rules points key o low over) e)
        | inr fits ↦ fits
      ]

  lose-alike : (p : Point) → loses rules key.depth here p ≡ loses rules key.depth all p
  lose-alike p = ap (λ (w : List Point). loses rules key.depth w p) (sampling_kept rules points key) ∙ loses-kept rules key.depth none_open all p

  -- who loses in an open octant has left
  no_open_loser : (p : Point) → IsMember p here → is_open_loser rules key.depth mask here p ≡ false
  no_open_loser p m =
      elim (either (is_open_loser rules key.depth mask here p)) [
        | inl e ↦
            let o : ℕ = octant rules key.depth p in
            let lost : loses rules key.depth all p ≡ true = sym (lose-alike p) ∙ and_left (loses rules key.depth here p) (opened mask o) e in
            let over : overflows rules key.depth all o ≡ true = opened-over o (octant_at-below rules.cube key.depth (place p)) (and_right (loses rules key.depth here p) (opened mask o) e) in
            absurd (not_both (leaves rules key.depth none_open all p) (leaves-from rules key.depth none_open all p lost (over-open rules key.depth none_open all o over)) (IsMember-sampling rules points key p m).1)
        | inr fine ↦ fine
      ]

  none_overfull : (o : ℕ) → o < 8 → is_overfull rules key.depth mask here o ≡ false
  none_overfull o low =
      elim (either (opened mask o)) [
        | inl e ↦ ap (λ (b : Bool). not b && overflows rules key.depth here o) e
        | inr e ↦
            ap (λ (b : Bool). not b && overflows rules key.depth here o) e
            ∙ overflows-fewer rules key.depth here all o (subst (λ (w : List Point). length (losers rules key.depth w o) ≤ length (losers rules key.depth all o)) (sym (sampling_kept rules points key)) (losers-kept rules key.depth none_open all o)) (closed-fits o low e)
      ]

  -- the node is one as its tile and its mask give it
  pub sampled-IsTile : IsTile key rules mask here
  sampled-IsTile = record {
    inside = All-members (λ (p : Point). InBox rules.cube key (place p)) here (λ p m.
        let g : IsMember p all = (IsMember-sampling rules points key p m).0 in
        given-InBox rules points key p can.cube (all-member (λ (q : Point). InCube rules.cube (place q)) p points can.inside (given-IsMember rules points key p g)) g);
    no_open_loser = none_passes (is_open_loser rules key.depth mask here) here no_open_loser;
    none_overfull = none_overfull;
    not_deep = λ deepest. no_bits mask byte (λ o low.
        elim (either (opened mask o)) [
          | inl e ↦ absurd (let above = overflows-depth rules key.depth all o (opened-over o low e) in omega (arith, above, deepest))
          | inr e ↦ e
        ]);
  }
