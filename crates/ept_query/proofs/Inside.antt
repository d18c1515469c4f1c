-- A box as a test of places.
use Rattle.std.proofs.Common.{◌≡◌, ◌∙◌, Bool, true, false, T, refl, sym}
use Rattle.std.specs.Prelude.{ℤ, IsTrue, ◌↔◌}
use Rattle.std.specs.Int.Signed.{le_z, le_z_yes}
use Rattle.std.proofs.lemmas.Bool.{and_parts, and_from}
use Rattle.ept_space.specs.declared.box3.Box3.{Box3}
use Rattle.ept_space.specs.Place.{Place}
use Rattle.ept_space.specs.ClosedBox.{IsBetween, IsIn}
use Rattle.ept_query.specs.Rows.{is_between, is_in}

is_told : (b : Bool) → b ≡ true → T b
is_told true is = tt
is_told false is = absurd (cc)

is_true : (b : Bool) → T b → b ≡ true
is_true true is = refl
is_true false is = absurd is

between-yes : (least greatest at : ℤ) → is_between least greatest at ≡ true → IsBetween least greatest at
between-yes least greatest at is =
    let parts = and_parts (le_z least at) (le_z at greatest) is in
    (le_z_yes (is_told (le_z least at) parts.0), le_z_yes (is_told (le_z at greatest) parts.1))

yes-between : (least greatest at : ℤ) → IsBetween least greatest at → is_between least greatest at ≡ true
yes-between least greatest at is =
    and_from (le_z least at) (le_z at greatest) (is_true (le_z least at) is.0.le) (is_true (le_z at greatest) is.1.le)

pub is_in-yes : (area : Box3) (at : Place) → is_in area at ≡ true → IsIn area at
unfolding is_in
is_in-yes area at is =
    let last = and_parts _ _ is in
    let first = and_parts _ _ last.0 in
    record { x = between-yes _ _ _ first.0; y = between-yes _ _ _ first.1; z = between-yes _ _ _ last.1 }

pub yes-is_in : (area : Box3) (at : Place) → IsIn area at → is_in area at ≡ true
unfolding is_in
yes-is_in area at is = and_from _ _ (and_from _ _ (yes-between _ _ _ is.x) (yes-between _ _ _ is.y)) (yes-between _ _ _ is.z)

-- a test that holds of a place if and only if it lies in the box is this test
pub same-test : (area : Box3) (at : Place) (found : Bool) → IsTrue found ↔ IsIn area at → found ≡ is_in area at
same-test area at true says = sym (yes-is_in area at (says.0 refl))
same-test area at false says = by_test (is_in area at) refl
  where
    by_test : (b : Bool) → is_in area at ≡ b → false ≡ is_in area at
    by_test true is = says.1 (is_in-yes area at is) ∙ sym is
    by_test false is = sym is
