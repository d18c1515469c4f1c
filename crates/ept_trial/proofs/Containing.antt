-- What a list contains are its members.
use Rattle.std.proofs.Common.{◌≡◌, ℕ, zero, suc, ◌<◌, List, [], ◌∷◌, length, get_or, arith, inl, inr}
use Rattle.std.specs.Prelude.{Contains}
use Rattle.ept_sample.specs.Members.{IsMember}

at-member : {X : Type 0} (xs : List X) (k : ℕ) (x d : X) → k < length xs → get_or xs k d ≡ x → IsMember x xs
at-member [] k x d within is = absurd (omega (arith, within))
at-member (y ∷ ys) zero x d within is = inl is
at-member (y ∷ ys) (suc k) x d within is = inr (at-member ys k x d (omega (arith, within)) is)

pub contains-member : {X : Type 0} (xs : List X) (x : X) → Contains xs x → IsMember x xs
contains-member xs x has = at-member xs has.0 x x has.1 has.2

pub member-contains : {X : Type 0} (xs : List X) (x : X) → IsMember x xs → Contains xs x
member-contains [] x m = absurd m
member-contains (y ∷ ys) x (inl is) = (0, omega arith, is)
member-contains (y ∷ ys) x (inr m) =
    let rest = member-contains ys x m in
    (suc rest.0, omega (arith, rest.1), rest.2)
