-- Lists in strict order.
use Rattle.std.proofs.Common.{◌≡◌, inl, inr, Bool, true, false, cond, List, [], ◌∷◌, refl, sym, ap, ◌∙◌, subst, filter}
use Rattle.std.specs.Prelude.{⊤}
use Rattle.std.proofs.lemmas.Bool.{false≢true}
use Rattle.ept_sample.specs.Members.{IsMember}
use Rattle.ept_sample.proofs.Members.{IsMember-filter}

-- a strict order: nothing is before itself, and it is transitive
pub record IsOrder {X : Type 0} (before : X → X → Bool) : Type 0 where
  pub none_itself : (x : X) → before x x ≡ false
  pub goes_on : (x y z : X) → before x y ≡ true → before y z ≡ true → before x z ≡ true

-- x is before each of the items
abbrev pub IsBeforeAll : {X : Type 0} → (X → X → Bool) → X → List X → Type 0
IsBeforeAll {X} before x xs = (y : X) → IsMember y xs → before x y ≡ true

-- each item is before all later ones
abbrev pub IsRising : {X : Type 0} → (X → X → Bool) → List X → Type 0
IsRising before [] = ⊤
IsRising before (x ∷ xs) = IsBeforeAll before x xs × IsRising before xs

-- a filter of a rising list rises
rising_step : {X : Type 0} (before : X → X → Bool) (test : X → Bool) (x : X) (xs : List X) (b : Bool) → IsBeforeAll before x xs → IsRising before (filter test xs) → IsRising before (cond b (x ∷ filter test xs) (filter test xs))
rising_step before test x xs true first rest = (λ y m. first y (IsMember-filter test y xs m).0, rest)
rising_step before test x xs false first rest = rest

pub IsRising-filter : {X : Type 0} (before : X → X → Bool) (test : X → Bool) (xs : List X) → IsRising before xs → IsRising before (filter test xs)
IsRising-filter before test [] up = tt
IsRising-filter before test (x ∷ xs) up = rising_step before test x xs (test x) up.0 (IsRising-filter before test xs up.1)

-- two heads, each a member of the other's list, are the same
heads : {X : Type 0} (before : X → X → Bool) (o : IsOrder before) (x y : X) (xs ys : List X) → IsBeforeAll before x xs → IsBeforeAll before y ys → IsMember x (y ∷ ys) → IsMember y (x ∷ xs) → x ≡ y
heads before o x y xs ys first second (inl e) n = sym e
heads before o x y xs ys first second (inr m) (inl e) = e
heads before o x y xs ys first second (inr m) (inr n) =
    absurd (false≢true (sym (o.none_itself x) ∙ o.goes_on x y x (first y n) (second x m)))

-- a member of a rising list that comes after its head is not the head
behind : {X : Type 0} (before : X → X → Bool) (o : IsOrder before) (x z : X) (xs ys : List X) → IsBeforeAll before x xs → IsMember z xs → IsMember z (x ∷ ys) → IsMember z ys
behind before o x z xs ys first m (inl e) =
    absurd (false≢true (sym (o.none_itself x) ∙ subst (λ w. before x w ≡ true) (sym e) (first z m)))
behind before o x z xs ys first m (inr n) = n

-- two rising lists with the same members are the same
pub same_rising : {X : Type 0} (before : X → X → Bool) (o : IsOrder before) (xs ys : List X) → IsRising before xs → IsRising before ys → ((z : X) → IsMember z xs → IsMember z ys) → ((z : X) → IsMember z ys → IsMember z xs) → xs ≡ ys
same_rising before o [] [] up up' there back = refl
same_rising before o [] (y ∷ ys) up up' there back = absurd (back y (inl refl))
same_rising before o (x ∷ xs) [] up up' there back = absurd (there x (inl refl))
same_rising {X} before o (x ∷ xs) (y ∷ ys) up up' there back =
    let one : x ≡ y = heads before o x y xs ys up.0 up'.0 (there x (inl refl)) (back y (inl refl)) in
    let first : IsBeforeAll before x ys = subst (λ (w : X). IsBeforeAll before w ys) (sym one) up'.0 in
    let rest : xs ≡ ys = same_rising before o xs ys up.1 up'.1 (λ z m. behind before o x z xs ys up.0 m (subst (λ (w : X). IsMember z (w ∷ ys)) (sym one) (there z (inr m)))) (λ z m. behind before o x z ys xs first m (back z (inr m))) in
    ap (λ (w : X). w ∷ xs) one ∙ ap (λ (w : List X). y ∷ w) rest
