-- What is known of visible contents, and what a shelf was asked for.
use Rattle.std.proofs.Common.{◌≡◌, ℕ, List, length, take, sym, subst, arith, Option, Some, None}
use Rattle.std.specs.Prelude.{Result, Err}
use Rattle.std.proofs.lemmas.List.{take_all, append-nil}
use Rattle.ept_base.specs.Files.{Tells}
use Rattle.ept_scan.specs.Asking.{AsksFor, OpensThese}

-- what follows from a fact about visible contents holds of them too
pub tells-more : {X : Type 0} (P Q : X → Type 0) → ((x : X) → P x → Q x) → (o : Option X) → Tells P o → Tells Q o
tells-more P Q more None told = tt
tells-more P Q more (Some x) told = more x told

pub tells-always : {X : Type 0} (Q : X → Type 0) → ((x : X) → Q x) → (o : Option X) → Tells Q o
tells-always Q all None = tt
tells-always Q all (Some x) = all x

-- no path was asked for
pub asks-none : (paths : List (List ℕ)) (o : Option (List (List ℕ))) → AsksFor (take 0 paths) o o
asks-none paths None = tt
asks-none paths (Some before) = sym (append-nil before)

-- all paths were asked for
pub asks-all : (paths : List (List ℕ)) (old new : Option (List (List ℕ))) → AsksFor paths old new → AsksFor (take (length paths) paths) old new
asks-all paths old new asked = subst (λ (l : List (List ℕ)). AsksFor l old new) (sym (take_all (length paths) paths (omega arith))) asked

-- a refusal before a path was asked for, after some, and after all
module _ {T E : Type 0} (paths : List (List ℕ)) (old new : Option (List (List ℕ))) (r : Result T E) (e : E) (is : r ≡ Err e) where
  pub refused-first : new ≡ old → OpensThese paths r old new
  refused-first same = subst (λ (w : Result T E). OpensThese paths w old new) (sym is) (subst (λ (o : Option (List (List ℕ))). (n : ℕ) × AsksFor (take n paths) old o) (sym same) (0, asks-none paths old))

  pub refused-behind : (n : ℕ) × AsksFor (take n paths) old new → OpensThese paths r old new
  refused-behind asked = subst (λ (w : Result T E). OpensThese paths w old new) (sym is) asked

  pub refused-last : AsksFor paths old new → OpensThese paths r old new
  refused-last asked = subst (λ (w : Result T E). OpensThese paths w old new) (sym is) (length paths, asks-all paths old new asked)
