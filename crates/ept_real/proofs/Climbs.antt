-- Going up from a path, folder by folder.
use Rattle.std.proofs.Common.{◌≡◌, ◌⊎◌, ℕ, List, Option, Some, None, inl, inr, refl, sym, ◌∙◌, subst}
use Rattle.std.specs.Path.{path_parent}
use Rattle.ept_real.specs.Ways.{IsAbove}
use Rattle.ept_real.specs.Ways.IsAbove.{parent, further}

-- a path is one of those that are left, of which this is the next
abbrev pub IsLeft : Option (List ℕ) → List ℕ → Type 0
IsLeft None path = ⊥
IsLeft (Some next) path = (path ≡ next) ⊎ IsAbove next path

-- what lies above a path is its parent, or lies above that
pub above_parent : (path first above : List ℕ) → path_parent path ≡ Some first → IsAbove path above → IsLeft (Some first) above
above_parent path first above e (parent h) = inl (cc (e, h))
above_parent path first above e (further {between = between} h up) = let same : between ≡ first = cc (e, h) in inr (subst (λ v. IsAbove v above) same up)

-- what lies above the last one is left
left_up : (last above : List ℕ) (next : Option (List ℕ)) → next ≡ path_parent last → IsAbove last above → IsLeft next above
left_up last above next e (parent h) = subst (λ v. IsLeft v above) (sym (e ∙ h)) (inl refl)
left_up last above next e (further h up) = subst (λ v. IsLeft v above) (sym (e ∙ h)) (inr up)

-- what was left was the one that was taken, or is left
pub left_next : (last above : List ℕ) (before next : Option (List ℕ)) → Some last ≡ before → next ≡ path_parent last → IsLeft before above → (above ≡ last) ⊎ IsLeft next above
left_next last above before next is e h = left_cases last above next e (subst (λ v. IsLeft v above) (sym is) h)
  where
    left_cases : (last above : List ℕ) (next : Option (List ℕ)) → next ≡ path_parent last → IsLeft (Some last) above → (above ≡ last) ⊎ IsLeft next above
    left_cases last above next e (inl h) = inl h
    left_cases last above next e (inr up) = inr (left_up last above next e up)
