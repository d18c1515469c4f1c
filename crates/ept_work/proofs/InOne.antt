-- The last two flights of a worker become one.
use Rattle.std.proofs.Common.{◌≡◌, ◌∙◌, ◌≤◌, inl, inr, List, [], ◌∷◌, ◌++◌, refl, sym, ap, subst}
use Rattle.std.proofs.lemmas.List.{append_assoc}
use Rattle.ept_sample.specs.Members.{IsMember}
use Rattle.ept_sample.proofs.Members.{IsMember-left, IsMember-right, IsMember-append}
use Rattle.ept_table.specs.declared.note.Told.{Told}
use Rattle.ept_table.specs.declared.note.Carried.{Carried}
use Rattle.ept_table.specs.View.{View}
use Rattle.ept_table.specs.Steps.{noting, merged, in_one, last_in_one}
use Rattle.ept_table.proofs.Merging.{last-in-one}
use Rattle.ept_work.specs.Rest.{IsAtRest}

module _ (flights more rest : List Carried) (first second one : Carried) (all : flights ≡ more ++ second ∷ []) (front : more ≡ rest ++ first ∷ []) (is : one ≡ in_one first second) where
  parts : flights ≡ rest ++ first ∷ second ∷ []
  parts = all ∙ (ap (λ (cs : List Carried). cs ++ second ∷ []) front ∙ append_assoc rest (first ∷ []) (second ∷ []))

  pub merged-is : last_in_one flights ≡ rest ++ one ∷ []
  merged-is =
      ap (λ (cs : List Carried). last_in_one cs) parts
      ∙ (last-in-one rest first second ∙ ap (λ (c : Carried). rest ++ c ∷ []) (sym is))

  pub merged-rest : (told : Told) (v w : View) → v.note.flights ≡ flights → w ≡ noting v (merged v.note) → IsAtRest told v → IsAtRest told w
  merged-rest told v w same after at_rest =
      subst (λ (u : View). IsAtRest told u) (sym after) (record {
        idle = record { share = at_rest.idle.share; free = at_rest.idle.free; undrawn = at_rest.idle.undrawn };
        unrefused = at_rest.unrefused;
        within = within;
      })
    where
      was : (c : Carried) → IsMember c flights → c.slot ≤ told.most
      was c m = at_rest.within c (subst (λ (cs : List Carried). IsMember c cs) (sym same) m)

      now : last_in_one v.note.flights ≡ rest ++ one ∷ []
      now = ap (λ (cs : List Carried). last_in_one cs) same ∙ merged-is

      within : (c : Carried) → IsMember c (last_in_one v.note.flights) → c.slot ≤ told.most
      within c m =
          elim (IsMember-append c rest (one ∷ []) (subst (λ (cs : List Carried). IsMember c cs) now m)) [
            | inl left ↦ was c (subst (λ (cs : List Carried). IsMember c cs) (sym parts) (IsMember-left c rest (first ∷ second ∷ []) left))
            | inr last ↦ elim last [
              | inl it ↦ subst (λ (d : Carried). d.slot ≤ told.most) it (subst (λ (d : Carried). d.slot ≤ told.most) (sym is) (was first (subst (λ (cs : List Carried). IsMember first cs) (sym parts) (IsMember-right first rest (first ∷ second ∷ []) (inl refl)))))
              | inr none ↦ absurd none
            ]
          ]
