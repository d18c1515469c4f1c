-- What is sent of the tiles of a query, or of a selection, of a folder that is complete for some points.
use Rattle.std.proofs.Common.{◌≡◌, ◌∙◌, ◌≤◌, ℕ, List, [], ◌∷◌, ◌++◌, Some, refl, sym, ap, inl, inr, filter}
use Rattle.std.specs.List.{AllZip, flat_map}
use Rattle.std.proofs.lemmas.List.Concat.{flat_map-append}
use Rattle.std.proofs.lemmas.List.Elements.{filter-append}
use Rattle.ept_base.specs.Files.{Files}
use Rattle.ept_point.specs.declared.point.Point.{Point}
use Rattle.ept_point.specs.Packed.{packed, tile}
use Rattle.ept_space.specs.declared.box3.Box3.{Box3}
use Rattle.ept_sample.specs.Members.{IsMember}
use Rattle.ept_sample.proofs.Members.{contains-IsMember}
use Rattle.ept_config.specs.declared.kept.Kept.{Kept}
use Rattle.ept_hier.specs.Hierarchy.{Node}
use Rattle.ept_filter.specs.declared.sift.Sift.{Sift}
use Rattle.ept_filter.specs.Sifting.{passes, cut, sifted}
use Rattle.ept_filter.specs.Laws.{SiftsPoints}
use Rattle.ept_http.specs.QueryWords.{IsOrdered}
use Rattle.ept_save.specs.Complete.{IsComplete}
use Rattle.ept_query.specs.Parts.{Plan, IsPart, points_in, points_of}
use Rattle.ept_query.specs.Rows.{answer, selection}
use Rattle.ept_query.specs.CompleteLaws.{PlansAnswer}
use Rattle.ept_conn.specs.Answers.{Served}
use Rattle.ept_conn.specs.Served.{HasPart, IsOpenTo, IsServed}

-- the parts of some nodes, and what is sent of them
abbrev AreSent : Files → Box3 → (Node → List ℕ) → List Node → Type 0
AreSent files area part nodes =
    (parts : List (List Point)) × AllZip (IsPart files area) nodes parts × (flat_map part nodes ≡ tile (points_of parts))

all-sent : (files : Files) (area : Box3) (part : Node → List ℕ) (nodes : List Node) → ((node : Node) → IsMember node nodes → HasPart files area node (part node)) → AreSent files area part nodes
all-sent files area part [] each = ([], tt, refl)
all-sent files area part (node ∷ nodes) each =
    let here = each node (inl refl) in
    let rest = all-sent files area part nodes (λ other m. each other (inr m)) in
    let own : List Point = points_in area here.points in (
      own ∷ rest.0,
      (record { points = here.points; has = here.has; inside = refl }, rest.1),
      ap (λ (w : List ℕ). w ++ flat_map part nodes) (here.packed here.points here.has) ∙ ap (λ (w : List ℕ). tile own ++ w) rest.2 ∙ sym (flat_map-append packed own (points_of rest.0)),
    )

-- the parts of some nodes, and what a selection keeps of them
abbrev AreKept : Sift → Files → Box3 → (Node → List ℕ) → List Node → Type 0
AreKept sift files area part nodes =
    (parts : List (List Point)) × AllZip (IsPart files area) nodes parts × (flat_map (λ (node : Node). sifted sift (part node)) nodes ≡ flat_map (cut sift) (filter (passes sift) (points_of parts)))

all-kept : SiftsPoints → (sift : Sift) (files : Files) (area : Box3) (part : Node → List ℕ) (nodes : List Node) → ((node : Node) → IsMember node nodes → HasPart files area node (part node)) → AreKept sift files area part nodes
all-kept sifts sift files area part [] each = ([], tt, refl)
all-kept sifts sift files area part (node ∷ nodes) each =
    let here = each node (inl refl) in
    let rest = all-kept sifts sift files area part nodes (λ other m. each other (inr m)) in
    let own : List Point = points_in area here.points in
    let others : List ℕ = flat_map (λ (other : Node). sifted sift (part other)) nodes in (
      own ∷ rest.0,
      (record { points = here.points; has = here.has; inside = refl }, rest.1),
      ap (λ (w : List ℕ). sifted sift w ++ others) (here.packed here.points here.has)
          ∙ ap (λ (w : List ℕ). w ++ others) (sifts sift own)
          ∙ ap (λ (w : List ℕ). flat_map (cut sift) (filter (passes sift) own) ++ w) rest.2
          ∙ sym (ap (flat_map (cut sift)) (filter-append (passes sift) own (points_of rest.0)) ∙ flat_map-append (cut sift) (filter (passes sift) own) (filter (passes sift) (points_of rest.0))),
    )

module _ (answers : PlansAnswer) (kept : Kept) (points : List Point) (files : Files) (served : Served) (whole : IsComplete kept points files) where
  of-open : IsOpenTo files served → (area : Box3) (first second : ℕ) → IsOrdered area → first ≤ second → (nodes : List Node) × (served.plan area first second ≡ Some nodes) × (flat_map (served.part area) nodes ≡ answer kept points area first second)
  of-open it area first second ordered depths =
      let found = it.plan area first second ordered depths in
      let nodes : List Node = found.0 in
      let plan : Plan = record { area = area; tiles = nodes } in
      let sent = all-sent files area (served.part area) nodes (λ node m. it.part area first second nodes node found.1 (contains-IsMember node nodes m)) in
      (nodes, found.1, sent.2 ∙ ap (λ (w : List Point). tile w) (answers kept points files whole area first second plan found.2 sent.0 sent.1))

  pub queries-answered : IsServed files served → (area : Box3) (first second : ℕ) → IsOrdered area → first ≤ second → (nodes : List Node) × (served.plan area first second ≡ Some nodes) × (flat_map (served.part area) nodes ≡ answer kept points area first second)
  queries-answered (inl shut) = absurd (shut.done whole.done)
  queries-answered (inr it) = of-open it

module _ (answers : PlansAnswer) (sifts : SiftsPoints) (kept : Kept) (points : List Point) (files : Files) (served : Served) (whole : IsComplete kept points files) where
  kept-of-open : IsOpenTo files served → (area : Box3) (first second : ℕ) (sift : Sift) → IsOrdered area → first ≤ second → (nodes : List Node) × (served.plan area first second ≡ Some nodes) × (flat_map (λ (node : Node). sifted sift (served.part area node)) nodes ≡ selection sift kept points area first second)
  kept-of-open it area first second sift ordered depths =
      let found = it.plan area first second ordered depths in
      let nodes : List Node = found.0 in
      let plan : Plan = record { area = area; tiles = nodes } in
      let sent = all-kept sifts sift files area (served.part area) nodes (λ node m. it.part area first second nodes node found.1 (contains-IsMember node nodes m)) in
      (nodes, found.1, sent.2 ∙ ap (λ (w : List Point). flat_map (cut sift) (filter (passes sift) w)) (answers kept points files whole area first second plan found.2 sent.0 sent.1))

  pub selections-answered : IsServed files served → (area : Box3) (first second : ℕ) (sift : Sift) → IsOrdered area → first ≤ second → (nodes : List Node) × (served.plan area first second ≡ Some nodes) × (flat_map (λ (node : Node). sifted sift (served.part area node)) nodes ≡ selection sift kept points area first second)
  selections-answered (inl shut) = absurd (shut.done whole.done)
  selections-answered (inr it) = kept-of-open it
