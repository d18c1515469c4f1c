-- Runs of packed points. The points in an area are copied from the bytes of a tile, a whole run of neighbours at a
-- time.
use Rattle.std.proofs.Common.{◌≡◌, ◌∙◌, ◌+◌, ◌-◌, ◌*◌, ◌<◌, ◌≤◌, ℕ, zero, suc, List, [], ◌∷◌, ◌++◌, length, get_or, take, drop, Bool, true, false, cond, refl, sym, ap, arith, append-nil, append_assoc, length-take-le, length-drop}
use Rattle.std.proofs.lemmas.List.{take_at, drop_at, take_all, take_more, take-append-drop, get_or_past, length_push}
use Rattle.std.proofs.lemmas.List.Concat.{flat_map-append}
use Rattle.std.proofs.lemmas.List.Elements.{filter_more}
use Rattle.ept_point.specs.declared.point.Point.{Point}
use Rattle.ept_point.specs.declared.layout.Layout.TheVariants.{New}
use Rattle.ept_point.specs.Dimensions.{packed_width}
use Rattle.ept_point.specs.Packed.{packed, tile}
use Rattle.ept_point.specs.Laws.{EachTileHasLength}
use Rattle.ept_space.specs.declared.box3.Box3.{Box3}
use Rattle.ept_query.specs.Rows.{is_inside}
use Rattle.ept_query.specs.Parts.{points_in}

-- the points from one place of a list to another
abbrev pub between : List Point → ℕ → ℕ → List Point
between points start end = take (end - start) (drop start points)

module _ (tiles : EachTileHasLength) where
  -- their bytes are at their places in the bytes of the tile
  pub bytes-between : (bytes : List ℕ) (points : List Point) (start end : ℕ) → bytes ≡ tile points → start ≤ end → end ≤ length points → take (end * packed_width - start * packed_width) (drop (start * packed_width) bytes) ≡ tile (between points start end)
  bytes-between bytes points start end is order within =
      let before = take start points in
      let rest = drop start points in
      let run = between points start end in
      let behind = drop (end - start) rest in
      let split : bytes ≡ tile before ++ (tile run ++ tile behind) =
      is ∙ ap (λ (w : List Point). tile w) (sym (take-append-drop start points)) ∙ flat_map-append packed before rest
      ∙ ap (λ (w : List ℕ). tile before ++ w) (ap (λ (w : List Point). tile w) (sym (take-append-drop (end - start) rest)) ∙ flat_map-append packed run behind) in
      let from : length (tile before) ≡ start * packed_width = omega (arith, tiles New before, length-take-le start points (omega arith)) in
      let long : length (tile run) ≡ end * packed_width - start * packed_width = omega (arith, tiles New run, length-take-le (end - start) rest (omega (arith, length-drop start points)), length-drop start points) in
      ap (λ (w : List ℕ). take (end * packed_width - start * packed_width) (drop (start * packed_width) w)) split
      ∙ ap (take (end * packed_width - start * packed_width)) (drop_at (tile before) (tile run ++ tile behind) (start * packed_width) from)
      ∙ take_at (tile run) (tile behind) (end * packed_width - start * packed_width) long

  pub length-bytes : (bytes : List ℕ) (points : List Point) → bytes ≡ tile points → length bytes ≡ length points * packed_width
  length-bytes bytes points is = omega (arith, ap length is, tiles New points)

-- The points before `at` in the area were copied, except the run from `start` on. Each point of the run is in the area.
pub record HasCopied (area : Box3) (points : List Point) (old now : List ℕ) (start at count : ℕ) : Type 0 where
  pub order : start ≤ at
  pub within : at ≤ length points
  pub copied : now ++ tile (between points start at) ≡ old ++ tile (points_in area (take at points))
  pub number : count ≡ length (points_in area (take at points))
  pub few : count ≤ at

get-drop : {X : Type 0} (start k at : ℕ) (xs : List X) (d : X) → start + k ≡ at → get_or (drop start xs) k d ≡ get_or xs at d
get-drop zero k at xs d e = ap (λ (n : ℕ). get_or xs n d) (omega (arith, e))
get-drop (suc start) k at [] d e = get_or_past [] k d (omega arith) ∙ sym (get_or_past [] at d (omega arith))
get-drop (suc start) k zero (x ∷ xs) d e = absurd (omega (arith, e))
get-drop (suc start) k (suc at) (x ∷ xs) d e = get-drop start k at xs d (omega (arith, e))

module _ (area : Box3) (points : List Point) (old now : List ℕ) (start at count : ℕ) (p : Point) (h : HasCopied area points old now start at count) (there : at < length points) (is_p : get_or points at p ≡ p) where
  more-in : (test : Bool) → is_inside area p ≡ test → points_in area (take (at + 1) points) ≡ points_in area (take at points) ++ cond test (p ∷ []) []
  more-in test e =
      filter_more (is_inside area) points at p there
      ∙ ap (λ (q : Point). points_in area (take at points) ++ cond (is_inside area q) (q ∷ []) []) is_p
      ∙ ap (λ (b : Bool). points_in area (take at points) ++ cond b (p ∷ []) []) e

  -- the run continues
  pub copied-on : is_inside area p ≡ true → HasCopied area points old now start (at + 1) (count + 1)
  copied-on e =
      let order = h.order in
      let step : (at + 1) - start ≡ (at - start) + 1 = omega arith in
      let same : start + (at - start) ≡ at = omega arith in
      let last : get_or (drop start points) (at - start) p ≡ p = get-drop start (at - start) at points p same ∙ is_p in
      let run : between points start (at + 1) ≡ between points start at ++ p ∷ [] =
      ap (λ (k : ℕ). take k (drop start points)) step ∙ take_more (drop start points) (at - start) p (omega (arith, length-drop start points)) ∙ ap (λ (q : Point). between points start at ++ q ∷ []) last in
      let one : List Point = p ∷ [] in
      record {
        order = omega arith;
        within = omega arith;
        copied =
            ap (λ (w : List Point). now ++ tile w) run
            ∙ ap (λ (w : List ℕ). now ++ w) (flat_map-append packed (between points start at) one)
            ∙ sym (append_assoc now (tile (between points start at)) (tile one))
            ∙ ap (λ (w : List ℕ). w ++ tile one) h.copied
            ∙ append_assoc old (tile (points_in area (take at points))) (tile one)
            ∙ ap (λ (w : List ℕ). old ++ w) (sym (flat_map-append packed (points_in area (take at points)) one))
            ∙ ap (λ (w : List Point). old ++ tile w) (sym (more-in true e));
        number = omega (arith, h.number, ap length (more-in true e), length_push (points_in area (take at points)) p);
        few = omega (arith, h.few);
      }

  -- the run ends, and was copied
  pub copied-off : (next : List ℕ) → is_inside area p ≡ false → next ≡ now ++ tile (between points start at) → HasCopied area points old next (at + 1) (at + 1) count
  copied-off next e is =
      let no_step : (at + 1) - (at + 1) ≡ 0 = omega arith in
      let none : between points (at + 1) (at + 1) ≡ [] = ap (λ (k : ℕ). take k (drop (at + 1) points)) no_step in
      let same : points_in area (take (at + 1) points) ≡ points_in area (take at points) = more-in false e ∙ append-nil (points_in area (take at points)) in
      record {
        order = omega arith;
        within = omega arith;
        copied =
            ap (λ (w : List Point). next ++ tile w) none ∙ append-nil next ∙ is ∙ h.copied
            ∙ ap (λ (w : List Point). old ++ tile w) (sym same);
        number = h.number ∙ ap (λ (w : List Point). length w) (sym same);
        few = omega (arith, h.few);
      }

pub none-copied : (area : Box3) (points : List Point) (old : List ℕ) → HasCopied area points old old 0 0 0
none-copied area points old = record { order = omega arith; within = omega arith; copied = refl; number = refl; few = omega arith }

-- the last run was copied too
pub all-copied : (area : Box3) (points : List Point) (old now next : List ℕ) (start count : ℕ) → HasCopied area points old now start (length points) count → next ≡ now ++ tile (between points start (length points)) → (next ≡ old ++ tile (points_in area points)) × (count ≡ length (points_in area points))
all-copied area points old now next start count h is =
    let all : take (length points) points ≡ points = take_all (length points) points (omega arith) in
    (is ∙ h.copied ∙ ap (λ (w : List Point). old ++ tile (points_in area w)) all, h.number ∙ ap (λ (w : List Point). length (points_in area w)) all)
