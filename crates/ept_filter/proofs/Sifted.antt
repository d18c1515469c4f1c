-- Packed points that pass, and what is kept of them, point by point.
use Rattle.std.proofs.Common.{◌≡◌, ℕ, suc, ◌+◌, ◌*◌, ◌/◌, ◌%◌, ◌<◌, ◌≤◌, List, [], ◌∷◌, ◌++◌, length, get_or, map, filter, take, drop, Bool, true, false, cond, ◌&&◌, refl, sym, ap, ◌∙◌, arith, append-nil, append_assoc, length-drop, length-append}
use Rattle.std.specs.List.{flat_map}
use Rattle.std.proofs.lemmas.List.{take_at, drop_at}
use Rattle.ept_point.specs.declared.point.Point.{Point}
use Rattle.ept_point.specs.Dimensions.{Dimension, dimensions, packed_width, pieces}
use Rattle.ept_point.specs.Packed.{field_bytes, little_endian, number_in, packed, tile}
use Rattle.ept_point.specs.Laws.{EachPieceIsItsField, EachHasPackedLength}
use Rattle.ept_filter.specs.declared.sift.Sift.{Sift}
use Rattle.ept_filter.specs.Asked.{asked_rows}
use Rattle.ept_filter.specs.Layout.{part}
use Rattle.ept_filter.specs.Sifting.{admits_class, admits_time, passes, cut, class_row, time_row, passes_packed, cut_packed, packed_points, selected, sifted}
use Rattle.ept_filter.specs.Laws.{SelectsPoints, SiftsPoints}

-- ---- bytes

points-more : (bytes : List ℕ) → packed_width ≤ length bytes → packed_points (length bytes / packed_width) bytes ≡ take packed_width bytes ∷ packed_points (length (drop packed_width bytes) / packed_width) (drop packed_width bytes)
points-more bytes enough =
    let one_less : length bytes / packed_width ≡ suc (length (drop packed_width bytes) / packed_width) = omega (arith, length-drop packed_width bytes) in
    ap (λ (n : ℕ). packed_points n bytes) one_less

pub selected-none : (sift : Sift) (bytes : List ℕ) → length bytes < packed_width → selected sift bytes ≡ []
unfolding selected
selected-none sift bytes few =
    let none : length bytes / packed_width ≡ 0 = omega arith in
    ap (λ (n : ℕ). filter (passes_packed sift) (packed_points n bytes)) none

pub selected-more : (sift : Sift) (bytes : List ℕ) (test : Bool) → packed_width ≤ length bytes → passes_packed sift (take packed_width bytes) ≡ test → selected sift bytes ≡ cond test (take packed_width bytes ∷ selected sift (drop packed_width bytes)) (selected sift (drop packed_width bytes))
unfolding selected
selected-more sift bytes test enough e =
    ap (filter (passes_packed sift)) (points-more bytes enough) ∙ ap (λ (b : Bool). cond b (take packed_width bytes ∷ selected sift (drop packed_width bytes)) (selected sift (drop packed_width bytes))) e

-- what was sifted of bytes before the rest of them
pub record HasSifted (sift : Sift) (bytes rest old now : List ℕ) (count : ℕ) : Type 0 where
  pub kept : old ++ sifted sift bytes ≡ now ++ sifted sift rest
  pub number : length (selected sift bytes) ≡ count + length (selected sift rest)
  pub is_whole : length rest % packed_width ≡ 0
  pub most : count * packed_width + length rest ≤ length bytes
  pub front : (some : List ℕ) × (now ≡ old ++ some)

pub sifted-start : (sift : Sift) (bytes old : List ℕ) → length bytes % packed_width ≡ 0 → HasSifted sift bytes bytes old old 0
sifted-start sift bytes old is_whole = record {
  kept = refl;
  number = omega arith;
  is_whole = is_whole;
  most = omega arith;
  front = ([], sym (append-nil old));
}

module _ (sift : Sift) (bytes rest old now : List ℕ) (count : ℕ) (h : HasSifted sift bytes rest old now count) (enough : packed_width ≤ length rest) where
  whole-later : length (drop packed_width rest) % packed_width ≡ 0
  whole-later = omega (arith, length-drop packed_width rest, h.is_whole)

  pub sifted-pass : (next : List ℕ) → passes_packed sift (take packed_width rest) ≡ true → next ≡ now ++ cut_packed sift (take packed_width rest) → HasSifted sift bytes (drop packed_width rest) old next (count + 1)
  unfolding sifted
  sifted-pass next e is =
      let more = selected-more sift rest true enough e in
      record {
        kept =
            h.kept ∙ ap (λ (ps : List (List ℕ)). now ++ flat_map (cut_packed sift) ps) more
            ∙ sym (append_assoc now (cut_packed sift (take packed_width rest)) (flat_map (cut_packed sift) (selected sift (drop packed_width rest))))
            ∙ ap (λ (bs : List ℕ). bs ++ flat_map (cut_packed sift) (selected sift (drop packed_width rest))) (sym is);
        number = omega (arith, h.number, ap length more);
        is_whole = whole-later;
        most = omega (arith, h.most, length-drop packed_width rest);
        front = (h.front.0 ++ cut_packed sift (take packed_width rest), is ∙ ap (λ (bs : List ℕ). bs ++ cut_packed sift (take packed_width rest)) h.front.1 ∙ append_assoc old h.front.0 (cut_packed sift (take packed_width rest)));
      }

  pub sifted-skip : passes_packed sift (take packed_width rest) ≡ false → HasSifted sift bytes (drop packed_width rest) old now count
  unfolding sifted
  sifted-skip e =
      let more = selected-more sift rest false enough e in
      record {
        kept = h.kept ∙ ap (λ (ps : List (List ℕ)). now ++ flat_map (cut_packed sift) ps) more;
        number = omega (arith, h.number, ap length more);
        is_whole = whole-later;
        most = omega (arith, h.most, length-drop packed_width rest);
        front = h.front;
      }

module _ (sift : Sift) (bytes rest old now : List ℕ) (count : ℕ) (h : HasSifted sift bytes rest old now count) (few : length rest < packed_width) where
  pub sifted-kept : now ≡ old ++ sifted sift bytes
  unfolding sifted
  sifted-kept =
      sym (h.kept ∙ ap (λ (ps : List (List ℕ)). now ++ flat_map (cut_packed sift) ps) (selected-none sift rest few) ∙ append-nil now)

  pub sifted-number : count ≡ length (selected sift bytes)
  sifted-number = omega (arith, h.number, ap length (selected-none sift rest few))

-- ---- points

module _ (each : EachPieceIsItsField) (p : Point) where
  parts-of_packed : map (λ (piece : Dimension × List ℕ). piece.1) (pieces 0 dimensions (packed p)) ≡ field_bytes p
  unfolding field_bytes
  parts-of_packed = ap (map (λ (piece : Dimension × List ℕ). piece.1)) (each p)

  part-of_packed : let field : ℕ → List ℕ = λ dim. get_or (field_bytes p) dim [] in part (packed p) ≡ field
  unfolding part
  part-of_packed = ap (λ (bs : List (List ℕ)). λ (dim : ℕ). get_or bs dim []) parts-of_packed

  class-of_packed : number_in (part (packed p) class_row) ≡ p.class
  unfolding field_bytes little_endian
  class-of_packed =
      let read : number_in (part (packed p) class_row) ≡ number_in (little_endian 1 p.class) = ap (λ (f : ℕ → List ℕ). number_in (f class_row)) part-of_packed in
      let low : number_in (little_endian 1 p.class) ≡ p.class = omega (arith, p.widths.class_fits) in
      read ∙ low

  time-of_packed : part (packed p) time_row ≡ p.gps
  unfolding field_bytes
  time-of_packed = ap (λ (f : ℕ → List ℕ). f time_row) part-of_packed

  pub passes-packed : (sift : Sift) → passes_packed sift (packed p) ≡ passes sift p
  unfolding passes_packed
  passes-packed sift =
      ap (λ (n : ℕ). admits_class sift.classes n && admits_time sift.time (part (packed p) time_row)) class-of_packed
      ∙ ap (λ (bs : List ℕ). admits_class sift.classes p.class && admits_time sift.time bs) time-of_packed

  pub cut-packed : (sift : Sift) → cut_packed sift (packed p) ≡ cut sift p
  unfolding cut_packed
  cut-packed sift = ap (λ (f : ℕ → List ℕ). flat_map f (asked_rows sift.dims)) part-of_packed

module _ (each : EachPieceIsItsField) (long : EachHasPackedLength) where
  pub selects_points : SelectsPoints
  selects_points sift [] = selected-none sift [] (omega arith)
  selects_points sift (p ∷ points) =
      let first : take packed_width (packed p ++ tile points) ≡ packed p = take_at (packed p) (tile points) packed_width (long p) in
      let later : drop packed_width (packed p ++ tile points) ≡ tile points = drop_at (packed p) (tile points) packed_width (long p) in
      let enough : packed_width ≤ length (packed p ++ tile points) = omega (arith, length-append (packed p) (tile points), long p) in
      let test : passes_packed sift (take packed_width (packed p ++ tile points)) ≡ passes sift p = ap (passes_packed sift) first ∙ passes-packed each p sift in
      selected-more sift (packed p ++ tile points) (passes sift p) enough test
      ∙ ap (λ (bs : List ℕ). cond (passes sift p) (bs ∷ selected sift (drop packed_width (packed p ++ tile points))) (selected sift (drop packed_width (packed p ++ tile points)))) first
      ∙ ap (λ (ps : List (List ℕ)). cond (passes sift p) (packed p ∷ ps) ps) (ap (selected sift) later ∙ selects_points sift points)
      ∙ join (passes sift p) (filter (passes sift) points)
    where
      join : (test : Bool) (ps : List Point) → cond test (packed p ∷ map packed ps) (map packed ps) ≡ map packed (cond test (p ∷ ps) ps)
      join true ps = refl
      join false ps = refl

  cuts-of : (sift : Sift) (ps : List Point) → flat_map (cut_packed sift) (map packed ps) ≡ flat_map (cut sift) ps
  cuts-of sift [] = refl
  cuts-of sift (p ∷ ps) =
      ap (λ (bs : List ℕ). bs ++ flat_map (cut_packed sift) (map packed ps)) (cut-packed each p sift) ∙ ap (λ (bs : List ℕ). cut sift p ++ bs) (cuts-of sift ps)

  pub sifts_points : SiftsPoints
  unfolding sifted
  sifts_points sift points = ap (flat_map (cut_packed sift)) (selects_points sift points) ∙ cuts-of sift (filter (passes sift) points)
