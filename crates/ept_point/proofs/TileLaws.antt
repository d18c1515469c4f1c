-- How a tile of either layout is read, point after point, and that it reads in one way only.
use Rattle.std.proofs.Common.{◌≡◌, ◌≢◌, ℕ, ◌+◌, ◌-◌, ◌*◌, ◌/◌, ◌%◌, ◌<◌, ◌≤◌, List, [], ◌∷◌, ◌++◌, length, take, drop, refl, sym, ap, ◌∙◌, subst, arith, length-append, length-take, length-drop, take-append-drop, append_assoc, append-nil, Option, None, Some, Result, Ok, Err, inl, inr, Bool, false, IsTrue}
use Rattle.std.specs.Option.{IfSome}
use Rattle.std.specs.Result.{OnOk, OnErr, IfErr}
use Rattle.std.specs.List.{AllByRecursion}
use Rattle.std.proofs.lemmas.List.{nil_from_length, length_push}
use Rattle.std.proofs.lemmas.List.Concat.{flat_map-append}
use Rattle.std.proofs.lemmas.Bool.{false≢true, cases_lt}
use Rattle.ept_point.specs.declared.point.Point.{Point}
use Rattle.ept_point.specs.declared.id.PointId.{PointId}
use Rattle.ept_point.specs.declared.layout.Layout.{Layout}
use Rattle.ept_point.specs.declared.layout.Layout.TheVariants.{Old, New}
use Rattle.ept_point.specs.declared.tile.TileError.{TileError}
use Rattle.ept_point.specs.declared.tile.TileError.TheVariants.{Length, Field, Order, Memory}
use Rattle.ept_point.specs.Layout.{width_of, packed_in, tile_in, FitsIn, HasFieldAboveIn, IsPackedIn, IsTileIn}
use Rattle.ept_point.specs.Order.{id, IsBefore, IsAscending}
use Rattle.ept_point.specs.Tile.{HasFaultAt, IsOutOfOrder, ReadsIn, AppendsReading, IsPointFault}
use Rattle.ept_point.proofs.PackedLaws.{append_same}
use Rattle.ept_point.proofs.LayoutLaws.{length-packed_in, packed_in_one, within_bounds_in, packed_parts_in, tile_parts_in, is_tile}

-- numbers of bytes, in whole points of a layout
whole_points : (layout : Layout) (n k : ℕ) → n ≡ width_of layout * k → n % width_of layout ≡ 0
whole_points Old n k h = omega arith
whole_points New n k h = omega arith

none_left : (layout : Layout) (n k r : ℕ) → n ≡ width_of layout * k + r → n % width_of layout ≡ 0 → r < width_of layout → r ≡ 0
none_left Old n k r h whole short = omega arith
none_left New n k r h whole short = omega arith

no_more : (layout : Layout) (a b r : ℕ) → width_of layout * a + (width_of layout + r) ≡ width_of layout * b → b ≤ a → ⊥
no_more Old a b r h few = omega arith
no_more New a b r h few = omega arith

as_many : (layout : Layout) (a b : ℕ) → width_of layout * a ≡ width_of layout * b → a ≡ b
as_many Old a b h = omega arith
as_many New a b h = omega arith

-- the id of the last point
abbrev pub last_id : List Point → Option PointId
last_id [] = None
last_id (p ∷ []) = Some (id p)
last_id (p ∷ q ∷ points) = last_id (q ∷ points)

pub last_id_more : (points : List Point) (p : Point) → last_id (points ++ p ∷ []) ≡ Some (id p)
last_id_more [] p = refl
last_id_more (q ∷ []) p = refl
last_id_more (q ∷ r ∷ points) p = last_id_more (r ∷ points) p

-- an ascending list still ascends with one more point that comes after the last
pub ascends_more : (points : List Point) (p : Point) → IsAscending points → IfSome (last_id points) (λ a. IsBefore a (id p)) → IsAscending (points ++ p ∷ [])
ascends_more [] p h after = (tt, tt)
ascends_more (q ∷ []) p h after = (after, (tt, tt))
ascends_more (q ∷ r ∷ points) p h after = (h.0, ascends_more (r ∷ points) p h.1 after)

pub last_before : (points : List Point) (p : Point) → IsAscending (points ++ p ∷ []) → IfSome (last_id points) (λ a. IsBefore a (id p))
last_before [] p h = tt
last_before (q ∷ []) p h = h.0
last_before (q ∷ r ∷ points) p h = last_before (r ∷ points) p h.1

-- a prefix of an ascending list ascends
pub ascends_front : (front back : List Point) → IsAscending (front ++ back) → IsAscending front
ascends_front [] back h = tt
ascends_front (p ∷ []) back h = (tt, tt)
ascends_front (p ∷ q ∷ front) back h = (h.0, ascends_front (q ∷ front) back h.1)

-- the parts of a joined list that has a property, and one more point that has it
each_more : (P : Point → Type 0) (points : List Point) (p : Point) → AllByRecursion P points → P p → AllByRecursion P (points ++ p ∷ [])
each_more P [] p h has = (has, tt)
each_more P (q ∷ points) p h has = (h.0, each_more P points p h.1 has)

each_behind : (P : Point → Type 0) (front back : List Point) → AllByRecursion P (front ++ back) → AllByRecursion P back
each_behind P [] back h = h
each_behind P (p ∷ front) back h = each_behind P front back h.1

-- a test that failed says that the point does not come after the last
pub not_after : (last : Option PointId) (a b : PointId) (p : Point) (test : Bool) → last ≡ Some a → b ≡ id p → test ≡ false → (IsBefore a b → IsTrue test) → ¬ IfSome last (λ i. IsBefore i (id p))
not_after last a b p test e f failed holds h =
    let here : IsBefore a (id p) = subst (λ (o : Option PointId). IfSome o (λ i. IsBefore i (id p))) e h in
    let there : IsBefore a b = subst (λ (i : PointId). IsBefore a i) (sym f) here in
    false≢true (sym failed ∙ holds there)

pub some_width : (layout : Layout) → 0 < width_of layout
some_width Old = omega arith
some_width New = omega arith

pub one_fewer : (layout : Layout) (n : ℕ) → width_of layout ≤ n → (n - width_of layout) / width_of layout + 1 ≡ n / width_of layout
one_fewer Old n h = omega arith
one_fewer New n h = omega arith

-- room for the points of what is left, with one point fewer and one more in the list
fewer_left : (a b n m k l : ℕ) → a + 1 ≡ b → m ≡ n + 1 → l ≡ k → n + b ≤ k → m + a ≤ l
fewer_left a b n m k l fewer more same room = omega arith

pub room_after : (layout : Layout) (rest back : List ℕ) (width n m k l : ℕ) → width ≡ width_of layout → width ≤ length rest → back ≡ drop width rest → m ≡ n + 1 → l ≡ k → n + length rest / width_of layout ≤ k → m + length back / width_of layout ≤ l
room_after layout rest back width n m k l wide enough is more same room =
    let size : length back ≡ length rest - width_of layout = ap length is ∙ length-drop width rest ∙ ap (λ (w : ℕ). length rest - w) wide in
    fewer_left (length back / width_of layout) (length rest / width_of layout) n m k l
    (ap (λ (s : ℕ). s / width_of layout + 1) size ∙ one_fewer layout (length rest) (subst (λ (w : ℕ). w ≤ length rest) wide enough)) more same room

-- a tile has its points' length for each point
pub length-tile_in : (layout : Layout) (points : List Point) → length (tile_in layout points) ≡ width_of layout * length points
length-tile_in Old [] = refl
length-tile_in Old (p ∷ points) = omega (arith, length-append (packed_in Old p) (tile_in Old points), length-packed_in Old p, length-tile_in Old points)
length-tile_in New [] = refl
length-tile_in New (p ∷ points) = omega (arith, length-append (packed_in New p) (tile_in New points), length-packed_in New p, length-tile_in New points)

module _ (layout : Layout) where
  -- one more point
  tile_more : (points : List Point) (p : Point) → tile_in layout (points ++ p ∷ []) ≡ tile_in layout points ++ packed_in layout p
  tile_more points p = flat_map-append (packed_in layout) points (p ∷ []) ∙ ap (λ (t : List ℕ). tile_in layout points ++ t) (append-nil (packed_in layout p))

  -- what has been read so far
  pub record IsReadTo (bytes rest : List ℕ) (old new : List Point) (last : Option PointId) (at : ℕ) : Type 0 where
    pub points : List Point
    pub appended : new ≡ old ++ points
    pub parts : bytes ≡ tile_in layout points ++ rest
    pub fit : AllByRecursion (FitsIn layout) points
    pub ascends : IsAscending points
    pub is_last : last ≡ last_id points
    pub count : length points ≡ at

  pub read_none : (bytes : List ℕ) (old : List Point) → IsReadTo bytes bytes old old None 0
  read_none bytes old = record {
    points = [];
    appended = sym (append-nil old);
    parts = refl;
    fit = tt;
    ascends = tt;
    is_last = refl;
    count = refl;
  }

  pub read_more : (bytes rest : List ℕ) (old new : List Point) (last : Option PointId) (at : ℕ) (p : Point) → IsReadTo bytes rest old new last at → IsPackedIn layout (take (width_of layout) rest) p → IfSome last (λ a. IsBefore a (id p)) → IsReadTo bytes (drop (width_of layout) rest) old (new ++ p ∷ []) (Some (id p)) (at + 1)
  read_more bytes rest old new last at p r is after =
      let w = width_of layout in
      let piece = packed_parts_in layout (take w rest) p is in record {
        points = r.points ++ p ∷ [];
        appended = ap (λ (t : List Point). t ++ p ∷ []) r.appended ∙ append_assoc old r.points (p ∷ []);
        parts =
            r.parts
            ∙ ap (λ (t : List ℕ). tile_in layout r.points ++ t) (sym (take-append-drop w rest))
            ∙ sym (append_assoc (tile_in layout r.points) (take w rest) (drop w rest))
            ∙ ap (λ (t : List ℕ). (tile_in layout r.points ++ t) ++ drop w rest) piece.0
            ∙ ap (λ (t : List ℕ). t ++ drop w rest) (sym (tile_more r.points p));
        fit = each_more (FitsIn layout) r.points p r.fit piece.1;
        ascends = ascends_more r.points p r.ascends (subst (λ (o : Option PointId). IfSome o (λ a. IsBefore a (id p))) r.is_last after);
        is_last = sym (last_id_more r.points p);
        count = omega (arith, length_push r.points p, r.count);
      }

  -- the same of parts that are cut off by a width that is the layout's
  pub read_on : (bytes rest front back : List ℕ) (old new more : List Point) (last : Option PointId) (at width : ℕ) (p : Point) (a : PointId) → width ≡ width_of layout → front ≡ take width rest → back ≡ drop width rest → more ≡ new ++ p ∷ [] → a ≡ id p → IsReadTo bytes rest old new last at → IsPackedIn layout front p → IfSome last (λ b. IsBefore b (id p)) → IsReadTo bytes back old more (Some a) (at + 1)
  read_on bytes rest front back old new more last at width p a wide front_is back_is more_is a_is r is after =
      let w = width_of layout in
      let cut : front ≡ take w rest = front_is ∙ ap (λ (n : ℕ). take n rest) wide in
      let left : drop w rest ≡ back = ap (λ (n : ℕ). drop n rest) (sym wide) ∙ sym back_is in
      let next = read_more bytes rest old new last at p r (subst (λ (t : List ℕ). IsPackedIn layout t p) cut is) after in
      subst (λ (t : List ℕ). IsReadTo bytes t old more (Some a) (at + 1)) left
      (subst (λ (ps : List Point). IsReadTo bytes (drop w rest) old ps (Some a) (at + 1)) (sym more_is)
      (subst (λ (i : PointId). IsReadTo bytes (drop w rest) old (new ++ p ∷ []) (Some i) (at + 1)) (sym a_is) next))

  -- the bytes are as long as the points that were read and what is left
  lengths : (bytes rest : List ℕ) (old new : List Point) (last : Option PointId) (at : ℕ) (r : IsReadTo bytes rest old new last at) → length bytes ≡ width_of layout * length r.points + length rest
  lengths bytes rest old new last at r = rw (r.parts, length-append (tile_in layout r.points) rest, length-tile_in layout r.points) refl

  -- if too few bytes are left for a point, there are no bytes left
  pub read_all : (bytes rest : List ℕ) (old new : List Point) (last : Option PointId) (at : ℕ) → IsReadTo bytes rest old new last at → length bytes % width_of layout ≡ 0 → length rest < width_of layout → (points : List Point) × ReadsIn layout bytes (Ok points) × (new ≡ old ++ points)
  read_all bytes rest old new last at r whole short =
      let none : length rest ≡ 0 = none_left layout (length bytes) (length r.points) (length rest) (lengths bytes rest old new last at r) whole short in
      let bytes_are : bytes ≡ tile_in layout r.points = r.parts ∙ ap (λ (t : List ℕ). tile_in layout r.points ++ t) (nil_from_length rest none) ∙ append-nil (tile_in layout r.points) in
      (r.points, (is_tile layout bytes r.points bytes_are r.fit, r.ascends), r.appended)

  -- a fault at the point after those that were read
  fault_after : (bytes rest : List ℕ) (old new : List Point) (last : Option PointId) (at : ℕ) (IsFaulty : List Point → List ℕ → Type 0) → (r : IsReadTo bytes rest old new last at) → length bytes % width_of layout ≡ 0 → width_of layout ≤ length rest → IsFaulty r.points (take (width_of layout) rest) → HasFaultAt layout bytes at IsFaulty
  fault_after bytes rest old new last at IsFaulty r whole enough faulty = record {
    before = r.points;
    front = tile_in layout r.points;
    piece = take (width_of layout) rest;
    rest = drop (width_of layout) rest;
    is_whole = whole;
    parts = r.parts ∙ ap (λ (t : List ℕ). tile_in layout r.points ++ t) (sym (take-append-drop (width_of layout) rest));
    is_front = is_tile layout (tile_in layout r.points) r.points refl r.fit;
    place = r.count;
    ascends = r.ascends;
    piece_length = omega (arith, length-take (width_of layout) rest);
    is_faulty = faulty;
  }

  pub point_fault : (bytes rest : List ℕ) (old new : List Point) (last : Option PointId) (at : ℕ) (e : TileError) → IsReadTo bytes rest old new last at → length bytes % width_of layout ≡ 0 → width_of layout ≤ length rest → IsPointFault layout (take (width_of layout) rest) last at e → ReadsIn layout bytes (Err e)
  point_fault bytes rest old new last at Length r whole enough f = absurd f
  point_fault bytes rest old new last at Memory r whole enough f = absurd f
  point_fault bytes rest old new last at (Field k) r whole enough f =
      subst (λ (n : ℕ). ReadsIn layout bytes (Err (Field n))) (sym f.0) (fault_after bytes rest old new last at (λ before piece. HasFieldAboveIn layout piece) r whole enough f.1)
  point_fault bytes rest old new last at (Order k) r whole enough f =
      subst (λ (n : ℕ). ReadsIn layout bytes (Err (Order n))) (sym f.0) (fault_after bytes rest old new last at (IsOutOfOrder layout) r whole enough (f.1.0, f.1.1, not_in_order)) where
        not_in_order : ¬ IsAscending (r.points ++ f.1.0 ∷ [])
        not_in_order ascends = f.1.2 (subst (λ (o : Option PointId). IfSome o (λ a. IsBefore a (id f.1.0))) (sym r.is_last) (last_before r.points f.1.0 ascends))

  -- the same of the parts as they are cut off
  pub fault_on : (bytes rest front : List ℕ) (old new : List Point) (last : Option PointId) (at width : ℕ) (e : TileError) → width ≡ width_of layout → front ≡ take width rest → width ≤ length rest → IsReadTo bytes rest old new last at → length bytes % width_of layout ≡ 0 → IsPointFault layout front last at e → ReadsIn layout bytes (Err e)
  fault_on bytes rest front old new last at width e wide front_is enough r whole f =
      point_fault bytes rest old new last at e r whole (subst (λ (w : ℕ). w ≤ length rest) wide enough)
      (subst (λ (t : List ℕ). IsPointFault layout t last at e) (front_is ∙ ap (λ (n : ℕ). take n rest) wide) f)

  -- if two tiles are prefixes of the same bytes, the shorter one is a prefix of the longer one
  tile_front : (a b : List Point) (x y : List ℕ) → AllByRecursion (FitsIn layout) a → AllByRecursion (FitsIn layout) b → tile_in layout a ++ x ≡ tile_in layout b ++ y → length a ≤ length b → (c : List Point) × (b ≡ a ++ c) × (x ≡ tile_in layout c ++ y)
  tile_front [] b x y fit_a fit_b e h = (b, refl, e)
  tile_front (p ∷ a) [] x y fit_a fit_b e h = absurd (omega arith)
  tile_front (p ∷ a) (q ∷ b) x y fit_a fit_b e h =
      let parts = append_same (packed_in layout p) (packed_in layout q) (tile_in layout a ++ x) (tile_in layout b ++ y) (length-packed_in layout p ∙ sym (length-packed_in layout q)) (sym (append_assoc (packed_in layout p) (tile_in layout a) x) ∙ e ∙ append_assoc (packed_in layout q) (tile_in layout b) y) in
      let rest = tile_front a b x y fit_a.1 fit_b.1 parts.1 (omega arith) in
      (rest.0, cc (packed_in_one layout p q fit_a.0 fit_b.0 parts.0, rest.1), rest.2)

  -- what can't be said of a point that is in an ascending tile
  abbrev IsNoFault : (List Point → List ℕ → Type 0) → Type 0
  IsNoFault IsFaulty = (before later : List Point) (piece : List ℕ) (p : Point) → piece ≡ packed_in layout p → FitsIn layout p → IsAscending (before ++ p ∷ later) → IsFaulty before piece → ⊥

  abbrev IsFieldFault : List Point → List ℕ → Type 0
  IsFieldFault before piece = HasFieldAboveIn layout piece

  no_field_fault : IsNoFault IsFieldFault
  no_field_fault before later piece p same fits ascends faulty =
      within_bounds_in layout p fits (subst (λ (b : List ℕ). HasFieldAboveIn layout b) same faulty)

  no_order_fault : IsNoFault (IsOutOfOrder layout)
  no_order_fault before later piece p same fits ascends faulty =
      let other = packed_parts_in layout piece faulty.0 faulty.1 in
      let one : faulty.0 ≡ p = packed_in_one layout faulty.0 p other.1 fits (sym other.0 ∙ same) in
      let front : IsAscending (before ++ p ∷ []) = ascends_front (before ++ p ∷ []) later (subst IsAscending (sym (append_assoc before (p ∷ []) later)) ascends) in
      faulty.2 (subst (λ (q : Point). IsAscending (before ++ q ∷ [])) (sym one) front)

  -- the bytes before a fault are those of points that fit
  front_of : (bytes : List ℕ) (at : ℕ) (IsFaulty : List Point → List ℕ → Type 0) (f : HasFaultAt layout bytes at IsFaulty) → (bytes ≡ tile_in layout f.before ++ (f.piece ++ f.rest)) × AllByRecursion (FitsIn layout) f.before
  front_of bytes at IsFaulty f =
      let tile_is = tile_parts_in layout f.front f.before f.is_front in
      (f.parts ∙ ap (λ (t : List ℕ). t ++ (f.piece ++ f.rest)) tile_is.0, tile_is.1)

  -- a point at the place of a fault, in a tile that is a prefix of the bytes
  point_at_fault : (bytes : List ℕ) (at : ℕ) (IsFaulty : List Point → List ℕ → Type 0) → IsNoFault IsFaulty → HasFaultAt layout bytes at IsFaulty → (b : List Point) (y : List ℕ) → bytes ≡ tile_in layout b ++ y → AllByRecursion (FitsIn layout) b → IsAscending b → length b ≤ at
  point_at_fault bytes at IsFaulty none f b y e fit ascends =
      elim (cases_lt at (length b)) [
        | inr h ↦ h
        | inl h ↦
            let begins = front_of bytes at IsFaulty f in
            let front = tile_front f.before b (f.piece ++ f.rest) y begins.1 fit (sym begins.0 ∙ e) (omega (arith, f.place)) in
            absurd (stands f.before front.0 f.piece f.rest y front.1 front.2 (omega (arith, f.place, ap length front.1, length-append f.before front.0)) f.piece_length f.is_faulty)
      ] where
        stands : (before c : List Point) (piece rest z : List ℕ) → b ≡ before ++ c → piece ++ rest ≡ tile_in layout c ++ z → 0 < length c → length piece ≡ width_of layout → IsFaulty before piece → ⊥
        stands before [] piece rest z eb ep some len faulty = omega arith
        stands before (p ∷ c) piece rest z eb ep some len faulty =
            let parts = append_same piece (packed_in layout p) rest (tile_in layout c ++ z) (len ∙ sym (length-packed_in layout p)) (ep ∙ append_assoc (packed_in layout p) (tile_in layout c) z) in
            let fits = each_behind (FitsIn layout) before (p ∷ c) (subst (AllByRecursion (FitsIn layout)) eb fit) in
            none before c piece p parts.0 fits.0 (subst IsAscending eb ascends) faulty

  -- no tile has a fault
  tile_has_none : (bytes : List ℕ) (at : ℕ) (IsFaulty : List Point → List ℕ → Type 0) → IsNoFault IsFaulty → HasFaultAt layout bytes at IsFaulty → (points : List Point) → ReadsIn layout bytes (Ok points) → ⊥
  tile_has_none bytes at IsFaulty none f points r =
      let tile_is = tile_parts_in layout bytes points r.0 in
      let begins = front_of bytes at IsFaulty f in
      let short = point_at_fault bytes at IsFaulty none f points [] (tile_is.0 ∙ sym (append-nil (tile_in layout points))) tile_is.1 r.1 in
      let len : length (tile_in layout f.before ++ (f.piece ++ f.rest)) ≡ length (tile_in layout points) = ap length (sym begins.0 ∙ tile_is.0) in
      let sum : width_of layout * length f.before + (width_of layout + length f.rest) ≡ width_of layout * length points =
      omega (arith, len, length-tile_in layout points, length-tile_in layout f.before, f.piece_length, length-append (tile_in layout f.before) (f.piece ++ f.rest), length-append f.piece f.rest) in
      no_more layout (length f.before) (length points) (length f.rest) sum (omega (arith, short, f.place))

  -- two first faults are at the same place
  same_place : (bytes : List ℕ) (j k : ℕ) (F G : List Point → List ℕ → Type 0) → IsNoFault F → IsNoFault G → HasFaultAt layout bytes j F → HasFaultAt layout bytes k G → j ≡ k
  same_place bytes j k F G no_f no_g f g =
      let before_f = front_of bytes j F f in
      let before_g = front_of bytes k G g in
      let one = point_at_fault bytes j F no_f f g.before (g.piece ++ g.rest) before_g.0 before_g.1 g.ascends in
      let other = point_at_fault bytes k G no_g g f.before (f.piece ++ f.rest) before_f.0 before_f.1 f.ascends in
      omega (arith, one, other, f.place, g.place)

  -- and of the same bytes
  same_piece : (bytes : List ℕ) (k : ℕ) (F G : List Point → List ℕ → Type 0) (f : HasFaultAt layout bytes k F) (g : HasFaultAt layout bytes k G) → f.piece ≡ g.piece
  same_piece bytes k F G f g =
      let before_f = front_of bytes k F f in
      let before_g = front_of bytes k G g in
      let front = tile_front f.before g.before (f.piece ++ f.rest) (g.piece ++ g.rest) before_f.1 before_g.1 (sym before_f.0 ∙ before_g.0) (omega (arith, f.place, g.place)) in
      let none : length front.0 ≡ 0 = omega (arith, f.place, g.place, ap length front.1, length-append f.before front.0) in
      let same : f.piece ++ f.rest ≡ g.piece ++ g.rest = front.2 ∙ ap (λ (c : List Point). tile_in layout c ++ (g.piece ++ g.rest)) (nil_from_length front.0 none) in
      (append_same f.piece g.piece f.rest g.rest (f.piece_length ∙ sym g.piece_length) same).0

  not_both : (bytes : List ℕ) (k : ℕ) → HasFaultAt layout bytes k IsFieldFault → HasFaultAt layout bytes k (IsOutOfOrder layout) → ⊥
  not_both bytes k f g =
      let same = same_piece bytes k IsFieldFault (IsOutOfOrder layout) f g in
      let of_point = packed_parts_in layout g.piece g.is_faulty.0 g.is_faulty.1 in
      within_bounds_in layout g.is_faulty.0 of_point.1 (subst (λ (b : List ℕ). HasFieldAboveIn layout b) (same ∙ of_point.0) f.is_faulty)

  same_tile : (a b : List Point) → AllByRecursion (FitsIn layout) a → AllByRecursion (FitsIn layout) b → tile_in layout a ≡ tile_in layout b → a ≡ b
  same_tile a b fit_a fit_b e =
      let len : length a ≡ length b = as_many layout (length a) (length b) (sym (length-tile_in layout a) ∙ ap length e ∙ length-tile_in layout b) in
      let front = tile_front a b [] [] fit_a fit_b (append-nil (tile_in layout a) ∙ e ∙ sym (append-nil (tile_in layout b))) (omega (arith, len)) in
      let none : length front.0 ≡ 0 = omega (arith, len, ap length front.1, length-append a front.0) in
      sym (front.1 ∙ ap (λ (c : List Point). a ++ c) (nil_from_length front.0 none) ∙ append-nil a)

  -- two tiles of the same bytes are the same
  same_reading : (bytes : List ℕ) (a b : List Point) → IsTileIn layout bytes a → IsTileIn layout bytes b → a ≡ b
  same_reading bytes a b is_a is_b =
      let of_a = tile_parts_in layout bytes a is_a in
      let of_b = tile_parts_in layout bytes b is_b in
      same_tile a b of_a.1 of_b.1 (sym of_a.0 ∙ of_b.0)

  is_whole : (bytes : List ℕ) (a : List Point) → IsTileIn layout bytes a → length bytes % width_of layout ≡ 0
  is_whole bytes a is = whole_points layout (length bytes) (length a) (ap length (tile_parts_in layout bytes a is).0 ∙ length-tile_in layout a)

  -- bytes read in one way only
  pub reads_once : (bytes : List ℕ) (r s : Result (List Point) TileError) → ReadsIn layout bytes r → ReadsIn layout bytes s → r ≡ s
  reads_once bytes (Ok a) (Ok b) h g = ap (λ (points : List Point). Ok points) (same_reading bytes a b h.0 g.0)
  reads_once bytes (Ok a) (Err Length) h g = absurd (g (is_whole bytes a h.0))
  reads_once bytes (Ok a) (Err (Field k)) h g = absurd (tile_has_none bytes k IsFieldFault no_field_fault g a h)
  reads_once bytes (Ok a) (Err (Order k)) h g = absurd (tile_has_none bytes k (IsOutOfOrder layout) no_order_fault g a h)
  reads_once bytes (Ok a) (Err Memory) h g = absurd g
  reads_once bytes (Err Length) (Ok b) h g = absurd (h (is_whole bytes b g.0))
  reads_once bytes (Err Length) (Err Length) h g = refl
  reads_once bytes (Err Length) (Err (Field k)) h g = absurd (h g.is_whole)
  reads_once bytes (Err Length) (Err (Order k)) h g = absurd (h g.is_whole)
  reads_once bytes (Err Length) (Err Memory) h g = absurd g
  reads_once bytes (Err (Field j)) (Ok b) h g = absurd (tile_has_none bytes j IsFieldFault no_field_fault h b g)
  reads_once bytes (Err (Field j)) (Err Length) h g = absurd (g h.is_whole)
  reads_once bytes (Err (Field j)) (Err (Field k)) h g =
      ap (λ (n : ℕ). Err (Field n)) (same_place bytes j k IsFieldFault IsFieldFault no_field_fault no_field_fault h g)
  reads_once bytes (Err (Field j)) (Err (Order k)) h g =
      let place = same_place bytes j k IsFieldFault (IsOutOfOrder layout) no_field_fault no_order_fault h g in
      absurd (not_both bytes k (subst (λ (n : ℕ). HasFaultAt layout bytes n IsFieldFault) place h) g)
  reads_once bytes (Err (Field j)) (Err Memory) h g = absurd g
  reads_once bytes (Err (Order j)) (Ok b) h g = absurd (tile_has_none bytes j (IsOutOfOrder layout) no_order_fault h b g)
  reads_once bytes (Err (Order j)) (Err Length) h g = absurd (g h.is_whole)
  reads_once bytes (Err (Order j)) (Err (Field k)) h g =
      let place = same_place bytes j k (IsOutOfOrder layout) IsFieldFault no_order_fault no_field_fault h g in
      absurd (not_both bytes k g (subst (λ (n : ℕ). HasFaultAt layout bytes n (IsOutOfOrder layout)) place h))
  reads_once bytes (Err (Order j)) (Err (Order k)) h g =
      ap (λ (n : ℕ). Err (Order n)) (same_place bytes j k (IsOutOfOrder layout) (IsOutOfOrder layout) no_order_fault no_order_fault h g)
  reads_once bytes (Err (Order j)) (Err Memory) h g = absurd g
  reads_once bytes (Err Memory) s h g = absurd h

  -- a result that is a reading is that of any reading
  pub appends_reading : (bytes : List ℕ) (result : Result (Unit {0}) TileError) (old new : List Point) → OnOk result ((points : List Point) × ReadsIn layout bytes (Ok points) × (new ≡ old ++ points)) → IfErr result (λ e. e ≢ Memory → ReadsIn layout bytes (Err e)) → OnErr result (new ≡ old) → (reading : Result (List Point) TileError) → ReadsIn layout bytes reading → AppendsReading result old new reading
  appends_reading bytes (Ok done) old new ok fault err reading h = (ok.0, reads_once bytes reading (Ok ok.0) h ok.1, ok.2)
  appends_reading bytes (Err Length) old new ok fault err reading h = (reads_once bytes reading (Err Length) h (fault (λ e. cc)), err)
  appends_reading bytes (Err (Field k)) old new ok fault err reading h = (reads_once bytes reading (Err (Field k)) h (fault (λ e. cc)), err)
  appends_reading bytes (Err (Order k)) old new ok fault err reading h = (reads_once bytes reading (Err (Order k)) h (fault (λ e. cc)), err)
  appends_reading bytes (Err Memory) old new ok fault err reading h = err
