-- What was written so far of the tiles of a plan.
use Rattle.std.proofs.Common.{◌≡◌, ◌∙◌, ◌+◌, ◌-◌, ◌^◌, ◌<◌, ◌≤◌, ℕ, suc, min, List, [], ◌∷◌, ◌++◌, length, take, drop, refl, sym, ap, subst, arith, Option, Some, None, filter, length-append}
use Rattle.std.specs.List.{AllZip, flat_map}
use Rattle.std.specs.Io.KnownBytes.{Appends}
use Rattle.std.proofs.Math.Seq.{take-length, take-append-add, drop-cons}
use Rattle.std.proofs.lemmas.List.{take_more, take_all, take-append-drop, append-nil}
use Rattle.std.proofs.lemmas.List.Concat.{flat_map-append}
use Rattle.std.proofs.lemmas.List.Elements.{filter-append}
use Rattle.ept_base.specs.Devices.{AppendsPrefix}
use Rattle.ept_base.specs.Files.{Files, SameFiles, StepsBy, Tells}
use Rattle.ept_base.proofs.Runs.{appends_none, appends_both}
use Rattle.ept_point.specs.declared.point.Point.{Point}
use Rattle.ept_point.specs.Packed.{packed, tile}
use Rattle.ept_filter.specs.declared.sift.Sift.{Sift}
use Rattle.ept_filter.specs.Sifting.{passes, cut}
use Rattle.ept_space.specs.declared.box3.Box3.{Box3}
use Rattle.ept_space.specs.VoxelKey.{VoxelKey, root}
use Rattle.ept_hier.specs.Hierarchy.{Node}
use Rattle.ept_meta.specs.Output.{tile_name}
use Rattle.ept_query.specs.declared.query_error.QueryFile.{QueryFile}
use Rattle.ept_query.specs.declared.query_error.QueryFile.TheVariants.{BuildJson, Hierarchy, Tile}
use Rattle.ept_query.specs.declared.query_error.QueryError.{QueryError}
use Rattle.ept_query.specs.declared.query_error.QueryError.TheVariants.{NotComplete, StoreFault, Damaged, SinkFault, Memory}
use Rattle.ept_query.specs.Damage.{HasTile, HasNoTile}
use Rattle.ept_query.specs.Parts.{Plan, IsPart, IsPartOf, points_in, points_of, node_at}
use Rattle.ept_query.specs.Kept.{kept_bytes, kept_count}
use Rattle.ept_query.specs.Writing.{WritesTile, WritesSome, LeavesTile, WritesAll, WritesFront, WritesBefore, LeavesTiles}
use Rattle.ept_query.proofs.Told.{tells-from, told, told-back}

-- these tiles were read, what is kept of their parts was appended, and `count` is how many points that is
pub record AreWritten (sift : Option Sift) (files : Files) (area : Box3) (nodes : List Node) (old new : Option (List ℕ)) (count : ℕ) : Type 0 where
  pub parts : List (List Point)
  pub read : AllZip (IsPart files area) nodes parts
  pub written : Appends old new (kept_bytes sift (points_of parts))
  pub counted : count ≡ min (kept_count sift (points_of parts)) (2 ^ 64 - 1)

zip-push : {A B : Type 0} (R : A → B → Type 0) (xs : List A) (ys : List B) (x : A) (y : B) → AllZip R xs ys → R x y → AllZip R (xs ++ x ∷ []) (ys ++ y ∷ [])
zip-push R [] [] x y each one = (one, tt)
zip-push R [] (b ∷ ys) x y each one = absurd each
zip-push R (a ∷ xs) [] x y each one = absurd each
zip-push R (a ∷ xs) (b ∷ ys) x y each one = (each.0, zip-push R xs ys x y each.1 one)

points-more : (parts : List (List Point)) (part : List Point) → points_of (parts ++ part ∷ []) ≡ points_of parts ++ part
points-more parts part = flat_map-append (λ (p : List Point). p) parts (part ∷ []) ∙ ap (λ (w : List Point). points_of parts ++ w) (append-nil part)

pub kept-append : (sift : Option Sift) (one two : List Point) → kept_bytes sift (one ++ two) ≡ kept_bytes sift one ++ kept_bytes sift two
kept-append None one two = flat_map-append packed one two
kept-append (Some sift) one two =
    ap (flat_map (cut sift)) (filter-append (passes sift) one two) ∙ flat_map-append (cut sift) (filter (passes sift) one) (filter (passes sift) two)

count-append : (sift : Option Sift) (one two : List Point) → kept_count sift (one ++ two) ≡ kept_count sift one + kept_count sift two
count-append None one two = length-append one two
count-append (Some sift) one two =
    ap (λ (w : List Point). length w) (filter-append (passes sift) one two) ∙ length-append (filter (passes sift) one) (filter (passes sift) two)

none-bytes : (sift : Option Sift) → kept_bytes sift [] ≡ []
none-bytes None = refl
none-bytes (Some sift) = refl

none-count : (sift : Option Sift) → kept_count sift [] ≡ 0
none-count None = refl
none-count (Some sift) = refl

pub written-none : (sift : Option Sift) (files : Files) (area : Box3) (old : Option (List ℕ)) → AreWritten sift files area [] old old 0
written-none sift files area old = record {
  parts = [];
  read = tt;
  written = subst (λ (w : List ℕ). Appends old old w) (sym (none-bytes sift)) (appends_none old);
  counted = omega (arith, none-count sift);
}

pub written-more : (sift : Option Sift) (files : Files) (area : Box3) (nodes : List Node) (node : Node) (old mid new : Option (List ℕ)) (count n total : ℕ) → AreWritten sift files area nodes old mid count → WritesTile sift area node mid new n files → total ≡ min (count + n) (2 ^ 64 - 1) → AreWritten sift files area (nodes ++ node ∷ []) old new total
written-more sift files area nodes node old mid new count n total was one sum = record {
  parts = was.parts ++ one.part ∷ [];
  read = zip-push (IsPart files area) nodes was.parts node one.part was.read one.is_part;
  written = subst (λ (w : List ℕ). Appends old new w) (sym bytes) (appends_both old mid new (kept_bytes sift (points_of was.parts)) (kept_bytes sift one.part) was.written one.written);
  counted = (
      let a = was.counted in
      let b = one.counted in
      let c : kept_count sift (points_of (was.parts ++ one.part ∷ [])) ≡ kept_count sift (points_of was.parts) + kept_count sift one.part = ap (kept_count sift) (points-more was.parts one.part) ∙ count-append sift (points_of was.parts) one.part in
      omega (arith, a, b, c, sum));
}
  where
    bytes : kept_bytes sift (points_of (was.parts ++ one.part ∷ [])) ≡ kept_bytes sift (points_of was.parts) ++ kept_bytes sift one.part
    bytes = ap (kept_bytes sift) (points-more was.parts one.part) ∙ kept-append sift (points_of was.parts) one.part

-- ---- one tile

has-tile : (area : Box3) (node : Node) (bytes : List ℕ) (count : ℕ) (files : Option Files) (is : IsPartOf area node bytes count files) (all : Files) → files ≡ Some all → HasTile all node.0 node.1 is.points
has-tile area node bytes count files is all same = record {
  bytes = tile is.points;
  there = told (λ (f : Files). f (tile_name node.0) ≡ Some (tile is.points)) files all same is.there;
  form = record { packed = refl; ascend = is.ascend; counted = is.counted };
}

pub writes-some : (sift : Option Sift) (area : Box3) (node : Node) (bytes kept from : List ℕ) (count : ℕ) (files : Option Files) (old new : Option (List ℕ)) → IsPartOf area node bytes count files → ((points : List Point) → bytes ≡ tile points → kept ≡ kept_bytes sift points) → from ≡ kept → AppendsPrefix old new from → Tells (WritesSome sift area node old new) files
writes-some sift area node bytes kept from count files old new is trimmed same appended = tells-from (WritesSome sift area node old new) files (λ all at. record {
  part = points_in area is.points;
  is_part = record { points = is.points; has = has-tile area node bytes count files is all at; inside = refl };
  written = subst (λ (w : List ℕ). AppendsPrefix old new w) (same ∙ trimmed (points_in area is.points) is.bytes_are) appended;
})

pub writes-all : (sift : Option Sift) (area : Box3) (node : Node) (bytes kept from : List ℕ) (count number : ℕ) (files : Option Files) (old new : Option (List ℕ)) → IsPartOf area node bytes count files → ((points : List Point) → bytes ≡ tile points → kept ≡ kept_bytes sift points) → ((points : List Point) → bytes ≡ tile points → count ≡ length points → number ≡ kept_count sift points) → from ≡ kept → Appends old new from → Tells (WritesTile sift area node old new number) files
writes-all sift area node bytes kept from count number files old new is trimmed numbered same appended = tells-from (WritesTile sift area node old new number) files (λ all at. record {
  part = points_in area is.points;
  is_part = record { points = is.points; has = has-tile area node bytes count files is all at; inside = refl };
  written = subst (λ (w : List ℕ). Appends old new w) (same ∙ trimmed (points_in area is.points) is.bytes_are) appended;
  counted = numbered (points_in area is.points) is.bytes_are is.number_is;
})

-- ---- where the tiles end

node-next : (plan : Plan) (number : ℕ) → number < length plan.tiles → take (number + 1) plan.tiles ≡ take number plan.tiles ++ node_at plan number ∷ []
node-next plan number within = take_more plan.tiles number (root, 0) within

split-next : (plan : Plan) (number : ℕ) → number < length plan.tiles → plan.tiles ≡ take number plan.tiles ++ node_at plan number ∷ drop (suc number) plan.tiles
split-next plan number within =
    sym (take-append-drop number plan.tiles) ∙ ap (λ (w : List Node). take number plan.tiles ++ w) (drop-cons plan.tiles number (root, 0) within)

prefix-all : (old new : Option (List ℕ)) (bytes : List ℕ) → Appends old new bytes → AppendsPrefix old new bytes
prefix-all old new bytes appended = (length bytes, omega arith, subst (λ (w : List ℕ). Appends old new w) (sym (take-length bytes)) appended)

prefix-both : (a b c : Option (List ℕ)) (first second : List ℕ) → Appends a b first → AppendsPrefix b c second → AppendsPrefix a c (first ++ second)
prefix-both a b c first second one two = (
  length first + two.0,
  (let size = length-append first second in let short = two.1 in omega (arith, size, short)),
  subst (λ (w : List ℕ). Appends a c w) (sym (take-append-add first second two.0)) (appends_both a b c first (take two.0 second) one two.2),
)

has-tile-back : (node : Node) (points : List Point) (old new : Files) → SameFiles old new → HasTile new node.0 node.1 points → HasTile old node.0 node.1 points
has-tile-back node points old new same has = record { bytes = has.bytes; there = sym (same (tile_name node.0)) ∙ has.there; form = has.form }

pub part-back : (area : Box3) (node : Node) (part : List Point) (old new : Files) → SameFiles old new → IsPart new area node part → IsPart old area node part
part-back area node part old new same is = record { points = is.points; has = has-tile-back node is.points old new same is.has; inside = is.inside }

some-back : (sift : Option Sift) (area : Box3) (node : Node) (before now : Option (List ℕ)) (old new : Files) → SameFiles old new → WritesSome sift area node before now new → WritesSome sift area node before now old
some-back sift area node before now old new same some = record { part = some.part; is_part = part-back area node some.part old new same some.is_part; written = some.written }

tile-back : (sift : Option Sift) (area : Box3) (node : Node) (before now : Option (List ℕ)) (count : ℕ) (old new : Files) → SameFiles old new → WritesTile sift area node before now count new → WritesTile sift area node before now count old
tile-back sift area node before now count old new same one = record { part = one.part; is_part = part-back area node one.part old new same one.is_part; written = one.written; counted = one.counted }

pub none-back : (node : Node) (old new : Files) → SameFiles old new → HasNoTile new node.0 node.1 → HasNoTile old node.0 node.1
none-back node old new same none = λ points has. none points (has-tile-back node points new old (λ name. sym (same name)) has)

module _ (sift : Option Sift) (plan : Plan) (number : ℕ) (within : number < length plan.tiles) (before now : Option Files) (steps : StepsBy SameFiles before now) (old mid : Option (List ℕ)) (total : ℕ) (was : (all : Files) → before ≡ Some all → AreWritten sift all plan.area (take number plan.tiles) old mid total) where
  -- one more tile was written
  pub tiles-more : (new : Option (List ℕ)) (count sum : ℕ) → Tells (WritesTile sift plan.area (node_at plan number) mid new count) now → sum ≡ min (total + count) (2 ^ 64 - 1) → (all : Files) → before ≡ Some all → AreWritten sift all plan.area (take (number + 1) plan.tiles) old new sum
  tiles-more new count sum one sums all is =
      subst (λ (w : List Node). AreWritten sift all plan.area w old new sum) (sym (node-next plan number within))
      (written-more sift all plan.area (take number plan.tiles) (node_at plan number) old mid new total count sum (was all is)
      (told-back (WritesTile sift plan.area (node_at plan number) mid new count) (tile-back sift plan.area (node_at plan number) mid new count) before now all is steps one) sums)

  stops : (new : Option (List ℕ)) → new ≡ mid → Tells (WritesFront sift plan old new) before
  stops new same = tells-from (WritesFront sift plan old new) before (λ all is. (
      let w = was all is in
      record {
        front = take number plan.tiles;
        back = drop number plan.tiles;
        split = sym (take-append-drop number plan.tiles);
        parts = w.parts;
        read = w.read;
        written = prefix-all old new (kept_bytes sift (points_of w.parts)) (subst (λ (o : Option (List ℕ)). Appends old o (kept_bytes sift (points_of w.parts))) (sym same) w.written);
      }))

  stops-within : (new : Option (List ℕ)) → Tells (WritesSome sift plan.area (node_at plan number) mid new) now → Tells (WritesFront sift plan old new) before
  stops-within new some = tells-from (WritesFront sift plan old new) before (λ all is. (
      let w = was all is in
      let one = told-back (WritesSome sift plan.area (node_at plan number) mid new) (some-back sift plan.area (node_at plan number) mid new) before now all is steps some in
      let bytes : kept_bytes sift (points_of (w.parts ++ one.part ∷ [])) ≡ kept_bytes sift (points_of w.parts) ++ kept_bytes sift one.part = ap (kept_bytes sift) (points-more w.parts one.part) ∙ kept-append sift (points_of w.parts) one.part in
      record {
        front = take (number + 1) plan.tiles;
        back = drop (number + 1) plan.tiles;
        split = sym (take-append-drop (number + 1) plan.tiles);
        parts = w.parts ++ one.part ∷ [];
        read = subst (λ (ns : List Node). AllZip (IsPart all plan.area) ns (w.parts ++ one.part ∷ [])) (sym (node-next plan number within)) (zip-push (IsPart all plan.area) (take number plan.tiles) w.parts (node_at plan number) one.part w.read one.is_part);
        written = subst (λ (b : List ℕ). AppendsPrefix old new b) (sym bytes) (prefix-both old mid new (kept_bytes sift (points_of w.parts)) (kept_bytes sift one.part) w.written one.written);
      }))

  stops-before : (new : Option (List ℕ)) (key : VoxelKey) → (node_at plan number).0 ≡ key → new ≡ mid → Tells (λ all. HasNoTile all (node_at plan number).0 (node_at plan number).1) now → Tells (WritesBefore sift plan key old new) before
  stops-before new key here same none = tells-from (WritesBefore sift plan key old new) before (λ all is. (
      let w = was all is in
      let node = node_at plan number in
      let damaged = told-back (λ (f : Files). HasNoTile f node.0 node.1) (none-back node) before now all is steps none in
      record {
        front = take number plan.tiles;
        count = node.1;
        back = drop (suc number) plan.tiles;
        split = split-next plan number within ∙ ap (λ (k : VoxelKey). let n : Node = (k, node.1) in take number plan.tiles ++ n ∷ drop (suc number) plan.tiles) here;
        damaged = subst (λ (k : VoxelKey). HasNoTile all k node.1) here damaged;
        parts = w.parts;
        read = w.read;
        written = subst (λ (o : Option (List ℕ)). Appends old o (kept_bytes sift (points_of w.parts))) (sym same) w.written;
      }))

  -- the next tile was refused
  pub leaves-tiles : (new : Option (List ℕ)) (error : QueryError) → LeavesTile sift plan.area (node_at plan number) now mid new error → LeavesTiles sift plan before old new error
  leaves-tiles new NotComplete left = absurd left
  leaves-tiles new StoreFault left = stops new left
  leaves-tiles new SinkFault left = stops-within new left
  leaves-tiles new Memory left = stops new left
  leaves-tiles new (Damaged BuildJson) left = let wrong = left.0 in absurd (cc)
  leaves-tiles new (Damaged (Hierarchy key)) left = let wrong = left.0 in absurd (cc)
  leaves-tiles new (Damaged (Tile key)) left = (let is = left.0 in let here : (node_at plan number).0 ≡ key = cc in stops-before new key here left.1 left.2)

-- at the end all tiles are written
pub tiles-all : (sift : Option Sift) (plan : Plan) (number total : ℕ) (files : Option Files) (old new : Option (List ℕ)) → length plan.tiles ≤ number → ((all : Files) → files ≡ Some all → AreWritten sift all plan.area (take number plan.tiles) old new total) → Tells (WritesAll sift plan old new total) files
tiles-all sift plan number total files old new end was = tells-from (WritesAll sift plan old new total) files (λ all is. (
    let w = was all is in
    let whole : take number plan.tiles ≡ plan.tiles = take_all number plan.tiles end in
    record {
      parts = w.parts;
      read = subst (λ (ns : List Node). AllZip (IsPart all plan.area) ns w.parts) whole w.read;
      written = w.written;
      counted = w.counted;
    }))

-- a tile that is reported as damaged is the one that was read
pub damaged-tile : (sift : Option Sift) (area : Box3) (node : Node) (files : Option Files) (old new : Option (List ℕ)) (error : QueryError) (key : VoxelKey) → LeavesTile sift area node files old new error → error ≡ Damaged (Tile key) → node.0 ≡ key
damaged-tile sift area node files old new NotComplete key left is = absurd left
damaged-tile sift area node files old new StoreFault key left is = absurd cc
damaged-tile sift area node files old new (Damaged file) key left is = one node.0 key (sym left.0 ∙ same (Tile key) is)
  where
    same : (other : QueryFile) → Damaged file ≡ Damaged other → file ≡ other
    same other is = cc

    one : (a b : VoxelKey) → Tile a ≡ Tile b → a ≡ b
    one a b is = cc
damaged-tile sift area node files old new SinkFault key left is = absurd cc
damaged-tile sift area node files old new Memory key left is = absurd cc
