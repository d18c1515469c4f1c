-- The octree and the reader are a valid ghost input of the table.
use Rattle.std.proofs.Common.{◌≡◌, ◌∙◌, ℕ, ◌+◌, ◌-◌, ◌<◌, true, List, [], ◌∷◌, ◌++◌, map, length, take, drop, refl, sym, ap, subst, arith, Option, Some, None, Contains, flat_map, sum_by, length-append, length-drop}
use Rattle.std.specs.List.{All, AllZip}
use Rattle.std.proofs.lemmas.List.Elements.{All-nil, All-cons, All-head, All-tail}
use Rattle.std.proofs.Math.Seq.{drop-append_seam, take-append_seam}
use Rattle.std.proofs.lemmas.List.Sums.{sum_by-cons}
use Rattle.ept_point.specs.declared.point.Point.{Point}
use Rattle.ept_space.specs.VoxelKey.{VoxelKey, root}
use Rattle.ept_space.specs.OctreeCube.{InCube}
use Rattle.ept_sample.specs.Place.{place}
use Rattle.ept_sample.specs.Members.{IsMember}
use Rattle.ept_sample.proofs.Members.{member-map, IsMember-map, contains-IsMember, IsMember-contains}
use Rattle.ept_sample.specs.SamplingLaws.{CanBeSampled}
use Rattle.ept_scan.specs.declared.part.Part.{Part}
use Rattle.ept_scan.specs.declared.read_error.ReadError.TheVariants.{SourceChanged}
use Rattle.ept_scan.specs.declared.second_reading.Reader.{Reader}
use Rattle.ept_scan.specs.Queue.{Held, HoldsPoints, LiesIn, held}
use Rattle.ept_scan.specs.Scans.{in_order}
use Rattle.ept_scan.specs.Reader.{drawn_of, left_of, refusal_of, files_of, IsRest, IsReader}
use Rattle.ept_forest.specs.Slots as forest
use Rattle.ept_table.specs.declared.note.Counted.{Counted}
use Rattle.ept_table.specs.declared.note.Told.{Told}
use Rattle.ept_table.specs.declared.taken.Taken.TheVariants as taken
use Rattle.ept_table.specs.At.{At}
use Rattle.ept_table.specs.Item.{counted, IsFiledNode}
use Rattle.ept_node.specs.declared.node.Node.{Node}
use Rattle.ept_node.specs.declared.error.NodeError.TheVariants.{SpillDamaged, Memory}
use Rattle.ept_node.specs.Shown.{file_of, fault_of, AgreesWithFile, DoesTell}
use Rattle.ept_table.specs.Scanned.{told_of}
use Rattle.ept_table.specs.Shown.{LiesInInput}
use Rattle.ept_table.specs.Octree.{key_in, FillSlots, AreSampled}
use Rattle.ept_table.proofs.Lists.{at-below, at-zero, flat-at}
use Rattle.ept_octree.specs.declared.octree.Octree.{Octree}
use Rattle.ept_octree.specs.Octree.{forest_of, rules_of, most_of, cache_of, nodes_of, points_of, begun_of, IsWhole, IsLinked, IsUnbroken, AgreesWithFiles}
use Rattle.ept_octree.specs.Index.{taken_in}
use Rattle.ept_octree.proofs.Alike.{told-index}
use Rattle.ept_octree.proofs.Rested.{never-blank, index-fills}
use Rattle.ept_insert.specs.Inserting.{MayInsert}
use Rattle.ept_insert.proofs.Choosing.{tells, points, telling}

-- ---- where points lie

-- a point of a counted file lies in the file
pub lies-in : (files : List Held) (p : Point) → LiesInInput (map counted files) p → LiesIn files p
lies-in files p lies =
    let found = member-map counted lies.input files lies.among in
    record {
      held = found.0;
      among = IsMember-contains_as found.0 files found.1;
      origin = lies.origin ∙ sym (ap (λ (c : Counted). c.origin) found.2);
      extent = lies.extent;
      kept = ap (λ (c : Counted). c.limits) found.2 ∙ lies.limits;
      within = lies.within;
    }
  where
    IsMember-contains_as : (x : Held) (xs : List Held) → IsMember x xs → Contains xs x
    IsMember-contains_as x xs m = contains-IsMember x xs m

pub lies-in_input : (files : List Held) (p : Point) → LiesIn files p → LiesInInput (map counted files) p
lies-in_input files p lies = record {
  input = counted lies.held;
  among = IsMember-map counted lies.held files (IsMember-contains lies.held files lies.among);
  origin = lies.origin;
  extent = lies.extent;
  limits = lies.kept;
  within = lies.within;
}

-- ---- how many points are left

module _ {S : Type 0} (whole : S → Option (List ℕ)) where
  points_ahead : (parts : List (Part S)) (lists : List (List Point)) → AllZip HoldsPoints (map (held whole) parts) lists → length (in_order lists) ≡ sum_by (λ (part : Part S). part.points) parts
  points_ahead [] [] hold = refl
  points_ahead [] (l ∷ lists) hold = absurd hold
  points_ahead (part ∷ parts) [] hold = absurd hold
  points_ahead (part ∷ parts) (l ∷ lists) hold =
      omega (arith, length-append l (in_order lists), hold.0.count, points_ahead parts lists hold.1, sum_by-cons (λ (p : Part S). p.points) part parts)

  -- the number of points that the reader has left
  pub left-number : (left : S → Option (List ℕ)) (given faults : S → ℕ) (reader : Reader S) (points : List Point) → IsReader whole left given faults reader → refusal_of reader ≡ None → IsRest whole reader points → length points ≡ left_of reader
  left-number left given faults reader points is sound rest =
      let all : length (in_order rest.lists) ≡ sum_by (λ (part : Part S). part.points) (drop reader.queue.at reader.queue.parts.items) = points_ahead (drop reader.queue.at reader.queue.parts.items) rest.lists rest.hold in
      let some : length points ≡ length (in_order rest.lists) - reader.queue.cursor.number = ap (λ (w : List Point). length w) rest.rest ∙ length-drop reader.queue.cursor.number (in_order rest.lists) in
      some ∙ ap (λ (n : ℕ). n - reader.queue.cursor.number) all ∙ is.counts sound

-- ---- the root is in the first slot

module _ {F : Type 0} (held : F → Option (List ℕ)) (octree : Octree F) where
  fills : FillSlots (most_of octree) (forest.used_of (forest_of octree)) (taken_in held (forest.nodes_of (forest_of octree)))
  fills = index-fills held (forest.nodes_of (forest_of octree)) taken.Blank never-blank (rules_of octree) (forest.used_of (forest_of octree)) octree.slots.entries (told-index held octree) (most_of octree) refl

  some-slots : 0 < most_of octree
  some-slots = omega (arith, at-below fills.top.1, fills.size)

  root-begun : At (begun_of held octree) 0 root
  root-begun =
      let items = taken_in held (forest.nodes_of (forest_of octree)) in
      subst (λ (keys : List VoxelKey). At keys 0 root) (sym (flat-at key_in fills.top.1)) (subst (λ (key : VoxelKey). At (key ∷ flat_map key_in (drop 2 items)) 0 root) (sym fills.top.2) (at-zero root (flat_map key_in (drop 2 items))))

-- ---- the ghost input of the table

module _ {F S : Type 0} (held : F → Option (List ℕ)) (node_faults keeps : F → ℕ) (whole left : S → Option (List ℕ)) (given faults : S → ℕ) (octree : Octree F) (reader : Reader S) (is : IsReader whole left given faults reader) (sound : refusal_of reader ≡ None) (inside : (p : Point) → LiesIn (files_of whole reader) p → InCube (rules_of octree).cube (place p)) (is_whole : IsWhole held octree) (is_linked : IsLinked held octree) (agrees : AgreesWithFiles held node_faults keeps octree) (unbroken : IsUnbroken octree) (number : length (points_of held octree) ≡ drawn_of reader) where
  abbrev told : Told
  told = told_of whole reader (rules_of octree) (most_of octree) (cache_of octree) (begun_of held octree) (tells held whole octree reader) (points held whole octree reader)

  behind : (ps qs xs : List Point) (n : ℕ) → xs ≡ ps ++ qs → length ps ≡ n → drop n xs ≡ qs
  behind ps qs xs n are long = ap (λ (k : ℕ). drop k xs) (sym long) ∙ ap (λ (w : List Point). drop (length ps) w) are ∙ drop-append_seam ps qs

  before : (ps qs xs : List Point) (n : ℕ) → xs ≡ ps ++ qs → length ps ≡ n → take n xs ≡ ps
  before ps qs xs n are long = ap (λ (k : ℕ). take k xs) (sym long) ∙ ap (λ (w : List Point). take (length ps) w) are ∙ take-append_seam ps qs

  never_refused : (source n : ℕ) → refusal_of reader ≡ Some (SourceChanged source n) → ⊥
  never_refused source n refused = none_some sound refused
    where
      none_some : refusal_of reader ≡ None → refusal_of reader ≡ Some (SourceChanged source n) → ⊥
      none_some e f = cc

  pub may-insert : MayInsert told held node_faults keeps whole left given faults octree reader
  may-insert = record {
    is_told = record {
      some = some-slots held octree;
      top = root-begun held octree;
      in_cube = λ p lies. inside p (lies-in (files_of whole reader) p lies);
    };
    rules = refl;
    most = refl;
    cache = refl;
    begun = refl;
    is_whole = is_whole;
    is_linked = is_linked;
    nodes = each_filed (forest.nodes_of (forest_of octree)) agrees unbroken (λ yes. (telling held whole octree reader yes).0.1.telling);
    unbroken = unbroken;
    filed = record {
      reader = is;
      rest = λ yes none. (
          let t = telling held whole octree reader yes in
          subst (λ (w : List Point). IsRest whole reader w) (sym (behind (points_of held octree) t.0.0 (points held whole octree reader) (drawn_of reader) t.1 number)) t.0.1.rest);
      no_change = λ yes source n refused. never_refused source n refused;
    };
    fits = record { inputs = refl; end = refl; total = refl };
    sound = sound;
    number = number;
    points = λ yes. (
        let t = telling held whole octree reader yes in
        (subst (CanBeSampled (rules_of octree)) (sym t.1) t.0.1.can, many t.0.0 t.1 t.0.1.rest));
    sampled = λ yes. (
        let t = telling held whole octree reader yes in
        subst (λ (w : List Point). AreSampled (rules_of octree) w (nodes_of held octree)) (sym (before (points_of held octree) t.0.0 (points held whole octree reader) (drawn_of reader) t.1 number)) t.0.1.sampled);
  }
    where
      filed_of : (n : Node F) → AgreesWithFile held node_faults keeps n → fault_of n ≡ None → (tells held whole octree reader ≡ true → DoesTell held (file_of n)) → IsFiledNode held node_faults keeps told n
      filed_of n agree none tell = record {
        agrees = agree;
        telling = tell;
        not_memory = λ broken. (let e : None ≡ Some Memory = sym none ∙ broken in cc);
        undamaged = λ yes kept found at broken. (let e : None ≡ Some (SpillDamaged kept found at) = sym none ∙ broken in cc);
      }

      each_filed : (ns : List (Node F)) → All (AgreesWithFile held node_faults keeps) ns → All (λ n. fault_of n ≡ None) ns → (tells held whole octree reader ≡ true → All (λ n. DoesTell held (file_of n)) ns) → All (IsFiledNode held node_faults keeps told) ns
      each_filed [] agree none tell = All-nil (IsFiledNode held node_faults keeps told)
      each_filed (n ∷ ns) agree none tell =
          All-cons (IsFiledNode held node_faults keeps told) n ns (filed_of n (All-head (AgreesWithFile held node_faults keeps) n ns agree) (All-head (λ n. fault_of n ≡ None) n ns none) (λ yes. All-head (λ n. DoesTell held (file_of n)) n ns (tell yes)))
          (each_filed ns (All-tail (AgreesWithFile held node_faults keeps) n ns agree) (All-tail (λ n. fault_of n ≡ None) n ns none) (λ yes. All-tail (λ n. DoesTell held (file_of n)) n ns (tell yes)))

      many : (rest : List Point) → points held whole octree reader ≡ points_of held octree ++ rest → IsRest whole reader rest → length (points held whole octree reader) ≡ drawn_of reader + left_of reader
      many rest are is_rest =
          let all : length (points held whole octree reader) ≡ length (points_of held octree ++ rest) = ap (λ (w : List Point). length w) are in
          omega (arith, all, length-append (points_of held octree) rest, number, left-number whole left given faults reader rest is sound is_rest)
