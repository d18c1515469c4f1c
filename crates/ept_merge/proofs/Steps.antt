-- The steps by which nodes are put: what is loaded, what changes, and what stays.
use Rattle.std.proofs.Common.{◌≡◌, ◌≢◌, ◌∙◌, inl, inr, ℕ, Bool, true, false, cond, List, [], ◌∷◌, ◌++◌, refl, sym, ap, subst, filter, length, Option, Some, None}
use Rattle.std.specs.Ordering.{is_lt}
use Rattle.std.specs.declared.cmp.Ordering.TheVariants.{Less}
use Rattle.std.proofs.lemmas.Bool.{false≢true}
use Rattle.ept_base.specs.Files.{Files, SameFiles, SameBut, Puts, Tells, StepsBy}
use Rattle.ept_base.specs.Moves.{Moves}
use Rattle.ept_base.proofs.Changing.{changed_same}
use Rattle.ept_base.proofs.Moving.{moves_weaker, moves_both}
use Rattle.ept_point.specs.declared.layout.Layout.TheVariants.{New}
use Rattle.ept_point.specs.declared.point.Point.{Point}
use Rattle.ept_point.specs.Packed.{tile}
use Rattle.ept_space.specs.declared.cube.Rules.{Rules}
use Rattle.ept_space.specs.VoxelKey.{VoxelKey, key_cmp}
use Rattle.ept_sample.specs.Members.{IsMember}
use Rattle.ept_sample.proofs.KeyOrder.{key_order}
use Rattle.ept_ckpt.specs.declared.letter.Letter.TheVariants.{A}
use Rattle.ept_ckpt.specs.declared.node_line.NodeLine.{NodeLine}
use Rattle.ept_save.specs.declared.error.SaveError.{SaveError}
use Rattle.ept_save.specs.Errors as save
use Rattle.ept_save.specs.Names.{work_tile_name}
use Rattle.ept_save.specs.Current.{Current, HasCurrent, Keeps}
use Rattle.ept_save.specs.Lines.{free_letter, is_before, with_line}
use Rattle.ept_save.specs.View.{View}
use Rattle.ept_save.specs.Loading.{IsDamagedUnder}
use Rattle.ept_part.specs.Names.{part_tile}
use Rattle.ept_part.proofs.PartNames.{tile-named, part-no_build}
use Rattle.ept_merge.specs.declared.joining.PartNode.{PartNode}
use Rattle.ept_merge.specs.Errors.{of_save, IsStores}
use Rattle.ept_merge.specs.Merging.{IsTileDamaged}
use Rattle.ept_merge.specs.Putting.{HasPartTile, Loads, merged_line, IsTaken, AreIntact, ChangesTiles}
use Rattle.ept_merge.proofs.Reading.{tells-more}

-- ---- a line after all others

not-before : (a b : VoxelKey) → key_cmp a b ≡ Less → is_before b a ≡ false
not-before a b less = by_test (is_before b a) refl
  where
    by_test : (t : Bool) → is_before b a ≡ t → is_before b a ≡ false
    by_test true e = absurd (false≢true (sym (key_order.none_itself a) ∙ key_order.goes_on a b a (ap is_lt less) e))
    by_test false e = e

abbrev pub AreBefore : VoxelKey → List NodeLine → Type 0
AreBefore key lines = (l : NodeLine) → IsMember l lines → key_cmp l.key key ≡ Less

lower-all : (key : VoxelKey) (lines : List NodeLine) → AreBefore key lines → filter (λ (l : NodeLine). is_before l.key key) lines ≡ lines
lower-all key [] low = refl
lower-all key (l ∷ lines) low =
    ap (λ (b : Bool). cond b (l ∷ filter (λ (x : NodeLine). is_before x.key key) lines) (filter (λ (x : NodeLine). is_before x.key key) lines)) (ap is_lt (low l (inl refl)))
    ∙ ap (λ (w : List NodeLine). l ∷ w) (lower-all key lines (λ x m. low x (inr m)))

upper-none : (key : VoxelKey) (lines : List NodeLine) → AreBefore key lines → filter (λ (l : NodeLine). is_before key l.key) lines ≡ []
upper-none key [] low = refl
upper-none key (l ∷ lines) low =
    ap (λ (b : Bool). cond b (l ∷ filter (λ (x : NodeLine). is_before key x.key) lines) (filter (λ (x : NodeLine). is_before key x.key) lines)) (not-before l.key key (low l (inl refl)))
    ∙ upper-none key lines (λ x m. low x (inr m))

pub with-last : (line : NodeLine) (lines : List NodeLine) → AreBefore line.key lines → with_line line lines ≡ lines ++ line ∷ []
with-last line lines low =
    ap (λ (w : List NodeLine). w ++ line ∷ filter (λ (l : NodeLine). is_before line.key l.key) lines) (lower-all line.key lines low)
    ∙ ap (λ (w : List NodeLine). lines ++ line ∷ w) (upper-none line.key lines low)

-- ---- names

-- a part's tile is none of a checkpoint's
pub part-no_work : (octants : ℕ) (key other : VoxelKey) → part_tile octants key ≢ work_tile_name A other
part-no_work octants key other same = part-no_build octants (part_tile octants key) (tile-named octants key) (inl (inr (inr (A, other, same))))

pub changes-same : (keys : List VoxelKey) (a b : Files) → SameFiles a b → ChangesTiles keys a b
changes-same keys a b same name none = same name

pub changes-tile : (keys : List VoxelKey) (key : VoxelKey) → IsMember key keys → (a b : Files) → SameBut (work_tile_name A key) a b → ChangesTiles keys a b
changes-tile keys key m a b same name none = same name (none key m)

pub changes-both : (keys : List VoxelKey) (a b c : Files) → ChangesTiles keys a b → ChangesTiles keys b c → ChangesTiles keys a c
changes-both keys a b c first second name none = second name none ∙ first name none

pub changes-more : (some all : List VoxelKey) → ((key : VoxelKey) → IsMember key some → IsMember key all) → (a b : Files) → ChangesTiles some a b → ChangesTiles all a b
changes-more some all among a b changes name none = changes name (λ key m. none key (among key m))

-- so the tiles of parts stay
pub part-stays : (keys : List VoxelKey) (a b : Files) → ChangesTiles keys a b → (octants : ℕ) (key : VoxelKey) → b (part_tile octants key) ≡ a (part_tile octants key)
part-stays keys a b changes octants key = changes (part_tile octants key) (λ other m. part-no_work octants key other)

damaged-stays : (rules : Rules) (name : List ℕ) (line : NodeLine) (a b : Files) → b name ≡ a name → IsDamagedUnder New rules name line b → IsDamagedUnder New rules name line a
damaged-stays rules name line a b same (inl none) = inl (sym same ∙ none)
damaged-stays rules name line a b same (inr (bytes, is, wrong)) = inr (bytes, sym same ∙ is, wrong)

pub tile-damage-stays : (rules : Rules) (keys : List VoxelKey) (a b : Files) → ChangesTiles keys a b → (node : PartNode) → IsTileDamaged rules b node.octants node.line → IsTileDamaged rules a node.octants node.line
tile-damage-stays rules keys a b changes node (inl damaged) = inl (damaged-stays rules (part_tile node.octants node.line.key) node.line a b (part-stays keys a b changes node.octants node.line.key) damaged)
tile-damage-stays rules keys a b changes node (inr (points, is, outside)) = inr (points, sym (part-stays keys a b changes node.octants node.line.key) ∙ is, outside)

-- and what was damaged is damaged
pub damaged-again : (rules : Rules) (keys : List VoxelKey) (a b : Files) → ChangesTiles keys a b → (node : PartNode) → IsTileDamaged rules a node.octants node.line → IsTileDamaged rules b node.octants node.line
damaged-again rules keys a b changes node (inl damaged) = inl (damaged-stays rules (part_tile node.octants node.line.key) node.line b a (sym (part-stays keys a b changes node.octants node.line.key)) damaged)
damaged-again rules keys a b changes node (inr (points, is, outside)) = inr (points, part-stays keys a b changes node.octants node.line.key ∙ is, outside)

-- ---- what stays of the checkpoint

pub keeps-same : (current : Current) (a b : Files) → SameFiles a b → Keeps current a b
keeps-same current a b same =
    let is : b ≡ a = λ i name. same name i in
    record {
      same = λ has. subst (λ (f : Files). HasCurrent current f) (sym is) has;
      tiles = λ name named. same name;
      apart = λ name not. same name;
    }

pub keeps-both : (current : Current) (a b c : Files) → Keeps current a b → Keeps current b c → Keeps current a c
keeps-both current a b c first second = record {
  same = λ has. second.same (first.same has);
  tiles = λ name named. second.tiles name named ∙ first.tiles name named;
  apart = λ name not. second.apart name not ∙ first.apart name not;
}

-- ---- a tile is put

pub put-told : (old new : Option Files) (name bytes : List ℕ) → StepsBy (Puts name bytes) old new → Tells (λ (all : Files). all name ≡ Some bytes) new
put-told None None name bytes puts = tt
put-told None (Some new) name bytes puts = absurd puts
put-told (Some old) None name bytes puts = absurd puts
put-told (Some old) (Some new) name bytes puts = puts name ∙ changed_same old name (Some bytes)

pub saved-stores : (e : SaveError) → save.IsStores e → IsStores (of_save e)
saved-stores e (inl is) = inl (ap of_save is)
saved-stores e (inr is) = inr (ap of_save is)

module _ {D : Type 0} (files : D → Option Files) (may_leave : D → Files → Type 0) (moment : D → ℕ) (image_since : D → ℕ → Files → Type 0) where
  abbrev Stays : (Files → Files → Type 0) → D → D → Type 0
  Stays step old new = Moves files may_leave moment image_since step old new

  pub reads-change : (keys : List VoxelKey) (old new : D) → Stays SameFiles old new → Stays (ChangesTiles keys) old new
  reads-change keys old new = moves_weaker files may_leave moment image_since SameFiles (ChangesTiles keys) (changes-same keys) old new

  pub tile-changes : (keys : List VoxelKey) (key : VoxelKey) → IsMember key keys → (old new : D) → Stays (SameBut (work_tile_name A key)) old new → Stays (ChangesTiles keys) old new
  tile-changes keys key m old new = moves_weaker files may_leave moment image_since (SameBut (work_tile_name A key)) (ChangesTiles keys) (changes-tile keys key m) old new

  pub change-both : (keys : List VoxelKey) (old mid new : D) → Stays (ChangesTiles keys) old mid → Stays (ChangesTiles keys) mid new → Stays (ChangesTiles keys) old new
  change-both keys old mid new = moves_both files may_leave moment image_since (ChangesTiles keys) (ChangesTiles keys) (ChangesTiles keys) (changes-both keys) (λ a b changes. changes) old mid new

  pub change-more : (some all : List VoxelKey) → ((key : VoxelKey) → IsMember key some → IsMember key all) → (old new : D) → Stays (ChangesTiles some) old new → Stays (ChangesTiles all) old new
  change-more some all among old new = moves_weaker files may_leave moment image_since (ChangesTiles some) (ChangesTiles all) (changes-more some all among) old new

  pub reads-keep : (current : Current) (old new : D) → Stays SameFiles old new → Stays (Keeps current) old new
  reads-keep current old new = moves_weaker files may_leave moment image_since SameFiles (Keeps current) (keeps-same current) old new

  pub keep-both : (current : Current) (old mid new : D) → Stays (Keeps current) old mid → Stays (Keeps current) mid new → Stays (Keeps current) old new
  keep-both current old mid new = moves_both files may_leave moment image_since (Keeps current) (Keeps current) (Keeps current) (keeps-both current) (λ a b keeps. keeps) old mid new

-- ---- a node is put

-- its line, once its points were loaded
pub node-line : (rules : Rules) (node : PartNode) (files : Option Files) (old points : List Point) (current : Current) (old_view new_view : View) → Loads rules node files old points → old ≡ [] → current ≡ None
    → new_view ≡ record old_view { lines = with_line (record { key = node.line.key; count = length points; mask = node.line.mask; letter = free_letter current node.line.key }) old_view.lines } → new_view ≡ record old_view { lines = with_line (merged_line node) old_view.lines }
node-line rules node files old points current old_view new_view loads empty none is =
    let all : points ≡ loads.points = loads.appended ∙ ap (λ (w : List Point). w ++ loads.points) empty in
    let count : length points ≡ node.line.count = ap length all ∙ loads.are.counted in
    let letter : free_letter current node.line.key ≡ A = ap (λ (c : Current). free_letter c node.line.key) none in
    is ∙ (λ i. record old_view { lines = with_line (record { key = node.line.key; count = count i; mask = node.line.mask; letter = letter i }) old_view.lines })

-- and its tile
pub node-taken : (rules : Rules) (node : PartNode) (start : Files) (before after : Option Files) (old points : List Point) → Loads rules node before old points → old ≡ [] → before ≡ Some start
    → Tells (λ (f : Files). f (work_tile_name A node.line.key) ≡ Some (tile points)) after → Tells (λ f. IsTaken start f node) after
node-taken rules node start before after old points loads empty told there =
    let all : points ≡ loads.points = loads.appended ∙ ap (λ (w : List Point). w ++ loads.points) empty in
    let has : HasPartTile start node loads.points = subst (λ (o : Option Files). Tells (λ f. HasPartTile f node loads.points) o) told loads.tile in
    tells-more (λ (f : Files). f (work_tile_name A node.line.key) ≡ Some (tile points)) (λ f. IsTaken start f node) (λ f is. (loads.points, has, is ∙ ap (λ (w : List Point). Some (tile w)) all)) after there

pub one-intact : (rules : Rules) (files : Files) (node : PartNode) → ¬ IsTileDamaged rules files node.octants node.line → AreIntact rules files (node ∷ [])
one-intact rules files node intact n (inl is) = subst (λ (x : PartNode). ¬ IsTileDamaged rules files x.octants x.line) is intact
one-intact rules files node intact n (inr m) = absurd m
