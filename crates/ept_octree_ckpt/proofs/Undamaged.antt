-- Tiles of the current checkpoint that are not damaged, from call to call.
use Rattle.std.proofs.Common.{◌≡◌, ◌∙◌, ◌⊎◌, inl, inr, ℕ, ◌+◌, ◌<◌, ◌≤◌, List, [], ◌∷◌, ◌++◌, take, drop, length, get_or, sym, subst, arith, Option, Some, None, ap}
use Rattle.std.proofs.lemmas.List.{take-append-drop, length-take-le}
use Rattle.std.specs.Option.{option_map}
use Rattle.ept_base.specs.Files.{Files, SameFiles, SameBut, StepsBy, Tells}
use Rattle.ept_space.specs.VoxelKey.{VoxelKey}
use Rattle.ept_sample.specs.Members.{IsMember}
use Rattle.ept_ckpt.specs.declared.letter.Letter.{Letter}
use Rattle.ept_ckpt.specs.declared.node_line.NodeLine.{NodeLine}
use Rattle.ept_ckpt.specs.declared.checkpoint.Checkpoint.{Checkpoint}
use Rattle.ept_ckpt.specs.Versions.{layout_of}
use Rattle.ept_meta.specs.Output.{rules_of}
use Rattle.ept_save.specs.Names.{gate_name}
use Rattle.ept_save.specs.Current.{Current, IsNamed, Keeps, tile_of_line}
use Rattle.ept_save.specs.Loading.{current_line, IsDamaged, IsDamagedLine, HasNoDamage}
use Rattle.ept_save.specs.Opening.{lines_of}
use Rattle.ept_save.proofs.NamesDiffer.{gate-tile}
use Rattle.ept_save.proofs.Standing.{stepped}
use Rattle.ept_save.proofs.KeyLines.{take-next, drop-next}
use Rattle.ept_save.proofs.DamagedTiles.{line-stands, line-named, damaged-before}
use Rattle.ept_octree_ckpt.specs.Loaded.{AreIntact, IsFirstDamaged}
use Rattle.ept_octree_ckpt.proofs.Lining.{tells-back, tells-both, some-same, at-current}
use Rattle.ept_octree_ckpt.proofs.SavedTo.{found-line, line-is}

-- ---- line by line

pub none-intact : (current : Current) (files : Option Files) → Tells (AreIntact current []) files
none-intact current None = tt
none-intact current (Some all) = λ line m. absurd m

in_front : (lines : List NodeLine) (last line : NodeLine) → IsMember line (lines ++ last ∷ []) → IsMember line lines ⊎ (last ≡ line)
in_front [] last line (inl is) = inr is
in_front [] last line (inr m) = absurd m
in_front (l ∷ ls) last line (inl is) = inl (inl is)
in_front (l ∷ ls) last line (inr m) = elim (in_front ls last line m) [
  | inl front ↦ inl (inr front)
  | inr is ↦ inr is
]

intact_more : (current : Current) (lines : List NodeLine) (last : NodeLine) (files : Files) → AreIntact current lines files → ¬ IsDamaged current last.key files → AreIntact current (lines ++ last ∷ []) files
intact_more current lines last files front here line m = elim (in_front lines last line m) [
  | inl before ↦ front line before
  | inr is ↦ subst (λ (l : NodeLine). ¬ IsDamaged current l.key files) is here
]

-- with the next line, whose tile was read where nothing has changed
pub intact-next : (current : Current) (items : List NodeLine) (i : ℕ) (line : NodeLine) → i < length items → get_or items i line ≡ line → (old mid : Option Files) → StepsBy SameFiles old mid → Tells (AreIntact current (take i items)) old → Tells (λ all. ¬ IsDamaged current line.key all) mid → Tells (AreIntact current (take (i + 1) items)) old
intact-next current items i line inside is old mid same front here =
    subst (λ (w : List NodeLine). Tells (AreIntact current w) old) (take-next items i line inside is)
    (tells-both (AreIntact current (take i items)) (λ all. ¬ IsDamaged current line.key all) (AreIntact current (take i items ++ line ∷ [])) (intact_more current (take i items) line) old front
    (tells-back (λ all. ¬ IsDamaged current line.key all) (λ all. ¬ IsDamaged current line.key all) (λ was now step none damaged. none (damaged-before current line.key now was (λ l found. sym (step (tile_of_line l))) damaged)) old mid same here))

-- with all lines of the current checkpoint none of its tiles is
pub all-intact : (current : Current) (c : Checkpoint) → option_map (λ (at : Letter × Checkpoint). at.1) current ≡ Some c → (files : Files) → AreIntact current c.nodes files → HasNoDamage current files
all-intact current c is files intact key has damaged =
    let at = found-line current key (λ d line. IsDamagedLine (layout_of d.version) (rules_of d.kept) line files) damaged in
    let line : NodeLine = at.1 in
    intact line (member current is at.2) (subst (λ (k : VoxelKey). IsDamaged current k files) (sym (line-is current key line at.2)) damaged)
  where
    member : (now : Current) → option_map (λ (at : Letter × Checkpoint). at.1) now ≡ Some c → {line : NodeLine} → current_line now key ≡ Some line → IsMember line c.nodes
    member None is {line} found = absurd (cc)
    member (Some (letter, d)) is {line} found = subst (λ (e : Checkpoint). IsMember line e.nodes) (some-same d c is) (line-stands d.nodes key line found)

-- its lines are those of the checkpoint
lines_are : (current : Current) (c : Checkpoint) → option_map (λ (at : Letter × Checkpoint). at.1) current ≡ Some c → lines_of current ≡ c.nodes
lines_are current c is = let at = at-current current c is in ap lines_of at.1 ∙ ap (λ (d : Checkpoint). d.nodes) at.2

-- the next line names a damaged tile, and has a slot
pub first-damaged : (current : Current) (c : Checkpoint) → option_map (λ (at : Letter × Checkpoint). at.1) current ≡ Some c → (items : List NodeLine) → items ≡ c.nodes → (i : ℕ) (line : NodeLine) → i < length items → get_or items i line ≡ line → (slots : ℕ) → i < slots → (key : VoxelKey) → line.key ≡ key → (files : Files) → IsDamaged current key files → AreIntact current (take i items) files → IsFirstDamaged current slots key files
first-damaged current c is_current items same i line inside is slots low key key_is files damaged before =
    let count : length (take i items) ≡ i = length-take-le i items (let most : i ≤ length items = omega (arith, inside) in most) in
    record {
      slot = record {
        front = take i items;
        line = line;
        rest = drop (i + 1) items;
        lines = lines_are current c is_current ∙ (sym same ∙ (sym (take-append-drop i items) ∙ ap (λ (w : List NodeLine). take i items ++ w) (drop-next items i line inside is)));
        few = omega (arith, count, low);
        key_is = key_is;
      };
      damaged = damaged;
      before = before;
    }

-- the lines before one that has no slot
pub front-intact : (current : Current) (c : Checkpoint) (items : List NodeLine) → items ≡ c.nodes → (i most : ℕ) → i ≡ most → (files : Option Files) → Tells (AreIntact current (take i items)) files → Tells (AreIntact current (take most c.nodes)) files
front-intact current c items same i most is files intact =
    subst (λ (w : List NodeLine). Tells (AreIntact current (take most w)) files) same (subst (λ (n : ℕ). Tells (AreIntact current (take n items)) files) is intact)

-- without a checkpoint there is none
pub none-named : (current : Current) (files : Option Files) → current ≡ None → Tells (HasNoDamage current) files
none-named current None is = tt
none-named current (Some all) is = λ key has damaged. subst (λ (c : Current). IsDamaged c key all) is damaged

-- ---- from call to call

pub undamaged_where : (current : Current) (old new : Files) → ((line : NodeLine) → IsNamed current (tile_of_line line) → new (tile_of_line line) ≡ old (tile_of_line line)) → HasNoDamage current old → HasNoDamage current new
undamaged_where current old new same none key has damaged =
    none key has (damaged-before current key old new (λ line found. same line (line-named current key line found)) damaged)

-- where the current checkpoint is kept, its tiles are
pub keeps-undamaged : (current : Current) (all : Files) (old mid : Option Files) → StepsBy (Keeps current) old mid → old ≡ Some all → HasNoDamage current all → (now : Files) × (mid ≡ Some now) × HasNoDamage current now
keeps-undamaged current all old mid keeps told none =
    let at = stepped (Keeps current) old mid all told keeps in
    (at.0, at.1, undamaged_where current all at.0 (λ line named. at.2.tiles (tile_of_line line) named) none)

-- and where no name but a gate changes
pub gate-undamaged : (current : Current) (letter : Letter) (all : Files) (old mid : Option Files) → StepsBy (SameBut (gate_name letter)) old mid → old ≡ Some all → HasNoDamage current all → (now : Files) × (mid ≡ Some now) × HasNoDamage current now
gate-undamaged current letter all old mid same told none =
    let at = stepped (SameBut (gate_name letter)) old mid all told same in
    (at.0, at.1, undamaged_where current all at.0 (λ line named. at.2 (tile_of_line line) (λ e. gate-tile letter line.letter line.key (sym e))) none)

-- ---- a tile that is reported as damaged

-- where the current checkpoint is kept, its tile stays damaged
pub damaged-kept : (current : Current) (key : VoxelKey) (old new : Option Files) → StepsBy (Keeps current) old new → Tells (IsDamaged current key) old → Tells (IsDamaged current key) new
damaged-kept current key None None keeps is = tt
damaged-kept current key None (Some b) keeps is = absurd keeps
damaged-kept current key (Some a) None keeps is = absurd keeps
damaged-kept current key (Some a) (Some b) keeps is =
    damaged-before current key b a (λ line found. sym (keeps.tiles (tile_of_line line) (line-named current key line found))) is
