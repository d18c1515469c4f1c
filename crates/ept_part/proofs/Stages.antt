-- The part is sound in each image while it is put: its gate is shut, then its files change, then its gate is opened.
use Rattle.std.proofs.Common.{◌≡◌, ◌≢◌, ◌∙◌, inl, inr, ℕ, List, [], ◌∷◌, map, refl, sym, subst, arith, Option, Some, None}
use Rattle.std.specs.Prelude.{Result, Ok, Err, OnOk}
use Rattle.ept_base.specs.Files.{Files, SameFiles, SameBut, Puts, Tells, StepsBy}
use Rattle.ept_base.specs.Moves.{Moves, IsSettled}
use Rattle.ept_base.proofs.Changing.{changed_same}
use Rattle.ept_base.proofs.Moving.{moves_weaker, moves_both}
use Rattle.ept_point.specs.declared.point.Point.{Point}
use Rattle.ept_space.specs.VoxelKey.{VoxelKey}
use Rattle.ept_ckpt.specs.declared.checkpoint.Checkpoint.{Checkpoint}
use Rattle.ept_ckpt.specs.Body.{body}
use Rattle.ept_ckpt.specs.Facts.{facts}
use Rattle.ept_table.specs.Octree.{Branch}
use Rattle.ept_publish.specs.Publishing.{PutsAll}
use Rattle.ept_publish.proofs.Putting.{puts-more}
use Rattle.ept_save.specs.Gates.{IsOpen}
use Rattle.ept_save.proofs.Moving.{moves_where}
use Rattle.ept_save.proofs.Standing.{open_or_not, tells_some, settled_some}
use Rattle.ept_part.specs.Names.{part_gate, part_body, part_tile, IsPartName}
use Rattle.ept_part.specs.Files.{HasPart, IsPartSound, ChangesPart}
use Rattle.ept_part.specs.Filling.{tile_file, filling, Fills}
use Rattle.ept_part.proofs.PartNames.{gate-named, body-named, tile-named, body-gate, tile-gate}
use Rattle.ept_part.proofs.PartFiles.{part-same}

-- ---- which names change

gate-changes : (octants : ℕ) (a b : Files) → SameBut (part_gate octants) a b → ChangesPart octants a b
gate-changes octants a b same name not =
    same name (λ is. not (subst (λ (w : List ℕ). IsPartName octants w) (sym is) (gate-named octants)))

fills-changes : (octants : ℕ) (a b : Files) → Fills octants a b → ChangesPart octants a b
fills-changes octants a b fills name not = fills name (λ both. not both.1)

inner-fills : (octants : ℕ) (name : List ℕ) → name ≢ part_gate octants → IsPartName octants name → (a b : Files) → SameBut name a b → Fills octants a b
inner-fills octants name no_gate part a b same other not =
    same other (λ is. not ((λ e. no_gate (sym is ∙ e)), subst (λ (w : List ℕ). IsPartName octants w) (sym is) part))

fills_both : (octants : ℕ) (a b c : Files) → Fills octants a b → Fills octants b c → Fills octants a c
fills_both octants a b c first second name not = second name not ∙ first name not

changes-both : (octants : ℕ) (a b c : Files) → ChangesPart octants a b → ChangesPart octants b c → ChangesPart octants a c
changes-both octants a b c first second name not = second name not ∙ first name not

-- the part stays while its gate changes
pub opened-part : (shelf : Files) (octants : ℕ) (c : Checkpoint) (points : List Point) (old new : Option Files) → StepsBy (SameBut (part_gate octants)) old new → Tells (λ f. HasPart shelf f octants c points) old → Tells (λ f. HasPart shelf f octants c points) new
opened-part shelf octants c points None None step has = tt
opened-part shelf octants c points None (Some new) step has = absurd step
opened-part shelf octants c points (Some old) None step has = absurd step
opened-part shelf octants c points (Some old) (Some new) step has = part-same shelf old new octants c points (λ name part no_gate. step name no_gate) has

-- the tiles were put, and then the body
pub filled : {E : Type 0} (result : Result (Unit {0}) E) (octants : ℕ) (nodes : List Branch) (c : Checkpoint) (old mid new : Option Files) → StepsBy (PutsAll (map (tile_file octants) nodes)) old mid → OnOk result (StepsBy (Puts (part_body octants) (body (facts c))) mid new) → OnOk result (StepsBy (PutsAll (filling octants nodes c)) old new)
filled (Ok u) octants nodes c old mid new tiles its = puts-more (map (tile_file octants) nodes) (filling octants nodes c) (part_body octants) (body (facts c)) refl old mid new tiles its
filled (Err e) octants nodes c old mid new tiles its = tt

-- once the byte 1 was put, it is open
gate_told : (gate : List ℕ) (old new : Option Files) → StepsBy (Puts gate (1 ∷ [])) old new → Tells (λ f. IsOpen f gate) new
gate_told gate None None step = tt
gate_told gate None (Some new) step = absurd step
gate_told gate (Some old) None step = tt
gate_told gate (Some old) (Some new) step = step gate ∙ changed_same old gate (Some (1 ∷ []))

pub opened-gate : {E : Type 0} (gate : List ℕ) (result : Result (Unit {0}) E) (old new : Option Files) → OnOk result (StepsBy (Puts gate (1 ∷ [])) old new) → OnOk result (Tells (λ f. IsOpen f gate) new)
opened-gate gate (Ok u) old new step = gate_told gate old new step
opened-gate gate (Err e) old new step = tt

-- what holds of what is read holds of each image of a settled store
settled-all : (Has : Files → Type 0) → ((a b : Files) → SameFiles a b → Has a → Has b) → (files : Option Files) (images : Files → Type 0) → Tells Has files → IsSettled files images → (image : Files) → images image → Has image
settled-all Has alike None images has settled image may = absurd (settled image may)
settled-all Has alike (Some f) images has settled image may = alike f image (settled image may) has

module _ {D : Type 0} (files : D → Option Files) (may_leave : D → Files → Type 0) (moment : D → ℕ) (image_since : D → ℕ → Files → Type 0) (octants : ℕ) where
  abbrev gate : List ℕ
  gate = part_gate octants

  abbrev Stays : (Files → Files → Type 0) → D → D → Type 0
  Stays step old new = Moves files may_leave moment image_since step old new

  -- ---- the folder

  pub gate-folder : (old new : D) → Stays (SameBut gate) old new → Stays (ChangesPart octants) old new
  gate-folder old new = moves_weaker files may_leave moment image_since (SameBut gate) (ChangesPart octants) (gate-changes octants) old new

  pub fills-folder : (old new : D) → Stays (Fills octants) old new → Stays (ChangesPart octants) old new
  fills-folder old new = moves_weaker files may_leave moment image_since (Fills octants) (ChangesPart octants) (fills-changes octants) old new

  pub folder-both : (old mid new : D) → Stays (ChangesPart octants) old mid → Stays (ChangesPart octants) mid new → Stays (ChangesPart octants) old new
  folder-both old mid new =
      moves_both files may_leave moment image_since (ChangesPart octants) (ChangesPart octants) (ChangesPart octants) (changes-both octants) (λ a b changes. changes) old mid new

  -- ---- all but the gate

  pub fills-none : (d : D) → Stays (Fills octants) d d
  fills-none d = record {
    reads = same_reads (files d);
    leaves = λ image may. (image, may, λ name not. refl);
    later = omega arith;
    moments = λ t image le since. inl since;
  }
    where
      same_reads : (now : Option Files) → StepsBy (Fills octants) now now
      same_reads None = tt
      same_reads (Some all) = λ name not. refl

  pub fills-both : (old mid new : D) → Stays (Fills octants) old mid → Stays (Fills octants) mid new → Stays (Fills octants) old new
  fills-both old mid new =
      moves_both files may_leave moment image_since (Fills octants) (Fills octants) (Fills octants) (fills_both octants) (λ a b fills. fills) old mid new

  pub tile-fills : (key : VoxelKey) (old new : D) → Stays (SameBut (part_tile octants key)) old new → Stays (Fills octants) old new
  tile-fills key old new =
      moves_weaker files may_leave moment image_since (SameBut (part_tile octants key)) (Fills octants) (inner-fills octants (part_tile octants key) (tile-gate octants key) (tile-named octants key)) old new

  pub body-fills : (old new : D) → Stays (SameBut (part_body octants)) old new → Stays (Fills octants) old new
  body-fills old new =
      moves_weaker files may_leave moment image_since (SameBut (part_body octants)) (Fills octants) (inner-fills octants (part_body octants) (body-gate octants) (body-named octants)) old new

  -- ---- the part is sound

  module _ (shelf : Files) where
    abbrev Own : Files → Files → Type 0
    Own old new = IsPartSound shelf new octants

    pub own-both : (old mid new : D) → Stays Own old mid → Stays Own mid new → Stays Own old new
    own-both old mid new =
        moves_both files may_leave moment image_since Own Own Own (λ a b c first second. second) (λ a b first. first) old mid new

    -- the gate is closed
    pub close-own : (old new : D) (start : Files) → files old ≡ Some start → IsSettled (files old) (may_leave old) → IsPartSound shelf start octants → Stays (SameBut gate) old new
        → ((all : Files) → files old ≡ Some all → ¬ IsOpen all gate → Stays SameFiles old new) → Stays Own old new
    close-own old new start told settled sound moved stood = elim (open_or_not start gate) [
      | inl is_it ↦ (
          let it = sound is_it in
          moves_where files may_leave moment image_since (λ f. SameFiles start f) (SameBut gate) Own
          (λ a b same changes now. (it.0, it.1, part-same shelf start b octants it.0 it.1 (λ name part no_gate. changes name no_gate ∙ same name) it.2)) old new
          (tells_some (λ f. SameFiles start f) (files old) start told (λ name. refl))
          (λ image may. settled_some (files old) (may_leave old) start told settled image may) moved)
      | inr shut ↦
          moves_where files may_leave moment image_since (λ f. ¬ IsOpen f gate) SameFiles Own
          (λ a b was same now. absurd (was (sym (same gate) ∙ now))) old new
          (tells_some (λ f. ¬ IsOpen f gate) (files old) start told shut)
          (λ image may now. shut (sym (settled_some (files old) (may_leave old) start told settled image may gate) ∙ now)) (stood start told shut)
    ]

    -- other files change while it is shut
    pub fill-own : (old new : D) → Tells (λ f. ¬ IsOpen f gate) (files old) → IsSettled (files old) (may_leave old) → Stays (Fills octants) old new → Stays Own old new
    fill-own old new shut settled moved =
        moves_where files may_leave moment image_since (λ f. ¬ IsOpen f gate) (Fills octants) Own
        (λ a b was fills now. absurd (was (sym (fills gate (λ both. both.0 refl)) ∙ now))) old new shut
        (settled-all (λ f. ¬ IsOpen f gate) (λ a b same was now. was (sym (same gate) ∙ now)) (files old) (may_leave old) shut settled) moved

    -- and it is opened when all of it is flushed
    pub open-own : (old new : D) (c : Checkpoint) (points : List Point) → Tells (λ f. HasPart shelf f octants c points) (files old) → IsSettled (files old) (may_leave old) → Stays (SameBut gate) old new → Stays Own old new
    open-own old new c points has settled moved =
        moves_where files may_leave moment image_since (λ f. HasPart shelf f octants c points) (SameBut gate) Own
        (λ a b its changes now. (c, points, part-same shelf a b octants c points (λ name part no_gate. changes name no_gate) its)) old new has
        (settled-all (λ f. HasPart shelf f octants c points) (λ a b same its. part-same shelf a b octants c points (λ name part no_gate. same name) its) (files old) (may_leave old) has settled) moved
